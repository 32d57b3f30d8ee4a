-- Ticket 10: the packed marks where another count of kinds is in use. Bits are cleared one after the other, and those that stay are the marks that stay. Assumes nothing.
use mathlib.Core.Path.{◌≡◌, refl, sym, ap, ◌∙◌}
use mathlib.Core.Bool.{true, false}
use mathlib.Core.List.{List}
use Prim.Native.Nat.{ℕ, suc, ◌+◌, ◌*◌, ◌-◌, ◌/◌, ◌%◌, ◌≤◌, ◌<◌, min}
use native.Mathlib.Decide.{dec_lt}
use native.Mathlib.Nat.{min-le_left, min-eq_left, min-eq_right, mul-le-mul_right}
use native.Mathlib.Omega.{arith}
use lib.ListN.{length, get_or-eq_default}
use Rattle.plain.specs.Table.{accepts, bit, carried_by, without_mark}
use Rattle.plain.specs.Machine.{up_to_kind}
use Rattle.plain.specs.Layers.{copy, layer_of, state_of}
use Rattle.plain.proofs.Tests.{not-true}
use Rattle.plain.proofs.Bits.{bit_of_zero}
use Rattle.plain.proofs.Words.{accepts_unmarked, accepts_unmarked_other}
use Rattle.plain.proofs.NewKinds.{carried_kept}
use Rattle.plain.proofs.Copies.{copy_back, layer_most}
use Rattle.plain.proofs.LayerSizes.{copy_below, state_small}
use Rattle.layers.specs.Packed.{Packed, ClearedFrom}
use Rattle.layers.proofs.Marking.{unmarked_length, packed_bit}

-- ---- bits cleared one after the other

-- a bit past the last word is none
past_words : (words : List ℕ) (v : ℕ) → length words ≤ v / 64 → accepts words v ≡ false
unfolding accepts
past_words words v h = ap (bit (v % 64)) (get_or-eq_default words 0 h) ∙ bit_of_zero (v % 64)

cleared_here : (words : List ℕ) (v : ℕ) → accepts (without_mark words v) v ≡ false
cleared_here words v = by_length (dec_lt (v / 64) (length words))
  where
    by_length : Dec (v / 64 < length words) → accepts (without_mark words v) v ≡ false
    by_length (yes h) = accepts_unmarked words v h
    by_length (no h) = past_words (without_mark words v) v (omega (arith, unmarked_length words v))

-- those from the first up to v are cleared, and no other
pub record ClearedTo (first v : ℕ) (words words' : List ℕ) : Type 0 where
  pub from : first ≤ v
  pub same_size : length words' ≡ length words
  pub before : (x : ℕ) → x < first → accepts words' x ≡ accepts words x
  pub cleared : (x : ℕ) → first ≤ x → x < v → accepts words' x ≡ false

pub cleared_none : (first : ℕ) (words : List ℕ) → ClearedTo first first words words
cleared_none first words = record { from = omega arith; same_size = refl; before = λ x h. refl; cleared = λ x h g. absurd (omega arith) }

module _ (first v : ℕ) (words words' : List ℕ) (c : ClearedTo first v words words') where
  pub cleared_one : ClearedTo first (v + 1) words (without_mark words' v)
  cleared_one = record {
    from = omega (arith, c.from);
    same_size = unmarked_length words' v ∙ c.same_size;
    before = λ x h. accepts_unmarked_other words' v x (λ z. omega (arith, c.from)) ∙ c.before x h;
    cleared = λ x h g. by_place x h g (dec_lt x v);
  }
    where
      by_place : (x : ℕ) → first ≤ x → x < v + 1 → Dec (x < v) → accepts (without_mark words' v) x ≡ false
      by_place x h g (yes low) = accepts_unmarked_other words' v x (λ z. omega arith) ∙ c.cleared x h low
      by_place x h g (no high) = let z : x ≡ v = omega arith in rw z (cleared_here words' v)

  pub cleared_all : 512 ≤ v → ClearedFrom first words words'
  cleared_all h = record { same_size = c.same_size; before = c.before; behind = λ x g low. c.cleared x g (omega arith) }

-- ---- the marks that stay

below_both : (l k j : ℕ) → l < k → l < j → l < min k j
below_both l k j h g = by_order (dec_lt k j)
  where
    by_order : Dec (k < j) → l < min k j
    by_order (yes less) = let z : min k j ≡ k = min-eq_left (omega arith) in rw z h
    by_order (no more) = let z : min k j ≡ j = min-eq_right (omega arith) in rw z g

-- Of a game of n states: the words hold the marks of k kinds, and no state carries another. Where all bits but those of the kinds up to j are cleared, they hold the marks up to kind j.
module _ (n k j : ℕ) (marks : List (List ℕ)) (words words' : List ℕ) (some : 0 < j) (few : j ≤ 4) (fits : j * n ≤ 512)
    (none : (kind s : ℕ) → kind < 4 → s < 512 → carried_by marks kind s ≡ true → kind < k) (p : Packed n k marks words) (c : ClearedFrom (min k j * n) words words') where
  -- the bit of a state's copy in a layer
  copy_bit : (l s : ℕ) → l < j → s < n → accepts words' (copy n l s) ≡ carried_by marks l s
  unfolding copy
  copy_bit l s low inside = by_kind (dec_lt l k)
    where
      there : copy n l s < 512
      there = omega (arith, copy_below n j l s low inside)

      by_kind : Dec (l < k) → accepts words' (copy n l s) ≡ carried_by marks l s
      by_kind (yes h) = c.before (copy n l s) (copy_below n (min k j) l s (below_both l k j h low) inside) ∙ packed_bit n k marks words l s h inside p
      by_kind (no h) =
          let above : min k j * n ≤ l * n = mul-le-mul_right n (omega (arith, min-le_left k j)) in
          c.behind (copy n l s) (omega arith) there ∙ sym (not-true (carried_by marks l s) (λ e. h (none l s (omega arith) (omega (arith, there)) e)))

  pub packed_kinds : Packed n j (up_to_kind j marks) words'
  packed_kinds = record {
    words_size = c.same_size ∙ p.words_size;
    bits_are = λ v h.
        let l = layer_of n (j - 1) v in
        let s = state_of n (j - 1) v in
        let low : l < j = omega (arith, layer_most n (j - 1) v) in
        let all : suc (j - 1) ≡ j = omega arith in
        let inside : s < n = state_small n (j - 1) v (rw all h) in
        ap (accepts words') (sym (copy_back n (j - 1) v)) ∙ copy_bit l s low inside ∙ sym (carried_kept j marks l s low);
  }
