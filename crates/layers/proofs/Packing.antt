-- The marks of the kinds, packed one state of the layers after the other. Assumes nothing.
use mathlib.Core.Path.{◌≡◌, refl, sym, ap, ◌∙◌}
use mathlib.Core.Logic.{◌≢◌}
use mathlib.Core.Bool.{Bool, true, false}
use mathlib.Core.List.{List}
use Prim.Native.Nat.{ℕ, suc, ◌+◌, ◌*◌, ◌-◌, ◌/◌, ◌%◌, ◌≤◌, ◌<◌}
use native.Mathlib.Nat.{suc-mul, lt_of_mul-lt-mul_right}
use native.Mathlib.Omega.{arith}
use lib.ListN.{length, replicate}
use borrow.Author.Count.{below_more}
use Rattle.plain.specs.Table.{accepts, bit, by_kind, carried_by, with_mark}
use Rattle.plain.specs.Layers.{copy, layer_of, state_of}
use Rattle.plain.proofs.Bits.{bit_of_zero}
use Rattle.plain.proofs.Words.{accepts_marked_other, carried_flat}
use Rattle.plain.proofs.Copies.{copy_first, layer_copy, state_copy}
use Rattle.rows.proofs.Empty.{reads_same}
use Rattle.layers.specs.Packed.{Packed}
use Rattle.layers.proofs.Marking.{marked_length, marked_here}

-- v is the copy of s in a layer, and `first` the place of the first mark of its kind.
pub record Copied (n v s first : ℕ) : Type 0 where
  pub layer : ℕ
  pub is : v ≡ copy n layer s
  pub marks_from : first ≡ 512 * layer
  pub inside : s < n

-- the first copy
pub copied_first : (n : ℕ) → 0 < n → Copied n 0 0 0
copied_first n h = record { layer = 0; is = sym (copy_first n 0); marks_from = omega arith; inside = h }

module _ (n v s first : ℕ) (r : Copied n v s first) where
  -- the next, in the same layer
  pub copied_on : s + 1 ≢ n → Copied n (v + 1) (s + 1) first
  unfolding copy
  copied_on more = record { layer = r.layer; is = omega (arith, r.is); marks_from = r.marks_from; inside = omega (arith, r.inside) }

  -- or the first of the next layer
  pub copied_up : s + 1 ≡ n → Copied n (v + 1) 0 (first + 512)
  unfolding copy
  copied_up end = record {
    layer = suc r.layer;
    is = omega (arith, r.is, suc-mul r.layer n);
    marks_from = omega (arith, r.marks_from);
    inside = omega arith;
  }

  -- the layer of a state of the layers is one of the kinds
  pub layer_low : (k : ℕ) → v < k * n → r.layer < k
  unfolding copy
  layer_low k there = lt_of_mul-lt-mul_right n (omega (arith, r.is))

-- the mark that the bit of x is to be
abbrev pub mark_of : ℕ → ℕ → List ℕ → ℕ → Bool
mark_of n k ws x = carried_by (by_kind ws) (layer_of n (k - 1) x) (state_of n (k - 1) x)

-- the mark that is read for v is the one that its bit is to be
pub mark_read : (n v s first : ℕ) (r : Copied n v s first) (k : ℕ) → k ≤ 4 → k * n ≤ 512 → v < k * n → (ws : List ℕ) → accepts ws (first + s) ≡ mark_of n k ws v
unfolding copy
mark_read n v s first r k few fits there ws =
    let low : r.layer < k = layer_low n v s first r k there in
    let place : first + s ≡ 512 * r.layer + s = omega (arith, r.marks_from) in
    let layer : layer_of n (k - 1) v ≡ r.layer = ap (layer_of n (k - 1)) r.is ∙ layer_copy n (k - 1) r.layer s (omega arith) r.inside in
    let state : state_of n (k - 1) v ≡ s = ap (state_of n (k - 1)) r.is ∙ state_copy n (k - 1) r.layer s (omega arith) r.inside in
    ap (accepts ws) place ∙ sym (carried_flat ws r.layer s (omega arith) (omega (arith, r.is)))
    ∙ sym (λ i. carried_by (by_kind ws) (layer i) (state i))

-- the bits below v are packed, and no other is set
pub record PackedBelow (n k : ℕ) (ws words : List ℕ) (v : ℕ) : Type 0 where
  pub words_size : length words ≡ 8
  pub within : v ≤ k * n
  pub packed : (x : ℕ) → x < v → accepts words x ≡ mark_of n k ws x
  pub clear : (x : ℕ) → v ≤ x → accepts words x ≡ false

-- no bit is set yet
pub packed_none : (n k : ℕ) (ws : List ℕ) → PackedBelow n k ws (replicate 8 0) 0
unfolding accepts
packed_none n k ws = record {
  words_size = refl;
  within = omega arith;
  packed = λ x h. absurd (omega arith);
  clear = λ x h. ap (bit (x % 64)) (reads_same 8 (x / 64) 0) ∙ bit_of_zero (x % 64);
}

module _ (n k : ℕ) (ws words : List ℕ) (v : ℕ) (p : PackedBelow n k ws words v) where
  module _ (there : v < k * n) where
    -- the bit of v is set
    pub packed_set : k * n ≤ 512 → mark_of n k ws v ≡ true → PackedBelow n k ws (with_mark words v) (v + 1)
    packed_set fits e = record {
      words_size = marked_length words v ∙ p.words_size;
      within = omega arith;
      packed = below_more _ v (λ x h. accepts_marked_other words v x (λ z. omega arith) ∙ p.packed x h) (marked_here words v (omega (arith, p.words_size)) ∙ sym e);
      clear = λ x h. accepts_marked_other words v x (λ z. omega arith) ∙ p.clear x (omega arith);
    }

    -- or is left as it is
    pub packed_kept : mark_of n k ws v ≡ false → PackedBelow n k ws words (v + 1)
    packed_kept e = record {
      words_size = p.words_size;
      within = omega arith;
      packed = below_more _ v p.packed (p.clear v (omega arith) ∙ sym e);
      clear = λ x h. p.clear x (omega arith);
    }

  -- the bits of all states of the layers
  pub packed_all : k * n ≤ v → Packed n k (by_kind ws) words
  packed_all end = record { words_size = p.words_size; bits_are = λ x h. p.packed x (omega arith) }
