-- The packed marks: each bit is a state's mark, and a mark that is set or cleared is a bit set or cleared. Assumes nothing.
use mathlib.Core.Path.{◌≡◌, sym, ◌∙◌}
use mathlib.Core.Logic.{◌≢◌, ⊎_elim}
use mathlib.Core.Bool.{Bool, true, false}
use mathlib.Core.List.{List, []}
use Prim.Native.Nat.{ℕ, ◌*◌, ◌-◌, ◌/◌, ◌≤◌, ◌<◌}
use native.Mathlib.Omega.{arith}
use lib.Dec.{eqb}
use lib.ListN.{length, get_or, length-set}
use borrow.Author.Tests.{eqb-false}
use Rattle.plain.specs.Table.{accepts, carried_by, with_mark, without_mark}
use Rattle.plain.specs.Machine.{in_kind}
use Rattle.plain.specs.Layers.{copy, layer_of, state_of}
use Rattle.plain.proofs.Tests.{either, same, self, or_first}
use Rattle.plain.proofs.Words.{accepts_marked, accepts_marked_other, accepts_unmarked, accepts_unmarked_other, carried_here, carried_other, carried_other_kind}
use Rattle.plain.proofs.Copies.{copy_back, layer_copy, state_copy}
use Rattle.plain.proofs.LayerSizes.{copy_below}
use Rattle.layers.specs.Packed.{Packed}

-- a mark keeps the count of words
pub marked_length : (ws : List ℕ) (x : ℕ) → length (with_mark ws x) ≡ length ws
unfolding with_mark
marked_length ws x = length-set ws (x / 64) _

-- and so does a mark that is cleared
pub unmarked_length : (ws : List ℕ) (x : ℕ) → length (without_mark ws x) ≡ length ws
unfolding without_mark
unmarked_length ws x = length-set ws (x / 64) _

-- a marked state pays
pub marked_here : (ws : List ℕ) (x : ℕ) → x / 64 < length ws → accepts (with_mark ws x) x ≡ true
marked_here ws x h = accepts_marked ws x h x ∙ or_first (eqb x x) (accepts ws x) (self x)

module _ (n k : ℕ) (marks : List (List ℕ)) (words : List ℕ) (kind s : ℕ) (low : kind < k) (state : s < n) where
  -- the state of the layers whose bit is the mark of s
  abbrev v : ℕ
  v = copy n kind s

  -- it is one of them
  there : v < k * n
  there = copy_below n k kind s low state

  -- what is told of the mark of s, told of its bit
  at_copy : (ms : List (List ℕ)) → carried_by ms (layer_of n (k - 1) v) (state_of n (k - 1) v) ≡ carried_by ms kind s
  at_copy ms = λ i. carried_by ms (layer_copy n (k - 1) kind s (omega arith) state i) (state_copy n (k - 1) kind s (omega arith) state i)

  -- the bit of the copy is the mark of the state
  pub packed_bit : Packed n k marks words → accepts words (copy n kind s) ≡ carried_by marks kind s
  packed_bit p = p.bits_are v there ∙ at_copy marks

  module _ (few : k ≤ 4) (fits : k * n ≤ 512) (four : length marks ≡ 4) (eight : (j : ℕ) → j < 4 → length (get_or marks j []) ≡ 8) (p : Packed n k marks words) where
    -- its copy is a number that has a word
    high : v < 512
    high = omega (arith, there)

    -- s is a state that has a word
    small : s < 512
    unfolding copy
    small = omega (arith, high)

    -- A change of one mark that leaves the others and makes it b: of the bit in the packed words, and of the mark of s in the kind's.
    module _ (f : List ℕ → ℕ → List ℕ) (b : Bool) (long : (ws : List ℕ) (x : ℕ) → length (f ws x) ≡ length ws) (here : (ws : List ℕ) (x : ℕ) → x / 64 < length ws → accepts (f ws x) x ≡ b) (others : (ws : List ℕ) (x y : ℕ) → y ≢ x → accepts (f ws x) y ≡ accepts ws y) where
      -- the marks of the kinds after the change
      abbrev changed : List (List ℕ)
      changed = in_kind kind (λ (ws : List ℕ). f ws s) marks

      -- the changed bit
      itself : accepts (f words v) v ≡ carried_by changed (layer_of n (k - 1) v) (state_of n (k - 1) v)
      itself =
          here words v (omega (arith, p.words_size, high))
          ∙ sym (at_copy changed ∙ carried_here marks kind (λ (ws : List ℕ). f ws s) (omega arith) s ∙ here (get_or marks kind []) s (omega (arith, eight kind (omega arith), small)))

      -- another number is the copy of another state, or in another layer
      another : (x : ℕ) → x ≢ v → carried_by changed (layer_of n (k - 1) x) (state_of n (k - 1) x) ≡ carried_by marks (layer_of n (k - 1) x) (state_of n (k - 1) x)
      another x ne = ⊎_elim
          (λ e. let y : layer_of n (k - 1) x ≡ kind = same e in carried_other marks kind (λ (ws : List ℕ). f ws s) s (λ ws y. others ws s y) (layer_of n (k - 1) x) (state_of n (k - 1) x)
          (λ z. ne (sym (copy_back n (k - 1) x) ∙ (λ i. copy n (y i) (z i)))))
          (λ e. carried_other_kind marks kind (λ (ws : List ℕ). f ws s) (layer_of n (k - 1) x) (state_of n (k - 1) x) (eqb-false (layer_of n (k - 1) x) kind e)) (either (eqb (layer_of n (k - 1) x) kind))

      -- both together
      packed_changed : Packed n k changed (f words v)
      packed_changed = record {
        words_size = long words v ∙ p.words_size;
        bits_are = λ x h. ⊎_elim
            (λ e. let z : x ≡ v = same e in rw z itself)
            (λ e. let z : x ≢ v = eqb-false x v e in others words v x z ∙ p.bits_are x h ∙ sym (another x z)) (either (eqb x v));
      }

    -- a mark is set
    pub packed_mark : Packed n k (in_kind kind (λ (ws : List ℕ). with_mark ws s) marks) (with_mark words (copy n kind s))
    packed_mark = packed_changed with_mark true marked_length marked_here accepts_marked_other

    -- a mark is cleared
    pub packed_unmark : Packed n k (in_kind kind (λ (ws : List ℕ). without_mark ws s) marks) (without_mark words (copy n kind s))
    packed_unmark = packed_changed without_mark false unmarked_length accepts_unmarked accepts_unmarked_other
