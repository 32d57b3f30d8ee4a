-- A walk along a list of numbers, one move of two numbers a turn, and one along the states. Assumes nothing.
use mathlib.Core.Path.{◌≡◌, refl, sym, ap, ◌∙◌}
use mathlib.Core.Logic.{⊎_elim}
use mathlib.Core.Bool.{Bool, true, false, ◌&&◌, ◌||◌}
use mathlib.Core.List.{List, [], ◌∷◌, ◌++◌}
use Prim.Native.Nat.{ℕ, zero, suc, ◌+◌, ◌/◌, ◌%◌, ◌≤◌, ◌<◌}
use native.Mathlib.Numerals.{add-one}
use native.Mathlib.Omega.{arith}
use lib.Dec.{eqb, leb}
use lib.ListN.{length, get_or}
use borrow.Author.Tests.{le-leb, lt-leb, eqb-true, eqb-false}
use Rattle.plain.specs.Lists.{any, any_below}
use Rattle.plain.specs.Search.{Edge}
use Rattle.plain.specs.Table.{carried_by}
use Rattle.plain.specs.Refusals.{pairs, outside}
use Rattle.plain.proofs.Tests.{or_first, or_second, or_neither, any_head, either}
use Rattle.table.specs.Trials.{bad_mark}

-- the move of two numbers
abbrev pub move_of : List ℕ → Edge
move_of ns = (get_or ns 0 0, get_or ns 1 0)

-- a list that begins with two numbers begins with their move
pub pairs_next : (ns two rest : List ℕ) (n : ℕ) → (ns ≡ two ++ rest) × (length two ≡ n) → n ≡ 2 → pairs ns ≡ move_of two ∷ pairs rest
unfolding pairs
pairs_next ns two rest n parts e = ap pairs parts.0 ∙ first two (parts.1 ∙ e)
  where
    first : (xs : List ℕ) → length xs ≡ 2 → pairs (xs ++ rest) ≡ move_of xs ∷ pairs rest
    first [] h = absurd (omega arith)
    first (a ∷ []) h = absurd (omega arith)
    first (a ∷ b ∷ []) h = refl
    first (a ∷ b ∷ c ∷ xs) h = absurd (omega arith)

-- an even count of numbers makes half as many moves
pub pairs_half : (ns : List ℕ) → (length ns % 2 ≡ 1 → ⊥) → length (pairs ns) ≡ length ns / 2
unfolding pairs
pairs_half [] e = refl
pairs_half (a ∷ []) e = absurd (e refl)
pairs_half (a ∷ b ∷ ns) e = omega (arith, pairs_half ns (λ z. e (omega arith)))

short : (ns : List ℕ) → length ns ≤ 1 → pairs ns ≡ []
unfolding pairs
short [] h = refl
short (a ∷ []) h = refl
short (a ∷ b ∷ ns) h = absurd (omega arith)

pub pairs_end : (ns : List ℕ) (n : ℕ) → length ns < n → n ≡ 2 → pairs ns ≡ []
pairs_end ns n h e = short ns (omega arith)

-- does a move pass the test? now at two numbers and the rest
module _ (p : Edge → Bool) (ns two rest : List ℕ) (n : ℕ) (parts : (ns ≡ two ++ rest) × (length two ≡ n)) (e : n ≡ 2) where
  pub any_here : p (move_of two) ≡ true → any p (pairs ns) ≡ true
  any_here h = ap (any p) (pairs_next ns two rest n parts e) ∙ any_head p (move_of two) (pairs rest) h

  pub any_on : p (move_of two) ≡ false → any p (pairs rest) ≡ any p (pairs ns)
  unfolding any
  any_on h = sym (ap (any p) (pairs_next ns two rest n parts e) ∙ ap (λ (b : Bool). b || any p (pairs rest)) h)

pub any_end : (p : Edge → Bool) (ns : List ℕ) (n : ℕ) → length ns < n → n ≡ 2 → any p (pairs ns) ≡ false
unfolding any
any_end p ns n h e = ap (any p) (pairs_end ns n h e)

-- a move from a number that is not below n
pub outside_from : (a b n : ℕ) → n ≤ a → outside n (a, b) ≡ true
unfolding outside
outside_from a b n h = or_first (leb n a) (leb n b) (le-leb n a h)

-- does a number below some other pass the test?
module _ (p : ℕ → Bool) where
  pub some_below : (n s : ℕ) → s < n → p s ≡ true → any_below n p ≡ true
  unfolding any_below
  some_below zero s h e = absurd (omega arith)
  some_below (suc n) s h e = ⊎_elim
      (λ z. let at : s ≡ n = eqb-true s n z in or_first (p n) (any_below n p) (rw (← at) e))
      (λ z. let not_at = eqb-false s n z in or_second (p n) (any_below n p) (some_below n s (omega arith) e)) (either (eqb s n))

  pub none_more : (s : ℕ) → any_below s p ≡ false → p s ≡ false → any_below (s + 1) p ≡ false
  unfolding any_below
  none_more s none e = rw add-one (or_neither (p s) (any_below s p) e none)

-- a mark of a number not below n, or of a kind not below k
module _ (n k : ℕ) (marks : List (List ℕ)) (kind s : ℕ) where
  pub mark_far : carried_by marks kind s ≡ true → n ≤ s → bad_mark n k marks kind s ≡ true
  mark_far e h = rw (le-leb n s h) e

  pub mark_unused : carried_by marks kind s ≡ true → k ≤ kind → bad_mark n k marks kind s ≡ true
  mark_unused e h = rw (or_second (leb n s) (leb k kind) (le-leb k kind h)) e

  pub mark_fine : s < n → kind < k → bad_mark n k marks kind s ≡ false
  mark_fine h j = rw (lt-leb n s h, lt-leb k kind j)

  pub mark_unset : carried_by marks kind s ≡ false → bad_mark n k marks kind s ≡ false
  mark_unset e = rw e (and_no (leb n s || leb k kind))
    where
      and_no : (b : Bool) → (b && false) ≡ false
      and_no true = refl
      and_no false = refl
