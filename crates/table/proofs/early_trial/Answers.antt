-- `early_trial` meets its contract: the conditions are tried in their order. Assumes nothing.
use mathlib.Core.Path.{◌≡◌, sym, ap, ◌∙◌}
use mathlib.Core.Bool.{Bool, false}
use mathlib.Core.List.{List, [], ◌∷◌}
use Prim.Native.Nat.{ℕ, ◌/◌, ◌%◌, ◌≤◌, ◌<◌}
use lib.ListN.{length}
use borrow.Author.Tests.{le-leb, lt-leb}
use Rattle.plain.specs.Lists.{any}
use Rattle.plain.specs.Table.{by_kind}
use Rattle.plain.specs.Refusals.{first_held, bad_start, bad_marks, bad_count, bad_kinds, outside, pairs}
use Rattle.plain.proofs.Tables.{count_fine}
use Rattle.table.specs.declared.Trial.{Trial}
use Rattle.table.specs.declared.Trial.TheVariants.{Accepted, Refused}
use Rattle.table.specs.Trials.{tried, early_trial}
use Rattle.table.proofs.Trying.{stop, skip, none_held, size_outside, size_fine, count_wrong}
use Rattle.table.proofs.Pairs.{pairs_half}
use Rattle.table.proofs.early_trial.Goals as goal

start_ok : (size start : ℕ) → start < size → bad_start size start ≡ false
unfolding bad_start
start_ok size start h = lt-leb _ _ h

pub returns-then-size-eq0 : goal.returns-then-size-eq0
unfolding early_trial
returns-then-size-eq0 c = stop 2 _ _ (size_outside _ c.then-size-eq0.either)

pub returns-then-size-start : goal.returns-then-size-start
unfolding early_trial bad_start
returns-then-size-start c = skip (Refused 3) _ _ _ (size_fine _ c.if-size-eq0.false c.if-size-gt-STATES.false) (stop 3 _ _ (le-leb _ _ c.if-size-start.true))

pub returns-then-marks_outside : goal.returns-then-marks_outside
unfolding early_trial
returns-then-marks_outside c = skip (Refused 4) _ _ _ (size_fine _ c.if-size-eq0.false c.if-size-gt-STATES.false)
    (skip (Refused 4) _ _ _ (start_ok _ _ c.if-size-start.false) (stop 4 _ _ (sym c.marks_outside.ensures ∙ c.if-marks_outside.true)))

-- the numbers of whole moves are two for each
halves : (kinds size : ℕ) (numbers : List ℕ) → (length numbers % 2 ≡ 1 → ⊥) → (r : Bool) → r ≡ bad_kinds kinds size (length numbers / 2)
    → bad_kinds kinds size (length (pairs numbers)) ≡ r
halves kinds size numbers even r is = ap (bad_kinds kinds size) (pairs_half numbers even) ∙ sym is

-- no condition before that of the count holds
module _ (size start kinds : ℕ) (marks numbers : List ℕ) (some : size ≡ 0 → ⊥) (few : size ≤ 512) (starts : start < size) (marked : Bool) (marks_are : marked ≡ bad_marks size kinds (by_kind marks)) (unmarked : marked ≡ false) (k : Trial) where
  -- the conditions behind that of the marks decide
  behind : k ≡ tried (first_held ((5, bad_count numbers) ∷ (16, bad_kinds kinds size (length (pairs numbers))) ∷ (6, any (outside size) (pairs numbers)) ∷ []))
      → k ≡ tried (early_trial size start kinds marks numbers)
  unfolding early_trial
  behind h = skip k 2 _ _ (size_fine size some few) (skip k 3 _ _ (start_ok size start starts) (skip k 4 _ _ (sym marks_are ∙ unmarked) h))

  module _ (even : length numbers % 2 ≡ 1 → ⊥) (short : length numbers ≤ 4096) where
    -- behind the condition of the count
    counted : k ≡ tried (first_held ((16, bad_kinds kinds size (length (pairs numbers))) ∷ (6, any (outside size) (pairs numbers)) ∷ []))
        → k ≡ tried (early_trial size start kinds marks numbers)
    counted h = behind (skip k 5 _ _ (count_fine numbers even short) h)

    -- the last condition decides
    last : (r : Bool) → r ≡ bad_kinds kinds size (length numbers / 2) → r ≡ false → k ≡ tried (first_held ((6, any (outside size) (pairs numbers)) ∷ [])) → k ≡ tried (early_trial size start kinds marks numbers)
    last r is e h = counted (skip k 16 _ _ (halves kinds size numbers even r is ∙ e) h)

pub returns-then-numbers-eq1 : goal.returns-then-numbers-eq1
returns-then-numbers-eq1 c = let a = c.args in
    behind a.size a.start a.kinds a.marks.now a.numbers.now c.if-size-eq0.false c.if-size-gt-STATES.false c.if-size-start.false _ c.marks_outside.ensures c.if-marks_outside.false (Refused 5)
    (stop 5 _ _ (count_wrong _ c.then-numbers-eq1.either))

pub returns-then-kinds_outside : goal.returns-then-kinds_outside
returns-then-kinds_outside c = let a = c.args in
    counted a.size a.start a.kinds a.marks.now a.numbers.now c.if-size-eq0.false c.if-size-gt-STATES.false c.if-size-start.false _ c.marks_outside.ensures c.if-marks_outside.false (Refused 16)
    c.if-numbers-eq1.false c.if-numbers-gt-NUMBERS.false
    (stop 16 _ _ (halves a.kinds a.size a.numbers.now c.if-numbers-eq1.false _ c.kinds_outside.ensures ∙ c.if-kinds_outside.true))

pub returns-then-any_outside : goal.returns-then-any_outside
returns-then-any_outside c = let a = c.args in
    last a.size a.start a.kinds a.marks.now a.numbers.now c.if-size-eq0.false c.if-size-gt-STATES.false c.if-size-start.false _ c.marks_outside.ensures c.if-marks_outside.false (Refused 6)
    c.if-numbers-eq1.false c.if-numbers-gt-NUMBERS.false _ c.kinds_outside.ensures c.if-kinds_outside.false
    (stop 6 _ _ (sym c.any_outside.ensures ∙ c.if-any_outside.true))

pub returns : goal.returns
returns c = let a = c.args in
    last a.size a.start a.kinds a.marks.now a.numbers.now c.if-size-eq0.false c.if-size-gt-STATES.false c.if-size-start.false _ c.marks_outside.ensures c.if-marks_outside.false Accepted
    c.if-numbers-eq1.false c.if-numbers-gt-NUMBERS.false _ c.kinds_outside.ensures c.if-kinds_outside.false
    (skip Accepted 6 _ _ (sym c.any_outside.ensures ∙ c.if-any_outside.false) none_held)
