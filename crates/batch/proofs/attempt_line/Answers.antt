-- `attempt_line` meets its contract. Assumes nothing.
use mathlib.Core.Path.{◌≡◌, sym, ◌∙◌}
use mathlib.Core.Bool.{Bool, true, false, not}
use borrow.Author.Tests.{not-true}
use Rattle.plain.proofs.Tests.{and-true}
use Rattle.batch.specs.declared.BatchLine.{BatchLine}
use Rattle.batch.specs.Batches.{is_change, misnamed_in, is_valid}
use Rattle.batch.proofs.Batches.{attempt_invalid, attempt_late, attempt_made}
use Rattle.batch.proofs.attempt_line.Goals as goal

pub returns-then-not-is_valid : goal.returns-then-not-is_valid
returns-then-not-is_valid c = attempt_invalid c.args.line _ _ _ _ _ (sym c.is_valid.ensures ∙ c.if-not-is_valid.true)

-- it makes a change, and its kind is one
parts : (l : BatchLine) (valid : Bool) → valid ≡ is_valid l → valid ≡ true → (is_change l ≡ true) × (misnamed_in l ≡ false)
unfolding is_valid
parts l valid is e = let w = and-true (is_change l) (not (misnamed_in l)) (sym is ∙ e) in (w.0, not-true (misnamed_in l) w.1)

pub returns-then-position-gt-CHANGES : goal.returns-then-position-gt-CHANGES
returns-then-position-gt-CHANGES c =
    let w = parts c.args.line _ c.is_valid.ensures c.if-not-is_valid.false in
    attempt_late c.args.line _ _ _ _ _ w.0 w.1 c.if-position-gt-CHANGES.true

pub returns : goal.returns
returns c =
    let w = parts c.args.line _ c.is_valid.ensures c.if-not-is_valid.false in
    attempt_made c.args.line _ _ _ _ _ w.0 c.switch_in.result c.switch_in.ensures w.1 c.if-position-gt-CHANGES.false _ _ c.attempt_change.ensures
