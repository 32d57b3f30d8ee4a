-- `ahead_trial` meets its contract. Assumes nothing.
use mathlib.Core.Path.{sym, ◌∙◌}
use borrow.Author.Tests.{eq-eqb, ne_eqb}
use Rattle.batch.specs.Batches.{ahead_trial}
use Rattle.table.proofs.Trying.{stop, skip}
use Rattle.batch.proofs.ahead_trial.Goals as goal

pub returns-then-is_some : goal.returns-then-is_some
unfolding ahead_trial
returns-then-is_some c = rw (sym c.is_some.ensures ∙ c.if-is_some.true)

pub returns-then-size-eq0 : goal.returns-then-size-eq0
unfolding ahead_trial
returns-then-size-eq0 c = rw (sym c.is_some.ensures ∙ c.if-is_some.false) (stop 2 _ _ (eq-eqb _ 0 c.if-size-eq0.true))

pub returns : goal.returns
unfolding ahead_trial
returns c = rw (sym c.is_some.ensures ∙ c.if-is_some.false) (skip _ 2 _ _ (ne_eqb _ 0 c.if-size-eq0.false) c.room_trial.ensures)
