-- `mark_trial` meets its contract: the conditions are tried in their order. Assumes nothing.
use mathlib.Core.Path.{sym, ◌∙◌}
use borrow.Author.Tests.{lt-ltb, le-ltb, le-leb, lt-leb}
use Rattle.plain.specs.Refusals.{beyond}
use Rattle.table.specs.declared.Trial.TheVariants.{Accepted, Refused}
use Rattle.table.specs.Trials.{mark_conditions}
use Rattle.table.proofs.Trying.{stop, skip, none_held}
use Rattle.table.proofs.mark_trial.Goals as goal

pub returns-then-kinds-kind : goal.returns-then-kinds-kind
unfolding mark_conditions
returns-then-kinds-kind c = stop 4 _ _ (lt-ltb _ _ c.if-kinds-kind.true)

pub returns-then-size-state : goal.returns-then-size-state
unfolding mark_conditions beyond
returns-then-size-state c = skip (Refused 6) 4 _ _ (le-ltb _ _ c.if-kinds-kind.false) (stop 6 _ _ (le-leb _ _ c.if-size-state.true))

pub returns-then-carries : goal.returns-then-carries
unfolding mark_conditions beyond
returns-then-carries c = skip (Refused 13) 4 _ _ (le-ltb _ _ c.if-kinds-kind.false) (skip (Refused 13) 6 _ _ (lt-leb _ _ c.if-size-state.false) (stop 13 _ _ (sym c.carries.ensures ∙ c.if-carries.true)))

pub returns : goal.returns
unfolding mark_conditions beyond
returns c = skip Accepted 4 _ _ (le-ltb _ _ c.if-kinds-kind.false) (skip Accepted 6 _ _ (lt-leb _ _ c.if-size-state.false) (skip Accepted 13 _ _ (sym c.carries.ensures ∙ c.if-carries.false) none_held))
