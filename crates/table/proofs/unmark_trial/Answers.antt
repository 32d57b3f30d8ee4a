-- `unmark_trial` meets its contract: the conditions are tried in their order. Assumes nothing.
use mathlib.Core.Path.{sym, ap, ◌∙◌}
use mathlib.Core.Bool.{not}
use borrow.Author.Tests.{lt-ltb, le-ltb, le-leb, lt-leb}
use Rattle.plain.specs.Refusals.{beyond}
use Rattle.table.specs.declared.Trial.TheVariants.{Accepted, Refused}
use Rattle.table.specs.Trials.{unmark_conditions}
use Rattle.table.proofs.Trying.{stop, skip, none_held}
use Rattle.table.proofs.unmark_trial.Goals as goal

pub returns-then-kinds-kind : goal.returns-then-kinds-kind
unfolding unmark_conditions
returns-then-kinds-kind c = stop 4 _ _ (lt-ltb _ _ c.if-kinds-kind.true)

pub returns-then-size-state : goal.returns-then-size-state
unfolding unmark_conditions beyond
returns-then-size-state c = skip (Refused 6) 4 _ _ (le-ltb _ _ c.if-kinds-kind.false) (stop 6 _ _ (le-leb _ _ c.if-size-state.true))

pub returns-then-not-carries : goal.returns-then-not-carries
unfolding unmark_conditions beyond
returns-then-not-carries c = skip (Refused 14) 4 _ _ (le-ltb _ _ c.if-kinds-kind.false) (skip (Refused 14) 6 _ _ (lt-leb _ _ c.if-size-state.false) (stop 14 _ _ (ap not (sym c.carries.ensures ∙ c.if-not-carries.true))))

pub returns : goal.returns
unfolding unmark_conditions beyond
returns c = skip Accepted 4 _ _ (le-ltb _ _ c.if-kinds-kind.false) (skip Accepted 6 _ _ (lt-leb _ _ c.if-size-state.false) (skip Accepted 14 _ _ (ap not (sym c.carries.ensures ∙ c.if-not-carries.false)) none_held))
