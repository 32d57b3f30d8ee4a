-- `cut_trial` meets its contract: the conditions are tried in their order. Assumes nothing.
use mathlib.Core.Path.{sym, ap, ◌∙◌}
use mathlib.Core.Bool.{not}
use Rattle.table.specs.declared.Trial.TheVariants.{Accepted, Refused}
use Rattle.table.specs.Trials.{cut_conditions}
use Rattle.table.proofs.Trying.{stop, skip, none_held}
use Rattle.table.proofs.cut_trial.Goals as goal

pub returns-then-is_outside : goal.returns-then-is_outside
unfolding cut_conditions
returns-then-is_outside c = stop 6 _ _ (sym c.is_outside.ensures ∙ c.if-is_outside.true)

pub returns-then-not-is_there : goal.returns-then-not-is_there
unfolding cut_conditions
returns-then-not-is_there c = skip (Refused 10) 6 _ _ (sym c.is_outside.ensures ∙ c.if-is_outside.false) (stop 10 _ _ (ap not (sym c.is_there.ensures ∙ c.if-not-is_there.true)))

pub returns : goal.returns
unfolding cut_conditions
returns c = skip Accepted 6 _ _ (sym c.is_outside.ensures ∙ c.if-is_outside.false)
    (skip Accepted 10 _ _ (ap not (sym c.is_there.ensures ∙ c.if-not-is_there.false)) none_held)
