-- `change_trial` meets its contract: where one of the change's own conditions holds it decides, else 11. Assumes nothing.
use mathlib.Core.Path.{sym, ◌∙◌}
use Rattle.table.specs.Trials.{trial_in}
use Rattle.table.proofs.Trying.{held_before, free_before}
use Rattle.table.proofs.Filing.{not_accepted}
use Rattle.table.proofs.change_trial.Goals as goal

pub returns-in-Refused : goal.returns-in-Refused
unfolding trial_in
returns-in-Refused c = let own = sym c.in-Refused.is ∙ c.own_trial-own.ensures in
    own ∙ held_before _ _ (λ z. not_accepted (own ∙ z))

pub returns : goal.returns
unfolding trial_in
returns c = c.room_trial.ensures ∙ free_before _ _ (sym c.own_trial-own.ensures ∙ c.in_default.is)
