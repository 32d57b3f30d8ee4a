-- `set_kinds_in` meets its contract: a refusal, or the marks that stay and a search from the start. Assumes nothing.
use Rattle.session.proofs.Changing.{kinds_refused, kinds_accepted}
use Rattle.session.proofs.set_kinds_in.Goals as goal

pub returns-in-Refused-clause-set : goal.returns-in-Refused-clause-set
returns-in-Refused-clause-set c = kinds_refused _ _ _ _ _ _ _ _ _ c.attempt_kinds-trial.result _ c.in-Refused.n _ c.attempt_kinds-trial.ensures c.in-Refused.is c.refused.ensures

pub returns-clause-set : goal.returns-clause-set
returns-clause-set c = kinds_accepted _ _ _ _ _ _ _ _ _ c.attempt_kinds-trial.result _ c.search_afresh.result _ _ c.attempt_kinds-trial.ensures c.in_default.is c.search_afresh.ensures
