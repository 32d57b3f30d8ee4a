-- `update_in` meets its contract: a refusal, or the table's arrays changed and the search settled. Assumes nothing.
use Rattle.session.proofs.Changing.{updated_refused, updated_accepted}
use Rattle.session.proofs.update_in.Goals as goal

pub returns-in-Refused : goal.returns-in-Refused
returns-in-Refused c = updated_refused _ _ _ _ _ _ _ _ _ c.attempt_call-attempt.result _ c.in-Refused.n _ c.attempt_call-attempt.ensures c.in-Refused.is c.refused.ensures

pub returns : goal.returns
returns c = updated_accepted _ _ _ _ _ _ _ _ _ c.attempt_call-attempt.result _ c.where_to_resume-from.result _ _ _
    c.attempt_call-attempt.ensures c.in_default.is c.where_to_resume-from.ensures c.settle.ensures
