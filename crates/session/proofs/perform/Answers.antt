-- `perform` meets its contract: each of the two that a call may ask for has its function. Assumes nothing.
use Rattle.session.proofs.Performing.{performed_update, performed_kinds}
use Rattle.session.proofs.perform.Goals as goal

pub returns-in-Update : goal.returns-in-Update
returns-in-Update c = performed_update _ c.in-Update.asked c.alone_line.result _ _ _ _ _ _ _ _ c.update_in.result _ _ _
    c.in-Update.is c.alone_line.ensures c.update_in.ensures

pub returns-in-Kinds : goal.returns-in-Kinds
returns-in-Kinds c = performed_kinds _ c.in-Kinds.new _ _ _ _ _ _ _ _ c.set_kinds_in.result _ _ _ c.in-Kinds.is c.set_kinds_in.ensures.set c.set_kinds_in.ensures.moves_kept
