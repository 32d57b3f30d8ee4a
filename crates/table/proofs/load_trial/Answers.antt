-- `load_trial` meets its contract. Assumes nothing.
use mathlib.Core.Path.{sym, ◌∙◌}
use Rattle.table.proofs.Filing.{not_accepted, tried_early, may_be_filed, tried_twice, tried_filed}
use Rattle.table.proofs.load_trial.Goals as goal

pub returns-in-Refused : goal.returns-in-Refused
returns-in-Refused c = tried_early _ _ _ _ _ _ _ (sym c.in-Refused.is ∙ c.early_trial-early.ensures) _ _ not_accepted

pub file_all-requires : goal.file_all-requires
file_all-requires c = may_be_filed c.args.size c.args.start c.args.kinds c.args.marks.now c.args.numbers.now c.args.room _
    c.early_trial-early.ensures c.in_default.is _ _ c.requires

pub returns-then-file_all : goal.returns-then-file_all
returns-then-file_all c = tried_twice _ _ _ _ _ _ _ c.early_trial-early.ensures c.in_default.is c.file_all.result _ _ c.file_all.ensures c.if-file_all.true

pub returns : goal.returns
returns c = tried_filed _ _ _ _ _ _ _ c.early_trial-early.ensures c.in_default.is c.file_all.result _ _ c.file_all.ensures c.if-file_all.false _ c.room_trial.ensures
