-- `finish` meets its contract: the test tells which way the model goes. Assumes nothing.
use mathlib.Core.Path.{sym, ◌∙◌}
use Rattle.search.proofs.Ways.{finish_nests, finish_leaves}
use Rattle.search.proofs.outer.finish.Goals as goal

pub returns-then-accepts : goal.returns-then-accepts
returns-then-accepts c = let a = c.args in
    finish_nests a.records.now.parent a.records.now.index a.w (sym c.accepts.ensures ∙ c.if-accepts.true)

pub returns : goal.returns
returns c = let a = c.args in
    finish_leaves a.records.now.parent a.records.now.index a.w _ c.leave.ensures (sym c.accepts.ensures ∙ c.if-accepts.false)
