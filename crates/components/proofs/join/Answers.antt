-- `join` meets its contract: the groups that are left join to what all do. Assumes nothing.
use mathlib.Core.Path.{◌∙◌}
use mathlib.Core.Bool.{true, false}
use borrow.Author.Tests.{lt-ltb, le-ltb}
use Rattle.components.proofs.Laws.{join_last, join_next}
use Rattle.components.proofs.join.Goals as goal

pub returns-then-get-x : goal.returns-then-get-x
returns-then-get-x c = join_next _ _ _ _ c.loop-n-test.true c.get.ensures false (le-ltb _ _ c.if-get-x.true) ∙ c.loop-n.invariant

pub loop-n-preserved : goal.loop-n-preserved
loop-n-preserved c = join_next _ _ _ _ c.loop-n-test.true c.get.ensures true (lt-ltb _ _ c.if-get-x.false) ∙ c.loop-n.invariant

pub returns : goal.returns
returns c = join_last _ _ _ c.loop-n-test.false ∙ c.loop-n.invariant
