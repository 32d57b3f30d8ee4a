-- `climb` meets its contract: what is counted and what is left to count make the whole. Assumes nothing.
use native.Mathlib.Omega.{arith}
use Rattle.search.proofs.Ways.{climb_ends, climb_goes_on, climb_stops}
use Rattle.search.proofs.rewind.climb.Goals as goal

pub returns-then-x-start : goal.returns-then-x-start
returns-then-x-start c = let a = c.args in
    climb_ends a.parent.now a.start c.loop-n.x c.loop-n.n _ c.loop-n.invariant c.loop-n-test.true c.if-x-start.true

pub loop-n-preserved : goal.loop-n-preserved
loop-n-preserved c = let a = c.args in
    climb_goes_on a.parent.now a.start c.loop-n.x c.loop-n.n _ c.loop-n.invariant _ c.loop-n-test.true c.if-x-start.false c.get-x.ensures

pub returns : goal.returns
returns c = let a = c.args in
    omega (arith, climb_stops a.parent.now a.start c.loop-n.x c.loop-n.n _ c.loop-n.invariant c.loop-n-test.false (omega arith))
