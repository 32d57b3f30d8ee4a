-- `find_roots` meets its contract: what the search has seen can be reached, and each turn files a state that is a root. Assumes nothing.
use borrow.Author.Rules.{rules}
use native.Mathlib.Omega.{arith}
use Rattle.shortest.proofs.Rooting.{filed_none, filed_size, filed_next, filed_end}
use Rattle.shortest.proofs.find_roots.Goals as goal

pub loop-s-init : goal.loop-s-init
loop-s-init c = (search rules, omega arith, filed_none _ _ _ _ _ _)

pub loop-s-preserved : goal.loop-s-preserved
loop-s-preserved c = (
  filed_size _ _ _ _ c.loop-s.invariant.0 _ _ c.file_root-count.ensures,
  omega (arith, c.loop-s-test.true),
  filed_next _ _ _ _ _ _ _ c.search.ensures _ _ _ c.loop-s.invariant.0 c.loop-s-test.true c.loop-s.invariant.2 _ _ c.file_root-count.ensures,
)

pub returns : goal.returns
returns c = filed_end _ _ _ _ _ _ _ c.search.ensures _ _ _ c.loop-s.invariant.0 c.loop-s-test.false c.loop-s.invariant.1 c.loop-s.invariant.2
