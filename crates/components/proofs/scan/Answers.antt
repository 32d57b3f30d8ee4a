-- `scan` meets its contract: what is left of the row, with the groups that are left, comes to what the whole does. Assumes nothing.
use mathlib.Core.Path.{ap, ◌∙◌}
use native.Mathlib.Omega.{arith}
use Rattle.components.specs.Model.{within}
use Rattle.components.proofs.Laws.{scan_ends, scan_finds, scan_goes_on, scan_begins}
use Rattle.components.proofs.scan.Goals as goal

pub loop-at-init : goal.loop-at-init
loop-at-init c = record { begun = omega arith; left = scan_begins _ _ _ _ _ _ _ c.row_of-row.result c.row_of-row.ensures _ c.wide.ensures.0 }

pub returns-then-x : goal.returns-then-x
returns-then-x c = scan_finds _ _ _ _ _ _ _ c.loop-at.invariant.begun c.loop-at-test.true _ (ap within c.look-t.ensures.0) _ c.wide-in-loop-at.ensures.0 c.if-x.true ∙ c.loop-at.invariant.left

pub loop-at-preserved : goal.loop-at-preserved
loop-at-preserved c = record {
  begun = omega arith;
  left = scan_goes_on _ _ _ _ _ _ _ c.loop-at.invariant.begun c.loop-at-test.true _ (ap within c.look-t.ensures.0) _ c.wide-in-loop-at.ensures.0 c.if-x.false _ c.join-n.ensures ∙ c.loop-at.invariant.left;
}

pub returns : goal.returns
returns c = scan_ends _ _ _ _ _ _ _ c.loop-at-test.false ∙ c.loop-at.invariant.left
