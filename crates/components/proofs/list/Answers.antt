-- `list` meets its contract: of the states passed, those on a round are marked and counted. Assumes nothing.
use mathlib.Core.Path.{◌∙◌}
use native.Mathlib.Omega.{arith}
use Rattle.components.proofs.Laws.{listed_none, listed_few, listed_one, listed_other, listed_end}
use Rattle.components.proofs.list.Goals as goal
use Rattle.components.proofs.list.Goals.{then-number-s, else-number-s}

pub loop-s-init : goal.loop-s-init
loop-s-init c = listed_none _

pub overflow_add-count : goal.overflow_add-count
overflow_add-count c = omega (arith, c.loop-s-test.true, listed_few _ _ _ _ c.loop-s.invariant)

pub loop-s-preserved : goal.loop-s-preserved
loop-s-preserved c = elim c.if-number-s.branch [
  | then-number-s w ↦ listed_one _ _ _ _ c.loop-s.invariant _ _ w.if-number-s.true (w.states-is ∙ w.set_mark.ensures) w.count-is
  | else-number-s w ↦ listed_other _ _ _ _ c.loop-s.invariant _ _ w.if-number-s.false w.states-is w.count-is
]

pub returns : goal.returns
returns c = listed_end _ _ _ _ c.loop-s.invariant (omega arith) c.loop-s-test.false
