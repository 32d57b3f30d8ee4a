-- `renumber` meets its contract: the states that are left, renumbered from here on, come to all of them. Assumes nothing.
use mathlib.Core.Path.{◌∙◌}
use Rattle.components.proofs.Laws.{renumber_ends, renumber_next}
use Rattle.components.proofs.renumber.Goals as goal

pub loop-i-preserved : goal.loop-i-preserved
loop-i-preserved c = renumber_next _ _ _ _ _ c.loop-i-test.true _ c.get.ensures _ c.put.ensures ∙ c.loop-i.invariant

pub returns : goal.returns
returns c = renumber_ends _ _ _ _ _ c.loop-i-test.false ∙ c.loop-i.invariant
