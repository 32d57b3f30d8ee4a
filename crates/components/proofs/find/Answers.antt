-- `find` meets its contract: at each turn the arrays stand for groups, and at the end every state on a round is found. Assumes nothing.
use mathlib.Core.Path.{ap, ◌∙◌}
use native.Mathlib.Omega.{arith}
use Rattle.components.specs.Model.{found_of}
use Rattle.components.proofs.Finding.{at_first_lem, turned, ends}
use Rattle.components.proofs.find.Goals as goal

pub loop-stand-init : goal.loop-stand-init
loop-stand-init c = at_first_lem _ _ _ _ _ _ _ c.discover.ensures

pub loop-stand-smaller : goal.loop-stand-smaller
loop-stand-smaller c = (turned _ _ _ _ _ _ _ _ _ c.loop-stand.invariant (omega arith) c.advance.ensures).lighter

pub loop-stand-preserved : goal.loop-stand-preserved
loop-stand-preserved c = (turned _ _ _ _ _ _ _ _ _ c.loop-stand.invariant (omega arith) c.advance.ensures).at

pub returns : goal.returns
returns c = c.list.ensures ∙ ap found_of (ends _ _ _ _ _ _ _ _ c.loop-stand.invariant (omega arith))
