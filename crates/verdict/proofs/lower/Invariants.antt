-- `lower` meets its contract: the first entries are lowered. Assumes nothing.
use mathlib.Core.Path.{◌≡◌}
use mathlib.Core.List.{◌++◌, map}
use lib.ListN.{take, drop}
use Rattle.plain.specs.Layers.{state_of}
use Rattle.verdict.proofs.lower.Given as goal

abbrev pub invariant-loop-state : goal.invariant-loop-state
invariant-loop-state l = l.state-items ≡ map (state_of l.size l.above) (take l.state-index l.initial.state-items) ++ drop l.state-index l.initial.state-items
