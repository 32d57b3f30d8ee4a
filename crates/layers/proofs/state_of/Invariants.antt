-- `state_of` meets its contract: what is left of v, in what is left of the layers, has the same state. Assumes nothing.
use Rattle.std.proofs.Common.{◌≡◌, ◌-◌}
use Rattle.plain.specs.Layers.{state_of}
use Rattle.layers.proofs.state_of.Given as goal

abbrev pub invariant-loop-passed : goal.invariant-loop-passed
invariant-loop-passed l = state_of l.size (l.above - l.passed) l.state ≡ state_of l.size l.above l.v
