-- `pack` meets its contract: the bits below v are packed, and v is the copy that the turn stands at. Assumes nothing.
use Rattle.layers.proofs.Packing.{Copied, PackedBelow}
use Rattle.layers.proofs.pack.Given as goal

abbrev pub invariant-loop-v : goal.invariant-loop-v
invariant-loop-v l = PackedBelow l.size l.kinds l.marks l.words l.v × Copied l.size l.v l.s l.first
