-- `lay_copies` meets its contract: the entries of the copies below v are written, and v is the copy that the turn stands at. Assumes nothing.
use Rattle.layers.proofs.Standing.{Stands}
use Rattle.layers.proofs.Laying.{Laid}
use Rattle.layers.proofs.lay_copies.Given as goal

abbrev pub invariant-loop-v : goal.invariant-loop-v
invariant-loop-v l = Laid l.size l.above l.starts l.words l.initial.layout.begins l.initial.layout.ends l.initial.layout.bases l.layout.begins l.layout.ends l.layout.bases l.v × Stands l.size l.above l.v l.s l.at l.left
