-- `attempt_lines` meets its contract: what is left of the lines comes to what all of them come to. Assumes nothing.
use Prim.Native.Nat.{◌-◌}
use Rattle.batch.specs.Batches.{numbers_in}
use Rattle.batch.proofs.Batches.{Walked}
use Rattle.batch.proofs.attempt_lines.Given as goal

abbrev pub invariant-loop-at : goal.invariant-loop-at
invariant-loop-at l = Walked (numbers_in l.alone l.lines) l.size l.kinds l.room l.initial.arrays l.at l.position l.arrays

abbrev pub decreases-loop-at : goal.decreases-loop-at
decreases-loop-at l = l.end - l.at
