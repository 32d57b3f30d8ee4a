-- `name_states` meets its contract: the first states stand in the list, and the others are those of what is left. Assumes nothing.
use Prim.Native.Nat.{◌-◌}
use Rattle.batch.specs.Batches.{numbers_in}
use Rattle.resumption.proofs.Lines.{Named}
use Rattle.resumption.proofs.name_states.Given as goal

abbrev pub invariant-loop-at : goal.invariant-loop-at
invariant-loop-at l = Named (numbers_in l.alone l.lines) l.states l.at l.n

abbrev pub decreases-loop-at : goal.decreases-loop-at
decreases-loop-at l = l.end - l.at
