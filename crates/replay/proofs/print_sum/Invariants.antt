-- `print_sum` is safe: the tail is at most 65,536 for each entry passed. Assumes nothing.
use Prim.Native.Nat.{◌+◌, ◌*◌, ◌≤◌, ◌<◌}
use Rattle.replay.proofs.print_sum.Given as goal

abbrev pub invariant-loop-i : goal.invariant-loop-i
invariant-loop-i l = (l.tail + 65536 * l.i ≤ 65536 * 600) × (l.sum < 65521)
