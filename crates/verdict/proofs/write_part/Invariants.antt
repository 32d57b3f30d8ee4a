-- `write_part` meets its contract: the first i entries are written. Assumes nothing.
use Rattle.std.proofs.Common.{◌≡◌}
use Rattle.verdict.proofs.Writing.{over}
use Rattle.verdict.proofs.write_part.Given as goal

abbrev pub invariant-loop-i : goal.invariant-loop-i
invariant-loop-i l = l.out ≡ over l.i l.part l.initial.out
