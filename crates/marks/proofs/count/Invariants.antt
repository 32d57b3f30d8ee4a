-- `marks::count` meets its contract: after i words the sum is the ones of the first i. Assumes nothing.
use mathlib.Core.Path.{◌≡◌}
use Rattle.marks.proofs.Counts.{joined_at, total}
use Rattle.marks.proofs.count.Given as goal

abbrev pub invariant-loop-i : goal.invariant-loop-i
invariant-loop-i l = l.sum ≡ total (joined_at l.marks) l.i
