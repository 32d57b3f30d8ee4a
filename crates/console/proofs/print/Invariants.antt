-- `print` is safe and ends: each write takes at least one byte. Assumes nothing.
use lib.ListN.{length}
use Rattle.console.proofs.print.Given as goal

abbrev pub decreases-loop-rest : goal.decreases-loop-rest
decreases-loop-rest l = length l.rest
