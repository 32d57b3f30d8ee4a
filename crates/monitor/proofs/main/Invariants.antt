-- `main` is safe and ends, and writes what the plain definition prints: behind the lines of what was read so far, the lead, what is lent beside it and the session
-- stand for what is held behind their records. The arrays keep their lengths, and each line takes off what may still come. Assumes nothing.
use mathlib.Core.Path.{◌≡◌}
use lib.ListN.{length}
use Rattle.lead.specs.Asked.{numbers_most}
use Rattle.watch.specs.Text.{room}
use Rattle.watch.specs.Model.{lines_most}
use Rattle.watch.proofs.Steps.{lent_to, Tracks}
use Rattle.console.proofs.Printing.{Between}
use Rattle.monitor.proofs.main.Given as goal

abbrev pub invariant-loop-input : goal.invariant-loop-input
invariant-loop-input l = (length l.numbers ≡ numbers_most) × (length l.walk ≡ room) × (length l.lines ≡ lines_most) × Between l.r l.held l.buf (Tracks l.lead (lent_to l.marks l.numbers) l.c.session)

abbrev pub decreases-loop-input : goal.decreases-loop-input
decreases-loop-input l = l.r.left
