-- `span` meets its contract, on each way. Assumes nothing.
use Rattle.std.proofs.Common.{sym}
use Rattle.look.proofs.Scans.{spanned_short, spanned_none, spanned_past}
use Rattle.look.proofs.span.Goals as goal

pub returns-then-stop-le-TARGETS : goal.returns-then-stop-le-TARGETS
returns-then-stop-le-TARGETS c = sym (spanned_short _ _ c.if-stop-le-TARGETS.true)

pub returns-else-stop-le-TARGETS : goal.returns-else-stop-le-TARGETS
returns-else-stop-le-TARGETS c = sym (spanned_past _ _ c.if-stop-le-TARGETS.false)

pub returns-else-from-stop : goal.returns-else-from-stop
returns-else-from-stop c = sym (spanned_none _ _ c.if-from-stop.false)
