-- `get` meets its contract. Assumes nothing.
use Rattle.std.proofs.Common.{sym, arith}
use Rattle.rows.proofs.Paste.{past, same_place}
use Rattle.look.proofs.get.Goals as goal

pub returns-then-i-lt-STATES : goal.returns-then-i-lt-STATES
returns-then-i-lt-STATES c = same_place c.args.a.now c.wide-i.ensures.0

pub returns-else-i-lt-STATES : goal.returns-else-i-lt-STATES
returns-else-i-lt-STATES c = sym (past c.args.a.now c.args.v (omega arith))
