-- `put` meets its contract. Assumes nothing.
use Rattle.std.proofs.Common.{ℕ, set, sym, ap, arith}
use lib.Seq.{set_out}
use Rattle.look.proofs.put.Goals as goal

pub returns-then-i-lt-STATES : goal.returns-then-i-lt-STATES
returns-then-i-lt-STATES c = ap (λ (i : ℕ). set c.args.a.now i c.args.x) c.wide-i.ensures.0

pub returns-else-i-lt-STATES : goal.returns-else-i-lt-STATES
returns-else-i-lt-STATES c = sym (set_out c.args.a.now c.args.v c.args.x (omega arith))
