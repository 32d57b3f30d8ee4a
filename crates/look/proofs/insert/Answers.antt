-- `insert` meets its contract. Assumes nothing.
use Rattle.std.proofs.Common.{ℕ, true, set, sym, ap, arith}
use lib.Seq.{set_out}
use Rattle.look.proofs.insert.Goals as goal

pub returns-then-i-lt-STATES : goal.returns-then-i-lt-STATES
returns-then-i-lt-STATES c = ap (λ (i : ℕ). set c.args.states.now i true) c.wide-i.ensures.0

pub returns-else-i-lt-STATES : goal.returns-else-i-lt-STATES
returns-else-i-lt-STATES c = sym (set_out c.args.states.now c.args.v true (omega arith))
