-- `contains` meets its contract. Assumes nothing.
use Rattle.std.proofs.Common.{ℕ, true, get_or, sym, ap, ◌∙◌, arith}
use lib.ListN.{get_or-eq_default}
use Rattle.look.proofs.Sets.{get_or_within}
use Rattle.look.proofs.contains.Goals as goal

pub returns-then-i-lt-STATES : goal.returns-then-i-lt-STATES
returns-then-i-lt-STATES c = let states = c.args.states.now in
    get_or_within states c.wide-i.result (omega arith) ∙ ap (λ (i : ℕ). get_or states i true) c.wide-i.ensures.0

pub returns-else-i-lt-STATES : goal.returns-else-i-lt-STATES
returns-else-i-lt-STATES c = sym (get_or-eq_default c.args.states.now true {n = c.args.v} (omega arith))
