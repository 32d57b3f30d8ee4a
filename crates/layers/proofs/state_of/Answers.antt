-- `state_of` meets its contract: what is left of v, in what is left of the layers, has the same state. Assumes nothing.
use Rattle.std.proofs.Common.{◌≡◌, sym, ◌∙◌, arith, ◌+◌, ◌-◌}
use Rattle.layers.proofs.Standing.{state_here, state_down, state_ends}
use Rattle.layers.proofs.state_of.Goals as goal

pub returns-then-state-size : goal.returns-then-state-size
returns-then-state-size c = let l = c.loop-passed in
    sym (state_here c.args.size (c.args.above - l.passed) l.state (omega arith) (omega arith)) ∙ l.invariant

pub loop-passed-preserved : goal.loop-passed-preserved
loop-passed-preserved c = let l = c.loop-passed in
    let e : c.args.above - (l.passed + 1) ≡ c.args.above - l.passed - 1 = omega arith in
    rw e (sym (state_down c.args.size (c.args.above - l.passed) l.state (omega arith) (omega arith)) ∙ l.invariant)

pub returns : goal.returns
returns c = let l = c.loop-passed in
    sym (state_ends c.args.size (c.args.above - l.passed) l.state (omega arith)) ∙ l.invariant
