-- `try_lengths` meets its contract: each turn is a length, and those that are left come to what all do. Assumes nothing.
use borrow.Author.Rules.{rules}
use mathlib.Core.Path.{sym, ◌∙◌}
use native.Mathlib.Omega.{arith}
use Rattle.shortest.proofs.Trying.{lengths_begin, lengths_end, lengths_halt, lengths_go_on}
use Rattle.shortest.proofs.try_lengths.Goals as goal

pub loop-ruled_out-init : goal.loop-ruled_out-init
loop-ruled_out-init c = (search rules, omega arith, lengths_begin _ _ _ _ _ _)

pub returns-then-not-goes_on : goal.returns-then-not-goes_on
returns-then-not-goes_on c = lengths_halt _ _ _ _ _ _ _ _ c.loop-ruled_out.invariant.2 c.loop-ruled_out-test.true _ _ _ c.try_length-r.ensures (sym c.goes_on.ensures ∙ c.if-not-goes_on.true) _ c.lengths_at.ensures

pub loop-ruled_out-preserved : goal.loop-ruled_out-preserved
loop-ruled_out-preserved c = (
  c.try_length-r.ensures.queue_size,
  omega (arith, c.loop-ruled_out-test.true),
  lengths_go_on _ _ _ _ _ _ _ _ c.loop-ruled_out.invariant.2 c.loop-ruled_out-test.true _ _ _ c.try_length-r.ensures (sym c.goes_on.ensures ∙ c.if-not-goes_on.false),
)

pub returns : goal.returns
returns c = lengths_end _ _ _ _ _ _ _ _ c.loop-ruled_out.invariant.2 c.loop-ruled_out-test.false c.loop-ruled_out.invariant.1 _ c.further.ensures
