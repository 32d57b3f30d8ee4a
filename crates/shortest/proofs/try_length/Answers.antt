-- `try_length` meets its contract: each turn is a root, and those that are left come to what all do. Assumes nothing.
use borrow.Author.Rules.{rules}
use mathlib.Core.Path.{sym, ◌∙◌}
use Rattle.shortest.proofs.Trying.{left_begins, left_ends, left_halts, left_goes_on}
use Rattle.shortest.proofs.try_length.Goals as goal

pub loop-i-init : goal.loop-i-init
loop-i-init c = (search rules, left_begins _ _ _ _ _ _ _)

pub returns-then-not-goes_on : goal.returns-then-not-goes_on
returns-then-not-goes_on c = left_halts _ _ _ _ _ _ _ _ _ c.loop-i.invariant.1 c.loop-i-test.true _ c.get-s.ensures _ _ c.search-r.ensures (sym c.goes_on.ensures ∙ c.if-not-goes_on.true)

pub loop-i-preserved : goal.loop-i-preserved
loop-i-preserved c = (
  c.search-r.ensures.sized.queue_size,
  left_goes_on _ _ _ _ _ _ _ _ _ c.loop-i.invariant.1 c.loop-i-test.true _ c.get-s.ensures _ _ c.search-r.ensures (sym c.goes_on.ensures ∙ c.if-not-goes_on.false),
)

pub returns : goal.returns
returns c = left_ends _ _ _ _ _ _ _ _ _ c.loop-i.invariant.1 _ c.loop-i.invariant.0 c.loop-i-test.false
