-- `look_level` meets its contract: each turn is a state of the level, and what is left of the level comes to what the whole does. Assumes nothing.
use borrow.Author.Rules.{rules}
use mathlib.Core.Path.{sym, ◌∙◌}
use Rattle.shortest.proofs.Levels.{left_begins, left_ends, left_halts, left_goes_on}
use Rattle.shortest.proofs.look_level.Goals as goal

pub loop-i-init : goal.loop-i-init
loop-i-init c = (record { queue_size = search rules; seen_size = search rules }, left_begins _ _ _ _ _ _ _)

pub returns-then-not-goes_on : goal.returns-then-not-goes_on
returns-then-not-goes_on c = left_halts _ _ _ _ _ _ _ _ _ _ c.loop-i.invariant.1 c.loop-i-test.true _ c.get-v.ensures _ _ c.look_through-r.ensures (sym c.goes_on.ensures ∙ c.if-not-goes_on.true)

pub loop-i-preserved : goal.loop-i-preserved
loop-i-preserved c = (c.look_through-r.ensures.sized, left_goes_on _ _ _ _ _ _ _ _ _ _ c.loop-i.invariant.1 c.loop-i-test.true _ c.get-v.ensures _ _ c.look_through-r.ensures (sym c.goes_on.ensures ∙ c.if-not-goes_on.false))

pub returns : goal.returns
returns c = left_ends _ _ _ _ _ _ _ _ _ _ c.loop-i.invariant.1 c.loop-i.invariant.0 c.loop-i-test.false
