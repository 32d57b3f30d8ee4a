-- `search` meets its contract: each turn is a level, and what is left comes to what the whole search does. Assumes nothing.
use mathlib.Core.Path.{refl, sym, ◌∙◌}
use Rattle.shortest.proofs.Searching.{left_begins, left_empty, left_ends, left_halts, left_goes_on}
use Rattle.shortest.proofs.search.Goals as goal

pub loop-depth-init : goal.loop-depth-init
loop-depth-init c = (c.note-tail.ensures.noted.sized, left_begins _ _ _ _ _ _ _ _ _ _ _ _ _ c.note-tail.ensures.spent_kept refl c.note-tail.ensures.noted)

pub returns-then-from-tail : goal.returns-then-from-tail
returns-then-from-tail c = left_empty _ _ _ _ _ _ _ _ _ _ _ c.loop-depth.invariant.1 c.loop-depth.invariant.0 c.if-from-tail.true

pub returns-then-not-goes_on : goal.returns-then-not-goes_on
returns-then-not-goes_on c = left_halts _ _ _ _ _ _ _ _ _ _ _ c.loop-depth.invariant.1 c.loop-depth-test.true _ _ c.look_level-r.ensures (sym c.goes_on.ensures ∙ c.if-not-goes_on.true)

pub loop-depth-preserved : goal.loop-depth-preserved
loop-depth-preserved c = (c.look_level-r.ensures.sized, left_goes_on _ _ _ _ _ _ _ _ _ _ _ c.loop-depth.invariant.1 c.loop-depth-test.true _ _ c.look_level-r.ensures (sym c.goes_on.ensures ∙ c.if-not-goes_on.false))

pub returns : goal.returns
returns c = left_ends _ _ _ _ _ _ _ _ _ _ _ c.loop-depth.invariant.1 c.loop-depth.invariant.0 c.loop-depth-test.false
