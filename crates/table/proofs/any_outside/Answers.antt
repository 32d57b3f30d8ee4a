-- `any_outside` meets its contract: the moves of the rest of the list tell what the whole list tells. Assumes nothing.
use mathlib.Core.Path.{sym, ◌∙◌}
use Rattle.plain.specs.Refusals.{outside}
use Rattle.table.proofs.Pairs.{any_here, any_on, any_end}
use Rattle.table.proofs.any_outside.Goals as goal

pub returns-then-is_outside : goal.returns-then-is_outside
returns-then-is_outside c = let i = c.loop-edge.invariant in
    sym (any_here (outside c.args.size) _ _ _ _ c.in-Some.ensures.steps.1 i.0 (sym c.is_outside.ensures ∙ c.if-is_outside.true)) ∙ i.1

pub loop-edge-preserved : goal.loop-edge-preserved
loop-edge-preserved c = let i = c.loop-edge.invariant in
    let s = c.in-Some.ensures.steps in
    (s.0 ∙ i.0, any_on (outside c.args.size) _ _ _ _ s.1 i.0 (sym c.is_outside.ensures ∙ c.if-is_outside.false) ∙ i.1)

pub returns : goal.returns
returns c = let i = c.loop-edge.invariant in
    sym (any_end (outside c.args.size) _ _ c.in-None.ensures.steps.1.0 i.0) ∙ i.1
