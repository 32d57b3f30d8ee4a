-- `count_edges` meets its contract: the moves of the rest of the list are still to be counted. Assumes nothing.
use mathlib.Core.Path.{sym, ap, ◌∙◌}
use Rattle.std.specs.Slice.Iter.{chunks_exact_rest}
use Rattle.plain.specs.Refusals.{pairs}
use Rattle.table.specs.Filing.{counted_all}
use Rattle.table.proofs.Counting.{counted_next, counted_end}
use Rattle.table.proofs.count_edges.Goals as goal

pub loop-edge-preserved : goal.loop-edge-preserved
loop-edge-preserved c = let i = c.loop-edge.invariant in
    let s = c.in-Some.ensures.steps in (
      s.0 ∙ i.0,
      ap (counted_all (pairs (chunks_exact_rest c.next.new.self))) c.count_edge.ensures ∙ sym (counted_next _ _ _ _ c.loop-edge.indegree s.1 i.0) ∙ i.1,
    )

pub returns : goal.returns
returns c = let i = c.loop-edge.invariant in
    sym (counted_end _ _ c.loop-edge.indegree c.in-None.ensures.steps.1.0 i.0) ∙ i.1
