-- `count_edges` meets its contract: the moves of the rest of the list are still to be counted. Assumes nothing.
use mathlib.Core.Path.{◌≡◌}
use Rattle.std.specs.Slice.Iter.{chunks_exact_rest, chunks_exact_size}
use Rattle.plain.specs.Refusals.{pairs}
use Rattle.table.specs.Filing.{counted_all}
use Rattle.table.proofs.count_edges.Given as goal

abbrev pub invariant-loop-edge : goal.invariant-loop-edge
invariant-loop-edge l = (chunks_exact_size l.edge-iterator ≡ 2) × (counted_all (pairs (chunks_exact_rest l.edge-iterator)) l.indegree ≡ counted_all (pairs l.numbers) l.initial.indegree)
