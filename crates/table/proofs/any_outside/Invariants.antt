-- `any_outside` meets its contract: the moves of the rest of the list tell what the whole list tells. Assumes nothing.
use mathlib.Core.Path.{◌≡◌}
use Rattle.std.specs.Slice.Iter.{chunks_exact_rest, chunks_exact_size}
use Rattle.plain.specs.Lists.{any}
use Rattle.plain.specs.Refusals.{outside, pairs}
use Rattle.table.proofs.any_outside.Given as goal

abbrev pub invariant-loop-edge : goal.invariant-loop-edge
invariant-loop-edge l = (chunks_exact_size l.edge-iterator ≡ 2) × (any (outside l.size) (pairs (chunks_exact_rest l.edge-iterator)) ≡ any (outside l.size) (pairs l.numbers))
