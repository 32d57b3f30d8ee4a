-- `file_all` meets its contract: the moves ahead of the rest of the list are filed, none of them twice. Assumes nothing.
use mathlib.Core.Path.{◌≡◌}
use Rattle.std.specs.Slice.Iter.{chunks_exact_rest, chunks_exact_size}
use Rattle.table.proofs.Filing.{FiledTo}
use Rattle.table.proofs.file_all.Given as goal

abbrev pub invariant-loop-edge : goal.invariant-loop-edge
invariant-loop-edge l = (chunks_exact_size l.edge-iterator ≡ 2) × FiledTo l.size l.numbers (chunks_exact_rest l.edge-iterator) l.rows
