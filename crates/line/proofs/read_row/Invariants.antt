-- `read_row` meets its contract: the rows from the index on find what the whole table finds. Assumes nothing.
use Rattle.line.proofs.Words.{Finds}
use Rattle.line.proofs.read_row.Given as goal

abbrev pub invariant-loop-spelling : goal.invariant-loop-spelling
invariant-loop-spelling l = Finds l.spelling-items l.s l.spelling-index
