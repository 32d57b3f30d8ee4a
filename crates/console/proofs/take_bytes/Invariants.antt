-- `take_bytes` meets its contract: at each byte the lines to come are those of the bytes left with what is held now. Assumes nothing.
use Rattle.console.proofs.Reading.{Going}
use Rattle.console.proofs.take_bytes.Given as goal

abbrev pub invariant-loop-at : goal.invariant-loop-at
invariant-loop-at l = Going l.initial.held l.buf l.r l.held l.at l.len
