-- `next_line` meets its contract: whatever led to the first turn leads, with the bytes that the reads brought, to each further one; and it ends,
-- because each read takes off what may still come or ends the line. Assumes nothing.
use Prim.Native.Nat.{ℕ, ◌+◌}
use mathlib.Core.List.{List}
use Rattle.console.specs.declared.Reader.{Reader}
use Rattle.console.proofs.Reading.{Reached, goes_on}
use Rattle.console.proofs.next_line.Given as goal

abbrev pub invariant-loop-input : goal.invariant-loop-input
invariant-loop-input l = (r : Reader) (h b : List ℕ) → Reached r h b l.initial.s l.initial.held l.initial.buf → Reached r h b l.s l.held l.buf

abbrev pub decreases-loop-input : goal.decreases-loop-input
decreases-loop-input l = l.s.left + goes_on l.s.status
