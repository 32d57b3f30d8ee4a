-- `take_bytes` meets its contract: at each byte the lines to come are those of the bytes left with what is held now. Assumes nothing.
use native.Mathlib.Omega.{arith}
use Rattle.console.proofs.Reading.{going_start, going_byte, push_room, push_full, took_over, took_line, took_all}
use Rattle.console.proofs.take_bytes.Goals as goal
use Rattle.console.proofs.take_bytes.Goals.{then-len-lt-HELD, else-len-lt-HELD}

pub loop-at-init : goal.loop-at-init
loop-at-init c = going_start _ _ _ c.requires.0 c.requires.1

pub returns-then-b-eq-NEWLINE : goal.returns-then-b-eq-NEWLINE
returns-then-b-eq-NEWLINE c = took_line _ _ _ _ _ _ c.loop-at.invariant (omega arith) (omega arith) c.if-b-eq-NEWLINE.true

pub loop-at-preserved : goal.loop-at-preserved
loop-at-preserved c = let g = c.loop-at.invariant in
    going_byte _ _ _ _ _ _ g _ _ (omega arith) (omega arith) c.if-b-eq-NEWLINE.false (elim c.if-len-lt-HELD.branch [ then-len-lt-HELD w ↦ omega arith | else-len-lt-HELD w ↦ omega arith ]) c.if-len-lt-HELD.array_long (elim c.if-len-lt-HELD.branch [
      | then-len-lt-HELD w ↦ rw (w.held-is, w.len-is) (push_room c.loop-at.held c.loop-at.len _ (omega arith) g.size)
      | else-len-lt-HELD w ↦ rw (w.held-is, w.len-is) (push_full c.loop-at.held c.loop-at.len _ (omega arith) g.len_most g.size)
    ])

pub returns-then-stop-r : goal.returns-then-stop-r
returns-then-stop-r c = took_over _ _ _ _ _ _ c.loop-at.invariant _ (omega arith) (omega arith) (omega arith)

pub returns-else-stop-r : goal.returns-else-stop-r
returns-else-stop-r c = took_all _ _ _ _ _ _ c.loop-at.invariant _ (omega arith) (omega arith)
