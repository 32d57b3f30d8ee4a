-- `answer::put_line` meets its contract: four parts, each put behind the one before it, make the line.
use Prim.Native.Nat.{◌≤◌}
use native.Mathlib.Omega.{arith}
use lib.ListN.{length}
use Rattle.line.specs.Fields.{newline}
use Rattle.answer.proofs.Laws.{put_then, line_parts}
use Rattle.answer.proofs.put_line.Goals as goal

pub returns : goal.returns
unfolding newline
returns c =
    let h : c.args.at ≤ length c.args.out.now = omega (arith, c.requires) in
    rw (← line_parts c.args.word.now c.args.head.now c.args.tail.now)
    (put_then _ _ _ _ _ _ _ _ h
    (put_then _ _ _ _ _ _ _ _ h (put_then _ _ _ _ _ _ _ _ h c.put-a.ensures c.put_fields-b.ensures) c.put_fields-c.ensures)
    c.put_byte.ensures)
