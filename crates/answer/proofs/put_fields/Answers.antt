-- `answer::put_fields` meets its contract: before each turn the fields of the first numbers, up to the index, are put in.
use native.Mathlib.Omega.{arith}
use Rattle.answer.proofs.Laws.{put_then, fields_none, fields_more, fields_room}
use Rattle.answer.proofs.put_fields.Goals as goal

pub loop-n-init : goal.loop-n-init
loop-n-init c = fields_none _ _ c.args.numbers.now

pub put_field-next-requires : goal.put_field-next-requires
put_field-next-requires c =
    omega (arith, c.requires, fields_room c.args.numbers.now c.loop-n.n-index c.loop-n-test.true, c.loop-n.invariant.next)

pub loop-n-preserved : goal.loop-n-preserved
loop-n-preserved c =
    rw (fields_more c.args.numbers.now c.loop-n.n-index (omega arith))
    (put_then _ _ _ _ _ _ _ _ (omega (arith, c.requires)) c.loop-n.invariant c.put_field-next.ensures)
