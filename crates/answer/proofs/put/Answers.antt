-- `answer::put` meets its contract: a copy over a part of the output puts it in.
use native.Mathlib.Omega.{arith}
use Rattle.answer.proofs.Laws.{put_copied}
use Rattle.answer.proofs.put.Goals as goal

pub returns : goal.returns
returns c = put_copied _ _ _ _ _ c.copy_from_slice.ensures.after (omega arith)
