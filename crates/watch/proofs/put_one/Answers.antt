-- `watch::put_one`: the line put at the head of the buffer is all of it.
use Rattle.watch.proofs.Writing.{one_line}
use Rattle.watch.proofs.put_one.Goals as goal

pub returns : goal.returns
returns c = one_line _ _ _ _ c.put_answer-n.ensures
