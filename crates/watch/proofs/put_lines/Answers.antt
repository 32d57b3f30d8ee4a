-- `watch::put_lines`: no line, and the line of a reply.
use Rattle.watch.proofs.Writing.{no_lines, one_line}
use Rattle.watch.proofs.put_lines.Goals as goal

pub returns-in-Nothing : goal.returns-in-Nothing
returns-in-Nothing c = rw c.in-Nothing.is (no_lines _)

pub returns-in-Question : goal.returns-in-Question
returns-in-Question c = rw c.in-Question.is (one_line _ _ _ _ c.put_reply-n.ensures)
