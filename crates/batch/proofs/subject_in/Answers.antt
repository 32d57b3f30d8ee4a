-- `subject_in` meets its contract. Assumes nothing.
use borrow.Author.Tests.{le-leb, lt-leb}
use Rattle.batch.specs.Batches.{subject_in}
use Rattle.batch.proofs.subject_in.Goals as goal

pub returns-then-line-le2 : goal.returns-then-line-le2
unfolding subject_in
returns-then-line-le2 c = rw (le-leb _ _ c.if-line-le2.true)

pub returns-else-line-le2 : goal.returns-else-line-le2
unfolding subject_in
returns-else-line-le2 c = rw (lt-leb _ _ c.if-line-le2.false)
