-- `is_outside` meets its contract. Assumes nothing.
use borrow.Author.Tests.{le-leb, lt-leb}
use Rattle.plain.specs.Refusals.{outside}
use Rattle.table.proofs.is_outside.Goals as goal

pub returns-then-size-from : goal.returns-then-size-from
unfolding outside
returns-then-size-from c = rw (le-leb _ _ c.if-size-from.true)

pub returns-else-size-from : goal.returns-else-size-from
unfolding outside
returns-else-size-from c = rw (lt-leb _ _ c.if-size-from.false)
