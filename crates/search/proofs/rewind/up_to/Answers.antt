-- `up_to` meets its contract. Assumes nothing.
use borrow.Author.Tests.{le-leb, lt-leb}
use Rattle.search.specs.Core.{up_to}
use Rattle.search.proofs.rewind.up_to.Goals as goal

pub returns-then-x-limit : goal.returns-then-x-limit
unfolding up_to
returns-then-x-limit c = rw (le-leb _ _ c.if-x-limit.true)

pub returns-else-x-limit : goal.returns-else-x-limit
unfolding up_to
returns-else-x-limit c = rw (lt-leb _ _ c.if-x-limit.false)
