-- `search` meets its contract: each turn is a level, and what is left comes to what the whole search does. Assumes nothing.
use Rattle.shortest.specs.Model.{Sized}
use Rattle.shortest.proofs.Searching.{Left}
use Rattle.shortest.proofs.search.Given as goal

abbrev pub invariant-loop-depth : goal.invariant-loop-depth
invariant-loop-depth l = Sized l.board.queue l.board.seen × Left l.rows.targets l.rows.starts l.budget l.goal l.state l.levels l.fn.board.spent l.from l.depth l.board l.tail
