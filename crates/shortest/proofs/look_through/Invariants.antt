-- `look_through` meets its contract: each turn is a look, and what is left of the row comes to what the whole row does. Assumes nothing.
use Rattle.shortest.specs.Model.{Sized}
use Rattle.shortest.proofs.Looking.{Left}
use Rattle.shortest.proofs.look_through.Given as goal

abbrev pub invariant-loop-e : goal.invariant-loop-e
invariant-loop-e l = Sized l.board.queue l.board.seen × Left l.rows.targets l.rows.starts l.budget l.goal l.v l.initial.board l.begin l.e-end l.e l.board l.tail
