-- `look_level` meets its contract: each turn is a state of the level, and what is left of the level comes to what the whole does. Assumes nothing.
use Rattle.shortest.specs.Model.{Sized}
use Rattle.shortest.proofs.Levels.{Left}
use Rattle.shortest.proofs.look_level.Given as goal

abbrev pub invariant-loop-i : goal.invariant-loop-i
invariant-loop-i l = Sized l.board.queue l.board.seen × Left l.rows.targets l.rows.starts l.budget l.goal l.from l.initial.board l.stop l.i l.board l.tail
