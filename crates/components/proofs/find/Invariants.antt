-- `find` meets its contract: at each turn the arrays stand for groups, and at the end every state on a round is found. Assumes nothing.
use Rattle.components.proofs.Turns.{At, weight}
use Rattle.components.proofs.find.Given as goal

abbrev pub invariant-loop-stand : goal.invariant-loop-stand
invariant-loop-stand l = At l.rows.targets l.rows.starts l.words l.size l.kinds l.start l.stand.board l.stand.cursor

abbrev pub decreases-loop-stand : goal.decreases-loop-stand
decreases-loop-stand l = weight l.rows.targets l.rows.starts l.words l.size l.kinds l.start l.stand.board l.stand.cursor
