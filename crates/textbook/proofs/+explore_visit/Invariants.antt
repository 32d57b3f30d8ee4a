-- The measure of `visit` and `explore`, which call each other, is the count of the states that are not discovered (Sets.antt, `left`). Assumes nothing.
use Rattle.std.proofs.Common.{◌+◌, false, true, set}
use Rattle.look.specs.Scan.{row_laid}
use Rattle.textbook.specs.Search.{ReadsGame}
use Rattle.textbook.proofs.Sets.{left}
use Rattle.textbook.proofs.Turns.{Turns}
use Rattle.textbook.proofs.+explore_visit.Given as goal

abbrev pub decreases-explore : goal.decreases-explore
decreases-explore l = left l.board.now.met

abbrev pub decreases-visit : goal.decreases-visit
decreases-visit l = left (set l.board.now.met l.v true) + 1

abbrev pub invariant-explore-loop-e : goal.invariant-explore-loop-e
invariant-explore-loop-e l = Turns (row_laid l.game.targets.now l.game.layout.now l.v) (ReadsGame l.game) false l.v 0 l.place l.initial.board l.board l.e
