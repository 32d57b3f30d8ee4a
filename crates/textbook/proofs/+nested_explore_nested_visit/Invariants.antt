-- The measure of `nested_visit` and `nested_explore`, which call each other, is the count of the unmarked states (Sets.antt, `left`). Assumes nothing.
use Rattle.std.proofs.Common.{◌≡◌, ◌+◌, true, set}
use Rattle.look.specs.Scan.{row_laid}
use Rattle.textbook.specs.Search.{Reads}
use Rattle.textbook.proofs.Sets.{left}
use Rattle.textbook.proofs.Turns.{Turns}
use Rattle.textbook.proofs.+nested_explore_nested_visit.Given as goal

abbrev pub decreases-nested_explore : goal.decreases-nested_explore
decreases-nested_explore l = left l.board.now.marked

abbrev pub decreases-nested_visit : goal.decreases-nested_visit
decreases-nested_visit l = left (set l.board.now.marked l.v true) + 1

abbrev pub invariant-nested_explore-loop-e : goal.invariant-nested_explore-loop-e
invariant-nested_explore-loop-e l = Turns (row_laid l.game.targets.now l.game.layout.now l.v) (Reads l.game.targets.now l.game.layout.now) true l.v l.height l.place l.initial.board l.board l.e × (l.board.met ≡ l.initial.board.met)
