-- `list` meets its contract: of the states passed, those on a round are marked and counted. Assumes nothing.
use Rattle.components.proofs.Laws.{Listed}
use Rattle.components.proofs.list.Given as goal

abbrev pub invariant-loop-s : goal.invariant-loop-s
invariant-loop-s l = Listed l.number l.states l.count l.s
