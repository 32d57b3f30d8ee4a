-- `clear_from` meets its contract: the bits from the first up to v are cleared. Assumes nothing.
use Rattle.layers.proofs.Clearing.{ClearedTo}
use Rattle.layers.proofs.clear_from.Given as goal

abbrev pub invariant-loop-v : goal.invariant-loop-v
invariant-loop-v l = ClearedTo l.first l.v l.initial.words l.words
