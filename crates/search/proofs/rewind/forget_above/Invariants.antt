-- `forget_above` meets its contract: the first i entries are rewritten, the others are as they were. Assumes nothing.
use mathlib.Core.Path.{◌≡◌}
use Rattle.search.specs.Core.{forget_above}
use Rattle.search.proofs.rewind.forget_above.Given as goal

abbrev pub invariant-loop-i : goal.invariant-loop-i
invariant-loop-i l = l.a ≡ forget_above l.limit l.i l.initial.a
