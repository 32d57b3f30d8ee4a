-- `join` meets its contract: the groups that are left join to what all do. Assumes nothing.
use mathlib.Core.Path.{◌≡◌}
use Rattle.components.specs.Model.{joined}
use Rattle.components.proofs.join.Given as goal

abbrev pub invariant-loop-n : goal.invariant-loop-n
invariant-loop-n l = joined l.firsts l.x l.n ≡ joined l.firsts l.x l.groups

abbrev pub decreases-loop-n : goal.decreases-loop-n
decreases-loop-n l = l.n
