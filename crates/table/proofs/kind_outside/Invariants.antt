-- `kind_outside` meets its contract: no mark of a state below s is bad. Assumes nothing.
use mathlib.Core.Path.{◌≡◌}
use mathlib.Core.Bool.{false}
use Rattle.plain.specs.Lists.{any_below}
use Rattle.plain.specs.Table.{by_kind}
use Rattle.table.specs.Trials.{bad_mark}
use Rattle.table.proofs.kind_outside.Given as goal

abbrev pub invariant-loop-s : goal.invariant-loop-s
invariant-loop-s l = any_below l.s (bad_mark l.size l.kinds (by_kind l.marks) l.kind) ≡ false
