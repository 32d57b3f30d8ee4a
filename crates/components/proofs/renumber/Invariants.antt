-- `renumber` meets its contract: the states that are left, renumbered from here on, come to all of them. Assumes nothing.
use mathlib.Core.Path.{◌≡◌}
use Prim.Native.Nat.{◌-◌}
use Rattle.rows.specs.Rows.{entries}
use Rattle.components.specs.Model.{renumbered}
use Rattle.components.proofs.renumber.Given as goal

abbrev pub invariant-loop-i : goal.invariant-loop-i
invariant-loop-i l = renumbered l.x (entries (l.stop - l.i) l.i l.stack) l.number ≡ renumbered l.x (entries (l.stop - l.from) l.from l.stack) l.initial.number
