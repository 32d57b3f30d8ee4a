-- `earlier` meets its contract: the first so far, and the copies that are left, give that of all. Assumes nothing.
use mathlib.Core.Path.{◌≡◌}
use Prim.Native.Nat.{◌-◌}
use Rattle.resumption.specs.Model.{copies_up, first_of}
use Rattle.resumption.proofs.earlier.Given as goal

abbrev pub invariant-loop-layer : goal.invariant-loop-layer
invariant-loop-layer l = first_of l.least (copies_up l.size (l.kinds - l.layer) l.copy) l.number ≡ first_of l.fn.first (copies_up l.size l.kinds l.state) l.number
