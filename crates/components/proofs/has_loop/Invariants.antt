-- `has_loop` meets its contract: the test of the edges that are left comes to that of the row. Assumes nothing.
use mathlib.Core.Path.{◌≡◌}
use Prim.Native.Nat.{◌-◌}
use lib.Dec.{eqb}
use Rattle.plain.specs.Lists.{any, elem}
use Rattle.rows.specs.Rows.{entries}
use Rattle.components.specs.Model.{within, row_of}
use Rattle.components.proofs.has_loop.Given as goal

abbrev pub invariant-loop-e : goal.invariant-loop-e
invariant-loop-e l = any (λ t. eqb l.v (within t)) (entries (l.e-end - l.e) l.e l.rows.targets) ≡ elem l.v (row_of l.rows.targets l.rows.starts l.v)
