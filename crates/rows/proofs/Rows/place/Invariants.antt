-- `place` meets its contract. The loop: the place is that of t in what is left of the row, behind the k that were passed. Assumes nothing.
use mathlib.Core.Path.{◌≡◌}
use Prim.Native.Nat.{◌+◌, ◌≤◌}
use lib.ListN.{drop}
use Rattle.rows.specs.Rows.{row_at, place_of}
use Rattle.rows.proofs.Rows.place.Given as goal

abbrev pub invariant-loop-k : goal.invariant-loop-k
invariant-loop-k l = (l.k ≤ l.n) × (l.k + place_of l.t (drop l.k (row_at l.self.targets l.self.starts l.v)) ≡ place_of l.t (row_at l.self.targets l.self.starts l.v))
