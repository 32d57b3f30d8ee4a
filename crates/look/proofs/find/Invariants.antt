-- `find` meets its contract. The loop: the place is that of x in what is left of the entries, behind the i that were passed. Assumes nothing.
use Rattle.std.proofs.Common.{◌≡◌, ◌+◌, ◌≤◌, drop}
use Rattle.rows.specs.Rows.{entries, place_of}
use Rattle.look.proofs.find.Given as goal

abbrev pub invariant-loop-i : goal.invariant-loop-i
invariant-loop-i l = (l.i ≤ l.n) × (l.i + place_of l.x (drop l.i (entries l.n 0 l.a)) ≡ place_of l.x (entries l.n 0 l.a))
