-- `move_starts` meets its contract. The loop: the changed starts are pasted up to place j. Assumes nothing.
use mathlib.Core.Path.{◌≡◌}
use Prim.Native.Nat.{suc, ◌-◌, ◌≤◌}
use mathlib.Core.List.{map}
use lib.ListN.{drop}
use lib.Seq.{paste}
use Rattle.rows.specs.Shift.{moved_one}
use Rattle.rows.proofs.move_starts.Given as goal

abbrev pub invariant-loop-j : goal.invariant-loop-j
invariant-loop-j l = (l.from ≤ l.j) × (l.j ≤ suc l.last) × (l.starts ≡ paste l.initial.starts l.from (map (moved_one l.up) (drop l.from l.initial.starts)) (l.j - l.from))
