-- `shift_down` meets its contract. The loop: the entries behind the place are pasted up to place j. Assumes nothing.
use mathlib.Core.Path.{◌≡◌}
use Prim.Native.Nat.{suc, ◌+◌, ◌-◌, ◌≤◌}
use lib.ListN.{drop}
use lib.Seq.{paste}
use Rattle.rows.proofs.shift_down.Given as goal

abbrev pub invariant-loop-j : goal.invariant-loop-j
invariant-loop-j l = (l.at ≤ l.j) × (l.j + 1 ≤ l.count) × (l.targets ≡ paste l.initial.targets l.at (drop (suc l.at) l.initial.targets) (l.j - l.at))
