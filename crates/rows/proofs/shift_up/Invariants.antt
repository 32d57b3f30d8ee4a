-- `shift_up` meets its contract. The loop: t and the entries behind it are pasted up to place j, and the next of them is carried. Assumes nothing.
use mathlib.Core.Path.{◌≡◌}
use Prim.Native.Nat.{suc, ◌-◌, ◌≤◌}
use mathlib.Core.List.{◌∷◌}
use lib.ListN.{get_or, drop}
use lib.Seq.{paste}
use Rattle.rows.proofs.shift_up.Given as goal

abbrev pub invariant-loop-j : goal.invariant-loop-j
invariant-loop-j l = (l.at ≤ l.j) × (l.j ≤ suc l.count) × (l.targets ≡ paste l.initial.targets l.at (l.t ∷ drop l.at l.initial.targets) (l.j - l.at)) × (l.carry ≡ get_or (l.t ∷ drop l.at l.initial.targets) (l.j - l.at) 0)
