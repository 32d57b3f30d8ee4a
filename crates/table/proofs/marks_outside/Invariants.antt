-- `marks_outside` meets its contract: no mark of a kind below one is bad. Assumes nothing.
use mathlib.Core.Path.{◌≡◌}
use mathlib.Core.Bool.{Bool, false}
use mathlib.Core.List.{List}
use Prim.Native.Nat.{ℕ}
use Rattle.plain.specs.Lists.{any_below}
use Rattle.plain.specs.Table.{by_kind}
use Rattle.table.specs.Trials.{bad_mark}
use Rattle.table.proofs.marks_outside.Given as goal

-- is a mark of a kind bad?
abbrev pub bad_kind : ℕ → ℕ → List ℕ → ℕ → Bool
bad_kind size kinds marks kind = any_below 512 (bad_mark size kinds (by_kind marks) kind)

abbrev pub invariant-loop-kind : goal.invariant-loop-kind
invariant-loop-kind l = any_below l.kind (bad_kind l.size l.kinds l.marks) ≡ false
