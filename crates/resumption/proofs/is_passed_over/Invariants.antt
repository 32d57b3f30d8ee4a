-- `is_passed_over` meets its contract: the copies that are left tell what all of them tell. Assumes nothing.
use mathlib.Core.Path.{◌≡◌}
use mathlib.Core.Bool.{Bool}
use mathlib.Core.List.{List}
use Prim.Native.Nat.{ℕ, ◌-◌}
use Rattle.plain.specs.Lists.{all}
use Rattle.rows.specs.declared.Rows.{Rows}
use Rattle.batch.specs.declared.BatchLine.{BatchLine}
use Rattle.batch.specs.Batches.{line_in, switch_in}
use Rattle.table.specs.Trials.{op_of}
use Rattle.resumption.specs.Model.{copies_up, copy_passed_over, passed_over_in}
use Rattle.resumption.proofs.is_passed_over.Given as goal

-- is the line passed over in the layer of a copy?
abbrev pub at_copy : BatchLine → Rows → List ℕ → List ℕ → List ℕ → ℕ → ℕ → Bool
at_copy line rows number index walk height copy = copy_passed_over (op_of (switch_in line)) copy rows number index walk height

abbrev pub invariant-loop-layer : goal.invariant-loop-layer
invariant-loop-layer l = all (at_copy l.line l.rows l.number l.index l.walk l.height) (copies_up l.size (l.kinds - l.layer) l.copy)
    ≡ passed_over_in (line_in l.line) l.size l.kinds l.rows l.number l.index l.walk l.height
