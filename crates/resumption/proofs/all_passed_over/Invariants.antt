-- `all_passed_over` meets its contract: all lines are passed over exactly when those that are left are. Assumes nothing.
use mathlib.Core.Path.{◌≡◌}
use Prim.Native.Nat.{ℕ, ◌*◌, ◌-◌}
use lib.ListN.{drop}
use Rattle.batch.specs.Batches.{lines_in, numbers_in}
use Rattle.resumption.specs.Model.{all_passed_over}
use Rattle.resumption.proofs.all_passed_over.Given as goal

abbrev pub invariant-loop-at : goal.invariant-loop-at
invariant-loop-at l = ((k : ℕ) × (l.at ≡ 3 * k))
    × (all_passed_over (lines_in (drop l.at (numbers_in l.alone l.lines))) l.size l.kinds l.rows l.number l.index l.walk l.height
    ≡ all_passed_over (lines_in (numbers_in l.alone l.lines)) l.size l.kinds l.rows l.number l.index l.walk l.height)

abbrev pub decreases-loop-at : goal.decreases-loop-at
decreases-loop-at l = l.end - l.at
