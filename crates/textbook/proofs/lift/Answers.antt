-- `lift` meets its contract. Assumes nothing.
use mathlib.Core.Path.{ap}
use Prim.Native.Nat.{ℕ, ◌+◌, ◌%◌}
use Rattle.look.specs.Scan.{lifted}
use Rattle.textbook.proofs.lift.Goals as goal

pub returns : goal.returns
unfolding lifted
returns c = ap (λ (x : ℕ). (x + c.args.base) % 512) c.wide.ensures.0
