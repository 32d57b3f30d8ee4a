-- `is_change` meets its contract. Assumes nothing.
use native.Mathlib.Omega.{arith}
use Rattle.std.proofs.lemmas.Bool.Decides.{nat_tests}
use Rattle.batch.specs.Batches.{is_change}
use Rattle.batch.proofs.is_change.Goals as goal

pub returns-in-1-to-4 : goal.returns-in-1-to-4
unfolding is_change
returns-in-1-to-4 c = grind (arith, nat_tests)

pub returns-in_default : goal.returns-in_default
unfolding is_change
returns-in_default c = grind (arith, nat_tests)

pub returns-in_default-2 : goal.returns-in_default-2
unfolding is_change
returns-in_default-2 c = grind (arith, nat_tests)
