-- `is_valid` meets its contract. Assumes nothing.
use native.Mathlib.Omega.{arith}
use Rattle.std.proofs.lemmas.Bool.Decides.{nat_tests}
use Rattle.batch.specs.Batches.{misnamed_in, is_valid}
use Rattle.batch.proofs.is_valid.Goals as goal

pub returns-then-line-le2 : goal.returns-then-line-le2
unfolding misnamed_in is_valid
returns-then-line-le2 c = grind (arith, nat_tests)

pub returns-in-1-to-4 : goal.returns-in-1-to-4
unfolding misnamed_in is_valid
returns-in-1-to-4 c = grind (arith, nat_tests)

pub returns-in_default : goal.returns-in_default
unfolding misnamed_in is_valid
returns-in_default c = grind (arith, nat_tests)

pub returns-in_default-2 : goal.returns-in_default-2
unfolding misnamed_in is_valid
returns-in_default-2 c = grind (arith, nat_tests)

pub returns-else-is_change : goal.returns-else-is_change
unfolding is_valid
returns-else-is_change c = grind (arith, nat_tests)
