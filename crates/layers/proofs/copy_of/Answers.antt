-- `copy_of` meets its contract. Assumes nothing.
use Rattle.std.proofs.Common.{rules}
use Rattle.plain.specs.Layers.{copy}
use Rattle.layers.proofs.copy_of.Goals as goal

pub returns : goal.returns
unfolding copy
returns c = search rules
