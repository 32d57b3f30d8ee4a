-- `up` meets its contract. Assumes nothing.
use Rattle.std.proofs.Common.{sym, ◌∙◌}
use Rattle.look.proofs.Counting.{plus_is, up_is}
use Rattle.look.proofs.up.Goals as goal

pub plus-requires : goal.plus-requires
plus-requires c = tt

pub returns : goal.returns
returns c = c.plus.ensures ∙ plus_is c.args.x 1 ∙ sym (up_is c.args.x)
