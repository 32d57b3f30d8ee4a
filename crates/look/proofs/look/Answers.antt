-- `look` meets its contract: the entry at that place, and the count one higher. Assumes nothing.
use Rattle.std.proofs.Common.{refl, ◌∙◌}
use Rattle.look.proofs.Counting.{up_is}
use Rattle.look.proofs.look.Goals as goal

pub up-requires : goal.up-requires
up-requires c = tt

pub returns : goal.returns
returns c = (refl, c.up.ensures ∙ up_is c.args.spent.now)
