-- `clear_from` meets its contract: the bits from the first up to v are cleared. Assumes nothing.
use Rattle.layers.proofs.Clearing.{cleared_none, cleared_one, cleared_all}
use Rattle.layers.proofs.clear_from.Goals as goal

pub loop-v-init : goal.loop-v-init
loop-v-init c = cleared_none c.args.first c.args.words.now

pub clear_mark-requires : goal.clear_mark-requires
clear_mark-requires c = tt

pub loop-v-preserved : goal.loop-v-preserved
loop-v-preserved c = rw c.clear_mark.ensures (cleared_one c.args.first c.loop-v.v c.args.words.now c.loop-v.words c.loop-v.invariant)

pub returns : goal.returns
returns c = cleared_all c.args.first c.loop-v.v c.args.words.now c.loop-v.words c.loop-v.invariant c.loop-v-test.false
