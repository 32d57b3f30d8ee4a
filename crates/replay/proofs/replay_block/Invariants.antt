-- `replay_block` ends: each turn goes on in the script. Assumes nothing.
use lib.ListN.{length}
use Rattle.replay.proofs.replay_block.Given as goal

abbrev pub decreases-loop-rest : goal.decreases-loop-rest
decreases-loop-rest l = length l.rest
