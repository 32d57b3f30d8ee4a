-- `lower` meets its contract: the first entries are lowered. Assumes nothing.
use native.Mathlib.Omega.{arith}
use Rattle.std.proofs.lemmas.Grind.{common_steps}
use Rattle.std.proofs.lemmas.List.{take_all, take-map, drop_all}
use Rattle.std.proofs.lemmas.List.Edits.{map_over_more}
use Rattle.plain.specs.Layers.{state_of}
use Rattle.verdict.specs.Answers.{shown_walk, lowered}
use Rattle.verdict.proofs.lower.Goals as goal

pub loop-state-preserved : goal.loop-state-preserved
loop-state-preserved c = grind (arith, common_steps, map_over_more (state_of c.args.size c.args.above))

pub returns : goal.returns
unfolding shown_walk lowered
returns c = grind (arith, common_steps, take-map, take_all, drop_all)
