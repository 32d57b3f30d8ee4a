-- `outer_steps` meets its contract: each turn takes a step or more, and is lighter than the one before. Assumes nothing.
use mathlib.Core.Path.{◌≡◌}
use Rattle.search.specs.declared.Phase.TheVariants.{Outer}
use Rattle.search.specs.Core.{game_in, core_in, Roomy, outer_weight}
use Rattle.search.proofs.Scans.{Made}
use Rattle.search.proofs.outer.outer_steps.Given as goal

abbrev pub invariant-loop-q : goal.invariant-loop-q
invariant-loop-q l = record {
  phase_is : l.q.phase ≡ Outer;
  roomy : Roomy l.q l.records.number;
  made : Made (game_in l.game) 0 (core_in l.initial.q l.initial.spent l.initial.records l.initial.trail) (core_in l.q l.spent l.records l.trail);
}

abbrev pub decreases-loop-q : goal.decreases-loop-q
decreases-loop-q l = outer_weight l.q l.records.number
