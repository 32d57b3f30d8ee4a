-- `nested_steps` meets its contract: each turn takes a step or more, and is lighter than the one before. Assumes nothing.
use mathlib.Core.Path.{◌≡◌}
use mathlib.Core.List.{List}
use Prim.Native.Nat.{ℕ}
use Rattle.search.specs.declared.Phase.TheVariants.{Nested}
use Rattle.search.specs.Core.{game_of, Deep, core_in, nested_weight}
use Rattle.search.proofs.Scans.{Made}
use Rattle.search.proofs.nested.nested_steps.Given as goal

abbrev pub invariant-loop-q : goal.invariant-loop-q
invariant-loop-q l = record {
  phase_is : l.q.phase ≡ Nested;
  deep : Deep l.q;
  met_kept : l.q.met ≡ l.initial.q.met;
  number_kept : l.records.number ≡ l.initial.records.number;
  made : (words : List ℕ) (size : ℕ) → Made (game_of l.game.targets.now l.game.layout.now words size) 0 (core_in l.initial.q l.initial.spent l.initial.records l.initial.trail) (core_in l.q l.spent l.records l.trail);
}

abbrev pub decreases-loop-q : goal.decreases-loop-q
decreases-loop-q l = nested_weight l.q l.records.stamp
