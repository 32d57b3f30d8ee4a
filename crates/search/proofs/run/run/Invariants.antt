-- `run` meets its contract: each turn takes a phase, which is a step or more, and a search that is over has taken as many as one likes. Assumes nothing.
use Rattle.search.specs.Core.{game_in, Deep, Roomy, core_in}
use Rattle.search.proofs.Scans.{Made}
use Rattle.search.proofs.run.run.Given as goal

abbrev pub invariant-loop : goal.invariant-loop
invariant-loop l = record {
  deep : Deep l.q;
  roomy : Roomy l.q l.records.number;
  made : Made (game_in l.game) l.counter (core_in l.initial.q l.initial.spent l.initial.records l.initial.trail) (core_in l.q l.spent l.records l.trail);
}
