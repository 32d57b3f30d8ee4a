-- `nested_steps` meets its contract: each turn takes a step or more, and is lighter than the one before. Assumes nothing.
use Rattle.std.proofs.Common.{rules, [], refl, ◌∙◌}
use Rattle.search.proofs.Scans.{made_start, made_on, made_then}
use Rattle.search.proofs.nested.nested_steps.Goals as goal

pub loop-q-init : goal.loop-q-init
loop-q-init c = record { phase_is = c.requires.0; deep = c.requires.1; met_kept = refl; number_kept = refl; made = λ words size. made_start _ _ }

pub returns-then-ne-clause-by_index : goal.returns-then-ne-clause-by_index
returns-then-ne-clause-by_index c = λ words size. made_then _ (c.loop-q.invariant.made words size) (c.nested_step-q.ensures.by_index words size)

pub loop-q-preserved : goal.loop-q-preserved
loop-q-preserved c =
    let i = c.loop-q.invariant in
    let r = c.nested_step-q.ensures in
    record {
      phase_is = search rules;
      deep = (r.by_index [] 0).deep;
      met_kept = r.nested_turn.same_met ∙ i.met_kept;
      number_kept = r.number_kept ∙ i.number_kept;
      made = λ words size. made_on _ (i.made words size) (r.by_index words size);
    }
