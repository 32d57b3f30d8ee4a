-- `outer_steps` meets its contract: each turn takes a step or more, and is lighter than the one before. Assumes nothing.
use Rattle.std.proofs.Common.{rules}
use Rattle.search.proofs.Scans.{made_start, made_on, made_then}
use Rattle.search.proofs.outer.outer_steps.Goals as goal

pub loop-q-init : goal.loop-q-init
loop-q-init c = record { phase_is = c.requires.0; roomy = c.requires.1; made = made_start _ _ }

pub returns-then-ne-clause-by_index : goal.returns-then-ne-clause-by_index
returns-then-ne-clause-by_index c = made_then _ c.loop-q.invariant.made c.outer_step-q.ensures.by_index

pub loop-q-preserved : goal.loop-q-preserved
loop-q-preserved c =
    let r = c.outer_step-q.ensures in
    record { phase_is = search rules; roomy = r.outer_turn.roomy; made = made_on _ c.loop-q.invariant.made r.by_index }
