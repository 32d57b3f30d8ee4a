-- `run` meets its contract: each turn takes a phase, which is a step or more, and a search that is over has taken as many as one likes. Assumes nothing.
use Rattle.std.proofs.Common.{sym, ◌∙◌}
use Rattle.search.proofs.Scans.{made_start, made_more, ran_over, ran_all}
use Rattle.search.proofs.run.run.Goals as goal

pub loop-init : goal.loop-init
loop-init c = record { deep = c.requires.0; roomy = c.requires.1; made = made_start _ _ }

pub returns-then-over : goal.returns-then-over
returns-then-over c = ran_over _ _ _ c.args.phases c.loop.invariant.made (sym c.over.ensures ∙ c.if-over.true)

pub loop-preserved : goal.loop-preserved
loop-preserved c =
    let q = c.one_phase-q.ensures in
    record { deep = q.advanced.deep; roomy = q.roomy; made = made_more _ c.loop.invariant.made q.advanced }

pub returns : goal.returns
returns c = ran_all _ _ _ c.args.phases c.loop.counter c.loop-test.false c.loop.invariant.made
