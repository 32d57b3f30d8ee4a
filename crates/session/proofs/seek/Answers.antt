-- `seek` meets its contract: nothing is done, or the search is resumed on the rows of the layers. Assumes nothing.
use mathlib.Core.Path.{ap, ◌∙◌}
use Prim.Native.Nat.{ℕ}
use Rattle.layers.specs.Layout.{layered}
use Rattle.session.proofs.Sought.{ran_laid, ran_states, sought_nowhere, sought_at}
use Rattle.session.proofs.seek.Goals as goal

pub returns-in-None : goal.returns-in-None
returns-in-None c = sought_nowhere _ _ _ _ _ _ c.in-None.is

pub returns-in-Some : goal.returns-in-Some
returns-in-Some c = let a = c.args in
    let rows = c.lay-layout.ensures ∙ ap (λ (m : ℕ). layered a.size m a.arrays.now.rows.starts a.arrays.now.words) c.down.ensures in
    let ran = ran_states a.start c.in-Some.s a.records.now _ _ c.times_within-states.ensures (ran_laid _ rows c.resume-w.ensures) in
    sought_at _ _ _ c.in-Some.s _ _ _ _ _ c.in-Some.is c.verdict_of.ensures ran
