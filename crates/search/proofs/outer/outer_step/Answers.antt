-- `outer_step` meets its contract, on each of its ways. Assumes nothing.
use Rattle.std.proofs.Common.{refl, ap, ◌∙◌}
use Rattle.std.specs.Prelude.{None, Some}
use Rattle.search.specs.declared.Phase.TheVariants.{Outer}
use Rattle.search.specs.declared.Walker.{Walker}
use Rattle.search.specs.Core.{Game, game_in, Core, core_in, with_walker}
use Rattle.search.proofs.Ways.{outer_ends, step_at, exhausted_deep}
use Rattle.search.proofs.Turns.{turn_discovers, turn_finishes}
use Rattle.search.proofs.Scans.{advanced_one, then_discovers, then_finishes}
use Rattle.search.proofs.outer.outer_step.Goals as goal

pub returns-then-w-eq0-clause-by_index : goal.returns-then-w-eq0-clause-by_index
returns-then-w-eq0-clause-by_index c =
    let a = c.args in
    let g : Game = game_in a.game in
    let s : Core = core_in a.w a.spent.now a.records.now a.trail.now in
    advanced_one g s _ (ap (with_walker s) c.exhaust.ensures ∙ outer_ends g s c.if-w-eq0.true ∙ step_at g s Outer c.requires.0)
    (exhausted_deep _ (ap (λ (w : Walker). w.phase) c.exhaust.ensures))

pub returns-in-Some : goal.returns-in-Some
returns-in-Some c =
    let e = c.in-Some.edge in
    record {
      by_index = then_discovers _ _ (Some e) _ c.requires.0 c.if-w-eq0.false c.in-Some.ensures e refl _ c.discover.ensures;
      outer_turn = turn_discovers c.args.w e.index _ _ e.target refl c.discover.ensures (c.in-Some.ensures.looked e refl).0.new c.requires.1;
    }

pub returns : goal.returns
returns c =
    let a = c.args in
    record {
      by_index = then_finishes _ _ None _ c.requires.0 c.if-w-eq0.false c.in_default.ensures _ refl c.finish.ensures;
      outer_turn = turn_finishes _ a.records.now.parent a.records.now.index a.w _ a.records.now.number c.finish.ensures c.if-w-eq0.false c.requires.1;
    }
