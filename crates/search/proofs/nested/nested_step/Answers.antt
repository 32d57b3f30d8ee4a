-- `nested_step` meets its contract, on each of its ways. Assumes nothing.
use Rattle.std.proofs.Common.{refl, sym, ◌∙◌}
use Rattle.std.specs.Prelude.{None, Some}
use Rattle.search.proofs.Ways.{deepen_keeps, back_keeps}
use Rattle.search.proofs.Turns.{turn_deepens, turn_returns}
use Rattle.search.proofs.Scans.{then_closes, then_deepens, then_returns}
use Rattle.search.proofs.nested.nested_step.Goals as goal

pub returns-then-on_path-clause-by_index : goal.returns-then-on_path-clause-by_index
returns-then-on_path-clause-by_index c = λ words size.
    then_closes _ _ (Some c.in-Some.edge) _ c.requires.0 c.requires.1 c.in-Some.ensures c.in-Some.edge refl _ (sym c.on_path.ensures ∙ c.if-on_path.true) c.get.ensures

pub returns-in-Some : goal.returns-in-Some
returns-in-Some c =
    let e = c.in-Some.edge in
    record {
      by_index = λ words size.
          then_deepens _ _ (Some e) _ c.requires.0 c.requires.1 c.in-Some.ensures e refl _ (sym c.on_path.ensures ∙ c.if-on_path.false) (c.deepen.ensures _);
      nested_turn = turn_deepens c.args.w e.index _ _ e.target refl (c.deepen.ensures 0) (c.in-Some.ensures.looked e refl).0.new c.requires.2;
      number_kept = deepen_keeps _ _ e.target (c.deepen.ensures 0);
    }

pub returns : goal.returns
returns c = record {
  by_index = λ words size.
      then_returns _ _ None _ c.requires.0 c.requires.1 c.in_default.ensures refl _ (c.go_back.ensures _);
  nested_turn = turn_returns _ _ (c.go_back.ensures 0);
  number_kept = back_keeps _ _ (c.go_back.ensures 0);
}
