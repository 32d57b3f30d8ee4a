-- The walk of a search on the layers, in plain states. Assumes nothing.
use mathlib.Core.Path.{◌≡◌, sym, ap, ◌∙◌}
use mathlib.Core.List.{List, [], ◌∷◌, ◌++◌, map}
use Prim.Native.Nat.{ℕ, ◌<◌}
use Rattle.plain.specs.Lists.{elem, In}
use Rattle.plain.specs.Search.{Graph}
use Rattle.plain.specs.Cycles.{Run, Lasso, Kinded, PassesAll, FullLasso}
use Rattle.plain.specs.Layers.{state_at, layers}
use Rattle.plain.proofs.Tests.{to_head, to_end}
use Rattle.plain.proofs.Lifting.{map_join, copy_at, Inside, layer_after, lifted, state_at_lem, after_below, run_below, lower, lifted_states}
use Rattle.plain.proofs.LayerRounds.{closed, closed_passes}

passes_from_head : (a : Kinded) (x : ℕ) (xs run cycle : List ℕ) → run ≡ xs ++ (x ∷ []) → cycle ≡ x ∷ xs → PassesAll a run → PassesAll a cycle
passes_from_head a x xs run cycle e f c kind h = let q = c kind h in (q.0, rw f (to_head x q.0 xs (ap (elem q.0) (sym e) ∙ q.1)), q.2)

closed_at : (g : Graph) (x y : ℕ) (vs : List ℕ) → x ≡ y → Run g x vs x → Run g y vs y
closed_at g x y vs e r = rw e at r

module _ (a : Kinded) (i : Inside a) where
  abbrev plain : List ℕ → List ℕ
  plain vs = map (state_at a) vs

  -- a walk of the layers is, in plain states, a walk into a closed run that passes all kinds, and once along it
  pub plain_walk : (stem cycle : List ℕ) → Lasso (layers a) stem cycle → FullLasso a (plain stem) (plain cycle)
  plain_walk stem cycle w =
      let p = lower a i w.way 0 a.graph.start w.entry i.some i.begins w.leads in
      let l = layer_after a 0 a.graph.start p.states in
      let x = p.end in
      let h : l < a.kinds = after_below a p.states 0 a.graph.start i.some in
      let b : x < a.size = run_below a i p.states a.graph.start x i.begins p.game_run in
      let v : state_at a w.entry ≡ x = ap (state_at a) p.ends ∙ state_at_lem a l x h b in
      let t = closed a i (w.others ++ (w.entry ∷ [])) l x h b (closed_at (layers a) w.entry (copy_at a l x) (w.others ++ (w.entry ∷ [])) p.ends w.closes) in
      let c : t.states ≡ plain w.others ++ (x ∷ []) =
      sym (lifted_states a i t.states l x x h b t.game_run) ∙ ap plain (sym t.lifts)
      ∙ map_join (state_at a) w.others (w.entry ∷ []) ∙ ap (λ s. plain w.others ++ (s ∷ [])) v in
      let cycle_is : plain cycle ≡ x ∷ plain w.others = ap plain w.cycle_is ∙ ap (λ s. s ∷ plain w.others) v in
      let j : In w.payer (lifted a l x t.states) = rw t.lifts at (to_end w.entry w.payer w.others (rw w.cycle_is at w.passes)) in
      let all = closed_passes a i t.states l x w.payer h b t.game_run t.back j w.pays in
      record {
        entry = x;
        others = plain w.others;
        cycle_is = cycle_is;
        way = p.states;
        begins = ap (λ s. plain stem ++ (s ∷ [])) (sym v) ∙ sym (map_join (state_at a) stem (w.entry ∷ [])) ∙ ap plain w.begins
            ∙ ap (λ s. s ∷ plain w.way) (state_at_lem a 0 a.graph.start i.some i.begins)
            ∙ ap (λ s. a.graph.start ∷ s) (ap plain p.lifts ∙ lifted_states a i p.states 0 a.graph.start x i.some i.begins p.game_run);
        leads = p.game_run;
        closes = rw c at t.game_run;
        passes_all = passes_from_head a x (plain w.others) t.states (plain cycle) c cycle_is all;
      }
