-- The rows that are laid for the layers of an accepted load, and its packed marks, are those of the graph that is searched. The search from the start state comes to the end of the
-- plain search on it, and its answer and walk are those of a load. Assumes nothing.
use mathlib.Core.Path.{◌≡◌, refl, sym, ap, subst, subst⁻¹, ◌∙◌}
use mathlib.Core.Bool.{false}
use mathlib.Core.List.{List, [], ◌∷◌}
use Prim.Native.Nat.{ℕ, suc, ◌*◌, ◌-◌, ◌<◌}
use native.Mathlib.Omega.{arith}
use lib.ListN.{length}
use Rattle.std.specs.Prelude.{Option, None, Some, unwrap_or}
use Rattle.plain.specs.Search.{Graph, Config, outer, frame, exhausted, found, run, steps, step, states_of, cycle_of, none, lasso, unfinished, verdict, count}
use Rattle.plain.specs.Table.{Table, game_of, searched, printed_verdict, final}
use Rattle.plain.specs.Refusals.{accepted, Load, load_trial, pairs}
use Rattle.plain.specs.Machine.{answer, table_of}
use Rattle.plain.specs.Claims.{loaded}
use Rattle.plain.proofs.Tests.{contra}
use Rattle.plain.proofs.Lassos.{sound}
use Rattle.plain.proofs.Copies.{copy_first}
use Rattle.plain.proofs.Tables.{Valid, valid, carried_few}
use Rattle.plain.proofs.Demands.{run_final}
use Rattle.plain.proofs.Limits.{limits, small}
use Rattle.rows.specs.declared.Rows.{Rows}
use Rattle.table.specs.Filing.{Filed}
use Rattle.table.proofs.Holding.{game_held}
use Rattle.layers.specs.Layout.{layered}
use Rattle.layers.specs.Packed.{Packed}
use Rattle.layers.proofs.Rows.{GameHeld, rows_layered, accepts_layered}
use Rattle.verdict.specs.declared.Answer.{Answer}
use Rattle.verdict.specs.Answers.{lowered, WalkOf, Tells, Answered, LoadAnswered}
use Rattle.verdict.proofs.Told.{told}
use Rattle.verdict.proofs.Loads.{room_enough, load_accepted}
use Rattle.textbook.specs.declared.Walk.{Walk}
use Rattle.textbook.specs.Search.{stem_in, length_in, board_of, ReadsAll, Reached, Ends, Begun}
use Rattle.textbook.specs.declared.Board.{Board}
use Rattle.look.proofs.Sets.{members_none}

-- the lengths that are told: 0 where there is no walk
pub told_lengths : (r : Option Walk) {told : Walk} → told ≡ unwrap_or r (record { stem = 0; length = 0 }) → (told.stem ≡ stem_in r) × (told.length ≡ length_in r)
told_lengths None e = (ap (λ (w : Walk). w.stem) e, ap (λ (w : Walk). w.length) e)
told_lengths (Some walk) e = (ap (λ (w : Walk). w.stem) e, ap (λ (w : Walk). w.length) e)

-- ---- the end of the plain search

module _ (t : Table) (ok : Valid t) where
  -- the walk of a verdict that is none or a lasso
  at_end : (B : Board) (r : Option Walk) → Ends (searched t) false 0 [] [] B r → WalkOf (stem_in r) (length_in r) B.walk (verdict (final t)) × (B.spent ≡ count (final t))
  unfolding steps step verdict
  at_end B None w =
      let n = w.reached.0 in
      let e : run (searched t) (suc n) ≡ exhausted w.d w.k w.l = ap (step (searched t)) w.reached.1 in
      let z : exhausted w.d w.k w.l ≡ final t = sym e ∙ run_final t ok (suc n) (λ y. decided (sym (ap verdict e) ∙ y)) in
      (subst (λ (c : Config). WalkOf 0 0 B.walk (verdict c)) z (refl, refl), w.shows.spent_right ∙ ap count z)
    where
      decided : none ≡ unfinished → ⊥
      decided y = let k : ◌≡◌ {A = ℕ} 0 1 = cc in omega arith
  at_end B (Some walk) w =
      let n = w.reached.0 in
      let e : run (searched t) n ≡ found w.h w.p w.q w.d w.k w.l = w.reached.1 in
      let z : found w.h w.p w.q w.d w.k w.l ≡ final t = sym e ∙ run_final t ok n (λ y. decided (sym (ap verdict e) ∙ y)) in
      let some : 0 < length (cycle_of w.h w.p w.q) = omega (arith, ap length (sound (searched t) n _ _ (ap verdict e)).cycle_is) in
      (subst (λ (c : Config). WalkOf walk.stem walk.length B.walk (verdict c)) z (w.stem_is, w.length_is, w.walk_is, some), w.spent_is ∙ ap count z)
    where
      decided : {first round : List ℕ} → lasso first round ≡ unfinished → ⊥
      decided y = let k : ◌≡◌ {A = ℕ} 0 1 = cc in omega arith

-- ---- the whole search

module _ (l : Load) (lent lent' : List ℕ) (rows : Rows) (words : List ℕ) (yes-it-is : load_trial l (length lent) ≡ accepted) (filed : Filed l.size (pairs l.numbers) rows)
    (packed : Packed l.size l.kinds l.marks words) where
  -- its table
  abbrev t : Table
  t = table_of l

  ok : Valid t
  ok = valid t (loaded l (length lent) yes-it-is)

  -- the arrays have the game
  held : GameHeld (game_of t) rows.targets rows.starts words
  unfolding table_of
  held = game_held t ok rows words filed packed

  -- what the search reads of them is the graph that is searched
  abbrev Shown : ℕ → Graph → Type 0
  Shown above = ReadsAll rows.targets (layered l.size above rows.starts words) l.size words

  reads : Shown (l.kinds - 1) (searched t)
  unfolding table_of
  reads = record {
    reads = record {
      rows = rows_layered (game_of t) rows.targets rows.starts words held;
      limits = limits (searched t) (l.kinds * l.size) (small t ok);
    };
    acceptance = accepts_layered (game_of t) rows.targets rows.starts words held (λ s h c. (carried_few t ok 0 s (omega arith) h c).0);
  }

  -- the search begins with the start state
  starts_at : Reached (searched t) (outer (frame l.start ((searched t).successors l.start) ∷ []) (l.start ∷ []) [] [])
  unfolding table_of steps
  starts_at = (0, λ i. let s = copy_first l.size l.start i in outer (frame s ((searched t).successors s) ∷ []) (s ∷ []) [] [])

  pub searched_right : {walk walk' : List ℕ} {spent : ℕ} {r : Option Walk} {above stem len : ℕ} {a : Answer} → above ≡ l.kinds - 1 → Begun (Shown above) l.start walk 0 walk' spent r
      → stem ≡ stem_in r → len ≡ length_in r → Tells spent 0 stem len (lowered l.size above walk') lent a lent' → LoadAnswered l lent a lent'
  unfolding table_of states_of
  searched_right {walk} {walk'} {spent} {r} {above} {stem} {len} {a} k begun f g w =
      let b = subst (λ (m : ℕ). Begun (Shown m) l.start walk 0 walk' spent r) k begun in
      let C = board_of b.met b.marked walk' spent in
      let e = at_end t ok C r (b.visits.leads (searched t) reads 0 [] [] [] [] [] starts_at
      (record { met_right = members_none; marked_right = members_none; walk_right = (walk, refl); spent_right = refl }) (λ y. absurd (contra y refl)) refl) in
      let z : WalkOf stem len walk' (verdict (final t)) = subst⁻¹ (λ (x : ℕ × ℕ). WalkOf x.0 x.1 walk' (verdict (final t))) (λ i. (f i, g i)) e.0 in
      load_accepted l lent a lent' yes-it-is
      (subst (λ (n : ℕ). Answered (answer (printed_verdict t (verdict (final t))) n 0) lent a lent') e.1
      (told spent 0 stem len t ok walk' lent lent' a z (subst (λ (m : ℕ). Tells spent 0 stem len (lowered l.size m walk') lent a lent') k w) (room_enough l (length lent) yes-it-is)))
