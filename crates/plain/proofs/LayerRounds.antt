-- The layers have a reachable accepting cycle exactly when the game has a reachable closed run that passes all kinds. Assumes nothing.
use mathlib.Core.Path.{◌≡◌, refl, sym, ap, ◌∙◌}
use mathlib.Core.Logic.{inl, inr, ⊎_elim}
use mathlib.Core.Bool.{true}
use mathlib.Core.List.{List, [], ◌∷◌, ◌++◌}
use Prim.Native.Nat.{ℕ, zero, suc, ◌+◌, ◌<◌}
use native.Mathlib.Omega.{arith}
use lib.Dec.{eqb}
use lib.ListN.{length}
use Rattle.plain.specs.Lists.{elem, In, Once}
use Rattle.plain.specs.Cycles.{Run, FreeRound, Kinded, PassesAll, FullRound}
use Rattle.plain.specs.Layers.{lands, state_at, layer_at, layers}
use Rattle.plain.proofs.Tests.{either, same, and-true, in_nil, in_head, in_tail, in_cases, in_right}
use Rattle.plain.proofs.Upto.{upto, upto_in, length_upto}
use Rattle.plain.proofs.Runs.{run_join, run_split}
use Rattle.plain.proofs.Bounds.{once_short}
use Rattle.plain.proofs.Lifting.{copy_at, Inside, layer_after, lifted, state_at_lem, layer_at_lem, lands_below, after_below, after_join, accepting_at, run_below, lifted_run, lower}
use Rattle.plain.proofs.Passing.{Leaves, LeavesAccepting, passed_all, leaves_cases, leaves_left, leaves_right, leaves_passes, passes_leaves, rank, climbs, run_last, round_from}

module _ (a : Kinded) (i : Inside a) where
  same_layer : (l m s t : ℕ) → l < a.kinds → m < a.kinds → s < a.size → t < a.size → copy_at a l s ≡ copy_at a m t → l ≡ m
  same_layer l m s t h k b c e = sym (layer_at_lem a l s h b) ∙ ap (layer_at a) e ∙ layer_at_lem a m t k c

  same_state : (l m s t : ℕ) → l < a.kinds → m < a.kinds → s < a.size → t < a.size → copy_at a l s ≡ copy_at a m t → s ≡ t
  same_state l m s t h k b c e = sym (state_at_lem a l s h b) ∙ ap (state_at a) e ∙ state_at_lem a m t k c

  -- ---- from the layers to the game

  -- a run of the game, parted at the state of a copy to which its lift comes
  record Parted (l x y : ℕ) (xs : List ℕ) (v : ℕ) : Type 0 where
    front : List ℕ
    back : List ℕ
    middle : ℕ
    parts : xs ≡ front ++ back
    here : v ≡ copy_at a (layer_after a l x front) middle
    to : Run a.graph x front middle
    on : Run a.graph middle back y
    comes : In middle front

  part : (xs : List ℕ) (l x y v : ℕ) → Run a.graph x xs y → In v (lifted a l x xs) → Parted l x y xs v
  unfolding lifted layer_after
  part [] l x y v r j = absurd (in_nil v j)
  part (z ∷ xs) l x y v r j = ⊎_elim
      (λ e. record { front = z ∷ []; back = xs; middle = z; parts = refl; here = e; to = (r.0, refl); on = r.1; comes = in_head z [] })
      (λ m. let q = part xs (lands a l x) z y v r.1 m in
      record {
        front = z ∷ q.front;
        back = q.back;
        middle = q.middle;
        parts = ap (λ us. z ∷ us) q.parts;
        here = q.here;
        to = (r.0, q.to);
        on = q.on;
        comes = in_tail q.middle z q.front q.comes;
      }) (in_cases v (copy_at a (lands a l x) z) (lifted a (lands a l x) z xs) j)

  -- A closed run of the game whose lift comes back to its layer and passes an accepting state of the layers: it passes all kinds. From that state on, once round, it leads through all
  -- the layers.
  pub closed_passes : (xs : List ℕ) (l x v : ℕ) → l < a.kinds → x < a.size → Run a.graph x xs x → layer_after a l x xs ≡ l → In v (lifted a l x xs) → (layers a).accepting v ≡ true
      → PassesAll a xs
  closed_passes xs l x v h b r e j p kind c =
      let s = part xs l x x v r j in
      let f = s.front in
      let d = s.back in
      let m = s.middle in
      let lm = layer_after a l x f in
      let hm : lm < a.kinds = after_below a f l x h in
      let bm : m < a.size = run_below a i f x m b s.to in
      let t = and-true (eqb lm 0) (a.carries 0 m) (sym (accepting_at a lm m hm bm) ∙ ap (layers a).accepting (sym s.here) ∙ p) in
      let z : lm ≡ 0 = same t.0 in
      let up : layer_after a 0 m d ≡ l = ap (λ q. layer_after a q m d) (sym z) ∙ sym (after_join a f d l x m s.to) ∙ ap (layer_after a l x) (sym s.parts) ∙ e in
      let back : layer_after a 0 m (d ++ f) ≡ 0 = after_join a d f 0 m x s.on ∙ ap (λ q. layer_after a q x f) up ∙ z in
      let w = passed_all a (d ++ f) m m (in_right m d f s.comes) t.1 back kind c in
      let u : Leaves a kind x (f ++ d) = ⊎_elim (leaves_right a f d kind x m s.to) (leaves_left a f d kind x) (leaves_cases a d f kind m x s.on w) in
      leaves_passes a xs kind x r (rw s.parts u)

  -- a closed run of the layers is the lift of a closed run of the game that comes back to its layer
  pub record Closed (l x : ℕ) (vs : List ℕ) : Type 0 where
    pub states : List ℕ
    pub lifts : vs ≡ lifted a l x states
    pub game_run : Run a.graph x states x
    pub back : layer_after a l x states ≡ l

  pub closed : (vs : List ℕ) (l x : ℕ) → l < a.kinds → x < a.size → Run (layers a) (copy_at a l x) vs (copy_at a l x) → Closed l x vs
  closed vs l x h b r =
      let p = lower a i vs l x (copy_at a l x) h b r in
      let m = layer_after a l x p.states in
      let hm : m < a.kinds = after_below a p.states l x h in
      let be : p.end < a.size = run_below a i p.states x p.end b p.game_run in
      let e : p.end ≡ x = sym (same_state l m x p.end h hm b be p.ends) in
      record { states = p.states; lifts = p.lifts; game_run = rw e at p.game_run; back = sym (same_layer l m x p.end h hm b be p.ends) }

  full_round : (xs : List ℕ) (l x : ℕ) (ws : List ℕ) (v : ℕ) → In v (lifted a l x xs) → PassesAll a xs → Run a.graph x xs x → Run a.graph a.graph.start ws x → FullRound a
  unfolding lifted
  full_round [] l x ws v j c r w = absurd (in_nil v j)
  full_round (y ∷ ys) l x ws v j c r w = round_from a x y ys ws r c w

  -- a reachable accepting cycle of the layers, in the game
  pub layers_game : FreeRound (layers a) → FullRound a
  layers_game (c, r) =
      let s = run_split (layers a) (c.first ∷ c.others) c.origin c.origin r.entry c.closed r.enters in
      let j = run_join (layers a) r.way s.1.0 (layers a).start r.entry c.origin r.leads s.1.1 in
      let p = lower a i (r.way ++ s.1.0) 0 a.graph.start c.origin i.some i.begins j in
      let l = layer_after a 0 a.graph.start p.states in
      let h : l < a.kinds = after_below a p.states 0 a.graph.start i.some in
      let b : p.end < a.size = run_below a i p.states a.graph.start p.end i.begins p.game_run in
      let t = closed (c.first ∷ c.others) l p.end h b (rw p.ends at c.closed) in
      let m : In c.payer (lifted a l p.end t.states) = rw t.lifts at c.passes in
      full_round t.states l p.end p.states c.payer m (closed_passes t.states l p.end c.payer h b t.game_run t.back m c.pays) t.game_run p.game_run

  -- ---- from the game to the layers

  -- a closed run that passes all kinds, taken again and again: o is its origin, xs are its states
  module _ (o : ℕ) (xs : List ℕ) (turn : Run a.graph o xs o) (full : (kind : ℕ) → kind < a.kinds → Leaves a kind o xs) where
    -- turns that begin in layer l and end in layer m
    abbrev Turns : ℕ → ℕ → Type 0
    Turns l m = (ys : List ℕ) × Run a.graph o ys o × (layer_after a l o ys ≡ m) × ((kind : ℕ) → kind < a.kinds → Leaves a kind o ys)

    -- a way from the start state to o in layer l
    abbrev Way : ℕ → Type 0
    Way l = (ys : List ℕ) × Run a.graph a.graph.start ys o × (layer_after a 0 a.graph.start ys ≡ l)

    abbrev turned : ℕ → ℕ
    turned l = layer_after a l o xs

    turns_more : (l m : ℕ) → Turns l m → Turns l (turned m)
    turns_more l m (ys, r, e, c) = (
      ys ++ xs,
      run_join a.graph ys xs o o o r turn,
      after_join a ys xs l o o r ∙ ap turned e,
      λ kind h. leaves_left a ys xs kind o (c kind h),
    )

    way_more : (l : ℕ) → Way l → Way (turned l)
    way_more l (ys, r, e) = (ys ++ xs, run_join a.graph ys xs a.graph.start o o r turn, after_join a ys xs 0 a.graph.start o r ∙ ap turned e)

    -- among K + 1 turns one begins in a layer in which an earlier one began
    layer_again : (fuel : ℕ) (seen : List ℕ) (l : ℕ) → length seen + fuel ≡ suc a.kinds → Once seen → ((m : ℕ) → In m seen → (m < a.kinds) × Turns m l) → l < a.kinds → Way l
        → (m : ℕ) × (m < a.kinds) × Way m × Turns m m
    layer_again zero seen l e d s h w = absurd (omega (arith, once_short seen (upto a.kinds) d (λ m j. upto_in m a.kinds (s m j).0), length_upto a.kinds))
    layer_again (suc f) seen l e d s h w = ⊎_elim
        (λ j. (l, h, w, (s l j).1))
        (λ u. layer_again f (l ∷ seen) (turned l) (omega arith) (u, d) (λ m j. ⊎_elim
        (λ z. rw z (h, (xs, turn, refl, full)))
        (λ k. ((s m k).0, turns_more m l (s m k).1)) (in_cases m l seen j)) (after_below a xs l o h) (way_more l w)) (either (elem l seen))

  -- a move out of an accepting state of the layers: that state is on the lifted run
  accepting_in : (xs : List ℕ) (l x y : ℕ) → l < a.kinds → x < a.size → Run a.graph x xs y → LeavesAccepting a l x xs
      → (v : ℕ) × In v (copy_at a l x ∷ lifted a l x xs) × ((layers a).accepting v ≡ true)
  unfolding lifted
  accepting_in [] l x y h b r c = absurd c
  accepting_in (z ∷ xs) l x y h b r (inl (e, t)) = (copy_at a l x, in_head (copy_at a l x) (lifted a l x (z ∷ xs)), accepting_at a l x h b ∙ rw (e, t))
  accepting_in (z ∷ xs) l x y h b r (inr c) =
      let q = accepting_in xs (lands a l x) z y (lands_below a l x h) (i.stays x z b r.0) r.1 c in
      (q.0, in_tail q.0 (copy_at a l x) (lifted a l x (z ∷ xs)) q.1, q.2)

  -- a closed run of the game that comes back to its layer and leaves a state that carries that layer's kind, lifted
  lifted_round : (o : ℕ) → o < a.size → (l : ℕ) → l < a.kinds → (ws : List ℕ) → Run a.graph a.graph.start ws o → layer_after a 0 a.graph.start ws ≡ l
      → (xs : List ℕ) → Run a.graph o xs o → layer_after a l o xs ≡ l → Leaves a l o xs → FreeRound (layers a)
  unfolding lifted
  lifted_round o b l h ws w e [] r f c = absurd c
  lifted_round o b l h ws w e (x ∷ xs) r f c =
      let run : Run (layers a) (copy_at a l o) (lifted a l o (x ∷ xs)) (copy_at a l o) = rw f at (lifted_run a i (x ∷ xs) l o o h b r) in
      let end : In (copy_at a l o) (lifted a l o (x ∷ xs)) = run_last (layers a) (lifted a (lands a l o) x xs) (copy_at a l o) (copy_at a (lands a l o) x) (copy_at a l o) run in
      let p = ⊎_elim (accepting_in (x ∷ xs) l o o h b r) (λ u. absurd (let k = u.1 c in omega (arith, ap (rank a) f))) (climbs a (x ∷ xs) l o h) in (
        record {
          origin = copy_at a l o;
          first = copy_at a (lands a l o) x;
          others = lifted a (lands a l o) x xs;
          closed = run;
          payer = p.0;
          pays = p.2;
          passes = ⊎_elim (λ z. rw z end) (λ j. j) (in_cases p.0 (copy_at a l o) (lifted a l o (x ∷ xs)) p.1);
        },
        record {
          way = lifted a 0 a.graph.start ws;
          entry = copy_at a l o;
          leads = rw e at (lifted_run a i ws 0 a.graph.start o i.some i.begins w);
          enters = end;
        },
      )

  -- a reachable closed run of the game that passes all kinds, in the layers
  pub game_layers : FullRound a → FreeRound (layers a)
  game_layers c =
      let xs = c.first ∷ c.others in
      let o = c.origin in
      let s = run_split a.graph xs o o c.entry c.closed c.enters in
      let ws = c.way ++ s.1.0 in
      let w = run_join a.graph c.way s.1.0 a.graph.start c.entry o c.leads s.1.1 in
      let b : o < a.size = run_below a i ws a.graph.start o i.begins w in
      let full : (kind : ℕ) → kind < a.kinds → Leaves a kind o xs = λ kind h. let q = c.passes_all kind h in passes_leaves a xs kind o q.0 c.closed q.1 q.2 in
      let t = layer_again o xs c.closed full (suc a.kinds) [] (layer_after a 0 a.graph.start ws) (omega arith) tt (λ m j. absurd (in_nil m j)) (after_below a ws 0 a.graph.start i.some) (ws, w, refl) in
      lifted_round o b t.0 t.1 t.2.0 t.2.1 t.2.2 t.3.0 t.3.1 t.3.2 (t.3.3 t.0 t.1)
