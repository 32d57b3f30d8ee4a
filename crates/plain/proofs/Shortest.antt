-- The searches for the shortest round: what they find is there, and what they rule out is not. Assumes nothing.
use mathlib.Core.Path.{◌≡◌, refl, sym, ap, ◌∙◌}
use mathlib.Core.Logic.{◌≢◌, ◌⊎◌, inl, inr, ⊎_elim}
use mathlib.Core.Bool.{true}
use mathlib.Core.List.{List, [], ◌∷◌, ◌++◌}
use Prim.Native.Nat.{ℕ, zero, suc, ◌+◌, ◌≤◌, ◌<◌}
use native.Mathlib.Decide.{dec_le}
use native.Mathlib.Omega.{arith}
use lib.Dec.{ltb}
use lib.ListN.{length, drop, length-append, length-map}
use borrow.Author.Tests.{lt-ltb, le-ltb}
use Rattle.plain.specs.Lists.{In}
use Rattle.plain.specs.Search.{Graph, Verdict, none, lasso, unfinished, verdict}
use Rattle.plain.specs.Cycles.{Run, Kinded, PassesAll, FullRound, round_length, FullLasso}
use Rattle.plain.specs.Layers.{state_at}
use Rattle.plain.specs.Table.{Table, carried_by, graph_of, game_of, printed, final}
use Rattle.plain.specs.Shortest.{leads, roots, through, back, sweep, targets_of, levels, search_from, succeeded, ruled_out, Hunt, found_at, left_at, attempt, hunt}
use Rattle.plain.specs.Refusals.{first_held}
use Rattle.plain.specs.Questions.{short, no_reply, shortest, no_round, question_trial, hunt_in, lengths_for, short_reply, question_reply, reply_to, reply_line}
use Rattle.plain.specs.Claims.{Arises, LengthsTrue, LineTrue}
use Rattle.plain.proofs.Tests.{in_nil, in_head, in_tail, in_cases, in_one, in_append, in_left, to_end}
use Rattle.plain.proofs.Runs.{some_first, run_join, Away, last_move, run_split}
use Rattle.plain.proofs.Passing.{run_last, round_from, round_reached}
use Rattle.plain.proofs.Trials.{held_first, held_later}
use Rattle.plain.proofs.Tables.{Valid, valid}
use Rattle.plain.proofs.Demands.{inside_game, verdict_right}
use Rattle.plain.proofs.Sweeps.{sweep_cases, attempt_cases, through_back, back_stopped, ruled_succeeded, succeeded_ran, found_left, same_through, same_found, same_left, Swept, swept, swept_level, swept_back, in_targets, targets_in, levels_over, levels_on, levels_stop, levels_went, attempt_over, attempt_on, attempt_stop, attempt_went, hunt_over, hunt_on, hunt_found, hunt_left}
use Rattle.plain.proofs.Reached.{Near, away_snoc, leads_run, run_leads, root_reached, reached_root}

-- ---- the levels of one search

module _ (g : Graph) where
  -- every run of one or more moves from a to s has more than d moves
  abbrev pub Farther : ℕ → ℕ → ℕ → Type 0
  Farther d a s = (x : ℕ) (xs : List ℕ) → Run g a (x ∷ xs) s → d < length (x ∷ xs)

  -- A search from a that ends where a look comes back to s, before the looks at the moves of a level d moves away.
  pub record Level (a s d : ℕ) (level seen : List ℕ) : Type 0 where
    pub near : (y : ℕ) → Near g d a y → In y seen
    pub seen_near : (y : ℕ) → In y seen → Near g d a y
    pub away : (y : ℕ) → In y level → Away g d a y
    -- a move of a state that was seen did not come back, and its target was seen; or the state is of the level
    pub done : (y z : ℕ) → In y seen → In z (g.successors y) → ((z ≢ s) × In z seen) ⊎ In y level
    pub ruled : Farther d a s

  level_first : (a s : ℕ) → Level a s 0 (a ∷ []) (a ∷ [])
  level_first a s = record {
    near = λ y (xs, r, h). at_once y xs r h;
    seen_near = λ y i. ([], sym (in_one y a i), omega arith);
    away = λ y i. ([], sym (in_one y a i), refl);
    done = λ y z i j. inr i;
    ruled = λ x xs r. omega arith;
  }
    where
      at_once : (y : ℕ) (xs : List ℕ) → Run g a xs y → length xs ≤ 0 → In y (a ∷ [])
      at_once y [] r h = rw (sym r) (in_head a [])
      at_once y (z ∷ xs) r h = absurd (omega arith)

  -- The next level is of the states that were new.
  level_next : (a s d : ℕ) (level seen seen' : List ℕ) → Level a s d level seen → Swept s (targets_of g level) seen seen' → Level a s (suc d) (drop (length seen) seen') seen'
  level_next a s d level seen seen' v w = record {
    near = λ y (xs, r, h). near_more y xs r h;
    seen_near = λ y i. ⊎_elim
        (λ j. let n = v.seen_near y j in (n.0, n.1, omega (arith, n.2)))
        (λ j. let n = new_away y j in (n.0, n.1, omega (arith, n.2)))
        (in_append y seen w.news (rw w.grown at i));
    away = λ y i. new_away y (rw fresh at i);
    done = λ y z i j. ⊎_elim (λ k. inl (passed y z k j)) (λ k. inr (rw fresh k)) (in_append y seen w.news (rw w.grown at i));
    ruled = ruled_more;
  }
    where
      fresh : drop (length seen) seen' ≡ w.news
      fresh = swept_level s (targets_of g level) seen seen' w

      passed : (y z : ℕ) → In y seen → In z (g.successors y) → (z ≢ s) × In z seen'
      passed y z i j = ⊎_elim
          (λ c. (c.0, rw w.grown (in_left z seen w.news c.1)))
          (λ c. w.each z (in_targets g y z level c j)) (v.done y z i j)

      new_away : (y : ℕ) → In y w.news → Away g (suc d) a y
      new_away y i = let t = targets_in g y level (w.only y i) in away_snoc g d a t.0 y (v.away t.0 t.1) t.2

      near_more : (y : ℕ) (xs : List ℕ) → Run g a xs y → length xs ≤ suc d → In y seen'
      near_more y [] r h = rw w.grown (in_left y seen w.news (v.near y ([], r, omega arith)))
      near_more y (x ∷ xs) r h =
          let m = last_move g xs a x y r in
          (passed m.0 y (v.near m.0 (m.1.0, m.1.1, omega (arith, m.1.2))) m.2).1

      ruled_more : Farther (suc d) a s
      ruled_more x xs r = elim (dec_le (length xs) d) [
        | yes h ↦ let m = last_move g xs a x s r in
            absurd ((passed m.0 s (v.near m.0 (m.1.0, m.1.1, omega (arith, m.1.2))) m.2).0 refl)
        | no h ↦ omega arith
      ]

module _ (g : Graph) (b : ℕ) where
  -- What l levels come to, from distance d on. None came back: the states seen are those at most D = d + l moves away.
  levels_through : (l a s d D : ℕ) (level seen : List ℕ) (n : ℕ) (seen' : List ℕ) (m : ℕ) → d + l ≡ D → Level g a s d level seen → levels g b l s level seen n ≡ through seen' m
      → (level' : List ℕ) × Level g a s D level' seen'
  levels_through zero a s d D level seen n seen' m h v e =
      let k : d ≡ D = omega arith in
      (level, rw (← (same_through (sym (levels_over g b s level seen n) ∙ e)).0, ← k) v)
  levels_through (suc l) a s d D level seen n seen' m h v e =
      let (ys, k, p, q) = levels_went g b l s level seen n seen' m e in
      levels_through l a s (suc d) D (drop (length seen) ys) ys k seen' m (omega arith) (level_next g a s d level seen ys v (swept b s (targets_of g level) seen n ys k p)) q

  -- A look came back: a run of one or more moves leads from a to s, of at most D moves.
  levels_return : (l a s d D : ℕ) (level seen : List ℕ) (n : ℕ) → d + l ≡ D → Level g a s d level seen → levels g b l s level seen n ≡ back
      → (k : ℕ) × Away g k a s × (1 ≤ k) × (k ≤ D)
  levels_return zero a s d D level seen n h v e = absurd (through_back _ (levels_over g b s level seen n) e)
  levels_return (suc l) a s d D level seen n h v e = ⊎_elim
      (λ r. levels_return l a s (suc d) D (drop (length seen) r.0) r.0 r.1 (omega arith)
      (level_next g a s d level seen r.0 v (swept b s (targets_of g level) seen n r.0 r.1 r.2)) (sym (levels_on g b l s level seen n r.0 r.1 r.2) ∙ e))
      (⊎_elim
      (λ r.
      let t = targets_in g s level (swept_back b s (targets_of g level) seen n r) in
      (suc d, away_snoc g d a t.0 s (v.away t.0 t.1) t.2, omega arith, omega arith))
      (λ r. absurd (back_stopped _ e (levels_stop g b l s level seen n r))))
      (sweep_cases (sweep b s (targets_of g level) seen n))

  -- A search from a that runs through its l levels has seen the states that at most l moves lead to.
  pub levels_seen : (l a s n : ℕ) (seen : List ℕ) (m : ℕ) → levels g b l s (a ∷ []) (a ∷ []) n ≡ through seen m
      → (y : ℕ) → (In y seen → leads g l a y ≡ true) × (leads g l a y ≡ true → In y seen)
  levels_seen l a s n seen m e y =
      let v = (levels_through l a s 0 l (a ∷ []) (a ∷ []) n seen m (omega arith) (level_first g a s) e).1 in
      (λ i. let r = v.seen_near y i in run_leads g r.0 l a y r.1 r.2, λ h. v.near y (leads_run g l a y h))

  -- No look comes back to what is the target of no move.
  pub levels_never_back : (s : ℕ) → ((y z : ℕ) → In z (g.successors y) → z ≢ s) → (l : ℕ) (level seen : List ℕ) (n : ℕ) → levels g b l s level seen n ≢ back
  levels_never_back s away zero level seen n e = through_back _ (levels_over g b s level seen n) e
  levels_never_back s away (suc l) level seen n e = ⊎_elim
      (λ r. levels_never_back s away l (drop (length seen) r.0) r.0 r.1 (sym (levels_on g b l s level seen n r.0 r.1 r.2) ∙ e))
      (⊎_elim
      (λ r. let t = targets_in g s level (swept_back b s (targets_of g level) seen n r) in away t.0 s t.2 refl)
      (λ r. back_stopped _ e (levels_stop g b l s level seen n r)))
      (sweep_cases (sweep b s (targets_of g level) seen n))

  -- A search from s that runs through: every closed run from s has more than l moves.
  pub search_through : (l s n : ℕ) (seen : List ℕ) (m : ℕ) → search_from g b l s n ≡ through seen m → Farther g l s s
  search_through l s n seen m e = (levels_through l s s 0 l (s ∷ []) (s ∷ []) n seen m (omega arith) (level_first g s s) e).1.ruled

  -- One that comes back: there is a closed run from s, of at least 1 and at most l moves.
  pub search_back : (l s n : ℕ) → search_from g b l s n ≡ back → (k : ℕ) × Away g k s s × (1 ≤ k) × (k ≤ l)
  search_back l s n e = levels_return l s s 0 l (s ∷ []) (s ∷ []) n (omega arith) (level_first g s s) e

-- ---- the lengths

module _ (g : Graph) (b : ℕ) where
  -- A length that is ruled out: every closed run from the states has more moves.
  pub attempt_ruled : (l : ℕ) (rs : List ℕ) (n m : ℕ) → attempt g b l rs n ≡ ruled_out m → (s : ℕ) → In s rs → Farther g l s s
  attempt_ruled l [] n m e s i = absurd (in_nil s i)
  attempt_ruled l (r ∷ rs) n m e s i =
      let (seen, k, p, q) = attempt_went g b l r rs n m e in
      ⊎_elim (λ z. rw z (search_through g b l r n seen k p)) (attempt_ruled l rs k m q s) (in_cases s r rs i)

  -- A success: one of the states has a closed run of at least 1 and at most l moves.
  pub attempt_found : (l : ℕ) (rs : List ℕ) (n : ℕ) → attempt g b l rs n ≡ succeeded → (s : ℕ) × In s rs × (k : ℕ) × Away g k s s × (1 ≤ k) × (k ≤ l)
  attempt_found l [] n e = absurd (ruled_succeeded _ (attempt_over g b l n) e)
  attempt_found l (r ∷ rs) n e = ⊎_elim
      (λ o. let q = attempt_found l rs o.1 (sym (attempt_on g b l r rs n o.0 o.1 o.2) ∙ e) in (q.0, in_tail q.0 r rs q.1, q.2, q.3, q.4, q.5))
      (⊎_elim
      (λ o. let q = search_back g b l r n o in (r, in_head r rs, q.0, q.1, q.2, q.3))
      (λ o. absurd (succeeded_ran _ e (attempt_stop g b l r rs n o))))
      (sweep_cases (search_from g b l r n))

-- of closed runs, which have one or more moves, from some states
module _ (g : Graph) (rs : List ℕ) where
  -- each has at least l moves
  abbrev pub AtLeast : ℕ → Type 0
  AtLeast l = (s : ℕ) → In s rs → (x : ℕ) (xs : List ℕ) → Run g s (x ∷ xs) s → l ≤ length (x ∷ xs)

  -- one has l moves
  abbrev pub Closes : ℕ → Type 0
  Closes l = (s : ℕ) × In s rs × (x : ℕ) × (xs : List ℕ) × Run g s (x ∷ xs) s × (length (x ∷ xs) ≡ l)

  pub closes : (s k : ℕ) → In s rs → Away g k s s → 1 ≤ k → Closes k
  closes s k i (xs, r, e) h = by_moves xs r e
    where
      by_moves : (xs : List ℕ) → Run g s xs s → length xs ≡ k → Closes k
      by_moves [] r e = absurd (omega arith)
      by_moves (x ∷ xs) r e = (s, i, x, xs, r, e)

  module _ (b : ℕ) where
    -- Found: a closed run has that many moves, and none has fewer.
    pub hunt_finds : (k l n m : ℕ) → AtLeast l → hunt g b rs k l n ≡ found_at m → Closes m × AtLeast m
    hunt_finds zero l n m h e = absurd (found_left _ e (hunt_over g b rs l n))
    hunt_finds (suc k) l n m h e = ⊎_elim
        (λ o. hunt_finds k (suc l) o.0 m (attempt_ruled g b l rs n o.0 o.1) (sym (hunt_on g b rs k l n o.0 o.1) ∙ e))
        (⊎_elim
        (λ o.
        let z : l ≡ m = same_found (sym (hunt_found g b rs k l n o) ∙ e) in
        let q = attempt_found g b l rs n o in
        let c = closes q.0 q.2 q.1 q.3 q.4 in
        let d : q.2 ≡ m = omega (arith, h c.0 c.1 c.2 c.3 c.4, c.5, q.5) in
        (rw d at c, rw z at h))
        (λ o. absurd (found_left _ e (hunt_left g b rs k l n o))))
        (attempt_cases (attempt g b l rs n))

    -- Left: none has fewer.
    pub hunt_leaves : (k l n m : ℕ) → AtLeast l → hunt g b rs k l n ≡ left_at m → AtLeast m
    hunt_leaves zero l n m h e = let z : l ≡ m = same_left (sym (hunt_over g b rs l n) ∙ e) in rw z at h
    hunt_leaves (suc k) l n m h e = ⊎_elim
        (λ o. hunt_leaves k (suc l) o.0 m (attempt_ruled g b l rs n o.0 o.1) (sym (hunt_on g b rs k l n o.0 o.1) ∙ e))
        (⊎_elim
        (λ o. absurd (found_left _ (hunt_found g b rs k l n o) e))
        (λ o. let z : l ≡ m = same_left (sym (hunt_left g b rs k l n o) ∙ e) in rw z at h))
        (attempt_cases (attempt g b l rs n))

-- ---- rounds, and closed runs from a state that is searched from

module _ (g : Graph) where
  -- a closed run can be begun at any state that it comes to
  pub rotated : (xs : List ℕ) (a c : ℕ) → Run g a xs a → In c xs → Away g (length xs) c c
  rotated xs a c r i =
      let q = run_split g xs a a c r i in
      let us = q.0.0 ∷ q.0.1 in
      (q.1.0 ++ us, run_join g q.1.0 us c a c q.1.1 q.0.2, omega (arith, length-append q.1.0 us, q.2))

-- the round of a walk has its states, and as many moves
pub walk_round : (a : Kinded) (stem cycle : List ℕ) → FullLasso a stem cycle → (f : FullRound a) × (round_length a f ≡ length cycle) × ((s : ℕ) → In s cycle → In s (f.first ∷ f.others))
walk_round a stem cycle w =
    let (y, ys, e) = some_first w.others w.entry in
    let long = length-append w.others (w.entry ∷ []) in
    (round_from a w.entry y ys w.way (rw e at w.closes) (rw e at all) w.leads, omega (arith, ap length e, ap length w.cycle_is), rw e at moved)
  where
    moved : (s : ℕ) → In s cycle → In s (w.others ++ (w.entry ∷ []))
    moved s i = to_end w.entry s w.others (rw w.cycle_is at i)

    all : PassesAll a (w.others ++ (w.entry ∷ []))
    all kind h = let q = w.passes_all kind h in (q.0, moved q.0 q.1, q.2)

-- the states of a table that are searched from
abbrev pub roots_of : Table → List ℕ
roots_of t = roots (graph_of t) t.size

module _ (t : Table) (v : Valid t) (one : t.kinds ≡ 1) where
  -- A round of the game, begun at a paying state that it passes.
  pub round_root : (f : FullRound (game_of t)) → Closes (graph_of t) (roots_of t) (round_length (game_of t) f)
  round_root f =
      let g = graph_of t in
      let xs = f.first ∷ f.others in
      let i = inside_game t v in
      let p = f.passes_all 0 (omega (arith, one)) in
      let way = round_reached (game_of t) f p.0 p.1 in
      closes g (roots_of t) p.0 (length xs) (reached_root g t.size i.begins i.stays p.0 p.2 way) (rotated g xs f.origin p.0 f.closed p.1) (omega arith)

  -- And a closed run from such a state is a round.
  pub root_round : (k : ℕ) → Closes (graph_of t) (roots_of t) k → (f : FullRound (game_of t)) × (round_length (game_of t) f ≡ k)
  root_round k (s, j, x, xs, r, e) =
      let i = inside_game t v in
      let h = root_reached (graph_of t) t.size i.begins i.stays s j in
      let last = run_last (graph_of t) xs s x s r in
      let all : PassesAll (game_of t) (x ∷ xs) = λ kind d. let z : kind ≡ 0 = omega (arith, one) in (s, last, ap (λ m. carried_by t.marks m s) z ∙ h.0) in
      (round_from (game_of t) s x xs h.1.0 r all h.1.1, e)

-- ---- the line `short`

-- with one kind it is not refused
short_accepted : (t : Table) (b : ℕ) → t.kinds ≡ 1 → reply_to (short b) t ≡ short_reply (verdict (final t)) b t
unfolding reply_to question_trial question_reply first_held
short_accepted t b one = ap (λ w. question_reply w (short b) t) (held_later (17, ltb 1 t.kinds) [] (le-ltb 1 t.kinds (omega (arith, one))))

pub shortest_none : {best least : ℕ} → shortest best least ≡ no_round → ⊥
shortest_none e = let z : ◌≡◌ {A = ℕ} 0 1 = cc in omega arith

refusal_none : {n : ℕ} → no_reply n ≡ no_round → ⊥
refusal_none e = let z : ◌≡◌ {A = ℕ} 0 1 = cc in omega arith

module _ (t : Table) (v : Valid t) where
  -- "17, K is above 1"
  pub several_kinds : (b : ℕ) → 1 < t.kinds → reply_to (short b) t ≡ no_reply 17
  unfolding reply_to question_trial question_reply
  several_kinds b h = ap (λ w. question_reply w (short b) t) (held_first (17, ltb 1 t.kinds) [] (lt-ltb 1 t.kinds h))

  -- "With no round the line is `none` alone, for every B."
  pub none_if : (b : ℕ) → t.kinds ≡ 1 → (FullRound (game_of t) → ⊥) → reply_to (short b) t ≡ no_round
  unfolding short_reply
  none_if b one n = short_accepted t b one ∙ ap (λ w. short_reply w b t) ((verdict_right t v).none_if n)

  module _ (one : t.kinds ≡ 1) where
    -- what is ruled out for closed runs is ruled out for rounds
    pub none_shorter : (l : ℕ) → AtLeast (graph_of t) (roots_of t) l → (f : FullRound (game_of t)) → l ≤ round_length (game_of t) f
    none_shorter l h f = let c = round_root t v one f in omega (arith, h c.0 c.1 c.2 c.3 c.4, c.5)

    -- the present walk's round
    pub present_round : (stem cycle : List ℕ) → verdict (final t) ≡ lasso stem cycle → (f : FullRound (game_of t)) × (round_length (game_of t) f ≡ length cycle)
    unfolding printed
    present_round stem cycle e =
        let w = walk_round (game_of t) (printed t stem) (printed t cycle) ((verdict_right t v).walk stem cycle e) in
        (w.0, w.1 ∙ length-map cycle (state_at (game_of t)))

    lengths_found : (b k l : ℕ) → hunt_in t b k ≡ found_at l → LengthsTrue t l l
    unfolding hunt_in
    lengths_found b k l e =
        let h = hunt_finds (graph_of t) (roots_of t) b k 1 0 l (λ s i x xs r. omega arith) e in
        let f = root_round t v one l h.0 in
        record { round = f.0; best_is = f.1; none_shorter = none_shorter l h.1; ordered = omega arith }

    lengths_left : (b l : ℕ) (stem cycle : List ℕ) → verdict (final t) ≡ lasso stem cycle → hunt_in t b (length cycle) ≡ left_at l → LengthsTrue t (length cycle) l
    unfolding hunt_in
    lengths_left b l stem cycle w e =
        let h = hunt_leaves (graph_of t) (roots_of t) b (length cycle) 1 0 l (λ s i x xs r. omega arith) e in
        let f = present_round stem cycle w in
        let n = none_shorter l h in
        record { round = f.0; best_is = f.1; none_shorter = n; ordered = omega (arith, n f.0, f.1) }

  -- "Found within B, both are the shortest length.", over all free rounds of the table
  pub found : (b l : ℕ) (stem cycle : List ℕ) → t.kinds ≡ 1 → verdict (final t) ≡ lasso stem cycle → hunt_in t b (length cycle) ≡ found_at l
      → (reply_to (short b) t ≡ shortest l l) × LengthsTrue t l l
  unfolding short_reply lengths_for
  found b l stem cycle one w e =
      (short_accepted t b one ∙ ap (λ x. short_reply x b t) w ∙ ap (lengths_for (length cycle)) e, lengths_found one b (length cycle) l e)

  -- "Otherwise the first is the present walk's round length", and no free round is shorter than the second
  pub otherwise : (b l : ℕ) (stem cycle : List ℕ) → t.kinds ≡ 1 → verdict (final t) ≡ lasso stem cycle → hunt_in t b (length cycle) ≡ left_at l
      → (reply_to (short b) t ≡ shortest (length cycle) l) × LengthsTrue t (length cycle) l
  unfolding short_reply lengths_for
  otherwise b l stem cycle one w e =
      (short_accepted t b one ∙ ap (λ x. short_reply x b t) w ∙ ap (lengths_for (length cycle)) e, lengths_left one b l stem cycle w e)

  -- What can be replied, with one kind: that there is no round, or two lengths.
  pub data Replied (b : ℕ) : Type 0 where
    without_round : reply_to (short b) t ≡ no_round → (FullRound (game_of t) → ⊥) → Replied b
    lengths : (best least : ℕ) → reply_to (short b) t ≡ shortest best least → LengthsTrue t best least → Replied b

  pub replied : (b : ℕ) → t.kinds ≡ 1 → Replied b
  replied b one = by_verdict (verdict (final t)) refl
    where
      by_hunt : (stem cycle : List ℕ) → verdict (final t) ≡ lasso stem cycle → (h : Hunt) → hunt_in t b (length cycle) ≡ h → Replied b
      by_hunt stem cycle w (found_at l) e = let r = found b l stem cycle one w e in lengths l l r.0 r.1
      by_hunt stem cycle w (left_at l) e = let r = otherwise b l stem cycle one w e in lengths (length cycle) l r.0 r.1

      by_verdict : (w : Verdict) → verdict (final t) ≡ w → Replied b
      by_verdict none e = let n = (verdict_right t v).none_only e in without_round (none_if b one n) n
      by_verdict (lasso stem cycle) e = by_hunt stem cycle e (hunt_in t b (length cycle)) refl
      by_verdict unfinished e = absurd ((verdict_right t v).ends e)

  -- a table has one kind, or several
  one_or_several : (t.kinds ≡ 1) ⊎ (1 < t.kinds)
  one_or_several = elim (dec_le t.kinds 1) [ yes h ↦ inl (omega (arith, v.some_kind)) | no h ↦ inr (omega arith) ]

  pub none_only : (b : ℕ) → reply_to (short b) t ≡ no_round → FullRound (game_of t) → ⊥
  none_only b e f = ⊎_elim (λ one. by_reply (replied b one)) (λ h. refusal_none (sym (several_kinds b h) ∙ e)) one_or_several
    where
      by_reply : Replied b → ⊥
      by_reply (without_round r n) = n f
      by_reply (lengths best least r l) = shortest_none (sym r ∙ e)

  -- The line that tells it is true.
  pub line_true : (b : ℕ) → LineTrue (reply_line (reply_to (short b) t)) t
  unfolding reply_line
  line_true b = ⊎_elim (λ one. by_reply (replied b one)) (λ h. rw (several_kinds b h) (λ z. omega arith)) one_or_several
    where
      by_reply : Replied b → LineTrue (reply_line (reply_to (short b) t)) t
      by_reply (without_round r n) = rw r n
      by_reply (lengths best least r l) = rw r l

-- of every table that a session can hold
pub short_told : (t : Table) → Arises t → (b : ℕ) → LineTrue (reply_line (reply_to (short b) t)) t
short_told t a b = line_true t (valid t a) b
