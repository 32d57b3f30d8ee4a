-- Demand 2 and the meaning of "kept", for every table that a session can hold. Assumes nothing.
use mathlib.Core.Path.{◌≡◌, refl, sym, ap, ◌∙◌}
use mathlib.Core.Logic.{◌≢◌, ◌⊎◌, inl, inr, ⊎_elim}
use mathlib.Core.Bool.{true, false}
use mathlib.Core.List.{List, [], ◌∷◌, ◌++◌, map, reverse, reverse-append}
use Prim.Native.Nat.{ℕ, ◌+◌, ◌*◌, ◌-◌, ◌≤◌, ◌<◌}
use native.Mathlib.Nat.{mul_comm}
use native.Mathlib.Omega.{arith}
use lib.Dec.{eqb}
use lib.ListN.{length, take, length-append, length-reverse}
use lib.Seq.{take_at, drop_at}
use borrow.Author.Tests.{leb-false}
use Rattle.plain.specs.Lists.{any, elem, In, Once}
use Rattle.plain.specs.Search.{Graph, Edge, Config, discovered_of, probes_of, taken, count, meets, begin, run, until, Verdict, none, lasso, unfinished, verdict}
use Rattle.plain.specs.Cycles.{Lasso, FullRound}
use Rattle.plain.specs.Layers.{state_of}
use Rattle.plain.specs.Table.{Table, one, row, game_of, searched, copies_in, printed, printed_verdict, budget, final, first_meeting}
use Rattle.plain.specs.Refusals.{bad_start, outside, accepted}
use Rattle.plain.specs.Unexplored.{Shared, bare}
use Rattle.plain.specs.Machine.{Update, changes_of, applied, named_by, update_trial, keeps_all, kept_part, kept}
use Rattle.plain.specs.Notes.{Notes, notes, Faithful}
use Rattle.plain.specs.Claims.{Arises, times, VerdictRight, clear, round, report_of, ReportRight, KeptRight}
use Rattle.plain.proofs.Tests.{contra, either, not_in, in_head, one_le, none_cons, any_in}
use Rattle.plain.proofs.Upto.{upto, once_upto, length_upto}
use Rattle.plain.proofs.Lifting.{Inside}
use Rattle.plain.proofs.LayerRounds.{layers_game, game_layers}
use Rattle.plain.proofs.LayerWalks.{plain_walk}
use Rattle.plain.proofs.LayerSizes.{all_states, start_among, stays_among, moves_layers}
use Rattle.plain.proofs.Runs.{lasso_free, lasso_inside}
use Rattle.plain.proofs.Lassos.{sound, none_right}
use Rattle.plain.proofs.Bounds.{left, left_add, left_const, left_alone, once_short, times_reverse, probes_twice, each_twice, ended_by}
use Rattle.plain.proofs.Prefix.{FirstMeeting, first_meeting_lem}
use Rattle.plain.proofs.Resume.{one_end, one_until, met_at_end, until_end, until_at, probes_grow, holds_notes, resumed}
use Rattle.plain.proofs.Edges.{Has, has_cases, has_nil}
use Rattle.plain.proofs.Rows.{row_nil, row_length, row_has}
use Rattle.plain.proofs.Tables.{Valid, valid, inside_both}
use Rattle.plain.proofs.SameRun.{shared_unmet, same_run, same_faithful, alike_discovered, alike_probes, alike_verdict}
use Rattle.plain.proofs.Unexplored.{rows_once}
use Rattle.plain.proofs.Batches.{AllWithin, all_within, update_made, update_valid, update_size, update_kinds, update_copies, update_agree, keeps_shared}

-- ---- the rows of different states hold at most the edges of the table

-- the lengths of the rows of us, added
abbrev total : List Edge → List ℕ → ℕ
total es us = left (λ x. length (row es x)) [] us

pub total_le : (es : List Edge) (us : List ℕ) → Once us → total es us ≤ length es
total_le [] us o =
    let none : total [] us ≡ left (λ x. 0) [] us = λ i. left (λ x. length (row_nil x i)) [] us in
    omega (arith, left_const 0 us)
total_le (e ∷ es) us o =
    let more : total (e ∷ es) us ≡ left (λ x. one (eqb e.0 x) + length (row es x)) [] us = λ i. left (λ x. row_length e es x i) [] us in
    omega (
      arith,
      left_add (λ x. one (eqb e.0 x)) (λ x. length (row es x)) us,
      left_alone (λ x. one (eqb e.0 x)) e.0 (λ x f. rw f) us o,
      one_le (eqb e.0 e.0),
      total_le es us o,
    )

has_inside : (n : ℕ) (es : List Edge) (e : Edge) → any (outside n) es ≡ false → Has es e → outside n e ≡ false
has_inside n [] e f h = has_nil e h
has_inside n (x ∷ es) e f h =
    let w = none_cons (outside n) x es f in
    ⊎_elim (λ z. rw z w.0) (has_inside n es e w.1) (has_cases e x es h)

-- ---- the layers of a table's game

-- the states of the graph that is searched
abbrev pub states : Table → List ℕ
states t = all_states (game_of t)

states_once : (t : Table) → Once (states t)
states_once t = once_upto (t.kinds * t.size)

pub states_count : (t : Table) → length (states t) ≡ t.kinds * t.size
states_count t = length_upto (t.kinds * t.size)

module _ (t : Table) (v : Valid t) where
  pub target_below : (x y : ℕ) → In y (row t.edges x) → y < t.size
  target_below x y j = (inside_both t.size (x, y) (has_inside t.size t.edges (x, y) v.inside (row_has t.edges x y j))).1

  pub source_below : (x y : ℕ) → In y (row t.edges x) → x < t.size
  source_below x y j = (inside_both t.size (x, y) (has_inside t.size t.edges (x, y) v.inside (row_has t.edges x y j))).0

  -- the game has its start state, and its moves stay among its states
  pub inside_game : Inside (game_of t)
  unfolding bad_start
  inside_game = record { some = v.some_kind; begins = leb-false t.size t.start v.start_ok; stays = λ x y b j. target_below x y j }

  pub start_in : In (searched t).start (states t)
  start_in = start_among (game_of t) inside_game

  pub target_in : (x y : ℕ) → In x (states t) → In y ((searched t).successors x) → In y (states t)
  target_in x y i j = stays_among (game_of t) inside_game x y i j

  pub edges_few : left (λ x. length ((searched t).successors x)) [] (states t) ≤ t.kinds * length t.edges
  edges_few = moves_layers (game_of t) inside_game (length t.edges) (total_le t.edges (upto t.size) (once_upto t.size))

-- ---- demand 2

module _ (t : Table) (v : Valid t) where
  -- The search ends within its budget.
  pub ended_within : (n : ℕ) → budget t ≤ n → verdict (run (searched t) n) ≢ unfinished
  unfolding budget
  ended_within n h = ended_by (searched t) (states t) (start_in t v) (target_in t v) n (omega (arith, edges_few t v, states_count t))

  pub ends : verdict (final t) ≢ unfinished
  unfolding final
  ends = ended_within (budget t) (omega arith)

  looks_few : count (final t) ≤ 2 * (length t.edges * t.kinds)
  unfolding final
  looks_few = omega (arith, probes_twice (searched t) (states t) (start_in t v) (target_in t v) (budget t), edges_few t v, mul_comm t.kinds (length t.edges))

  each_few : (e : Edge) → times e (taken (final t)) ≤ 2
  unfolding final taken
  each_few e = omega (
    arith,
    times_reverse e (probes_of (final t)),
    each_twice (searched t) (states t) (start_in t v) (target_in t v) (states_once t) (rows_once t v) (budget t) e,
  )

  walk_right : (stem cycle : List ℕ) → verdict (final t) ≡ lasso stem cycle → Lasso (searched t) stem cycle
  unfolding final
  walk_right stem cycle e = sound (searched t) (budget t) stem cycle e

  walk_short : (stem cycle : List ℕ) → verdict (final t) ≡ lasso stem cycle → length stem + length cycle ≤ t.size * t.kinds
  walk_short stem cycle e =
      let w = walk_right stem cycle e in
      omega (
        arith,
        length-append stem cycle,
        states_count t,
        mul_comm t.kinds t.size,
        once_short (stem ++ cycle) (states t) w.once (lasso_inside (searched t) (states t) (target_in t v) (start_in t v) stem cycle w),
      )

  none_when : (FullRound (game_of t) → ⊥) → verdict (final t) ≡ none
  none_when n = by_verdict (verdict (final t)) refl
    where
      by_verdict : (w : Verdict) → verdict (final t) ≡ w → w ≡ none
      by_verdict none e = refl
      by_verdict (lasso stem cycle) e = absurd (n (layers_game (game_of t) (inside_game t v) (lasso_free (searched t) stem cycle (walk_right stem cycle e))))
      by_verdict unfinished e = absurd (ends e)

  pub verdict_right : VerdictRight t
  unfolding final printed
  verdict_right = record {
    ends = ends;
    none_only = λ e f. none_right (searched t) (budget t) e (game_layers (game_of t) (inside_game t v) f);
    none_if = none_when;
    walk = λ stem cycle e. plain_walk (game_of t) (inside_game t v) stem cycle (walk_right stem cycle e);
    once = λ stem cycle e. (walk_right stem cycle e).once;
    short = walk_short;
    looks = looks_few;
    each = each_few;
  }

-- DEMAND 2, of the plain answers
pub demand_2 : (t : Table) → Arises t → VerdictRight t
demand_2 t a = verdict_right t (valid t a)

parts : (stem cycle : List ℕ) (a b : ℕ) (walk : List ℕ) → round (length stem) (length cycle) (stem ++ cycle) ≡ round a b walk
    → (length stem ≡ a) × (length cycle ≡ b) × (stem ++ cycle ≡ walk)
parts stem cycle a b walk e = ((cc), (cc), (cc))

-- and of the verdict as a caller gets it
pub verdict_report : (t : Table) → VerdictRight t → ReportRight (report_of (printed_verdict t (verdict (final t)))) t
unfolding report_of printed_verdict
verdict_report t r = by_verdict (verdict (final t)) refl
  where
    apart : (stem cycle : ℕ) (walk : List ℕ) → round stem cycle walk ≡ clear → ⊥
    apart stem cycle walk e = let z : ◌≡◌ {A = ℕ} 0 1 = cc in omega arith

    other_verdict : (stem cycle : List ℕ) → lasso stem cycle ≡ none → ⊥
    other_verdict stem cycle e = let z : ◌≡◌ {A = ℕ} 0 1 = cc in omega arith

    by_verdict : (w : Verdict) → verdict (final t) ≡ w → ReportRight (report_of (printed_verdict t w)) t
    by_verdict none e = record {
      clear_only = λ z f. r.none_only e f;
      clear_if = λ n. refl;
      lengths = λ a b walk z. absurd (apart a b walk (sym z));
      lasso_there = λ a b walk z. absurd (apart a b walk (sym z));
    }
    by_verdict (lasso stem cycle) e = record {
      clear_only = λ z f. apart (length (printed t stem)) (length (printed t cycle)) (printed t stem ++ printed t cycle) z;
      clear_if = λ n. absurd (other_verdict stem cycle (sym e ∙ r.none_if n));
      lengths = λ a b walk z. let k = parts (printed t stem) (printed t cycle) a b walk z in omega (arith, k, length-append (printed t stem) (printed t cycle), ap length k.2);
      lasso_there = λ a b walk z. let k = parts (printed t stem) (printed t cycle) a b walk z in
          rw (← k.2, take_at (printed t stem) (printed t cycle) a k.0, drop_at (printed t stem) (printed t cycle) a k.0) (r.walk stem cycle e);
    }
    by_verdict unfinished e = absurd (r.ends e)

pub report_right : (t : Table) → Arises t → ReportRight (report_of (printed_verdict t (verdict (final t)))) t
report_right t a = verdict_report t (demand_2 t a)

-- ---- what a change keeps

-- the search of n steps ends the search on the table
pub run_final : (t : Table) → Valid t → (n : ℕ) → verdict (run (searched t) n) ≢ unfinished → run (searched t) n ≡ final t
unfolding final
run_final t v n h = one_end (searched t) n (budget t) h (ends t v)

-- a verdict is printed alike where there are as many states and kinds, so before and after a call
pub printed_alike : (t u : Table) → t.size ≡ u.size → t.kinds ≡ u.kinds → (w : Verdict) → printed_verdict t w ≡ printed_verdict u w
unfolding printed_verdict printed
printed_alike t u p q none = refl
printed_alike t u p q (lasso stem cycle) = λ i. lasso (map (state_of (p i) (q i - 1)) stem) (map (state_of (p i) (q i - 1)) cycle)
printed_alike t u p q unfinished = refl

same_printed : (u : Update) (t : Table) (w : Verdict) → printed_verdict (applied u t) w ≡ printed_verdict t w
same_printed u t w = printed_alike (applied u t) t (update_size u t) (update_kinds u t) w

-- which part of the new search is kept
pub kept_all : (u : Update) (t : Table) → keeps_all u t ≡ true → kept_part u t ≡ final (applied u t)
unfolding kept_part
kept_all u t k = rw (k, kept_part)

pub kept_meeting : (u : Update) (t : Table) → keeps_all u t ≡ false → kept_part u t ≡ first_meeting (named_by u) (applied u t)
unfolding kept_part
kept_meeting u t k = rw (k, kept_part)

module _ (u : Update) (t : Table) (v : Valid t) (v' : Valid (applied u t)) (w : AllWithin (changes_of u) t.size) (n : ℕ) (ended : verdict (run (searched t) n) ≢ unfinished) where
  abbrev g : Graph
  g = searched t

  abbrev h : Graph
  h = searched (applied u t)

  -- the copies of the states that the call names
  abbrev pub named_copies : List ℕ
  named_copies = copies_in t (named_by u)

  -- No named state has come past what its rows have in common: the search on the changed table is the one before, to its end, and the notes stay right; every
  -- look is kept.
  pub record Same (r : Notes) : Type 0 where
    pub same_steps : bare (run h n) ≡ bare (run g n)
    pub still_ended : verdict (run h n) ≢ unfinished
    pub holds : Faithful h r n
    pub same_final : bare (final (applied u t)) ≡ bare (final t)
    pub all_kept : kept_part u t ≡ final (applied u t)

  -- the search had not come to what is changed, or has met no named state
  abbrev pub Untouched : Type 0
  Untouched = (keeps_all u t ≡ true) ⊎ (meets named_copies (run g n) ≡ false)

  untouched_shared : Untouched → (x : ℕ) → In x named_copies → Shared g h (run g n) x
  unfolding final
  untouched_shared (inl k) x i = rw (run_final t v n ended) (keeps_shared u t v w k x)
  untouched_shared (inr f) x i =
      shared_unmet g h (run g n) x (not_in x (discovered_of (run g n)) (λ j. contra (any_in (λ s. elem s (discovered_of (run g n))) x named_copies i j) f))

  pub update_same : (r : Notes) → Untouched → Faithful g r n → Same r
  unfolding final first_meeting
  update_same r o held =
      let each = untouched_shared o in
      let e : bare (run h n) ≡ bare (run g n) = same_run named_copies g h (update_agree u t) n each n (omega arith) in
      let ended' : verdict (run h n) ≢ unfinished = rw (alike_verdict (run g n) (run h n) e) ended in
      let same : bare (final (applied u t)) ≡ bare (final t) = rw (← run_final (applied u t) v' n ended', ← run_final t v n ended) e in
      record {
        same_steps = e;
        still_ended = ended';
        holds = same_faithful named_copies g h (update_agree u t) n each r held;
        same_final = same;
        all_kept = ⊎_elim (kept_all u t) (λ f. kept_meeting u t f ∙ until_end h (copies_in (applied u t) (named_by u)) (budget (applied u t)) (unmet o f same)) (either (keeps_all u t));
      }
    where
      -- where the search had come to what is changed, it has met no named state in the new search either
      unmet : Untouched → keeps_all u t ≡ false → bare (final (applied u t)) ≡ bare (final t) → meets (copies_in (applied u t) (named_by u)) (run h (budget (applied u t))) ≡ false
      unmet (inl k) f same = absurd (contra k f)
      unmet (inr m) f same =
          ap (λ (l : List ℕ). meets l (run h (budget (applied u t)))) (update_copies u t (named_by u))
          ∙ ap (λ (d : List ℕ). any (λ s. elem s d) named_copies) (alike_discovered (final t) (final (applied u t)) same ∙ ap discovered_of (sym (run_final t v n ended))) ∙ m

  -- A named state is met: the search on the changed table, at its first meeting, stands where the one before stood at its own, and the notes are right there.
  pub record Met (r : Notes) : Type 0 where
    pub meeting : FirstMeeting named_copies g h (update_agree u t) n
    pub holds : Faithful h r meeting.at
    pub kept_here : first_meeting (named_by u) (applied u t) ≡ run h meeting.at

  pub update_met : (r : Notes) → meets named_copies (run g n) ≡ true → Faithful g r n → Met r
  unfolding final first_meeting
  update_met r m held =
      let f = first_meeting_lem named_copies g h (update_agree u t) n m in
      let q = f.meeting in
      let k : meets named_copies (run h f.at) ≡ true = rw q.there (any_in (λ s. elem s (q.state ∷ q.earlier)) q.state named_copies q.is_named (in_head q.state q.earlier)) in
      record {
        meeting = f;
        holds = resumed named_copies g h (update_agree u t) r n held f;
        kept_here = ap (λ (l : List ℕ). until h l (budget (applied u t)) (begin h)) (update_copies u t (named_by u))
            ∙ one_until h named_copies (budget (applied u t)) f.at (met_at_end h named_copies f.at (budget (applied u t)) (ends (applied u t) v') k) k ∙ f.there_stops;
      }

-- ---- "the run before began with these looks, move for move"

-- a search that goes on from c begins with the looks of c
taken_first : (c e : Config) → (new : List Edge) × (probes_of e ≡ new ++ probes_of c) → take (count c) (taken e) ≡ taken c
unfolding taken
taken_first c e (new, p) =
    ap (λ (l : List Edge). take (count c) (reverse l)) p ∙ ap (take (count c)) (reverse-append new (probes_of c))
    ∙ take_at (reverse (probes_of c)) (reverse new) (count c) (length-reverse (probes_of c))

-- a search goes on from the probes of another's part
abbrev GoesOn : Config → Config → Type 0
GoesOn part whole = (new : List Edge) × (probes_of whole ≡ new ++ probes_of part)

module _ (u : Update) (t : Table) (v : Valid t) (v' : Valid (applied u t)) (w : AllWithin (changes_of u) t.size) where
  stops : verdict (run (searched t) (budget t)) ≢ unfinished
  stops = ended_within t v (budget t) (omega arith)

  untouched : Untouched u t v v' w (budget t) stops → Same u t v v' w (budget t) stops (notes (searched t) (budget t))
  untouched o = update_same u t v v' w (budget t) stops (notes (searched t) (budget t)) o (holds_notes (searched t) (budget t))

  -- the search before goes on from the part of the new search that is kept
  began : GoesOn (kept_part u t) (final t)
  unfolding final
  began = ⊎_elim (λ k. all_of_it (inl k)) (λ e. ⊎_elim (met e) (λ f. all_of_it (inr f)) (either (meets (copies_in t (named_by u)) (run (searched t) (budget t))))) (either (keeps_all u t))
    where
      all_of_it : Untouched u t v v' w (budget t) stops → GoesOn (kept_part u t) (final t)
      all_of_it o =
          let s = untouched o in
          ([], sym (ap probes_of s.all_kept ∙ alike_probes (final t) (final (applied u t)) s.same_final))

      met : keeps_all u t ≡ false → meets (copies_in t (named_by u)) (run (searched t) (budget t)) ≡ true → GoesOn (kept_part u t) (final t)
      met k m =
          let s = update_met u t v v' w (budget t) stops (notes (searched t) (budget t)) m (holds_notes (searched t) (budget t)) in
          let f = s.meeting in
          let e : probes_of (run (searched t) f.at) ≡ probes_of (kept_part u t) = ap probes_of f.meeting.here ∙ sym (ap probes_of (kept_meeting u t k ∙ s.kept_here ∙ f.meeting.there)) in
          let p = probes_grow (searched t) f.at (budget t) f.in_time in
          (p.0, p.1 ∙ ap (λ (l : List Edge). p.0 ++ l) e)

  -- and so does the new one
  goes_on_lem : GoesOn (kept_part u t) (final (applied u t))
  unfolding final first_meeting
  goes_on_lem = ⊎_elim
      (λ k. ([], ap probes_of (sym (kept_all u t k))))
      (λ e. let s = until_at (searched (applied u t)) (copies_in (applied u t) (named_by u)) (budget (applied u t)) in
      let p = probes_grow (searched (applied u t)) s.0 (budget (applied u t)) s.1 in
      (p.0, p.1 ∙ ap (λ (x : Config). p.0 ++ probes_of x) (sym (kept_meeting u t e ∙ s.2)))) (either (keeps_all u t))

  pub kept_right : KeptRight u t (count (final (applied u t)) - kept u t) (kept u t)
  unfolding kept taken
  kept_right =
      let p = goes_on_lem in
      record {
        same_run = λ k. let s = untouched (inl k) in
            (ap reverse (alike_probes (final t) (final (applied u t)) s.same_final), same_printed u t (verdict (final (applied u t))) ∙ ap (printed_verdict t) (alike_verdict (final t) (final (applied u t)) s.same_final));
        all_kept = λ k. let e = ap count (kept_all u t k) in (omega (arith, e), e);
        kept_is = λ k. ap count (kept_meeting u t k);
        new_run = taken_first (kept_part u t) (final (applied u t)) p;
        run_before = taken_first (kept_part u t) (final t) began;
        adds_up = omega (arith, ap length p.1, length-append p.0 (probes_of (kept_part u t)));
      }

-- what demand 3 says of "kept", for all accepted changes on a table that a session can hold
pub demand_3_kept : (u : Update) (t : Table) (room : ℕ) → Arises t → update_trial u t room ≡ accepted → KeptRight u t (count (final (applied u t)) - kept u t) (kept u t)
demand_3_kept u t room a e =
    kept_right u t (valid t a) (update_valid u t room (valid t a) e) (all_within room (changes_of u) t (update_made u t room e).each_accepted)
