-- Where a search is taken up is read off the session: it passes over a change exactly when the plain search had not come to it. Assumes nothing.
use mathlib.Core.Path.{◌≡◌, refl, sym, ap, subst, ◌∙◌, subst⁻¹}
use mathlib.Core.Logic.{inl, inr, ⊎_elim, ◌⊎◌}
use mathlib.Core.Bool.{Bool, true, false, ◌&&◌, ◌||◌, not}
use mathlib.Core.List.{List, [], ◌∷◌, ◌++◌, append_assoc, map}
use Prim.Native.Nat.{ℕ, suc, ◌*◌, ◌-◌, ◌≤◌, ◌<◌}
use native.Mathlib.Omega.{arith}
use lib.Dec.{eqb, ltb}
use lib.ListN.{length, get_or, take, drop, length-append, take-append-drop, length-take}
use lib.Seq.{get_or_at}
use borrow.Author.Tests.{eq-eqb, ne_eqb, eqb-false, lt-ltb, le-ltb, ltb-true, not-false}
use Rattle.plain.specs.Lists.{elem, In, before, from, all}
use Rattle.plain.specs.Search.{Graph, Edge, Frame, frame, on_path, Config, outer, nested, exhausted, found, discovered_of, probes_of, run, finished, states_of, stem_of, cycle_of, verdict}
use Rattle.plain.specs.Layers.{copy, state_of, state_at, layer_at, lands, copies}
use Rattle.plain.specs.Unexplored.{unfinished_path, Untaken}
use Rattle.plain.specs.Table.{Table, row, game_of, searched, copies_in, budget, final}
use Rattle.plain.specs.Refusals.{accepted, present, outside}
use Rattle.plain.specs.Machine.{add, cut, conditions, change_trial, Change, mark, unmark, named, named_all, apply, makes, passed_over}
use Rattle.plain.specs.Notes.{Notes, notes, Below, Note}
use Rattle.plain.proofs.Tests.{contra, either, not-true, same, in_nil, in_one, in_head, in_append}
use Rattle.plain.proofs.Copies.{state_copy, layer_most, copies_among, among_all}
use Rattle.plain.proofs.Lifting.{map_in, in_map, state_at_lem, lands_below}
use Rattle.plain.proofs.LayerSizes.{copy_once}
use Rattle.plain.proofs.Paths.{On, on_head, on_tail, Off}
use Rattle.plain.proofs.Invariant.{Inv, inv_run, Linked}
use Rattle.plain.proofs.Lassos.{before_from, on_states, states_on}
use Rattle.plain.proofs.Restore.{ShapeOf, below_same, noted_run, notes_index}
use Rattle.plain.proofs.Edges.{Has}
use Rattle.plain.proofs.Rows.{has_row}
use Rattle.plain.proofs.Trials.{unheld}
use Rattle.plain.proofs.Tables.{Valid, changed_size, change_within, inside_both}
use Rattle.plain.proofs.Demands.{run_final, target_below}
use Rattle.plain.proofs.Unexplored.{Alike, rows_once, shared_finished}
use Rattle.plain.proofs.Explored.{finished_is, looked_known, left_unlooked, front_looked, finished_looked}
use Rattle.rows.specs.Rows.{entries, row_at, place_of}
use Rattle.rows.specs.declared.Rows.{Rows}
use Rattle.rows.proofs.Entries.{entries_front}
use Rattle.look.specs.Numbers.{no_number}
use Rattle.search.specs.Archive.{notes_of}
use Rattle.plain.proofs.Walks.{states_length}
use Rattle.table.specs.Filing.{named_by}
use Rattle.table.proofs.Places.{has_place_lem, place_hit, place_miss, place_front, place_behind, same_test}
use Rattle.session.specs.declared.Session.{Session}
use Rattle.resumption.specs.Model.{copies_up, unexplored_edge, unexplored_in, copy_passed_over, passed_over_in, all_passed_over}
use Rattle.resumption.proofs.Edges.{edge_off, edge_comes, edge_goes, named_one}
use Rattle.session.specs.Model.{arrays_held}
use Rattle.session.specs.Promises.{height_of, Holds}
use Rattle.plain.specs.Claims.{AllAccepted}
use Rattle.plain.proofs.OuterProbes.{looked_edge}
use Rattle.plain.proofs.Batches.{Taken, alike_step, passed_step}
use Rattle.plain.proofs.Limits.{limits, size_few, small}
use Rattle.table.proofs.Changing.{named_below}
use Rattle.batch.proofs.Batches.{change_back}
use Rattle.batch.specs.Batches.{op_for}
use Rattle.verdict.specs.Answers.{WalkOf}
use Rattle.session.proofs.Copied.{landed, came_to, lands_low, home, copies_few, passed_by_copies, copies_up_lem, up_copies, all_none}

-- ---- the walk, and the states that have not finished

-- a list that has an entry is not empty
in_some : (x : ℕ) (xs : List ℕ) → In x xs → 0 < length xs
in_some x [] i = absurd (in_nil x i)
in_some x (y ∷ ys) i = omega arith

module _ (g : Graph) where
  -- the edge that discovered the next state of the path is the last one taken of a state's row, and what is left stands behind it
  abbrev LastTaken : Notes → ℕ → ℕ → List Frame → Type 0
  LastTaken r x next p = Untaken x (drop (suc (r.of next).index) (g.successors x)) p × ((r.of next).index < length (g.successors x))

  -- an index stands within the row of the parent, where that has an entry
  abbrev Within : Notes → ℕ → Type 0
  Within r x = (r.of x).index ≤ length (g.successors (r.of x).parent) - 1

  -- the path's newest state is followed by z
  last_taken : (r : Notes) (a x z : ℕ) (p : List Frame) (rest : List ℕ) → Below g r z p → Linked g a z p → ((y : ℕ) → (y ≡ z) ⊎ On y p → Within r y) → In x (states_of p)
      → LastTaken r x (get_or (states_of p ++ (z ∷ rest)) (suc (place_of x (states_of p))) 0) p
  unfolding states_of
  last_taken r a x z [] rest b l n i = absurd (in_nil x i)
  last_taken r a x z (frame y ts ∷ p) rest b l n i = ⊎_elim (λ j. below j (last_taken r a x y p (z ∷ rest) b.2 l.1 (λ w k. n w (inr (later w k))) j)) here (either (elem x (states_of p)))
    where
      later : (w : ℕ) → (w ≡ y) ⊎ On w p → On w (frame y ts ∷ p)
      later w (inl e) = rw e (on_head y ts p)
      later w (inr o) = on_tail w y ts p o

      next : ℕ
      next = get_or ((states_of p ++ (y ∷ [])) ++ (z ∷ rest)) (suc (place_of x (states_of p ++ (y ∷ [])))) 0

      below : In x (states_of p) → LastTaken r x (get_or (states_of p ++ (y ∷ (z ∷ rest))) (suc (place_of x (states_of p))) 0) p → LastTaken r x next (frame y ts ∷ p)
      below j w =
          let e : get_or (states_of p ++ (y ∷ (z ∷ rest))) (suc (place_of x (states_of p))) 0 ≡ next =
          λ k. get_or (sym (append_assoc (states_of p) (y ∷ []) (z ∷ rest)) k) (suc (sym (place_front x (states_of p) (y ∷ []) j) k)) 0 in
          let q = subst (λ (m : ℕ). LastTaken r x m p) e w in
          (inr q.0, q.1)

      here : elem x (states_of p) ≡ false → LastTaken r x next (frame y ts ∷ p)
      here f =
          let e : x ≡ y = ⊎_elim (λ j. absurd (contra j f)) (in_one x y) (in_append x (states_of p) (y ∷ []) i) in
          let at : suc (place_of x (states_of p ++ (y ∷ []))) ≡ length (states_of p ++ (y ∷ [])) =
          omega (arith, place_behind x (states_of p) (y ∷ []) f, place_hit x y [] (eq-eqb x y e), length-append (states_of p) (y ∷ [])) in
          let is : next ≡ z = get_or_at (states_of p ++ (y ∷ [])) z rest 0 (suc (place_of x (states_of p ++ (y ∷ [])))) (sym at) in
          let few : (r.of z).index ≤ length (g.successors y) - 1 = subst (λ (m : ℕ). (r.of z).index ≤ length (g.successors m) - 1) b.0 (n z (inl refl)) in
          let some : 0 < length (g.successors y) = in_some z (g.successors y) l.0 in
          let row : length (g.successors x) ≡ length (g.successors y) = ap (λ (m : ℕ). length (g.successors m)) e in
          let index : (r.of next).index ≡ (r.of z).index = ap (λ (m : ℕ). (r.of m).index) is in (
            inl (e, (λ k. drop (suc (r.of (is k)).index) (g.successors (e k))) ∙ sym b.1),
            omega (arith, few, some, row, index),
          )

  -- what the walk and the height of the open path tell of a search that is over, and stands at c
  pub record PathTold (r : Notes) (c : Config) (tip : ℕ) (walk : List ℕ) : Type 0 where
    pub unfinished_are : entries tip 0 walk ≡ states_of (unfinished_path c)
    pub tip_is : tip ≡ length (states_of (unfinished_path c))
    pub last_is : (x : ℕ) → In x (states_of (unfinished_path c)) → LastTaken r x (get_or walk (suc (place_of x (states_of (unfinished_path c)))) 0) (unfinished_path c)

  pub path_told : (c : Config) (r r' : Notes) (stem length height : ℕ) (walk : List ℕ) → Inv g c → ShapeOf g r' c → ((x : ℕ) → In x (discovered_of c) → r.of x ≡ r'.of x)
      → ((x : ℕ) → Within r' x) → WalkOf stem length walk (verdict c) → height ≡ height_of c → PathTold r c (height - 1) walk
  unfolding verdict states_of entries stem_of cycle_of on_path
  path_told (outer p d k l) r r' stem n height walk v h same few t e = absurd t
  path_told (nested s p q d k l) r r' stem n height walk v h same few t e = absurd t
  path_told (exhausted d k l) r r' stem n height walk v h same few t e =
      let z : height - 1 ≡ 0 = omega (arith, e) in
      record { unfinished_are = ap (λ (k : ℕ). entries k 0 walk) z; tip_is = z; last_is = λ x i. absurd (in_nil x i) }
  path_told (found y [] q d k l) r r' stem n height walk v h same few t e = absurd v
  path_told (found y (frame s us ∷ p) [] d k l) r r' stem n height walk v h same few t e = absurd v
  path_told (found y (frame s us ∷ p) (frame x ts ∷ q) d k l) r r' stem n height walk v h same few t e =
      let states = states_of p ++ (s ∷ []) in
      let behind = drop 1 (states_of q ++ (x ∷ [])) in
      let high : height - 1 ≡ length (states_of p) = omega (arith, e, states_length p) in
      let whole : (before y states ++ (from y states ++ behind)) ++ t.2.0 ≡ states_of p ++ (s ∷ (behind ++ t.2.0)) =
      ap (λ (w : List ℕ). w ++ t.2.0) (sym (append_assoc (before y states) (from y states) behind) ∙ ap (λ (w : List ℕ). w ++ behind) (before_from y states))
      ∙ append_assoc states behind t.2.0 ∙ append_assoc (states_of p) (s ∷ []) (behind ++ t.2.0) in
      let is : walk ≡ states_of p ++ (s ∷ (behind ++ t.2.0)) = t.2.1 ∙ whole in
      let b : Below g r s p = below_same g r' r s p (same s (v.known s (on_head s [] p))) (λ z o. same z (v.known z (on_tail z s [] p o))) h.0 in
      record {
        unfinished_are = (λ k. entries (high k) 0 (is k)) ∙ entries_front (states_of p) (s ∷ (behind ++ t.2.0));
        tip_is = high;
        last_is = λ z i. subst (λ (w : List ℕ). LastTaken r z (get_or w (suc (place_of z (states_of p))) 0) p) (sym is)
            (last_taken r g.start z s p (behind ++ t.2.0) b v.chain (λ w o. subst⁻¹ (λ (m : Note). m.index ≤ length (g.successors m.parent) - 1) (same w (known w o)) (few w)) i);
      }
    where
      known : (w : ℕ) → (w ≡ s) ⊎ On w p → In w d
      known w (inl z) = rw z (v.known s (on_head s [] p))
      known w (inr o) = v.known w (on_tail w s [] p o)

-- ---- the test on the session is the plain one, of a copy that was met

-- a number has the place in a list that it has where each is replaced, no two by the same
place_map : (f : ℕ → ℕ) → ((x y : ℕ) → f x ≡ f y → x ≡ y) → (y : ℕ) (xs : List ℕ) → place_of y xs ≡ place_of (f y) (map f xs)
unfolding place_of
place_map f once y [] = refl
place_map f once y (x ∷ xs) = ⊎_elim
    (λ e. place_hit y x xs e ∙ sym (place_hit (f y) (f x) (map f xs) (eq-eqb (f y) (f x) (ap f (same e)))))
    (λ e. place_miss y x xs e ∙ ap suc (place_map f once y xs) ∙ sym (place_miss (f y) (f x) (map f xs) (ne_eqb (f y) (f x) (λ z. eqb-false y x e (once y x z))))) (either (eqb y x))

module _ (t : Table) (v : Valid t) (r : Notes) (rows : Rows) (index walk : List ℕ) (tip x from to : ℕ) (is-copy : state_at (game_of t) x ≡ from)
    (rows_are : row_at rows.targets rows.starts from ≡ row t.edges from) (index_is : (y : ℕ) → (r.of y).index ≡ get_or index y 0)
    (o : PathTold (searched t) r (run (searched t) (budget t)) tip walk) (met : In x (discovered_of (run (searched t) (budget t)))) where
  abbrev c : Config
  c = run (searched t) (budget t)

  abbrev path : List Frame
  path = unfinished_path c

  abbrev targets : List ℕ
  targets = (searched t).successors x

  -- where the move lands
  abbrev goal : ℕ
  goal = landed t x to

  -- below the tip: not finished
  placed_open : ltb (place_of x (entries tip 0 walk)) tip ≡ on_path x path
  placed_open =
      (λ k. ltb (place_of x (o.unfinished_are k)) (o.tip_is k)) ∙ has_place_lem x (states_of path)
      ∙ same_test (elem x (states_of path)) (on_path x path) (states_on x path) (on_states x path)

  add_decided : unexplored_edge true x from to rows index walk tip ≡ not (finished (searched t) (budget t) x)
  add_decided = by_path (on_path x path) refl ∙ sym (ap not (finished_is (searched t) (budget t) x))
    where
      by_path : (b : Bool) → on_path x path ≡ b → unexplored_edge true x from to rows index walk tip ≡ not (elem x (discovered_of c) && not (on_path x path))
      by_path true e = edge_comes x from to rows index walk tip (placed_open ∙ e) ∙ rw (met, e)
      by_path false e = edge_off x from to rows index walk tip true (placed_open ∙ e) ∙ rw (met, e)

  -- the last edge that was taken discovered the next state of the walk
  abbrev last : ℕ
  last = get_or index (get_or walk (suc (place_of x (entries tip 0 walk))) 0) 0

  abbrev front : List ℕ
  front = take (suc last) targets

  abbrev left : List ℕ
  left = drop (suc last) targets

  last_open : On x path → Untaken x left path × (last < length targets)
  last_open h =
      let e : (r.of (get_or walk (suc (place_of x (states_of path))) 0)).index ≡ last =
      (λ k. (r.of (get_or walk (suc (place_of x (sym o.unfinished_are k))) 0)).index) ∙ index_is (get_or walk (suc (place_of x (entries tip 0 walk))) 0) in
      subst (λ (i : ℕ). Untaken x (drop (suc i) targets) path × (i < length targets)) e (o.last_is x (on_states x path h))

  -- the place of the move in the row that is stored is that of its target among those of the copy
  placed_goal : place_of to (row_at rows.targets rows.starts from) ≡ place_of goal targets
  placed_goal =
      ap (place_of to) (rows_are ∙ ap (row t.edges) (sym is-copy))
      ∙ place_map (landed t x) (copy_once t.size (lands (game_of t) (layer_at (game_of t) x) (state_at (game_of t) x))) to (row t.edges (state_at (game_of t) x))

  looked : Bool
  looked = present (probes_of c) (x, goal)

  -- an edge stands behind the last one taken, or is not there, exactly when it was not looked at
  cut_open : On x path → ltb last (place_of to (row_at rows.targets rows.starts from)) ≡ not looked
  unfolding looked
  cut_open h = ap (ltb last) placed_goal ∙ ap (λ (l : List ℕ). ltb last (place_of goal l)) (sym (take-append-drop (suc last) targets)) ∙ ⊎_elim taken untaken (either (elem goal front))
    where
      w : Untaken x left path × (last < length targets)
      w = last_open h

      taken : In goal front → ltb last (place_of goal (front ++ left)) ≡ not looked
      taken j =
          let short : place_of goal (front ++ left) ≤ last = omega (arith, place_front goal front left j, ltb-true (place_of goal front) (length front) (has_place_lem goal front ∙ j), length-take (suc last) targets) in
          le-ltb last (place_of goal (front ++ left)) short
          ∙ sym (ap not (front_looked (searched t) (rows_once t v) (budget t) x goal front left met w.0 (sym (take-append-drop (suc last) targets)) j))

      untaken : elem goal front ≡ false → ltb last (place_of goal (front ++ left)) ≡ not looked
      untaken f =
          let far : last < place_of goal (front ++ left) = omega (arith, place_behind goal front left f, w.1, length-take (suc last) targets) in
          lt-ltb last (place_of goal (front ++ left)) far ∙ sym (ap not (not-true looked (λ k.
          let i : In goal (front ++ left) = rw (take-append-drop (suc last) targets) (looked_edge (searched t) (budget t) (x, goal) k) in
          ⊎_elim (λ j. contra j f) (λ j. left_unlooked (searched t) (rows_once t v) (budget t) x goal left w.0 j k) (in_append goal front left i))))

  -- of a copy that has finished it has to be there
  cut_decided : (Off x path → In goal targets) → unexplored_edge false x from to rows index walk tip ≡ not (present (probes_of c) (x, goal))
  unfolding looked
  cut_decided i = by_path (on_path x path) refl
    where
      by_path : (b : Bool) → on_path x path ≡ b → unexplored_edge false x from to rows index walk tip ≡ not looked
      by_path true e = edge_goes x from to rows index walk tip (placed_open ∙ e) ∙ cut_open e
      by_path false e = edge_off x from to rows index walk tip false (placed_open ∙ e) ∙ sym (ap not (finished_looked (searched t) (rows_once t v) (budget t) x goal met e (i e)))

-- ---- of a session

-- a state that an accepted change names is one of the game
named_inside : (c : Change) (t : Table) (room : ℕ) → change_trial c t room ≡ accepted → named_by (op_for c) < t.size
named_inside c t room e = named_below (op_for c) t room (ap (λ (d : Change). change_trial d t room) (change_back c) ∙ e)

-- and so is each that some accepted changes name; they name as many as they are
pub all_inside : (room : ℕ) (cs : List Change) (t : Table) → AllAccepted room cs t → (x : ℕ) → In x (named_all cs) → x < t.size
unfolding named_all
all_inside room [] t a x i = absurd (in_nil x i)
all_inside room (c ∷ cs) t a x i = ⊎_elim
    (λ j. let z : x ≡ named_by (op_for c) = in_one x (named_by (op_for c)) (rw (named_one c) at j) in omega (arith, z, named_inside c t room a.0))
    (λ j. omega (arith, all_inside room cs (apply c t) a.1 x j, changed_size c t)) (in_append x (named c) (named_all cs) i)

pub all_named : (cs : List Change) → length (named_all cs) ≡ length cs
unfolding named_all
all_named [] = refl
all_named (c ∷ cs) = omega (arith, length-append (named c) (named_all cs), ap length (named_one c), all_named cs)

-- what the session's search had not come to, the plain one had not
module _ (s : Session) (t : Table) (h : Holds s t) (v : Valid t) where
  abbrev held : Notes
  held = notes_of (run (searched t) h.steps) s.records.number s.records.parent s.records.index s.records.probes s.records.stamp

  abbrev ran : Config
  ran = run (searched t) h.steps

  ran_final : ran ≡ run (searched t) (budget t)
  unfolding final
  ran_final = run_final t v h.steps h.ended

  path_held : PathTold (searched t) held (run (searched t) (budget t)) (s.height - 1) s.records.walk
  unfolding final
  path_held = path_told (searched t) (run (searched t) (budget t)) held (notes (searched t) h.steps) s.stem s.length s.height s.records.walk
      (inv_run (searched t) (budget t)) (rw ran_final at (noted_run (searched t) h.steps).shape) (λ x i. h.archived.holds.notes_right x (rw ran_final i))
      (notes_index (searched t) h.steps) h.told h.height_is

  -- a copy was met exactly when it has a number
  pub numbered_met : (x : ℕ) → In x (discovered_of ran) → get_or s.records.number x 0 < no_number
  numbered_met x i =
      let n = noted_run (searched t) h.steps in
      omega (
        arith,
        ap (λ (m : Note). m.number) (h.archived.holds.notes_right x i),
        n.counted.0 x i,
        (limits (searched t) (t.kinds * t.size) (small t v) h.steps).few,
      )

  pub numbered_unmet : (x : ℕ) → x < 512 → elem x (discovered_of ran) ≡ false → get_or s.records.number x 0 ≡ no_number
  numbered_unmet x b f = h.archived.undiscovered x b f

  -- the session's judgement of a change, in the layer of one copy
  abbrev copy_passed : Change → ℕ → Bool
  copy_passed b x = copy_passed_over (op_for b) x (arrays_held s).rows s.records.number s.records.index s.records.walk s.height

  -- A move that is cut from a table whose rows begin with what the run has taken is one of the moves of every copy that has finished.
  goes_on_lem : (u : Table) (e : Edge) (x : ℕ) → Alike t v u → Taken t v u → outside t.size e ≡ false → Has u.edges e → state_at (game_of t) x ≡ e.0
      → In x (discovered_of (run (searched t) (budget t))) → Off x (unfinished_path (run (searched t) (budget t))) → In (landed t x e.1) ((searched t).successors x)
  goes_on_lem u e x k taken out has own met f =
      let layer = lands (game_of u) (layer_at (game_of u) x) (state_at (game_of u) x) in
      let home-is : state_at (game_of u) x ≡ e.0 = (λ i. state_of (k.0 i) (k.1 i - 1) x) ∙ own in
      let there : In (landed u x e.1) ((searched u).successors x) =
      map_in (landed u x) e.1 (row u.edges (state_at (game_of u) x)) (ap (λ (y : ℕ). elem e.1 (row u.edges y)) home-is ∙ has_row u.edges e.0 e.1 has) in
      let q = in_map (landed t x) (landed u x e.1) (row t.edges (state_at (game_of t) x)) (ap (elem (landed u x e.1)) (sym (shared_finished t v (searched u) x met f (taken x))) ∙ there) in
      let low : layer < u.kinds = lands_below (game_of u) (layer_at (game_of u) x) (state_at (game_of u) x) (omega (arith, layer_most u.size (u.kinds - 1) x, k.1, v.some_kind)) in
      let z : e.1 ≡ q.0 =
      sym (state_copy t.size (t.kinds - 1) layer e.1 (omega (arith, k.1)) (inside_both t.size e out).1)
      ∙ ap (state_at (game_of t)) ((λ i. copy (sym k.0 i) layer e.1) ∙ q.2)
      ∙ state_at_lem (game_of t) (lands (game_of t) (layer_at (game_of t) x) (state_at (game_of t) x)) q.0 (lands_low t v x) (target_below t v (state_at (game_of t) x) q.0 q.1) in
      ap (λ (y : ℕ). elem (landed t x y) ((searched t).successors x)) z ∙ map_in (landed t x) q.0 (row t.edges (state_at (game_of t) x)) q.1

  -- of a copy that was met: the plain test
  decided : (b : Change) (u : Table) (room : ℕ) → Alike t v u → Taken t v u → change_trial b u room ≡ accepted → (x : ℕ) → state_at (game_of t) x ≡ named_by (op_for b) → In x (discovered_of ran)
      → unexplored_in (op_for b) x (arrays_held s).rows s.records.index s.records.walk (s.height - 1) ≡ not (came_to t b x)
  unfolding change_trial conditions
  decided (add e) u room k a acc x own i =
      add_decided t v held (arrays_held s).rows s.records.index s.records.walk (s.height - 1) x e.0 e.1 own (h.stored.filed.rows_are e.0) (λ y. refl) path_held (rw ran_final at i)
  decided (cut e) u room k a acc x own i =
      let met : In x (discovered_of (run (searched t) (budget t))) = rw ran_final at i in
      cut_decided t v held (arrays_held s).rows s.records.index s.records.walk (s.height - 1) x e.0 e.1 own (h.stored.filed.rows_are e.0) (λ y. refl) path_held met
      (λ f. goes_on_lem u e x k a (ap (λ (n : ℕ). outside n e) (sym k.0) ∙ change_within (cut e) u room acc) (not-false (present u.edges e) (unheld 10 _ acc)) own met f)
  decided (mark q kind) u room k a acc x own i = sym (ap not (rw ran_final at i))
  decided (unmark q kind) u room k a acc x own i = sym (ap not (rw ran_final at i))

  -- to a copy that was not met the run had not come
  not_come : (b : Change) (x : ℕ) → elem x (discovered_of (run (searched t) (budget t))) ≡ false → came_to t b x ≡ false
  not_come (add e) x f = finished_is (searched t) (budget t) x ∙ ap (λ (met : Bool). met && not (on_path x (unfinished_path (run (searched t) (budget t))))) f
  not_come (cut e) x f =
      not-true (present (probes_of (run (searched t) (budget t))) (x, landed t x e.1)) (λ k. contra (looked_known (searched t) (rows_once t v) (budget t) x (landed t x e.1) k) f)
  not_come (mark q kind) x f = f
  not_come (unmark q kind) x f = f

  -- A change that is accepted on a table whose rows begin with what the run has taken: the session's judgement of each copy is the plain one, ..
  copy_decided : (b : Change) (u : Table) (room : ℕ) → Alike t v u → Taken t v u → change_trial b u room ≡ accepted → (x : ℕ) → In x (copies_in t (named b)) → copy_passed b x ≡ not (came_to t b x)
  copy_decided b u room k a acc x i = ⊎_elim met unmet (either (elem x (discovered_of ran)))
    where
      unexplored_here : Bool
      unexplored_here = unexplored_in (op_for b) x (arrays_held s).rows s.records.index s.records.walk (s.height - 1)

      below : named_by (op_for b) < t.size
      below = omega (arith, k.0, named_inside b u room acc)

      here : In x (copies_in t (named_by (op_for b) ∷ []))
      here = ap (λ (l : List ℕ). elem x (copies_in t l)) (sym (named_one b)) ∙ i

      met : In x (discovered_of ran) → copy_passed b x ≡ not (came_to t b x)
      met j =
          ap (λ (c : Bool). c || unexplored_here) (ne_eqb (get_or s.records.number x 0) no_number (λ z. omega (arith, numbered_met x j)))
          ∙ decided b u room k a acc x (home t v (named_by (op_for b)) x below here) j

      unmet : elem x (discovered_of ran) ≡ false → copy_passed b x ≡ not (came_to t b x)
      unmet f =
          ap (λ (c : Bool). c || unexplored_here) (eq-eqb (get_or s.records.number x 0) no_number (numbered_unmet x (copies_few t v (named_by (op_for b) ∷ []) (λ y m. omega (arith, in_one y (named_by (op_for b)) m, below)) x here) f))
          ∙ sym (ap not (not_come b x (rw ran_final at f)))

  -- .. and so is that of all copies, ..
  passed_decided : (b : Change) (u : Table) (room : ℕ) → Alike t v u → Taken t v u → change_trial b u room ≡ accepted
      → passed_over_in (makes b) s.size s.kinds (arrays_held s).rows s.records.number s.records.index s.records.walk s.height ≡ passed_over b t
  passed_decided b u room k a acc =
      (λ i. all (copy_passed b) (copies_up (h.size_is i) (h.kinds_is i) state)) ∙ all_none (copy_passed b) (came_to t b) (copies_up t.size t.kinds state) (copies_in t (named b)) into back (copy_decided b u room k a acc)
      ∙ sym (passed_by_copies t v b (rw k.0 at (change_within b u room acc)))
    where
      state : ℕ
      state = named_by (op_for b)

      low : state < 512
      low = omega (arith, k.0, named_inside b u room acc, size_few t.size v.size_ok)

      into : (x : ℕ) → In x (copies_up t.size t.kinds state) → In x (copies_in t (named b))
      into x i = ap (λ (l : List ℕ). elem x (copies_in t l)) (named_one b)
          ∙ copies_among t.size (t.kinds - 1) (state ∷ []) state x (in_head state []) (up_copies t.size t.kinds v.states_few state low x i)

      back : (x : ℕ) → In x (copies_in t (named b)) → In x (copies_up t.size t.kinds state)
      back x i =
          let q = among_all t.size (t.kinds - 1) (state ∷ []) x (ap (λ (l : List ℕ). elem x (copies_in t l)) (sym (named_one b)) ∙ i) in
          copies_up_lem t.size t.kinds v.states_few state low v.some_kind x (ap (λ (y : ℕ). elem x (copies t.size (t.kinds - 1) y)) (sym (in_one q.0 state q.1)) ∙ q.2)

  -- .. and that of a list of changes
  pub all_decided : (room : ℕ) (cs : List Change) (u : Table) → Alike t v u → Taken t v u → AllAccepted room cs u
      → all_passed_over (map makes cs) s.size s.kinds (arrays_held s).rows s.records.number s.records.index s.records.walk s.height ≡ all (λ b. passed_over b t) cs
  unfolding all
  all_decided room [] u k a acc = refl
  all_decided room (b ∷ cs) u k a acc = by_first (passed_over b t) refl
      (λ p. all_decided room cs (apply b u) (alike_step t v b u k) (passed_step t v b u k (rw k.0 at (change_within b u room acc.0)) p a) acc.1)
    where
      rest : Bool
      rest = all_passed_over (map makes cs) s.size s.kinds (arrays_held s).rows s.records.number s.records.index s.records.walk s.height

      first : Bool
      first = passed_over_in (makes b) s.size s.kinds (arrays_held s).rows s.records.number s.records.index s.records.walk s.height

      here : first ≡ passed_over b t
      here = passed_decided b u room k a acc.0

      by_first : (yes-it-is : Bool) → passed_over b t ≡ yes-it-is → (passed_over b t ≡ true → rest ≡ all (λ b. passed_over b t) cs) → (first && rest) ≡ (passed_over b t && all (λ b. passed_over b t) cs)
      by_first true e below = (λ i. here i && below e i)
      by_first false e below = ap (λ (q : Bool). q && rest) (here ∙ e) ∙ sym (ap (λ (q : Bool). q && all (λ b. passed_over b t) cs) e)
