-- Ticket 4, of tables: a change of moves that the search had not come to leaves the rows as far as they were taken. Assumes nothing.
use mathlib.Core.Path.{◌≡◌, refl, sym, ap, ◌∙◌}
use mathlib.Core.Logic.{inr, ⊎_elim}
use mathlib.Core.Bool.{Bool, true, false, ◌&&◌, not, true≢false}
use mathlib.Core.List.{List, [], ◌∷◌, ◌++◌, map, append_assoc}
use Prim.Native.Nat.{ℕ, ◌-◌, ◌<◌}
use native.Mathlib.Omega.{arith}
use borrow.Author.Tests.{not-true as untrue}
use Rattle.plain.specs.Lists.{any, elem, In, Once}
use Rattle.plain.specs.Search.{Graph, Edge, on_path, Config, discovered_of, probes_of, meets, run, finished}
use Rattle.plain.specs.Layers.{copy, state_of, lands, state_at, layer_at}
use Rattle.plain.specs.Unexplored.{unfinished_path, Untaken, Shared}
use Rattle.plain.specs.Table.{Table, row, game_of, searched, copies_in, plain_edge, budget, final}
use Rattle.plain.specs.Refusals.{present, outside}
use Rattle.plain.specs.Machine.{Change, add, cut, mark, unmark, named, without, apply, unexplored}
use Rattle.plain.proofs.Tests.{contra, either, not-true, in_one, in_head, not_in, any_in, any_some}
use Rattle.plain.proofs.Paths.{On, Off}
use Rattle.plain.proofs.Invariant.{inv_run}
use Rattle.plain.proofs.Copies.{layer_most, copies_among, own_copy}
use Rattle.plain.proofs.Lifting.{map_join, state_at_lem, lands_below}
use Rattle.plain.proofs.LayerSizes.{copy_once, row_once}
use Rattle.plain.proofs.Edges.{Has, has_map, map_has}
use Rattle.plain.proofs.Rows.{row_once as table-once, row_add, row_cut, but, but_front, but_none, but_map, agree_at}
use Rattle.plain.proofs.Tables.{Valid, Within, inside_both}
use Rattle.plain.proofs.SameRun.{untaken_on, shared_equal, shared_unmet}
use Rattle.plain.proofs.Explored.{on_untaken, path_known, row_splits, finished_is, looked_known, front_looked, finished_looked}

-- c is where the run on t has stopped, h any other graph
module _ (t : Table) (v : Valid t) where
  abbrev g : Graph
  g = searched t

  abbrev c : Config
  c = run g (budget t)

  pub rows_once : (x : ℕ) → Once (g.successors x)
  rows_once x = row_once (game_of t) x (table-once t.edges (state_at (game_of t) x) v.once)

  -- nothing stands behind the common part in either: the rows are equal
  flat_row : (h : Graph) (x : ℕ) (s : Shared g h c x) → (s.left ≡ []) × (s.right ≡ []) → h.successors x ≡ g.successors x
  flat_row h x s (a, b) = s.there ∙ ap (λ (l : List ℕ). s.common ++ l) (b ∙ sym a) ∙ sym s.here

  -- of a state that has not finished: what was taken of its row, what was left, and what stands there in the other graph
  record Open (h : Graph) (x : ℕ) : Type 0 where
    front : List ℕ
    left : List ℕ
    right : List ℕ
    here : g.successors x ≡ front ++ left
    there : h.successors x ≡ front ++ right
    untaken : Untaken x left (unfinished_path c)
    acceptance : h.accepting x ≡ g.accepting x

  shared_open : (h : Graph) (x : ℕ) → On x (unfinished_path c) → Shared g h c x → Open h x
  shared_open h x o s = ⊎_elim
      (λ z. let w = on_untaken x (unfinished_path c) o in
      let r = row_splits g (budget t) x w.0 w.1 in
      record {
        front = r.0;
        left = w.0;
        right = w.0;
        here = r.1;
        there = flat_row h x s z ∙ r.1;
        untaken = w.1;
        acceptance = s.acceptance met;
      })
      (λ u. ⊎_elim
      (λ f. absurd (contra met f))
      (λ w. record { front = s.common; left = s.left; right = s.right; here = s.here; there = s.there; untaken = w; acceptance = s.acceptance met }) u)
      s.untaken
    where
      met : In x (discovered_of c)
      met = path_known g c (inv_run g (budget t)) x o

  -- in a third graph something else may stand there
  open_shared : (h h' : Graph) (x : ℕ) (o : Open h x) (right : List ℕ) → h'.successors x ≡ o.front ++ right → h'.accepting x ≡ h.accepting x → Shared g h' c x
  open_shared h h' x o right e a = record {
    common = o.front;
    left = o.left;
    right = right;
    here = o.here;
    there = e;
    untaken = inr (inr o.untaken);
    acceptance = λ i. a ∙ o.acceptance;
  }

  -- a state that has finished has the same row in both
  pub shared_finished : (h : Graph) (x : ℕ) → In x (discovered_of c) → Off x (unfinished_path c) → Shared g h c x → h.successors x ≡ g.successors x
  shared_finished h x i f s = ⊎_elim
      (flat_row h x s)
      (λ u. ⊎_elim (λ n. absurd (contra i n)) (λ w. absurd (contra (untaken_on x s.left (unfinished_path c) w) f)) u) s.untaken

  -- a target more at the end of a row, of a state that has not finished or was never met
  shared_longer : (h h' : Graph) (x y : ℕ) → h'.successors x ≡ h.successors x ++ (y ∷ []) → h'.accepting x ≡ h.accepting x
      → finished g (budget t) x ≡ false → Shared g h c x → Shared g h' c x
  shared_longer h h' x y e a f s = by_state (elem x (discovered_of c)) (on_path x (unfinished_path c)) refl refl
    where
      longer : Open h x → Shared g h' c x
      longer o = open_shared h h' x o (o.right ++ (y ∷ [])) (e ∙ ap (λ (l : List ℕ). l ++ (y ∷ [])) o.there ∙ append_assoc o.front o.right (y ∷ [])) a

      by_state : (met on : Bool) → elem x (discovered_of c) ≡ met → on_path x (unfinished_path c) ≡ on → Shared g h' c x
      by_state false on p q = shared_unmet g h' c x p
      by_state true true p q = longer (shared_open h x q s)
      by_state true false p q = absurd (contra (finished_is g (budget t) x ∙ rw (p, q)) f)

  -- a target taken out that was not looked at
  shared_shorter : (h h' : Graph) (x y : ℕ) → h'.successors x ≡ but y (h.successors x) → h'.accepting x ≡ h.accepting x
      → (Has (probes_of c) (x, y) → ⊥) → Shared g h c x → Shared g h' c x
  shared_shorter h h' x y e a n s = by_state (elem x (discovered_of c)) (on_path x (unfinished_path c)) refl refl
    where
      shorter : In x (discovered_of c) → Open h x → Shared g h' c x
      shorter i o =
          let unlooked : elem y o.front ≡ false = not_in y o.front (λ j. n (front_looked g rows_once (budget t) x y o.front o.left i o.untaken o.here j)) in
          open_shared h h' x o (but y o.right) (e ∙ ap (but y) o.there ∙ but_front y o.front o.right unlooked) a

      -- all its moves were looked at: the target is none of them
      gone : In x (discovered_of c) → Off x (unfinished_path c) → h'.successors x ≡ g.successors x
      gone i f = e ∙ ap (but y) (shared_finished h x i f s) ∙ but_none y (g.successors x) (not_in y (g.successors x) (λ j. n (finished_looked g rows_once (budget t) x y i f j)))

      by_state : (met on : Bool) → elem x (discovered_of c) ≡ met → on_path x (unfinished_path c) ≡ on → Shared g h' c x
      by_state false on p q = shared_unmet g h' c x p
      by_state true true p q = shorter p (shared_open h x q s)
      by_state true false p q = shared_equal g h' c x (gone p q) (a ∙ s.acceptance p)

  -- a state that the change leaves as it was
  shared_other : (h h' : Graph) (x : ℕ) → h.successors x ≡ h'.successors x → h.accepting x ≡ h'.accepting x → Shared g h c x → Shared g h' c x
  shared_other h h' x e a s = record {
    common = s.common;
    left = s.left;
    right = s.right;
    here = s.here;
    there = sym e ∙ s.there;
    untaken = s.untaken;
    acceptance = λ i. sym a ∙ s.acceptance i;
  }

  -- a table of as many states and as many kinds
  abbrev pub Alike : Table → Type 0
  Alike u = (u.size ≡ t.size) × (u.kinds ≡ t.kinds)

  same_home : (u : Table) → Alike u → (x : ℕ) → state_at (game_of u) x ≡ state_at (game_of t) x
  same_home u (p, q) x = λ i. state_of (p i) (q i - 1) x

  -- a number whose state is named is a copy of a named state
  pub home_named : (u : Table) → Alike u → (named : List ℕ) (x : ℕ) → In (state_at (game_of u) x) named → In x (copies_in t named)
  home_named u k named x i = copies_among t.size (t.kinds - 1) named (state_at (game_of t) x) x (ap (λ (s : ℕ). elem s named) (sym (same_home u k x)) ∙ i) (own_copy t.size (t.kinds - 1) x)

  -- A change made on any table u whose rows begin with what the run on t has taken: so do the rows of the copies of the states that it does not name.
  pub other_step : (b : Change) (u : Table) (x : ℕ) → elem (state_at (game_of u) x) (named b) ≡ false → Shared g (searched u) c x → Shared g (searched (apply b u)) c x
  other_step b u x f s = let a = agree_at b u x f in shared_other (searched u) (searched (apply b u)) x a.0 a.1 s

  -- the row of a copy of the state that a move leaves, with the move added, and with it cut
  module _ (u : Table) (e : Edge) (x : ℕ) (z : state_at (game_of u) x ≡ e.0) where
    -- the copy of a target to which the moves of x lead
    abbrev target : ℕ → ℕ
    target y = copy u.size (lands (game_of u) (layer_at (game_of u) x) (state_at (game_of u) x)) y

    longer_row : (searched (apply (add e) u)).successors x ≡ (searched u).successors x ++ (target e.1 ∷ [])
    unfolding apply
    longer_row =
        ap (map target) (ap (row (u.edges ++ (e ∷ []))) z ∙ row_add u.edges e ∙ ap (λ (s : ℕ). row u.edges s ++ (e.1 ∷ [])) (sym z))
        ∙ map_join target (row u.edges (state_at (game_of u) x)) (e.1 ∷ [])

    shorter_row : (searched (apply (cut e) u)).successors x ≡ but (target e.1) ((searched u).successors x)
    unfolding apply
    shorter_row =
        ap (map target) (ap (row (without e u.edges)) z ∙ row_cut u.edges e ∙ ap (λ (s : ℕ). but e.1 (row u.edges s)) (sym z))
        ∙ but_map target (copy_once u.size (lands (game_of u) (layer_at (game_of u) x) (state_at (game_of u) x))) e.1 (row u.edges (state_at (game_of u) x))

    -- the look at that copy is a look at the move
    pub plain_look : Alike u → outside t.size e ≡ false → plain_edge t (x, target e.1) ≡ e
    plain_look k o =
        let n = (inside_both t.size e o).1 in
        let l : layer_at (game_of u) x < u.kinds = omega (arith, layer_most u.size (u.kinds - 1) x, k.1, v.some_kind) in
        let low = lands_below (game_of u) (layer_at (game_of u) x) (state_at (game_of u) x) l in
        let b : state_at (game_of t) (target e.1) ≡ e.1 = sym (same_home u k (target e.1)) ∙ state_at_lem (game_of u) (lands (game_of u) (layer_at (game_of u) x) (state_at (game_of u) x)) e.1 low (omega (arith, n, k.0)) in
        let a : state_at (game_of t) x ≡ e.0 = sym (same_home u k x) ∙ z in
        λ i. (a i, b i)

  -- no copy of the state has finished
  unfinished_copy : (e : Edge) (x : ℕ) → unexplored (add e) t ≡ true → In x (copies_in t (e.0 ∷ [])) → finished g (budget t) x ≡ false
  unfolding unexplored
  unfinished_copy e x h i =
      not-true (finished g (budget t) x) (λ y. contra (any_in (finished g (budget t)) x (copies_in t (e.0 ∷ [])) i y) (untrue (any (finished g (budget t)) (copies_in t (e.0 ∷ []))) h))

  -- And of a change that the run had not come to, so do those of all.
  pub unexplored_step : (b : Change) (u : Table) → Alike u → Within b t.size → unexplored b t ≡ true → ((x : ℕ) → Shared g (searched u) c x) → (x : ℕ) → Shared g (searched (apply b u)) c x
  unfolding unexplored named apply final
  unexplored_step b u k w e s x = ⊎_elim (named_step b w e) (λ f. other_step b u x f (s x)) (either (elem (state_at (game_of u) x) (named b)))
    where
      named_step : (b : Change) → Within b t.size → unexplored b t ≡ true → In (state_at (game_of u) x) (named b) → Shared g (searched (apply b u)) c x
      named_step (add e) w h i =
          let z : state_at (game_of u) x ≡ e.0 = in_one (state_at (game_of u) x) e.0 i in
          shared_longer (searched u) (searched (apply (add e) u)) x (target u e x z e.1) (longer_row u e x z) refl (unfinished_copy e x h (home_named u k (e.0 ∷ []) x i)) (s x)
      named_step (cut e) w h i =
          let z : state_at (game_of u) x ≡ e.0 = in_one (state_at (game_of u) x) e.0 i in
          shared_shorter (searched u) (searched (apply (cut e) u)) x (target u e x z e.1) (shorter_row u e x z) refl
          (λ j. contra (rw (plain_look u e x z k w) at (has_map (plain_edge t) (probes_of c) (x, target u e x z e.1) j)) (untrue (present (map (plain_edge t) (probes_of c)) e) h)) (s x)
      named_step (mark s kind) w h i = absurd (true≢false (sym h))
      named_step (unmark s kind) w h i = absurd (true≢false (sym h))

  -- of one change
  pub unexplored_shared : (b : Change) → Within b t.size → unexplored b t ≡ true → (x : ℕ) → Shared g (searched (apply b t)) c x
  unexplored_shared b w e = unexplored_step b t (refl, refl) w e (λ x. shared_equal g g c x refl refl)

  -- "A state never met has not finished", and none of its moves was looked at: a state of which no copy was met.
  pub unmet_unexplored : (e : Edge) → meets (copies_in t (e.0 ∷ [])) (final t) ≡ false → (unexplored (add e) t ≡ true) × (unexplored (cut e) t ≡ true)
  unfolding unexplored final
  unmet_unexplored e f = (
    ap not (not-true (any (finished g (budget t)) (copies_in t (e.0 ∷ []))) (λ h.
        let q = any_some (finished g (budget t)) (copies_in t (e.0 ∷ [])) h in
        contra q.2 (finished_is g (budget t) q.0 ∙ ap (λ (b : Bool). b && not (on_path q.0 (unfinished_path c))) (unmet q.0 q.1)))),
    ap not (not-true (present (map (plain_edge t) (probes_of c)) e) (λ h.
        let q = map_has (plain_edge t) (probes_of c) e h in
        let z : e.0 ≡ state_at (game_of t) q.0.0 = ap (λ (y : Edge). y.0) q.2 in
        contra (looked_known g rows_once (budget t) q.0.0 q.0.1 q.1) (unmet q.0.0 (home_named t (refl, refl) (e.0 ∷ []) q.0.0 (rw (← z) (in_head e.0 [])))))),
  )
    where
      unmet : (x : ℕ) → In x (copies_in t (e.0 ∷ [])) → elem x (discovered_of c) ≡ false
      unmet x i = not-true (elem x (discovered_of c)) (λ j. contra (any_in (λ s. elem s (discovered_of c)) x (copies_in t (e.0 ∷ [])) i j) f)
