-- What holds at every turn of the component search: the groups are right, the closed states are left by no edge, and those of them are found that lie on a round. Assumes nothing.
use mathlib.Core.Path.{◌≡◌, refl, sym, subst⁻¹}
use mathlib.Core.Logic.{◌≢◌, ◌⊎◌, inl, inr, ⊎_elim}
use mathlib.Core.Bool.{Bool, true, false, ◌||◌}
use mathlib.Core.List.{List, [], ◌∷◌, ◌++◌}
use Prim.Native.Nat.{ℕ, ◌≤◌, ◌<◌}
use native.Mathlib.Omega.{arith}
use lib.Dec.{eqb, ltb}
use lib.ListN.{length}
use borrow.Author.Tests.{eqb-false, ltb-true, ltb-false}
use Rattle.plain.specs.Lists.{elem, In, Once}
use Rattle.plain.specs.Search.{Graph, Frame, frame, on_path}
use Rattle.plain.specs.Cycles.{Run, Kinded}
use Rattle.plain.proofs.Tests.{contra, either, not-true, or_true, or_first, or_second, same, in_nil, out_nil, in_head, in_tail, in_one, in_append, in_left, in_right}
use Rattle.plain.proofs.Paths.{On, Distinct, on_head, on_tail, on_cases, off_nil, pending_nil}
use Rattle.plain.proofs.Runs.{Reach, run_inside, reach_join}
use Rattle.plain.proofs.Rounds.{Lies, Returning}
use Rattle.components.proofs.Groups.{Group, group, members_of, path_of, joining, Inside, Level, Stack, level_taken, level_done, stack_begins, stack_new, stack_joined, joining_members, joining_path}

-- ---- lists

once_left : (xs ys : List ℕ) → Once (xs ++ ys) → Once xs
once_left [] ys o = tt
once_left (x ∷ xs) ys o = (not-true (elem x xs) (λ i. contra (in_left x xs ys i) o.0), once_left xs ys o.1)

once_right : (xs ys : List ℕ) → Once (xs ++ ys) → Once ys
once_right [] ys o = o
once_right (x ∷ xs) ys o = once_right xs ys o.1

-- of two or more different states, one is another than s
other_state : (xs : List ℕ) (s : ℕ) → Once xs → 1 < length xs → (y : ℕ) × In y xs × (y ≢ s)
other_state [] s o h = absurd (omega arith)
other_state (x ∷ []) s o h = absurd (omega arith)
other_state (x ∷ y ∷ xs) s o h = ⊎_elim
    (λ e. (y, in_tail y x (y ∷ xs) (in_head y xs), λ z. contra (in_first (same e) z) o.0))
    (λ f. (x, in_head x (y ∷ xs), eqb-false x s f)) (either (eqb x s))
  where
    in_first : x ≡ s → y ≡ s → In x (y ∷ xs)
    in_first p q = subst⁻¹ (λ (z : ℕ). In z (y ∷ xs)) (p_then q p) (in_head y xs)
      where
        p_then : y ≡ s → x ≡ s → x ≡ y
        p_then q p = omega arith

-- of at most one, all are the same
only_state : (xs : List ℕ) (s v : ℕ) → length xs ≤ 1 → In s xs → In v xs → s ≡ v
only_state [] s v h i j = absurd (in_nil s i)
only_state (x ∷ []) s v h i j = let p = in_one s x i in let q = in_one v x j in omega arith
only_state (x ∷ y ∷ xs) s v h i j = absurd (omega arith)

-- ---- paths

on_append : (x : ℕ) (p q : List Frame) → On x (p ++ q) → On x p ⊎ On x q
on_append x [] q h = inr h
on_append x (frame s ts ∷ p) q h = ⊎_elim
    (λ e. inl (rw e (on_head s ts p)))
    (λ j. ⊎_elim (λ i. inl (on_tail x s ts p i)) inr (on_append x p q j)) (on_cases x s ts (p ++ q) h)

on_inside : (x : ℕ) (ms : List ℕ) (p : List Frame) → Inside ms p → On x p → In x ms
on_inside x ms [] i h = absurd (contra h (off_nil x))
on_inside x ms (frame s ts ∷ p) i h = ⊎_elim (λ e. rw e i.0) (on_inside x ms p i.1) (on_cases x s ts p h)

-- ---- the invariant

module _ (a : Kinded) where
  abbrev g : Graph
  g = a.graph

  -- a state of the path is open
  pub on_member : (newer : List ℕ) (gs : List Group) (x : ℕ) → Stack g newer gs → On x (path_of gs) → In x (members_of gs)
  on_member newer [] x s h = absurd (contra h (off_nil x))
  on_member newer (group ms p ∷ gs) x (l, s) h = ⊎_elim
      (λ i. in_left x ms (members_of gs) (on_inside x ms p l.inside i))
      (λ i. in_right x ms (members_of gs) (on_member (ms ++ newer) gs x s i)) (on_append x p (path_of gs) h)

  -- gs: the groups; f: the closed states; k: those of them that are found
  pub record Inv (gs : List Group) (f k : List ℕ) : Type 0 where
    pub stack : Stack g f gs
    pub closed : (x y : ℕ) → In x f → In y (g.successors x) → In y f
    pub begun : In g.start f ⊎ In g.start (members_of gs)
    pub reached : (x : ℕ) → In x f → Reach g g.start x
    pub only : (x : ℕ) → In x k → Lies a x
    pub within : (x : ℕ) → In x k → In x f
    pub each : (x : ℕ) → In x f → Lies a x → In x k
    pub once : Once (members_of gs)
    pub distinct : Distinct (path_of gs)

  pub inv_begins : Inv (group (g.start ∷ []) (frame g.start (g.successors g.start) ∷ []) ∷ []) [] []
  inv_begins = record {
    stack = stack_begins g;
    closed = λ x y i j. absurd (in_nil x i);
    begun = inr (in_head g.start []);
    reached = λ x i. absurd (in_nil x i);
    only = λ x i. absurd (in_nil x i);
    within = λ x i. i;
    each = λ x i l. absurd (in_nil x i);
    once = (out_nil g.start, tt);
    distinct = (off_nil g.start, tt);
  }

  -- the groups change, and the open states and those of the path do not
  same_states : (gs gs' : List Group) (f k : List ℕ) → Stack g f gs' → members_of gs' ≡ members_of gs → Distinct (path_of gs') → Inv gs f k → Inv gs' f k
  same_states gs gs' f k s e d v = record {
    stack = s;
    closed = v.closed;
    begun = ⊎_elim inl (λ i. inr (rw e i)) v.begun;
    reached = v.reached;
    only = v.only;
    within = v.within;
    each = v.each;
    once = rw e v.once;
    distinct = d;
  }

  module _ (ms : List ℕ) (s : ℕ) (p : List Frame) (gs : List Group) (f k : List ℕ) where
    -- the edge s → t leads to a closed state
    pub inv_taken : (t : ℕ) (ts : List ℕ) → In t f → Inv (group ms (frame s (t ∷ ts) ∷ p) ∷ gs) f k → Inv (group ms (frame s ts ∷ p) ∷ gs) f k
    inv_taken t ts i v = same_states (group ms (frame s (t ∷ ts) ∷ p) ∷ gs) (group ms (frame s ts ∷ p) ∷ gs) f k
        (level_taken g f ms s t ts p gs (inl i) v.stack.0, v.stack.1) refl v.distinct v

    -- it leads to an open one
    pub inv_joined : (t : ℕ) (ts : List ℕ) → In t (ms ++ members_of gs) → Inv (group ms (frame s (t ∷ ts) ∷ p) ∷ gs) f k → Inv (joining t ms (frame s ts ∷ p) gs) f k
    inv_joined t ts i v = same_states (group ms (frame s (t ∷ ts) ∷ p) ∷ gs) (joining t ms (frame s ts ∷ p) gs) f k
        (stack_joined g f ms s t ts p gs i v.stack) (joining_members t ms (frame s ts ∷ p) gs) (rw (joining_path t ms (frame s ts ∷ p) gs) v.distinct) v

    -- it leads to one that is not discovered
    pub inv_new : (t : ℕ) (ts : List ℕ) → elem t f ≡ false → elem t (ms ++ members_of gs) ≡ false → Inv (group ms (frame s (t ∷ ts) ∷ p) ∷ gs) f k
        → Inv (group (t ∷ []) (frame t (g.successors t) ∷ []) ∷ group ms (frame s ts ∷ p) ∷ gs) f k
    unfolding on_path
    inv_new t ts o new v = record {
      stack = stack_new g f ms s t ts p gs o new v.stack;
      closed = v.closed;
      begun = ⊎_elim inl (λ i. inr (in_tail g.start t (ms ++ members_of gs) i)) v.begun;
      reached = v.reached;
      only = v.only;
      within = v.within;
      each = v.each;
      once = (new, v.once);
      distinct = (not-true (on_path t (frame s ts ∷ p ++ path_of gs)) (λ h. contra (on_member f (group ms (frame s (t ∷ ts) ∷ p) ∷ gs) t v.stack h) new), v.distinct);
    }

    -- s has no edge left, and leaves the path
    pub inv_done : Inv (group ms (frame s [] ∷ p) ∷ gs) f k → Inv (group ms p ∷ gs) f k
    inv_done v = same_states (group ms (frame s [] ∷ p) ∷ gs) (group ms p ∷ gs) f k (level_done g f ms s p gs v.stack.0, v.stack.1) refl v.distinct.1 v

  -- ---- a group with no state left on the path

  -- the states that are found, with those of a group on a round
  abbrev pub found : Bool → List ℕ → List ℕ → List ℕ
  found true ms k = ms ++ k
  found false ms k = k

  found_only : (b : Bool) (ms k : List ℕ) (x : ℕ) → In x (found b ms k) → (In x ms × (b ≡ true)) ⊎ In x k
  found_only true ms k x i = ⊎_elim (λ u. inl (u, refl)) inr (in_append x ms k i)
  found_only false ms k x i = inr i

  found_new : (b : Bool) (ms k : List ℕ) (x : ℕ) → In x ms → b ≡ true → In x (found b ms k)
  found_new true ms k x i e = in_left x ms k i
  found_new false ms k x i e = absurd (contra e refl)

  found_old : (b : Bool) (ms k : List ℕ) (x : ℕ) → In x k → In x (found b ms k)
  found_old true ms k x i = in_right x ms k i
  found_old false ms k x i = i

  module _ (ms : List ℕ) (gs : List Group) (f k : List ℕ) (v : Inv (group ms [] ∷ gs) f k) where
    abbrev l : Level g f ms [] gs
    l = v.stack.0

    -- its states, with the closed ones, are left by no edge
    group_closed : (x y : ℕ) → In x (ms ++ f) → In y (g.successors x) → In y (ms ++ f)
    group_closed x y i j = ⊎_elim
        (λ u. ⊎_elim (λ h. ⊎_elim (in_right y ms f) (in_left y ms f) h) (pending_nil x y) (l.edges x y u j))
        (λ u. in_right y ms f (v.closed x y u j)) (in_append x ms f i)

    -- So it is a strongly connected component: a state that a member reaches and that reaches it is a member.
    component : (x y : ℕ) → In x ms → Reach g x y → Reach g y x → In y ms
    component x y i r q = ⊎_elim
        (λ u. u)
        (λ u. absurd (contra (run_inside g f v.closed q.0 y x q.1 u) (l.apart x i)))
        (in_append y ms f (run_inside g (ms ++ f) group_closed r.0 x y r.1 (in_left x ms f i)))

    -- two members that differ lie on a closed run
    from_other : (s y : ℕ) → In s ms → In y ms → y ≢ s → Returning a s
    from_other s y i j n = first there.0 there.1
      where
        there : Reach g s y
        there = l.strong s y i j

        first : (xs : List ℕ) → Run g s xs y → Returning a s
        first [] r = absurd (n (sym r))
        first (x ∷ xs) r = (x, r.0, reach_join g x y s (xs, r.1) (l.strong y s j i))

    -- a closed run passes the members: they are more than one, or the one has an edge to itself
    module _ (v₀ : ℕ) (there : In v₀ ms) where
      pub cyclic_back : (s : ℕ) → In s ms → ltb 1 (length ms) || elem v₀ (g.successors v₀) ≡ true → Returning a s
      cyclic_back s i e = ⊎_elim many alone (either (ltb 1 (length ms)))
        where
          many : ltb 1 (length ms) ≡ true → Returning a s
          many h = let (y, j, n) = other_state ms s (once_left ms (members_of gs) v.once) (ltb-true 1 (length ms) h) in from_other s y i j n

          alone : ltb 1 (length ms) ≡ false → Returning a s
          alone h =
              let z : s ≡ v₀ = only_state ms s v₀ (ltb-false 1 (length ms) h) i there in
              let own : In v₀ (g.successors v₀) = ⊎_elim (λ u. absurd (contra u h)) (λ u. u) (or_true (ltb 1 (length ms)) (elem v₀ (g.successors v₀)) e) in
              rw z (v₀, own, ([], refl))

      pub back_cyclic : (s : ℕ) → In s ms → Returning a s → ltb 1 (length ms) || elem v₀ (g.successors v₀) ≡ true
      back_cyclic s i (x, j, r) = ⊎_elim
          (or_first (ltb 1 (length ms)) (elem v₀ (g.successors v₀)))
          (λ h.
          let few = ltb-false 1 (length ms) h in
          let z : s ≡ v₀ = only_state ms s v₀ few i there in
          let w : x ≡ v₀ = only_state ms x v₀ few (component s x i (x ∷ [], (j, refl)) r) there in
          or_second (ltb 1 (length ms)) (elem v₀ (g.successors v₀)) (subst⁻¹ (λ (y : ℕ). In y (g.successors v₀)) (sym w) (subst⁻¹ (λ (y : ℕ). In x (g.successors y)) (sym z) j)))
          (either (ltb 1 (length ms)))

    -- the kinds that members carry are those that closed runs through them pass
    pub carried_passes : (s kind : ℕ) → In s ms → (x : ℕ) × In x ms × (a.carries kind x ≡ true) → (x : ℕ) × (a.carries kind x ≡ true) × Reach g s x × Reach g x s
    carried_passes s kind i (x, j, c) = (x, c, l.strong s x i j, l.strong x s j i)

    pub passes_carried : (s kind : ℕ) → In s ms → (x : ℕ) × (a.carries kind x ≡ true) × Reach g s x × Reach g x s → (x : ℕ) × In x ms × (a.carries kind x ≡ true)
    passes_carried s kind i (x, c, r, q) = (x, component s x i r q, c)

    -- the group is closed; b: do its members lie on a round?
    pub inv_closed : (b : Bool) → ((s : ℕ) → In s ms → b ≡ true → Lies a s) → ((s : ℕ) → In s ms → Lies a s → b ≡ true) → Inv gs (ms ++ f) (found b ms k)
    inv_closed b lies lying = record {
      stack = v.stack.1;
      closed = group_closed;
      begun = ⊎_elim (λ i. inl (in_right g.start ms f i)) (λ i. ⊎_elim (λ j. inl (in_left g.start ms f j)) inr (in_append g.start ms (members_of gs) i)) v.begun;
      reached = λ x i. ⊎_elim (l.reached x) (v.reached x) (in_append x ms f i);
      only = λ x i. ⊎_elim (λ u. lies x u.0 u.1) (v.only x) (found_only b ms k x i);
      within = λ x i. ⊎_elim (λ u. in_left x ms f u.0) (λ u. in_right x ms f (v.within x u)) (found_only b ms k x i);
      each = λ x i o. ⊎_elim (λ u. found_new b ms k x u (lying x u o)) (λ u. found_old b ms k x (v.each x u o)) (in_append x ms f i);
      once = once_right ms (members_of gs) v.once;
      distinct = v.distinct;
    }

  -- ---- the end

  -- where no group is left, the closed states are those that can be reached, and those on a round are found
  pub all_found : (f k : List ℕ) → Inv [] f k → (s : ℕ) → (In s k → Reach g g.start s × Lies a s) × (Reach g g.start s × Lies a s → In s k)
  all_found f k v s = (
    λ i. (v.reached s (v.within s i), v.only s i),
    λ (r, l). v.each s (run_inside g f v.closed r.0 g.start s r.1 (⊎_elim (λ u. u) (λ u. absurd (in_nil g.start u)) v.begun)) l,
  )
