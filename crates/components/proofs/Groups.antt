-- A depth-first path held in groups of states that reach one another: what holds of the groups, and goes on holding where an edge is taken. Assumes nothing.
use mathlib.Core.Path.{◌≡◌, refl, ap, ◌∙◌}
use mathlib.Core.Logic.{◌⊎◌, inl, inr, ⊎_elim}
use mathlib.Core.Bool.{Bool, true, false}
use mathlib.Core.List.{List, [], ◌∷◌, ◌++◌, append_assoc}
use Prim.Native.Nat.{ℕ}
use Rattle.plain.specs.Lists.{elem, In}
use Rattle.plain.specs.Search.{Graph, Frame, frame}
use Rattle.plain.proofs.Tests.{contra, either, not-true, in_nil, out_nil, in_head, in_tail, in_cases, in_one, in_append, in_left, in_right}
use Rattle.plain.proofs.Paths.{Pending, pending_nil, pending_here, pending_below, pending_cases, pending_more}
use Rattle.plain.proofs.Runs.{Reach, run_snoc, reach_join}
use Rattle.plain.proofs.Invariant.{Settled, settled_taken, settled_done, settled_up}

-- the members of a group, newest first, and the part of the path that goes through them
pub data Group : Type 0 where
  group : List ℕ → List Frame → Group

-- the open states: the members of all groups; the groups are newest first
abbrev pub members_of : List Group → List ℕ
members_of [] = []
members_of (group ms p ∷ gs) = ms ++ members_of gs

-- the whole path
abbrev pub path_of : List Group → List Frame
path_of [] = []
path_of (group ms p ∷ gs) = p ++ path_of gs

-- The groups, of which the newest has members ms and path p, down to the one that has t become one.
unfoldable pub joining : ℕ → List ℕ → List Frame → List Group → List Group
joining t ms p [] = group ms p ∷ []
joining t ms p (group ns q ∷ gs) = elim (elem t ms) [ true ↦ group ms p ∷ group ns q ∷ gs | false ↦ joining t (ms ++ ns) (p ++ q) gs ]

pub joining_here : (t : ℕ) (ms : List ℕ) (p : List Frame) (gs : List Group) → In t ms → joining t ms p gs ≡ group ms p ∷ gs
unfolding joining
joining_here t ms p [] i = refl
joining_here t ms p (group ns q ∷ gs) i = rw (i, joining)

pub joining_below : (t : ℕ) (ms : List ℕ) (p : List Frame) (ns : List ℕ) (q : List Frame) (gs : List Group) → elem t ms ≡ false
    → joining t ms p (group ns q ∷ gs) ≡ joining t (ms ++ ns) (p ++ q) gs
unfolding joining
joining_below t ms p ns q gs o = rw (o, joining)

-- ---- a path in two parts

pending_left : (x y : ℕ) (p q : List Frame) → Pending x y p → Pending x y (p ++ q)
pending_left x y [] q h = pending_nil x y h
pending_left x y (frame s ts ∷ p) q h =
    ⊎_elim (λ c. rw c.0 (pending_here s y ts (p ++ q) c.1)) (λ d. pending_below x y s ts (p ++ q) (pending_left x y p q d)) (pending_cases x y s ts p h)

pending_right : (x y : ℕ) (p q : List Frame) → Pending x y q → Pending x y (p ++ q)
pending_right x y [] q h = h
pending_right x y (frame s ts ∷ p) q h = pending_below x y s ts (p ++ q) (pending_right x y p q h)

pending_append : (x y : ℕ) (p q : List Frame) → Pending x y (p ++ q) → Pending x y p ⊎ Pending x y q
pending_append x y [] q h = inr h
pending_append x y (frame s ts ∷ p) q h = ⊎_elim
    (λ c. inl (rw c.0 (pending_here s y ts p c.1)))
    (λ d. ⊎_elim (λ e. inl (pending_below x y s ts p e)) inr (pending_append x y p q d)) (pending_cases x y s ts (p ++ q) h)

-- the path goes through members
abbrev pub Inside : List ℕ → List Frame → Type 0
Inside ms [] = Unit {0}
Inside ms (frame s ts ∷ p) = In s ms × Inside ms p

inside_up : (ms ns : List ℕ) (p : List Frame) → ((x : ℕ) → In x ms → In x ns) → Inside ms p → Inside ns p
inside_up ms ns [] up i = tt
inside_up ms ns (frame s ts ∷ p) up i = (up s i.0, inside_up ms ns p up i.1)

inside_append : (ms : List ℕ) (p q : List Frame) → Inside ms p → Inside ms q → Inside ms (p ++ q)
inside_append ms [] q i j = j
inside_append ms (frame s ts ∷ p) q i j = (i.0, inside_append ms p q i.1 j)

module _ (g : Graph) where
  -- where an edge of a member that was taken leads: to a newer state, or to a member
  abbrev pub Ahead : List ℕ → List ℕ → ℕ → ℕ → Type 0
  Ahead newer ms x y = In y newer ⊎ In y ms

  -- A group over the older groups gs; newer: the members of newer groups, and the states of complete components.
  pub record Level (newer ms : List ℕ) (p : List Frame) (gs : List Group) : Type 0 where
    pub some : (x : ℕ) × In x ms
    pub strong : (x y : ℕ) → In x ms → In y ms → Reach g x y
    pub edges : Settled g (Ahead newer ms) p ms
    pub genuine : (x y : ℕ) → Pending x y p → In x ms × In y (g.successors x)
    -- older states reach the members
    pub link : (x y : ℕ) → In x (members_of gs) → In y ms → Reach g x y
    pub apart : (x : ℕ) → In x ms → elem x newer ≡ false
    pub reached : (x : ℕ) → In x ms → Reach g g.start x
    pub inside : Inside ms p

  abbrev pub Stack : List ℕ → List Group → Type 0
  Stack newer [] = Unit {0}
  Stack newer (group ms p ∷ gs) = Level newer ms p gs × Stack (ms ++ newer) gs

  -- newer states may come and go, as long as no open state is among them
  stack_newer : (n n' : List ℕ) (gs : List Group) → ((x : ℕ) → In x n → In x n') → ((x : ℕ) → In x (members_of gs) → In x n' → In x n) → Stack n gs → Stack n' gs
  stack_newer n n' [] up down s = tt
  stack_newer n n' (group ms p ∷ gs) up down (l, s) = (
    record {
      some = l.some;
      strong = l.strong;
      edges = settled_up g (Ahead n ms) (Ahead n' ms) p ms (λ x y h. ⊎_elim (λ i. inl (up y i)) inr h) l.edges;
      genuine = l.genuine;
      link = l.link;
      apart = λ x i. not-true (elem x n') (λ j. contra (down x (in_left x ms (members_of gs) i) j) (l.apart x i));
      reached = l.reached;
      inside = l.inside;
    },
    stack_newer (ms ++ n) (ms ++ n') gs
        (λ x i. ⊎_elim (in_left x ms n') (λ j. in_right x ms n' (up x j)) (in_append x ms n i))
        (λ x h i. ⊎_elim (in_left x ms n) (λ j. in_right x ms n (down x (in_right x ms (members_of gs) h) j)) (in_append x ms n' i)) s,
  )

  -- ---- an edge is taken

  -- into a complete component
  pub level_taken : (newer ms : List ℕ) (s t : ℕ) (ts : List ℕ) (p : List Frame) (gs : List Group) → In t newer ⊎ In t ms
      → Level newer ms (frame s (t ∷ ts) ∷ p) gs → Level newer ms (frame s ts ∷ p) gs
  level_taken newer ms s t ts p gs i l = record {
    some = l.some;
    strong = l.strong;
    edges = settled_taken g (Ahead newer ms) s t ts p ms l.edges i;
    genuine = λ x y h. l.genuine x y (pending_more x y s t ts p h);
    link = l.link;
    apart = l.apart;
    reached = l.reached;
    inside = l.inside;
  }

  -- a state has none left, and leaves the path
  pub level_done : (newer ms : List ℕ) (s : ℕ) (p : List Frame) (gs : List Group) → Level newer ms (frame s [] ∷ p) gs → Level newer ms p gs
  level_done newer ms s p gs l = record {
    some = l.some;
    strong = l.strong;
    edges = settled_done g (Ahead newer ms) s p ms l.edges;
    genuine = λ x y h. l.genuine x y (pending_below x y s [] p h);
    link = l.link;
    apart = l.apart;
    reached = l.reached;
    inside = l.inside.1;
  }

  -- a state that is discovered is a group of its own
  level_alone : (newer : List ℕ) (t : ℕ) (gs : List Group) → elem t newer ≡ false → Reach g g.start t → ((x : ℕ) → In x (members_of gs) → Reach g x t)
      → Level newer (t ∷ []) (frame t (g.successors t) ∷ []) gs
  level_alone newer t gs o r link = record {
    some = (t, in_head t []);
    strong = λ x y u v. rw (in_one x t u, in_one y t v) ([], refl);
    edges = λ x y u v. inr (rw (in_one x t u) (pending_here t y (g.successors t) [] (rw (in_one x t u) at v)));
    genuine = λ x y h. ⊎_elim (λ c. (rw c.0 (in_head t []), rw c.0 c.1)) (pending_nil x y) (pending_cases x y t (g.successors t) [] h);
    link = λ x y h v. rw (in_one y t v) (link x h);
    apart = λ x u. rw (in_one x t u) o;
    reached = λ x u. rw (in_one x t u) r;
    inside = (in_head t [], tt);
  }

  -- the first one
  pub stack_begins : Stack [] (group (g.start ∷ []) (frame g.start (g.successors g.start) ∷ []) ∷ [])
  stack_begins = (level_alone [] g.start [] (out_nil g.start) ([], refl) (λ x h. absurd (in_nil x h)), tt)

  -- the edge s → t leads to a state not discovered
  pub stack_new : (f ms : List ℕ) (s t : ℕ) (ts : List ℕ) (p : List Frame) (gs : List Group) → elem t f ≡ false → elem t (ms ++ members_of gs) ≡ false
      → Stack f (group ms (frame s (t ∷ ts) ∷ p) ∷ gs)
      → Stack f (group (t ∷ []) (frame t (g.successors t) ∷ []) ∷ group ms (frame s ts ∷ p) ∷ gs)
  stack_new f ms s t ts p gs o new (l, r) = (
    level_alone f t (group ms (frame s ts ∷ p) ∷ gs) o (beyond g.start (l.reached s edge.0))
        (λ x h. beyond x (⊎_elim (λ u. l.strong x s u edge.0) (λ u. l.link x s u edge.0) (in_append x ms (members_of gs) h))),
    (level_taken (t ∷ f) ms s t ts p gs (inl (in_head t f)) moved.0, moved.1),
  )
    where
      edge : In s ms × In t (g.successors s)
      edge = l.genuine s t (pending_here s t (t ∷ ts) p (in_head t ts))

      beyond : (x : ℕ) → Reach g x s → Reach g x t
      beyond x z = (z.0 ++ (t ∷ []), run_snoc g z.0 x s t z.1 edge.1)

      moved : Stack (t ∷ f) (group ms (frame s (t ∷ ts) ∷ p) ∷ gs)
      moved = stack_newer f (t ∷ f) (group ms (frame s (t ∷ ts) ∷ p) ∷ gs) (λ x. in_tail x t f)
          (λ x h i. ⊎_elim (λ e. absurd (contra (rw e at h) new)) (λ j. j) (in_cases x t f i)) (l, r)

  -- ---- groups are joined

  -- While they are: ms are the members so far, f the complete components, t the state to which the edge leads.
  record Joining (f : List ℕ) (t : ℕ) (ms : List ℕ) (p : List Frame) (gs : List Group) : Type 0 where
    there : (x : ℕ) → In x ms → Reach g x t
    back : (y : ℕ) → In t ms → In y ms → Reach g t y
    edges : Settled g (λ x y. Ahead f ms x y ⊎ (y ≡ t)) p ms
    genuine : (x y : ℕ) → Pending x y p → In x ms × In y (g.successors x)
    link : (x y : ℕ) → In x (members_of gs) → In y ms → Reach g x y
    member : (x : ℕ) × In x ms
    apart : (x : ℕ) → In x ms → elem x f ≡ false
    reached : (x : ℕ) → In x ms → Reach g g.start x
    inside : Inside ms p
    rest : Stack (ms ++ f) gs

  -- one more
  joining_more : (f : List ℕ) (t : ℕ) (ms : List ℕ) (p : List Frame) (ns : List ℕ) (q : List Frame) (gs : List Group) → elem t ms ≡ false
      → Joining f t ms p (group ns q ∷ gs) → Joining f t (ms ++ ns) (p ++ q) gs
  joining_more f t ms p ns q gs o w = record {
    there = λ x i. ⊎_elim (w.there x) (older x) (in_append x ms ns i);
    back = λ y i j.
        let z : In t ns = ⊎_elim (λ n. absurd (contra n o)) (λ n. n) (in_append t ms ns i) in
        ⊎_elim (λ u. w.link t y (in_left t ns (members_of gs) z) u) (λ u. l.strong t y z u) (in_append y ms ns j);
    edges = λ x y i j. ⊎_elim (λ u. newer_edges x y (w.edges x y u j)) (λ u. older_edges x y (l.edges x y u j)) (in_append x ms ns i);
    genuine = λ x y h. ⊎_elim
        (λ u. let z = w.genuine x y u in (in_left x ms ns z.0, z.1))
        (λ u. let z = l.genuine x y u in (in_right x ms ns z.0, z.1)) (pending_append x y p q h);
    link = λ x y h i. ⊎_elim (λ u. w.link x y (in_right x ns (members_of gs) h) u) (λ u. l.link x y h u) (in_append y ms ns i);
    member = (w.member.0, in_left w.member.0 ms ns w.member.1);
    apart = λ x i. ⊎_elim (w.apart x) (λ u. not-true (elem x f) (λ j. contra (in_right x ms f j) (l.apart x u))) (in_append x ms ns i);
    reached = λ x i. ⊎_elim (w.reached x) (l.reached x) (in_append x ms ns i);
    inside = inside_append (ms ++ ns) p q (inside_up ms (ms ++ ns) p (λ x. in_left x ms ns) w.inside) (inside_up ns (ms ++ ns) q (λ x. in_right x ms ns) l.inside);
    rest = stack_newer (ns ++ (ms ++ f)) ((ms ++ ns) ++ f) gs (λ x i. swapped x i) (λ x h i. swapped_back x i) w.rest.1;
  }
    where
      l : Level (ms ++ f) ns q gs
      l = w.rest.0

      older : (x : ℕ) → In x ns → Reach g x t
      older x i = reach_join g x w.member.0 t (w.link x w.member.0 (in_left x ns (members_of gs) i) w.member.1) (w.there w.member.0 w.member.1)

      newer_edges : (x y : ℕ) → (Ahead f ms x y ⊎ (y ≡ t)) ⊎ Pending x y p → (Ahead f (ms ++ ns) x y ⊎ (y ≡ t)) ⊎ Pending x y (p ++ q)
      newer_edges x y h =
          ⊎_elim (λ a. inl (⊎_elim (λ z. inl (⊎_elim inl (λ c. inr (in_left y ms ns c)) z)) inr a)) (λ c. inr (pending_left x y p q c)) h

      older_edges : (x y : ℕ) → Ahead (ms ++ f) ns x y ⊎ Pending x y q → (Ahead f (ms ++ ns) x y ⊎ (y ≡ t)) ⊎ Pending x y (p ++ q)
      older_edges x y h = ⊎_elim
          (λ a. inl (inl (⊎_elim (λ i. ⊎_elim (λ u. inr (in_left y ms ns u)) inl (in_append y ms f i)) (λ c. inr (in_right y ms ns c)) a)))
          (λ c. inr (pending_right x y p q c)) h

      swapped : (x : ℕ) → In x (ns ++ (ms ++ f)) → In x ((ms ++ ns) ++ f)
      swapped x i = ⊎_elim
          (λ u. in_left x (ms ++ ns) f (in_right x ms ns u))
          (λ u. ⊎_elim (λ v. in_left x (ms ++ ns) f (in_left x ms ns v)) (in_right x (ms ++ ns) f) (in_append x ms f u))
          (in_append x ns (ms ++ f) i)

      swapped_back : (x : ℕ) → In x ((ms ++ ns) ++ f) → In x (ns ++ (ms ++ f))
      swapped_back x i = ⊎_elim
          (λ u. ⊎_elim (λ v. in_right x ns (ms ++ f) (in_left x ms f v)) (in_left x ns (ms ++ f)) (in_append x ms ns u))
          (λ u. in_right x ns (ms ++ f) (in_right x ms f u))
          (in_append x (ms ++ ns) f i)

  -- t is among the members
  joining_ends : (f : List ℕ) (t : ℕ) (ms : List ℕ) (p : List Frame) (gs : List Group) → In t ms → Joining f t ms p gs → Stack f (group ms p ∷ gs)
  joining_ends f t ms p gs i w = (
    record {
      some = (t, i);
      strong = λ x y u v. reach_join g x t y (w.there x u) (w.back y i v);
      edges = settled_up g (λ x y. Ahead f ms x y ⊎ (y ≡ t)) (Ahead f ms) p ms (λ x y. ⊎_elim (λ a. a) (λ e. inr (rw e i))) w.edges;
      genuine = w.genuine;
      link = w.link;
      apart = w.apart;
      reached = w.reached;
      inside = w.inside;
    },
    w.rest,
  )

  -- is t among the members so far?
  by_member : (c : Bool) (f : List ℕ) (t : ℕ) (ms : List ℕ) (p : List Frame) (ns : List ℕ) (q : List Frame) (gs : List Group) → elem t ms ≡ c
      → In t (ms ++ (ns ++ members_of gs)) → Joining f t ms p (group ns q ∷ gs)
      → (In t ((ms ++ ns) ++ members_of gs) → Joining f t (ms ++ ns) (p ++ q) gs → Stack f (joining t (ms ++ ns) (p ++ q) gs))
      → Stack f (elim c [ true ↦ group ms p ∷ group ns q ∷ gs | false ↦ joining t (ms ++ ns) (p ++ q) gs ])
  by_member true f t ms p ns q gs e i w more = joining_ends f t ms p (group ns q ∷ gs) e w
  by_member false f t ms p ns q gs e i w more = more
      (⊎_elim
      (λ u. absurd (contra u e))
      (λ h. ⊎_elim (λ u. in_left t (ms ++ ns) (members_of gs) (in_right t ms ns u)) (in_right t (ms ++ ns) (members_of gs)) (in_append t ns (members_of gs) h))
      (in_append t ms (ns ++ members_of gs) i))
      (joining_more f t ms p ns q gs e w)

  joining_all : (f : List ℕ) (t : ℕ) (ms : List ℕ) (p : List Frame) (gs : List Group) → In t (ms ++ members_of gs) → Joining f t ms p gs → Stack f (joining t ms p gs)
  unfolding joining
  joining_all f t ms p [] i w = joining_ends f t ms p [] (⊎_elim (λ u. u) (λ u. absurd (in_nil t u)) (in_append t ms [] i)) w
  joining_all f t ms p (group ns q ∷ gs) i w = by_member (elem t ms) f t ms p ns q gs refl i w (joining_all f t (ms ++ ns) (p ++ q) gs)

  -- the edge s → t leads to an open state
  pub stack_joined : (f ms : List ℕ) (s t : ℕ) (ts : List ℕ) (p : List Frame) (gs : List Group) → In t (ms ++ members_of gs)
      → Stack f (group ms (frame s (t ∷ ts) ∷ p) ∷ gs) → Stack f (joining t ms (frame s ts ∷ p) gs)
  stack_joined f ms s t ts p gs h (l, r) = joining_all f t ms (frame s ts ∷ p) gs h (record {
    there = λ x i. let z = l.strong x s i edge.0 in (z.0 ++ (t ∷ []), run_snoc g z.0 x s t z.1 edge.1);
    back = λ y i j. l.strong t y i j;
    edges = settled_taken g (λ x y. Ahead f ms x y ⊎ (y ≡ t)) s t ts p ms
        (settled_up g (Ahead f ms) (λ x y. Ahead f ms x y ⊎ (y ≡ t)) (frame s (t ∷ ts) ∷ p) ms (λ x y a. inl a) l.edges)
        (inr refl);
    genuine = λ x y h. l.genuine x y (pending_more x y s t ts p h);
    link = l.link;
    member = (s, edge.0);
    apart = l.apart;
    reached = l.reached;
    inside = l.inside;
    rest = r;
  })
    where
      edge : In s ms × In t (g.successors s)
      edge = l.genuine s t (pending_here s t (t ∷ ts) p (in_head t ts))

-- ---- what joining leaves as it is

module _ (t : ℕ) where
  pub joining_members : (ms : List ℕ) (p : List Frame) (gs : List Group) → members_of (joining t ms p gs) ≡ ms ++ members_of gs
  unfolding joining
  joining_members ms p [] = refl
  joining_members ms p (group ns q ∷ gs) = ⊎_elim
      (λ i. ap members_of (joining_here t ms p (group ns q ∷ gs) i))
      (λ o. ap members_of (joining_below t ms p ns q gs o) ∙ joining_members (ms ++ ns) (p ++ q) gs ∙ append_assoc ms ns (members_of gs)) (either (elem t ms))

  pub joining_path : (ms : List ℕ) (p : List Frame) (gs : List Group) → path_of (joining t ms p gs) ≡ p ++ path_of gs
  unfolding joining
  joining_path ms p [] = refl
  joining_path ms p (group ns q ∷ gs) = ⊎_elim
      (λ i. ap path_of (joining_here t ms p (group ns q ∷ gs) i))
      (λ o. ap path_of (joining_below t ms p ns q gs o) ∙ joining_path (ms ++ ns) (p ++ q) gs ∙ append_assoc p q (path_of gs)) (either (elem t ms))
