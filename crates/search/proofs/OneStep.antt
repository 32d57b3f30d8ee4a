-- One step of the arrays is one step of the plain search. Assumes nothing.
use mathlib.Core.Path.{◌≡◌, refl, sym, ap, subst, ◌∙◌}
use mathlib.Core.Logic.{⊎_elim}
use mathlib.Core.Bool.{Bool, true, false, cond}
use mathlib.Core.List.{List, [], ◌∷◌, ◌++◌, append_assoc}
use Prim.Native.Nat.{ℕ, suc, ◌+◌, ◌-◌, ◌≤◌, ◌<◌}
use native.Mathlib.Omega.{arith}
use lib.Dec.{eqb}
use lib.ListN.{length, get_or, set, drop, length-append, length-set, length-drop}
use lib.Seq.{get_or-set_same, get_or-set_other}
use borrow.Author.Tests.{eqb-true, eqb-false}
use Rattle.plain.specs.Lists.{elem, In, before, from, Begins}
use Rattle.plain.specs.Search.{Graph, Edge, Frame, frame, on_path, Config, outer, nested, exhausted as ended, found, discovered_of, marked_of, count, visit, finish as finishes, probe, step as step_of, states_of, stem_of, cycle_of}
use Rattle.plain.specs.Notes.{Note, Notes, put, note_visit, note_mark, note_probe, note_of, noted, Below}
use Rattle.plain.proofs.Tests.{contra, either, not-true, in_nil, out_nil, in_head, in_tail, in_cases, in_one, in_out}
use Rattle.plain.proofs.Paths.{On, Off, Distinct, on_head, on_cases}
use Rattle.plain.proofs.Invariant.{Linked, Outer as OuterInv, Marks, Nested as NestedInv, Inv, next_known}
use Rattle.plain.proofs.Lassos.{path_run, before_from}
use Rattle.plain.proofs.Walks.{begins_push, begins_pop, begins_at, states_length}
use Rattle.plain.specs.Limits.{Limits}
use Rattle.plain.proofs.Restore.{put_same, put_hit, put_other, ShapeOf, Counted}
use Rattle.look.specs.Numbers.{no_number, up, plus}
use Rattle.look.proofs.Counting.{up_more, plus_more, further_more, no_edge, edge_left}
use Rattle.search.specs.declared.Phase.TheVariants.{Outer, Nested, Exhausted, Found}
use Rattle.search.specs.declared.Walker.{Walker}
use Rattle.search.specs.Core.{Game, row_of, accepts_at, Core, core_of, skipped, left, nesting, finished, returned, emptied, exhausted, closed, with_walker, probed, discover, leave_root, deepen, on_open_path, target_of, finish, outer_step, nested_step, step}
use Rattle.search.specs.Archive.{root_of, stamp_in}
use Rattle.search.proofs.Represents.{note_in, Mirrors, Placed, AtOuter, AtNested, AtReturn, Stands, Matches}
use Rattle.search.proofs.Ways.{same_sized, outer_ends, outer_discovers, outer_skips, outer_finishes, nested_leaves, nested_closes, nested_deepens, nested_skips, nested_returns, nested_empties, step_at}
use Rattle.search.proofs.Places.{placed_set, on_test, stem_length, cursors_set}

-- ---- stamps

-- of any state but the first of a nested search, the array has the stamp
pub stamp_there : (c : Config) (stamp : List ℕ) (x : ℕ) → elem x (root_of c) ≡ false → stamp_in c stamp x ≡ get_or stamp x 0
stamp_there c stamp x o = rw o

pub stamp_root : (c : Config) (stamp : List ℕ) (x : ℕ) → In x (root_of c) → stamp_in c stamp x ≡ length (discovered_of c)
stamp_root c stamp x i = rw i

-- while no nested search runs, of every state
pub stamp_all : (c : Config) (stamp : List ℕ) (x : ℕ) → root_of c ≡ [] → stamp_in c stamp x ≡ get_or stamp x 0
stamp_all c stamp x e = stamp_there c stamp x (ap (elem x) e ∙ out_nil x)

stamp_same : (c c' : Config) (stamp : List ℕ) (x : ℕ) → discovered_of c' ≡ discovered_of c → root_of c' ≡ root_of c → stamp_in c' stamp x ≡ stamp_in c stamp x
stamp_same c c' stamp x e ρ = λ i. cond (elem x (ρ i)) (length (e i)) (get_or stamp x 0)

not_one : (x b : ℕ) → (x ≡ b → ⊥) → elem x (b ∷ []) ≡ false
not_one x b n = not-true (elem x (b ∷ [])) (λ i. n (in_one x b i))

-- ---- the records

-- a step that discovers and marks nothing: the walker and the count change
records_idle : (s : Core) (r : Notes) (c c' : Config) (w : Walker) (spent : ℕ) → discovered_of c' ≡ discovered_of c → marked_of c' ≡ marked_of c → root_of c' ≡ root_of c
    → w.met ≡ s.walker.met → w.kept + spent ≡ count c' → Mirrors s r c
    → Mirrors (core_of w spent s.number s.parent s.index s.probes s.stamp s.walk s.depth s.cursor) r c'
records_idle s r c c' w spent e f ρ m n h = record {
  sized = same_sized s h.sized w spent;
  notes_right = λ x i. h.notes_right x (rw e at i);
  stamps_right = λ x i. stamp_same c c' s.stamp x e ρ ∙ h.stamps_right x (rw f at i);
  undiscovered = λ x b o. h.undiscovered x b (rw e at o);
  unmarked = λ x b o. h.unmarked x b (rw f at o);
  root_unmarked = λ x i. h.root_unmarked x (rw ρ at i);
  met_right = m ∙ h.met_right ∙ ap length (sym e);
  probes_right = n;
}

-- a nested search starts from b, which is marked, and not yet in the array
records_nest : (s : Core) (r : Notes) (c c' : Config) (w : Walker) (b : ℕ) → discovered_of c' ≡ discovered_of c → marked_of c' ≡ b ∷ marked_of c → root_of c ≡ []
    → root_of c' ≡ b ∷ [] → elem b (marked_of c) ≡ false → b < 512 → w.met ≡ s.walker.met → w.kept + s.spent ≡ count c' → Mirrors s r c
    → Mirrors (with_walker s w) (record { of = r.of; stamp = put b (length (discovered_of c)) r.stamp }) c'
records_nest s r c c' w b e f ρ ρ' u l m n h = record {
  sized = same_sized s h.sized w s.spent;
  notes_right = λ x i. h.notes_right x (rw e at i);
  stamps_right = λ x i. ⊎_elim
      (λ z. let i : In x (b ∷ []) = rw z (in_head b []) in stamp_root c' s.stamp x (rw ρ' i) ∙ ap length e ∙ sym (put_hit b (length (discovered_of c)) r.stamp x z))
      (λ j. let ne = in_out x b (marked_of c) j u in
      stamp_there c' s.stamp x (ap (elem x) ρ' ∙ not_one x b ne) ∙ sym (stamp_all c s.stamp x ρ) ∙ h.stamps_right x j
      ∙ sym (put_other b (length (discovered_of c)) r.stamp x ne))
      (in_cases x b (marked_of c) (rw f at i));
  undiscovered = λ x l o. h.undiscovered x l (rw e at o);
  unmarked = λ x l o.
      let o' : elem x (b ∷ marked_of c) ≡ false = rw f at o in
      h.unmarked x l (not-true (elem x (marked_of c)) (λ i. contra (in_tail x b (marked_of c) i) o'));
  root_unmarked = λ x i. let z : x ≡ b = in_one x b (rw ρ' at i) in ap (λ (v : ℕ). get_or s.stamp v 0) z ∙ h.unmarked b l u;
  met_right = m ∙ h.met_right ∙ ap length (sym e);
  probes_right = n;
}

-- a nested search marks t
records_mark : (s : Core) (r : Notes) (c c' : Config) (w : Walker) (spent t : ℕ) (walk cursor : List ℕ) → length walk ≡ 512 → length cursor ≡ 512
    → discovered_of c' ≡ discovered_of c → marked_of c' ≡ t ∷ marked_of c → root_of c' ≡ root_of c → ((x : ℕ) → In x (root_of c) → In x (marked_of c))
    → elem t (marked_of c) ≡ false → t < 512 → w.met ≡ s.walker.met → w.kept + spent ≡ count c' → Mirrors s r c
    → Mirrors (core_of w spent s.number s.parent s.index s.probes (set s.stamp t s.walker.met) walk s.depth cursor)
    (record { of = r.of; stamp = put t (length (discovered_of c)) r.stamp }) c'
records_mark s r c c' w spent t walk cursor lw lc e f ρ rooted u b m n h = record {
  sized = record {
    number_size = h.sized.number_size;
    parent_size = h.sized.parent_size;
    index_size = h.sized.index_size;
    probes_size = h.sized.probes_size;
    stamp_size = length-set s.stamp t s.walker.met ∙ h.sized.stamp_size;
    walk_size = lw;
    depth_size = h.sized.depth_size;
    cursor_size = lc;
  };
  notes_right = λ x i. h.notes_right x (rw e at i);
  stamps_right = λ x i. ⊎_elim
      (λ z. ap (stamp_in c' (set s.stamp t s.walker.met)) z ∙ stamp_there c' (set s.stamp t s.walker.met) t (ap (elem t) ρ ∙ off_root)
      ∙ get_or-set_same s.stamp t s.walker.met 0 (omega (arith, h.sized.stamp_size)) ∙ h.met_right
      ∙ sym (put_hit t (length (discovered_of c)) r.stamp x z))
      (λ j. let ne = in_out x t (marked_of c) j u in
      stamp_same c c' (set s.stamp t s.walker.met) x e ρ
      ∙ ap (λ (v : ℕ). cond (elem x (root_of c)) (length (discovered_of c)) v) (get_or-set_other s.stamp t x s.walker.met 0 ne)
      ∙ h.stamps_right x j ∙ sym (put_other t (length (discovered_of c)) r.stamp x ne))
      (in_cases x t (marked_of c) (rw f at i));
  undiscovered = λ x l o. h.undiscovered x l (rw e at o);
  unmarked = λ x l o.
      let o' : elem x (t ∷ marked_of c) ≡ false = rw f at o in
      get_or-set_other s.stamp t x s.walker.met 0 (λ z. contra (rw z (in_head t (marked_of c))) o')
      ∙ h.unmarked x l (not-true (elem x (marked_of c)) (λ i. contra (in_tail x t (marked_of c) i) o'));
  root_unmarked = λ x i.
      let j : In x (root_of c) = rw ρ at i in
      get_or-set_other s.stamp t x s.walker.met 0 (in_out x t (marked_of c) (rooted x j) u) ∙ h.root_unmarked x j;
  met_right = m ∙ h.met_right ∙ ap length (sym e);
  probes_right = n;
}
  where
    off_root : elem t (root_of c) ≡ false
    off_root = not-true (elem t (root_of c)) (λ i. contra (rooted t i) u)

-- a nested search is left: its first state b is marked in the array
records_left : (s : Core) (r : Notes) (c c' : Config) (w : Walker) (b : ℕ) → discovered_of c' ≡ discovered_of c → marked_of c' ≡ marked_of c → root_of c ≡ b ∷ []
    → root_of c' ≡ [] → In b (marked_of c) → b < 512 → w.met ≡ s.walker.met → w.kept + s.spent ≡ count c' → Mirrors s r c
    → Mirrors (core_of w s.spent s.number s.parent s.index s.probes (set s.stamp b s.walker.met) s.walk s.depth s.cursor) r c'
records_left s r c c' w b e f ρ ρ' k l m n h = record {
  sized = record {
    number_size = h.sized.number_size;
    parent_size = h.sized.parent_size;
    index_size = h.sized.index_size;
    probes_size = h.sized.probes_size;
    stamp_size = length-set s.stamp b s.walker.met ∙ h.sized.stamp_size;
    walk_size = h.sized.walk_size;
    depth_size = h.sized.depth_size;
    cursor_size = h.sized.cursor_size;
  };
  notes_right = λ x i. h.notes_right x (rw e at i);
  stamps_right = λ x i. stamp_all c' stamp x ρ' ∙ ⊎_elim (here x) (there x (rw f at i)) (either (eqb x b));
  undiscovered = λ x l o. h.undiscovered x l (rw e at o);
  unmarked = λ x l o.
      let o' : elem x (marked_of c) ≡ false = rw f at o in
      get_or-set_other s.stamp b x s.walker.met 0 (λ z. contra (rw z k) o') ∙ h.unmarked x l o';
  root_unmarked = λ x i. absurd (in_nil x (rw ρ' at i));
  met_right = m ∙ h.met_right ∙ ap length (sym e);
  probes_right = n;
}
  where
    stamp : List ℕ
    stamp = set s.stamp b s.walker.met

    here : (x : ℕ) → eqb x b ≡ true → get_or stamp x 0 ≡ r.stamp x
    here x z =
        let same : x ≡ b = eqb-true x b z in
        let root : In b (root_of c) = rw ρ (in_head b []) in
        ap (λ (v : ℕ). get_or stamp v 0) same ∙ get_or-set_same s.stamp b s.walker.met 0 (omega (arith, h.sized.stamp_size)) ∙ h.met_right
        ∙ sym (stamp_root c s.stamp b root) ∙ h.stamps_right b k ∙ ap r.stamp (sym same)

    there : (x : ℕ) → In x (marked_of c) → eqb x b ≡ false → get_or stamp x 0 ≡ r.stamp x
    there x i z =
        let ne : x ≡ b → ⊥ = eqb-false x b z in
        get_or-set_other s.stamp b x s.walker.met 0 ne ∙ sym (stamp_there c s.stamp x (ap (elem x) ρ ∙ not_one x b ne)) ∙ h.stamps_right x i

same_note : {a b c d a' b' c' d' : ℕ} → a ≡ a' → b ≡ b' → c ≡ c' → d ≡ d'
    → ◌≡◌ {A = Note} (record { number = a; parent = b; index = c; probes = d }) (record { number = a'; parent = b'; index = c'; probes = d' })
same_note e f g h = λ i. record { number = e i; parent = f i; index = g i; probes = h i }

-- a step that discovers t
records_new : (s : Core) (r : Notes) (n : Note) (t cur next : ℕ) (spent : ℕ) (w : Walker) (c c' : Config) → t < 512
    → discovered_of c' ≡ t ∷ discovered_of c → marked_of c' ≡ marked_of c → root_of c ≡ [] → root_of c' ≡ [] → elem t (discovered_of c) ≡ false
    → n.number ≡ length (discovered_of c) → n.parent ≡ cur → n.index ≡ next → n.probes ≡ spent
    → w.met ≡ suc (length (discovered_of c)) → (walk depth : List ℕ) → length walk ≡ 512 → length depth ≡ 512
    → (total : ℕ) → w.kept + total ≡ count c' → Mirrors s r c
    → Mirrors (core_of w total (set s.number t s.walker.met) (set s.parent t cur) (set s.index t next) (set s.probes t spent) s.stamp walk depth s.cursor)
    (record { of = put t n r.of; stamp = r.stamp }) c'
records_new s r n t cur next spent w c c' b e f ρ ρ' u e₁ e₂ e₃ e₄ m walk depth lw ld total pr h = record {
  sized = record {
    number_size = length-set s.number t s.walker.met ∙ h.sized.number_size;
    parent_size = length-set s.parent t cur ∙ h.sized.parent_size;
    index_size = length-set s.index t next ∙ h.sized.index_size;
    probes_size = length-set s.probes t spent ∙ h.sized.probes_size;
    stamp_size = h.sized.stamp_size;
    walk_size = lw;
    depth_size = ld;
    cursor_size = h.sized.cursor_size;
  };
  notes_right = λ x i. ⊎_elim (λ z. rw z here) (λ j. there x j) (in_cases x t (discovered_of c) (rw e at i));
  stamps_right = λ x i. stamp_all c' s.stamp x ρ' ∙ sym (stamp_all c s.stamp x ρ) ∙ h.stamps_right x (rw f at i);
  undiscovered = λ x l o.
      let o' : elem x (t ∷ discovered_of c) ≡ false = rw e at o in
      get_or-set_other s.number t x s.walker.met 0 (λ z. contra (rw z (in_head t (discovered_of c))) o')
      ∙ h.undiscovered x l (not-true (elem x (discovered_of c)) (λ i. contra (in_tail x t (discovered_of c) i) o'));
  unmarked = λ x l o. h.unmarked x l (rw f at o);
  root_unmarked = λ x i. absurd (in_nil x (rw ρ' at i));
  met_right = m ∙ ap length (sym e);
  probes_right = pr;
}
  where
    here : ◌≡◌ {A = Note} (record {
      number = get_or (set s.number t s.walker.met) t 0;
      parent = get_or (set s.parent t cur) t 0;
      index = get_or (set s.index t next) t 0;
      probes = get_or (set s.probes t spent) t 0;
    }) (put t n r.of t)
    here = same_note
        (get_or-set_same s.number t s.walker.met 0 (omega (arith, h.sized.number_size)) ∙ h.met_right ∙ sym e₁)
        (get_or-set_same s.parent t cur 0 (omega (arith, h.sized.parent_size)) ∙ sym e₂)
        (get_or-set_same s.index t next 0 (omega (arith, h.sized.index_size)) ∙ sym e₃)
        (get_or-set_same s.probes t spent 0 (omega (arith, h.sized.probes_size)) ∙ sym e₄)
        ∙ sym (put_same t n r.of)

    there : (x : ℕ) → In x (discovered_of c) → ◌≡◌ {A = Note} (record {
      number = get_or (set s.number t s.walker.met) x 0;
      parent = get_or (set s.parent t cur) x 0;
      index = get_or (set s.index t next) x 0;
      probes = get_or (set s.probes t spent) x 0;
    }) (put t n r.of x)
    there x j =
        let ne = in_out x t (discovered_of c) j u in
        same_note (get_or-set_other s.number t x s.walker.met 0 ne) (get_or-set_other s.parent t x cur 0 ne) (get_or-set_other s.index t x next 0 ne) (get_or-set_other s.probes t x spent 0 ne)
        ∙ h.notes_right x j ∙ sym (put_other t n r.of x ne)

-- the top of a path is its newest state
top_first : (b : ℕ) (us : List ℕ) (p : List Frame) (w : List ℕ) → states_of (frame b us ∷ p) ++ w ≡ states_of p ++ (b ∷ w)
unfolding states_of
top_first b us p w = append_assoc (states_of p) (b ∷ []) w

stem_is : (depth : List ℕ) (t b : ℕ) (p : List Frame) → Placed depth (frame b [] ∷ p) → Distinct (frame b [] ∷ p) → On t (frame b [] ∷ p) → get_or depth t 0 ≡ length (stem_of t (frame b [] ∷ p))
unfolding stem_of
stem_is depth t b p h d o = sym (stem_length depth t (frame b [] ∷ p) h d o)

-- what the outcome of a step has to be
abbrev pub Fits : Graph → Core → Notes → Config → Type 0
Fits g s r c = Mirrors s r c × Stands g s c

module _ (g : Graph) (game : Game) (m : Matches g game) where
  -- the row of the current state
  current : (s : Core) (x : ℕ) → x < 512 → s.walker.cur ≡ x → g.successors x ≡ row_of game s.walker.cur
  current s x b e = m.rows x b ∙ ap (row_of game) (sym e)

  has_edge_lem : (s : Core) (x : ℕ) → x < 512 → s.walker.cur ≡ x → s.walker.next < length (g.successors x) → s.walker.next < length (row_of game s.walker.cur)
  has_edge_lem s x b e h = omega (arith, ap length (current s x b e))

  edges_done : (s : Core) (x : ℕ) → x < 512 → s.walker.cur ≡ x → length (g.successors x) ≤ s.walker.next → length (row_of game s.walker.cur) ≤ s.walker.next
  edges_done s x b e h = omega (arith, ap length (current s x b e))

  target_is : (s : Core) (x t : ℕ) → x < 512 → s.walker.cur ≡ x → get_or (g.successors x) s.walker.next 0 ≡ t → t ≡ target_of game s
  target_is s x t b e h = sym h ∙ ap (λ (row : List ℕ). get_or row s.walker.next 0) (current s x b e)

  -- ---- the outer search

  outer_skip : (s : Core) (r : Notes) (x t : ℕ) (ts : List ℕ) (p : List Frame) (d k : List ℕ) (l : List Edge) → Limits g (outer (frame x (t ∷ ts) ∷ p) d k l)
      → Mirrors s r (outer (frame x (t ∷ ts) ∷ p) d k l) → AtOuter g s x (t ∷ ts) p
      → Fits g (with_walker (probed s) (skipped s.walker)) r (outer (frame x ts ∷ p) d k ((x, t) ∷ l))
  unfolding states_of
  outer_skip s r x t ts p d k l b h a =
      let e = edge_left (g.successors x) s.walker.next t ts a.pending_is in (
        records_idle s r (outer (frame x (t ∷ ts) ∷ p) d k l) (outer (frame x ts ∷ p) d k ((x, t) ∷ l)) (skipped s.walker) (up s.spent) refl refl refl refl
            (omega (arith, up_more s.spent (omega (arith, h.probes_right, b.probes_few)), h.probes_right)) h,
        record {
          phase_is = a.phase_is;
          cur_is = a.cur_is;
          pending_is = e.rest;
          height_is = a.height_is;
          walk_is = a.walk_is;
          places = a.places;
        },
      )

  outer_new : (s : Core) (r : Notes) (x t : ℕ) (ts : List ℕ) (p : List Frame) (d k : List ℕ) (l : List Edge) → Limits g (outer (frame x (t ∷ ts) ∷ p) d k l)
      → suc (length p) < 512 → t < 512 → elem t d ≡ false → Off t (frame x ts ∷ p)
      → Mirrors s r (outer (frame x (t ∷ ts) ∷ p) d k l) → AtOuter g s x (t ∷ ts) p
      → Fits g (discover (probed s) t) (record { of = put t (note_of g x ts d l) r.of; stamp = r.stamp }) (outer (frame t (g.successors t) ∷ frame x ts ∷ p) (t ∷ d) k ((x, t) ∷ l))
  unfolding discover states_of
  outer_new s r x t ts p d k l b few tb new off h a =
      let e = edge_left (g.successors x) s.walker.next t ts a.pending_is in
      let index : length (g.successors x) - suc (length ts) ≡ s.walker.next = omega (arith, ap length a.pending_is, length-drop s.walker.next (g.successors x), e.there) in
      let spent : up s.spent ≡ suc s.spent = up_more s.spent (omega (arith, h.probes_right, b.probes_few)) in
      let total : plus s.walker.kept (up s.spent) ≡ suc (length l) = plus_more s.walker.kept (up s.spent) (omega (arith, h.probes_right, b.probes_few)) ∙ omega (arith, h.probes_right) in
      let height : up s.walker.height ≡ suc (suc (length p)) = up_more s.walker.height (omega (arith, a.height_is)) ∙ ap suc a.height_is in
      let place : s.walker.height ≡ length (states_of p ++ (x ∷ [])) = omega (arith, a.height_is, length-append (states_of p) (x ∷ []), states_length p) in (
        records_new s r (note_of g x ts d l) t s.walker.cur s.walker.next (plus s.walker.kept (up s.spent)) (discover (probed s) t).walker
            (outer (frame x (t ∷ ts) ∷ p) d k l) (outer (frame t (g.successors t) ∷ frame x ts ∷ p) (t ∷ d) k ((x, t) ∷ l)) tb refl refl refl refl new
            refl (sym a.cur_is) index (sym total) (up_more s.walker.met (omega (arith, h.met_right, b.few)) ∙ ap suc h.met_right)
            (set s.walk s.walker.height t) (set s.depth t s.walker.height)
            (length-set s.walk s.walker.height t ∙ h.sized.walk_size) (length-set s.depth t s.walker.height ∙ h.sized.depth_size)
            (up s.spent) (omega (arith, h.probes_right)) h,
        record {
          phase_is = refl;
          cur_is = refl;
          pending_is = refl;
          height_is = height;
          walk_is = begins_push (states_of p ++ (x ∷ [])) s.walk t s.walker.height place h.sized.walk_size (omega (arith, a.height_is)) a.walk_is;
          places = (
            get_or-set_same s.depth t s.walker.height 0 (omega (arith, h.sized.depth_size)) ∙ a.height_is,
            placed_set s.depth t s.walker.height (frame x ts ∷ p) off a.places,
          );
        },
      )

  -- the current state leaves the open path
  leaves : (s : Core) (stamp : List ℕ) (r : Notes) (x : ℕ) (p : List Frame) (d k : List ℕ) (l : List Edge)
      → s.walker.cur ≡ x → s.walker.height ≡ suc (length p) → Begins (states_of p) s.walk → Placed s.depth p → note_in s x ≡ r.of x → Below g r x p
      → Stands g (core_of (left s.parent s.index s.walker) s.spent s.number s.parent s.index s.probes stamp s.walk s.depth s.cursor) (outer p d k l)
  leaves s stamp r x [] d k l e h w z n b = (refl, omega arith)
  leaves s stamp r x (frame y us ∷ p) d k l e h w z n b = record {
    phase_is = refl;
    cur_is = ap (λ (v : ℕ). get_or s.parent v 0) e ∙ ap (λ (o : Note). o.parent) n ∙ b.0;
    pending_is = b.1 ∙ ap (λ (i : ℕ). drop (suc i) (g.successors y)) (ap (λ (o : Note). o.index) (sym n) ∙ ap (λ (v : ℕ). get_or s.index v 0) (sym e));
    height_is = omega arith;
    walk_is = w;
    places = z;
  }

  outer_leave : (s : Core) (r : Notes) (x : ℕ) (p : List Frame) (d k : List ℕ) (l : List Edge) → Limits g (outer (frame x [] ∷ p) d k l) → In x d → Below g r x p
      → Mirrors s r (outer (frame x [] ∷ p) d k l) → AtOuter g s x [] p → Fits g (with_walker s (left s.parent s.index s.walker)) r (outer p d k l)
  unfolding states_of
  outer_leave s r x p d k l b i below h a = (
    records_idle s r (outer (frame x [] ∷ p) d k l) (outer p d k l) (left s.parent s.index s.walker) s.spent refl refl refl refl h.probes_right h,
    leaves s s.stamp r x p d k l a.cur_is a.height_is (begins_pop (states_of p) (x ∷ []) s.walk a.walk_is) a.places.1 (h.notes_right x i) below,
  )

  outer_nest : (s : Core) (r : Notes) (x : ℕ) (p : List Frame) (d k : List ℕ) (l : List Edge) → x < 512 → elem x k ≡ false
      → Mirrors s r (outer (frame x [] ∷ p) d k l) → AtOuter g s x [] p
      → Fits g (with_walker s (nesting s.walker)) (record { of = r.of; stamp = put x (length d) r.stamp }) (nested x p (frame x (g.successors x) ∷ []) d (x ∷ k) l)
  unfolding states_of
  outer_nest s r x p d k l xb new h a = (
    records_nest s r (outer (frame x [] ∷ p) d k l) (nested x p (frame x (g.successors x) ∷ []) d (x ∷ k) l) (nesting s.walker) x refl refl refl refl new xb refl
        h.probes_right h,
    record {
      phase_is = refl;
      cur_is = a.cur_is;
      pending_is = refl;
      height_is = a.height_is;
      top_is = omega (arith, a.height_is);
      walk_is = a.walk_is;
      places = a.places;
      cursors = tt;
    },
  )

  -- ---- the nested search

  nested_skip : (s : Core) (r : Notes) (b : ℕ) (p : List Frame) (x t : ℕ) (ts : List ℕ) (q : List Frame) (d k : List ℕ) (l : List Edge) → Limits g (nested b p (frame x (t ∷ ts) ∷ q) d k l)
      → Mirrors s r (nested b p (frame x (t ∷ ts) ∷ q) d k l) → AtNested g s b p x (t ∷ ts) q
      → Fits g (with_walker (probed s) (skipped s.walker)) r (nested b p (frame x ts ∷ q) d k ((x, t) ∷ l))
  unfolding states_of
  nested_skip s r b p x t ts q d k l u h a =
      let e = edge_left (g.successors x) s.walker.next t ts a.pending_is in (
        records_idle s r (nested b p (frame x (t ∷ ts) ∷ q) d k l) (nested b p (frame x ts ∷ q) d k ((x, t) ∷ l)) (skipped s.walker) (up s.spent) refl refl refl refl
            (omega (arith, up_more s.spent (omega (arith, h.probes_right, u.probes_few)), h.probes_right)) h,
        record {
          phase_is = a.phase_is;
          cur_is = a.cur_is;
          pending_is = e.rest;
          height_is = a.height_is;
          top_is = a.top_is;
          walk_is = a.walk_is;
          places = a.places;
          cursors = a.cursors;
        },
      )

  nested_deepen : (s : Core) (r : Notes) (b : ℕ) (p : List Frame) (x t : ℕ) (ts : List ℕ) (q : List Frame) (d k : List ℕ) (l : List Edge) → Limits g (nested b p (frame x (t ∷ ts) ∷ q) d k l)
      → length p + suc (length q) < 512 → t < 512 → In b k → elem t k ≡ false
      → Mirrors s r (nested b p (frame x (t ∷ ts) ∷ q) d k l) → AtNested g s b p x (t ∷ ts) q
      → Fits g (deepen (probed s) t) (record { of = r.of; stamp = put t (length d) r.stamp }) (nested b p (frame t (g.successors t) ∷ frame x ts ∷ q) d (t ∷ k) ((x, t) ∷ l))
  unfolding deepen states_of
  nested_deepen s r b p x t ts q d k l u few tb base new h a =
      let e = edge_left (g.successors x) s.walker.next t ts a.pending_is in
      let size : length (states_of p ++ (states_of q ++ (x ∷ []))) ≡ length p + suc (length q) =
      omega (arith, length-append (states_of p) (states_of q ++ (x ∷ [])), length-append (states_of q) (x ∷ []), states_length p, states_length q) in
      let at : s.walker.top - 1 ≡ length p + length q = omega (arith, a.top_is) in (
        records_mark s r (nested b p (frame x (t ∷ ts) ∷ q) d k l) (nested b p (frame t (g.successors t) ∷ frame x ts ∷ q) d (t ∷ k) ((x, t) ∷ l)) (deepen (probed s) t).walker (up s.spent) t
            (set s.walk s.walker.top t) (set s.cursor (s.walker.top - 1) s.walker.next)
            (length-set s.walk s.walker.top t ∙ h.sized.walk_size) (length-set s.cursor (s.walker.top - 1) s.walker.next ∙ h.sized.cursor_size)
            refl refl refl (λ y i. rw (in_one y b i) base) new tb refl (omega (arith, up_more s.spent (omega (arith, h.probes_right, u.probes_few)), h.probes_right)) h,
        record {
          phase_is = refl;
          cur_is = refl;
          pending_is = refl;
          height_is = a.height_is;
          top_is = further_more s.walker.top (omega (arith, a.top_is)) ∙ omega (arith, a.top_is);
          walk_is =
              let w = begins_push (states_of p ++ (states_of q ++ (x ∷ []))) s.walk t s.walker.top (a.top_is ∙ sym size) h.sized.walk_size (omega arith) a.walk_is in
              (w.0, w.1 ∙ ap (λ (y : List ℕ). y ++ w.0) (append_assoc (states_of p) (states_of q ++ (x ∷ [])) (t ∷ [])));
          places = a.places;
          cursors = (
            e.rest ∙ ap (λ (i : ℕ). drop (suc i) (g.successors x)) (sym (ap (λ (i : ℕ). get_or (set s.cursor (s.walker.top - 1) s.walker.next) i 0) (sym at)
                ∙ get_or-set_same s.cursor (s.walker.top - 1) s.walker.next 0 (omega (arith, h.sized.cursor_size)))),
            cursors_set g (length p) (s.walker.top - 1) s.walker.next s.cursor q (omega arith) a.cursors,
          );
        },
      )

  nested_leave : (s : Core) (r : Notes) (b : ℕ) (p : List Frame) (d k : List ℕ) (l : List Edge) → Limits g (nested b p [] d k l) → In b d → In b k → Below g r b p
      → Mirrors s r (nested b p [] d k l) → AtReturn g s b p → Fits g (leave_root s) r (outer p d k l)
  unfolding leave_root
  nested_leave s r b p d k l u i base below h a = (
    subst (λ (v : ℕ). Mirrors (core_of (left s.parent s.index s.walker) s.spent s.number s.parent s.index s.probes (set s.stamp v s.walker.met)
        s.walk s.depth s.cursor) r (outer p d k l)) (sym a.cur_is)
        (records_left s r (nested b p [] d k l) (outer p d k l) (left s.parent s.index s.walker) b refl refl refl refl base (u.below b i) refl h.probes_right h),
    leaves s (set s.stamp s.walker.cur s.walker.met) r b p d k l a.cur_is a.height_is a.walk_is a.places.1 (h.notes_right b i) below,
  )

  -- the path of the nested search is taken back by one state: out of its first
  nested_empty : (s : Core) (r : Notes) (b : ℕ) (p : List Frame) (x : ℕ) (d k : List ℕ) (l : List Edge) → Linked g b x []
      → Mirrors s r (nested b p (frame x [] ∷ []) d k l) → AtNested g s b p x [] []
      → Fits g (with_walker s (emptied s.walker)) r (nested b p [] d k l)
  unfolding states_of
  nested_empty s r b p x d k l e h a = (
    records_idle s r (nested b p (frame x [] ∷ []) d k l) (nested b p [] d k l) (emptied s.walker) s.spent refl refl refl refl h.probes_right h,
    record {
      phase_is = refl;
      cur_is = a.cur_is ∙ e;
      height_is = a.height_is;
      top_is = omega (arith, a.top_is);
      walk_is = begins_pop (states_of p) (x ∷ []) s.walk a.walk_is;
      places = a.places;
    },
  )

  -- to the state below
  nested_back : (s : Core) (r : Notes) (b : ℕ) (p : List Frame) (x y : ℕ) (us : List ℕ) (q : List Frame) (d k : List ℕ) (l : List Edge)
      → Limits g (nested b p (frame x [] ∷ frame y us ∷ q) d k l)
      → Mirrors s r (nested b p (frame x [] ∷ frame y us ∷ q) d k l) → AtNested g s b p x [] (frame y us ∷ q)
      → Fits g (with_walker s (returned s.walk s.cursor s.walker)) r (nested b p (frame y us ∷ q) d k l)
  unfolding states_of
  nested_back s r b p x y us q d k l u h a =
      let at : s.walker.top - 1 - 1 ≡ length p + length q = omega (arith, a.top_is) in
      let place : s.walker.top - 1 - 1 ≡ length (states_of p ++ states_of q) = omega (arith, at, length-append (states_of p) (states_of q), states_length p, states_length q) in
      let w : Begins ((states_of p ++ states_of q) ++ (y ∷ (x ∷ []))) s.walk = regroup (states_of p) (states_of q) x y s.walk a.walk_is in (
        records_idle s r (nested b p (frame x [] ∷ frame y us ∷ q) d k l) (nested b p (frame y us ∷ q) d k l) (returned s.walk s.cursor s.walker) s.spent refl refl refl refl h.probes_right h,
        record {
          phase_is = refl;
          cur_is = ap (λ (i : ℕ). get_or s.walk i 0) place ∙ begins_at (states_of p ++ states_of q) y (x ∷ []) s.walk w;
          pending_is = a.cursors.0 ∙ ap (λ (i : ℕ). drop (suc (get_or s.cursor i 0)) (g.successors y)) (sym at);
          height_is = a.height_is;
          top_is = omega (arith, a.top_is);
          walk_is = popped (states_of p) (states_of q) x y s.walk w;
          places = a.places;
          cursors = a.cursors.1;
        },
      )
    where
      regroup : (P Q : List ℕ) (x y : ℕ) (walk : List ℕ) → Begins (P ++ ((Q ++ (y ∷ [])) ++ (x ∷ []))) walk → Begins ((P ++ Q) ++ (y ∷ (x ∷ []))) walk
      regroup P Q x y walk (rest, w) = (rest, w ∙ ap (λ (l : List ℕ). l ++ rest) (ap (λ (l : List ℕ). P ++ l) (append_assoc Q (y ∷ []) (x ∷ [])) ∙ sym (append_assoc P Q (y ∷ (x ∷ [])))))

      popped : (P Q : List ℕ) (x y : ℕ) (walk : List ℕ) → Begins ((P ++ Q) ++ (y ∷ (x ∷ []))) walk → Begins (P ++ (Q ++ (y ∷ []))) walk
      popped P Q x y walk (rest, w) = (x ∷ rest, w ∙ simp append_assoc)

  -- stem and cycle are the open path and, behind it, the path of the nested search
  walk_whole : (h b : ℕ) (us : List ℕ) (p : List Frame) (x : ℕ) (ts : List ℕ) (q : List Frame) → Linked g b x q
      → stem_of h (frame b us ∷ p) ++ cycle_of h (frame b us ∷ p) (frame x ts ∷ q) ≡ states_of p ++ states_of (frame x ts ∷ q)
  unfolding stem_of cycle_of
  walk_whole h b us p x ts q c =
      let v = path_run g q b x ts c in
      sym (append_assoc (before h (states_of (frame b us ∷ p))) (from h (states_of (frame b us ∷ p))) (drop 1 (states_of (frame x ts ∷ q))))
      ∙ ap (λ (l : List ℕ). l ++ drop 1 (states_of (frame x ts ∷ q))) (before_from h (states_of (frame b us ∷ p)))
      ∙ ap (λ (l : List ℕ). states_of (frame b us ∷ p) ++ drop 1 l) v.1
      ∙ top_first b us p v.0
      ∙ ap (λ (l : List ℕ). states_of p ++ l) (sym v.1)

  -- the walk begins with the open path, while a nested search runs
  path_first : (s : Core) (b : ℕ) (p : List Frame) (x : ℕ) (ts : List ℕ) (q : List Frame) → Linked g b x q → Begins (states_of p ++ states_of (frame x ts ∷ q)) s.walk → Begins (states_of (frame b [] ∷ p)) s.walk
  path_first s b p x ts q c (rest, w) =
      let v = path_run g q b x ts c in
      (v.0 ++ rest, w ∙ ap (λ (l : List ℕ). l ++ rest) (ap (λ (l : List ℕ). states_of p ++ l) v.1) ∙ append_assoc (states_of p) (b ∷ v.0) rest ∙ sym (top_first b [] p (v.0 ++ rest)))

  nested_found : (s : Core) (r : Notes) (b : ℕ) (p : List Frame) (x t : ℕ) (ts : List ℕ) (q : List Frame) (d k : List ℕ) (l : List Edge) → Limits g (nested b p (frame x (t ∷ ts) ∷ q) d k l)
      → Linked g b x q → Distinct (frame b [] ∷ p) → On t (frame b [] ∷ p)
      → Mirrors s r (nested b p (frame x (t ∷ ts) ∷ q) d k l) → AtNested g s b p x (t ∷ ts) q
      → Fits g (with_walker (probed s) (closed s.walker (get_or s.depth t 0))) r (found t (frame b [] ∷ p) (frame x ts ∷ q) d k ((x, t) ∷ l))
  unfolding states_of
  nested_found s r b p x t ts q d k l u c dis on h a =
      let e : stem_of t (frame b [] ∷ p) ++ cycle_of t (frame b [] ∷ p) (frame x ts ∷ q) ≡ states_of p ++ states_of (frame x ts ∷ q) = walk_whole t b [] p x ts q c in (
        records_idle s r (nested b p (frame x (t ∷ ts) ∷ q) d k l) (found t (frame b [] ∷ p) (frame x ts ∷ q) d k ((x, t) ∷ l)) (closed s.walker (get_or s.depth t 0)) (up s.spent) refl refl refl refl
            (omega (arith, up_more s.spent (omega (arith, h.probes_right, u.probes_few)), h.probes_right)) h,
        record {
          phase_is = refl;
          height_is = a.height_is;
          stem_is = stem_is s.depth t b p a.places dis on;
          top_is = a.top_is ∙ omega (
            arith,
            ap length e,
            length-append (stem_of t (frame b [] ∷ p)) (cycle_of t (frame b [] ∷ p) (frame x ts ∷ q)),
            length-append (states_of p) (states_of q ++ (x ∷ [])),
            length-append (states_of q) (x ∷ []),
            states_length p,
            states_length q,
          );
          walk_is = (a.walk_is.0, a.walk_is.1 ∙ ap (λ (y : List ℕ). y ++ a.walk_is.0) (sym e));
          path_is = path_first s b p x (t ∷ ts) q c a.walk_is;
        },
      )

  -- ---- all steps

  -- an edge of the outer search: does it lead to a discovered state?
  visit_fits : (v : Bool) (s : Core) (r : Notes) (x t : ℕ) (ts : List ℕ) (p : List Frame) (d k : List ℕ) (l : List Edge) → elem t d ≡ v
      → t ≡ target_of game s → s.walker.next < length (row_of game s.walker.cur)
      → OuterInv g (frame x (t ∷ ts) ∷ p) d → Counted g r (outer (frame x (t ∷ ts) ∷ p) d k l)
      → Limits g (outer (frame x (t ∷ ts) ∷ p) d k l) → Limits g (visit g v x t ts p d k ((x, t) ∷ l))
      → Mirrors s r (outer (frame x (t ∷ ts) ∷ p) d k l) → AtOuter g s x (t ∷ ts) p
      → Fits g (outer_step game s) (note_visit v t (note_of g x ts d l) r) (visit g v x t ts p d k ((x, t) ∷ l))
  unfolding on_path
  visit_fits true s r x t ts p d k l e at there o n u u' h a =
      rw (sym (outer_skips game s at refl there (λ z. omega (arith, a.height_is))
      (λ z. omega (arith, ap (λ (y : Note). y.number) (h.notes_right t e), n.0 t e, u.few)))) (outer_skip s r x t ts p d k l u h a)
  visit_fits false s r x t ts p d k l e at there o n u u' h a =
      rw (sym (outer_discovers game s at refl there (λ z. omega (arith, a.height_is)) (h.undiscovered t (u'.below t (in_head t d)) e)))
      (outer_new s r x t ts p d k l u (omega (arith, u'.walk_few)) (u'.below t (in_head t d)) e (not-true (on_path t (frame x ts ∷ p)) (λ i. contra (o.known t i) e)) h a)

  finish_fits : (v : Bool) (s : Core) (r : Notes) (x : ℕ) (p : List Frame) (d k : List ℕ) (l : List Edge) → OuterInv g (frame x [] ∷ p) d → Marks g (frame x [] ∷ p) d k → Below g r x p
      → Limits g (outer (frame x [] ∷ p) d k l) → Mirrors s r (outer (frame x [] ∷ p) d k l) → AtOuter g s x [] p
      → Fits g (with_walker s (finished v s.parent s.index s.walker)) (note_mark v x (length d) r) (finishes g v x p d k l)
  unfolding finished
  finish_fits true s r x p d k l o w b u h a =
      outer_nest s r x p d k l (u.below x (o.known x (on_head x [] p))) (not-true (elem x k) (λ i. contra (on_head x [] p) (w.done x i).1)) h a
  finish_fits false s r x p d k l o w b u h a = outer_leave s r x p d k l u (o.known x (on_head x [] p)) b h a

  -- a state of the open path is not marked in the array
  path_unmarked : (s : Core) (r : Notes) (b : ℕ) (p : List Frame) (x t : ℕ) (ts : List ℕ) (q : List Frame) (d k : List ℕ) (l : List Edge) → On t (frame b [] ∷ p)
      → OuterInv g (frame b [] ∷ p) d → (old : List ℕ) → NestedInv g b p (frame x (t ∷ ts) ∷ q) d k old → Limits g (nested b p (frame x (t ∷ ts) ∷ q) d k l)
      → Mirrors s r (nested b p (frame x (t ∷ ts) ∷ q) d k l) → get_or s.stamp t 0 ≡ no_number
  path_unmarked s r b p x t ts q d k l e o old n u h = ⊎_elim
      (λ z. h.root_unmarked t (rw z (in_head b [])))
      (λ i. h.unmarked t (u.below t (o.known t e)) (not-true (elem t k) (λ j. contra i (n.done t j).1))) (on_cases t b [] p e)

  -- a marked state that is not on the open path is marked in the array
  off_marked : (s : Core) (r : Notes) (b : ℕ) (p q : List Frame) (t : ℕ) (d k : List ℕ) (l : List Edge) → Off t (frame b [] ∷ p) → In t k → Counted g r (nested b p q d k l)
      → Limits g (nested b p q d k l) → Mirrors s r (nested b p q d k l) → get_or s.stamp t 0 < no_number
  off_marked s r b p q t d k l off i c u h =
      let away : elem t (b ∷ []) ≡ false = not_one t b (λ z. contra (rw z (on_head b [] p)) off) in
      omega (arith, stamp_there (nested b p q d k l) s.stamp t away, h.stamps_right t i, c.1 t i, u.few)

  -- an edge of the nested search: does it lead to the open path? to a marked state?
  probe_fits : (v w : Bool) (s : Core) (r : Notes) (b : ℕ) (p : List Frame) (x t : ℕ) (ts : List ℕ) (q : List Frame) (d k : List ℕ) (l : List Edge) → on_path t (frame b [] ∷ p) ≡ v → elem t k ≡ w
      → on_open_path s.walk s.depth s.walker.height t ≡ v → t ≡ target_of game s → s.walker.next < length (row_of game s.walker.cur)
      → OuterInv g (frame b [] ∷ p) d → (old : List ℕ) → NestedInv g b p (frame x (t ∷ ts) ∷ q) d k old → Counted g r (nested b p (frame x (t ∷ ts) ∷ q) d k l)
      → Limits g (nested b p (frame x (t ∷ ts) ∷ q) d k l) → Limits g (probe g v w b p x t ts q d k ((x, t) ∷ l))
      → Mirrors s r (nested b p (frame x (t ∷ ts) ∷ q) d k l) → AtNested g s b p x (t ∷ ts) q
      → Fits g (nested_step game s) (note_probe v w t (length d) r) (probe g v w b p x t ts q d k ((x, t) ∷ l))
  probe_fits true w s r b p x t ts q d k l e f z at there o old n c u u' h a =
      rw (sym (nested_closes game s at refl there (omega (arith, a.top_is, a.height_is)) (path_unmarked s r b p x t ts q d k l e o old n u h) refl z))
      (nested_found s r b p x t ts q d k l u n.chain o.distinct e h a)
  probe_fits false true s r b p x t ts q d k l e f z at there o old n c u u' h a =
      let marked = off_marked s r b p (frame x (t ∷ ts) ∷ q) t d k l e f c u h in
      rw (sym (nested_skips game s at refl there (omega (arith, a.top_is, a.height_is)) (λ y. omega arith))) (nested_skip s r b p x t ts q d k l u h a)
  probe_fits false false s r b p x t ts q d k l e f z at there o old n c u u' h a =
      let i : t < 512 = u.below t (next_known g b p x t ts q d k old o n) in
      rw (sym (nested_deepens game s at refl there (omega (arith, a.top_is, a.height_is)) (h.unmarked t i f) z))
      (nested_deepen s r b p x t ts q d k l u (omega (arith, u'.walk_few)) i n.base f h a)

  accepts_is : (s : Core) (x : ℕ) → x < 512 → s.walker.cur ≡ x → finish game s ≡ with_walker s (finished (g.accepting x) s.parent s.index s.walker)
  unfolding finish
  accepts_is s x b e = ap (λ (v : Bool). with_walker s (finished v s.parent s.index s.walker)) (ap (accepts_at game) e ∙ sym (m.acceptance x b))

  -- ONE STEP of the arrays is one step of the plain search, and notes what that notes
  pub one_step : (s : Core) (r : Notes) (c : Config) → Inv g c → ShapeOf g r c → Counted g r c → Limits g c → Limits g (step_of g c) → Mirrors s r c → Stands g s c
      → Fits g (step game s) (noted g c r) (step_of g c)
  unfolding step_of noted
  one_step s r (outer [] d k l) v z n u u' h a =
      rw (sym (step_at game s Outer a.0), sym (outer_ends game s a.1))
      (records_idle s r (outer [] d k l) (ended d k l) (exhausted s.walker) s.spent refl refl refl refl h.probes_right h, (refl, refl))
  one_step s r (outer (frame x [] ∷ p) d k l) (o, w) z n u u' h a =
      let b = u.below x (o.known x (on_head x [] p)) in
      let done = edges_done s x b a.cur_is (no_edge (g.successors x) s.walker.next a.pending_is) in
      rw (sym (step_at game s Outer a.phase_is), sym (outer_finishes game s done (λ y. omega (arith, a.height_is))), accepts_is s x b a.cur_is)
      (finish_fits (g.accepting x) s r x p d k l o w z.0 u h a)
  one_step s r (outer (frame x (t ∷ ts) ∷ p) d k l) (o, w) z n u u' h a =
      let b = u.below x (o.known x (on_head x (t ∷ ts) p)) in
      let e = edge_left (g.successors x) s.walker.next t ts a.pending_is in
      rw (sym (step_at game s Outer a.phase_is))
      (visit_fits (elem t d) s r x t ts p d k l refl (target_is s x t b a.cur_is e.target) (has_edge_lem s x b a.cur_is e.there) o n u u' h a)
  one_step s r (nested b p [] d k l) (o, (old, w)) z n u u' h a =
      subst (λ (x : Core). Fits g x r (outer p d k l)) (nested_leaves game s (omega (arith, a.top_is, a.height_is)) ∙ step_at game s Nested a.phase_is)
      (nested_leave s r b p d k l u (o.known b (on_head b [] p)) w.base z.0 h a)
  one_step s r (nested b p (frame x [] ∷ []) d k l) (o, (old, w)) z n u u' h a =
      let done = edges_done s x (u.below x (w.done x (w.known x (on_head x [] []))).0) a.cur_is (no_edge (g.successors x) s.walker.next a.pending_is) in
      rw (sym (step_at game s Nested a.phase_is), sym (nested_empties game s done (omega (arith, a.top_is, a.height_is)) (omega (arith, a.top_is, a.height_is))))
      (nested_empty s r b p x d k l w.chain h a)
  one_step s r (nested b p (frame x [] ∷ frame y us ∷ q) d k l) (o, (old, w)) z n u u' h a =
      let done = edges_done s x (u.below x (w.done x (w.known x (on_head x [] (frame y us ∷ q)))).0) a.cur_is (no_edge (g.successors x) s.walker.next a.pending_is) in
      rw (sym (step_at game s Nested a.phase_is), sym (nested_returns game s done (omega (arith, a.top_is, a.height_is)) (omega (arith, a.top_is, a.height_is))))
      (nested_back s r b p x y us q d k l u h a)
  one_step s r (nested b p (frame x (t ∷ ts) ∷ q) d k l) (o, (old, w)) z n u u' h a =
      let i = u.below x (w.done x (w.known x (on_head x (t ∷ ts) q))).0 in
      let e = edge_left (g.successors x) s.walker.next t ts a.pending_is in
      let test = on_test s.walk s.depth s.walker.height t (frame b [] ∷ p) a.height_is (path_first s b p x (t ∷ ts) q w.chain a.walk_is) a.places in
      rw (sym (step_at game s Nested a.phase_is))
      (probe_fits (on_path t (frame b [] ∷ p)) (elem t k) s r b p x t ts q d k l refl refl test (target_is s x t i a.cur_is e.target) (has_edge_lem s x i a.cur_is e.there) o old w n u u' h a)
  one_step s r (ended d k l) v z n u u' h a = rw (sym (step_at game s Exhausted a.0)) (h, a)
  one_step s r (found y p q d k l) v z n u u' h a = rw (sym (step_at game s Found a.phase_is)) (h, a)
