-- What the model is on each way that the code goes, and the laws of its loops. Assumes nothing.
use mathlib.Core.Path.{◌≡◌, refl, sym, ap, ◌∙◌}
use mathlib.Core.Bool.{Bool, true, false, cond}
use mathlib.Core.List.{List, [], ◌∷◌, map}
use Prim.Native.Nat.{ℕ, zero, suc, ◌+◌, ◌-◌, ◌%◌, ◌≤◌, ◌<◌, min}
use native.Mathlib.Nat.{le_of_suc-le-suc, not-suc-le-zero}
use native.Mathlib.Omega.{arith}
use lib.Dec.{eqb, ltb, leb}
use lib.ListN.{length, get_or, set, replicate, length-set, length-replicate}
use borrow.Author.Tests.{lt-ltb, le-ltb, le-leb, lt-leb, leb-true, leb-false, eq-eqb, ne_eqb}
use Rattle.plain.specs.Table.{accepts}
use Rattle.plain.proofs.Tests.{contra}
use Rattle.rows.proofs.Paste.{same_place}
use Rattle.look.specs.Numbers.{no_number, up, plus, further}
use Rattle.look.proofs.Counting.{further_above}
use Rattle.search.specs.declared.Phase.{Phase}
use Rattle.search.specs.declared.Phase.TheVariants.{Outer, Nested, Exhausted, Found}
use Rattle.search.specs.declared.Walker.{Walker}
use Rattle.search.specs.declared.Records.{Records}
use Rattle.search.specs.declared.Trail.{Trail}
use Rattle.search.specs.Core.{Game, accepts_below, row_of, Core, core_of, core_in, Sized, Lengths, skipped, left, nesting, finished, returned, emptied, exhausted, closed, with_walker, probed, discover, deepen, leave_root, go_back, on_open_path, by_phase, over, target_of, has_edge, outer_probe, finish, outer_step, nested_probe, nested_step, step, run_for, Deep, up_to, forget_above, climb, retrace_walk, retrace_depth, rewound, rewound_in}

-- two walkers, and two cores, with the same fields
pub same_walker : (a b : Walker) → a.phase ≡ b.phase → a.cur ≡ b.cur → a.next ≡ b.next → a.height ≡ b.height → a.top ≡ b.top → a.stem ≡ b.stem
    → a.met ≡ b.met → a.kept ≡ b.kept → a ≡ b
same_walker a b p q r s t u v w = λ i. record { phase = p i; cur = q i; next = r i; height = s i; top = t i; stem = u i; met = v i; kept = w i }

pub same_core : (a b : Core) → a.number ≡ b.number → a.parent ≡ b.parent → a.index ≡ b.index → a.probes ≡ b.probes → a.stamp ≡ b.stamp
    → a.walk ≡ b.walk → a.depth ≡ b.depth → a.cursor ≡ b.cursor → a.spent ≡ b.spent → a.walker ≡ b.walker → a ≡ b
same_core a b p q r s t u v w x y =
    λ i. record { number = p i; parent = q i; index = r i; probes = s i; stamp = t i; walk = u i; depth = v i; cursor = w i; spent = x i; walker = y i }

-- ---- one step

-- what a call writes to each array, and the walker that it hands back
module _ (s : Core) (t : ℕ) where
  pub discovers : {number parent index probes walk depth : List ℕ} {height met sum : ℕ} → number ≡ set s.number t s.walker.met
      → parent ≡ set s.parent t s.walker.cur → index ≡ set s.index t s.walker.next → sum ≡ plus s.walker.kept s.spent
      → probes ≡ set s.probes t sum → walk ≡ set s.walk s.walker.height t → depth ≡ set s.depth t s.walker.height
      → height ≡ up s.walker.height → met ≡ up s.walker.met
      → core_of (record { phase = Outer; cur = t; next = 0; height = height; top = height; stem = 0; met = met; kept = s.walker.kept }) s.spent number parent
      index probes s.stamp walk depth s.cursor
      ≡ discover s t
  unfolding discover
  discovers n p i e q w d h m =
      same_core _ _ n p i (q ∙ ap (set s.probes t) e) refl w d refl refl (same_walker _ _ refl refl refl h h refl m refl)

  pub deepens : {stamp walk cursor : List ℕ} {top at : ℕ} → stamp ≡ set s.stamp t s.walker.met → walk ≡ set s.walk s.walker.top t
      → at ≡ s.walker.top - 1 → cursor ≡ set s.cursor at s.walker.next → top ≡ further s.walker.top
      → core_of (record { phase = Nested; cur = t; next = 0; height = s.walker.height; top = top; stem = 0; met = s.walker.met; kept = s.walker.kept })
      s.spent s.number s.parent s.index s.probes stamp walk s.depth cursor
      ≡ deepen s t
  unfolding deepen
  deepens m w e c h =
      same_core _ _ refl refl refl refl m w refl (c ∙ λ i. set s.cursor (e i) s.walker.next) refl (same_walker _ _ refl refl refl refl h refl refl refl)

-- only a state below the size is accepting
module _ (words : List ℕ) (size v : ℕ) where
  pub accepts_below_lem : v < size → accepts words (v % 512) ≡ accepts_below words size v
  unfolding accepts_below
  accepts_below_lem h = rw (lt-ltb v size h)

  pub accepts_beyond : size ≤ v → false ≡ accepts_below words size v
  unfolding accepts_below
  accepts_beyond h = rw (le-ltb v size h)

module _ (parent index : List ℕ) (w : Walker) {accepting : Bool} where
  pub finish_nests : accepting ≡ true → nesting w ≡ finished accepting parent index w
  unfolding finished
  finish_nests h = rw h

  pub finish_leaves : (r : Walker) → r ≡ left parent index w → accepting ≡ false → r ≡ finished accepting parent index w
  unfolding finished
  finish_leaves r e h = rw h e

-- the nested search goes back: out of its first state, or to the state below
module _ (s : Core) where
  pub back_out : {stamp : List ℕ} {r : Walker} → s.walker.top ≤ s.walker.height → stamp ≡ set s.stamp s.walker.cur s.walker.met
      → r ≡ left s.parent s.index s.walker
      → core_of r s.spent s.number s.parent s.index s.probes stamp s.walk s.depth s.cursor ≡ go_back s
  unfolding go_back leave_root
  back_out h e f = rw (le-leb _ _ h) (same_core _ _ refl refl refl refl e refl refl refl refl f)

  pub back_down : {cur next at top kept_next : ℕ} → s.walker.height < s.walker.top → top ≡ s.walker.top - 1 → at ≡ top - 1 → cur ≡ get_or s.walk at 0
      → kept_next ≡ get_or s.cursor at 0 → next ≡ suc kept_next
      → with_walker s (record {
        phase = Nested;
        cur = cur;
        next = next;
        height = s.walker.height;
        top = top;
        stem = 0;
        met = s.walker.met;
        kept = s.walker.kept;
      }) ≡ go_back s
  unfolding go_back
  back_down h less e p q f =
      let place : _ ≡ s.walker.top - 1 - 1 = e ∙ ap (λ (n : ℕ). n - 1) less in
      rw (lt-leb _ _ h) (ap (with_walker s) (same_walker _ _ refl (p ∙ same_place s.walk place)
      (f ∙ ap suc (q ∙ same_place s.cursor place)) refl less refl refl refl))

module _ (g : Game) (s : Core) where
  -- the same, but for the count of probes
  abbrev counted : ℕ → Core
  counted n = core_of s.walker n s.number s.parent s.index s.probes s.stamp s.walk s.depth s.cursor

  pub outer_ends : s.walker.height ≡ 0 → with_walker s (exhausted s.walker) ≡ outer_step g s
  unfolding outer_step
  outer_ends h = rw (eq-eqb _ _ h)

  pub nested_leaves : s.walker.top < s.walker.height → leave_root s ≡ nested_step g s
  unfolding nested_step
  nested_leaves h = rw (lt-ltb _ _ h)

  -- an edge is left: t is the target that was looked at, n the count of probes then
  module _ {t n : ℕ} (target : t ≡ target_of g s) (raised : n ≡ up s.spent) (edge : s.walker.next < length (row_of g s.walker.cur)) where
    has_edge_lem : has_edge g s ≡ true
    has_edge_lem = lt-ltb _ _ edge

    module _ (high : s.walker.height ≡ 0 → ⊥) where
      pub outer_discovers : get_or s.number t 0 ≡ no_number → discover (counted n) t ≡ outer_step g s
      unfolding outer_step outer_probe
      outer_discovers new = rw (ne_eqb _ _ high, has_edge_lem, ← target, eq-eqb _ _ new, raised)

      pub outer_skips : (get_or s.number t 0 ≡ no_number → ⊥) → with_walker (counted n) (skipped s.walker) ≡ outer_step g s
      unfolding outer_step outer_probe
      outer_skips old = rw (ne_eqb _ _ high, has_edge_lem, ← target, ne_eqb _ _ old, raised)

    module _ (above : s.walker.height ≤ s.walker.top) where
      pub nested_skips : (get_or s.stamp t 0 ≡ no_number → ⊥) → with_walker (counted n) (skipped s.walker) ≡ nested_step g s
      unfolding nested_step nested_probe
      nested_skips old = rw (le-ltb _ _ above, has_edge_lem, ← target, ne_eqb _ _ old, raised)

      module _ (new : get_or s.stamp t 0 ≡ no_number) where
        pub nested_closes : {h : ℕ} → h ≡ get_or s.depth t 0 → on_open_path s.walk s.depth s.walker.height t ≡ true
            → with_walker (counted n) (closed s.walker h) ≡ nested_step g s
        unfolding nested_step nested_probe
        nested_closes e on = rw (le-ltb _ _ above, has_edge_lem, ← target, eq-eqb _ _ new, on, raised, e)

        pub nested_deepens : on_open_path s.walk s.depth s.walker.height t ≡ false → deepen (counted n) t ≡ nested_step g s
        unfolding nested_step nested_probe
        nested_deepens off = rw (le-ltb _ _ above, has_edge_lem, ← target, eq-eqb _ _ new, off, raised)

  -- every edge is taken
  module _ (taken : length (row_of g s.walker.cur) ≤ s.walker.next) where
    no_edge : has_edge g s ≡ false
    no_edge = le-ltb _ _ taken

    pub outer_finishes : (s.walker.height ≡ 0 → ⊥) → finish g s ≡ outer_step g s
    unfolding outer_step
    outer_finishes high = rw (ne_eqb _ _ high, no_edge)

    module _ (above : s.walker.height ≤ s.walker.top) where
      pub nested_returns : s.walker.height < s.walker.top → with_walker s (returned s.walk s.cursor s.walker) ≡ nested_step g s
      unfolding nested_step
      nested_returns h = rw (le-ltb _ _ above, no_edge, lt-leb _ _ h)

      pub nested_empties : s.walker.top ≤ s.walker.height → with_walker s (emptied s.walker) ≡ nested_step g s
      unfolding nested_step
      nested_empties h = rw (le-ltb _ _ above, no_edge, le-leb _ _ h)

-- ---- steps, one after the other

module _ (g : Game) where
  abbrev stepped : Phase → Core → Core
  stepped f s = by_phase f (outer_step g s) (nested_step g s) s

  pub step_at : (s : Core) (f : Phase) → s.walker.phase ≡ f → stepped f s ≡ step g s
  unfolding step
  step_at s f e = ap (λ (p : Phase). stepped p s) (sym e)

  by_over : (s : Core) (f : Phase) → over f ≡ true → stepped f s ≡ s
  by_over s Outer h = absurd (contra h refl)
  by_over s Nested h = absurd (contra h refl)
  by_over s Exhausted h = refl
  by_over s Found h = refl

  -- once the search is over, a step does nothing
  pub run_over : (n : ℕ) (s : Core) → over s.walker.phase ≡ true → run_for g n s ≡ s
  unfolding run_for
  run_over zero s h = refl
  run_over (suc n) s h =
      ap (run_for g n) (sym (step_at s s.walker.phase refl) ∙ by_over s s.walker.phase h) ∙ run_over n s h

-- ---- sizes

sized : (s : Core) → length s.number ≡ 512 → length s.parent ≡ 512 → length s.index ≡ 512 → length s.probes ≡ 512 → length s.stamp ≡ 512
    → length s.walk ≡ 512 → length s.depth ≡ 512 → length s.cursor ≡ 512 → Sized s
sized s a b c d e f g h = record {
  number_size = a;
  parent_size = b;
  index_size = c;
  probes_size = d;
  stamp_size = e;
  walk_size = f;
  depth_size = g;
  cursor_size = h;
}

either_sized : (b : Bool) (x y : Core) → Sized x → Sized y → Sized (cond b x y)
either_sized true x y p q = p
either_sized false x y p q = q

phase_sized : (f : Phase) (x y s : Core) → Sized x → Sized y → Sized s → Sized (by_phase f x y s)
phase_sized Outer x y s p q r = p
phase_sized Nested x y s p q r = q
phase_sized Exhausted x y s p q r = r
phase_sized Found x y s p q r = r

module _ (s : Core) (z : Sized s) where
  pub same_sized : (w : Walker) (n : ℕ) → Sized (core_of w n s.number s.parent s.index s.probes s.stamp s.walk s.depth s.cursor)
  same_sized w n = sized _ z.number_size z.parent_size z.index_size z.probes_size z.stamp_size z.walk_size z.depth_size z.cursor_size

  discover_sized : (t : ℕ) → Sized (discover s t)
  unfolding discover
  discover_sized t =
      sized _ (simp length-set z.number_size) (simp length-set z.parent_size) (simp length-set z.index_size) (simp length-set z.probes_size)
      z.stamp_size (simp length-set z.walk_size) (simp length-set z.depth_size) z.cursor_size

  deepen_sized : (t : ℕ) → Sized (deepen s t)
  unfolding deepen
  deepen_sized t =
      sized _ z.number_size z.parent_size z.index_size z.probes_size (simp length-set z.stamp_size) (simp length-set z.walk_size)
      z.depth_size (simp length-set z.cursor_size)

  leave_root_sized : Sized (leave_root s)
  unfolding leave_root
  leave_root_sized =
      sized _ z.number_size z.parent_size z.index_size z.probes_size (simp length-set z.stamp_size) z.walk_size z.depth_size
      z.cursor_size

module _ (g : Game) (s : Core) (z : Sized s) where
  abbrev t : ℕ
  t = target_of g s

  abbrev skipping : Core
  skipping = with_walker (probed s) (skipped s.walker)

  probed_sized : (w : Walker) → Sized (with_walker (probed s) w)
  probed_sized w = same_sized s z w (up s.spent)

  outer_probe_sized : Sized (outer_probe g s)
  unfolding outer_probe
  outer_probe_sized =
      either_sized (eqb (get_or s.number t 0) no_number) (discover (probed s) t) skipping (discover_sized (probed s) (probed_sized _) t) (probed_sized _)

  finish_sized : Sized (finish g s)
  unfolding finish
  finish_sized = same_sized s z _ _

  outer_sized : Sized (outer_step g s)
  unfolding outer_step
  outer_sized =
      either_sized (eqb s.walker.height 0) (with_walker s (exhausted s.walker)) _ (same_sized s z _ _)
      (either_sized (has_edge g s) (outer_probe g s) (finish g s) outer_probe_sized finish_sized)

  nested_probe_sized : Sized (nested_probe g s)
  unfolding nested_probe
  nested_probe_sized =
      either_sized (eqb (get_or s.stamp t 0) no_number) _ skipping
      (either_sized (on_open_path s.walk s.depth s.walker.height t) (with_walker (probed s) (closed s.walker (get_or s.depth t 0)))
      (deepen (probed s) t) (probed_sized _) (deepen_sized (probed s) (probed_sized _) t)) (probed_sized _)

  nested_sized : Sized (nested_step g s)
  unfolding nested_step
  nested_sized =
      either_sized (ltb s.walker.top s.walker.height) (leave_root s) _ (leave_root_sized s z)
      (either_sized (has_edge g s) (nested_probe g s) _ nested_probe_sized (same_sized s z _ _))

  step_sized : Sized (step g s)
  unfolding step
  step_sized = phase_sized s.walker.phase (outer_step g s) (nested_step g s) s outer_sized nested_sized z

-- so is a run of any length
pub run_sized : (g : Game) (n : ℕ) (s : Core) → Sized s → Sized (run_for g n s)
unfolding run_for
run_sized g zero s z = z
run_sized g (suc n) s z = run_sized g n (step g s) (step_sized g s z)

-- ---- a nested search has states on its paths

pub outer_deep : (w : Walker) → w.phase ≡ Outer → Deep w
outer_deep w e = record { high = λ z. absurd cc; above = λ z. absurd cc }

pub exhausted_deep : (w : Walker) → w.phase ≡ Exhausted → Deep w
exhausted_deep w e = record { high = λ z. absurd cc; above = λ z. absurd cc }

pub found_deep : (w : Walker) → w.phase ≡ Found → Deep w
found_deep w e = record { high = λ z. absurd cc; above = λ z. absurd cc }

pub finished_deep : (b : Bool) (parent index : List ℕ) (w : Walker) → (w.height ≡ 0 → ⊥) → Deep (finished b parent index w)
unfolding finished
finished_deep true parent index w h = record { high = λ z. omega (arith, h); above = λ z. omega arith }
finished_deep false parent index w h = outer_deep (left parent index w) refl

pub discover_deep : (s : Core) (t : ℕ) → Deep (discover s t).walker
unfolding discover
discover_deep s t = outer_deep _ refl

-- neither way of it discovers a state
pub deepen_keeps : (s s' : Core) (t : ℕ) → s' ≡ deepen s t → s'.number ≡ s.number
unfolding deepen
deepen_keeps s s' t e = ap (λ (x : Core). x.number) e

pub back_keeps : (s s' : Core) → s' ≡ go_back s → s'.number ≡ s.number
unfolding go_back leave_root
back_keeps s s' e = ap (λ (x : Core). x.number) e ∙ by_test (leb s.walker.top s.walker.height)
  where
    by_test : (b : Bool) → (cond b (leave_root s) (with_walker s (returned s.walk s.cursor s.walker))).number ≡ s.number
    by_test true = refl
    by_test false = refl

pub deepen_deep : (s : Core) (t : ℕ) → 0 < s.walker.height → s.walker.height ≤ s.walker.top → Deep (deepen s t).walker
unfolding deepen
deepen_deep s t h a = record { high = λ z. h; above = λ z. omega (arith, further_above s.walker.top) }

pub back_deep : (s : Core) → 0 < s.walker.height → Deep (go_back s).walker
unfolding go_back leave_root
back_deep s h = by_test (leb s.walker.top s.walker.height) refl
  where
    by_test : (b : Bool) → leb s.walker.top s.walker.height ≡ b → Deep (cond b (leave_root s) (with_walker s (returned s.walk s.cursor s.walker))).walker
    by_test true e = outer_deep _ refl
    by_test false e = record { high = λ z. h; above = λ z. omega (arith, leb-false s.walker.top s.walker.height e) }

-- ---- the loops of a resumption

module _ (limit : ℕ) where
  forget_at : (xs : List ℕ) (i : ℕ) → get_or (forget_above limit i xs) i 0 ≡ get_or xs i 0
  unfolding forget_above
  forget_at [] zero = refl
  forget_at [] (suc i) = refl
  forget_at (x ∷ xs) zero = refl
  forget_at (x ∷ xs) (suc i) = forget_at xs i

  forget_write : (xs : List ℕ) (i : ℕ) → set (forget_above limit i xs) i (up_to limit (get_or xs i 0)) ≡ forget_above limit (suc i) xs
  unfolding forget_above
  forget_write [] zero = refl
  forget_write [] (suc i) = refl
  forget_write (x ∷ xs) zero = refl
  forget_write (x ∷ xs) (suc i) = ap (λ (r : List ℕ). up_to limit x ∷ r) (forget_write xs i)

  forget_every : (xs : List ℕ) (i : ℕ) → length xs ≤ i → forget_above limit i xs ≡ map (up_to limit) xs
  unfolding forget_above
  forget_every [] zero h = refl
  forget_every [] (suc i) h = refl
  forget_every (x ∷ xs) zero h = absurd (not-suc-le-zero h)
  forget_every (x ∷ xs) (suc i) h = ap (λ (r : List ℕ). up_to limit x ∷ r) (forget_every xs i (le_of_suc-le-suc h))

  pub forget_none : (xs : List ℕ) → forget_above limit 0 xs ≡ xs
  unfolding forget_above
  forget_none xs = refl

  pub forget_length : (xs : List ℕ) (i : ℕ) → length (forget_above limit i xs) ≡ length xs
  unfolding forget_above
  forget_length [] zero = refl
  forget_length [] (suc i) = refl
  forget_length (x ∷ xs) zero = refl
  forget_length (x ∷ xs) (suc i) = ap suc (forget_length xs i)

  -- behind the last entry there is nothing to forget
  forget_past : (xs : List ℕ) (i j : ℕ) → length xs ≤ i → length xs ≤ j → forget_above limit i xs ≡ forget_above limit j xs
  forget_past xs i j h k = forget_every xs i h ∙ sym (forget_every xs j k)

  pub forget_capped : (xs : List ℕ) (size n : ℕ) → length xs ≡ n → forget_above limit (min size n) xs ≡ forget_above limit size xs
  forget_capped xs size n h = by_test (leb size n) refl
    where
      by_test : (b : Bool) → leb size n ≡ b → forget_above limit (min size n) xs ≡ forget_above limit size xs
      by_test true e =
          let same : min size n ≡ size = omega (arith, leb-true size n e) in
          ap (λ (k : ℕ). forget_above limit k xs) same
      by_test false e = forget_past xs (min size n) size (omega (arith, leb-false size n e)) (omega (arith, leb-false size n e))

  -- an entry below the size, and one that is not
  pub forget_below : (xs : List ℕ) (size i : ℕ) → i < size → i < length xs → get_or (forget_above limit size xs) i 0 ≡ up_to limit (get_or xs i 0)
  unfolding forget_above
  forget_below [] size i h l = absurd (not-suc-le-zero l)
  forget_below (x ∷ xs) zero i h l = absurd (not-suc-le-zero h)
  forget_below (x ∷ xs) (suc size) zero h l = refl
  forget_below (x ∷ xs) (suc size) (suc i) h l = forget_below xs size i (le_of_suc-le-suc h) (le_of_suc-le-suc l)

  pub forget_behind : (xs : List ℕ) (size i : ℕ) → size ≤ i → get_or (forget_above limit size xs) i 0 ≡ get_or xs i 0
  unfolding forget_above
  forget_behind [] zero i h = refl
  forget_behind [] (suc size) i h = refl
  forget_behind (x ∷ xs) zero i h = refl
  forget_behind (x ∷ xs) (suc size) zero h = absurd (not-suc-le-zero h)
  forget_behind (x ∷ xs) (suc size) (suc i) h = forget_behind xs size i (le_of_suc-le-suc h)

  -- a turn of `forget_above`: the entry is written anew
  module _ (xs a : List ℕ) (i : ℕ) (so_far : a ≡ forget_above limit i xs) where
    pub forgets : (x : ℕ) → x ≡ up_to limit (get_or a i 0) → set a i x ≡ forget_above limit (suc i) xs
    forgets x e =
        let new : x ≡ up_to limit (get_or xs i 0) = e ∙ ap (up_to limit) (ap (λ (l : List ℕ). get_or l i 0) so_far ∙ forget_at xs i) in
        (λ j. set (so_far j) i (new j)) ∙ forget_write xs i

module _ (parent : List ℕ) (start x : ℕ) where
  climb_here : (m k : ℕ) → m ≡ suc k → x ≡ start → climb parent start m x ≡ 1
  unfolding climb
  climb_here m k n e = rw (n, eq-eqb _ _ e)

  climb_on : (m k : ℕ) → m ≡ suc k → (x ≡ start → ⊥) → climb parent start m x ≡ suc (climb parent start k (get_or parent x 0))
  unfolding climb
  climb_on m k n e = rw (n, ne_eqb _ _ e)

  climb_none : climb parent start 0 x ≡ 0
  unfolding climb
  climb_none = refl

  -- a turn of `climb`: the start state is met, or the count rises
  module _ (n total : ℕ) (so_far : n + climb parent start (512 - n) x ≡ total) where
    pub climb_ends : n < 512 → x ≡ start → n + 1 ≡ total
    climb_ends more e = let last : climb parent start (512 - n) x ≡ 1 = climb_here (512 - n) (512 - (n + 1)) (omega arith) e in omega arith

    pub climb_goes_on : (y : ℕ) → n < 512 → (x ≡ start → ⊥) → y ≡ get_or parent x 0 → n + 1 + climb parent start (512 - (n + 1)) y ≡ total
    climb_goes_on y more e p =
        let on : climb parent start (512 - n) x ≡ suc (climb parent start (512 - (n + 1)) y) =
        climb_on (512 - n) (512 - (n + 1)) (omega arith) e ∙ ap (λ (z : ℕ). suc (climb parent start (512 - (n + 1)) z)) (sym p)
        in
        omega arith

    pub climb_stops : 512 ≤ n → n ≤ 512 → n ≡ total
    climb_stops high low =
        let none : climb parent start (512 - n) x ≡ 0 = let all : 512 - n ≡ 0 = omega arith in ap (λ (m : ℕ). climb parent start m x) all ∙ climb_none in
        omega arith

-- a turn of `retrace`
module _ (parent : List ℕ) (x : ℕ) where
  pub walk_turn : (i k : ℕ) (walk : List ℕ) → i ≡ suc k → retrace_walk parent k (get_or parent x 0) (set walk k x) ≡ retrace_walk parent i x walk
  unfolding retrace_walk
  walk_turn i k walk e = rw e

  pub depth_turn : (i k : ℕ) (depth : List ℕ) → i ≡ suc k → retrace_depth parent k (get_or parent x 0) (set depth x k) ≡ retrace_depth parent i x depth
  unfolding retrace_depth
  depth_turn i k depth e = rw e

  pub walk_none : (walk : List ℕ) → retrace_walk parent 0 x walk ≡ walk
  unfolding retrace_walk
  walk_none walk = refl

  pub depth_none : (depth : List ℕ) → retrace_depth parent 0 x depth ≡ depth
  unfolding retrace_depth
  depth_none depth = refl

pub walk_size : (parent : List ℕ) (n x : ℕ) (walk : List ℕ) → length (retrace_walk parent n x walk) ≡ length walk
unfolding retrace_walk
walk_size parent zero x walk = refl
walk_size parent (suc n) x walk = walk_size parent n (get_or parent x 0) (set walk n x) ∙ length-set walk n x

pub depth_size : (parent : List ℕ) (n x : ℕ) (depth : List ℕ) → length (retrace_depth parent n x depth) ≡ length depth
unfolding retrace_depth
depth_size parent zero x depth = refl
depth_size parent (suc n) x depth = depth_size parent n (get_or parent x 0) (set depth x n) ∙ length-set depth x n

-- what a resumption makes of the arrays
module _ (size start s spent : ℕ) (number parent index probes stamp walk : List ℕ) where
  pub rewound_sized : Lengths number parent index probes stamp walk → Sized (rewound size start s spent number parent index probes stamp walk)
  unfolding rewound
  rewound_sized z =
      sized _ (forget_length _ number size ∙ z.number_size) z.parent_size z.index_size z.probes_size (forget_length _ stamp size ∙ z.stamp_size)
      (walk_size parent _ s walk ∙ z.walk_size) (depth_size parent _ s (replicate 512 0) ∙ length-replicate {A = ℕ} 512 0) (length-replicate {A = ℕ} 512 0)

module _ (size start s spent : ℕ) (a : Records) where
  pub rewound_by : {limit height met kept : ℕ} {number stamp : List ℕ} {r : Records} {t : Trail} → limit ≡ get_or a.number s 0 % 512
      → number ≡ forget_above limit size a.number → stamp ≡ forget_above limit size a.stamp → height ≡ climb a.parent start 512 s
      → r ≡ record { number = number; parent = a.parent; index = a.index; probes = a.probes; stamp = stamp; walk = retrace_walk a.parent height s a.walk }
      → t ≡ record { depth = retrace_depth a.parent height s (replicate 512 0); cursor = replicate 512 0 }
      → met ≡ up limit → kept ≡ get_or r.probes s 0
      → core_in (record { phase = Outer; cur = s; next = 0; height = height; top = height; stem = 0; met = met; kept = kept }) spent r t
      ≡ rewound_in size start s spent a
  unfolding rewound
  rewound_by l n m h w d u k =
      same_core _ _ (ap (λ (x : Records). x.number) w ∙ n ∙ ap (λ (x : ℕ). forget_above x size a.number) l) (ap (λ (x : Records). x.parent) w)
      (ap (λ (x : Records). x.index) w) (ap (λ (x : Records). x.probes) w)
      (ap (λ (x : Records). x.stamp) w ∙ m ∙ ap (λ (x : ℕ). forget_above x size a.stamp) l)
      (ap (λ (x : Records). x.walk) w ∙ ap (λ (x : ℕ). retrace_walk a.parent x s a.walk) h)
      (ap (λ (x : Trail). x.depth) d ∙ ap (λ (x : ℕ). retrace_depth a.parent x s (replicate 512 0)) h) (ap (λ (x : Trail). x.cursor) d) refl
      (same_walker _ _ refl refl refl h h refl (u ∙ ap up l) (k ∙ ap (λ (x : Records). get_or x.probes s 0) w))
