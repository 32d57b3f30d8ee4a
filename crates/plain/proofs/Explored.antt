-- How far a run has come: which states have finished their outer moves, and which edges have been looked at. Assumes nothing.
use mathlib.Core.Path.{◌≡◌, refl, sym, ap, ◌∙◌}
use mathlib.Core.Logic.{◌⊎◌, inl, inr, ⊎_elim}
use mathlib.Core.Bool.{Bool, true, false, ◌&&◌, ◌||◌, not}
use mathlib.Core.List.{List, [], ◌∷◌, ◌++◌}
use Prim.Native.Nat.{ℕ, zero, suc}
use lib.Dec.{eqb}
use Rattle.plain.specs.Lists.{any_below, elem, In, Once}
use Rattle.plain.specs.Search.{Graph, Edge, Frame, frame, on_path, Config, outer, nested, exhausted, found, discovered_of, probes_of, finishes, visit, finish, probe, step, steps, run, finished}
use Rattle.plain.specs.Unexplored.{unfinished_path, Untaken}
use Rattle.plain.specs.Notes.{Notes, notes}
use Rattle.plain.proofs.Tests.{contra, same, in_nil, in_tail, in_cases, in_left, in_right}
use Rattle.plain.proofs.Paths.{On, Off, Distinct, on_head, on_tail, on_cases, off_nil, Pending, pending_nil, pending_here, pending_below, pending_cases, pending_more, pending_on}
use Rattle.plain.proofs.Invariant.{Inv, inv_run}
use Rattle.plain.proofs.SameRun.{untaken_on}
use Rattle.plain.proofs.Edges.{Has, has_cases, has_nil}
use Rattle.plain.proofs.OuterProbes.{outer_probe, outer_probes, outer_first, outer_probed, probed_or_pending}
use Rattle.plain.proofs.Restore.{Tails, ShapeOf, noted_run}

-- ---- lists without repeats

once_suffix : (xs ys : List ℕ) → Once (xs ++ ys) → Once ys
once_suffix [] ys o = o
once_suffix (x ∷ xs) ys (n, o) = once_suffix xs ys o

once_apart : (x : ℕ) (xs ys : List ℕ) → Once (xs ++ ys) → In x xs → In x ys → ⊥
once_apart x [] ys o i j = in_nil x i
once_apart x (y ∷ xs) ys (n, o) i j =
    ⊎_elim (λ e. contra (in_right y xs ys (rw e at j)) n) (λ k. once_apart x xs ys o k j) (in_cases x y xs i)

-- ---- a state on a path, and what is left of its row

pub on_untaken : (x : ℕ) (p : List Frame) → On x p → (ts : List ℕ) × Untaken x ts p
on_untaken x [] h = absurd (contra h (off_nil x))
on_untaken x (frame s us ∷ p) h = ⊎_elim (λ e. (us, inl (e, refl))) (λ j. let w = on_untaken x p j in (w.0, inr w.1)) (on_cases x s us p h)

untaken_pending : (x y : ℕ) (ts : List ℕ) (p : List Frame) → Untaken x ts p → In y ts → Pending x y p
untaken_pending x y ts [] w i = absurd w
untaken_pending x y ts (frame s us ∷ p) w i = ⊎_elim
    (λ e. rw e.0 (pending_here s y us p (rw e.1 at i)))
    (λ j. pending_below x y s us p (untaken_pending x y ts p j i)) w

-- no state is on the path twice, so what is pending of x is in what is left of its row
pending_left : (x y : ℕ) (ts : List ℕ) (p : List Frame) → Distinct p → Untaken x ts p → Pending x y p → In y ts
pending_left x y ts [] d w h = pending_nil x y h
pending_left x y ts (frame s us ∷ p) (o, d) w h = ⊎_elim
    (λ (e : (x ≡ s) × (ts ≡ us)). ⊎_elim (λ c. rw e.1 c.1) (λ i. absurd (contra (rw e.0 at (pending_on x y p i)) o)) (pending_cases x y s us p h))
    (λ (j : Untaken x ts p). ⊎_elim
    (λ c. absurd (contra (rw c.0 at (untaken_on x ts p j)) o))
    (λ i. pending_left x y ts p d j i) (pending_cases x y s us p h)) w

module _ (g : Graph) where
  untaken_tail : (x : ℕ) (ts : List ℕ) (p : List Frame) → Untaken x ts p → Tails g p → (front : List ℕ) × (g.successors x ≡ front ++ ts)
  untaken_tail x ts [] w c = absurd w
  untaken_tail x ts (frame s us ∷ p) w c = ⊎_elim (λ e. (c.0.0, rw (e.0, e.1) c.0.1)) (λ j. untaken_tail x ts p j c.1) w

  tails_of : (r : Notes) (c : Config) → ShapeOf g r c → Tails g (unfinished_path c)
  tails_of r (outer [] d k l) h = tt
  tails_of r (outer (frame s ts ∷ p) d k l) h = h.1
  tails_of r (nested s p q d k l) h = h.1.1
  tails_of r (exhausted d k l) h = tt
  tails_of r (found t [] q d k l) h = tt
  tails_of r (found t (frame s us ∷ p) q d k l) h = h.1.1

  -- what is left of a row stands at its end
  pub row_splits : (n x : ℕ) (ts : List ℕ) → Untaken x ts (unfinished_path (run g n)) → (front : List ℕ) × (g.successors x ≡ front ++ ts)
  row_splits n x ts w = untaken_tail x ts (unfinished_path (run g n)) w (tails_of (notes g n) (run g n) (noted_run g n).shape)

  distinct_of : (c : Config) → Inv g c → Distinct (unfinished_path c)
  distinct_of (outer p d k l) v = v.0.distinct
  distinct_of (nested s p q d k l) v = v.0.distinct.1
  distinct_of (exhausted d k l) v = tt
  distinct_of (found t [] q d k l) v = tt
  distinct_of (found t (frame s us ∷ p) [] d k l) v = absurd v
  distinct_of (found t (frame s us ∷ p) (frame x ts ∷ q) d k l) v = v.distinct.1

  -- a state on the path is discovered
  pub path_known : (c : Config) → Inv g c → (x : ℕ) → On x (unfinished_path c) → In x (discovered_of c)
  path_known (outer p d k l) v x o = v.0.known x o
  path_known (nested s p q d k l) v x o = v.0.known x (on_tail x s [] p o)
  path_known (exhausted d k l) v x o = absurd (contra o (off_nil x))
  path_known (found t [] q d k l) v x o = absurd v
  path_known (found t (frame s us ∷ p) [] d k l) v x o = absurd v
  path_known (found t (frame s us ∷ p) (frame y ts ∷ q) d k l) v x o = v.known x (on_tail x s [] p o)

  -- ---- "had not finished the outer moves": at a stop, the states of the open path below its tip, and those never met

  -- discovered, and not on the path
  abbrev gone : ℕ → List Frame → List ℕ → Bool
  gone x p d = elem x d && not (on_path x p)

  gone_of : ℕ → Config → Bool
  gone_of x c = gone x (unfinished_path c) (discovered_of c)

  visit_gone : (b : Bool) (x s t : ℕ) (ts : List ℕ) (p : List Frame) (d k : List ℕ) (l : List Edge) → elem t d ≡ b → gone_of x (visit g b s t ts p d k l) ≡ gone x (frame s ts ∷ p) d
  unfolding gone_of on_path elem
  visit_gone true x s t ts p d k l e = refl
  visit_gone false x s t ts p d k l e = by_state (eqb x t) refl
    where
      by_state : (b : Bool) → eqb x t ≡ b → ((eqb x t || elem x d) && not (eqb x t || (eqb x s || on_path x p))) ≡ (elem x d && not (eqb x s || on_path x p))
      by_state true z = let y : x ≡ t = same z in rw (z, y, e)
      by_state false z = rw z

  finish_gone : (b : Bool) (x s : ℕ) (p : List Frame) (d k : List ℕ) (l : List Edge) → gone_of x (finish g b s p d k l) ≡ gone x p d
  unfolding gone_of
  finish_gone true x s p d k l = refl
  finish_gone false x s p d k l = refl

  probe_gone : (b c : Bool) (x s : ℕ) (p : List Frame) (y t : ℕ) (ts : List ℕ) (q : List Frame) (d k : List ℕ) (l : List Edge) → gone_of x (probe g b c s p y t ts q d k l) ≡ gone x p d
  unfolding gone_of
  probe_gone true c x s p y t ts q d k l = refl
  probe_gone false true x s p y t ts q d k l = refl
  probe_gone false false x s p y t ts q d k l = refl

  -- s finishes: it leaves the path, and no other state does
  gone_more : (x s : ℕ) (p : List Frame) (d : List ℕ) → In s d → Off s p → gone x p d ≡ (eqb x s || gone x (frame s [] ∷ p) d)
  unfolding on_path
  gone_more x s p d i f = by_state (eqb x s) refl
    where
      by_state : (b : Bool) → eqb x s ≡ b → (elem x d && not (on_path x p)) ≡ (eqb x s || (elem x d && not (eqb x s || on_path x p)))
      by_state true z = let y : x ≡ s = same z in rw (z, y, i, f)
      by_state false z = rw z

  gone_step : (x : ℕ) (c : Config) → Inv g c → gone_of x (step g c) ≡ (finishes x c || gone_of x c)
  unfolding step finishes gone_of on_path
  gone_step x (outer [] d k l) v = refl
  gone_step x (outer (frame s [] ∷ p) d k l) (o, m) =
      finish_gone (g.accepting s) x s p d k l ∙ gone_more x s p d (o.known s (on_head s [] p)) o.distinct.0
  gone_step x (outer (frame s (t ∷ ts) ∷ p) d k l) v = visit_gone (elem t d) x s t ts p d k ((s, t) ∷ l) refl
  gone_step x (nested s p [] d k l) v = refl
  gone_step x (nested s p (frame y [] ∷ q) d k l) v = refl
  gone_step x (nested s p (frame y (t ∷ ts) ∷ q) d k l) v = probe_gone (on_path t (frame s [] ∷ p)) (elem t k) x s p y t ts q d k ((y, t) ∷ l)
  gone_step x (exhausted d k l) v = refl
  gone_step x (found t [] q d k l) v = refl
  gone_step x (found t (frame s us ∷ p) q d k l) v = refl

  -- A state has finished exactly when it was met and is not on the open path below the tip.
  pub finished_is : (n x : ℕ) → finished g n x ≡ (elem x (discovered_of (run g n)) && not (on_path x (unfinished_path (run g n))))
  unfolding finished any_below steps gone_of on_path elem
  finished_is zero x = by_state (eqb x g.start) refl
    where
      by_state : (b : Bool) → eqb x g.start ≡ b → false ≡ ((eqb x g.start || false) && not (eqb x g.start || false))
      by_state true z = rw z
      by_state false z = rw z
  finished_is (suc n) x = ap (λ (b : Bool). finishes x (run g n) || b) (finished_is n x) ∙ sym (gone_step x (run g n) (inv_run g n))

-- ---- which edges have been looked at, where no row has a state twice

module _ (g : Graph) (rows : (x : ℕ) → Once (g.successors x)) where
  -- the outer search has not probed what is pending, and its probes leave discovered states
  abbrev Fresh : List Edge → Config → Type 0
  Fresh es c = ((x y : ℕ) → Pending x y (unfinished_path c) → Has es (x, y) → ⊥) × ((e : Edge) → Has es e → In e.0 (discovered_of c))

  fresh_taken : (es : List Edge) (s t : ℕ) (ts : List ℕ) (p : List Frame) → Off s p → elem t ts ≡ false
      → ((x y : ℕ) → Pending x y (frame s (t ∷ ts) ∷ p) → Has es (x, y) → ⊥) → (x y : ℕ) → Pending x y (frame s ts ∷ p) → Has ((s, t) ∷ es) (x, y) → ⊥
  fresh_taken es s t ts p o n h x y w i = ⊎_elim
      (λ z. let a : x ≡ s = ap (λ (f : Edge). f.0) z in
      let b : y ≡ t = ap (λ (f : Edge). f.1) z in
      ⊎_elim (λ c. contra (rw b at c.1) n) (λ d. contra (rw a at (pending_on x y p d)) o) (pending_cases x y s ts p w))
      (λ j. h x y (pending_more x y s t ts p w) j) (has_cases (x, y) (s, t) es i)

  known_taken : (es : List Edge) (s t : ℕ) (d : List ℕ) → In s d → ((e : Edge) → Has es e → In e.0 d) → (e : Edge) → Has ((s, t) ∷ es) e → In e.0 d
  known_taken es s t d i h e j = ⊎_elim (λ z. rw z i) (h e) (has_cases e (s, t) es j)

  visit_fresh : (b : Bool) (es : List Edge) (s t : ℕ) (ts : List ℕ) (p : List Frame) (d k : List ℕ) (l : List Edge) → elem t d ≡ b → Off s p → In s d → elem t ts ≡ false
      → Fresh es (outer (frame s (t ∷ ts) ∷ p) d k l) → Fresh ((s, t) ∷ es) (visit g b s t ts p d k ((s, t) ∷ l))
  visit_fresh true es s t ts p d k l e o i n (h, w) = (fresh_taken es s t ts p o n h, known_taken es s t d i w)
  visit_fresh false es s t ts p d k l e o i n (h, w) = (
    λ x y q j. ⊎_elim
        (λ c. contra (rw c.0 at (known_taken es s t d i w (x, y) j)) e)
        (λ r. fresh_taken es s t ts p o n h x y r j) (pending_cases x y t (g.successors t) (frame s ts ∷ p) q),
    λ f j. in_tail f.0 t d (known_taken es s t d i w f j),
  )

  finish_fresh : (b : Bool) (es : List Edge) (s : ℕ) (p : List Frame) (d k : List ℕ) (l : List Edge) → Fresh es (outer (frame s [] ∷ p) d k l) → Fresh es (finish g b s p d k l)
  finish_fresh true es s p d k l (h, w) = (λ x y q. h x y (pending_below x y s [] p q), w)
  finish_fresh false es s p d k l (h, w) = (λ x y q. h x y (pending_below x y s [] p q), w)

  probe_fresh : (b c : Bool) (es : List Edge) (s : ℕ) (p : List Frame) (x t : ℕ) (ts : List ℕ) (q : List Frame) (d k : List ℕ) (l m : List Edge)
      → Fresh es (nested s p (frame x (t ∷ ts) ∷ q) d k l) → Fresh es (probe g b c s p x t ts q d k m)
  probe_fresh true c es s p x t ts q d k l m h = h
  probe_fresh false true es s p x t ts q d k l m h = h
  probe_fresh false false es s p x t ts q d k l m h = h

  fresh_step : (es : List Edge) (c : Config) → Inv g c → Tails g (unfinished_path c) → Fresh es c → Fresh (outer_probe c ++ es) (step g c)
  unfolding step outer_probe
  fresh_step es (outer [] d k l) v z h = h
  fresh_step es (outer (frame s [] ∷ p) d k l) v z h = finish_fresh (g.accepting s) es s p d k l h
  fresh_step es (outer (frame s (t ∷ ts) ∷ p) d k l) (o, m) z h =
      let e : g.successors s ≡ z.0.0 ++ (t ∷ ts) = z.0.1 in
      visit_fresh (elem t d) es s t ts p d k l refl o.distinct.0 (o.known s (on_head s (t ∷ ts) p))
      (once_suffix z.0.0 (t ∷ ts) (rw e at (rows s))).0 h
  fresh_step es (nested s p [] d k l) v z h = h
  fresh_step es (nested s p (frame x [] ∷ q) d k l) v z h = h
  fresh_step es (nested s p (frame x (t ∷ ts) ∷ q) d k l) v z h = probe_fresh (on_path t (frame s [] ∷ p)) (elem t k) es s p x t ts q d k l ((x, t) ∷ l) h
  fresh_step es (exhausted d k l) v z h = h
  fresh_step es (found t [] q d k l) v z h = h
  fresh_step es (found t (frame s us ∷ p) q d k l) v z h = h

  fresh : (n : ℕ) → Fresh (outer_probes g n) (run g n)
  unfolding steps outer_probes
  fresh zero = (λ x y w h. has_nil (x, y) h, λ e h. has_nil e h)
  fresh (suc n) = fresh_step (outer_probes g n) (run g n) (inv_run g n) (tails_of g (notes g n) (run g n) (noted_run g n).shape) (fresh n)

  module _ (n x y : ℕ) where
    abbrev c : Config
    c = run g n

    -- the edges of a state that was never met have not been looked at
    pub looked_known : Has (probes_of c) (x, y) → In x (discovered_of c)
    looked_known h = (fresh n).1 (x, y) (outer_first g n (x, y) h)

    -- those that are left to take have not
    pub left_unlooked : (ts : List ℕ) → Untaken x ts (unfinished_path c) → In y ts → Has (probes_of c) (x, y) → ⊥
    left_unlooked ts w i h = (fresh n).0 x y (untaken_pending x y ts (unfinished_path c) w i) (outer_first g n (x, y) h)

    -- an edge of a state that was met has been looked at, or is left to take
    looked_or_pending : In x (discovered_of c) → In y (g.successors x) → Has (probes_of c) (x, y) ⊎ Pending x y (unfinished_path c)
    looked_or_pending i j = ⊎_elim (λ h. inl (outer_probed g n (x, y) h)) inr (probed_or_pending g n x y i j)

    -- those in front of them have
    pub front_looked : (front ts : List ℕ) → In x (discovered_of c) → Untaken x ts (unfinished_path c) → g.successors x ≡ front ++ ts → In y front → Has (probes_of c) (x, y)
    front_looked front ts i w e j = ⊎_elim (λ h. h) (λ p.
        absurd (once_apart y front ts (rw e at (rows x)) j (pending_left x y ts (unfinished_path c) (distinct_of g c (inv_run g n)) w p)))
        (looked_or_pending i (rw e (in_left y front ts j)))

    -- and all of a state that has finished
    pub finished_looked : In x (discovered_of c) → Off x (unfinished_path c) → In y (g.successors x) → Has (probes_of c) (x, y)
    finished_looked i f j = ⊎_elim (λ h. h) (λ p. absurd (contra (pending_on x y (unfinished_path c) p) f)) (looked_or_pending i j)
