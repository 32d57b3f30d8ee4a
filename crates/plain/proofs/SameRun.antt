-- Ticket 4, over any two graphs that agree but for some named states: where no named state has come past what its rows have in common, the run of one is the run
-- of the other, look for look. No pair of runs is followed: each is the run on the common part with more behind every row. Assumes nothing.
use mathlib.Core.Path.{◌≡◌, refl, sym, ap, ◌∙◌}
use mathlib.Core.Logic.{inl, inr, ⊎_elim}
use mathlib.Core.Bool.{Bool, true, false, ◌||◌}
use mathlib.Core.List.{List, [], ◌∷◌, ◌++◌, append-nil}
use Prim.Native.Nat.{ℕ, zero, suc, ◌+◌, ◌-◌, ◌≤◌, ◌<◌}
use native.Mathlib.Nat.{add-zero, add-suc}
use native.Mathlib.Omega.{arith}
use lib.Dec.{eqb}
use lib.ListN.{length, length-append}
use Rattle.plain.specs.Lists.{elem, In}
use Rattle.plain.specs.Search.{Graph, Edge, Frame, frame, on_path, Config, outer, nested, exhausted, found, discovered_of, marked_of, probes_of, visit, finish, probe, step, steps, run, states_of, stem_of, cycle_of, verdict}
use Rattle.plain.specs.Unexplored.{unfinished_path, Untaken, Shared, bare_frames, bare}
use Rattle.plain.specs.Notes.{Note, Notes, note_visit, note_mark, note_probe, note_of, noted, notes, Faithful}
use Rattle.plain.proofs.Tests.{contra, either, in_tail}
use Rattle.plain.proofs.Paths.{On, Off, on_head, on_tail}
use Rattle.plain.proofs.Invariant.{Inv, inv_run}
use Rattle.plain.proofs.Prefix.{Agree}

-- ---- each frame with more behind its targets

abbrev extended_path : (ℕ → List ℕ) → List Frame → List Frame
extended_path o [] = []
extended_path o (frame s ts ∷ p) = frame s (ts ++ o s) ∷ extended_path o p

abbrev extended : (ℕ → List ℕ) → Config → Config
extended o (outer p d k l) = outer (extended_path o p) d k l
extended o (nested s p q d k l) = nested s (extended_path o p) (extended_path o q) d k l
extended o (exhausted d k l) = exhausted d k l
extended o (found h p q d k l) = found h (extended_path o p) (extended_path o q) d k l

on_extended : (o : ℕ → List ℕ) (x : ℕ) (p : List Frame) → on_path x (extended_path o p) ≡ on_path x p
unfolding on_path
on_extended o x [] = refl
on_extended o x (frame s ts ∷ p) = ap (λ (b : Bool). eqb x s || b) (on_extended o x p)

bare_frames_lem : (o : ℕ → List ℕ) (p : List Frame) → bare_frames (extended_path o p) ≡ bare_frames p
bare_frames_lem o [] = refl
bare_frames_lem o (frame s ts ∷ p) = ap (λ (q : List Frame). frame s [] ∷ q) (bare_frames_lem o p)

bare_extended : (o : ℕ → List ℕ) (c : Config) → bare (extended o c) ≡ bare c
bare_extended o (outer p d k l) = ap (λ (q : List Frame). outer q d k l) (bare_frames_lem o p)
bare_extended o (nested s p q d k l) = λ i. nested s (bare_frames_lem o p i) (bare_frames_lem o q i) d k l
bare_extended o (exhausted d k l) = refl
bare_extended o (found h p q d k l) = λ i. found h (bare_frames_lem o p i) (bare_frames_lem o q i) d k l

-- g has the edges of b, and o behind them
module _ (b g : Graph) (o : ℕ → List ℕ) (more : (x : ℕ) → g.successors x ≡ b.successors x ++ o x) where
  -- what the next step needs: a state whose row ends has nothing behind it, and accepts in both or in neither
  abbrev Clear : Config → Type 0
  Clear (outer [] d k l) = Unit {0}
  Clear (outer (frame s [] ∷ p) d k l) = (o s ≡ []) × (g.accepting s ≡ b.accepting s)
  Clear (outer (frame s (t ∷ ts) ∷ p) d k l) = Unit {0}
  Clear (nested s p [] d k l) = Unit {0}
  Clear (nested s p (frame x [] ∷ q) d k l) = o x ≡ []
  Clear (nested s p (frame x (t ∷ ts) ∷ q) d k l) = o s ≡ []
  Clear (exhausted d k l) = Unit {0}
  Clear (found h p q d k l) = Unit {0}

  visit_extended : (v : Bool) (s t : ℕ) (ts : List ℕ) (p : List Frame) (d k : List ℕ) (l : List Edge)
      → visit g v s t (ts ++ o s) (extended_path o p) d k l ≡ extended o (visit b v s t ts p d k l)
  visit_extended true s t ts p d k l = refl
  visit_extended false s t ts p d k l = ap (λ (us : List ℕ). outer (frame t us ∷ frame s (ts ++ o s) ∷ extended_path o p) (t ∷ d) k l) (more t)

  finish_extended : (v : Bool) (s : ℕ) (p : List Frame) (d k : List ℕ) (l : List Edge) → finish g v s (extended_path o p) d k l ≡ extended o (finish b v s p d k l)
  finish_extended true s p d k l = ap (λ (us : List ℕ). nested s (extended_path o p) (frame s us ∷ []) d (s ∷ k) l) (more s)
  finish_extended false s p d k l = refl

  probe_extended : (v w : Bool) (s : ℕ) (p : List Frame) (x t : ℕ) (ts : List ℕ) (q : List Frame) (d k : List ℕ) (l : List Edge) → o s ≡ []
      → probe g v w s (extended_path o p) x t (ts ++ o x) (extended_path o q) d k l ≡ extended o (probe b v w s p x t ts q d k l)
  probe_extended true w s p x t ts q d k l e = ap (λ (us : List ℕ). found t (frame s us ∷ extended_path o p) (frame x (ts ++ o x) ∷ extended_path o q) d k l) (sym e)
  probe_extended false true s p x t ts q d k l e = refl
  probe_extended false false s p x t ts q d k l e = ap (λ (us : List ℕ). nested s (extended_path o p) (frame t us ∷ frame x (ts ++ o x) ∷ extended_path o q) d (t ∷ k) l) (more t)

  step_extended : (c : Config) → Clear c → step g (extended o c) ≡ extended o (step b c)
  unfolding step on_path
  step_extended (outer [] d k l) e = refl
  step_extended (outer (frame s [] ∷ p) d k l) (e, same) =
      ap (λ (us : List ℕ). step g (outer (frame s us ∷ extended_path o p) d k l)) e
      ∙ ap (λ (v : Bool). finish g v s (extended_path o p) d k l) same
      ∙ finish_extended (b.accepting s) s p d k l
  step_extended (outer (frame s (t ∷ ts) ∷ p) d k l) e = visit_extended (elem t d) s t ts p d k ((s, t) ∷ l)
  step_extended (nested s p [] d k l) e = refl
  step_extended (nested s p (frame x [] ∷ q) d k l) e = ap (λ (us : List ℕ). step g (nested s (extended_path o p) (frame x us ∷ extended_path o q) d k l)) e
  step_extended (nested s p (frame x (t ∷ ts) ∷ q) d k l) e =
      ap (λ (v : Bool). probe g (eqb t s || v) (elem t k) s (extended_path o p) x t (ts ++ o x) (extended_path o q) d k ((x, t) ∷ l)) (on_extended o t p)
      ∙ probe_extended (on_path t (frame s [] ∷ p)) (elem t k) s p x t ts q d k ((x, t) ∷ l) e
  step_extended (exhausted d k l) e = refl
  step_extended (found h p q d k l) e = refl

  -- what is noted is the same: an index counts the edges in front of the one taken
  note_extended : (s : ℕ) (ts d : List ℕ) (l : List Edge) → note_of g s (ts ++ o s) d l ≡ note_of b s ts d l
  note_extended s ts d l =
      let e : length (g.successors s) - suc (length (ts ++ o s)) ≡ length (b.successors s) - suc (length ts) =
      omega (arith, ap length (more s), length-append (b.successors s) (o s), length-append ts (o s)) in
      ap (λ (i : ℕ). record { number = length d; parent = s; index = i; probes = suc (length l) }) e

  noted_extended : (c : Config) (r : Notes) → Clear c → noted g (extended o c) r ≡ noted b c r
  unfolding noted on_path
  noted_extended (outer [] d k l) r e = refl
  noted_extended (outer (frame s [] ∷ p) d k l) r (e, same) =
      ap (λ (us : List ℕ). noted g (outer (frame s us ∷ extended_path o p) d k l) r) e ∙ ap (λ (v : Bool). note_mark v s (length d) r) same
  noted_extended (outer (frame s (t ∷ ts) ∷ p) d k l) r e = ap (λ (m : Note). note_visit (elem t d) t m r) (note_extended s ts d l)
  noted_extended (nested s p [] d k l) r e = refl
  noted_extended (nested s p (frame x [] ∷ q) d k l) r e = ap (λ (us : List ℕ). noted g (nested s (extended_path o p) (frame x us ∷ extended_path o q) d k l) r) e
  noted_extended (nested s p (frame x (t ∷ ts) ∷ q) d k l) r e = ap (λ (v : Bool). note_probe (eqb t s || v) (elem t k) t (length d) r) (on_extended o t p)
  noted_extended (exhausted d k l) r e = refl
  noted_extended (found h p q d k l) r e = refl

-- ---- how far a state has come

pub untaken_on : (x : ℕ) (ts : List ℕ) (p : List Frame) → Untaken x ts p → On x p
untaken_on x ts [] h = absurd h
untaken_on x ts (frame s us ∷ p) h = ⊎_elim (λ e. rw e.0 (on_head s us p)) (λ j. on_tail x s us p (untaken_on x ts p j)) h

-- x is discovered, and if it has not finished, then fewer than n of its edges are left to take
abbrev Beyond : ℕ → ℕ → Config → Type 0
Beyond x n c = In x (discovered_of c) × ((ts : List ℕ) → Untaken x ts (unfinished_path c) → length ts < n)

module _ (g : Graph) where
  visit_beyond : (v : Bool) (x n s t : ℕ) (ts : List ℕ) (p : List Frame) (d k : List ℕ) (l : List Edge) → elem t d ≡ v → In x d
      → ((us : List ℕ) → Untaken x us (frame s ts ∷ p) → length us < n) → Beyond x n (visit g v s t ts p d k l)
  visit_beyond true x n s t ts p d k l e i h = (i, h)
  visit_beyond false x n s t ts p d k l e i h = (in_tail x t d i, λ us w. ⊎_elim (λ z. absurd (contra (rw z.0 at i) e)) (h us) w)

  finish_beyond : (v : Bool) (x n s : ℕ) (p : List Frame) (d k : List ℕ) (l : List Edge) → In x d → ((us : List ℕ) → Untaken x us p → length us < n)
      → Beyond x n (finish g v s p d k l)
  finish_beyond true x n s p d k l i h = (i, h)
  finish_beyond false x n s p d k l i h = (i, h)

  probe_beyond : (v w : Bool) (x n s : ℕ) (p : List Frame) (y t : ℕ) (ts : List ℕ) (q : List Frame) (d k : List ℕ) (l : List Edge) → In x d
      → ((us : List ℕ) → Untaken x us p → length us < n) → Beyond x n (probe g v w s p y t ts q d k l)
  probe_beyond true w x n s p y t ts q d k l i h = (i, h)
  probe_beyond false true x n s p y t ts q d k l i h = (i, h)
  probe_beyond false false x n s p y t ts q d k l i h = (i, h)

  shorter : (x n s t : ℕ) (ts us : List ℕ) → (x ≡ s) × (us ≡ ts) → ((x ≡ s) → suc (length ts) < n) → length us < n
  shorter x n s t ts us (e, z) h = omega (arith, h e, ap length z)

  beyond_step : (x n : ℕ) (c : Config) → Beyond x n c → Beyond x n (step g c)
  unfolding step
  beyond_step x n (outer [] d k l) (i, h) = (i, h)
  beyond_step x n (outer (frame s [] ∷ p) d k l) (i, h) = finish_beyond (g.accepting s) x n s p d k l i (λ us w. h us (inr w))
  beyond_step x n (outer (frame s (t ∷ ts) ∷ p) d k l) (i, h) =
      visit_beyond (elem t d) x n s t ts p d k ((s, t) ∷ l) refl i (λ us w. ⊎_elim (λ z. shorter x n s t ts us z (λ e. h (t ∷ ts) (inl (e, refl)))) (λ j. h us (inr j)) w)
  beyond_step x n (nested s p [] d k l) (i, h) = (i, h)
  beyond_step x n (nested s p (frame y [] ∷ q) d k l) (i, h) = (i, h)
  beyond_step x n (nested s p (frame y (t ∷ ts) ∷ q) d k l) (i, h) = probe_beyond (on_path t (frame s [] ∷ p)) (elem t k) x n s p y t ts q d k ((y, t) ∷ l) i h
  beyond_step x n (exhausted d k l) (i, h) = (i, h)
  beyond_step x n (found t p q d k l) (i, h) = (i, h)

  -- a state that is off the path
  off_beyond : (x n : ℕ) (p : List Frame) → Off x p → (us : List ℕ) → Untaken x us p → length us < n
  off_beyond x n p f us w = absurd (contra (untaken_on x us p w) f)

  -- the newest state of the open path: the next step takes one of its edges, or finishes it
  beyond_newest : (s : ℕ) (us : List ℕ) (p : List Frame) (d k : List ℕ) (l : List Edge) → In s d → Off s p → Beyond s (length us) (step g (outer (frame s us ∷ p) d k l))
  unfolding step
  beyond_newest s [] p d k l i f = finish_beyond (g.accepting s) s 0 s p d k l i (off_beyond s 0 p f)
  beyond_newest s (t ∷ ts) p d k l i f =
      visit_beyond (elem t d) s (suc (length ts)) s t ts p d k ((s, t) ∷ l) refl i
      (λ us w. ⊎_elim (λ z. omega (arith, ap length z.1)) (off_beyond s (suc (length ts)) p f us) w)

  beyond_more : (x n j m : ℕ) → Beyond x n (run g m) → Beyond x n (run g (m + j))
  unfolding steps
  beyond_more x n zero m h = rw add-zero h
  beyond_more x n (suc j) m h = rw add-suc (beyond_step x n (run g (m + j)) (beyond_more x n j m h))

  beyond_later : (x n m z : ℕ) → m ≤ z → Beyond x n (run g m) → Beyond x n (run g z)
  beyond_later x n m z i h = let e : z ≡ m + (z - m) = omega arith in rw e (beyond_more x n (z - m) m h)

-- ---- the two runs

-- a state that is the same in both graphs
pub shared_equal : (g h : Graph) (c : Config) (x : ℕ) → h.successors x ≡ g.successors x → h.accepting x ≡ g.accepting x → Shared g h c x
shared_equal g h c x e a = record {
  common = g.successors x;
  left = [];
  right = [];
  here = sym (append-nil (g.successors x));
  there = e ∙ sym (append-nil (g.successors x));
  untaken = inl (refl, refl);
  acceptance = λ i. a;
}

-- a state that was never met may have any row, and accept or not
pub shared_unmet : (g h : Graph) (c : Config) (x : ℕ) → elem x (discovered_of c) ≡ false → Shared g h c x
shared_unmet g h c x f = record {
  common = [];
  left = g.successors x;
  right = h.successors x;
  here = refl;
  there = refl;
  untaken = inr (inl f);
  acceptance = λ i. absurd (contra i f);
}

module _ (named : List ℕ) (g h : Graph) (a : Agree named g h) (n : ℕ) (each : (x : ℕ) → In x named → Shared g h (run g n) x) where
  shared : (x : ℕ) → Shared g h (run g n) x
  shared x = ⊎_elim (each x) (λ f. shared_equal g h (run g n) x (sym (a.edges x f)) (sym (a.acceptance x f))) (either (elem x named))

  -- the graph of the common parts
  abbrev base : Graph
  base = record { start = g.start; successors = λ x. (shared x).common; accepting = g.accepting }

  abbrev rest : ℕ → List ℕ
  rest x = (shared x).left

  abbrev rest' : ℕ → List ℕ
  rest' x = (shared x).right

  abbrev splits : (x : ℕ) → g.successors x ≡ base.successors x ++ rest x
  splits x = (shared x).here

  abbrev splits' : (x : ℕ) → h.successors x ≡ base.successors x ++ rest' x
  splits' x = (shared x).there

  -- a state that has come past the common part has nothing behind it
  spent : (x : ℕ) → Beyond x (length (rest x)) (run g n) → (rest x ≡ []) × (rest' x ≡ [])
  spent x (i, b) = ⊎_elim (λ e. e) (λ u. ⊎_elim (λ f. absurd (contra i f)) (λ w. let z = b (rest x) w in absurd (omega (arith, z))) u) (shared x).untaken

  off_spent : (x m : ℕ) → m ≤ n → (p : List Frame) → unfinished_path (run g m) ≡ p → In x (discovered_of (run g m)) → Off x p → (rest x ≡ []) × (rest' x ≡ [])
  off_spent x m i p e j f = spent x (beyond_later g x (length (rest x)) m n i (j, rw e (off_beyond g x (length (rest x)) p f)))

  abbrev Both : Config → Type 0
  Both c = Clear base g rest splits c × Clear base h rest' splits' c

  clear_at : (m : ℕ) → suc m ≤ n → (c : Config) → run g m ≡ extended rest c → Both c
  unfolding steps
  clear_at m i (outer [] d k l) e = (tt, tt)
  clear_at m i (outer (frame s [] ∷ p) d k l) e =
      let v : Inv g (outer (frame s (rest s) ∷ extended_path rest p) d k l) = rw e at (inv_run g m) in
      let w = beyond_later g s (length (rest s)) (suc m) n i
      (rw e (beyond_newest g s (rest s) (extended_path rest p) d k l (v.0.known s (on_head s (rest s) (extended_path rest p))) v.0.distinct.0)) in
      let z = spent s w in
      ((z.0, refl), (z.1, (shared s).acceptance w.0))
  clear_at m i (outer (frame s (t ∷ ts) ∷ p) d k l) e = (tt, tt)
  clear_at m i (nested s p [] d k l) e = (tt, tt)
  clear_at m i (nested s p (frame x [] ∷ q) d k l) e =
      let v : Inv g (nested s (extended_path rest p) (frame x (rest x) ∷ extended_path rest q) d k l) = rw e at (inv_run g m) in
      let w = v.1.1.done x (v.1.1.known x (on_head x (rest x) (extended_path rest q))) in
      off_spent x m (omega (arith, i)) (extended_path rest p) (ap unfinished_path e) (rw e w.0) w.1
  clear_at m i (nested s p (frame x (t ∷ ts) ∷ q) d k l) e =
      let v : Inv g (nested s (extended_path rest p) (frame x (t ∷ (ts ++ rest x)) ∷ extended_path rest q) d k l) = rw e at (inv_run g m) in
      off_spent s m (omega (arith, i)) (extended_path rest p) (ap unfinished_path e) (rw e (v.0.known s (on_head s [] (extended_path rest p)))) v.0.distinct.0
  clear_at m i (exhausted d k l) e = (tt, tt)
  clear_at m i (found t p q d k l) e = (tt, tt)

  together : (m : ℕ) → m ≤ n → (run g m ≡ extended rest (run base m)) × (run h m ≡ extended rest' (run base m))
  unfolding steps
  together zero i = (
    ap (λ (us : List ℕ). outer (frame g.start us ∷ []) (g.start ∷ []) [] []) (splits g.start),
    ap (λ (s : ℕ). outer (frame s (h.successors s) ∷ []) (s ∷ []) [] []) (sym a.start)
        ∙ ap (λ (us : List ℕ). outer (frame g.start us ∷ []) (g.start ∷ []) [] []) (splits' g.start),
  )
  together (suc m) i =
      let r = together m (omega (arith, i)) in
      let c = clear_at m i (run base m) r.0 in (
        ap (step g) r.0 ∙ step_extended base g rest splits (run base m) c.0,
        ap (step h) r.1 ∙ step_extended base h rest' splits' (run base m) c.1,
      )

  -- TICKET 4, of any two graphs: "the new run is the old one", as far as the run of g has come
  pub same_run : (m : ℕ) → m ≤ n → bare (run h m) ≡ bare (run g m)
  same_run m i = let r = together m i in ap bare r.1 ∙ bare_extended rest' (run base m) ∙ sym (ap bare r.0 ∙ bare_extended rest (run base m))

  notes_together : (m : ℕ) → m ≤ n → (notes g m ≡ notes base m) × (notes h m ≡ notes base m)
  unfolding notes
  notes_together zero i = (refl, ap (λ (s : ℕ). record { of = λ x. record { number = 0; parent = s; index = 0; probes = 0 }; stamp = λ x. 0 }) (sym a.start))
  notes_together (suc m) i =
      let r = together m (omega (arith, i)) in
      let c = clear_at m i (run base m) r.0 in
      let w = notes_together m (omega (arith, i)) in (
        ap (λ (f : Config). noted g f (notes g m)) r.0 ∙ noted_extended base g rest splits (run base m) (notes g m) c.0 ∙ ap (noted base (run base m)) w.0,
        ap (λ (f : Config). noted h f (notes h m)) r.1 ∙ noted_extended base h rest' splits' (run base m) (notes h m) c.1 ∙ ap (noted base (run base m)) w.1,
      )

  -- and so are the notes
  pub same_notes : (m : ℕ) → m ≤ n → notes h m ≡ notes g m
  same_notes m i = let w = notes_together m i in w.1 ∙ sym w.0

-- ---- what two configurations share that are equal but for what is left to take

bare_states : (p : List Frame) → states_of (bare_frames p) ≡ states_of p
unfolding states_of
bare_states [] = refl
bare_states (frame s ts ∷ p) = ap (λ (l : List ℕ). l ++ (s ∷ [])) (bare_states p)

bare_lists : (c : Config) → (discovered_of (bare c) ≡ discovered_of c) × (marked_of (bare c) ≡ marked_of c) × (probes_of (bare c) ≡ probes_of c)
bare_lists (outer p d k l) = (refl, refl, refl)
bare_lists (nested s p q d k l) = (refl, refl, refl)
bare_lists (exhausted d k l) = (refl, refl, refl)
bare_lists (found h p q d k l) = (refl, refl, refl)

bare_verdict : (c : Config) → verdict (bare c) ≡ verdict c
unfolding verdict stem_of cycle_of
bare_verdict (outer p d k l) = refl
bare_verdict (nested s p q d k l) = refl
bare_verdict (exhausted d k l) = refl
bare_verdict (found h p q d k l) = rw (bare_states p, bare_states q)

-- what a configuration tells without what is left to take, two such tell alike
pub alike : {A : Type 0} (of : Config → A) → ((c : Config) → of (bare c) ≡ of c) → (c c' : Config) → bare c' ≡ bare c → of c' ≡ of c
alike of e c c' z = sym (e c') ∙ ap of z ∙ e c

pub alike_discovered : (c c' : Config) → bare c' ≡ bare c → discovered_of c' ≡ discovered_of c
alike_discovered = alike discovered_of (λ c. (bare_lists c).0)

pub alike_marked : (c c' : Config) → bare c' ≡ bare c → marked_of c' ≡ marked_of c
alike_marked = alike marked_of (λ c. (bare_lists c).1)

pub alike_probes : (c c' : Config) → bare c' ≡ bare c → probes_of c' ≡ probes_of c
alike_probes = alike probes_of (λ c. (bare_lists c).2)

pub alike_verdict : (c c' : Config) → bare c' ≡ bare c → verdict c' ≡ verdict c
alike_verdict = alike verdict bare_verdict

-- notes that are right for the one run are right for the other
pub same_faithful : (named : List ℕ) (g h : Graph) (a : Agree named g h) (n : ℕ) → ((x : ℕ) → In x named → Shared g h (run g n) x) → (r : Notes) → Faithful g r n → Faithful h r n
same_faithful named g h a n each r w =
    let e = same_run named g h a n each n (omega arith) in
    let z = same_notes named g h a n each n (omega arith) in
    record {
      notes_right = λ x i. w.notes_right x (rw (alike_discovered (run g n) (run h n) e) at i) ∙ ap (λ (y : Notes). y.of x) (sym z);
      stamps_right = λ x i. w.stamps_right x (rw (alike_marked (run g n) (run h n) e) at i) ∙ ap (λ (y : Notes). y.stamp x) (sym z);
    }
