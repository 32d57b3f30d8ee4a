-- The nested search probes only edges that the outer search has probed before. Assumes nothing.
use mathlib.Core.Path.{◌≡◌, refl}
use mathlib.Core.Logic.{⊎_elim}
use mathlib.Core.Bool.{Bool, true, false}
use mathlib.Core.List.{List, [], ◌∷◌, ◌++◌}
use Prim.Native.Nat.{ℕ, zero, suc}
use Rattle.plain.specs.Lists.{elem, In}
use Rattle.plain.specs.Search.{Graph, Edge, Frame, frame, on_path, Config, outer, nested, exhausted, found, discovered_of, probes_of, visit, finish, probe, step, steps, run}
use Rattle.plain.specs.Unexplored.{unfinished_path}
use Rattle.plain.proofs.Tests.{contra, in_nil, in_head}
use Rattle.plain.proofs.Paths.{pending_here, pending_on}
use Rattle.plain.proofs.Edges.{Has, has_head, has_tail, has_cases, has_nil}
use Rattle.plain.proofs.Invariant.{Settled, settled_taken, settled_push, settled_done, settled_up, Nested, Inv, next_edge, inv_run}

-- every edge of l is in es
abbrev Covered : List Edge → List Edge → Type 0
Covered es l = (e : Edge) → Has l e → Has es e

covered_both : (e : Edge) (es l : List Edge) → Covered es l → Covered (e ∷ es) (e ∷ l)
covered_both e es l c f h = ⊎_elim (λ z. rw z (has_head e es)) (λ i. has_tail f e es (c f i)) (has_cases f e l h)

covered_again : (e : Edge) (es l : List Edge) → Has es e → Covered es l → Covered es (e ∷ l)
covered_again e es l i c f h = ⊎_elim (λ z. rw z i) (c f) (has_cases f e l h)

-- the probe that the outer search makes from c
unfoldable pub outer_probe : Config → List Edge
outer_probe (outer [] d k l) = []
outer_probe (outer (frame s [] ∷ p) d k l) = []
outer_probe (outer (frame s (t ∷ ts) ∷ p) d k l) = (s, t) ∷ []
outer_probe (nested s p q d k l) = []
outer_probe (exhausted d k l) = []
outer_probe (found h p q d k l) = []

module _ (g : Graph) where
  -- the probes of the outer search in n steps, newest first
  unfoldable pub outer_probes : ℕ → List Edge
  outer_probes zero = []
  outer_probes (suc n) = outer_probe (run g n) ++ outer_probes n

  -- each edge of a discovered state is in es, or is pending on the open path
  abbrev Probed : List Edge → List Frame → List ℕ → Type 0
  Probed es p d = Settled g (λ x y. Has es (x, y)) p d

  -- all probes are among es, which holds those of the outer search
  abbrev Within : List Edge → Config → Type 0
  Within es c = Covered es (probes_of c) × Probed es (unfinished_path c) (discovered_of c)

  probed_taken : (es : List Edge) (s t : ℕ) (ts : List ℕ) (p : List Frame) (d : List ℕ) → Probed es (frame s (t ∷ ts) ∷ p) d → Probed ((s, t) ∷ es) (frame s ts ∷ p) d
  probed_taken es s t ts p d h =
      settled_taken g (λ x y. Has ((s, t) ∷ es) (x, y)) s t ts p d
      (settled_up g (λ x y. Has es (x, y)) (λ x y. Has ((s, t) ∷ es) (x, y)) (frame s (t ∷ ts) ∷ p) d (λ x y i. has_tail (x, y) (s, t) es i) h) (has_head (s, t) es)

  visit_within : (b : Bool) (es : List Edge) (s t : ℕ) (ts : List ℕ) (p : List Frame) (d k : List ℕ) (l : List Edge) → Within es (outer (frame s (t ∷ ts) ∷ p) d k l)
      → Within ((s, t) ∷ es) (visit g b s t ts p d k ((s, t) ∷ l))
  visit_within true es s t ts p d k l (c, h) = (covered_both (s, t) es l c, probed_taken es s t ts p d h)
  visit_within false es s t ts p d k l (c, h) =
      (covered_both (s, t) es l c, settled_push g (λ x y. Has ((s, t) ∷ es) (x, y)) t (frame s ts ∷ p) d (probed_taken es s t ts p d h))

  finish_within : (b : Bool) (es : List Edge) (s : ℕ) (p : List Frame) (d k : List ℕ) (l : List Edge) → Within es (outer (frame s [] ∷ p) d k l)
      → Within es (finish g b s p d k l)
  finish_within true es s p d k l (c, h) = (c, settled_done g (λ x y. Has es (x, y)) s p d h)
  finish_within false es s p d k l (c, h) = (c, settled_done g (λ x y. Has es (x, y)) s p d h)

  -- a state that is marked has no edge pending
  pub probed_before : (es : List Edge) (s : ℕ) (p : List Frame) (x t : ℕ) (ts : List ℕ) (q : List Frame) (d k old : List ℕ) → Nested g s p (frame x (t ∷ ts) ∷ q) d k old
      → Probed es p d → Has es (x, t)
  probed_before es s p x t ts q d k old n h =
      let e = next_edge g s p x t ts q d k old n in
      ⊎_elim (λ z. z) (λ j. absurd (contra (pending_on x t p j) (n.done x e.0).1)) (h x t (n.done x e.0).0 e.1)

  probe_within : (b c : Bool) (es : List Edge) (s : ℕ) (p : List Frame) (x t : ℕ) (ts : List ℕ) (q : List Frame) (d k : List ℕ) (l : List Edge) → Has es (x, t)
      → Within es (nested s p (frame x (t ∷ ts) ∷ q) d k l) → Within es (probe g b c s p x t ts q d k ((x, t) ∷ l))
  probe_within true c es s p x t ts q d k l i (v, h) = (covered_again (x, t) es l i v, h)
  probe_within false true es s p x t ts q d k l i (v, h) = (covered_again (x, t) es l i v, h)
  probe_within false false es s p x t ts q d k l i (v, h) = (covered_again (x, t) es l i v, h)

  step_within : (c : Config) (es : List Edge) → Inv g c → Within es c → Within (outer_probe c ++ es) (step g c)
  unfolding step outer_probe
  step_within (outer [] d k l) es v w = w
  step_within (outer (frame s [] ∷ p) d k l) es v w = finish_within (g.accepting s) es s p d k l w
  step_within (outer (frame s (t ∷ ts) ∷ p) d k l) es v w = visit_within (elem t d) es s t ts p d k l w
  step_within (nested s p [] d k l) es v w = w
  step_within (nested s p (frame x [] ∷ q) d k l) es v w = w
  step_within (nested s p (frame x (t ∷ ts) ∷ q) d k l) es (o, (old, n)) w =
      probe_within (on_path t (frame s [] ∷ p)) (elem t k) es s p x t ts q d k l (probed_before es s p x t ts q d k old n w.1) w
  step_within (exhausted d k l) es v w = w
  step_within (found h p q d k l) es v w = w

  within : (n : ℕ) → Within (outer_probes n) (run g n)
  unfolding steps outer_probes
  within zero = (λ e h. has_nil e h, settled_push g (λ x y. Has [] (x, y)) g.start [] [] (λ x y i j. absurd (in_nil x i)))
  within (suc n) = step_within (run g n) (outer_probes n) (inv_run g n) (within n)

  -- an edge that a run has probed at all, its outer search has probed
  pub outer_first : (n : ℕ) (e : Edge) → Has (probes_of (run g n)) e → Has (outer_probes n) e
  outer_first n e h = (within n).0 e h

  -- an edge of a discovered state is probed by the outer search, or is pending
  pub probed_or_pending : (n : ℕ) → Probed (outer_probes n) (unfinished_path (run g n)) (discovered_of (run g n))
  probed_or_pending n = (within n).1

  -- what a step has probed stays probed, and its own probe is
  finish_probes : (b : Bool) (s : ℕ) (p : List Frame) (d k : List ℕ) (l : List Edge) → probes_of (finish g b s p d k l) ≡ l
  finish_probes true s p d k l = refl
  finish_probes false s p d k l = refl

  probe_probes : (b c : Bool) (s : ℕ) (p : List Frame) (x t : ℕ) (ts : List ℕ) (q : List Frame) (d k : List ℕ) (l : List Edge) → probes_of (probe g b c s p x t ts q d k l) ≡ l
  probe_probes true c s p x t ts q d k l = refl
  probe_probes false true s p x t ts q d k l = refl
  probe_probes false false s p x t ts q d k l = refl

  visit_probes : (b : Bool) (s t : ℕ) (ts : List ℕ) (p : List Frame) (d k : List ℕ) (l : List Edge) → probes_of (visit g b s t ts p d k l) ≡ l
  visit_probes true s t ts p d k l = refl
  visit_probes false s t ts p d k l = refl

  outer_step_lem : (es : List Edge) (c : Config) → Covered (probes_of c) es → Covered (probes_of (step g c)) (outer_probe c ++ es)
  unfolding step outer_probe
  outer_step_lem es (outer [] d k l) h = h
  outer_step_lem es (outer (frame s [] ∷ p) d k l) h = rw (finish_probes (g.accepting s) s p d k l) h
  outer_step_lem es (outer (frame s (t ∷ ts) ∷ p) d k l) h = rw (visit_probes (elem t d) s t ts p d k ((s, t) ∷ l)) (covered_both (s, t) l es h)
  outer_step_lem es (nested s p [] d k l) h = h
  outer_step_lem es (nested s p (frame x [] ∷ q) d k l) h = h
  outer_step_lem es (nested s p (frame x (t ∷ ts) ∷ q) d k l) h =
      rw (probe_probes (on_path t (frame s [] ∷ p)) (elem t k) s p x t ts q d k ((x, t) ∷ l)) (λ e i. has_tail e (x, t) l (h e i))
  outer_step_lem es (exhausted d k l) h = h
  outer_step_lem es (found t p q d k l) h = h

  -- and the probes of the outer search are among those of the run
  pub outer_probed : (n : ℕ) (e : Edge) → Has (outer_probes n) e → Has (probes_of (run g n)) e
  unfolding steps outer_probes
  outer_probed zero e h = h
  outer_probed (suc n) e h = outer_step_lem (outer_probes n) (run g n) (outer_probed n) e h

  -- a probe follows an edge that is there
  probe_edge : (es : List Edge) (c : Config) → Inv g c → ((e : Edge) → Has es e → In e.1 (g.successors e.0)) → (e : Edge) → Has (outer_probe c ++ es) e → In e.1 (g.successors e.0)
  unfolding outer_probe
  probe_edge es (outer [] d k l) v h e i = h e i
  probe_edge es (outer (frame s [] ∷ p) d k l) v h e i = h e i
  probe_edge es (outer (frame s (t ∷ ts) ∷ p) d k l) (o, m) h e i =
      ⊎_elim (λ z. rw z (o.genuine s t (pending_here s t (t ∷ ts) p (in_head t ts)))) (h e) (has_cases e (s, t) es i)
  probe_edge es (nested s p q d k l) v h e i = h e i
  probe_edge es (exhausted d k l) v h e i = h e i
  probe_edge es (found t p q d k l) v h e i = h e i

  outer_edge : (n : ℕ) (e : Edge) → Has (outer_probes n) e → In e.1 (g.successors e.0)
  unfolding outer_probes
  outer_edge zero e h = has_nil e h
  outer_edge (suc n) e h = probe_edge (outer_probes n) (run g n) (inv_run g n) (outer_edge n) e h

  pub looked_edge : (n : ℕ) (e : Edge) → Has (probes_of (run g n)) e → In e.1 (g.successors e.0)
  looked_edge n e h = outer_edge n e (outer_first n e h)
