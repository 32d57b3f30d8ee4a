-- The places of the open path: pushed, popped, tested. Assumes nothing.
use mathlib.Core.Path.{◌≡◌, refl, sym, ap, ◌∙◌}
use mathlib.Core.Logic.{⊎_elim}
use mathlib.Core.Bool.{true, false}
use mathlib.Core.List.{List, [], ◌∷◌, ◌++◌}
use Prim.Native.Nat.{ℕ, suc, ◌+◌, ◌≤◌, ◌<◌}
use native.Mathlib.Omega.{arith}
use lib.Dec.{eqb, ltb}
use lib.ListN.{length, get_or, set, drop, get_or-append}
use lib.Seq.{get_or-append_seam, get_or-set_other}
use borrow.Author.Tests.{ltb-true, lt-ltb, eq-eqb, eqb-false}
use Rattle.plain.specs.Lists.{elem, In, before, Begins}
use Rattle.plain.specs.Search.{Graph, Frame, frame, on_path, states_of}
use Rattle.plain.proofs.Tests.{contra, either, not-true, same, self, and-true, in_nil, in_cases, not_in, or-false, in_get_or}
use Rattle.plain.proofs.Paths.{On, Off, Distinct, on_cases}
use Rattle.plain.proofs.Lassos.{on_states, states_on, before_hit, before_miss}
use Rattle.plain.proofs.Walks.{begins_get_or, states_length}
use Rattle.search.specs.Core.{on_open_path}
use Rattle.search.proofs.Represents.{Placed, Cursors}

-- ---- states and places

-- a state that is not on the path may get another place
pub placed_set : (depth : List ℕ) (t i : ℕ) (p : List Frame) → Off t p → Placed depth p → Placed (set depth t i) p
unfolding on_path
placed_set depth t i [] o h = tt
placed_set depth t i (frame x ts ∷ p) o h =
    let w = or-false (eqb t x) (on_path t p) o in
    (get_or-set_other depth t x i 0 (λ e. eqb-false t x w.0 (sym e)) ∙ h.0, placed_set depth t i p w.1 h.1)

-- a state of the path stands at its place
pub placed_at : (depth : List ℕ) (x : ℕ) (p : List Frame) → Placed depth p → On x p → (get_or depth x 0 < length p) × (get_or (states_of p) (get_or depth x 0) 0 ≡ x)
unfolding states_of on_path
placed_at depth x [] h o = absurd (contra o refl)
placed_at depth x (frame y ts ∷ p) h o = ⊎_elim
    (λ e. let z : get_or depth x 0 ≡ length (states_of p) = ap (λ (v : ℕ). get_or depth v 0) e ∙ h.0 ∙ sym (states_length p) in
    (omega (arith, states_length p), ap (λ (i : ℕ). get_or (states_of p ++ (y ∷ [])) i 0) z ∙ get_or-append_seam (states_of p) y [] 0 ∙ sym e))
    (λ q. let r = placed_at depth x p h.1 q in
    (omega (arith, r.0), get_or-append (states_of p) (y ∷ []) 0 (get_or depth x 0) (omega (arith, r.0, states_length p)) ∙ r.1))
    (on_cases x y ts p o)

-- the test for the open path is right
pub on_test : (walk depth : List ℕ) (height t : ℕ) (p : List Frame) → height ≡ length p → Begins (states_of p) walk → Placed depth p → on_open_path walk depth height t ≡ on_path t p
on_test walk depth height t p e w h = ⊎_elim yes_on not_on (either (on_path t p))
  where
    yes_on : On t p → on_open_path walk depth height t ≡ on_path t p
    yes_on o =
        let r = placed_at depth t p h o in
        let a : ltb (get_or depth t 0) height ≡ true = lt-ltb (get_or depth t 0) height (omega (arith, r.0)) in
        let b : eqb (get_or walk (get_or depth t 0) 0) t ≡ true = eq-eqb (get_or walk (get_or depth t 0) 0) t (begins_get_or (states_of p) walk (get_or depth t 0) (omega (arith, r.0, states_length p)) w ∙ r.1) in
        rw (a, b, o)

    not_on : Off t p → on_open_path walk depth height t ≡ on_path t p
    not_on f = not-true (on_open_path walk depth height t) (λ y.
        let c = and-true (ltb (get_or depth t 0) height) (eqb (get_or walk (get_or depth t 0) 0) t) y in
        let i : get_or depth t 0 < length (states_of p) = omega (arith, ltb-true (get_or depth t 0) height c.0, states_length p) in
        let z : get_or (states_of p) (get_or depth t 0) 0 ≡ t = sym (begins_get_or (states_of p) walk (get_or depth t 0) i w) ∙ same c.1 in
        contra (states_on t p (rw z at (in_get_or (states_of p) (get_or depth t 0) i))) f) ∙ sym f

-- ---- the stem's length is the place of the state where the cycle is entered

before_in : (h : ℕ) (xs ys : List ℕ) → In h xs → before h (xs ++ ys) ≡ before h xs
before_in h [] ys i = absurd (in_nil h i)
before_in h (x ∷ xs) ys i = ⊎_elim
    (λ e. before_hit h x (xs ++ ys) e ∙ sym (before_hit h x xs e))
    (λ e. before_miss h x (xs ++ ys) e ∙ ap (λ (l : List ℕ). x ∷ l) (before_in h xs ys (⊎_elim (λ z. absurd (eqb-false h x e z)) (λ j. j) (in_cases h x xs i))) ∙ sym (before_miss h x xs e))
    (either (eqb h x))

before_last : (h : ℕ) (xs : List ℕ) → elem h xs ≡ false → before h (xs ++ (h ∷ [])) ≡ xs
unfolding elem
before_last h [] o = before_hit h h [] (self h)
before_last h (x ∷ xs) o =
    let w = or-false (eqb h x) (elem h xs) o in
    before_miss h x (xs ++ (h ∷ [])) w.0 ∙ ap (λ (l : List ℕ). x ∷ l) (before_last h xs w.1)

pub stem_length : (depth : List ℕ) (t : ℕ) (p : List Frame) → Placed depth p → Distinct p → On t p → length (before t (states_of p)) ≡ get_or depth t 0
unfolding states_of on_path
stem_length depth t [] h d o = absurd (contra o refl)
stem_length depth t (frame y ts ∷ p) h d o = ⊎_elim
    (λ e. rw e (ap length (before_last y (states_of p) (not_in y (states_of p) (λ i. contra (states_on y p i) d.0))) ∙ states_length p ∙ sym h.0))
    (λ q. ap length (before_in t (states_of p) (y ∷ []) (on_states t p q)) ∙ stem_length depth t p h.1 d.1 q)
    (on_cases t y ts p o)

-- ---- what is pending on the path of the nested search

pub cursors_set : (g : Graph) (base i v : ℕ) (cursor : List ℕ) (q : List Frame) → base + length q ≤ i → Cursors g base cursor q → Cursors g base (set cursor i v) q
cursors_set g base i v cursor [] h c = tt
cursors_set g base i v cursor (frame y us ∷ q) h c = (
  c.0 ∙ ap (λ (k : ℕ). drop (suc k) (g.successors y)) (sym (get_or-set_other cursor i (base + length q) v 0 (λ e. omega arith))),
  cursors_set g base i v cursor q (omega arith) c.1,
)
