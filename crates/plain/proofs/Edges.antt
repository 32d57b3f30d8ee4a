-- Membership of edges in lists of edges. Assumes nothing.
use mathlib.Core.Path.{◌≡◌}
use mathlib.Core.Logic.{◌⊎◌, inl, inr, ⊎_elim}
use mathlib.Core.Bool.{true}
use mathlib.Core.List.{List, [], ◌∷◌, map}
use lib.Dec.{eqb}
use Rattle.plain.specs.Search.{Edge}
use Rattle.plain.specs.Refusals.{same_edge, present}
use Rattle.plain.proofs.Tests.{same, self, and-true, any_head, any_tail, any_cases, any_nil}

abbrev pub Has : List Edge → Edge → Type 0
Has es e = present es e ≡ true

pub same_self : (e : Edge) → same_edge e e ≡ true
unfolding same_edge
same_self e = rw (self e.0) (self e.1)

pub same_edge_lem : (e f : Edge) → same_edge e f ≡ true → e ≡ f
unfolding same_edge
same_edge_lem e f h =
    let w = and-true (eqb e.0 f.0) (eqb e.1 f.1) h in
    let a : e.0 ≡ f.0 = same w.0 in
    let b : e.1 ≡ f.1 = same w.1 in
    λ i. (a i, b i)

pub has_head : (e : Edge) (es : List Edge) → Has (e ∷ es) e
unfolding present
has_head e es = any_head (same_edge e) e es (same_self e)

pub has_tail : (e f : Edge) (es : List Edge) → Has es e → Has (f ∷ es) e
unfolding present
has_tail e f es h = any_tail (same_edge e) f es h

pub has_cases : (e f : Edge) (es : List Edge) → Has (f ∷ es) e → (e ≡ f) ⊎ Has es e
unfolding present
has_cases e f es h = ⊎_elim (λ z. inl (same_edge_lem e f z)) inr (any_cases (same_edge e) f es h)

pub has_nil : {A : Type 0} (e : Edge) → Has [] e → A
unfolding present
has_nil e h = any_nil (same_edge e) h

pub has_map : (f : Edge → Edge) (es : List Edge) (e : Edge) → Has es e → Has (map f es) (f e)
has_map f [] e h = has_nil e h
has_map f (x ∷ es) e h = ⊎_elim (λ z. rw z (has_head (f x) (map f es))) (λ j. has_tail (f e) (f x) (map f es) (has_map f es e j)) (has_cases e x es h)

-- and what stands in the mapped list is what an entry is mapped to
pub map_has : (f : Edge → Edge) (es : List Edge) (e : Edge) → Has (map f es) e → (x : Edge) × Has es x × (e ≡ f x)
map_has f [] e h = has_nil e h
map_has f (x ∷ es) e h = ⊎_elim (λ z. (x, has_head x es, z)) (λ j. let r = map_has f es e j in (r.0, has_tail r.0 x es r.1, r.2)) (has_cases e (f x) (map f es) h)
