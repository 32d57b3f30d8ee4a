-- Ticket 8: the counts of moves that leave and enter a state, by the change that is made; and that the rows tell them. Assumes nothing.
use mathlib.Core.Path.{◌≡◌, refl, sym, ap, ◌∙◌}
use mathlib.Core.Logic.{⊎_elim}
use mathlib.Core.Bool.{false}
use mathlib.Core.List.{List, [], ◌∷◌, ◌++◌}
use Prim.Native.Nat.{ℕ, zero, suc, ◌+◌, ◌≤◌, ◌<◌}
use native.Mathlib.Omega.{arith}
use lib.Dec.{eqb}
use lib.ListN.{length}
use borrow.Author.Tests.{eqb-true, eqb-false, ne_eqb}
use Rattle.plain.specs.Lists.{any, filter}
use Rattle.plain.specs.Search.{Edge}
use Rattle.plain.specs.Table.{one, row}
use Rattle.plain.specs.Refusals.{same_edge, present, outside, repeated}
use Rattle.plain.specs.Machine.{without}
use Rattle.plain.specs.Questions.{out_degree, in_degree}
use Rattle.plain.proofs.Tests.{contra, either, or-false, none_cons, filter_short, filter_count}
use Rattle.plain.proofs.Edges.{Has, has_cases, has_nil, same_edge_lem, same_self}
use Rattle.plain.proofs.Rows.{row_yes, row_no, row_nil, row_length, cut_yes, cut_no, without_none}
use Rattle.plain.proofs.Tables.{inside_both}

-- ---- by the list of edges

-- the edges that leave a state are those of its row
pub out_row : (es : List Edge) (s : ℕ) → out_degree es s ≡ length (row es s)
unfolding out_degree filter
out_row [] s = ap length (sym (row_nil s))
out_row (e ∷ es) s = filter_count (λ (f : Edge). eqb f.0 s) e es ∙ ap (λ (n : ℕ). one (eqb e.0 s) + n) (out_row es s) ∙ sym (row_length e es s)

pub in_nil : (s : ℕ) → in_degree [] s ≡ 0
unfolding in_degree filter
in_nil s = refl

pub in_cons : (e : Edge) (es : List Edge) (s : ℕ) → in_degree (e ∷ es) s ≡ one (eqb e.1 s) + in_degree es s
unfolding in_degree
in_cons e es s = filter_count (λ (f : Edge). eqb f.1 s) e es

pub in_short : (es : List Edge) (s : ℕ) → in_degree es s ≤ length es
unfolding in_degree
in_short es s = filter_short (λ (e : Edge). eqb e.1 s) es

-- an edge that comes
pub in_add : (es : List Edge) (e : Edge) (s : ℕ) → in_degree (es ++ (e ∷ [])) s ≡ one (eqb e.1 s) + in_degree es s
in_add [] e s = in_cons e [] s
in_add (f ∷ es) e s = omega (arith, in_cons f (es ++ (e ∷ [])) s, in_add es e s, in_cons f es s)

-- an edge that goes
pub in_cut : (es : List Edge) (e : Edge) (s : ℕ) → repeated es ≡ false → Has es e → one (eqb e.1 s) + in_degree (without e es) s ≡ in_degree es s
unfolding repeated
in_cut [] e s r h = has_nil e h
in_cut (f ∷ es) e s r h =
    let w = or-false (present es f) (repeated es) r in
    ⊎_elim
    (λ z. let y : e ≡ f = same_edge_lem e f z in
    ap (λ (l : List Edge). one (eqb e.1 s) + in_degree l s) (cut_yes e f es z ∙ without_none es e (rw y w.0))
    ∙ ap (λ (d : Edge). one (eqb d.1 s) + in_degree es s) y ∙ sym (in_cons f es s))
    (λ z. omega (
      arith,
      ap (λ (l : List Edge). in_degree l s) (cut_no e f es z),
      in_cons f (without e es) s,
      in_cons f es s,
      in_cut es e s w.1 (⊎_elim (λ y. absurd (contra (rw y (same_self f)) z)) (λ i. i) (has_cases e f es h)),
    )) (either (same_edge e f))

-- none enters a state outside the game
pub in_outside : (n : ℕ) (es : List Edge) (s : ℕ) → any (outside n) es ≡ false → n ≤ s → in_degree es s ≡ 0
in_outside n [] s f h = in_nil s
in_outside n (e ∷ es) s f h =
    let w = none_cons (outside n) e es f in
    let below = (inside_both n e w.0).1 in
    omega (arith, in_cons e es s, ap one (ne_eqb e.1 s (λ z. let y : e.1 ≡ s = z in omega arith)), in_outside n es s w.1 h)

-- ---- by the rows

-- how often a state stands in the rows of the states below n
hits : ℕ → List ℕ → ℕ
hits s xs = length (filter (λ x. eqb x s) xs)

hits_below : ℕ → List Edge → ℕ → ℕ
hits_below zero es s = 0
hits_below (suc n) es s = hits s (row es n) + hits_below n es s

-- an edge counts in the row that it leaves
hits_beyond : (n : ℕ) (e : Edge) (es : List Edge) (s : ℕ) → n ≤ e.0 → hits_below n (e ∷ es) s ≡ hits_below n es s
unfolding hits_below
hits_beyond zero e es s h = refl
hits_beyond (suc n) e es s h = λ i. hits s (row_no e es n (ne_eqb e.0 n (λ z. let y : e.0 ≡ n = z in omega arith)) i) + hits_beyond n e es s (omega arith) i

hits_cons : (n : ℕ) (e : Edge) (es : List Edge) (s : ℕ) → e.0 < n → hits_below n (e ∷ es) s ≡ one (eqb e.1 s) + hits_below n es s
unfolding hits_below hits
hits_cons zero e es s h = absurd (omega arith)
hits_cons (suc n) e es s h = ⊎_elim
    (λ z. let y : e.0 ≡ n = eqb-true e.0 n z in
    omega (arith, ap (hits s) (row_yes e es n z), filter_count (λ x. eqb x s) e.1 (row es n), hits_beyond n e es s (omega arith)))
    (λ z. let n' = eqb-false e.0 n z in omega (arith, ap (hits s) (row_no e es n z), hits_cons n e es s (omega (arith, n')))) (either (eqb e.0 n))

-- a number above the states that edges leave
above : List Edge → ℕ
above [] = 0
above (e ∷ es) = suc e.0 + above es

no_hits : (n s : ℕ) → hits_below n [] s ≡ 0
unfolding hits_below hits filter
no_hits zero s = refl
no_hits (suc n) s = omega (arith, ap (hits s) (row_nil n), no_hits n s)

in_hits : (n : ℕ) (es : List Edge) (s : ℕ) → above es ≤ n → in_degree es s ≡ hits_below n es s
unfolding above
in_hits n [] s h = in_nil s ∙ sym (no_hits n s)
in_hits n (e ∷ es) s h = in_cons e es s ∙ ap (λ (k : ℕ). one (eqb e.1 s) + k) (in_hits n es s (omega arith)) ∙ sym (hits_cons n e es s (omega arith))

same_hits : (n : ℕ) (es fs : List Edge) (s : ℕ) → ((v : ℕ) → row es v ≡ row fs v) → hits_below n es s ≡ hits_below n fs s
unfolding hits_below
same_hits zero es fs s w = refl
same_hits (suc n) es fs s w = λ i. hits s (w n i) + same_hits n es fs s w i

-- SAME ROWS, same counts
pub same_in : (es fs : List Edge) (s : ℕ) → ((v : ℕ) → row es v ≡ row fs v) → in_degree es s ≡ in_degree fs s
same_in es fs s w =
    let n = above es + above fs in
    in_hits n es s (omega arith) ∙ same_hits n es fs s w ∙ sym (in_hits n fs s (omega arith))

pub same_out : (es fs : List Edge) (s : ℕ) → row es s ≡ row fs s → out_degree es s ≡ out_degree fs s
same_out es fs s w = out_row es s ∙ ap length w ∙ sym (out_row fs s)
