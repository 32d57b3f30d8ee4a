-- The rows of a table: an edge is present exactly when its target is in its row; a change alters one row. Assumes nothing.
use mathlib.Core.Path.{◌≡◌, refl, sym, ap, ◌∙◌}
use mathlib.Core.Logic.{◌≢◌, ⊎_elim}
use mathlib.Core.Bool.{true, false, not}
use mathlib.Core.List.{List, [], ◌∷◌, ◌++◌, map, append-nil}
use Prim.Native.Nat.{ℕ, suc, ◌+◌, ◌-◌, ◌≤◌}
use native.Mathlib.Omega.{arith}
use lib.Dec.{eqb}
use lib.ListN.{length}
use borrow.Author.Tests.{eqb-false, ne_eqb}
use Rattle.plain.specs.Lists.{filter, elem, In, Once}
use Rattle.plain.specs.Search.{Edge}
use Rattle.plain.specs.Table.{Table, carried_by, with_mark, without_mark, one, row, graph_of, game_of, searched, copies_in}
use Rattle.plain.specs.Layers.{state_at}
use Rattle.plain.specs.Refusals.{same_edge, present, repeated}
use Rattle.plain.specs.Machine.{Change, add, cut, mark, unmark, named, without, apply}
use Rattle.plain.proofs.Tests.{contra, either, not-true, same, self, in_nil, in_head, in_tail, in_cases, not_in, or-false, one_le, none_cons, filter_yes, filter_no}
use Rattle.plain.proofs.Edges.{Has, has_head, has_tail, has_cases, has_nil, same_edge_lem, same_self}
use Rattle.plain.proofs.Prefix.{Agree}
use Rattle.plain.proofs.LayerChanges.{AgreeBut, layers_agree_at, layers_agree}
use Rattle.plain.proofs.Words.{accepts_marked_other, accepts_unmarked_other, carried_other}

pub row_yes : (e : Edge) (es : List Edge) (s : ℕ) → eqb e.0 s ≡ true → row (e ∷ es) s ≡ e.1 ∷ row es s
unfolding row
row_yes e es s h = rw (filter_yes (λ (f : Edge). eqb f.0 s) e es h)

pub row_no : (e : Edge) (es : List Edge) (s : ℕ) → eqb e.0 s ≡ false → row (e ∷ es) s ≡ row es s
unfolding row
row_no e es s h = rw (filter_no (λ (f : Edge). eqb f.0 s) e es h)

pub row_nil : (s : ℕ) → row [] s ≡ []
unfolding row filter
row_nil s = refl

-- ---- an edge is present exactly when its target is in the row of its source

pub row_has : (es : List Edge) (x y : ℕ) → In y (row es x) → Has es (x, y)
row_has [] x y i = absurd (in_nil y (rw (row_nil x) at i))
row_has (e ∷ es) x y i = ⊎_elim
    (λ h. ⊎_elim
    (λ z. let w : x ≡ e.0 = sym (same h) in let f : (x, y) ≡ e = λ j. (w j, z j) in rw f (has_head e es))
    (λ j. has_tail (x, y) e es (row_has es x y j)) (in_cases y e.1 (row es x) (rw (row_yes e es x h) at i)))
    (λ h. has_tail (x, y) e es (row_has es x y (rw (row_no e es x h) at i))) (either (eqb e.0 x))

pub has_row : (es : List Edge) (x y : ℕ) → Has es (x, y) → In y (row es x)
has_row [] x y h = has_nil (x, y) h
has_row (e ∷ es) x y h = ⊎_elim
    (λ z. ⊎_elim
    (λ t. rw (row_yes e es x t) (let w : y ≡ e.1 = ap (λ (f : Edge). f.1) z in rw w (in_head e.1 (row es x))))
    (λ f. absurd (eqb-false e.0 x f (ap (λ (f : Edge). f.0) (sym z)))) (either (eqb e.0 x)))
    (λ j. ⊎_elim
    (λ t. rw (row_yes e es x t) (in_tail y e.1 (row es x) (has_row es x y j)))
    (λ f. rw (row_no e es x f) (has_row es x y j)) (either (eqb e.0 x))) (has_cases (x, y) e es h)

-- an edge counts in the row that it leaves
pub row_length : (e : Edge) (es : List Edge) (v : ℕ) → length (row (e ∷ es) v) ≡ one (eqb e.0 v) + length (row es v)
row_length e es v = ⊎_elim
    (λ h. ap length (row_yes e es v h) ∙ rw h (omega arith))
    (λ h. ap length (row_no e es v h) ∙ rw h (omega arith)) (either (eqb e.0 v))

-- a row is no longer than the list of edges
pub row_short : (es : List Edge) (v : ℕ) → length (row es v) ≤ length es
row_short [] v = omega (arith, ap length (row_nil v))
row_short (e ∷ es) v = omega (arith, row_length e es v, one_le (eqb e.0 v), row_short es v)

-- and repeats no state, where the list repeats no edge
pub row_once : (es : List Edge) (v : ℕ) → repeated es ≡ false → Once (row es v)
unfolding repeated
row_once [] v r = rw row_nil tt
row_once (e ∷ es) v r =
    let w = or-false (present es e) (repeated es) r in
    ⊎_elim (λ h. rw (row_yes e es v h) (fresh h w.0, row_once es v w.1)) (λ h. rw (row_no e es v h) (row_once es v w.1)) (either (eqb e.0 v))
  where
    fresh : eqb e.0 v ≡ true → present es e ≡ false → elem e.1 (row es v) ≡ false
    fresh h n = not_in e.1 (row es v) (λ i.
        let z : v ≡ e.0 = sym (same h) in
        let f : (v, e.1) ≡ e = λ j. (z j, e.1) in
        contra (rw f at (row_has es v e.1 i)) n)

-- ---- an added edge is the newest of its row, and the other rows stay

pub row_add : (es : List Edge) (e : Edge) → row (es ++ (e ∷ [])) e.0 ≡ row es e.0 ++ (e.1 ∷ [])
row_add [] e = row_yes e [] e.0 (self e.0) ∙ rw row_nil
row_add (f ∷ es) e = ⊎_elim
    (λ h. row_yes f (es ++ (e ∷ [])) e.0 h ∙ rw (row_add es e, row_yes f es e.0 h))
    (λ h. row_no f (es ++ (e ∷ [])) e.0 h ∙ rw (row_add es e, row_no f es e.0 h)) (either (eqb f.0 e.0))

pub row_add_other : (es : List Edge) (e : Edge) (x : ℕ) → eqb e.0 x ≡ false → row (es ++ (e ∷ [])) x ≡ row es x
row_add_other [] e x n = row_no e [] x n
row_add_other (f ∷ es) e x n = ⊎_elim
    (λ h. row_yes f (es ++ (e ∷ [])) x h ∙ rw (row_add_other es e x n, row_yes f es x h))
    (λ h. row_no f (es ++ (e ∷ [])) x h ∙ rw (row_add_other es e x n, row_no f es x h)) (either (eqb f.0 x))

-- ---- a cut edge leaves its row, the others of the row keep their order, and the other rows stay

pub cut_yes : (e f : Edge) (es : List Edge) → same_edge e f ≡ true → without e (f ∷ es) ≡ without e es
unfolding without
cut_yes e f es h = filter_no (λ x. not (same_edge e x)) f es (rw h)

pub cut_no : (e f : Edge) (es : List Edge) → same_edge e f ≡ false → without e (f ∷ es) ≡ f ∷ without e es
unfolding without
cut_no e f es h = filter_yes (λ x. not (same_edge e x)) f es (rw h)

-- an edge that is not there: nothing is taken out
pub without_none : (es : List Edge) (e : Edge) → present es e ≡ false → without e es ≡ es
unfolding present without filter
without_none [] e n = refl
without_none (f ∷ es) e n =
    let w = none_cons (same_edge e) f es n in
    cut_no e f es w.0 ∙ ap (λ (l : List Edge). f ∷ l) (without_none es e w.1)

-- an edge that is added and cut straight away: the list is the one before
pub without_newest : (es : List Edge) (e : Edge) → present es e ≡ false → without e (es ++ (e ∷ [])) ≡ es
unfolding present without filter
without_newest [] e n = cut_yes e e [] (same_self e)
without_newest (f ∷ es) e n =
    let w = none_cons (same_edge e) f es n in
    cut_no e f (es ++ (e ∷ [])) w.0 ∙ ap (λ (l : List Edge). f ∷ l) (without_newest es e w.1)

-- the targets of a row but for y
abbrev pub but : ℕ → List ℕ → List ℕ
but y ys = filter (λ x. not (eqb y x)) ys

pub but_yes : (y x : ℕ) (xs : List ℕ) → eqb y x ≡ true → but y (x ∷ xs) ≡ but y xs
but_yes y x xs h = filter_no (λ z. not (eqb y z)) x xs (rw h)

pub but_no : (y x : ℕ) (xs : List ℕ) → eqb y x ≡ false → but y (x ∷ xs) ≡ x ∷ but y xs
but_no y x xs h = filter_yes (λ z. not (eqb y z)) x xs (rw h)

-- taken out where it stands behind a part without it, or where it is not at all
pub but_front : (y : ℕ) (xs ys : List ℕ) → elem y xs ≡ false → but y (xs ++ ys) ≡ xs ++ but y ys
unfolding elem
but_front y [] ys f = refl
but_front y (x ∷ xs) ys f =
    let w = or-false (eqb y x) (elem y xs) f in
    but_no y x (xs ++ ys) w.0 ∙ ap (λ (l : List ℕ). x ∷ l) (but_front y xs ys w.1)

pub but_none : (y : ℕ) (xs : List ℕ) → elem y xs ≡ false → but y xs ≡ xs
unfolding filter
but_none y xs f = ap (but y) (sym (append-nil xs)) ∙ but_front y xs [] f ∙ append-nil xs

-- taken out of a list whose entries are mapped one to one
pub but_map : (f : ℕ → ℕ) → ((x y : ℕ) → f x ≡ f y → x ≡ y) → (y : ℕ) (xs : List ℕ) → map f (but y xs) ≡ but (f y) (map f xs)
unfolding filter
but_map f one y [] = refl
but_map f one y (x ∷ xs) = ⊎_elim
    (λ e. ap (map f) (but_yes y x xs e) ∙ but_map f one y xs ∙ sym (but_yes (f y) (f x) (map f xs) (let z : y ≡ x = same e in rw z (self (f x)))))
    (λ e. ap (map f) (but_no y x xs e) ∙ ap (λ (l : List ℕ). f x ∷ l) (but_map f one y xs) ∙ sym (but_no (f y) (f x) (map f xs) (ne_eqb (f y) (f x) (λ z. eqb-false y x e (one y x z)))))
    (either (eqb y x))

cut_gone : (es : List Edge) (e f : Edge) → same_edge e f ≡ true → row (without e es) e.0 ≡ but e.1 (row es e.0)
    → row (without e (f ∷ es)) e.0 ≡ but e.1 (row (f ∷ es) e.0)
cut_gone es e f h below =
    let z : e ≡ f = same_edge_lem e f h in
    let a : eqb f.0 e.0 ≡ true = rw z (self f.0) in
    let b : eqb e.1 f.1 ≡ true = rw z (self f.1) in
    ap (λ (l : List Edge). row l e.0) (cut_yes e f es h) ∙ below
    ∙ sym (ap (λ (l : List ℕ). but e.1 l) (row_yes f es e.0 a) ∙ but_yes e.1 f.1 (row es e.0) b)

-- an edge of the same row that is not e has another target
other_target : (e f : Edge) → same_edge e f ≡ false → eqb f.0 e.0 ≡ true → eqb e.1 f.1 ≡ false
unfolding same_edge
other_target e f h a = not-true (eqb e.1 f.1) (λ b. let z : f.0 ≡ e.0 = same a in contra (rw (z, self e.0) b) h)

cut_stays : (es : List Edge) (e f : Edge) → same_edge e f ≡ false → row (without e es) e.0 ≡ but e.1 (row es e.0)
    → row (without e (f ∷ es)) e.0 ≡ but e.1 (row (f ∷ es) e.0)
cut_stays es e f h below = ap (λ (l : List Edge). row l e.0) (cut_no e f es h) ∙ ⊎_elim
    (λ a. row_yes f (without e es) e.0 a ∙ ap (λ (l : List ℕ). f.1 ∷ l) below
    ∙ sym (ap (λ (l : List ℕ). but e.1 l) (row_yes f es e.0 a) ∙ but_no e.1 f.1 (row es e.0) (other_target e f h a)))
    (λ a. row_no f (without e es) e.0 a ∙ below ∙ sym (ap (λ (l : List ℕ). but e.1 l) (row_no f es e.0 a))) (either (eqb f.0 e.0))

pub row_cut : (es : List Edge) (e : Edge) → row (without e es) e.0 ≡ but e.1 (row es e.0)
unfolding without filter row
row_cut [] e = refl
row_cut (f ∷ es) e = ⊎_elim (λ h. cut_gone es e f h (row_cut es e)) (λ h. cut_stays es e f h (row_cut es e)) (either (same_edge e f))

pub row_cut_other : (es : List Edge) (e : Edge) (x : ℕ) → eqb e.0 x ≡ false → row (without e es) x ≡ row es x
unfolding without filter
row_cut_other [] e x n = refl
row_cut_other (f ∷ es) e x n = ⊎_elim
    (λ h. let z : e ≡ f = same_edge_lem e f h in
    ap (λ (l : List Edge). row l x) (cut_yes e f es h) ∙ row_cut_other es e x n ∙ sym (row_no f es x (rw z at n)))
    (λ h. ap (λ (l : List Edge). row l x) (cut_no e f es h) ∙ ⊎_elim
    (λ a. row_yes f (without e es) x a ∙ rw (row_cut_other es e x n, row_yes f es x a))
    (λ a. row_no f (without e es) x a ∙ rw (row_cut_other es e x n, row_no f es x a)) (either (eqb f.0 x)))
    (either (same_edge e f))

-- a cut takes one edge
pub without_length : (es : List Edge) (e : Edge) → repeated es ≡ false → Has es e → suc (length (without e es)) ≡ length es
unfolding repeated
without_length [] e r h = has_nil e h
without_length (f ∷ es) e r h =
    let w = or-false (present es f) (repeated es) r in
    ⊎_elim
    (λ z. let y : e ≡ f = same_edge_lem e f z in omega (arith, ap length (cut_yes e f es z), ap length (without_none es e (rw y w.0))))
    (λ z. omega (arith, ap length (cut_no e f es z), without_length es e w.1 (⊎_elim (λ y. absurd (contra (rw y (same_self f)) z)) (λ i. i) (has_cases e f es h))))
    (either (same_edge e f))

-- a cut takes as many edges as it takes targets out of the row
pub cut_count : (es : List Edge) (e : Edge) → length es + length (row (without e es) e.0) ≡ length (without e es) + length (row es e.0)
unfolding without filter
cut_count [] e = refl
cut_count (f ∷ es) e = ⊎_elim
    (λ h. let z : e ≡ f = same_edge_lem e f h in
    let here : eqb f.0 e.0 ≡ true = rw z (self f.0) in
    omega (arith, cut_count es e, ap length (cut_yes e f es h), ap (λ (l : List Edge). length (row l e.0)) (cut_yes e f es h), ap length (row_yes f es e.0 here)))
    (λ h. omega (
      arith,
      cut_count es e,
      ap length (cut_no e f es h),
      ap (λ (l : List Edge). length (row l e.0)) (cut_no e f es h),
      row_length f (without e es) e.0,
      row_length f es e.0,
    )) (either (same_edge e f))

-- an edge that is cut and added again is the newest of its row
pub row_again : (es : List Edge) (e : Edge) → row (without e es ++ (e ∷ [])) e.0 ≡ but e.1 (row es e.0) ++ (e.1 ∷ [])
row_again es e = row_add (without e es) e ∙ ap (λ (l : List ℕ). l ++ (e.1 ∷ [])) (row_cut es e)

-- ---- so the graphs that are searched before and after a change, of moves or of marks, agree but for the state that it names

-- a state that is not the one named
not_named : (s x : ℕ) → elem x (s ∷ []) ≡ false → x ≢ s
not_named s x o e = contra (rw e (in_head s [])) o

other_source : (e : Edge) (x : ℕ) → elem x (e.0 ∷ []) ≡ false → eqb e.0 x ≡ false
other_source e x o = ne_eqb e.0 x (λ z. not_named e.0 x o (sym z))

agree_but : (c : Change) (t : Table) → AgreeBut (named c) (graph_of t) (graph_of (apply c t)) (carried_by t.marks) (carried_by (apply c t).marks)
unfolding named apply
agree_but (add e) t = record { start = refl; edges = λ x o. sym (row_add_other t.edges e x (other_source e x o)); kinds = λ x o kind. refl }
agree_but (cut e) t = record { start = refl; edges = λ x o. sym (row_cut_other t.edges e x (other_source e x o)); kinds = λ x o kind. refl }
agree_but (mark s k) t = record { start = refl; edges = λ x o. refl; kinds = λ x o kind. sym (carried_other t.marks (k - 1) (λ words. with_mark words s) s (λ words. accepts_marked_other words s) kind x (not_named s x o)) }
agree_but (unmark s k) t = record { start = refl; edges = λ x o. refl; kinds = λ x o kind. sym (carried_other t.marks (k - 1) (λ words. without_mark words s) s (λ words. accepts_unmarked_other words s) kind x (not_named s x o)) }

pub agree_at : (c : Change) (t : Table) (x : ℕ) → elem (state_at (game_of t) x) (named c) ≡ false
    → ((searched t).successors x ≡ (searched (apply c t)).successors x) × ((searched t).accepting x ≡ (searched (apply c t)).accepting x)
unfolding apply
agree_at (add e) t = layers_agree_at t.size t.kinds _ _ _ _ _ (agree_but (add e) t)
agree_at (cut e) t = layers_agree_at t.size t.kinds _ _ _ _ _ (agree_but (cut e) t)
agree_at (mark s k) t = layers_agree_at t.size t.kinds _ _ _ _ _ (agree_but (mark s k) t)
agree_at (unmark s k) t = layers_agree_at t.size t.kinds _ _ _ _ _ (agree_but (unmark s k) t)

pub agree : (c : Change) (t : Table) → Agree (copies_in t (named c)) (searched t) (searched (apply c t))
unfolding apply
agree (add e) t = layers_agree t.size t.kinds _ _ _ _ _ (agree_but (add e) t)
agree (cut e) t = layers_agree t.size t.kinds _ _ _ _ _ (agree_but (cut e) t)
agree (mark s k) t = layers_agree t.size t.kinds _ _ _ _ _ (agree_but (mark s k) t)
agree (unmark s k) t = layers_agree t.size t.kinds _ _ _ _ _ (agree_but (unmark s k) t)
