-- The tables that a session can hold keep the limits of document 01. Assumes nothing.
use mathlib.Core.Path.{◌≡◌, refl, ap, ◌∙◌}
use mathlib.Core.Logic.{◌≢◌, ⊎_elim}
use mathlib.Core.Bool.{Bool, true, false, ◌&&◌, ◌||◌, not}
use mathlib.Core.List.{List, [], ◌∷◌, ◌++◌}
use Prim.Native.Nat.{ℕ, zero, suc, ◌+◌, ◌*◌, ◌-◌, ◌%◌, ◌≤◌, ◌<◌}
use native.Mathlib.Nat.{mul_comm, mul-le-mul_left, mul-le-mul_right}
use native.Mathlib.Omega.{arith}
use lib.Dec.{eqb, ltb, leb}
use lib.ListN.{length, length-append}
use borrow.Author.Tests.{ltb-false, leb-false, eqb-true, eqb-false, ne_eqb, le-ltb, lt-leb}
use Rattle.plain.specs.Lists.{any, any_below, filter}
use Rattle.plain.specs.Search.{Edge}
use Rattle.plain.specs.Table.{Table, accepts, carried_by, with_mark, without_mark}
use Rattle.plain.specs.Refusals.{accepted, pairs, same_edge, present, bad_size, bad_start, bad_marks, bad_count, bad_kinds, outside, repeated, beyond, full, short_room, Load, load_trial}
use Rattle.plain.specs.Machine.{Change, add, cut, mark, unmark, table_of, without, with_marks, in_kind, conditions, misnamed, apply, change_trial}
use Rattle.plain.specs.Claims.{Arises, loaded, changed}
use Rattle.plain.proofs.Tests.{contra, either, not-true, same, or-false, or_neither, any_cases, none_cons, filter_yes, filter_no, filter_short}
use Rattle.plain.proofs.Trials.{unheld, passed_behind}
use Rattle.plain.proofs.Edges.{same_edge_lem, same_self}
use Rattle.plain.proofs.Words.{accepts_marked_other, accepts_unmarked_other, carried_other_kind, carried_other}

-- what every table of a session keeps: none of the conditions for a refusal holds of it
pub record Valid (t : Table) : Type 0 where
  pub size_ok : bad_size t.size ≡ false
  pub start_ok : bad_start t.size t.start ≡ false
  pub marks_ok : bad_marks t.size t.kinds t.marks ≡ false
  pub some_kind : 0 < t.kinds
  pub four_kinds : t.kinds ≤ 4
  pub states_few : t.kinds * t.size ≤ 512
  pub moves_few : t.kinds * length t.edges ≤ 2048
  pub inside : any (outside t.size) t.edges ≡ false
  pub once : repeated t.edges ≡ false

-- ---- lists of edges

any_append : (p : Edge → Bool) (es : List Edge) (e : Edge) → any p es ≡ false → p e ≡ false → any p (es ++ (e ∷ [])) ≡ false
unfolding any
any_append p [] e f h = or_neither (p e) false h refl
any_append p (x ∷ es) e f h =
    let w = or-false (p x) (any p es) f in
    or_neither (p x) (any p (es ++ (e ∷ []))) w.0 (any_append p es e w.1 h)

any_filter : (p q : Edge → Bool) (es : List Edge) → any p es ≡ false → any p (filter q es) ≡ false
unfolding filter
any_filter p q [] f = f
any_filter p q (x ∷ es) f =
    let w = none_cons p x es f in
    ⊎_elim
    (λ h. rw (filter_yes q x es h) (not-true (any p (x ∷ filter q es)) (λ a. ⊎_elim (λ z. contra z w.0) (λ z. contra z (any_filter p q es w.1)) (any_cases p x (filter q es) a))))
    (λ h. rw (filter_no q x es h) (any_filter p q es w.1)) (either (q x))

same_sym : (e f : Edge) → same_edge e f ≡ false → same_edge f e ≡ false
same_sym e f n = not-true (same_edge f e) (λ h. let z : f ≡ e = same_edge_lem f e h in contra (rw z (same_self e)) n)

-- an edge more, that was not there
pub repeated_add : (es : List Edge) (e : Edge) → repeated es ≡ false → present es e ≡ false → repeated (es ++ (e ∷ [])) ≡ false
unfolding repeated present
repeated_add [] e r n = or_neither (any (same_edge e) []) false n refl
repeated_add (x ∷ es) e r n =
    let w = or-false (any (same_edge x) es) (repeated es) r in
    let v = none_cons (same_edge e) x es n in
    or_neither (any (same_edge x) (es ++ (e ∷ []))) (repeated (es ++ (e ∷ [])))
    (any_append (same_edge x) es e w.0 (same_sym e x v.0)) (repeated_add es e w.1 v.1)

repeated_filter : (q : Edge → Bool) (es : List Edge) → repeated es ≡ false → repeated (filter q es) ≡ false
unfolding repeated present filter
repeated_filter q [] r = refl
repeated_filter q (x ∷ es) r =
    let w = or-false (any (same_edge x) es) (repeated es) r in
    ⊎_elim
    (λ h. rw (filter_yes q x es h) (or_neither (any (same_edge x) (filter q es)) (repeated (filter q es)) (any_filter (same_edge x) q es w.0) (repeated_filter q es w.1)))
    (λ h. rw (filter_no q x es h) (repeated_filter q es w.1)) (either (q x))

-- a move has two numbers
pub length_pairs : (ns : List ℕ) → 2 * length (pairs ns) ≤ length ns
unfolding pairs
length_pairs [] = omega arith
length_pairs (a ∷ []) = omega arith
length_pairs (a ∷ b ∷ ns) = omega (arith, length_pairs ns)

-- a move that is not outside: both its states are inside
pub inside_both : (n : ℕ) (e : Edge) → outside n e ≡ false → (e.0 < n) × (e.1 < n)
unfolding outside
inside_both n e f = let w = or-false (leb n e.0) (leb n e.1) f in (leb-false n e.0 w.0, leb-false n e.1 w.1)

-- numbers for whole moves, and not too many
pub count_fine : (ns : List ℕ) → (length ns % 2 ≡ 1 → ⊥) → length ns ≤ 4096 → bad_count ns ≡ false
unfolding bad_count
count_fine ns e h = or_neither (eqb (length ns % 2) 1) (ltb 4096 (length ns)) (ne_eqb (length ns % 2) 1 e) (le-ltb 4096 (length ns) h)

-- ---- every table of a session is valid

-- the limits that kinds have to keep
pub record KindsFit (k n moves : ℕ) : Type 0 where
  pub some : 0 < k
  pub four : k ≤ 4
  pub states : k * n ≤ 512
  pub moves_fit : k * moves ≤ 2048

pub kinds_fit : (k n moves : ℕ) → bad_kinds k n moves ≡ false → KindsFit k n moves
unfolding bad_kinds
kinds_fit k n moves f =
    let a = or-false (eqb k 0) (ltb 4 k || (ltb 512 (n * k) || ltb 2048 (moves * k))) f in
    let b = or-false (ltb 4 k) (ltb 512 (n * k) || ltb 2048 (moves * k)) a.1 in
    let c = or-false (ltb 512 (n * k)) (ltb 2048 (moves * k)) b.1 in
    let some : k ≢ 0 = eqb-false k 0 a.0 in
    record {
      some = omega arith;
      four = ltb-false 4 k b.0;
      states = omega (arith, mul_comm k n, ltb-false 512 (n * k) c.0);
      moves_fit = omega (arith, mul_comm k moves, ltb-false 2048 (moves * k) c.1);
    }

pub fit_kinds : (k n moves : ℕ) → KindsFit k n moves → bad_kinds k n moves ≡ false
unfolding bad_kinds
fit_kinds k n moves h =
    or_neither (eqb k 0) (ltb 4 k || (ltb 512 (n * k) || ltb 2048 (moves * k))) (ne_eqb k 0 (λ z. omega (arith, h.some)))
    (or_neither (ltb 4 k) (ltb 512 (n * k) || ltb 2048 (moves * k)) (le-ltb 4 k h.four)
    (or_neither (ltb 512 (n * k)) (ltb 2048 (moves * k)) (le-ltb 512 (n * k) (omega (arith, mul_comm k n, h.states))) (le-ltb 2048 (moves * k) (omega (arith, mul_comm k moves, h.moves_fit)))))

valid_load : (l : Load) (room : ℕ) → load_trial l room ≡ accepted → Valid (table_of l)
unfolding load_trial table_of
valid_load l room e =
    let k = kinds_fit l.kinds l.size (length (pairs l.numbers)) (unheld 16 _ e) in record {
      size_ok = unheld 2 _ e;
      start_ok = unheld 3 _ e;
      marks_ok = unheld 4 _ e;
      some_kind = k.some;
      four_kinds = k.four;
      states_few = k.states;
      moves_few = k.moves_fit;
      inside = unheld 6 _ e;
      once = unheld 8 _ e;
    }

valid_add : (t : Table) (e : Edge) (room : ℕ) → Valid t → change_trial (add e) t room ≡ accepted → Valid (apply (add e) t)
unfolding change_trial conditions apply full
valid_add t e room v a = record {
  size_ok = v.size_ok;
  start_ok = v.start_ok;
  marks_ok = v.marks_ok;
  some_kind = v.some_kind;
  four_kinds = v.four_kinds;
  states_few = v.states_few;
  moves_few =
      let longer : length (t.edges ++ (e ∷ [])) ≡ length t.edges + 1 = length-append t.edges (e ∷ []) in
      omega (arith, ap (λ (n : ℕ). t.kinds * n) longer, mul_comm t.kinds (length t.edges + 1), ltb-false 2048 ((length t.edges + 1) * t.kinds) (unheld 9 _ a));
  inside = any_append (outside t.size) t.edges e v.inside (unheld 6 _ a);
  once = repeated_add t.edges e v.once (unheld 8 _ a);
}

valid_cut : (t : Table) (e : Edge) → Valid t → Valid (apply (cut e) t)
unfolding apply without
valid_cut t e v = record {
  size_ok = v.size_ok;
  start_ok = v.start_ok;
  marks_ok = v.marks_ok;
  some_kind = v.some_kind;
  four_kinds = v.four_kinds;
  states_few = v.states_few;
  moves_few = omega (arith, mul-le-mul_left t.kinds (filter_short (λ f. not (same_edge e f)) t.edges), v.moves_few);
  inside = any_filter (outside t.size) (λ f. not (same_edge e f)) t.edges v.inside;
  once = repeated_filter (λ f. not (same_edge e f)) t.edges v.once;
}

-- an accepted change's list has room for the walk
pub room_enough : (c : Change) (t : Table) (room : ℕ) → change_trial c t room ≡ accepted → t.size * t.kinds ≤ room
unfolding change_trial short_room
room_enough c t room e = ltb-false room (t.size * t.kinds) (unheld 11 _ (passed_behind ((1, misnamed c) ∷ conditions c t) _ e))

-- a change leaves the size, the start state and the count of kinds
pub changed_size : (c : Change) (t : Table) → (apply c t).size ≡ t.size
unfolding apply
changed_size (add e) t = refl
changed_size (cut e) t = refl
changed_size (mark s kind) t = refl
changed_size (unmark s kind) t = refl

pub changed_start : (c : Change) (t : Table) → (apply c t).start ≡ t.start
unfolding apply
changed_start (add e) t = refl
changed_start (cut e) t = refl
changed_start (mark s kind) t = refl
changed_start (unmark s kind) t = refl

pub changed_kinds : (c : Change) (t : Table) → (apply c t).kinds ≡ t.kinds
unfolding apply
changed_kinds (add e) t = refl
changed_kinds (cut e) t = refl
changed_kinds (mark s kind) t = refl
changed_kinds (unmark s kind) t = refl

-- A state's mark of one kind is switched, set or cleared: no mark is set outside, where that state and that kind are inside.
valid_switch : (t : Table) (s kind : ℕ) (f : List ℕ → List ℕ) → Valid t → kind < t.kinds → beyond t.size s ≡ false → ((words : List ℕ) (x : ℕ) → x ≢ s → accepts (f words) x ≡ accepts words x)
    → Valid (with_marks t (in_kind kind f t.marks))
unfolding bad_marks beyond
valid_switch t s kind f v low inside others = record {
  size_ok = v.size_ok;
  start_ok = v.start_ok;
  marks_ok = (λ i. any_below 4 (λ j. any_below 512 (λ x. same_mark j x i))) ∙ v.marks_ok;
  some_kind = v.some_kind;
  four_kinds = v.four_kinds;
  states_few = v.states_few;
  moves_few = v.moves_few;
  inside = v.inside;
  once = v.once;
}
  where
    marks : List (List ℕ)
    marks = in_kind kind f t.marks

    -- the state and the kind that are switched
    here : (j x : ℕ) → x ≡ s → j ≡ kind → ((leb t.size x || leb t.kinds j) && carried_by marks j x) ≡ ((leb t.size x || leb t.kinds j) && carried_by t.marks j x)
    here j x e g = rw (e, g, inside, lt-leb t.kinds kind low)

    same_mark : (j x : ℕ) → ((leb t.size x || leb t.kinds j) && carried_by marks j x) ≡ ((leb t.size x || leb t.kinds j) && carried_by t.marks j x)
    same_mark j x = ⊎_elim
        (λ e. ⊎_elim
        (λ g. here j x (same e) (same g))
        (λ g. ap (λ (b : Bool). (leb t.size x || leb t.kinds j) && b) (carried_other_kind t.marks kind f j x (eqb-false j kind g))) (either (eqb j kind)))
        (λ e. ap (λ (b : Bool). (leb t.size x || leb t.kinds j) && b) (carried_other t.marks kind f s others j x (eqb-false x s e))) (either (eqb x s))

-- a kind that is named rightly and not above K is one of the K
kind_below : (t : Table) (kind : ℕ) → Valid t → (eqb kind 0 || ltb 4 kind) ≡ false → ltb t.kinds kind ≡ false → kind - 1 < t.kinds
kind_below t kind v m k =
    let z : kind ≢ 0 = eqb-false kind 0 (or-false (eqb kind 0) (ltb 4 kind) m).0 in
    omega (arith, ltb-false t.kinds kind k)

pub valid_change : (c : Change) (t : Table) (room : ℕ) → Valid t → change_trial c t room ≡ accepted → Valid (apply c t)
unfolding change_trial conditions misnamed apply
valid_change (add e) t room v a = valid_add t e room v a
valid_change (cut e) t room v a = valid_cut t e v
valid_change (mark s kind) t room v a = valid_switch t s (kind - 1) (λ words. with_mark words s) v (kind_below t kind v (unheld 1 _ a) (unheld 4 _ a)) (unheld 6 _ a) (λ words. accepts_marked_other words s)
valid_change (unmark s kind) t room v a = valid_switch t s (kind - 1) (λ words. without_mark words s) v (kind_below t kind v (unheld 1 _ a) (unheld 4 _ a)) (unheld 6 _ a) (λ words. accepts_unmarked_other words s)

pub valid : (t : Table) → Arises t → Valid t
valid t (loaded l room e) = valid_load l room e
valid t (changed u c room a e) = valid_change c u room (valid u a) e

-- its kinds fit it
pub valid_fits : (t : Table) → Valid t → KindsFit t.kinds t.size (length t.edges)
valid_fits t v = record { some = v.some_kind; four = v.four_kinds; states = v.states_few; moves_fit = v.moves_few }

-- and it has no more moves than a game of one kind can have
pub edges_most : (t : Table) → Valid t → length t.edges ≤ 2048
edges_most t v = let k : 1 ≤ t.kinds = omega (arith, v.some_kind) in omega (arith, v.moves_few, mul-le-mul_right (length t.edges) k)

-- a change whose move lies inside the game; of a mark nothing is asked
abbrev pub Within : Change → ℕ → Type 0
Within (add e) n = outside n e ≡ false
Within (cut e) n = outside n e ≡ false
Within (mark s kind) n = Unit {0}
Within (unmark s kind) n = Unit {0}

pub change_within : (c : Change) (t : Table) (room : ℕ) → change_trial c t room ≡ accepted → Within c t.size
unfolding change_trial conditions
change_within (add e) t room a = unheld 6 _ a
change_within (cut e) t room a = unheld 6 _ a
change_within (mark s kind) t room a = tt
change_within (unmark s kind) t room a = tt

-- ---- the marks of a table lie below its count of states

below_false : (p : ℕ → Bool) (n s : ℕ) → any_below n p ≡ false → s < n → p s ≡ false
unfolding any_below
below_false p zero s f h = absurd (omega arith)
below_false p (suc n) s f h =
    let w = or-false (p n) (any_below n p) f in
    ⊎_elim (λ e. ap p (eqb-true s n e) ∙ w.0) (λ e. let ne : s ≢ n = eqb-false s n e in below_false p n s w.1 (omega arith)) (either (eqb s n))

-- a mark that is set lies below the count of states, and its kind below the count of kinds
pub carried_few : (t : Table) → Valid t → (kind s : ℕ) → kind < 4 → s < 512 → carried_by t.marks kind s ≡ true → (s < t.size) × (kind < t.kinds)
unfolding bad_marks
carried_few t v kind s k h e =
    let f = below_false (λ x. (leb t.size x || leb t.kinds kind) && carried_by t.marks kind x) 512 s (below_false (λ j. any_below 512 (λ x. (leb t.size x || leb t.kinds j) && carried_by t.marks j x)) 4 kind v.marks_ok k) h in
    let w = or-false (leb t.size s) (leb t.kinds kind) (first (leb t.size s || leb t.kinds kind) (carried_by t.marks kind s) f e) in
    (leb-false t.size s w.0, leb-false t.kinds kind w.1)
  where
    first : (a b : Bool) → a && b ≡ false → b ≡ true → a ≡ false
    first true b f g = absurd (contra g f)
    first false b f g = refl
