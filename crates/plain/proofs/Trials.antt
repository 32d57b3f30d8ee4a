-- Refusals: the number handed back is the first whose condition holds, and only that. Assumes nothing.
use mathlib.Core.Path.{◌≡◌, refl, sym, ap, ◌∙◌}
use mathlib.Core.Logic.{◌≢◌, ⊎_elim}
use mathlib.Core.Bool.{Bool, true, false, cond}
use mathlib.Core.List.{List, [], ◌∷◌, ◌++◌, map}
use Prim.Native.Nat.{ℕ, ◌-◌}
use native.Mathlib.Omega.{arith}
use lib.Dec.{eqb, ltb}
use lib.ListN.{length}
use borrow.Author.Tests.{eqb-false}
use Rattle.plain.specs.Lists.{any, elem}
use Rattle.plain.specs.Search.{Edge}
use Rattle.plain.specs.Table.{Table, carried_by}
use Rattle.plain.specs.Refusals.{accepted, refused, first_held, pairs, present, bad_size, bad_start, bad_marks, bad_count, bad_kinds, outside, beyond, Load, load_trial}
use Rattle.plain.specs.Machine.{Change, add, cut, mark, unmark, conditions, misnamed, change_trial}
use Rattle.plain.specs.Claims.{Handed}
use Rattle.plain.proofs.Tests.{either, or-false, or_neither, none_cons}

-- a condition of a trial
abbrev Condition : Type 0
Condition = ℕ × Bool

abbrev holds : Condition → Bool
holds c = c.1

pub held_first : (c : Condition) (cs : List Condition) → c.1 ≡ true → first_held (c ∷ cs) ≡ refused c.0
unfolding first_held
held_first c cs e = rw (e, first_held)

pub held_later : (c : Condition) (cs : List Condition) → c.1 ≡ false → first_held (c ∷ cs) ≡ first_held cs
unfolding first_held
held_later c cs e = rw (e, first_held)

refused_not : (n : ℕ) → refused n ≡ accepted → ⊥
refused_not n e = let z : ◌≡◌ {A = ℕ} 0 1 = cc in omega arith

-- where a call is accepted, no condition holds
pub passed : (n : ℕ) (b : Bool) (cs : List Condition) → first_held ((n, b) ∷ cs) ≡ accepted → (b ≡ false) × (first_held cs ≡ accepted)
passed n b cs e = ⊎_elim
    (λ h. absurd (refused_not n (sym (held_first (n, b) cs h) ∙ e)))
    (λ h. (h, sym (held_later (n, b) cs h) ∙ e)) (either b)

-- the condition that stands with a number
abbrev pub condition_of : ℕ → List Condition → Bool
condition_of n [] = false
condition_of n (c ∷ cs) = cond (eqb n c.0) c.1 (condition_of n cs)

cond_false : (b x y : Bool) → x ≡ false → y ≡ false → cond b x y ≡ false
cond_false true x y f g = f
cond_false false x y f g = g

-- where a call is accepted, the condition of that number does not hold
pub unheld : (n : ℕ) (cs : List Condition) → first_held cs ≡ accepted → condition_of n cs ≡ false
unheld n [] e = refl
unheld n (c ∷ cs) e =
    let p = passed c.0 c.1 cs e in
    cond_false (eqb n c.0) c.1 (condition_of n cs) p.0 (unheld n cs p.1)

-- nor do those that stand behind others
pub passed_behind : (cs ds : List Condition) → first_held (cs ++ ds) ≡ accepted → first_held ds ≡ accepted
passed_behind [] ds e = e
passed_behind (c ∷ cs) ds e = passed_behind cs ds (passed c.0 c.1 (cs ++ ds) e).1

-- where none of the last ones holds, the first decide
pub last_free : (cs ds : List Condition) → first_held ds ≡ accepted → first_held (cs ++ ds) ≡ first_held cs
unfolding first_held
last_free [] ds f = f
last_free (c ∷ cs) ds f = ⊎_elim
    (λ h. held_first c (cs ++ ds) h ∙ sym (held_first c cs h))
    (λ h. held_later c (cs ++ ds) h ∙ last_free cs ds f ∙ sym (held_later c cs h)) (either c.1)

-- "a number is handed back when its condition holds and no earlier one .. does"
pub handed_when : (n : ℕ) (cs : List Condition) → Handed n cs → first_held cs ≡ refused n
handed_when n cs w = ap first_held w.tried ∙ skip w.earlier w.none_earlier
  where
    skip : (before : List Condition) → any holds before ≡ false → first_held (before ++ ((n, true) ∷ w.later)) ≡ refused n
    skip [] f = held_first (n, true) w.later refl
    skip (c ∷ before) f =
        let v = none_cons holds c before f in
        held_later c (before ++ ((n, true) ∷ w.later)) v.0 ∙ skip before v.1

-- "and only then"
pub handed_only : (n : ℕ) (cs : List Condition) → first_held cs ≡ refused n → Handed n cs
unfolding first_held any
handed_only n [] e = absurd (refused_not n (sym e))
handed_only n (c ∷ cs) e = ⊎_elim here (λ h. later h (handed_only n cs)) (either c.1)
  where
    here : c.1 ≡ true → Handed n (c ∷ cs)
    here h =
        let z : refused c.0 ≡ refused n = sym (held_first c cs h) ∙ e in
        let y : c.0 ≡ n = cc in
        let x : c ≡ (n, true) = λ i. (y i, h i) in
        record { earlier = []; later = cs; tried = ap (λ (d : Condition). d ∷ cs) x; none_earlier = refl }

    later : c.1 ≡ false → (first_held cs ≡ refused n → Handed n cs) → Handed n (c ∷ cs)
    later h below =
        let w = below (sym (held_later c cs h) ∙ e) in
        record {
          earlier = c ∷ w.earlier;
          later = w.later;
          tried = ap (λ (ds : List Condition). c ∷ ds) w.tried;
          none_earlier = or_neither c.1 (any holds w.earlier) h w.none_earlier;
        }

-- accepted exactly when no condition holds
pub accepted_when : (cs : List Condition) → any holds cs ≡ false → first_held cs ≡ accepted
unfolding first_held
accepted_when [] f = refl
accepted_when (c ∷ cs) f = let v = none_cons holds c cs f in held_later c cs v.0 ∙ accepted_when cs v.1

pub accepted_only : (cs : List Condition) → first_held cs ≡ accepted → any holds cs ≡ false
unfolding any
accepted_only [] e = refl
accepted_only (c ∷ cs) e = let v = passed c.0 c.1 cs e in or_neither c.1 (any holds cs) v.0 (accepted_only cs v.1)

-- ---- "refusal 7 no longer occurs"

-- a number that stands with no condition is never handed back
pub never_handed : (n : ℕ) (cs : List Condition) → elem n (map (λ (c : Condition). c.0) cs) ≡ false → first_held cs ≢ refused n
unfolding elem first_held
never_handed n [] f e = refused_not n (sym e)
never_handed n (c ∷ cs) f e =
    let w = or-false (eqb n c.0) (elem n (map (λ (d : Condition). d.0) cs)) f in
    ⊎_elim
    (λ h. let z : refused c.0 ≡ refused n = sym (held_first c cs h) ∙ e in let y : n ≡ c.0 = cc in eqb-false n c.0 w.0 y)
    (λ h. never_handed n cs w.1 (sym (held_later c cs h) ∙ e)) (either c.1)

pub load_never_7 : (l : Load) (room : ℕ) → load_trial l room ≢ refused 7
unfolding load_trial elem
load_never_7 l room = never_handed 7 _ refl

pub change_never_7 : (c : Change) (t : Table) (room : ℕ) → change_trial c t room ≢ refused 7
unfolding change_trial conditions elem
change_never_7 (add e) t room = never_handed 7 _ refl
change_never_7 (cut e) t room = never_handed 7 _ refl
change_never_7 (mark s kind) t room = never_handed 7 _ refl
change_never_7 (unmark s kind) t room = never_handed 7 _ refl

-- ---- orders that are easily mistaken

-- a state to be marked that carries the kind already: 13, however short the lent list is
pub marked_before_short : (t : Table) (s kind room : ℕ) → misnamed (mark s kind) ≡ false → ltb t.kinds kind ≡ false → beyond t.size s ≡ false → carried_by t.marks (kind - 1) s ≡ true
    → change_trial (mark s kind) t room ≡ refused 13
unfolding change_trial conditions
marked_before_short t s kind room m k f h = held_later _ _ m ∙ held_later _ _ k ∙ held_later _ _ f ∙ held_first _ _ h

-- a kind above K: 4, though the state is outside the game
pub kind_before_outside : (t : Table) (s kind room : ℕ) → misnamed (mark s kind) ≡ false → ltb t.kinds kind ≡ true → change_trial (mark s kind) t room ≡ refused 4
unfolding change_trial conditions
kind_before_outside t s kind room m h = held_later _ _ m ∙ held_first _ _ h

-- a present move added to a full table: 8, not 9
pub present_before_full : (t : Table) (e : Edge) (room : ℕ) → outside t.size e ≡ false → present t.edges e ≡ true → change_trial (add e) t room ≡ refused 8
unfolding change_trial conditions misnamed
present_before_full t e room f h = held_later _ _ refl ∙ held_later _ _ f ∙ held_first _ _ h

-- a cut of a move outside the game: 6, not 10
pub outside_before_absent : (t : Table) (e : Edge) (room : ℕ) → outside t.size e ≡ true → change_trial (cut e) t room ≡ refused 6
unfolding change_trial conditions misnamed
outside_before_absent t e room h = held_later _ _ refl ∙ held_first _ _ h

-- an odd list comes before a bad count of kinds: 5, not 16
pub count_before_kinds : (l : Load) (room : ℕ) → bad_size l.size ≡ false → bad_start l.size l.start ≡ false → bad_marks l.size l.kinds l.marks ≡ false → bad_count l.numbers ≡ true
    → load_trial l room ≡ refused 5
unfolding load_trial
count_before_kinds l room a b c h = held_later _ _ a ∙ held_later _ _ b ∙ held_later _ _ c ∙ held_first _ _ h

-- a loaded move that names a state outside comes before every repeated one, wherever they stand in the list
pub outside_before_repeated : (l : Load) (room : ℕ) → bad_size l.size ≡ false → bad_start l.size l.start ≡ false → bad_marks l.size l.kinds l.marks ≡ false → bad_count l.numbers ≡ false
    → bad_kinds l.kinds l.size (length (pairs l.numbers)) ≡ false → any (outside l.size) (pairs l.numbers) ≡ true → load_trial l room ≡ refused 6
unfolding load_trial
outside_before_repeated l room a b c d k h = held_later _ _ a ∙ held_later _ _ b ∙ held_later _ _ c ∙ held_later _ _ d ∙ held_later _ _ k ∙ held_first _ _ h
