-- The place of an entry of a list. Assumes nothing.
use mathlib.Core.Path.{◌≡◌, refl, sym, ap, ◌∙◌}
use mathlib.Core.Logic.{⊎_elim}
use mathlib.Core.Bool.{Bool, true, false, ◌||◌}
use mathlib.Core.List.{List, [], ◌∷◌, ◌++◌}
use Prim.Native.Nat.{ℕ, suc, ◌+◌}
use native.Mathlib.Omega.{arith}
use lib.Dec.{eqb, ltb, leb-suc-suc}
use lib.ListN.{length}
use borrow.Author.Tests.{lt-ltb}
use Rattle.plain.specs.Lists.{elem, In}
use Rattle.plain.proofs.Tests.{contra, either, or_true, or-false, in_nil}
use Rattle.rows.specs.Rows.{place_of}

pub place_hit : (y x : ℕ) (xs : List ℕ) → eqb y x ≡ true → place_of y (x ∷ xs) ≡ 0
unfolding place_of
place_hit y x xs e = rw (e, place_of)

pub place_miss : (y x : ℕ) (xs : List ℕ) → eqb y x ≡ false → place_of y (x ∷ xs) ≡ suc (place_of y xs)
unfolding place_of
place_miss y x xs e = rw (e, place_of)

placed_by : (b : Bool) (p n : ℕ) (e : Bool) → ltb p n ≡ e → ltb (elim b [ true ↦ 0 | false ↦ suc p ]) (suc n) ≡ b || e
placed_by true p n e h = lt-ltb 0 (suc n) (omega arith)
placed_by false p n e h = leb-suc-suc (suc p) n ∙ h

-- an entry has a place in the list exactly when it is there
pub has_place_lem : (t : ℕ) (xs : List ℕ) → ltb (place_of t xs) (length xs) ≡ elem t xs
unfolding place_of elem
has_place_lem t [] = refl
has_place_lem t (x ∷ xs) = placed_by (eqb t x) (place_of t xs) (length xs) (elem t xs) (has_place_lem t xs)

-- in the first of two lists, one behind the other, or in the second
pub place_front : (y : ℕ) (xs ys : List ℕ) → In y xs → place_of y (xs ++ ys) ≡ place_of y xs
unfolding elem
place_front y [] ys i = absurd (in_nil y i)
place_front y (x ∷ xs) ys i = ⊎_elim
    (λ e. place_hit y x (xs ++ ys) e ∙ sym (place_hit y x xs e))
    (λ f. ⊎_elim
    (λ e. absurd (contra e f))
    (λ j. place_miss y x (xs ++ ys) f ∙ ap suc (place_front y xs ys j) ∙ sym (place_miss y x xs f)) (or_true (eqb y x) (elem y xs) i))
    (either (eqb y x))

pub place_behind : (y : ℕ) (xs ys : List ℕ) → elem y xs ≡ false → place_of y (xs ++ ys) ≡ length xs + place_of y ys
unfolding elem
place_behind y [] ys f = omega arith
place_behind y (x ∷ xs) ys f =
    let w = or-false (eqb y x) (elem y xs) f in
    omega (arith, place_miss y x (xs ++ ys) w.0, place_behind y xs ys w.1)

pub same_test : (a b : Bool) → (a ≡ true → b ≡ true) → (b ≡ true → a ≡ true) → a ≡ b
same_test true b f g = sym (f refl)
same_test false true f g = g refl
same_test false false f g = refl
