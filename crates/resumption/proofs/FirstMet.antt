-- The first of some states that a search discovered, read off their numbers. Assumes nothing.
use mathlib.Core.Path.{◌≡◌, refl, sym, ap, ◌∙◌}
use mathlib.Core.Logic.{⊎_elim}
use mathlib.Core.Bool.{Bool, true, false, cond}
use mathlib.Core.List.{List, [], ◌∷◌, ◌++◌}
use Prim.Native.Nat.{ℕ, ◌≤◌, ◌<◌}
use native.Mathlib.Omega.{arith}
use lib.Dec.{eqb, ltb}
use lib.ListN.{get_or}
use borrow.Author.Tests.{eq-eqb, ne_eqb, lt-ltb, le-ltb, ltb-true, ltb-false, eqb-false}
use Rattle.plain.specs.Lists.{In}
use Rattle.plain.proofs.Tests.{either, same, in_nil, in_head, in_tail, in_cases}
use Rattle.look.specs.Numbers.{no_number}
use Rattle.std.specs.Prelude.{None, Some}
use Rattle.resumption.specs.declared.First.{First}
use Rattle.resumption.specs.Model.{first_of, taken_up_at, earliest_of}

-- ---- laws of the definition

module _ (number : List ℕ) (first : First) where
  first_less : (v : ℕ) (vs : List ℕ) → ltb (get_or number v 0) first.number ≡ true → first_of first (v ∷ vs) number ≡ first_of (record { number = get_or number v 0; copy = v }) vs number
  unfolding first_of
  first_less v vs e = ap (λ (b : Bool). first_of (cond b (record { number = get_or number v 0; copy = v }) first) vs number) e

  first_stays : (v : ℕ) (vs : List ℕ) → ltb (get_or number v 0) first.number ≡ false → first_of first (v ∷ vs) number ≡ first_of first vs number
  unfolding first_of
  first_stays v vs e = ap (λ (b : Bool). first_of (cond b (record { number = get_or number v 0; copy = v }) first) vs number) e

  pub taken_none : first.number ≡ no_number → taken_up_at first ≡ None
  taken_none e = ap (λ (b : Bool). cond b None (Some first.copy)) (eq-eqb first.number no_number e)

  pub taken_at : (first.number ≡ no_number → ⊥) → taken_up_at first ≡ Some first.copy
  taken_at n = ap (λ (b : Bool). cond b None (Some first.copy)) (ne_eqb first.number no_number n)

-- a turn: the first of some copies, with the one at hand
module _ (number : List ℕ) (first : First) (v n : ℕ) (vs : List ℕ) (e : n ≡ get_or number v 0) where
  pub turn_less : n < first.number → first_of (record { number = n; copy = v }) vs number ≡ first_of first (v ∷ vs) number
  turn_less h =
      ap (λ (k : ℕ). first_of (record { number = k; copy = v }) vs number) e
      ∙ sym (first_less number first v vs (lt-ltb (get_or number v 0) first.number (omega (arith, e))))

  pub turn_stays : first.number ≤ n → first_of first vs number ≡ first_of first (v ∷ vs) number
  turn_stays h = sym (first_stays number first v vs (le-ltb (get_or number v 0) first.number (omega (arith, e))))

-- one list behind the other
pub first_append : (number : List ℕ) (first : First) (vs ws : List ℕ) → first_of first (vs ++ ws) number ≡ first_of (first_of first vs number) ws number
unfolding first_of
first_append number first [] ws = refl
first_append number first (v ∷ vs) ws = first_append number (cond (ltb (get_or number v 0) first.number) (record { number = get_or number v 0; copy = v }) first) vs ws

-- ---- it is the state whose number is less than that of every other one

module _ (number : List ℕ) (s : ℕ) where
  abbrev number_of : ℕ → ℕ
  number_of x = get_or number x 0

  -- no other state of the list has a number that is no higher
  abbrev pub Least : List ℕ → Type 0
  Least ss = (x : ℕ) → In x ss → number_of x ≤ number_of s → x ≡ s

  -- it has been come to
  come_to : (first : First) (ss : List ℕ) → first.number ≡ number_of s → first.copy ≡ s → number_of s < no_number → Least ss → taken_up_at (first_of first ss number) ≡ Some s
  unfolding first_of
  come_to first [] e f h l = taken_at number first (λ z. omega (arith, e, z)) ∙ ap Some f
  come_to first (x ∷ ss) e f h l = ⊎_elim
      (λ k. let z : x ≡ s = l x (in_head x ss) (omega (arith, e, ltb-true (number_of x) first.number k)) in
      absurd (omega (arith, e, ltb-true (number_of x) first.number k, ap number_of z)))
      (λ k. ap taken_up_at (first_stays number first x ss k) ∙ come_to first ss e f h (λ y i. l y (in_tail y x ss i))) (either (ltb (number_of x) first.number))

  -- it stands further on
  to_come : (first : First) (ss : List ℕ) → number_of s < first.number → number_of s < no_number → In s ss → Least ss → taken_up_at (first_of first ss number) ≡ Some s
  to_come first [] b h i l = absurd (in_nil s i)
  to_come first (x ∷ ss) b h i l = ⊎_elim here (λ k. there k (λ m. to_come m ss)) (either (eqb s x))
    where
      rest : Least ss
      rest y j = l y (in_tail y x ss j)

      here : eqb s x ≡ true → taken_up_at (first_of first (x ∷ ss) number) ≡ Some s
      here k =
          let z : s ≡ x = same k in
          ap taken_up_at (first_less number first x ss (lt-ltb (number_of x) first.number (omega (arith, ap number_of z))))
          ∙ come_to (record { number = number_of x; copy = x }) ss (ap number_of (sym z)) (sym z) h rest

      there : eqb s x ≡ false → ((m : First) → number_of s < m.number → number_of s < no_number → In s ss → Least ss → taken_up_at (first_of m ss number) ≡ Some s) → taken_up_at (first_of first (x ∷ ss) number) ≡ Some s
      there k below =
          let j : In s ss = ⊎_elim (λ z. absurd (eqb-false s x k z)) (λ j. j) (in_cases s x ss i) in
          ⊎_elim
          (λ m. ap taken_up_at (first_less number first x ss m) ∙ below (record { number = number_of x; copy = x }) (⊎_elim
          (ltb-true (number_of s) (number_of x)) (λ q. absurd (eqb-false s x k (sym (l x (in_head x ss) (ltb-false (number_of s) (number_of x) q))))) (either (ltb (number_of s) (number_of x)))) h j rest)
          (λ m. ap taken_up_at (first_stays number first x ss m) ∙ below first b h j rest) (either (ltb (number_of x) first.number))

  pub earliest_is : (ss : List ℕ) → number_of s < no_number → In s ss → Least ss → earliest_of ss number ≡ Some s
  earliest_is ss h i l = to_come (record { number = no_number; copy = 0 }) ss h h i l
