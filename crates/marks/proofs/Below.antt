-- The numbers below a number that pass a test, in rising order: what one more number adds. Assumes nothing.
use mathlib.Core.Path.{◌≡◌, refl, sym, ap, ◌∙◌}
use mathlib.Core.Logic.{⊎_elim}
use mathlib.Core.Bool.{Bool, true, false}
use mathlib.Core.List.{List, [], ◌∷◌, ◌++◌, append-nil}
use Prim.Native.Nat.{ℕ, zero, suc, ◌≤◌}
use native.Mathlib.Omega.{arith}
use lib.ListN.{length, length-append}
use Rattle.plain.specs.Lists.{filter, below}
use Rattle.plain.proofs.Tests.{either, filter_yes, filter_no, filter_short}

length_below : (n : ℕ) → length (below n) ≡ n
unfolding below
length_below zero = refl
length_below (suc n) = omega (arith, length-append (below n) (n ∷ []), length_below n)

module _ (p : ℕ → Bool) where
  filter_end : (xs : List ℕ) (x : ℕ) → filter p (xs ++ (x ∷ [])) ≡ filter p xs ++ filter p (x ∷ [])
  unfolding filter
  filter_end [] x = refl
  filter_end (y ∷ xs) x = ⊎_elim
      (λ e. filter_yes p y (xs ++ (x ∷ [])) e ∙ ap (λ (l : List ℕ). y ∷ l) (filter_end xs x) ∙ ap (λ (l : List ℕ). l ++ filter p (x ∷ [])) (sym (filter_yes p y xs e)))
      (λ e. filter_no p y (xs ++ (x ∷ [])) e ∙ filter_end xs x ∙ ap (λ (l : List ℕ). l ++ filter p (x ∷ [])) (sym (filter_no p y xs e))) (either (p y))

  -- a number that passes stands behind those below it
  pub passed_more : (n : ℕ) → p n ≡ true → filter p (below (suc n)) ≡ filter p (below n) ++ (n ∷ [])
  unfolding below filter
  passed_more n e = filter_end (below n) n ∙ ap (λ (l : List ℕ). filter p (below n) ++ l) (filter_yes p n [] e)

  -- one that does not adds nothing
  pub passed_same : (n : ℕ) → p n ≡ false → filter p (below (suc n)) ≡ filter p (below n)
  unfolding below filter
  passed_same n e = filter_end (below n) n ∙ ap (λ (l : List ℕ). filter p (below n) ++ l) (filter_no p n [] e) ∙ append-nil (filter p (below n))

  pub passed_few : (n : ℕ) → length (filter p (below n)) ≤ n
  passed_few n = omega (arith, filter_short p (below n), length_below n)
