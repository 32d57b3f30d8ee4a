-- The numbers below a number, in falling and in rising order; lists that rise. Assumes nothing.
use mathlib.Core.Path.{◌≡◌, refl}
use mathlib.Core.Logic.{◌≢◌, ⊎_elim}
use mathlib.Core.Bool.{Bool}
use mathlib.Core.List.{List, [], ◌∷◌, ◌++◌}
use Prim.Native.Nat.{ℕ, zero, suc, ◌≤◌, ◌<◌}
use native.Mathlib.Omega.{arith}
use lib.Dec.{eqb}
use lib.ListN.{length}
use borrow.Author.Tests.{eqb-false}
use Rattle.plain.specs.Lists.{filter, below, elem, In, Once, Rising}
use Rattle.plain.proofs.Tests.{either, same, not_in, in_nil, in_head, in_tail, in_cases, in_one, in_append, in_left, in_right, or_first, filter_yes, filter_no, filter_in}

unfoldable pub upto : ℕ → List ℕ
upto zero = []
upto (suc n) = n ∷ upto n

pub upto_in : (x n : ℕ) → x < n → In x (upto n)
unfolding upto elem
upto_in x zero h = absurd (omega arith)
upto_in x (suc n) h = ⊎_elim
    (λ e. or_first (eqb x n) (elem x (upto n)) e)
    (λ f. let ne : x ≢ n = eqb-false x n f in in_tail x n (upto n) (upto_in x n (omega arith))) (either (eqb x n))

pub in_upto : (x n : ℕ) → In x (upto n) → x < n
unfolding upto
in_upto x zero i = absurd (in_nil x i)
in_upto x (suc n) i = ⊎_elim (λ e. omega arith) (λ j. omega (arith, in_upto x n j)) (in_cases x n (upto n) i)

pub once_upto : (n : ℕ) → Once (upto n)
unfolding upto
once_upto zero = tt
once_upto (suc n) = (not_in n (upto n) (λ i. omega (arith, in_upto n n i)), once_upto n)

pub length_upto : (n : ℕ) → length (upto n) ≡ n
unfolding upto
length_upto zero = refl
length_upto (suc n) = omega (arith, length_upto n)

pub in_below : (x n : ℕ) → In x (below n) → x < n
unfolding below
in_below x zero i = absurd (in_nil x i)
in_below x (suc n) i = ⊎_elim (λ j. omega (arith, in_below x n j)) (λ j. omega (arith, in_one x n j)) (in_append x (below n) (n ∷ []) i)

pub below_in : (x n : ℕ) → x < n → In x (below n)
unfolding below
below_in x zero h = absurd (omega arith)
below_in x (suc n) h = ⊎_elim
    (λ e. let z : x ≡ n = same e in in_right x (below n) (n ∷ []) (rw z (in_head n [])))
    (λ f. let ne : x ≢ n = eqb-false x n f in in_left x (below n) (n ∷ []) (below_in x n (omega arith))) (either (eqb x n))

-- ---- lists that rise

-- a list that rises goes on rising with a number above all of it
rising_snoc : (xs : List ℕ) (n : ℕ) → Rising xs → ((x : ℕ) → In x xs → x < n) → Rising (xs ++ (n ∷ []))
rising_snoc [] n r above = (λ y i. absurd (in_nil y i), tt)
rising_snoc (x ∷ xs) n r above = (
  λ y i. ⊎_elim (r.0 y) (λ j. rw (in_one y n j) (above x (in_head x xs))) (in_append y xs (n ∷ []) i),
  rising_snoc xs n r.1 (λ y i. above y (in_tail y x xs i)),
)

pub rising_below : (n : ℕ) → Rising (below n)
unfolding below
rising_below zero = tt
rising_below (suc n) = rising_snoc (below n) n (rising_below n) (λ x i. in_below x n i)

pub rising_filter : (p : ℕ → Bool) (xs : List ℕ) → Rising xs → Rising (filter p xs)
unfolding filter
rising_filter p [] r = tt
rising_filter p (x ∷ xs) r = ⊎_elim
    (λ e. rw (filter_yes p x xs e) (λ y i. r.0 y (filter_in p y xs i).0, rising_filter p xs r.1))
    (λ e. rw (filter_no p x xs e) (rising_filter p xs r.1)) (either (p x))

-- the first is the least
rising_least : (x y : ℕ) (ys : List ℕ) → Rising (y ∷ ys) → In x (y ∷ ys) → y ≤ x
rising_least x y ys r i = ⊎_elim (λ e. omega arith) (λ j. omega (arith, r.0 x j)) (in_cases x y ys i)

-- and what is above it stands behind it
above_first : (x y : ℕ) (ys : List ℕ) → y < x → In x (y ∷ ys) → In x ys
above_first x y ys h i = ⊎_elim (λ e. absurd (omega arith)) (λ j. j) (in_cases x y ys i)

-- two lists that rise and have the same members are the same list
pub rising_same : (xs ys : List ℕ) → Rising xs → Rising ys → ((x : ℕ) → In x xs → In x ys) → ((x : ℕ) → In x ys → In x xs) → xs ≡ ys
rising_same [] [] r q to back = refl
rising_same [] (y ∷ ys) r q to back = absurd (in_nil y (back y (in_head y ys)))
rising_same (x ∷ xs) [] r q to back = absurd (in_nil x (to x (in_head x xs)))
rising_same (x ∷ xs) (y ∷ ys) r q to back =
    let e : x ≡ y = omega (arith, rising_least x y ys q (to x (in_head x xs)), rising_least y x xs r (back y (in_head y ys))) in
    let f : xs ≡ ys = rising_same xs ys r.1 q.1
    (λ z i. above_first z y ys (omega (arith, r.0 z i)) (to z (in_tail z x xs i)))
    (λ z i. above_first z x xs (omega (arith, q.0 z i)) (back z (in_tail z y ys i))) in
    λ i. e i ∷ f i
