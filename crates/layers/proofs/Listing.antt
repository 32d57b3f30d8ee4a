-- Lists of numbers by their places, written from the first place on. Assumes nothing.
use mathlib.Core.Path.{◌≡◌, refl, sym, ap, ◌∙◌}
use mathlib.Core.List.{List, [], ◌∷◌, ◌++◌, append-nil}
use Prim.Native.Nat.{ℕ, zero, suc, ◌+◌, ◌≤◌, ◌<◌}
use native.Mathlib.Numerals.{add-one}
use native.Mathlib.Omega.{arith}
use lib.ListN.{length, get_or, set, take, drop, take-append-drop, drop_of_length-le}
use lib.Seq.{ext_get_or, length-take-le, get_or-take}
use Rattle.layers.specs.Layout.{listed}

-- n numbers are listed
pub listed_length : (n : ℕ) (f : ℕ → ℕ) → length (listed n f) ≡ n
unfolding listed
listed_length zero f = refl
listed_length (suc n) f = ap suc (listed_length n (λ i. f (suc i)))

-- each at its place
pub listed_at : (n : ℕ) (f : ℕ → ℕ) (i : ℕ) → i < n → get_or (listed n f) i 0 ≡ f i
unfolding listed
listed_at zero f i h = absurd (omega arith)
listed_at (suc n) f zero h = refl
listed_at (suc n) f (suc i) h = listed_at n (λ j. f (suc j)) i (omega arith)

-- a list is that of its numbers
pub listed_is : (xs : List ℕ) (n : ℕ) (f : ℕ → ℕ) → length xs ≡ n → ((i : ℕ) → i < n → f i ≡ get_or xs i 0) → listed n f ≡ xs
listed_is xs n f size same =
    ext_get_or 0 (listed n f) xs (listed_length n f ∙ sym size)
    (λ i h. let low : i < n = omega (arith, listed_length n f) in listed_at n f i low ∙ same i low)

-- and where they are its first ones, with those behind them
pub listed_front : (xs : List ℕ) (n : ℕ) (f : ℕ → ℕ) → n ≤ length xs → ((i : ℕ) → i < n → f i ≡ get_or xs i 0) → listed n f ++ drop n xs ≡ xs
listed_front xs n f size same =
    ap (λ ys. ys ++ drop n xs) (listed_is (take n xs) n f (length-take-le n xs size) (λ i h. same i h ∙ sym (get_or-take n xs i 0 h)))
    ∙ take-append-drop n xs

-- the first i numbers are written, the others are as they were
abbrev pub written : ℕ → (ℕ → ℕ) → List ℕ → List ℕ
written i f xs = listed i f ++ drop i xs

-- nothing is written
pub written_none : (f : ℕ → ℕ) (xs : List ℕ) → xs ≡ written 0 f xs
unfolding listed
written_none f xs = refl

-- one number more
written_more : (f : ℕ → ℕ) (xs : List ℕ) (i : ℕ) → i < length xs → set (written i f xs) i (f i) ≡ written (suc i) f xs
unfolding listed
written_more f [] i h = absurd (omega arith)
written_more f (x ∷ xs) zero h = refl
written_more f (x ∷ xs) (suc i) h = ap (λ ys. f 0 ∷ ys) (written_more (λ j. f (suc j)) xs i (omega arith))

-- all are
pub written_all : (f : ℕ → ℕ) (xs : List ℕ) (i : ℕ) → length xs ≤ i → written i f xs ≡ listed i f
written_all f xs i h = ap (λ ys. listed i f ++ ys) (drop_of_length-le xs h) ∙ append-nil (listed i f)

-- the next number is written
pub writes : (f : ℕ → ℕ) (xs ys : List ℕ) (i : ℕ) → ys ≡ written i f xs → i < length xs → (x : ℕ) → x ≡ f i → set ys i x ≡ written (i + 1) f xs
writes f xs ys i so_far h x e = (λ j. set (so_far j) i (e j)) ∙ written_more f xs i h ∙ ap (λ k. written k f xs) (sym (add-one i))
