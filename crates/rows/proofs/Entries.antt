-- Entries of a list from a place on; the row of a state; the place of an entry. Assumes nothing.
use Prim.Native.Nat.{ℕ, zero, suc, ◌+◌, ◌-◌, ◌≤◌, ◌<◌}
use native.Mathlib.Nat.{not-suc-le-zero, le_of_suc-le-suc}
use native.Mathlib.Omega.{arith}
use native.Mathlib.Numerals.{add-one}
use mathlib.Core.Path.{◌≡◌, refl, sym, ap, ◌∙◌}
use mathlib.Core.List.{List, [], ◌∷◌, ◌++◌}
use lib.ListN.{length, get_or, take, drop, drop_of_length-le, get_or-append}
use lib.Seq.{ext_get_or, drop-cons, take_at, drop_at}
use borrow.Author.Tests.{eq-eqb, ne_eqb}
use Rattle.rows.specs.Rows.{entries, degree_at, row_at, place_of, Compressed}
use Rattle.rows.proofs.Paste.{past, same_place}

pub entries_length : (n at : ℕ) (xs : List ℕ) → length (entries n at xs) ≡ n
unfolding entries
entries_length zero at xs = refl
entries_length (suc n) at xs = ap suc (entries_length n (suc at) xs)

pub entries_at : (n at : ℕ) (xs : List ℕ) (i : ℕ) → i < n → get_or (entries n at xs) i 0 ≡ get_or xs (at + i) 0
unfolding entries
entries_at zero at xs i h = absurd (not-suc-le-zero h)
entries_at (suc n) at xs zero h = same_place xs (omega arith)
entries_at (suc n) at xs (suc i) h =
    let e : suc at + i ≡ at + suc i = omega arith in
    entries_at n (suc at) xs i (le_of_suc-le-suc h) ∙ same_place xs e

-- the first ones
pub entries_first : (n : ℕ) (xs : List ℕ) (i : ℕ) → i < n → get_or xs i 0 ≡ get_or (entries n 0 xs) i 0
entries_first n xs i h = let e : 0 + i ≡ i = omega arith in sym (entries_at n 0 xs i h ∙ same_place xs e)

pub entries_same : (n p q : ℕ) (xs ys : List ℕ) → ((i : ℕ) → i < n → get_or xs (p + i) 0 ≡ get_or ys (q + i) 0) → entries n p xs ≡ entries n q ys
entries_same n p q xs ys f =
    let e : length (entries n p xs) ≡ n = entries_length n p xs in
    ext_get_or 0 (entries n p xs) (entries n q ys) (e ∙ sym (entries_length n q ys))
    (λ i h.
    let k : i < n = omega arith in
    entries_at n p xs i k ∙ f i k ∙ sym (entries_at n q ys i k))

-- the first n, then the m behind them
-- the first entries
pub entries_front : (xs ys : List ℕ) → entries (length xs) 0 (xs ++ ys) ≡ xs
entries_front xs ys = ext_get_or 0 (entries (length xs) 0 (xs ++ ys)) xs (entries_length (length xs) 0 (xs ++ ys))
    (λ i h. let k : i < length xs = omega (arith, h, entries_length (length xs) 0 (xs ++ ys)) in
    sym (entries_first (length xs) (xs ++ ys) i k) ∙ get_or-append xs ys 0 i k)

pub entries_add : (n m at : ℕ) (xs : List ℕ) → entries (n + m) at xs ≡ entries n at xs ++ entries m (at + n) xs
unfolding entries
entries_add zero m at xs =
    let e : 0 + m ≡ m = omega arith in
    let f : at ≡ at + 0 = omega arith in
    ap (λ (k : ℕ). entries k at xs) e ∙ ap (λ (p : ℕ). entries m p xs) f
entries_add (suc n) m at xs =
    let e : suc n + m ≡ suc (n + m) = omega arith in
    let f : suc at + n ≡ at + suc n = omega arith in
    ap (λ (k : ℕ). entries k at xs) e
    ∙ ap (λ (r : List ℕ). get_or xs at 0 ∷ r) (entries_add n m (suc at) xs ∙ ap (λ (p : ℕ). entries n (suc at) xs ++ entries m p xs) f)

module _ (n k : ℕ) (fits : k ≤ n) (at : ℕ) (xs : List ℕ) where
  split : entries n at xs ≡ entries k at xs ++ entries (n - k) (at + k) xs
  split = let e : n ≡ k + (n - k) = omega arith in ap (λ (m : ℕ). entries m at xs) e ∙ entries_add k (n - k) at xs

  pub entries_take : take k (entries n at xs) ≡ entries k at xs
  entries_take = ap (take k) split ∙ take_at (entries k at xs) (entries (n - k) (at + k) xs) k (entries_length k at xs)

  pub entries_drop : drop k (entries n at xs) ≡ entries (n - k) (at + k) xs
  entries_drop = ap (drop k) split ∙ drop_at (entries k at xs) (entries (n - k) (at + k) xs) k (entries_length k at xs)

-- entries up to a place: none, or the first and the rest
pub entries_none : (at stop : ℕ) (xs : List ℕ) → stop ≤ at → entries (stop - at) at xs ≡ []
unfolding entries
entries_none at stop xs h = let e : stop - at ≡ 0 = omega arith in ap (λ (n : ℕ). entries n at xs) e

pub entries_next : (at stop : ℕ) (xs : List ℕ) → at < stop → entries (stop - at) at xs ≡ get_or xs at 0 ∷ entries (stop - (at + 1)) (at + 1) xs
unfolding entries
entries_next at stop xs h =
    let e : stop - at ≡ suc (stop - (at + 1)) = omega arith in
    rw (e, add-one at)

-- The row of a state.

module _ (targets starts : List ℕ) where
  pub row_length : (v : ℕ) → length (row_at targets starts v) ≡ degree_at starts v
  unfolding row_at
  row_length v = entries_length (degree_at starts v) (get_or starts v 0) targets

  pub row_at_lem : (v k : ℕ) → k < degree_at starts v → get_or (row_at targets starts v) k 0 ≡ get_or targets (get_or starts v 0 + k) 0
  unfolding row_at
  row_at_lem v k h = entries_at (degree_at starts v) (get_or starts v 0) targets k h

  pub row_past : (v k : ℕ) → degree_at starts v ≤ k → get_or (row_at targets starts v) k 0 ≡ 0
  row_past v k h = past (row_at targets starts v) k (omega (arith, row_length v))

  -- a state of which no edge leaves
  pub row_none : (v : ℕ) → degree_at starts v ≡ 0 → row_at targets starts v ≡ []
  unfolding row_at entries
  row_none v e = ap (λ (n : ℕ). entries n (get_or starts v 0) targets) e

  -- no edge leaves a state of the size or above
  pub no_row : (size : ℕ) → Compressed size targets starts → (v : ℕ) → size ≤ v → row_at targets starts v ≡ []
  no_row size good v h = row_none v (omega (arith, good.behind (suc v) (omega arith)))

-- a row is another if it is as long and its entries are the same
pub row_same : (xs ss xs' ss' : List ℕ) (u : ℕ) → degree_at ss' u ≡ degree_at ss u → ((i : ℕ) → i < degree_at ss u → get_or xs' (get_or ss' u 0 + i) 0 ≡ get_or xs (get_or ss u 0 + i) 0) → row_at xs' ss' u ≡ row_at xs ss u
unfolding row_at
row_same xs ss xs' ss' u e f =
    ap (λ (n : ℕ). entries n (get_or ss' u 0) xs') e ∙ entries_same (degree_at ss u) (get_or ss' u 0) (get_or ss u 0) xs' xs f

-- The place of the first t.

module _ (t : ℕ) where
  place_here : (x : ℕ) (xs : List ℕ) → x ≡ t → place_of t (x ∷ xs) ≡ 0
  unfolding place_of
  place_here x xs e = rw (eq-eqb t x (sym e), place_of)

  place_later : (x : ℕ) (xs : List ℕ) → (x ≡ t → ⊥) → place_of t (x ∷ xs) ≡ suc (place_of t xs)
  unfolding place_of
  place_later x xs n = rw (ne_eqb t x (λ e. n (sym e)), place_of)

  place_none : place_of t [] ≡ 0
  unfolding place_of
  place_none = refl

  -- a walk along the list, now at entry k

  pub place_found : (xs : List ℕ) (k x : ℕ) → k < length xs → x ≡ get_or xs k 0 → x ≡ t → place_of t (drop k xs) ≡ 0
  place_found xs k x h r e = ap (place_of t) (drop-cons xs k 0 h) ∙ place_here (get_or xs k 0) (drop (suc k) xs) (sym r ∙ e)

  pub place_passed : (xs : List ℕ) (k x : ℕ) → k < length xs → x ≡ get_or xs k 0 → (x ≡ t → ⊥) → place_of t (drop k xs) ≡ suc (place_of t (drop (suc k) xs))
  place_passed xs k x h r n = ap (place_of t) (drop-cons xs k 0 h) ∙ place_later (get_or xs k 0) (drop (suc k) xs) (λ e. n (r ∙ e))

  pub place_end : (xs : List ℕ) (k : ℕ) → length xs ≤ k → place_of t (drop k xs) ≡ 0
  place_end xs k h = ap (place_of t) (drop_of_length-le xs {i = k} h) ∙ place_none
