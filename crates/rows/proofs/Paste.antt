-- What stands where in a list into which another is pasted, and the loop that pastes. Assumes nothing.
use Prim.Native.Nat.{ℕ, zero, suc, ◌+◌, ◌-◌, ◌≤◌, ◌<◌}
use native.Mathlib.Nat.{not-suc-le-zero, le_of_suc-le-suc, sub_self}
use native.Mathlib.Omega.{arith}
use mathlib.Core.Path.{◌≡◌, refl, sym, ap, ◌∙◌}
use mathlib.Core.List.{List, [], ◌∷◌, ◌++◌, map, append_assoc}
use lib.ListN.{length, get_or, set, take, drop, get_or-append, get_or-eq_default}
use lib.Seq.{paste, paste-zero, paste-suc, drop-paste, take-paste, length-paste, length-take-le, get_or-drop, get_or-take, drop_at}

-- past its end a list reads 0
pub past : (xs : List ℕ) (n : ℕ) → length xs ≤ n → get_or xs n 0 ≡ 0
past xs n h = get_or-eq_default xs 0 h

pub same_place : (xs : List ℕ) {i j : ℕ} → i ≡ j → get_or xs i 0 ≡ get_or xs j 0
same_place xs e = ap (λ (k : ℕ). get_or xs k 0) e

pub get_d_map : (f : ℕ → ℕ) (xs : List ℕ) (i : ℕ) → i < length xs → get_or (map f xs) i 0 ≡ f (get_or xs i 0)
get_d_map f [] i h = absurd (not-suc-le-zero h)
get_d_map f (x ∷ xs) zero h = refl
get_d_map f (x ∷ xs) (suc i) h = get_d_map f xs i (le_of_suc-le-suc h)

-- ys is xs with the first n of s at a place
module _ (xs : List ℕ) (at : ℕ) (s : List ℕ) (n : ℕ) (ys : List ℕ) (new : ys ≡ paste xs at s n) (fits : at + n ≤ length xs) (enough : n ≤ length s) where
  pub paste_length : length ys ≡ length xs
  paste_length = ap length new ∙ length-paste xs at s n fits enough

  pub paste_before : (i : ℕ) → i < at → get_or ys i 0 ≡ get_or xs i 0
  paste_before i h =
      let len : length (take at xs) ≡ at = length-take-le at xs (omega arith) in
      ap (λ (l : List ℕ). get_or l i 0) (new ∙ append_assoc (take at xs) (take n s) (drop (at + n) xs))
      ∙ get_or-append (take at xs) (take n s ++ drop (at + n) xs) 0 i (omega arith)
      ∙ get_or-take at xs i 0 h

  pub paste_within : (i : ℕ) → at ≤ i → i < at + n → get_or ys i 0 ≡ get_or s (i - at) 0
  paste_within i l h =
      let e : i ≡ at + (i - at) = omega arith in
      sym (get_or-take (at + n) ys i 0 h)
      ∙ ap (λ (p : List ℕ). get_or p i 0) (ap (take (at + n)) new ∙ take-paste xs at s n (omega arith) enough)
      ∙ same_place (take at xs ++ take n s) e
      ∙ sym (get_or-drop at (take at xs ++ take n s) (i - at) 0)
      ∙ ap (λ (p : List ℕ). get_or p (i - at) 0) (drop_at (take at xs) (take n s) at (length-take-le at xs (omega arith)))
      ∙ get_or-take n s (i - at) 0 (omega arith)

  pub paste_behind : (i : ℕ) → at + n ≤ i → get_or ys i 0 ≡ get_or xs i 0
  paste_behind i h =
      let e : i ≡ at + n + (i - (at + n)) = omega arith in
      same_place ys e
      ∙ sym (get_or-drop (at + n) ys (i - (at + n)) 0)
      ∙ ap (λ (l : List ℕ). get_or l (i - (at + n)) 0) (ap (drop (at + n)) new ∙ drop-paste xs at s n (omega arith) enough)
      ∙ get_or-drop (at + n) xs (i - (at + n)) 0
      ∙ same_place xs (sym e)

-- a loop that pastes s from a place on begins
pub copy_begins : (xs : List ℕ) (at : ℕ) (s : List ℕ) → xs ≡ paste xs at s (at - at)
copy_begins xs at s = rw sub_self (paste-zero xs at s)

-- a turn of it, now at place j: what it reads ahead, and its store
module _ (xs : List ℕ) (at : ℕ) (s : List ℕ) (j : ℕ) (begun : at ≤ j) (short : j < length xs) (enough : j - at < length s) (ys : List ℕ) (done : ys ≡ paste xs at s (j - at)) where
  pub copy_reads : (i : ℕ) → j ≤ i → get_or ys i 0 ≡ get_or xs i 0
  copy_reads i h = paste_behind xs at s (j - at) ys done (omega arith) (omega arith) i (omega arith)

  pub copy_stores : (y : ℕ) → y ≡ get_or s (j - at) 0 → set ys j y ≡ paste xs at s (j + 1 - at)
  copy_stores y e =
      let place : j ≡ at + (j - at) = omega arith in
      let next : suc (j - at) ≡ j + 1 - at = omega arith in
      ap (λ (l : List ℕ). set l j y) done
      ∙ ap (λ (z : ℕ). set (paste xs at s (j - at)) j z) e
      ∙ ap (λ (m : ℕ). set (paste xs at s (j - at)) m (get_or s (j - at) 0)) place
      ∙ paste-suc xs at s (j - at) 0 (omega arith) enough
      ∙ ap (λ (m : ℕ). paste xs at s m) next
