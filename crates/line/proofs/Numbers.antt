-- Reading a number digit by digit gives what the definition says of the whole field. Assumes nothing.
use mathlib.Core.Path.{◌≡◌}
use mathlib.Core.List.{List}
use mathlib.Core.Bool.{true, false, ◌&&◌, cond, and-false}
use Prim.Native.Nat.{ℕ, ◌+◌, ◌*◌, ◌-◌, ◌≤◌, ◌<◌}
use native.Mathlib.Numerals.{add-one}
use native.Mathlib.Omega.{arith}
use borrow.Author.Tests.{leb-true, lt-ltb, le-ltb, le-leb, lt-leb}
use lib.Dec.{leb, ltb}
use lib.ListN.{length, get_or, drop, drop_of_length-le}
use lib.Seq.{drop-cons}
use Rattle.std.proofs.lemmas.Bool.{and_parts}
use Rattle.std.specs.Prelude.{Option, Some, None}
use Rattle.line.specs.Numbers.{all, is_digit, value_from, value, leading_zero, is_number, number_of}

-- ---- what is seen before the digits are read

pub number_empty : (limit : ℕ) (l : List ℕ) → length l ≡ 0 → None ≡ number_of limit l
unfolding number_of is_number
number_empty limit l h = rw (le-ltb 0 (length l) (omega arith))

pub number_long : (limit : ℕ) (l : List ℕ) → 5 < length l → None ≡ number_of limit l
unfolding number_of is_number
number_long limit l h = rw (lt-ltb 0 (length l) (omega arith), lt-leb (length l) 5 h)

pub number_zero : (limit : ℕ) (l : List ℕ) → leading_zero l ≡ true → None ≡ number_of limit l
unfolding number_of is_number
number_zero limit l e = rw (e, and-false (ltb 0 (length l) && leb (length l) 5))

-- ---- the digits

-- the digits of a list read behind the value v
unfoldable pub read_from : ℕ → ℕ → List ℕ → Option ℕ
read_from limit v l = cond (all is_digit l && leb (value_from v l) limit) (Some (value_from v l)) None

pub read_whole : (limit : ℕ) (l : List ℕ) → 0 < length l → length l ≤ 5 → leading_zero l ≡ false → read_from limit 0 l ≡ number_of limit l
unfolding read_from number_of is_number value
read_whole limit l h k e = rw (lt-ltb 0 (length l) h, le-leb (length l) 5 k, e)

pub read_other : (limit v : ℕ) (l : List ℕ) (i : ℕ) → i < length l → is_digit (get_or l i 0) ≡ false → read_from limit v (drop i l) ≡ None
unfolding read_from all
read_other limit v l i h e = rw (drop-cons l i 0 h, e)

pub digit_most : (b : ℕ) → is_digit b ≡ true → b ≤ 57
unfolding is_digit
digit_most b e = leb-true b 57 (and_parts (leb 48 b) (leb b 57) e).1

pub read_digit : (limit v : ℕ) (l : List ℕ) (i : ℕ) → i < length l → is_digit (get_or l i 0) ≡ true
    → read_from limit v (drop i l) ≡ read_from limit (v * 10 + (get_or l i 0 - 48)) (drop (i + 1) l)
unfolding read_from all value_from
read_digit limit v l i h e = rw (drop-cons l i 0 h, e, add-one)

pub read_end : (limit v : ℕ) (l : List ℕ) (i : ℕ) → length l ≤ i → v ≤ limit → read_from limit v (drop i l) ≡ Some v
unfolding read_from all value_from
read_end limit v l i h k = rw (drop_of_length-le l h, le-leb v limit k)

pub read_above : (limit v : ℕ) (l : List ℕ) (i : ℕ) → length l ≤ i → limit < v → read_from limit v (drop i l) ≡ None
unfolding read_from all value_from
read_above limit v l i h k = rw (drop_of_length-le l h, lt-leb v limit k)
