-- Laws of bytes put in at a place, of decimal numbers, and of lines. Assumes nothing.
use mathlib.Core.Path.{◌≡◌, refl, sym, ap, ◌∙◌}
use mathlib.Core.List.{List, [], ◌∷◌, ◌++◌, append_assoc, append-nil}
use mathlib.Core.Bool.{Bool, true, false, and-false}
use Prim.Native.Nat.{ℕ, zero, suc, ◌+◌, ◌*◌, ◌-◌, ◌/◌, ◌%◌, ◌^◌, ◌≤◌, ◌<◌}
use native.Mathlib.Nat.{add_assoc, add-zero, zero-add, pow-suc}
use native.Mathlib.Decide.{dec_lt}
use native.Mathlib.Numerals.{add-one}
use native.Mathlib.Omega.{arith}
use borrow.Author.Tests.{lt-ltb, le-ltb, le-leb, ne_eqb}
use lib.Dec.{ltb}
use borrow.Rule.Slice.PartMut.{put_mid}
use lib.ListN.{length, get_or, take, drop, set, length-append, length-drop, take-append-drop}
use lib.Seq.{length-take-le, take-append_seam, drop-append-add, drop-drop, set_split}
use Rattle.plain.proofs.Tests.{and-true}
use Rattle.plain.specs.Machine.{numbered, at_line, game_line, round_line, none_line, no_line, ways_line, short_line, no_round_line}
use Rattle.line.specs.Fields.{bytes, newline}
use Rattle.line.specs.Numbers.{all, is_digit, value_from, value, leading_zero, is_number}
use Rattle.answer.specs.Bytes.{overwritten, Put}
use Rattle.answer.specs.Rendering.{digits_in, decimal, field_of, fields_of, line_of, render}

-- ---- bytes put in at a place

seam : (p r b : List ℕ) (n : ℕ) → length p ≡ n → take n (p ++ r) ++ (b ++ drop (n + length b) (p ++ r)) ≡ p ++ (b ++ drop (length b) r)
seam p r b n e = rw (← e, take-append_seam p r, drop-append-add p r (length b))

pub overwritten_append : (d : List ℕ) (at : ℕ) (a b : List ℕ) → at ≤ length d
    → overwritten (overwritten d at a) (at + length a) b ≡ overwritten d at (a ++ b)
unfolding overwritten
overwritten_append d at a b h =
    let e : length (take at d ++ a) ≡ at + length a = length-append (take at d) a ∙ ap (λ (k : ℕ). k + length a) (length-take-le at d h) in
    rw (← append_assoc (take at d) a (drop (at + length a) d))
    (seam (take at d ++ a) (drop (at + length a) d) b (at + length a) e
    ∙ rw (drop-drop (length b) (at + length a) d, length-append a b, ← add_assoc at (length a) (length b)) (simp append_assoc))

pub length_overwritten : (d : List ℕ) (at : ℕ) (bs : List ℕ) → at + length bs ≤ length d → length (overwritten d at bs) ≡ length d
unfolding overwritten
length_overwritten d at bs h =
    let k : at ≤ length d = omega arith in
    rw (length-append (take at d) _, length-append bs _, length-take-le at d k, length-drop (at + length bs) d) (omega arith)

pub put_then : (d : List ℕ) (at : ℕ) (a d1 : List ℕ) (r1 : ℕ) (b d2 : List ℕ) (r2 : ℕ) → at ≤ length d
    → Put d at a d1 r1 → Put d1 r1 b d2 r2 → Put d at (a ++ b) d2 r2
put_then d at a d1 r1 b d2 r2 h p q = record {
  next = omega (arith, p.next, q.next, length-append a b);
  made = q.made ∙ rw (p.made, p.next) (overwritten_append d at a b h);
}

pub put_none : (d : List ℕ) (at : ℕ) → Put d at [] d at
unfolding overwritten
put_none d at = record { next = omega arith; made = rw (add-zero at) (sym (take-append-drop at d)) }

pub put_set : (d : List ℕ) (at b : ℕ) → at < length d → Put d at (b ∷ []) (set d at b) (at + 1)
unfolding overwritten
put_set d at b h = record { next = refl; made = set_split d at b h ∙ rw (← add-one at) }

-- a copy over the part from `at` on that is as long as s
pub put_copied : (d : List ℕ) (at k : ℕ) (s t : List ℕ) → t ≡ s → k ≡ length s → Put d at s (put_mid at k d t) (at + length s)
unfolding overwritten
put_copied d at k s t e h = record { next = refl; made = rw (e, h, drop-drop (length s) at d) }

-- the first r bytes of a list into whose front bs were put
pub take_put : (d bs d' : List ℕ) (r : ℕ) → Put d 0 bs d' r → take r d' ≡ bs
unfolding overwritten
take_put d bs d' r p = rw (p.made, p.next, zero-add (length bs)) (take-append_seam bs (drop (length bs) d))

-- ---- decimal numbers

-- any first argument above the number gives the same digits
fuel : (f g n : ℕ) → n < f → n < g → digits_in f n ≡ digits_in g n
unfolding digits_in
fuel zero g n h k = absurd (omega arith)
fuel (suc f) zero n h k = absurd (omega arith)
fuel (suc f) (suc g) n h k = elim (dec_lt n 10) [
  | yes s ↦ rw (lt-ltb n 10 s)
  | no s ↦ rw (fuel f g (n / 10) (omega arith) (omega arith))
]

pub decimal_small : (n : ℕ) → n < 10 → decimal n ≡ (48 + n % 10) ∷ []
unfolding decimal digits_in
decimal_small n h = rw (lt-ltb n 10 h)

pub decimal_more : (n : ℕ) → 10 ≤ n → decimal n ≡ decimal (n / 10) ++ ((48 + n % 10) ∷ [])
unfolding decimal digits_in
decimal_more n h = rw (le-ltb n 10 h, fuel n (suc (n / 10)) (n / 10) (omega arith) (omega arith))

pub length_small : (n : ℕ) → n < 10 → length (decimal n) ≡ 1
length_small n h = rw (decimal_small n h)

pub length_more : (n : ℕ) → 10 ≤ n → length (decimal n) ≡ length (decimal (n / 10)) + 1
length_more n h = rw (decimal_more n h, length-append (decimal (n / 10)) _)

pub ruleset decimals = (decimal_small, length_small, length_more)

-- what holds of one digit, and of digits with one more behind them, holds of every decimal number
module _ (P : ℕ → List ℕ → Type 0) (one : (n : ℕ) → n < 10 → P n ((48 + n % 10) ∷ []))
    (more : (n : ℕ) (ds : List ℕ) → 10 ≤ n → P (n / 10) ds → P n (ds ++ ((48 + n % 10) ∷ []))) where
  by_digits_below : (f n : ℕ) → n < f → P n (decimal n)
  by_digits_below zero n h = absurd (omega arith)
  by_digits_below (suc f) n h = elim (dec_lt n 10) [
    | yes s ↦ rw (decimal_small n s) (one n s)
    | no s ↦
        let t : 10 ≤ n = omega arith in
        rw (decimal_more n t) (more n (decimal (n / 10)) t (by_digits_below f (n / 10) (omega arith)))
  ]

  by_digits : (n : ℕ) → P n (decimal n)
  by_digits n = by_digits_below (suc n) n (omega arith)

value_append : (v : ℕ) (xs ys : List ℕ) → value_from v (xs ++ ys) ≡ value_from (value_from v xs) ys
unfolding value_from
value_append v [] ys = refl
value_append v (x ∷ xs) ys = value_append (v * 10 + (x - 48)) xs ys

-- what is printed reads back as the number
pub decimal_value : (n : ℕ) → value (decimal n) ≡ n
unfolding value value_from
decimal_value =
    by_digits (λ n ds. value_from 0 ds ≡ n) (λ n h. omega arith)
    (λ n ds h e. value_append 0 ds ((48 + n % 10) ∷ []) ∙ omega (arith, e))

length_decimal : (n k : ℕ) → n < 10 ^ suc k → length (decimal n) ≤ suc k
length_decimal = by_digits (λ n ds. (k : ℕ) → n < 10 ^ suc k → length ds ≤ suc k) (λ n h k l. omega arith) further
  where
    further : (n : ℕ) (ds : List ℕ) → 10 ≤ n → ((k : ℕ) → n / 10 < 10 ^ suc k → length ds ≤ suc k)
        → (k : ℕ) → n < 10 ^ suc k → length (ds ++ ((48 + n % 10) ∷ [])) ≤ suc k
    further n ds h i zero l = absurd (omega arith)
    further n ds h i (suc k) l = omega (arith, length-append ds ((48 + n % 10) ∷ []), i k (omega (arith, pow-suc 10 (suc k))))

all_append : (p : ℕ → Bool) (xs ys : List ℕ) → all p xs ≡ true → all p ys ≡ true → all p (xs ++ ys) ≡ true
unfolding all
all_append p [] ys h k = k
all_append p (x ∷ xs) ys h k = rw ((and-true (p x) (all p xs) h).0, all_append p xs ys (and-true (p x) (all p xs) h).1 k)

digits : (n : ℕ) → all is_digit (decimal n) ≡ true
unfolding all is_digit
digits = by_digits (λ n ds. all is_digit ds ≡ true) (λ n h. one n) (λ n ds h e. all_append is_digit ds ((48 + n % 10) ∷ []) e (one n))
  where
    one : (n : ℕ) → all is_digit ((48 + n % 10) ∷ []) ≡ true
    one n = rw (le-leb 48 (48 + n % 10) (omega arith), le-leb (48 + n % 10) 57 (omega arith))

some_digit : (n : ℕ) → 0 < length (decimal n)
some_digit = by_digits (λ n ds. 0 < length ds) (λ n h. omega arith) (λ n ds h l. omega (arith, length-append ds ((48 + n % 10) ∷ [])))

-- the first digit of a number above 0 is not `0`
first_digit : (n : ℕ) → 0 < n → 48 < get_or (decimal n) 0 0
first_digit = by_digits (λ n ds. 0 < n → 48 < get_or ds 0 0) (λ n h p. omega arith) (λ n ds h i p. front ds ((48 + n % 10) ∷ []) (i (omega arith)))
  where
    front : (xs ys : List ℕ) → 48 < get_or xs 0 0 → 48 < get_or (xs ++ ys) 0 0
    front [] ys h = absurd (omega arith)
    front (x ∷ xs) ys h = h

no_leading_zero : (n : ℕ) → leading_zero (decimal n) ≡ false
unfolding leading_zero
no_leading_zero n = elim (dec_lt n 10) [
  | yes s ↦ rw (decimal_small n s)
  | no s ↦ rw (ne_eqb (get_or (decimal n) 0 0) 48 (λ e. omega (arith, e, first_digit n (omega arith)))) (and-false (ltb 1 (length (decimal n))))
]

-- what is printed is a number to the reader
pub decimal_number : (n : ℕ) → n ≤ 65535 → is_number 65535 (decimal n) ≡ true
unfolding is_number
decimal_number n h =
    rw (
      lt-ltb 0 (length (decimal n)) (some_digit n),
      le-leb (length (decimal n)) 5 (length_decimal n 4 (omega arith)),
      no_leading_zero n,
      digits n,
      decimal_value n,
      le-leb n 65535 h,
    )

-- ---- fields and lines

pub length_field : (n : ℕ) → length (field_of n) ≡ 1 + length (decimal n)
unfolding field_of
length_field n = omega arith

-- a tab and a number of 16 bits
field_short : (n : ℕ) → n < 65536 → length (field_of n) ≤ 6
field_short n h = omega (arith, length_field n, length_decimal n 4 (omega arith))

fields_short : (ns : List ℕ) → ((i : ℕ) → get_or ns i 0 < 65536) → length (fields_of ns) ≤ 6 * length ns
unfolding fields_of
fields_short [] h = omega arith
fields_short (n ∷ ns) h =
    omega (arith, length-append (field_of n) (fields_of ns), field_short n (h 0), fields_short ns (λ i. h (suc i)))

fields_append : (ms ns : List ℕ) → fields_of (ms ++ ns) ≡ fields_of ms ++ fields_of ns
unfolding fields_of
fields_append [] ns = refl
fields_append (m ∷ ms) ns = rw (fields_append ms ns) (sym (append_assoc (field_of m) (fields_of ms) (fields_of ns)))

-- the fields of the first i numbers, and of one more
fields_suc : (ns : List ℕ) (i : ℕ) → i < length ns → fields_of (take (suc i) ns) ≡ fields_of (take i ns) ++ field_of (get_or ns i 0)
unfolding fields_of
fields_suc [] i h = absurd (omega arith)
fields_suc (n ∷ ns) zero h = rw (append-nil (field_of n))
fields_suc (n ∷ ns) (suc i) h =
    let k : i < length ns = omega arith in
    rw (fields_suc ns i k, append_assoc (field_of n) (fields_of (take i ns)) (field_of (get_or ns i 0)))

pub fields_more : (ns : List ℕ) (i : ℕ) → i < length ns → fields_of (take (i + 1) ns) ≡ fields_of (take i ns) ++ field_of (get_or ns i 0)
fields_more ns i h = rw (add-one i) (fields_suc ns i h)

pub fields_none : (d : List ℕ) (at : ℕ) (ns : List ℕ) → Put d at (fields_of (take 0 ns)) d at
unfolding fields_of
fields_none d at ns = put_none d at

-- where all the fields fit, the next one does
pub fields_room : (ns : List ℕ) (i : ℕ) → i < length ns → length (fields_of (take i ns)) + length (field_of (get_or ns i 0)) ≤ length (fields_of ns)
fields_room ns i h =
    let whole : fields_of ns ≡ fields_of (take (i + 1) ns) ++ fields_of (drop (i + 1) ns) =
    ap fields_of (sym (take-append-drop (i + 1) ns)) ∙ fields_append (take (i + 1) ns) (drop (i + 1) ns) in
    omega (
      arith,
      ap length whole,
      length-append (fields_of (take (i + 1) ns)) (fields_of (drop (i + 1) ns)),
      ap length (fields_more ns i h),
      length-append (fields_of (take i ns)) (field_of (get_or ns i 0)),
    )

-- a line in the four parts that are put one behind the other
pub line_parts : (word head tail : List ℕ) → word ++ fields_of head ++ fields_of tail ++ (newline ∷ []) ≡ line_of word (head ++ tail)
unfolding line_of
line_parts word head tail = rw (fields_append head tail) (simp append_assoc)

pub length_parts : (word head tail : List ℕ)
    → length (line_of word (head ++ tail)) ≡ length word + length (fields_of head) + length (fields_of tail) + 1
length_parts word head tail = rw (← line_parts word head tail) (simp length-append)

pub length_line : (word ns : List ℕ) → ((i : ℕ) → get_or ns i 0 < 65536) → length (line_of word ns) ≤ length word + 6 * length ns + 1
unfolding line_of
length_line word ns h =
    omega (arith, length-append word (fields_of ns ++ (newline ∷ [])), length-append (fields_of ns) (newline ∷ []), fields_short ns h)

-- a list of numbers of 16 bits
record Short (ns : List ℕ) : Type 0 where
  below : (i : ℕ) → get_or ns i 0 < 65536

short_nil : Short []
short_nil = record { below = λ i. omega arith }

short_cons : {n : ℕ} {ns : List ℕ} → n < 65536 → Short ns → Short (n ∷ ns)
short_cons {n} {ns} h k = record { below = at }
  where
    at : (i : ℕ) → get_or (n ∷ ns) i 0 < 65536
    at zero = h
    at (suc i) = k.below i

pub length_game : (a b c : ℕ) → a < 65536 → b < 65536 → c < 65536 → length (render (game_line a b c)) ≤ 23
unfolding render bytes
length_game a b c p q r = length_line (bytes "game") (a ∷ b ∷ c ∷ []) (short_cons p (short_cons q (short_cons r short_nil))).below

pub length_round : (s k st c : ℕ) (walk : List ℕ) → s < 65536 → k < 65536 → st < 65536 → c < 65536
    → ((i : ℕ) → get_or walk i 0 < 65536) → length (render (round_line s k st c walk)) ≤ 30 + 6 * length walk
unfolding render bytes
length_round s k st c walk p q r t h =
    let all_short : Short (s ∷ k ∷ st ∷ c ∷ walk) = short_cons p (short_cons q (short_cons r (short_cons t (record { below = h })))) in
    omega (arith, length_line (bytes "round") (s ∷ k ∷ st ∷ c ∷ walk) all_short.below)

pub length_none : (s k : ℕ) → s < 65536 → k < 65536 → length (render (none_line s k)) ≤ 17
unfolding render bytes
length_none s k p q = length_line (bytes "none") (s ∷ k ∷ []) (short_cons p (short_cons q short_nil)).below

pub length_no : (n : ℕ) → n < 65536 → length (render (no_line (numbered n))) ≤ 9
unfolding render bytes
length_no n p = length_line (bytes "no") (n ∷ []) (short_cons p short_nil).below

pub length_no_at : (n i : ℕ) → n < 65536 → i < 65536 → length (render (no_line (record { number = n; position = at_line i }))) ≤ 15
unfolding render bytes
length_no_at n i p q = length_line (bytes "no") (n ∷ i ∷ []) (short_cons p (short_cons q short_nil)).below

pub length_ways : (s leaving entering : ℕ) → s < 65536 → leaving < 65536 → entering < 65536 → length (render (ways_line s leaving entering)) ≤ 23
unfolding render bytes
length_ways s leaving entering p q r = length_line (bytes "ways") (s ∷ leaving ∷ entering ∷ []) (short_cons p (short_cons q (short_cons r short_nil))).below

pub length_short : (best least : ℕ) → best < 65536 → least < 65536 → length (render (short_line best least)) ≤ 18
unfolding render bytes
length_short best least p q = length_line (bytes "short") (best ∷ least ∷ []) (short_cons p (short_cons q short_nil)).below

pub length_no_round : length (render no_round_line) ≤ 5
unfolding render bytes
length_no_round = length_line (bytes "none") [] short_nil.below
