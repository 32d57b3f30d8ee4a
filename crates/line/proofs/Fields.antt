-- What stands before a byte, and a list as the part before it and the parts behind it: the same for lines and for fields. Assumes nothing.
use mathlib.Core.Path.{◌≡◌, refl, sym, ap, ◌∙◌}
use mathlib.Core.List.{List, [], ◌∷◌}
use mathlib.Core.Bool.{Bool, true, false, not, cond}
use Prim.Native.Nat.{ℕ, suc, ◌+◌, ◌-◌, ◌≤◌, ◌<◌}
use native.Mathlib.Decide.{dec_lt}
use native.Mathlib.Omega.{arith}
use borrow.Author.Tests.{lt-ltb, le-ltb}
use lib.Dec.{eqb, ltb}
use lib.ListN.{length, take, drop, length-drop, drop_of_length-le}
use lib.Seq.{drop-drop, length-take-le}
use Rattle.std.specs.Prelude.{Option, Some, None, position}
use Rattle.std.specs.List.{position_or_len}
use Rattle.std.specs.Option.{unwrap_or}
use Rattle.line.specs.Fields.{tab, newline, on_first, parted, lines_of, fields_of, up_to, field_at}

-- ---- what stands before a byte, from a place on

one_more : (t : Bool) (n m : ℕ) → n ≤ m → cond t 0 (suc n) ≤ suc m
one_more true n m h = omega arith
one_more false n m h = omega arith

pub up_to_le : (b : ℕ) (l : List ℕ) → up_to b l ≤ length l
unfolding up_to
up_to_le b [] = omega arith
up_to_le b (x ∷ xs) = one_more (eqb x b) (up_to b xs) (length xs) (up_to_le b xs)

-- std's word for it
up_to_position : (b : ℕ) (l : List ℕ) → position_or_len (λ x. eqb x b) l ≡ up_to b l
unfolding up_to
up_to_position b [] = refl
up_to_position b (x ∷ xs) = by_test (eqb x b) (up_to_position b xs)
  where
    by_test : (t : Bool) → position_or_len (λ x. eqb x b) xs ≡ up_to b xs → cond (not t) (1 + position_or_len (λ x. eqb x b) xs) 0 ≡ cond t 0 (suc (up_to b xs))
    by_test true e = refl
    by_test false e = omega (arith, e)

-- the place of the first b, or the length
pub first_stop : (b : ℕ) (l : List ℕ) (o : Option ℕ) → o ≡ position (λ x. eqb x b) l → unwrap_or o (length l) ≡ up_to b l
first_stop b l o e = ap (λ (p : Option ℕ). unwrap_or p (length l)) (e ∙ ap (λ (n : ℕ). cond (ltb n (length l)) (Some n) None) (up_to_position b l)) ∙ within_length
  where
    within_length : unwrap_or (cond (ltb (up_to b l) (length l)) (Some (up_to b l)) None) (length l) ≡ up_to b l
    within_length = elim (dec_lt (up_to b l) (length l)) [
      | yes h ↦ rw (lt-ltb (up_to b l) (length l) h)
      | no h ↦ rw (le-ltb (up_to b l) (length l) (omega arith)) (omega (arith, up_to_le b l))
    ]

pub end_within : (b : ℕ) (l : List ℕ) (from e : ℕ) → from ≤ length l → e ≡ from + up_to b (drop from l) → e ≤ length l
end_within b l from e h k = omega (arith, up_to_le b (drop from l), length-drop from l)

-- ---- the parts of a list

-- the parts behind the byte at a place; none where the place is the list's end
unfoldable pub behind : ℕ → List (List ℕ) → List ℕ → ℕ → List (List ℕ)
behind b last l n = cond (ltb n (length l)) (parted b last (drop (n + 1) l)) []

pub behind_none : (b : ℕ) (last : List (List ℕ)) (l : List ℕ) (n : ℕ) → length l ≤ n → behind b last l n ≡ []
unfolding behind
behind_none b last l n h = rw (le-ltb n (length l) h)

pub behind_some : (b : ℕ) (last : List (List ℕ)) (l : List ℕ) (n : ℕ) → n < length l → behind b last l n ≡ parted b last (drop (n + 1) l)
unfolding behind
behind_some b last l n h = rw (lt-ltb n (length l) h)

-- counted from a place of a longer list
behind_drop : (b : ℕ) (last : List (List ℕ)) (l : List ℕ) (from n : ℕ) → from ≤ length l → behind b last (drop from l) n ≡ behind b last l (from + n)
behind_drop b last l from n k = elim (dec_lt (from + n) (length l)) [
  | yes h ↦
      let e : from + (n + 1) ≡ from + n + 1 = omega arith in
      behind_some b last (drop from l) n (omega (arith, length-drop from l)) ∙ rw (drop-drop (n + 1) from l, e, behind_some b last l (from + n) h)
  | no h ↦ behind_none b last (drop from l) n (omega (arith, length-drop from l)) ∙ sym (behind_none b last l (from + n) (omega arith))
]

-- what is left at the end adds nothing to a part that is begun
abbrev pub Neutral : List (List ℕ) → Type 0
Neutral last = (x : ℕ) → on_first x last ≡ (x ∷ []) ∷ []

first_step : (b : ℕ) (last : List (List ℕ)) (x y : ℕ) (ys : List ℕ) (t : Bool)
    → parted b last (y ∷ ys) ≡ take (up_to b (y ∷ ys)) (y ∷ ys) ∷ behind b last (y ∷ ys) (up_to b (y ∷ ys))
    → cond t ([] ∷ parted b last (y ∷ ys)) (on_first x (parted b last (y ∷ ys)))
    ≡ take (cond t 0 (suc (up_to b (y ∷ ys)))) (x ∷ y ∷ ys) ∷ behind b last (x ∷ y ∷ ys) (cond t 0 (suc (up_to b (y ∷ ys))))
unfolding on_first
first_step b last x y ys true h = rw (behind_some b last (x ∷ y ∷ ys) 0 (omega arith))
first_step b last x y ys false h =
    let e : 1 + up_to b (y ∷ ys) ≡ suc (up_to b (y ∷ ys)) = omega arith in
    rw (h, sym e, sym (behind_drop b last (x ∷ y ∷ ys) 1 (up_to b (y ∷ ys)) (omega arith)))

first_alone : (b : ℕ) (last : List (List ℕ)) (x : ℕ) (t : Bool) → Neutral last
    → cond t ([] ∷ last) (on_first x last) ≡ take (cond t 0 1) (x ∷ []) ∷ behind b last (x ∷ []) (cond t 0 1)
unfolding parted
first_alone b last x true n = rw (behind_some b last (x ∷ []) 0 (omega arith))
first_alone b last x false n = rw (behind_none b last (x ∷ []) 1 (omega arith), n x)

-- the part before the first b, and the parts behind it
pub parted_first : (b : ℕ) (last : List (List ℕ)) (l : List ℕ) → Neutral last → 0 < length l
    → parted b last l ≡ take (up_to b l) l ∷ behind b last l (up_to b l)
unfolding parted up_to
parted_first b last [] n h = absurd (omega arith)
parted_first b last (x ∷ []) n h = first_alone b last x (eqb x b) n
parted_first b last (x ∷ y ∷ ys) n h = first_step b last x y ys (eqb x b) (parted_first b last (y ∷ ys) n (omega arith))

-- ---- lines

-- behind the last newline there is no line, so past the end of the text as little as at it
rest_lines : (l : List ℕ) (n : ℕ) → behind 10 [] l n ≡ lines_of (drop (n + 1) l)
unfolding lines_of newline parted
rest_lines l n = elim (dec_lt n (length l)) [
  | yes h ↦ behind_some 10 [] l n h
  | no h ↦ behind_none 10 [] l n (omega arith) ∙ sym (rw (drop_of_length-le l {i = n + 1} (omega arith)))
]

pub lines_at : (l : List ℕ) (from e : ℕ) → from < length l → e ≡ from + up_to 10 (drop from l)
    → lines_of (drop from l) ≡ take (e - from) (drop from l) ∷ lines_of (drop (e + 1) l)
unfolding lines_of newline on_first
lines_at l from e h k =
    let n : e - from ≡ up_to 10 (drop from l) = omega arith in
    parted_first 10 [] (drop from l) (λ x. refl) (omega (arith, length-drop from l))
    ∙ rw (n, behind_drop 10 [] l from (up_to 10 (drop from l)) (omega arith), sym k, rest_lines l e)

pub lines_none : (l : List ℕ) (from : ℕ) → length l ≤ from → lines_of (drop from l) ≡ []
unfolding lines_of parted
lines_none l from h = rw (drop_of_length-le l h)

-- ---- fields

-- the fields behind the tab at a place
abbrev pub fields_behind : List ℕ → ℕ → List (List ℕ)
fields_behind l n = behind tab ([] ∷ []) l n

pub field_part : (l : List ℕ) (from e : ℕ) → e ≡ from + up_to tab (drop from l) → take (e - from) (drop from l) ≡ field_at l from
unfolding field_at
field_part l from e k =
    let n : e - from ≡ up_to tab (drop from l) = omega arith in
    rw n

pub field_length : (l : List ℕ) (from : ℕ) → length (field_at l from) ≡ up_to tab (drop from l)
unfolding field_at
field_length l from = length-take-le (up_to tab (drop from l)) (drop from l) (up_to_le tab (drop from l))

pub field_within : (l : List ℕ) (from : ℕ) → from ≤ length l → from + length (field_at l from) ≤ length l
field_within l from h = end_within tab l from _ h (ap (λ (n : ℕ). from + n) (field_length l from))

-- a line has one field at least
fields_first : (l : List ℕ) → fields_of l ≡ take (up_to tab l) l ∷ fields_behind l (up_to tab l)
unfolding fields_of parted up_to on_first
fields_first [] = rw (behind_none tab ([] ∷ []) [] 0 (omega arith))
fields_first (x ∷ xs) = parted_first tab ([] ∷ []) (x ∷ xs) (λ y. refl) (omega arith)

pub fields_at : (l : List ℕ) (from : ℕ) → from ≤ length l → fields_of (drop from l) ≡ field_at l from ∷ fields_behind l (from + length (field_at l from))
unfolding field_at
fields_at l from h =
    let e : length (take (up_to tab (drop from l)) (drop from l)) ≡ up_to tab (drop from l) = field_length l from in
    fields_first (drop from l) ∙ rw (e, behind_drop tab ([] ∷ []) l from (up_to tab (drop from l)) h)

-- the same behind a field
pub behind_field : (l : List ℕ) (at : ℕ) → at < length l → fields_behind l at ≡ field_at l (at + 1) ∷ fields_behind l (at + 1 + length (field_at l (at + 1)))
unfolding fields_of
behind_field l at h = behind_some tab ([] ∷ []) l at h ∙ fields_at l (at + 1) (omega arith)
