-- Document 01, "Lines on the lead": what a field spells as a number. Assumes nothing.
use Rattle.std.specs.Prelude.{ℕ, ◌+◌, ◌*◌, ◌-◌, Bool, true, ◌&&◌, not, cond, List, [], ◌∷◌, eqb, leb, ltb, length, get_or, Option, Some, None}

-- do all elements pass the test?
unfoldable pub all : {A : Type 0} → (A → Bool) → List A → Bool
all p [] = true
all p (x ∷ xs) = p x && all p xs

-- `0` to `9`
unfoldable pub is_digit : ℕ → Bool
is_digit b = leb 48 b && leb b 57

-- the value of digits that are read behind the value v
unfoldable pub value_from : ℕ → List ℕ → ℕ
value_from v [] = v
value_from v (b ∷ bs) = value_from (v * 10 + (b - 48)) bs

unfoldable pub value : List ℕ → ℕ
value field = value_from 0 field

-- a zero in front of more digits
unfoldable pub leading_zero : List ℕ → Bool
leading_zero field = ltb 1 (length field) && eqb (get_or field 0 0) 48

-- "Numbers have 1 to 5 digits, no leading zero except 0 itself, at most 65,535; in `pay` at most 511"
unfoldable pub is_number : ℕ → List ℕ → Bool
is_number limit field = ltb 0 (length field) && leb (length field) 5 && not (leading_zero field) && all is_digit field && leb (value field) limit

unfoldable pub number_of : ℕ → List ℕ → Option ℕ
number_of limit field = cond (is_number limit field) (Some (value field)) None
