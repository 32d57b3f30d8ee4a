-- Numbers of 16 bits: cited by the contracts of this crate. Assumes nothing.
use Rattle.std.specs.Prelude.{ℕ, zero, suc, ◌+◌, ◌%◌, cond, List, [], ◌∷◌, ◌==◌, nat_lt}

-- what stands in an array for "no number"
abbrev pub no_number : ℕ
no_number = 65535

-- how many entries of an array have no number
unfoldable pub blanks : List ℕ → ℕ
blanks [] = 0
blanks (x ∷ xs) = cond (x == no_number) (suc (blanks xs)) (blanks xs)

-- a sum, and one more, modulo 65,536
unfoldable pub plus : ℕ → ℕ → ℕ
plus a b = (a + b) % 65536

unfoldable pub up : ℕ → ℕ
up x = (x + 1) % 65536

-- one more, at most 65,535
unfoldable pub further : ℕ → ℕ
further x = cond (nat_lt x 65535) (x + 1) x

-- one more, n times
unfoldable pub raised : ℕ → ℕ → ℕ
raised zero x = x
raised (suc n) x = raised n (up x)
