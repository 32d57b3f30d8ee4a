-- A list of bytes with others put in at a place. Assumes nothing.
use Rattle.std.specs.Prelude.{ℕ, ◌+◌, ◌≡◌, List, ◌++◌, length, take, drop}

-- d with bs in place of its bytes from `at` on
unfoldable pub overwritten : List ℕ → ℕ → List ℕ → List ℕ
overwritten d at bs = take at d ++ (bs ++ drop (at + length bs) d)

-- d' is d with bs put in at a place, and r is the index behind them
pub record Put (d : List ℕ) (at : ℕ) (bs d' : List ℕ) (r : ℕ) : Type 0 where
  pub next : r ≡ at + length bs
  pub made : d' ≡ overwritten d at bs
