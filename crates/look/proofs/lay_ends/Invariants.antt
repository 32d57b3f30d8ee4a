-- `lay_ends` meets its contract: the first i entries are the starts behind. Assumes nothing.
use Rattle.std.proofs.Common.{◌≡◌, ℕ, ◌+◌, ◌<◌, ◌≤◌, List, length, get_or}
use Rattle.look.proofs.lay_ends.Given as goal

-- the first i entries are the starts behind
pub record Laid (starts ends : List ℕ) (i : ℕ) : Type 0 where
  pub within : i ≤ 512
  pub size : length ends ≡ 512
  pub laid : (j : ℕ) → j < i → get_or ends j 0 ≡ get_or starts (1 + j) 0

abbrev pub invariant-loop-v : goal.invariant-loop-v
invariant-loop-v l = Laid l.starts l.ends l.v
