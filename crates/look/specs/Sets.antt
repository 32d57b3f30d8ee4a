-- A set of states as an array goes by state. Assumes nothing.
use Rattle.std.specs.Prelude.{◌≡◌, ℕ, ◌<◌, Bool, true, List, slice_index_or}
use Rattle.plain.specs.Lists.{elem}

-- the set has the states of the list
abbrev pub Members : List Bool → List ℕ → Type 0
Members states xs = (x : ℕ) → x < 512 → slice_index_or states x true ≡ elem x xs
