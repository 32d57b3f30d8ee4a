-- What bounds a search on a game within the limits: 512 states and 2,048 moves, of which no search looks at one more than twice. Cited by contracts;
-- proofs/Limits.antt shows it. Assumes nothing.
use Rattle.std.specs.Prelude.{ℕ, ◌+◌, ◌≤◌, ◌<◌, length}
use Rattle.plain.specs.Lists.{In}
use Rattle.plain.specs.Search.{Graph, Config, outer, nested, exhausted, found, discovered_of, count}

-- the states of the paths fit a walk of 512 entries
abbrev pub WalkFew : Config → Type 0
WalkFew (outer p d k l) = length p ≤ 512
WalkFew (nested b p q d k l) = length p + length q ≤ 512
WalkFew (exhausted d k l) = Unit {0}
WalkFew (found h p q d k l) = Unit {0}

-- what bounds a configuration
pub record Limits (g : Graph) (c : Config) : Type 0 where
  pub below : (x : ℕ) → In x (discovered_of c) → x < 512
  pub few : length (discovered_of c) ≤ 512
  pub probes_few : count c ≤ 4096
  pub rows_short : (v : ℕ) → length (g.successors v) ≤ 2048
  pub walk_few : WalkFew c
