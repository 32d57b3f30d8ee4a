-- Parts of a list that move by one place, and starts that move with them. Assumes nothing.
use Rattle.std.specs.Prelude.{ℕ, suc, ◌-◌, min, Bool, true, false, List, ◌∷◌, map, drop}
use Rattle.std.proofs.Math.Seq.{paste}

-- t comes in at a place: the entries from there to count stand one place further up
unfoldable pub opened : List ℕ → ℕ → ℕ → ℕ → List ℕ
opened xs at count t = paste xs at (t ∷ drop at xs) (suc count - at)

-- the entry at a place is gone: those behind it, up to count, stand one place further down
unfoldable pub shut : List ℕ → ℕ → ℕ → List ℕ
shut xs at count = paste xs at (drop (suc at) xs) (count - suc at)

-- a start one place further up (true) or down (false), within 16 bits
abbrev pub moved_one : Bool → ℕ → ℕ
moved_one true x = min (suc x) 65535
moved_one false x = x - 1

-- the starts at the places from one to another, both included, are all one place further up, or down
unfoldable pub moved_starts : Bool → List ℕ → ℕ → ℕ → List ℕ
moved_starts up xs from last = paste xs from (map (moved_one up) (drop from xs)) (suc last - from)
