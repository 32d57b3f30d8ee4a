-- The edges of a table as compressed rows: one array of targets, and for each state the place where its row starts. Assumes nothing.
use Rattle.std.specs.Prelude.{ℕ, zero, suc, ◌+◌, ◌-◌, ◌≤◌, ◌<◌, ◌≡◌, true, false, List, [], ◌∷◌, ◌++◌, eqb, length, get_or, take, drop}

-- n entries of the list from a place on; past its end the entries are 0
unfoldable pub entries : ℕ → ℕ → List ℕ → List ℕ
entries zero at xs = []
entries (suc n) at xs = get_or xs at 0 ∷ entries n (suc at) xs

-- how many edges leave v
abbrev pub degree_at : List ℕ → ℕ → ℕ
degree_at starts v = get_or starts (suc v) 0 - get_or starts v 0

-- the row of v: the targets of its edges, oldest first
unfoldable pub row_at : List ℕ → List ℕ → ℕ → List ℕ
row_at targets starts v = entries (degree_at starts v) (get_or starts v 0) targets

-- the count of edges: where the rows of the states below a size end
abbrev pub edge_count : List ℕ → ℕ → ℕ
edge_count starts size = get_or starts size 0

-- the place of the first t, the length of the list where there is none
unfoldable pub place_of : ℕ → List ℕ → ℕ
place_of t [] = 0
place_of t (x ∷ xs) = elim (eqb t x) [ true ↦ 0 | false ↦ suc (place_of t xs) ]

-- lengths that the arrays of the rows have by their types
pub record Tabled (targets starts : List ℕ) : Type 0 where
  pub targets_size : length targets ≡ 2048
  pub starts_size : length starts ≡ 513

-- The rows of the states below a size stand one behind the other, from the first place on; every start behind them is 0.
-- So a state of the size or above has an empty row.
pub record Compressed (size : ℕ) (targets starts : List ℕ) : Type 0 where
  pub tabled : Tabled targets starts
  pub states : size ≤ 512
  pub first : get_or starts 0 0 ≡ 0
  pub rising : (v : ℕ) → v < size → get_or starts v 0 ≤ get_or starts (suc v) 0
  pub within : edge_count starts size ≤ 2048
  pub behind : (v : ℕ) → size < v → get_or starts v 0 ≡ 0

-- one row is another, every other row is as it was
pub record Changed (size : ℕ) (targets starts : List ℕ) (v : ℕ) (row : List ℕ) (targets' starts' : List ℕ) : Type 0 where
  pub compressed : Compressed size targets' starts'
  pub here : row_at targets' starts' v ≡ row
  pub others : (u : ℕ) → (u ≡ v → ⊥) → row_at targets' starts' u ≡ row_at targets starts u

-- an edge to t is the newest of the row of v
pub record Inserted (size : ℕ) (targets starts : List ℕ) (v t : ℕ) (targets' starts' : List ℕ) : Type 0 where
  pub rows : Changed size targets starts v (row_at targets starts v ++ (t ∷ [])) targets' starts'
  pub count : edge_count starts' size ≡ edge_count starts size + 1

-- edge k of v is gone, the others of the row keep their order
pub record Removed (size : ℕ) (targets starts : List ℕ) (v k : ℕ) (targets' starts' : List ℕ) : Type 0 where
  pub rows : Changed size targets starts v (take k (row_at targets starts v) ++ drop (suc k) (row_at targets starts v)) targets' starts'
  pub count : edge_count starts' size + 1 ≡ edge_count starts size
