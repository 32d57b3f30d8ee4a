-- The row of a state, its places, and what a scan of it leaves: cited by the contracts of this crate. Assumes nothing.
use Rattle.std.specs.Prelude.{◌≡◌, ℕ, suc, ◌+◌, ◌-◌, ◌%◌, ◌<◌, ◌≤◌, Bool, true, false, cond, ◌&&◌, Option, None, Some, List, [], map, length, replicate, ◌≢◌, nat_le, nat_lt, slice_index, slice_index_or}
use Rattle.rows.specs.Rows.{entries, row_at}
use Rattle.look.specs.declared.Row.{Row}
use Rattle.look.specs.declared.Stretch.{Stretch}
use Rattle.look.specs.declared.Edge.{Edge}
use Rattle.look.specs.declared.Layout.{Layout}
use Rattle.look.specs.Numbers.{no_number, up, raised}

-- the entries of an array that goes by state, and of the array of targets
abbrev pub most_states : ℕ
most_states = 512

abbrev pub most_targets : ℕ
most_targets = 2048

-- is v a state that a table can have, and does its row end within the array of targets?
abbrev pub fits : List ℕ → ℕ → Bool
fits starts v = nat_lt v most_states && nat_le (slice_index starts (suc v)) most_targets

-- the row of v; one that does not fit counts as empty
unfoldable pub row_in : List ℕ → List ℕ → ℕ → List ℕ
row_in targets starts v = cond (fits starts v) (row_at targets starts v) []

-- the places of the row of v: none where it does not fit
pub record Spans (starts : List ℕ) (v : ℕ) (r : Row) : Type 0 where
  pub whole : fits starts v ≡ true → (r.from ≡ slice_index starts v) × (r.stop ≡ slice_index starts (suc v))
  pub empty : fits starts v ≡ false → (r.from ≡ 0) × (r.stop ≡ 0)
  pub from_small : r.from < 65536
  pub stop_small : r.stop ≤ most_targets

-- ---- the rows as a search reads them

-- the rows as a search reads them, of lists
abbrev pub layout_of : List ℕ → List ℕ → List ℕ → Layout
layout_of begins ends bases = record { begins = begins; ends = ends; bases = bases }

-- where each row of a table ends: where the next one starts
unfoldable pub ends_of : List ℕ → List ℕ
ends_of starts = entries most_states 1 starts

-- the rows of a table, read as they lie
abbrev pub plain_layout : List ℕ → Layout
plain_layout starts = layout_of starts (ends_of starts) (replicate most_states 0)

-- how many edges stand between two places; those that go on past the array of targets count as none
unfoldable pub spanned : ℕ → ℕ → ℕ
spanned from stop = cond (nat_le stop most_targets) (stop - from) 0

-- the row of v by its places
pub record Stretches (y : Layout) (v : ℕ) (r : Stretch) : Type 0 where
  pub from_is : r.from ≡ slice_index y.begins (v % most_states)
  pub count_is : r.count ≡ spanned (slice_index y.begins (v % most_states)) (slice_index y.ends (v % most_states))
  pub base_is : r.base ≡ slice_index y.bases (v % most_states)
  pub from_small : r.from < 65536
  pub base_small : r.base < 65536

-- the state at which a target lies, raised by a base
unfoldable pub lifted : ℕ → ℕ → ℕ
lifted base t = (t + base) % most_states

-- The row of v. A state of 512 or more counts as the one that it leaves when divided by 512: no table has such a state.
unfoldable pub row_laid : List ℕ → Layout → ℕ → List ℕ
row_laid targets y v =
    let i = v % most_states in
    map (lifted (slice_index y.bases i)) (entries (spanned (slice_index y.begins i) (slice_index y.ends i)) (slice_index y.begins i) targets)

-- ---- a scan

-- each of n edges of the row, from edge k on, leads to a state that has a number in the array
abbrev pub Skips : List ℕ → List ℕ → ℕ → ℕ → Type 0
Skips row array k n = (i : ℕ) → i < n → (k + i < length row) × (slice_index array (slice_index row (k + i)) ≢ no_number)

-- a look at edge k of the row: it leads to a state that has no number in the array
pub record Hits (row array : List ℕ) (k : ℕ) (r : Edge) : Type 0 where
  pub edge : k < length row
  pub index_is : r.index ≡ k
  pub target_is : r.target ≡ slice_index row k
  pub new : slice_index_or array r.target 0 ≡ no_number

-- What a scan from edge k of a row on leaves: some edges are passed over, and one more is looked at, or none is left. Each look was counted.
pub record Swept (row array : List ℕ) (k spent : ℕ) (r : Option Edge) (spent' : ℕ) : Type 0 where
  pub passed : ℕ
  pub skips : Skips row array k passed
  pub looked : (e : Edge) → r ≡ Some e → Hits row array (k + passed) e × (spent' ≡ up (raised passed spent))
  pub ended : r ≡ None → (length row ≤ k + passed) × (spent' ≡ raised passed spent)
