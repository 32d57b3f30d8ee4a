-- What one edge more, or one fewer, makes of any two arrays, rows or not. Assumes nothing.
use Rattle.std.specs.Prelude.{ℕ, suc, ◌+◌, Bool, true, false, cond, ◌&&◌, List, ltb, leb, get_or}
use Rattle.rows.specs.declared.Rows.{Rows}
use Rattle.rows.specs.Rows.{edge_count}
use Rattle.rows.specs.Shift.{opened, shut, moved_starts}

-- two lists as such arrays
abbrev pub rows_of : List ℕ → List ℕ → Rows
rows_of targets starts = record { targets = targets; starts = starts }

-- Is there room for one more edge of v? The states are no more than 512, and v is one; its row ends where all edges end or before, and these are fewer than 2048.
unfoldable pub has_room : (starts : List ℕ) (size v : ℕ) → Bool
has_room starts size v = leb size 512 && ltb v size && leb (get_or starts (suc v) 0) (edge_count starts size) && ltb (edge_count starts size) 2048

-- t stands behind the row of v; what stood there or further on is one place further up, and so is each start behind v
abbrev pub with_edge : (size v t : ℕ) → Rows → Rows
with_edge size v t r = record {
  targets = opened r.targets (get_or r.starts (suc v) 0) (edge_count r.starts size) t;
  starts = moved_starts true r.starts (suc v) size;
}

-- an edge from v to t comes in, the newest of its row; arrays without room for it are as they were
unfoldable pub inserted : (size v t : ℕ) → Rows → Rows
inserted size v t r = cond (has_room r.starts size v) (with_edge size v t r) r

-- Is there a place of edge k of v? The states are no more than 512, and v is one; the place is before the end of all edges, and these are no more than 2048.
unfoldable pub has_place : (starts : List ℕ) (size v k : ℕ) → Bool
has_place starts size v k = leb size 512 && ltb v size && ltb (get_or starts v 0 + k) (edge_count starts size) && leb (edge_count starts size) 2048

-- what stood behind the place of edge k of v is one place further down, and so is each start behind v
abbrev pub without_edge : (size v k : ℕ) → Rows → Rows
without_edge size v k r = record {
  targets = shut r.targets (get_or r.starts v 0 + k) (edge_count r.starts size);
  starts = moved_starts false r.starts (suc v) size;
}

-- edge k of v goes out; arrays without such a place are as they were
unfoldable pub removed : (size v k : ℕ) → Rows → Rows
removed size v k r = cond (has_place r.starts size v k) (without_edge size v k r) r
