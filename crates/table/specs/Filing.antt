-- The table in its arrays: what they hold, and what filing leaves. Assumes nothing.
use Rattle.std.specs.Prelude.{ℕ, ◌*◌, ◌-◌, ◌≤◌, ◌<◌, min, ◌≡◌, Bool, true, false, List, [], ◌∷◌, length, get_or, set, replicate}
use Rattle.plain.specs.Lists.{any}
use Rattle.plain.specs.Search.{Edge}
use Rattle.plain.specs.Table.{Table, row, with_mark, without_mark}
use Rattle.plain.specs.Refusals.{outside, pairs, repeated, Load, load_trial}
use Rattle.plain.specs.Layers.{copy}
use Rattle.plain.specs.Questions.{in_degree}
use Rattle.rows.specs.Rows.{row_at, edge_count, place_of, Compressed}
use Rattle.rows.specs.declared.Rows.{Rows}
use Rattle.rows.specs.Change.{rows_of, inserted, removed}
use Rattle.look.specs.Numbers.{further}
use Rattle.layers.specs.Packed.{Packed, ClearedFrom}
use Rattle.table.specs.declared.Op.{Op}
use Rattle.table.specs.declared.Op.TheVariants.{Add, Cut, Mark, Unmark}
use Rattle.table.specs.declared.Trial.{Trial}
use Rattle.table.specs.declared.Trial.TheVariants.{Accepted, Refused}
use Rattle.table.specs.Trials.{tried, trial_in, kinds_trial_in}
use Rattle.table.specs.declared.Arrays.{Arrays}

-- the rows hold these edges: the row of each state has the targets of those that leave it, oldest first
pub record Filed (size : ℕ) (edges : List Edge) (rows : Rows) : Type 0 where
  pub compressed : Compressed size rows.targets rows.starts
  pub rows_are : (v : ℕ) → row_at rows.targets rows.starts v ≡ row edges v
  pub count_is : edge_count rows.starts size ≡ length edges

-- the counts are those of these edges: for each state, how many enter it
pub record Counted (edges : List Edge) (indegree : List ℕ) : Type 0 where
  pub counts_size : length indegree ≡ 512
  pub counts_are : (s : ℕ) → get_or indegree s 0 ≡ in_degree edges s

-- marks have the form in which a load takes them: eight words for each of four kinds
pub record FourKinds (marks : List (List ℕ)) : Type 0 where
  pub four : length marks ≡ 4
  pub eight : (kind : ℕ) → kind < 4 → length (get_or marks kind []) ≡ 8

-- the arrays hold the table: its moves, its paying marks, and the counts of its moves
pub record Stored (t : Table) (a : Arrays) : Type 0 where
  pub filed : Filed t.size t.edges a.rows
  pub packed : Packed t.size t.kinds t.marks a.words
  pub form : FourKinds t.marks
  pub counted : Counted t.edges a.indegree

-- ---- a change

-- the state that a change names
abbrev pub named_by : Op → ℕ
named_by (Add from to) = from
named_by (Cut from to) = from
named_by (Mark state kind) = state
named_by (Unmark state kind) = state

-- one edge more enters a state, or one fewer; within 16 bits, and where the state has a count
abbrev pub recounted : Bool → ℕ → List ℕ → List ℕ
recounted true s xs = set xs s (further (get_or xs s 0))
recounted false s xs = set xs s (get_or xs s 0 - 1)

-- edges, one after the other
unfoldable pub counted_all : List Edge → List ℕ → List ℕ
counted_all [] xs = xs
counted_all (e ∷ es) xs = counted_all es (recounted true e.1 xs)

abbrev pub with_rows : Arrays → Rows → List ℕ → Arrays
with_rows a rows indegree = record { rows = rows; words = a.words; indegree = indegree }

abbrev pub with_words : Arrays → List ℕ → Arrays
with_words a words = record { rows = a.rows; words = words; indegree = a.indegree }

-- the arrays after a change was filed; a cut takes out the edge at the place of its target
abbrev pub filed_in : Op → ℕ → Arrays → Arrays
filed_in (Add from to) size a = with_rows a (inserted size from to a.rows) (recounted true to a.indegree)
filed_in (Cut from to) size a = with_rows a (removed size from (place_of to (row_at a.rows.targets a.rows.starts from)) a.rows) (recounted false to a.indegree)
filed_in (Mark state kind) size a = with_words a (with_mark a.words (copy size (kind - 1) state))
filed_in (Unmark state kind) size a = with_words a (without_mark a.words (copy size (kind - 1) state))

-- a change that was tried: the arrays are changed where it is accepted, else as they were
pub record Attempted (op : Op) (size kinds room : ℕ) (a : Arrays) (r : Trial) (a' : Arrays) : Type 0 where
  pub trial_is : r ≡ tried (trial_in op size kinds a.rows a.words room)
  pub filed : r ≡ Accepted → a' ≡ filed_in op size a
  pub unfiled : (n : ℕ) → r ≡ Refused n → a' ≡ a

-- ---- a load

-- the rows are empty
pub record Empty (targets starts : List ℕ) : Type 0 where
  pub no_targets : targets ≡ replicate 2048 0
  pub no_starts : starts ≡ replicate 513 0

-- the rows are empty, and the list of numbers keeps the limits
pub record Limits (size : ℕ) (numbers targets starts : List ℕ) : Type 0 where
  pub empty : Empty targets starts
  pub states : size ≤ 512
  pub within : any (outside size) (pairs numbers) ≡ false
  pub few : length (pairs numbers) ≤ 2048

-- what filing such a list leaves: does an edge stand twice? if none does, the rows hold the list's edges
pub record FiledAll (size : ℕ) (numbers : List ℕ) (r : Bool) (targets' starts' : List ℕ) : Type 0 where
  pub repeats : r ≡ repeated (pairs numbers)
  pub filed : r ≡ false → Filed size (pairs numbers) (rows_of targets' starts')

-- the trial of a load; the moves of one that is accepted are filed
pub record Tried (l : Load) (room : ℕ) (r : Trial) (targets' starts' : List ℕ) : Type 0 where
  pub trial_is : r ≡ tried (load_trial l room)
  pub filed : r ≡ Accepted → Filed l.size (pairs l.numbers) (rows_of targets' starts')

-- ---- another count of kinds

-- it was tried: the marks of the kinds that stay in use stay where it is accepted, else all
pub record AttemptedKinds (k size kinds room : ℕ) (starts words : List ℕ) (r : Trial) (words' : List ℕ) : Type 0 where
  pub trial_is : r ≡ tried (kinds_trial_in k size starts room)
  pub kept : r ≡ Accepted → ClearedFrom (min kinds k * size) words words'
  pub untouched : (n : ℕ) → r ≡ Refused n → words' ≡ words
