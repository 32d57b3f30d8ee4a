-- The trials of calls, read off the arrays of a table. Assumes nothing.
use Rattle.std.specs.Prelude.{ℕ, ◌+◌, ◌*◌, ◌-◌, ◌≡◌, Bool, true, false, ◌&&◌, ◌||◌, not, List, [], ◌∷◌, ◌++◌, eqb, ltb, leb, length}
use Rattle.plain.specs.Lists.{any}
use Rattle.plain.specs.Table.{accepts, by_kind, carried_by}
use Rattle.plain.specs.Layers.{copy}
use Rattle.plain.specs.Refusals.{Trial as PlainTrial, accepted, refused, first_held, bad_size, bad_start, bad_marks, bad_count, bad_kinds, outside, beyond, room_condition, pairs}
use Rattle.plain.specs.Machine.{Change, add, cut, mark, unmark}
use Rattle.rows.specs.Rows.{row_at, degree_at, edge_count, place_of, Tabled}
use Rattle.rows.specs.declared.Rows.{Rows}
use Rattle.rows.specs.Change.{rows_of}
use Rattle.table.specs.declared.Arrays.{Arrays}
use Rattle.table.specs.declared.Op.{Op}
use Rattle.table.specs.declared.Op.TheVariants.{Add, Cut, Mark, Unmark}
use Rattle.table.specs.declared.Subject.{Subject}
use Rattle.table.specs.declared.Switch.{Switch}
use Rattle.table.specs.declared.Trial.{Trial}
use Rattle.table.specs.declared.Trial.TheVariants.{Accepted, Refused}

-- the table's arrays, of lists
abbrev pub arrays_of : List ℕ → List ℕ → List ℕ → List ℕ → Arrays
arrays_of targets starts words indegree = record { rows = rows_of targets starts; words = words; indegree = indegree }

-- lengths that the arrays have by their types
abbrev pub Sized : Arrays → Type 0
Sized a = Tabled a.rows.targets a.rows.starts × (length a.indegree ≡ 512)

-- the change that switches something on or off
abbrev pub switching : Bool → Subject → Op
switching true (Subject.Edge from to) = Add from to
switching false (Subject.Edge from to) = Cut from to
switching true (Subject.Mark state kind) = Mark state kind
switching false (Subject.Mark state kind) = Unmark state kind

abbrev pub op_of : Switch → Op
op_of s = switching s.on s.subject

-- what a trial comes to, as the code's enum
abbrev pub tried : PlainTrial → Trial
tried accepted = Accepted
tried (refused n) = Refused n

-- refusals 2 to 6 of a load, 16 among them; the marks are eight words for each of four kinds
unfoldable pub early_trial : ℕ → ℕ → ℕ → List ℕ → List ℕ → PlainTrial
early_trial size start kinds marks numbers = first_held (
    (2, bad_size size)
    ∷ (3, bad_start size start)
    ∷ (4, bad_marks size kinds (by_kind marks))
    ∷ (5, bad_count numbers)
    ∷ (16, bad_kinds kinds size (length (pairs numbers)))
    ∷ (6, any (outside size) (pairs numbers))
    ∷ [])

-- 4, of one mark, as `bad_marks` asks it of each: is it set for a number not below the count of states, or of a kind, from 0 on, that is not in use?
abbrev pub bad_mark : ℕ → ℕ → List (List ℕ) → ℕ → ℕ → Bool
bad_mark n k marks kind s = (leb n s || leb k kind) && carried_by marks kind s

-- the change of the plain table
abbrev pub change_of : Op → Change
change_of (Add from to) = add (from, to)
change_of (Cut from to) = cut (from, to)
change_of (Mark state kind) = mark state kind
change_of (Unmark state kind) = unmark state kind

-- is the edge in the rows?
abbrev pub there : List ℕ → List ℕ → ℕ → ℕ → Bool
there targets starts from to = ltb (place_of to (row_at targets starts from)) (degree_at starts from)

-- 6, 8 and 9 of an add, read off the rows
unfoldable pub add_conditions : ℕ → ℕ → List ℕ → List ℕ → ℕ → ℕ → List (ℕ × Bool)
add_conditions size kinds targets starts from to =
    (6, outside size (from, to)) ∷ (8, there targets starts from to) ∷ (9, ltb 2048 ((edge_count starts size + 1) * kinds)) ∷ []

-- 6 and 10 of a cut
unfoldable pub cut_conditions : ℕ → List ℕ → List ℕ → ℕ → ℕ → List (ℕ × Bool)
cut_conditions size targets starts from to = (6, outside size (from, to)) ∷ (10, not (there targets starts from to)) ∷ []

-- does a state carry a kind, by the words of a game of so many states? Its copy in the layer of that kind has the bit.
abbrev pub carries_in : ℕ → List ℕ → ℕ → ℕ → Bool
carries_in size words state kind = accepts words (copy size (kind - 1) state)

-- 4, 6 and 13 of a mark, read off the words
unfoldable pub mark_conditions : ℕ → ℕ → List ℕ → ℕ → ℕ → List (ℕ × Bool)
mark_conditions size kinds words state kind = (4, ltb kinds kind) ∷ (6, beyond size state) ∷ (13, carries_in size words state kind) ∷ []

-- 4, 6 and 14 of an unmark
unfoldable pub unmark_conditions : ℕ → ℕ → List ℕ → ℕ → ℕ → List (ℕ × Bool)
unmark_conditions size kinds words state kind = (4, ltb kinds kind) ∷ (6, beyond size state) ∷ (14, not (carries_in size words state kind)) ∷ []

-- the conditions of a change itself
abbrev pub conditions_in : Op → ℕ → ℕ → Rows → List ℕ → List (ℕ × Bool)
conditions_in (Add from to) size kinds rows words = add_conditions size kinds rows.targets rows.starts from to
conditions_in (Cut from to) size kinds rows words = cut_conditions size rows.targets rows.starts from to
conditions_in (Mark state kind) size kinds rows words = mark_conditions size kinds words state kind
conditions_in (Unmark state kind) size kinds rows words = unmark_conditions size kinds words state kind

-- the trial of a change: 11 behind its own conditions; 1, that its kind is none, is tried ahead of it (crates/batch/specs/Batches.antt)
unfoldable pub trial_in : Op → ℕ → ℕ → Rows → List ℕ → ℕ → PlainTrial
trial_in op size kinds rows words room = first_held (conditions_in op size kinds rows words ++ room_condition size kinds room)

-- the trial of another count of kinds, read off the rows: 16 and 11, and ahead of them that there is a game, which no table of a session lacks
unfoldable pub kinds_trial_in : ℕ → ℕ → List ℕ → ℕ → PlainTrial
kinds_trial_in k size starts room = first_held ((2, eqb size 0) ∷ (16, bad_kinds k size (edge_count starts size)) ∷ room_condition size k room)
