-- Document 02, ticket 5: the lines of a batch as numbers, and trying them on the arrays of a table. A change alone is a list of one line. Assumes nothing.
use Rattle.std.specs.Prelude.{ℕ, suc, ◌%◌, ◌≡◌, Bool, true, false, ◌&&◌, ◌||◌, not, cond, Option, None, Some, List, [], ◌∷◌, ◌++◌, eqb, ltb, leb, length}
use Rattle.plain.specs.Refusals.{Trial as PlainTrial, accepted, refused, first_held, room_condition}
use Rattle.plain.specs.Machine.{Change, add, cut, mark, unmark, misnamed, BatchLine as PlainLine, makes, other}
use Rattle.table.specs.declared.Op.{Op}
use Rattle.table.specs.declared.Op.TheVariants.{Add, Cut, Mark, Unmark}
use Rattle.table.specs.declared.Subject.{Subject}
use Rattle.table.specs.declared.Switch.{Switch}
use Rattle.table.specs.declared.Trial.{Trial}
use Rattle.table.specs.declared.Trial.TheVariants.{Accepted, Refused}
use Rattle.table.specs.declared.Position.{Position}
use Rattle.batch.specs.declared.Attempt.{Attempt}
use Rattle.batch.specs.declared.BatchLine.{BatchLine}
use Rattle.table.specs.Trials.{tried, conditions_in}
use Rattle.table.specs.declared.Arrays.{Arrays}
use Rattle.table.specs.Filing.{filed_in}

-- ---- a line as three numbers

abbrev pub line_for : ℕ → ℕ → ℕ → BatchLine
line_for what first second = record { what = what; first = first; second = second }

-- the line that makes a change
abbrev pub line_to : Op → BatchLine
line_to (Add from to) = line_for 1 from to
line_to (Cut from to) = line_for 2 from to
line_to (Mark state kind) = line_for 3 state kind
line_to (Unmark state kind) = line_for 4 state kind

-- the change that a line makes: a move is added or cut, a state marked or unmarked; with any other number it makes none
unfoldable pub line_in : BatchLine → PlainLine
line_in l =
    cond (eqb l.what 1) (makes (add (l.first, l.second)))
    (cond (eqb l.what 2) (makes (cut (l.first, l.second)))
    (cond (eqb l.what 3) (makes (mark l.first l.second))
    (cond (eqb l.what 4) (makes (unmark l.first l.second))
    other)))

-- does it make one?
unfoldable pub is_change : BatchLine → Bool
is_change l = not (eqb l.what 0) && leb l.what 4

-- is the kind that it then names none of the four? Of a move none is named.
unfoldable pub misnamed_in : BatchLine → Bool
misnamed_in l = not (leb l.what 2) && (eqb l.second 0 || ltb 4 l.second)

-- does it make a change that is not refused for its kind?
unfoldable pub is_valid : BatchLine → Bool
is_valid l = is_change l && not (misnamed_in l)

-- what it then switches, and which way
unfoldable pub subject_in : BatchLine → Subject
subject_in l = cond (leb l.what 2) (Subject.Edge l.first l.second) (Subject.Mark l.first l.second)

abbrev pub switch_in : BatchLine → Switch
switch_in l = record { on = eqb (l.what % 2) 1; subject = subject_in l }

-- the lines of a list of numbers, three for each; a rest of fewer is a line that makes no change
unfoldable pub lines_in : List ℕ → List PlainLine
lines_in [] = []
lines_in (a ∷ []) = other ∷ []
lines_in (a ∷ b ∷ []) = other ∷ []
lines_in (a ∷ b ∷ c ∷ ns) = line_in (line_for a b c) ∷ lines_in ns

-- the states that they name
unfoldable pub states_in : List ℕ → List ℕ
states_in [] = []
states_in (a ∷ []) = 0 ∷ []
states_in (a ∷ b ∷ []) = 0 ∷ []
states_in (a ∷ b ∷ c ∷ ns) = b ∷ states_in ns

-- the line at their head
abbrev pub head_line : List ℕ → BatchLine
head_line [] = line_for 0 0 0
head_line (a ∷ []) = line_for 0 0 0
head_line (a ∷ b ∷ []) = line_for 0 0 0
head_line (a ∷ b ∷ c ∷ ns) = line_for a b c

-- the numbers of a call: those of its only line, or those of the lent list
abbrev pub numbers_in : Option BatchLine → List ℕ → List ℕ
numbers_in (Some only) ns = only.what ∷ only.first ∷ only.second ∷ []
numbers_in None ns = ns

-- how many they are
abbrev pub end_in : Bool → List ℕ → ℕ
end_in true ns = 3
end_in false ns = length ns

-- ---- trying them

-- the change as the code's enum has it
abbrev pub op_for : Change → Op
op_for (add e) = Add e.0 e.1
op_for (cut e) = Cut e.0 e.1
op_for (mark s kind) = Mark s kind
op_for (unmark s kind) = Unmark s kind

-- The trial of the i-th line, read off the arrays. 11 comes behind a change's own refusals: it is tried ahead of a batch, so that it never strikes there.
abbrev pub line_trial_in : ℕ → PlainLine → ℕ → ℕ → Arrays → ℕ → PlainTrial
line_trial_in i (makes c) size kinds a room = first_held ((1, misnamed c) ∷ (15, ltb 64 i) ∷ (conditions_in (op_for c) size kinds a.rows a.words ++ room_condition size kinds room))
line_trial_in i other size kinds a room = refused 1

abbrev pub filed_line : PlainLine → ℕ → Arrays → Arrays
filed_line (makes c) size a = filed_in (op_for c) size a
filed_line other size a = a

-- what trying lines comes to: the trial, the position of the line with which it ends, and the arrays that it leaves
pub record TriedIn : Type 0 where
  pub trial : PlainTrial
  pub position : ℕ
  pub arrays : Arrays

unfoldable pub tried_in : ℕ → List PlainLine → ℕ → ℕ → Arrays → ℕ → TriedIn
tried_in i [] size kinds a room = record { trial = accepted; position = i; arrays = a }
tried_in i (x ∷ xs) size kinds a room = elim (line_trial_in i x size kinds a room) [
  | accepted ↦ tried_in (suc i) xs size kinds (filed_line x size a) room
  | refused n ↦ record { trial = refused n; position = i; arrays = a }
]

-- What is tried ahead: of a batch 11, and before it that there is a game, which no table of a session lacks.
unfoldable pub ahead_trial : Bool → ℕ → ℕ → ℕ → PlainTrial
ahead_trial alone size kinds room = cond alone accepted (first_held ((2, eqb size 0) ∷ room_condition size kinds room))

unfoldable pub call_tried_in : Bool → List PlainLine → ℕ → ℕ → Arrays → ℕ → TriedIn
call_tried_in alone xs size kinds a room = elim (ahead_trial alone size kinds room) [
  | accepted ↦ tried_in 1 xs size kinds a room
  | refused n ↦ record { trial = refused n; position = 0; arrays = a }
]

-- ---- the code's results

abbrev pub is_refused : Trial → Bool
is_refused Accepted = false
is_refused (Refused n) = true

-- a change alone has no position
abbrev pub position_at : Bool → ℕ → Position
position_at true i = Position.Alone
position_at false i = Position.Line i

-- a line that was tried: its change is made where it is accepted
pub record AttemptedLine (x : PlainLine) (i size kinds room : ℕ) (a : Arrays) (r : Trial) (a' : Arrays) : Type 0 where
  pub trial_is : r ≡ tried (line_trial_in i x size kinds a room)
  pub filed : r ≡ Accepted → a' ≡ filed_line x size a
  pub unfiled : (n : ℕ) → r ≡ Refused n → a' ≡ a

-- lines that were tried
pub record AttemptedLines (alone : Bool) (w : TriedIn) (r : Attempt) (a' : Arrays) : Type 0 where
  pub trial_is : r.trial ≡ tried w.trial
  pub position_is : r.position ≡ position_at alone w.position
  pub arrays_are : a' ≡ w.arrays

-- a call that was tried: its changes are made where all are accepted
pub record AttemptedCall (alone : Bool) (w : TriedIn) (a : Arrays) (r : Attempt) (a' : Arrays) : Type 0 where
  pub trial_is : r.trial ≡ tried w.trial
  pub position_is : r.position ≡ position_at alone w.position
  pub filed : r.trial ≡ Accepted → a' ≡ w.arrays
  pub unfiled : (n : ℕ) → r.trial ≡ Refused n → a' ≡ a
