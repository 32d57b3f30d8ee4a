-- The answer to a call and the list lent for the walk, and when they are the plain table's. Assumes nothing.
use Rattle.std.specs.Prelude.{ℕ, ◌+◌, ◌-◌, ◌≤◌, ◌<◌, ◌≡◌, Bool, true, false, cond, List, [], ◌∷◌, ◌++◌, map, eqb, length, take, drop}
use Rattle.plain.specs.Lists.{Begins}
use Rattle.plain.specs.Search.{Verdict, none, lasso, unfinished}
use Rattle.plain.specs.Layers.{state_of}
use Rattle.plain.specs.Refusals.{Load, load_trial}
use Rattle.plain.specs.Machine.{Position as PlainPosition, alone, at_line, Refusal as PlainRefusal, Answer as PlainAnswer, load_answer, table_of, written, Line, round_line, none_line, no_line, answer_line}
use Rattle.table.specs.declared.Refusal.{Refusal}
use Rattle.table.specs.declared.Position.{Position}
use Rattle.verdict.specs.declared.Answer.{Answer}
use Rattle.verdict.specs.declared.Answer.TheVariants.{Refused, Clear, Round}

-- ---- what the functions of this crate do

-- the answer to a refused call
abbrev pub refusing : ℕ → Position → Answer
refusing n position = Refused (record { number = n; position = position })

abbrev pub is_refused : Answer → Bool
is_refused (Refused refusal) = true
is_refused (Clear spent kept) = false
is_refused (Round spent kept stem cycle) = false

-- The answer that tells what a search has come to: the looks spent and kept, and the lengths of the walk's stem and of the walk, 0 where there is none.
unfoldable pub answer_is : ℕ → ℕ → ℕ → ℕ → Answer
answer_is spent kept stem len = cond (eqb len 0) (Clear spent kept) (Round spent kept stem (len - stem))

-- what is written of a walk: its first entries
unfoldable pub shown_walk : ℕ → List ℕ → List ℕ → List ℕ
shown_walk n walk lent = take n walk ++ drop n lent

-- "The walk is printed in plain states": the states of which its entries are copies
unfoldable pub lowered : ℕ → ℕ → List ℕ → List ℕ
lowered size above walk = map (state_of size above) walk

-- What telling leaves: the answer, and the walk at the head of the list, where it fits. Only a forged session has a walk that does not: of what the list then holds nothing is said.
pub record Tells (spent kept stem len : ℕ) (walk lent : List ℕ) (r : Answer) (lent' : List ℕ) : Type 0 where
  pub answer_is : r ≡ answer_is spent kept stem len
  pub wrote : stem ≤ len → len ≤ 512 → len ≤ length lent → lent' ≡ shown_walk len walk lent

-- ---- an answer, as the plain table tells it

-- the plain table's word for where a refusal stands, and for the refusal
abbrev pub position_of : Position → PlainPosition
position_of Position.Alone = alone
position_of (Position.Line i) = at_line i

abbrev pub refusal_of : Refusal → PlainRefusal
refusal_of r = record { number = r.number; position = position_of r.position }

-- The document's number and values for each case of the answer: `no` and the refusal's number, of a batch with its position; `none`, spent, kept; `round`, spent, kept, the lengths of
-- stem and round, and the walk, which stands at the head of the lent list as the call leaves it.
unfoldable pub shown : Answer → List ℕ → Line
shown (Refused r) list = no_line (refusal_of r)
shown (Clear spent kept) list = none_line spent kept
shown (Round spent kept stem cycle) list = round_line spent kept stem cycle (take (stem + cycle) list)

-- An answer that is no refusal: what a caller sees of an accepted call.
abbrev pub NoRefusal : Answer → Type 0
NoRefusal (Refused r) = ⊥
NoRefusal (Clear spent kept) = Unit {0}
NoRefusal (Round spent kept stem cycle) = Unit {0}

-- the walk, with the lengths of its stem and its own, is that of the verdict
abbrev pub WalkOf : ℕ → ℕ → List ℕ → Verdict → Type 0
WalkOf stemLength walkLength walk none = (stemLength ≡ 0) × (walkLength ≡ 0)
WalkOf stemLength walkLength walk (lasso stem cycle) = (stemLength ≡ length stem) × (walkLength ≡ length stem + length cycle) × Begins (stem ++ cycle) walk × (0 < length cycle)
WalkOf stemLength walkLength walk unfinished = ⊥

-- AN ANSWER that is the plain table's: it is told by the same line, and the list lent for the walk is left as the plain table leaves it.
pub record Answered (a : PlainAnswer) (lent : List ℕ) (r : Answer) (lent' : List ℕ) : Type 0 where
  pub line : answer_line a ≡ shown r lent' ∷ []
  pub list : lent' ≡ written a lent

-- the answer to a load
abbrev pub LoadAnswered : Load → List ℕ → Answer → List ℕ → Type 0
LoadAnswered l lent r lent' = Answered (load_answer (load_trial l (length lent)) (table_of l)) lent r lent'
