-- The words: what each asks for, and how they are told apart. Assumes nothing.
use Rattle.std.specs.Prelude.{ℕ, Bool, eqb, ltb}
use Rattle.line.specs.declared.Word.{Word}
use Rattle.line.specs.declared.Word.TheVariants.{Game, Pay, Move, Go, Add, Cut, Mark, Unmark, Begin, End, Ways, Kinds, Short, Unreadable}

-- How many numbers follow a word, the largest that each may be, and the kind that is meant where none follows these, 0 for a word that takes no kind.
pub record Form : Type 0 where
  pub count : ℕ
  pub limit : ℕ
  pub kind : ℕ

abbrev form : ℕ → ℕ → ℕ → Form
form count limit kind = record { count = count; limit = limit; kind = kind }

-- "`game` (N, start), `pay` (state), `move` (from, to), `go`, `add` (from, to) and `cut` (from, to)": how many numbers follow each word, and the largest that
-- each may be: "at most 65,535; in `pay` at most 511". `mark` (state) and `unmark` (state) come with document 02, ticket 2, `begin` and `end` with ticket 5,
-- `ways` (state) with ticket 8, `kinds` (K) with ticket 9, `short` (budget) with ticket 11: "a budget B of 0 to 65,535 looks". Ticket 9: "`pay`, `mark` and
-- `unmark` take a kind after the state, 1 if left out": the last number is that kind, and 0 for a word that takes none.
abbrev pub form_of : Word → Form
form_of Game = form 2 65535 0
form_of Pay = form 1 511 1
form_of Move = form 2 65535 0
form_of Go = form 0 65535 0
form_of Add = form 2 65535 0
form_of Cut = form 2 65535 0
form_of Mark = form 1 65535 1
form_of Unmark = form 1 65535 1
form_of Begin = form 0 65535 0
form_of End = form 0 65535 0
form_of Ways = form 1 65535 0
form_of Kinds = form 1 65535 0
form_of Short = form 1 65535 0
form_of Unreadable = form 0 65535 0

abbrev pub count_of : Word → ℕ
count_of w = (form_of w).count

abbrev pub limit_of : Word → ℕ
limit_of w = (form_of w).limit

-- the kind that is meant where none is written
abbrev pub kind_of : Word → ℕ
kind_of w = (form_of w).kind

-- does the word take a kind?
abbrev pub takes_kind : Word → Bool
takes_kind w = ltb 0 (kind_of w)

-- a number for each word, by which words are told apart
abbrev pub tag_of : Word → ℕ
tag_of Game = 0
tag_of Pay = 1
tag_of Move = 2
tag_of Go = 3
tag_of Add = 4
tag_of Cut = 5
tag_of Mark = 6
tag_of Unmark = 7
tag_of Begin = 8
tag_of End = 9
tag_of Ways = 10
tag_of Kinds = 11
tag_of Short = 12
tag_of Unreadable = 13

-- is the one word the other?
unfoldable pub is_word : Word → Word → Bool
is_word v w = eqb (tag_of v) (tag_of w)
