-- Document 01, "Lines on the lead": what the box answers to a text, from the plain table. Assumes nothing.
use Rattle.std.specs.Prelude.{ℕ, ◌+◌, ◌*◌, ◌-◌, min, ◌≡◌, Bool, true, false, cond, ◌&&◌, List, [], ◌∷◌, ◌++◌, map, eqb, leb, length, take, replicate}
use Rattle.plain.specs.Lists.{any}
use Rattle.plain.specs.Search.{Edge}
use Rattle.plain.specs.Table.{Table, with_mark, accepting_count}
use Rattle.plain.specs.Refusals.{Trial, accepted, refused, flat, Load, load_trial}
use Rattle.plain.specs.Machine.{Change, add, cut, mark, unmark, BatchLine, makes, other, single, batch, Command, update, set_kinds, Call, numbered, in_kind, table_of, load_answer, answer_to, table_after, Line, game_line, no_line, answer_line}
use Rattle.plain.specs.Questions.{Question, ways, short, reply_to, reply_line}
use Rattle.line.specs.Fields.{newline, lines_of}
use Rattle.line.specs.Words.{is_word}
use Rattle.line.specs.Records.{record_of}
use Rattle.line.specs.declared.Word.TheVariants.{Game, Pay, Move, Go, Add, Cut, Mark, Unmark, Begin, End, Ways, Kinds, Short}
use Rattle.line.specs.declared.Record.{Record}
use Rattle.answer.specs.Bytes.{overwritten}
use Rattle.answer.specs.Rendering.{render}

-- What is gathered before `go`: N, the start state, K, the paying marks of each kind and the moves so far. Tickets of document 02 add to it.
pub record Draft : Type 0 where
  pub size : ℕ
  pub start : ℕ
  pub kinds : ℕ
  pub marks : List (List ℕ)
  pub moves : List Edge

-- What is held while playing: the plain table. Tickets of document 02 add to it.
pub record Play : Type 0 where
  pub table : Table

-- What the box holds from one line to the next.
pub data Held : Type 0 where
  -- no line was read
  waiting : Held
  -- a `game` was read, and nothing behind it
  opened : Draft → Held
  -- a `game` was read, and something behind it
  gathering : Draft → Held
  -- a `go` was accepted
  playing : Play → Held
  -- a `begin` was read, and these lines of its batch, oldest first
  batching : Play → List BatchLine → Held
  -- a line was refused before or at `go`
  ended : Held

-- What one line gives: the lines written, and what is held then.
pub record Step : Type 0 where
  pub lines : List Line
  pub next : Held

abbrev pub quiet : Held → Step
quiet next = record { lines = []; next = next }

-- "or `no` and the refusal number"
abbrev pub no_step : ℕ → Held → Step
no_step n next = record { lines = no_line (numbered n) ∷ []; next = next }

-- "A refusal up to and with `go` is written as a `no` line and ends the program"
abbrev pub stop : ℕ → Step
stop n = no_step n ended

abbrev pub empty : List Edge → Bool
empty [] = true
empty (e ∷ es) = false

-- the list lent for the walk is the box's own: it has an entry for each of 512 states
abbrev pub room : ℕ
room = 512

abbrev pub load_of : Draft → Load
load_of d = record { size = d.size; start = d.start; kinds = d.kinds; marks = d.marks; numbers = flat d.moves }

abbrev pub play_of : Table → Play
play_of t = record { table = t }

-- "An accepted load writes `game`, N, the count of moves and the count of paying states. Then come the load's answer .."
abbrev pub load_step : Trial → Draft → Step
load_step accepted d = record {
  lines = game_line d.size (length d.moves) (accepting_count d.marks) ∷ answer_line (load_answer accepted (table_of (load_of d)));
  next = playing (play_of (table_of (load_of d)));
}
load_step (refused n) d = stop n

-- no state carries any of the four kinds
abbrev pub no_marks : List (List ℕ)
no_marks = replicate 4 (replicate 8 0)

-- "`game` (N, start)": no mark and no move yet; document 02, ticket 9: "K = 1, also where the line is missing"
abbrev pub draft_of : Record → Draft
draft_of r = record { size = r.first; start = r.second; kinds = 1; marks = no_marks; moves = [] }

-- ticket 9: "A line `kinds` with K"
abbrev pub with_kinds : Record → Draft → Draft
with_kinds r d = record { size = d.size; start = d.start; kinds = r.first; marks = d.marks; moves = d.moves }

-- "`pay` (state)"; by ticket 9 with "a kind after the state"; "Two `pay` lines for one state count as one."
abbrev pub with_pay : Record → Draft → Draft
with_pay r d = record { size = d.size; start = d.start; kinds = d.kinds; marks = in_kind (r.second - 1) (λ words. with_mark words r.first) d.marks; moves = d.moves }

-- "`move` (from, to)": behind the others, in the order of arrival
abbrev pub with_move : Record → Draft → Draft
with_move r d = record { size = d.size; start = d.start; kinds = d.kinds; marks = d.marks; moves = d.moves ++ ((r.first, r.second) ∷ []) }

-- "Order: one `game`": any other word is misplaced
unfoldable pub at_first : Record → Step
at_first r = cond (is_word r.word Game) (quiet (opened (draft_of r))) (stop 1)

-- are there 2,048 moves, so that the next would be the 2,049th?
abbrev pub move_most : List Edge → Bool
move_most es = leb 2048 (length es)

-- ".. any `pay`, any `move`, one `go`": a `pay` behind a `move` is misplaced; "a 2,049th `move` line gets 5 as it is read"
unfoldable pub before_go : Draft → Record → Step
before_go d r =
    cond (is_word r.word Pay && empty d.moves) (quiet (gathering (with_pay r d)))
    (cond (is_word r.word Move) (cond (move_most d.moves) (stop 5) (quiet (gathering (with_move r d))))
    (cond (is_word r.word Go) (load_step (load_trial (load_of d) room) d)
    (stop 1)))

-- ticket 9: "A line `kinds` .. may directly follow `game`", and stands nowhere else
unfoldable pub behind_game : Draft → Record → Step
behind_game d r = cond (is_word r.word Kinds) (quiet (gathering (with_kinds r d))) (before_go d r)

-- ".. and one line for each change"; document 02, ticket 5: one for each batch; ticket 10: one for each line `kinds`, "in the form of a change, with no `game` line"
abbrev pub call_on : Command → Call
call_on c = record { command = c; room = room }

abbrev pub call_step : Command → Play → Step
call_step c p = record { lines = answer_line (answer_to (call_on c) p.table); next = playing (play_of (table_after (call_on c) p.table)) }

-- document 02, ticket 8: one line for each question, which leaves all as it is
abbrev pub question_step : Question → Play → Step
question_step q p = record { lines = reply_line (reply_to q p.table) ∷ []; next = playing p }

-- What a line after `go` requests: a change, the begin or the end of a batch, another count of kinds, a question's reply, or nothing that is known there. Tickets of document 02 add to it.
pub data Request : Type 0 where
  changing : Change → Request
  beginning : Request
  ending : Request
  setting_kinds : ℕ → Request
  questioning : Question → Request
  unknown : Request

-- ".. then `add` and `cut`", "(from, to)"; document 02, ticket 2: "Lines `mark` and `unmark` name a state", by ticket 9 with a kind; ticket 5: `begin` and `end`; ticket 8:
-- "A line `ways` with a state"; ticket 10: "The line `kinds` is .. taken after `go` as well."; ticket 11: "A line `short` with a budget B"
unfoldable pub request_of : Record → Request
request_of r =
    cond (is_word r.word Add) (changing (add (r.first, r.second)))
    (cond (is_word r.word Cut) (changing (cut (r.first, r.second)))
    (cond (is_word r.word Mark) (changing (mark r.first r.second))
    (cond (is_word r.word Unmark) (changing (unmark r.first r.second))
    (cond (is_word r.word Begin) beginning
    (cond (is_word r.word End) ending
    (cond (is_word r.word Kinds) (setting_kinds r.first)
    (cond (is_word r.word Ways) (questioning (ways r.first))
    (cond (is_word r.word Short) (questioning (short r.first))
    unknown))))))))

-- "after `go` the next line is read": an `end` outside a batch is misplaced
abbrev pub play_step : Request → Play → Step
play_step (changing c) p = call_step (update (single c)) p
play_step beginning p = quiet (batching p [])
play_step ending p = no_step 1 (playing p)
play_step (setting_kinds k) p = call_step (set_kinds k) p
play_step (questioning q) p = question_step q p
play_step unknown p = no_step 1 (playing p)

unfoldable pub after_go : Play → Record → Step
after_go p r = play_step (request_of r) p

-- Ticket 5: "Lines between `begin` and `end` form a batch", which is answered at `end`; "Any other line inside gets 1", at its position. "An input that ends inside a
-- batch does none of it and prints nothing for it."
abbrev pub batch_step : Request → Play → List BatchLine → Step
batch_step (changing c) p xs = quiet (batching p (xs ++ (makes c ∷ [])))
batch_step beginning p xs = quiet (batching p (xs ++ (other ∷ [])))
batch_step ending p xs = call_step (update (batch xs)) p
batch_step (setting_kinds k) p xs = quiet (batching p (xs ++ (other ∷ [])))
batch_step (questioning q) p xs = quiet (batching p (xs ++ (other ∷ [])))
batch_step unknown p xs = quiet (batching p (xs ++ (other ∷ [])))

unfoldable pub in_batch : Play → List BatchLine → Record → Step
in_batch p xs r = batch_step (request_of r) p xs

unfoldable pub step : Held → Record → Step
step waiting r = at_first r
step (opened d) r = behind_game d r
step (gathering d) r = before_go d r
step (playing p) r = after_go p r
step (batching p xs) r = in_batch p xs r
step ended r = quiet ended

-- the lines written for the records, one after the other
unfoldable pub printed : Held → List Record → List Line
printed held [] = []
printed held (r ∷ rs) = (step held r).lines ++ printed (step held r).next rs

-- what is held behind some records, one after the other
unfoldable pub held_behind : Held → List Record → Held
held_behind held [] = held
held_behind held (r ∷ rs) = held_behind (step held r).next rs

-- "An input of more than 4,294,967,295 bytes counts as ending behind the last newline among these."
abbrev pub limit : ℕ
limit = 4294967295

-- a text up to and with its last newline
unfoldable pub whole_lines : List ℕ → List ℕ
whole_lines [] = []
whole_lines (b ∷ bs) = cond (any (eqb newline) (b ∷ bs)) (b ∷ whole_lines bs) []

unfoldable pub counted : List ℕ → List ℕ
counted text = cond (leb (length text) limit) text (whole_lines (take limit text))

-- what the box writes for a text that counts whole, line by line, as bytes
unfoldable pub output_of : List ℕ → List (List ℕ)
output_of text = map render (printed waiting (map record_of (lines_of text)))

unfoldable pub output : List ℕ → List (List ℕ)
output text = output_of (counted text)

-- ---- a bench program's output

-- the lines one behind the other, up to the first that does not fit whole in so many bytes
unfoldable pub fitted : ℕ → List (List ℕ) → List ℕ
fitted space [] = []
fitted space (l ∷ ls) = cond (leb (length l) space) (l ++ fitted (space - length l) ls) []

-- refusal 12, "An answer line does not fit whole into the output lent by a bench program": 1 where it does not, else 0
unfoldable pub stopped : ℕ → List (List ℕ) → ℕ
stopped space [] = 0
stopped space (l ∷ ls) = cond (leb (length l) space) (stopped (space - length l) ls) 1

-- "It uses at most the first 65,536 bytes of the output"
abbrev pub output_most : ℕ
output_most = 65536

abbrev pub space_of : List ℕ → ℕ
space_of out = min (length out) output_most

-- "changes none after the last whole line that fits, and returns twice the bytes written, plus 1 where 12 stopped it"
pub record Fitted (ls : List (List ℕ)) (space : ℕ) (out out' : List ℕ) (r : ℕ) : Type 0 where
  pub made : out' ≡ overwritten out 0 (fitted space ls)
  pub told : r ≡ 2 * length (fitted space ls) + stopped space ls

-- "Bench programs in C call the same watch with a whole text and an output"
abbrev pub Watched : List ℕ → List ℕ → List ℕ → ℕ → Type 0
Watched text out out' r = Fitted (output text) (space_of out) out out' r
