-- What a line asks for, and what is held from line to line, in the code's own terms. Cited by contracts; crates/watch/proofs/Steps.antt ties it to the
-- plain definitions. Assumes nothing.
use Rattle.std.specs.Prelude.{ℕ, ◌+◌, ◌*◌, ◌-◌, Bool, true, false, ◌&&◌, not, cond, List, [], ◌∷◌, eqb, ltb, leb, length}
use Rattle.plain.specs.Table.{with_mark}
use Rattle.line.specs.Words.{is_word}
use Rattle.line.specs.declared.Word.TheVariants.{Game, Pay, Move, Go, Kinds}
use Rattle.line.specs.declared.Word.{Word}
use Rattle.line.specs.declared.Record.{Record}
use Rattle.answer.specs.Bytes.{overwritten}
use Rattle.table.specs.declared.Op.{Op}
use Rattle.table.specs.declared.Op.TheVariants.{Add, Cut, Mark, Unmark}
use Rattle.batch.specs.declared.Update.TheVariants.{Change, Batch}
use Rattle.batch.specs.declared.Command.{Command}
use Rattle.table.specs.declared.Position.TheVariants.{Alone}
use Rattle.batch.specs.declared.BatchLine.{BatchLine}
use Rattle.batch.specs.Batches.{line_for, line_to}
use Rattle.question.specs.declared.Question.{Question}
use Rattle.question.specs.declared.Topic.{Topic}
use Rattle.question.specs.declared.Topic.TheVariants.{Ways, Short}
use Rattle.lead.specs.declared.Stage.{Stage}
use Rattle.lead.specs.declared.Stage.TheVariants.{Waiting, Opened, Gathering, Playing, Batching, Over}
use Rattle.lead.specs.declared.Lead.{Lead}
use Rattle.lead.specs.declared.Ask.TheVariants.{Load as AskLoad, Call as AskCall}
use Rattle.lead.specs.declared.Request.{Request}
use Rattle.lead.specs.declared.Request.TheVariants as R
use Rattle.lead.specs.declared.Task.TheVariants.{Nothing, Refuse, Ask as Asks, Question as Questions}
use Rattle.lead.specs.declared.Plan.{Plan}

-- what is held before the first line
abbrev pub first_lead : Lead
first_lead = record { stage = Waiting; size = 0; start = 0; kinds = 1; count = 0 }

-- ---- what a line asks for

-- the lead at another stage
abbrev pub staged : Stage → Lead → Lead
staged stage l = record { stage = stage; size = l.size; start = l.start; kinds = l.kinds; count = l.count }

-- nothing is to be done
abbrev pub no_task : Lead → Plan
no_task l = record { lead = l; task = Nothing }

-- the line is refused
abbrev pub refusing : Stage → Lead → ℕ → Plan
refusing stage l n = record { lead = staged stage l; task = Refuse (record { number = n; position = Alone }) }

-- what was gathered is to be loaded
abbrev pub loading : Lead → Plan
loading l = record { lead = l; task = Asks AskLoad }

-- a call is asked of the session
abbrev pub calling : Command → Lead → Plan
calling command l = record { lead = l; task = Asks (AskCall command) }

-- a change is asked of the session
abbrev pub changing : Op → Lead → Plan
changing op l = record { lead = l; task = Asks (AskCall (Command.Update (Change op))) }

-- another count of kinds is
abbrev pub setting_kinds : ℕ → Lead → Plan
setting_kinds k l = record { lead = l; task = Asks (AskCall (Command.Kinds k)) }

-- a question is
abbrev pub questioning : Question → Lead → Plan
questioning q l = record { lead = l; task = Questions q }

-- the batch that is held is asked of it
abbrev pub ending : Lead → Plan
ending l = record { lead = staged Playing l; task = Asks (AskCall (Command.Update Batch)) }

-- inside a batch, with so many numbers of its lines
abbrev pub batching : Lead → ℕ → Lead
batching l count = record { stage = Batching; size = l.size; start = l.start; kinds = l.kinds; count = count }

-- "Order: one `game`"
unfoldable pub asked_first : Lead → Record → Plan
asked_first l r = cond (is_word r.word Game)
    (no_task (record { stage = Opened; size = r.first; start = r.second; kinds = 1; count = 0 }))
    (refusing Over l 1)

-- the numbers of 2,048 moves, two for each
abbrev pub numbers_most : ℕ
numbers_most = 4096

-- are there 2,048 moves?
unfoldable pub is_full : Lead → Bool
is_full l = leb numbers_most l.count

-- "a 2,049th `move` line gets 5 as it is read"
unfoldable pub asked_move : Lead → Plan
asked_move l = cond (is_full l) (refusing Over l 5)
    (no_task (record { stage = Gathering; size = l.size; start = l.start; kinds = l.kinds; count = l.count + 2 }))

-- ".. any `pay`, any `move`, one `go`"
unfoldable pub asked_before : Lead → Record → Plan
asked_before l r =
    cond (is_word r.word Pay && eqb l.count 0)
    (no_task (staged Gathering l))
    (cond (is_word r.word Move) (asked_move l)
    (cond (is_word r.word Go) (loading l)
    (refusing Over l 1)))

-- ticket 9: "A line `kinds` with K, 1 to 4, may directly follow `game`"; what K may be is tried at the load
unfoldable pub asked_opened : Lead → Record → Plan
asked_opened l r = cond (is_word r.word Kinds)
    (no_task (record { stage = Gathering; size = l.size; start = l.start; kinds = r.first; count = 0 }))
    (asked_before l r)

-- a question about a topic, with the number that goes with it
abbrev pub about : Topic → ℕ → Request
about topic n = R.Question (record { topic = topic; number = n })

-- ".. then `add` and `cut`"; ticket 2: "Lines `mark` and `unmark` name a state"; ticket 5: `begin` and `end`; ticket 8: `ways`; ticket 10: `kinds`, "after `go` as well"; ticket 11: `short`.
-- Any other word is misplaced.
abbrev pub request_by : Word → ℕ → ℕ → Request
request_by Word.Add first second = R.Change (Add first second)
request_by Word.Cut first second = R.Change (Cut first second)
request_by Word.Mark first second = R.Change (Mark first second)
request_by Word.Unmark first second = R.Change (Unmark first second)
request_by Word.Begin first second = R.Begin
request_by Word.End first second = R.End
request_by Word.Kinds first second = R.Kinds first
request_by Word.Ways first second = about Ways first
request_by Word.Short first second = about Short first
request_by Word.Game first second = R.Unknown
request_by Word.Pay first second = R.Unknown
request_by Word.Move first second = R.Unknown
request_by Word.Go first second = R.Unknown
request_by Word.Unreadable first second = R.Unknown

unfoldable pub request_of : Record → Request
request_of r = request_by r.word r.first r.second

-- outside a batch an `end` is misplaced
abbrev pub plan_for : Request → Lead → Plan
plan_for (R.Change op) l = changing op l
plan_for R.Begin l = no_task (batching l 0)
plan_for R.End l = refusing Playing l 1
plan_for (R.Kinds k) l = setting_kinds k l
plan_for (R.Question q) l = questioning q l
plan_for R.Unknown l = refusing Playing l 1

unfoldable pub asked_after : Lead → Record → Plan
asked_after l r = plan_for (request_of r) l

-- the numbers of 65 lines, three for each; lines behind these are not held
abbrev pub held_most : ℕ
held_most = 195

-- a line of a batch is held, where there is a place for it
unfoldable pub holding : Lead → Plan
holding l = cond (ltb l.count held_most) (no_task (batching l (l.count + 3))) (no_task l)

-- "Lines between `begin` and `end` form a batch"
unfoldable pub asked_inside : Lead → Record → Plan
asked_inside l r = cond (is_word r.word Word.End) (ending l) (holding l)

abbrev pub asked_at : Stage → Lead → Record → Plan
asked_at Waiting l r = asked_first l r
asked_at Opened l r = asked_opened l r
asked_at Gathering l r = asked_before l r
asked_at Playing l r = asked_after l r
asked_at Batching l r = asked_inside l r
asked_at Over l r = no_task l

unfoldable pub asked : Lead → Record → Plan
asked l r = asked_at l.stage l r

-- ---- the marks

-- is the line a `pay`, where marks are gathered?
abbrev pub gathers_pay : Stage → Record → Bool
gathers_pay Waiting r = false
gathers_pay Opened r = is_word r.word Pay
gathers_pay Gathering r = is_word r.word Pay
gathers_pay Playing r = false
gathers_pay Batching r = false
gathers_pay Over r = false

-- is it one that is taken: is there no `move` yet?
unfoldable pub takes_pay : Lead → Record → Bool
takes_pay l r = eqb l.count 0 && gathers_pay l.stage r

-- The marks behind a line, eight words for each kind: a `pay` that is taken sets its state's in the words of its kind. Every other line leaves them as they were.
unfoldable pub filed_pay : Lead → Record → List ℕ → List ℕ
filed_pay l r marks = cond (takes_pay l r) (with_mark marks (512 * (r.second - 1) + r.first)) marks

-- ---- the moves' numbers

-- is the line a `move`, where moves are gathered?
abbrev pub gathers_move : Stage → Record → Bool
gathers_move Waiting r = false
gathers_move Opened r = is_word r.word Move
gathers_move Gathering r = is_word r.word Move
gathers_move Playing r = false
gathers_move Batching r = false
gathers_move Over r = false

-- is it one that is taken: are there fewer than 2,048 so far?
unfoldable pub takes_move : Lead → Record → Bool
takes_move l r = not (is_full l) && gathers_move l.stage r

-- a list with more numbers behind its first n, where it has room for them
abbrev pub filed_behind : List ℕ → ℕ → List ℕ → List ℕ
filed_behind ns n more = cond (leb (n + length more) (length ns)) (overwritten ns n more) ns

-- The list of the moves' numbers behind a line: those of a `move` that is taken stand behind the others, where the list has room. Every other line leaves
-- the list as it was.
unfoldable pub filed_move : Lead → Record → List ℕ → List ℕ
filed_move l r ns = cond (takes_move l r && leb (l.count + 2) (length ns)) (overwritten ns l.count (r.first ∷ r.second ∷ [])) ns

-- ---- the numbers of a batch's lines

-- is the line one of a batch, other than its `end`?
abbrev pub inside_line : Stage → Record → Bool
inside_line Waiting r = false
inside_line Opened r = false
inside_line Gathering r = false
inside_line Playing r = false
inside_line Batching r = not (is_word r.word Word.End)
inside_line Over r = false

-- is it one that is held?
unfoldable pub takes_line : Lead → Record → Bool
takes_line l r = ltb l.count held_most && inside_line l.stage r

-- the line as numbers: "adds, cuts and mark changes"; "Any other line inside" makes no change
abbrev pub line_from : Request → BatchLine
line_from (R.Change op) = line_to op
line_from R.Begin = line_for 0 0 0
line_from R.End = line_for 0 0 0
line_from (R.Kinds k) = line_for 0 0 0
line_from (R.Question q) = line_for 0 0 0
line_from R.Unknown = line_for 0 0 0

unfoldable pub line_read : Record → BatchLine
line_read r = line_from (request_of r)

abbrev pub numbers_of : BatchLine → List ℕ
numbers_of l = l.what ∷ l.first ∷ l.second ∷ []

unfoldable pub filed_line : Lead → Record → List ℕ → List ℕ
filed_line l r ns = cond (takes_line l r && leb (l.count + 3) (length ns)) (overwritten ns l.count (numbers_of (line_read r))) ns

-- the list behind a line
unfoldable pub filed : Lead → Record → List ℕ → List ℕ
filed l r ns = filed_line l r (filed_move l r ns)

-- ---- is the run over?

abbrev pub is_over : Stage → Bool
is_over Waiting = false
is_over Opened = false
is_over Gathering = false
is_over Playing = false
is_over Batching = false
is_over Over = true
