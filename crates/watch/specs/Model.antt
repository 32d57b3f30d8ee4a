-- What the functions of one line do, in their own terms: what the session is asked, and the lines that tell its answer. Cited by contracts;
-- proofs/Steps.antt ties it to the plain definitions. Assumes nothing.
use Rattle.std.specs.Prelude.{ℕ, ◌/◌, ◌≡◌, ◌&&◌, cond, List, [], ◌∷◌, leb, length, take}
use Rattle.plain.specs.Table.{by_kind, accepting_count}
use Rattle.plain.specs.Refusals.{Load}
use Rattle.plain.specs.Machine.{Line, game_line}
use Rattle.answer.specs.Bytes.{overwritten}
use Rattle.answer.specs.Rendering.{render, rendered}
use Rattle.verdict.specs.declared.Answer.{Answer}
use Rattle.verdict.specs.declared.Answer.TheVariants.{Refused}
use Rattle.verdict.specs.Answers.{is_refused, shown}
use Rattle.question.specs.declared.Reply.{Reply}
use Rattle.question.specs.Replies.{question_of, reply_shown}
use Rattle.session.specs.declared.Session.{Session}
use Rattle.session.specs.declared.Outcome.{Outcome}
use Rattle.session.specs.Promises.{command_of, Loads, Updates, Replies}
use Rattle.lead.specs.declared.Stage.TheVariants.{Playing, Over}
use Rattle.lead.specs.declared.Lead.{Lead}
use Rattle.lead.specs.declared.Ask.{Ask}
use Rattle.lead.specs.declared.Ask.TheVariants.{Load as AskLoad, Call as AskCall}
use Rattle.lead.specs.declared.Task.{Task}
use Rattle.lead.specs.declared.Task.TheVariants.{Nothing, Refuse, Ask as Asks, Question as Questions}
use Rattle.lead.specs.declared.Plan.{Plan}
use Rattle.lead.specs.Asked.{staged}
use Rattle.watch.specs.declared.Written.{Written}
use Rattle.watch.specs.Text.{room}

-- ---- what the session is asked

-- the numbers of the list that are those of the moves, or of a batch's lines
abbrev pub numbers_held : Lead → List ℕ → List ℕ
numbers_held l ns = take l.count ns

-- what the lead, the marks and the list gathered
abbrev pub gathered : Lead → List ℕ → List ℕ → Load
gathered l marks ns = record { size = l.size; start = l.start; kinds = l.kinds; marks = by_kind marks; numbers = numbers_held l ns }

-- by what is asked, the session's own promise
abbrev pub Serves : Ask → Lead → List ℕ → List ℕ → Session → List ℕ → Outcome → List ℕ → Type 0
Serves AskLoad l marks ns s walk r walk' = Loads (gathered l marks ns) walk r walk'
Serves (AskCall command) l marks ns s walk r walk' = Updates (command_of command (numbers_held l ns)) s walk r walk'

-- By what is to be done, what is replied: to a question what the session promises of it; elsewhere nothing, and the 0 that stands for it is not told.
abbrev pub Replied : Task → Session → Reply → Type 0
Replied Nothing s r = r ≡ Reply.Refused 0
Replied (Refuse refusal) s r = r ≡ Reply.Refused 0
Replied (Asks ask) s r = r ≡ Reply.Refused 0
Replied (Questions q) s r = Replies (question_of q) s r

-- ---- the lines that tell it

-- the lines that tell an answer have no more bytes
abbrev pub lines_most : ℕ
lines_most = 3200

-- of these, the line `game`
abbrev pub game_most : ℕ
game_most = 23

-- "An accepted load writes `game`, N, the count of moves and the count of paying states. Then come the load's answer .."
abbrev pub lines_of_load : Lead → List ℕ → Answer → List ℕ → List Line
lines_of_load l marks answer walk = cond (is_refused answer) (shown answer walk ∷ [])
    (game_line l.size (l.count / 2) (accepting_count (by_kind marks)) ∷ shown answer walk ∷ [])

-- a line that is refused as it is read is told by its plan alone
abbrev pub lines_for : Task → Lead → List ℕ → Answer → Reply → List ℕ → List Line
lines_for Nothing l marks answer reply walk = []
lines_for (Refuse refusal) l marks answer reply walk = shown (Refused refusal) walk ∷ []
lines_for (Asks AskLoad) l marks answer reply walk = lines_of_load l marks answer walk
lines_for (Asks (AskCall command)) l marks answer reply walk = shown answer walk ∷ []
lines_for (Questions q) l marks answer reply walk = reply_shown reply ∷ []

-- The lines told of a plan, the marks, an answer and a reply, with the list of the walk, in a buffer of so many bytes. Where that list is longer than the box's own, or the
-- buffer too short for some answer, none is told.
unfoldable pub lines_told : Plan → List ℕ → Answer → Reply → List ℕ → ℕ → List Line
lines_told p marks answer reply walk size = cond (leb (length walk) room && leb lines_most size) (lines_for p.task p.lead marks answer reply walk) []

-- "A refusal up to and with `go` .. ends the program"
abbrev pub lead_loaded : Lead → Answer → Lead
lead_loaded l answer = staged (cond (is_refused answer) Over Playing) l

abbrev pub lead_for : Task → Lead → Answer → Lead
lead_for Nothing l answer = l
lead_for (Refuse refusal) l answer = l
lead_for (Asks AskLoad) l answer = lead_loaded l answer
lead_for (Asks (AskCall command)) l answer = l
lead_for (Questions q) l answer = l

-- the first line's bytes
abbrev pub first_of : List Line → List ℕ
first_of [] = []
first_of (l ∷ ls) = render l

-- lines at the head of a buffer: the whole buffer, and the lengths of the first line and of all
pub record Laid (ls : List Line) (out out' : List ℕ) (first len : ℕ) : Type 0 where
  pub made : out' ≡ overwritten out 0 (rendered ls)
  pub split : first ≡ length (first_of ls)
  pub ends : len ≡ length (rendered ls)

-- what `write` does: the lines told, and what is held behind the line
pub record Writes (p : Plan) (marks : List ℕ) (answer : Answer) (reply : Reply) (walk out out' : List ℕ) (r : Written) : Type 0 where
  pub goes : r.lead ≡ lead_for p.task p.lead answer
  pub laid : Laid (lines_told p marks answer reply walk (length out)) out out' r.first r.len

-- how many bytes of at most two lines fit whole
unfoldable pub fits : ℕ → ℕ → ℕ → ℕ
fits space first len = cond (leb len space) len (cond (leb first space) first 0)
