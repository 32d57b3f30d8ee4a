-- Document 02, tickets 8 and 11: questions and replies as the code has them, and the replies read off the arrays of a table. Assumes nothing.
use Rattle.std.specs.Prelude.{ℕ, ◌≤◌, ◌<◌, ◌≡◌, cond, List, leb, length, get_or}
use Rattle.plain.specs.Search.{Verdict, none, lasso, unfinished}
use Rattle.plain.specs.Table.{Table}
use Rattle.plain.specs.Machine.{numbered, Line, no_line, ways_line, short_line, no_round_line}
use Rattle.plain.specs.Questions.{Question as PlainQuestion, ways, short, Reply as PlainReply, no_reply, degrees, shortest, no_round, hunt_in, lengths_for}
use Rattle.rows.specs.Rows.{degree_at}
use Rattle.shortest.specs.Model.{Holds}
use Rattle.question.specs.declared.Topic.{Topic}
use Rattle.question.specs.declared.Topic.TheVariants.{Ways, Short}
use Rattle.question.specs.declared.Question.{Question}
use Rattle.question.specs.declared.Reply.{Reply}
use Rattle.question.specs.declared.Reply.TheVariants.{Refused, Degrees, Shortest, NoRound}

-- the question of the plain table
abbrev pub topic_of : Topic → ℕ → PlainQuestion
topic_of Ways n = ways n
topic_of Short n = short n

abbrev pub question_of : Question → PlainQuestion
question_of q = topic_of q.topic q.number

-- the reply of the plain table, as the code's enum
abbrev pub replied : PlainReply → Reply
replied (no_reply n) = Refused n
replied (degrees s leaving entering) = Degrees s leaving entering
replied (shortest best least) = Shortest best least
replied no_round = NoRound

-- the line that tells a reply
abbrev pub reply_shown : Reply → Line
reply_shown (Refused n) = no_line (numbered n)
reply_shown (Degrees s leaving entering) = ways_line s leaving entering
reply_shown (Shortest best least) = short_line best least
reply_shown NoRound = no_round_line

-- `ways`, read off the arrays: 6, or the ends of the row, and the count of entering moves
unfoldable pub ways_in : ℕ → ℕ → List ℕ → List ℕ → Reply
ways_in s size starts indegree = cond (leb size s) (Refused 6) (Degrees s (degree_at starts s) (get_or indegree s 0))

-- how many moves the round of a verdict's walk has: 0 where there is none
abbrev pub RoundOf : ℕ → Verdict → Type 0
RoundOf present none = present ≡ 0
RoundOf present (lasso stem cycle) = (present ≡ length cycle) × (0 < length cycle)
RoundOf present unfinished = ⊥

-- `short`, read off the arrays: 17; 2 where there is no game; that there is no round; or the lengths of the table that the arrays hold
pub record ShortIn (budget size kinds start present : ℕ) (targets starts words : List ℕ) (r : Reply) : Type 0 where
  pub several_kinds : 1 < kinds → r ≡ Refused 17
  pub no_game : kinds ≤ 1 → size ≡ 0 → r ≡ Refused 2
  pub no_round : kinds ≤ 1 → 0 < size → present ≡ 0 → r ≡ NoRound
  pub lengths : kinds ≤ 1 → 0 < present → present ≤ 512 → (t : Table) → Holds t targets starts words size start → r ≡ replied (lengths_for present (hunt_in t budget present))
