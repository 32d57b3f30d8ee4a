-- Document 02, ticket 8: questions on a session. The plain table answers them as it stands, and they change nothing. Ticket 11 brings the shortest round; tickets to come bring more
-- kinds. Assumes nothing.
use Rattle.std.specs.Prelude.{ℕ, List, [], ◌∷◌, ◌++◌, eqb, ltb, length}
use Rattle.plain.specs.Lists.{filter}
use Rattle.plain.specs.Search.{Edge, Verdict, none, lasso, unfinished, verdict}
use Rattle.plain.specs.Table.{Table, graph_of, final}
use Rattle.plain.specs.Shortest.{roots, Hunt, found_at, left_at, hunt}
use Rattle.plain.specs.Refusals.{Trial, accepted, refused, first_held, beyond}
use Rattle.plain.specs.Machine.{numbered, Call, answer_to, table_after, Line, no_line, ways_line, short_line, no_round_line, answer_line}

-- "the count of moves that leave it and the count that enter it", each "a count over the present moves": a move from a state to itself is one of both
unfoldable pub out_degree : List Edge → ℕ → ℕ
out_degree es s = length (filter (λ (e : Edge). eqb e.0 s) es)

unfoldable pub in_degree : List Edge → ℕ → ℕ
in_degree es s = length (filter (λ (e : Edge). eqb e.1 s) es)

-- What is asked: "how many moves leave and enter a state"; the shortest round "with a budget B".
pub data Question : Type 0 where
  ways : ℕ → Question
  short : ℕ → Question

-- What is replied: a refusal's number; of `ways` the state and the two counts; of `short` the two lengths, or that there is no round.
pub data Reply : Type 0 where
  no_reply : ℕ → Reply
  degrees : ℕ → ℕ → ℕ → Reply
  shortest : ℕ → ℕ → Reply
  no_round : Reply

-- "A state outside the game gets refusal 6."; of `short`: "17, K is above 1"
unfoldable pub question_trial : Question → Table → Trial
question_trial (ways s) t = first_held ((6, beyond t.size s) ∷ [])
question_trial (short b) t = first_held ((17, ltb 1 t.kinds) ∷ [])

-- the searches of a line `short` with a budget of b looks, where the present walk's round has so many moves: no longer one is tried
unfoldable pub hunt_in : Table → ℕ → ℕ → Hunt
hunt_in t b present = hunt (graph_of t) b (roots (graph_of t) t.size) present 1 0

-- "Found within B, both are the shortest length. Otherwise the first is the present walk's round length"
unfoldable pub lengths_for : ℕ → Hunt → Reply
lengths_for present (found_at l) = shortest l l
lengths_for present (left_at l) = shortest present l

-- "With no round the line is `none` alone, for every B."
unfoldable pub short_reply : Verdict → ℕ → Table → Reply
short_reply none b t = no_round
short_reply (lasso stem cycle) b t = lengths_for (length cycle) (hunt_in t b (length cycle))
short_reply unfinished b t = no_round

unfoldable pub question_reply : Trial → Question → Table → Reply
question_reply accepted (ways s) t = degrees s (out_degree t.edges s) (in_degree t.edges s)
question_reply accepted (short b) t = short_reply (verdict (final t)) b t
question_reply (refused n) q t = no_reply n

unfoldable pub reply_to : Question → Table → Reply
reply_to q t = question_reply (question_trial q t) q t

-- "prints the word, the state, the count of moves that leave it and the count that enter it"; "gives `short`, the length of the best round known, and the smallest length not ruled out"
unfoldable pub reply_line : Reply → Line
reply_line (no_reply n) = no_line (numbered n)
reply_line (degrees s leaving entering) = ways_line s leaving entering
reply_line (shortest best least) = short_line best least
reply_line no_round = no_round_line

-- ---- calls and questions in one list

-- An operation on a session: a call, or a question.
pub data Operation : Type 0 where
  call : Call → Operation
  question : Question → Operation

-- the table that it leaves: a question's is the one that it finds
unfoldable pub table_next : Operation → Table → Table
table_next (call c) t = table_after c t
table_next (question q) t = t

-- the lines that tell what comes of it
unfoldable pub told : Operation → Table → List Line
told (call c) t = answer_line (answer_to c t)
told (question q) t = reply_line (reply_to q t) ∷ []

-- of a list, any number of them
unfoldable pub told_all : List Operation → Table → List Line
told_all [] t = []
told_all (x ∷ xs) t = told x t ++ told_all xs (table_next x t)
