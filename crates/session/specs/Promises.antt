-- What load, the calls behind it and questions promise, in terms of the plain table. Assumes nothing.
use Rattle.std.specs.Prelude.{ℕ, suc, ◌≤◌, ◌<◌, ◌≡◌, ◌≢◌, Bool, false, cond, ltb, List, [], ◌∷◌, map, length}
use Rattle.plain.specs.Search.{Config, outer, nested, exhausted, found, unfinished, verdict, count, run}
use Rattle.plain.specs.Table.{Table, searched, final}
use Rattle.plain.specs.Refusals.{Load, accepted, refused, load_trial}
use Rattle.plain.specs.Machine.{Change, add, cut, mark, unmark, misnamed, BatchLine, changes_in, call_for, batch_call, Update as PlainUpdate, single, batch, Command as PlainCommand, update, set_kinds, load_answer, table_of, Call, answer_to, table_after, answers, Line, answer_line, answer_lines}
use Rattle.plain.specs.Questions.{Question, ways, short, reply_to, Operation, call as calling, question, table_next, told_all}
use Rattle.plain.specs.Claims.{Arises, OneByOne, LineTrue, LineCounted, LoopTold}
use Rattle.search.specs.Archive.{Archived}
use Rattle.verdict.specs.declared.Answer.{Answer}
use Rattle.verdict.specs.declared.Answer.TheVariants.{Refused}
use Rattle.question.specs.declared.Reply.{Reply}
use Rattle.question.specs.Replies.{replied, reply_shown}
use Rattle.verdict.specs.Answers.{shown, WalkOf, Answered, LoadAnswered}
use Rattle.table.specs.declared.Refusal.{Refusal}
use Rattle.table.specs.declared.Position.{Position}
use Rattle.batch.specs.declared.Update.{Update}
use Rattle.batch.specs.declared.Command.{Command}
use Rattle.session.specs.declared.Session.{Session}
use Rattle.session.specs.declared.Outcome.{Outcome}
use Rattle.table.specs.Trials.{change_of}
use Rattle.table.specs.Filing.{Stored}
use Rattle.batch.specs.Batches.{lines_in}
use Rattle.session.specs.Model.{arrays_held, no_game}

-- what is asked of the plain table: one change, or a batch, whose lines stand in a list of numbers; or another count of kinds
abbrev pub update_of : Update → List ℕ → PlainUpdate
update_of (Update.Change op) ns = single (change_of op)
update_of Update.Batch ns = batch (lines_in ns)

abbrev pub command_of : Command → List ℕ → PlainCommand
command_of (Command.Update u) ns = update (update_of u ns)
command_of (Command.Kinds k) ns = set_kinds k

-- the call: what is asked, and the length of the list that is lent
abbrev pub call_of : PlainCommand → List ℕ → Call
call_of c lent = record { command = c; room = length lent }

-- a mark of a kind above those in use
abbrev pub unknown_kind : ℕ → Change → Bool
unknown_kind kinds (add e) = false
unknown_kind kinds (cut e) = false
unknown_kind kinds (mark s kind) = ltb kinds kind
unknown_kind kinds (unmark s kind) = ltb kinds kind

-- What a session without a game answers, of so many kinds: a change names a state outside it, unless its kind is refused ahead of that; a batch is refused ahead of its lines, since
-- the count of states is 0, so that an empty one is refused too; and for the same reason another count of kinds is.
abbrev pub without_game : ℕ → PlainUpdate → Refusal
without_game kinds (single c) = record { number = cond (misnamed c) 1 (cond (unknown_kind kinds c) 4 6); position = Position.Alone }
without_game kinds (batch xs) = record { number = 2; position = Position.Line 0 }

abbrev pub refused_without_game : ℕ → PlainCommand → Refusal
refused_without_game kinds (update u) = without_game kinds u
refused_without_game kinds (set_kinds k) = record { number = 2; position = Position.Alone }

-- how many states are on the open path
abbrev pub height_of : Config → ℕ
height_of (outer p d k l) = length p
height_of (nested s p q d k l) = suc (length p)
height_of (exhausted d k l) = 0
height_of (found h p q d k l) = length p

-- The session holds the plain table t: its rows, its words and its counts are the table's, and its records are those of the plain search on it, at its end.
pub record Holds (s : Session) (t : Table) : Type 0 where
  pub arises : Arises t
  pub size_is : s.size ≡ t.size
  pub start_is : s.start ≡ t.start
  pub kinds_is : s.kinds ≡ t.kinds
  pub stored : Stored t (arrays_held s)
  pub steps : ℕ
  pub ended : verdict (run (searched t) steps) ≢ unfinished
  pub archived : Archived (searched t) steps s.records.number s.records.parent s.records.index s.records.probes s.records.stamp s.records.walk
  pub told : WalkOf s.stem s.length s.records.walk (verdict (final t))
  pub height_is : s.height ≡ height_of (final t)
  pub total_is : s.total ≡ count (final t)

-- A LOAD: its answer and the lent list are those of the plain table, and the session of an accepted one holds that table.
pub record Loads (l : Load) (lent : List ℕ) (r : Outcome) (lent' : List ℕ) : Type 0 where
  pub answers : LoadAnswered l lent r.answer lent'
  pub holds : load_trial l (length lent) ≡ accepted → Holds r.session (table_of l)
  -- what a refused load leaves in place of a session has no state, so every call on it is refused
  pub empty : (n : ℕ) → load_trial l (length lent) ≡ refused n → r.session ≡ no_game

-- A CALL: one change, a batch, or another count of kinds. For every plain table that the session holds: the answer and the lent list are the plain table's, and the new session holds the
-- table that the call leaves. For every session, forged too: a refusal leaves the session and the list as they were. What a refused load leaves holds no
-- table, and every call on it is refused.
pub record Updates (c : PlainCommand) (s : Session) (lent : List ℕ) (r : Outcome) (lent' : List ℕ) : Type 0 where
  pub answers : (t : Table) → Holds s t → Answered (answer_to (call_of c lent) t) lent r.answer lent'
  pub holds : (t : Table) → Holds s t → Holds r.session (table_after (call_of c lent) t)
  pub refused : (n : Refusal) → r.answer ≡ Refused n → (r.session ≡ s) × (lent' ≡ lent)
  pub no_game : s.size ≡ 0 → r.answer ≡ Refused (refused_without_game s.kinds c)

-- A QUESTION. For every plain table that the session holds, the reply is the plain table's. For every session, forged too: of `ways`, a state that is not below its count of states is
-- refused with 6, so every state where there is no game; `short` is refused with 17 where there is more than one kind, and with 2 where there is no game. What else is replied of a forged
-- session is left open. The operation takes the session and the question and gives back the reply alone: it lends no list, and the session is as it was.
pub record Replies (q : Question) (s : Session) (r : Reply) : Type 0 where
  pub replies : (t : Table) → Holds s t → r ≡ replied (reply_to q t)
  pub outside : (state : ℕ) → q ≡ ways state → s.size ≤ state → r ≡ Reply.Refused 6
  pub several_kinds : (budget : ℕ) → q ≡ short budget → 1 < s.kinds → r ≡ Reply.Refused 17
  pub no_game : (budget : ℕ) → q ≡ short budget → s.kinds ≤ 1 → s.size ≡ 0 → r ≡ Reply.Refused 2

-- ---- a list of calls and questions

-- one call as it was made: what it was given, what it answered, and what the lent list then held
pub record Exchange : Type 0 where
  pub asked : PlainCommand
  pub lent : List ℕ
  pub answered : Answer
  pub after : List ℕ

abbrev pub call_in : Exchange → Call
call_in x = call_of x.asked x.lent

-- the line by which its answer is told
abbrev pub line_in : Exchange → Line
line_in x = shown x.answered x.after

-- what was asked of a session, and what came of it: a call, or a question
pub data Event : Type 0 where
  made : Exchange → Event
  posed : Question → Reply → Event

-- the operation on the plain table, and the line by which its answer or its reply is told
abbrev pub operation_in : Event → Operation
operation_in (made x) = calling (call_in x)
operation_in (posed q r) = question q

abbrev pub line_of : Event → Line
line_of (made x) = line_in x
line_of (posed q r) = reply_shown r

-- calls on a session and questions, in any order: each call is given the session that the call before it returned, and so is a question. Each is known by its contract alone.
pub data Served : Session → List Event → Type 0 where
  done : {s : Session} → Served s []
  call : {s : Session} (c : PlainCommand) (lent : List ℕ) (r : Outcome) (lent' : List ℕ) (xs : List Event)
      → Updates c s lent r lent' → Served r.session xs
      → Served s (made (record { asked = c; lent = lent; answered = r.answer; after = lent' }) ∷ xs)
  ask : {s : Session} (q : Question) (r : Reply) (xs : List Event) → Replies q s r → Served s xs → Served s (posed q r ∷ xs)

-- ---- demand 3

-- One call on a session that holds t. "every call answers as the plain table with its plain search run afresh on the moves then present, oldest first: same
-- number, or same verdict and same walk, entry for entry"; the looks told are right; and what is told is true of the table as the call leaves it (demand 2).
pub record CallRight (x : Exchange) (t : Table) : Type 0 where
  pub answers : Answered (answer_to (call_in x) t) x.lent x.answered x.after
  pub counts : LineCounted (line_in x) x.asked t
  pub truth : LineTrue (line_in x) (table_after (call_in x) t)

-- One question on a session that holds t: it is replied as the plain table replies, and what is told is true of it (document 02, ticket 8).
pub record QuestionRight (q : Question) (r : Reply) (t : Table) : Type 0 where
  pub replies : r ≡ replied (reply_to q t)
  pub truth : LineTrue (reply_shown r) t

abbrev pub Right : Event → Table → Type 0
Right (made x) t = CallRight x t
Right (posed q r) t = QuestionRight q r t

-- something of each call and question, on the table that those before it leave
abbrev pub EachEvent : (Event → Table → Type 0) → List Event → Table → Type 0
EachEvent P [] t = Unit {0}
EachEvent P (x ∷ xs) t = P x t × EachEvent P xs (table_next (operation_in x) t)

abbrev pub AllRight : List Event → Table → Type 0
AllRight = EachEvent Right

-- DEMAND 3, "a single claim about the whole list": of a load that was accepted, and of every list of calls from its session on, with questions between them.
pub record Demand3 (l : Load) (lent : List ℕ) (r : Outcome) (lent' : List ℕ) (xs : List Event) : Type 0 where
  pub load_answers : Answered (load_answer accepted (table_of l)) lent r.answer lent'
  pub load_truth : LineTrue (shown r.answer lent') (table_of l)
  -- what is told, one behind the other, is what the plain table tells of the same calls and questions
  pub same_told : map line_of xs ≡ told_all (map operation_in xs) (table_of l)
  pub all_right : AllRight xs (table_of l)

-- Document 02, ticket 1, of the same load and calls: where the table that is then present has a paying state with a move to itself, and it can be reached, no
-- answer is "none".
pub record LoopsTold (l : Load) (r : Outcome) (lent' : List ℕ) (xs : List Event) : Type 0 where
  pub load : LoopTold (shown r.answer lent') (table_of l)
  pub calls : EachEvent (λ x t. LoopTold (line_of x) (table_next (operation_in x) t)) xs (table_of l)

-- ---- document 02, ticket 5, on the contracts

-- A batch of one change, and that change, each asked of the same session with the same list, where the change is accepted: the answer is the same, with its counts, the
-- same list is left, with its walk, and the sessions that are returned hold the same table.
pub record SameCall (c d : PlainCommand) (lent : List ℕ) (t : Table) (r r₂ : Outcome) (lent' lent₂ : List ℕ) : Type 0 where
  pub same_answer : r.answer ≡ r₂.answer
  pub same_list : lent' ≡ lent₂
  pub same_table : table_after (call_of c lent) t ≡ table_after (call_of d lent) t
  pub holds : Holds r.session (table_after (call_of d lent) t)
  pub holds₂ : Holds r₂.session (table_after (call_of d lent) t)

-- An accepted batch, and its changes as calls of their own from the same session on, with lists of the same length: the batch and the changes tell what the plain table
-- tells of them, and of the plain table it is proved that the batch's answer and the last of theirs tell the same verdict, walk and total (OneByOne).
pub record SameEnd (xs : List BatchLine) (lent : List ℕ) (t : Table) (r : Outcome) (lent' : List ℕ) (ys : List Exchange) : Type 0 where
  pub plain : OneByOne xs t (length lent)
  pub batch_tells : answer_line (answer_to (batch_call (length lent) xs) t) ≡ shown r.answer lent' ∷ []
  pub batch_holds : Holds r.session (table_after (batch_call (length lent) xs) t)
  pub changes_tell : map line_in ys ≡ answer_lines (answers (map (call_for (length lent)) (changes_in xs)) t)
