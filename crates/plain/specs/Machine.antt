-- Document 01, "The plain table" and "Load, add, cut": what each call answers, and what it leaves. Document 02, ticket 2: the paying marks can be switched too;
-- ticket 4: what is kept of moves that the search had not come to; ticket 5: batches of changes; ticket 9: kinds of pay; ticket 10: another count of kinds. Assumes nothing.
use Rattle.std.specs.Prelude.{ℕ, zero, suc, ◌+◌, ◌-◌, Bool, true, false, ◌||◌, not, List, [], ◌∷◌, ◌++◌, map, eqb, ltb, length, drop, get_or, set}
use Rattle.plain.specs.Lists.{any, all, filter}
use Rattle.plain.specs.Search.{Edge, Config, probes_of, meets, finished, Verdict, none, lasso, unfinished, verdict, count}
use Rattle.plain.specs.Table.{Table, carried_by, with_mark, without_mark, searched, copies_in, plain_edge, printed_verdict, budget, final, first_meeting, accepting_count}
use Rattle.plain.specs.Refusals.{Trial, accepted, refused, first_held, pairs, same_edge, present, outside, beyond, bad_kinds, full, room_condition, Load, load_trial}

-- A change of a session. Tickets of document 02 bring more kinds.
pub data Change : Type 0 where
  add : Edge → Change
  cut : Edge → Change
  -- ticket 2: "turns a state's pay on or off in mid-session"; ticket 9: the state and the kind, which counts from 1 as on the lines
  mark : ℕ → ℕ → Change
  unmark : ℕ → ℕ → Change

-- the states that it names: "the state that the move leaves"; of a mark, "that state"
unfoldable pub named : Change → List ℕ
named (add e) = e.0 ∷ []
named (cut e) = e.0 ∷ []
named (mark s kind) = s ∷ []
named (unmark s kind) = s ∷ []

-- "An accepted load sets these as given, its moves in their order."
unfoldable pub table_of : Load → Table
table_of l = record { size = l.size; start = l.start; kinds = l.kinds; marks = l.marks; edges = pairs l.numbers }

abbrev pub with_edges : Table → List Edge → Table
with_edges t es = record { size = t.size; start = t.start; kinds = t.kinds; marks = t.marks; edges = es }

abbrev pub with_marks : Table → List (List ℕ) → Table
with_marks t marks = record { size = t.size; start = t.start; kinds = t.kinds; marks = marks; edges = t.edges }

-- the marks with those of one kind, from 0 on, changed
unfoldable pub in_kind : ℕ → (List ℕ → List ℕ) → List (List ℕ) → List (List ℕ)
in_kind kind f marks = set marks kind (f (get_or marks kind []))

-- "takes its move out; the others keep their order"
unfoldable pub without : Edge → List Edge → List Edge
without e es = filter (λ f. not (same_edge e f)) es

-- "An accepted add puts its move at the end. An accepted cut takes its move out"; "the marks of that moment" are those that accepted marks leave
unfoldable pub apply : Change → Table → Table
apply (add e) t = with_edges t (t.edges ++ (e ∷ []))
apply (cut e) t = with_edges t (without e t.edges)
apply (mark s kind) t = with_marks t (in_kind (kind - 1) (λ words. with_mark words s) t.marks)
apply (unmark s kind) t = with_marks t (in_kind (kind - 1) (λ words. without_mark words s) t.marks)

-- The conditions of a change itself, in the order tried: "an add 6 to 9 and 11, a cut 6, 7, 10 and 11" (7 no more), 11 being behind them. Ticket 2:
-- "13, the state to be marked already pays; 14, the state to be unmarked does not; both are tried after 6 and before 11".
-- Ticket 9: a kind "above K gets 4, also for `mark` and `unmark`, before 6"; 13 and 14 "look at the kind named only".
unfoldable pub conditions : Change → Table → List (ℕ × Bool)
conditions (add e) t = (6, outside t.size e) ∷ (8, present t.edges e) ∷ (9, full t.kinds t.edges) ∷ []
conditions (cut e) t = (6, outside t.size e) ∷ (10, not (present t.edges e)) ∷ []
conditions (mark s kind) t = (4, ltb t.kinds kind) ∷ (6, beyond t.size s) ∷ (13, carried_by t.marks (kind - 1) s) ∷ []
conditions (unmark s kind) t = (4, ltb t.kinds kind) ∷ (6, beyond t.size s) ∷ (14, not (carried_by t.marks (kind - 1) s)) ∷ []

-- Ticket 9: "A kind outside 1 to 4 gets 1", ahead of all else.
unfoldable pub misnamed : Change → Bool
misnamed (add e) = false
misnamed (cut e) = false
misnamed (mark s kind) = eqb kind 0 || ltb 4 kind
misnamed (unmark s kind) = eqb kind 0 || ltb 4 kind

unfoldable pub change_trial : Change → Table → ℕ → Trial
change_trial c t room = first_held ((1, misnamed c) ∷ (conditions c t ++ room_condition t.size t.kinds room))

-- ---- ticket 5

-- A line of a batch: one that makes a change, or "Any other line inside".
pub data BatchLine : Type 0 where
  makes : Change → BatchLine
  other : BatchLine

-- The conditions of the i-th line of a batch, in the order tried: "Any other line inside gets 1"; "15, a 65th change stands in a batch; it is tried after 1 and before
-- that change's other refusals". The lines before it are changes, since none of them is refused: the 65th line is the 65th change.
unfoldable pub line_conditions : ℕ → BatchLine → Table → List (ℕ × Bool)
line_conditions i (makes c) t = (1, misnamed c) ∷ (15, ltb 64 i) ∷ conditions c t
line_conditions i other t = (1, true) ∷ []

-- what trying a batch comes to, and the position of the line with which it ends
pub record BatchTrial : Type 0 where
  pub trial : Trial
  pub position : ℕ

-- the changes that lines make
unfoldable pub changes_in : List BatchLine → List Change
changes_in [] = []
changes_in (makes c ∷ xs) = c ∷ changes_in xs
changes_in (other ∷ xs) = changes_in xs

-- changes, one after the other
unfoldable pub apply_all : List Change → Table → Table
apply_all [] t = t
apply_all (c ∷ cs) t = apply_all cs (apply c t)

-- the states "that any of them names as left, marked or unmarked"
unfoldable pub named_all : List Change → List ℕ
named_all [] = []
named_all (c ∷ cs) = named c ++ named_all cs

-- The lines from the i-th on: "Each is tried against the table as the earlier ones leave it". "On a refusal the rest up to `end` is passed over".
unfoldable pub lines_trial : ℕ → List BatchLine → Table → BatchTrial
lines_trial i [] t = record { trial = accepted; position = i }
lines_trial i (x ∷ xs) t = elim (first_held (line_conditions i x t)) [
  | accepted ↦ lines_trial (suc i) xs (apply_all (changes_in (x ∷ [])) t)
  | refused n ↦ record { trial = refused n; position = i }
]

-- "Refusal 11 is tried once, ahead of the changes, with position 0"; "the line's position from 1"
unfoldable pub batch_trial : List BatchLine → Table → ℕ → BatchTrial
batch_trial xs t room = elim (first_held (room_condition t.size t.kinds room)) [
  | accepted ↦ lines_trial 1 xs t
  | refused n ↦ record { trial = refused n; position = 0 }
]

-- ---- changes, alone or in a batch

-- one change, or a batch of lines
pub data Update : Type 0 where
  single : Change → Update
  batch : List BatchLine → Update

-- the changes that it makes
unfoldable pub changes_of : Update → List Change
changes_of (single c) = c ∷ []
changes_of (batch xs) = changes_in xs

-- the table that it leaves where it is accepted; of a batch "all are done or none"
unfoldable pub applied : Update → Table → Table
applied (single c) t = apply c t
applied (batch xs) t = apply_all (changes_in xs) t

-- the states that it names
unfoldable pub named_by : Update → List ℕ
named_by (single c) = named c
named_by (batch xs) = named_all (changes_in xs)

unfoldable pub update_trial : Update → Table → ℕ → Trial
update_trial (single c) t room = change_trial c t room
update_trial (batch xs) t room = (batch_trial xs t room).trial

-- where a refusal stands: it is that of the call, or that of a line of a batch, with its position
pub data Position : Type 0 where
  alone : Position
  at_line : ℕ → Position

unfoldable pub position_in : Update → Table → ℕ → Position
position_in (single c) t room = alone
position_in (batch xs) t room = at_line (batch_trial xs t room).position

-- "A refused call's answer is its number, with what a ticket adds to it": of a batch "the number and the line's position".
pub record Refusal : Type 0 where
  pub number : ℕ
  pub position : Position

abbrev pub numbered : ℕ → Refusal
numbered n = record { number = n; position = alone }

-- "Each answers with a verdict, the looks spent and the looks kept"; a refused call with its refusal.
pub data Answer : Type 0 where
  refusal : Refusal → Answer
  answer : Verdict → ℕ → ℕ → Answer

-- Ticket 4, moves "that the last run never reached": "If that run had not looked at a cut move, or had not finished the outer moves of the state that an added one
-- leaves". That run is the plain search on t, the table as the change finds it. A state never met has not finished. The ticket speaks of moves alone. Ticket 9: it "needs
-- its condition in every layer": no copy of the state has finished, and no look, in whatever layer, was at that move.
unfoldable pub unexplored : Change → Table → Bool
unexplored (add e) t = not (any (finished (searched t) (budget t)) (copies_in t (e.0 ∷ [])))
unexplored (cut e) t = not (present (map (plain_edge t) (probes_of (final t))) e)
unexplored (mark s kind) t = false
unexplored (unmark s kind) t = false

-- Ticket 5, of a change in a batch: it "falls under Ticket 4, or marks or unmarks a state never met, by the run before the batch". Moves of a state never met fall
-- under Ticket 4. t is the table as the batch finds it.
unfoldable pub passed_over : Change → Table → Bool
passed_over c t = unexplored c t || not (meets (copies_in t (named c)) (final t))

-- Does the call keep every look by ticket 4, or as a batch by ticket 5? "An empty batch keeps every look, and so does one whose every change .."
unfoldable pub keeps_all : Update → Table → Bool
keeps_all (single c) t = unexplored c t
keeps_all (batch xs) t = all (λ c. passed_over c t) (changes_in xs)

-- The plain search on the new table, as far as it is kept. "the new run is the old one .. kept is the full count. In all other cases kept is counted as before":
-- up to where that search "first meets the state that the move leaves", or the state of a mark, "or all .. if it never meets it"; of a batch "where it first meets a
-- state that any of them names". t is the table as the call finds it.
unfoldable pub kept_part : Update → Table → Config
kept_part u t = elim (keeps_all u t) [ true ↦ final (applied u t) | false ↦ first_meeting (named_by u) (applied u t) ]

-- "kept is the looks of the plain search on the new table" as far as it is kept
unfoldable pub kept : Update → Table → ℕ
kept u t = count (kept_part u t)

-- ---- ticket 10

-- "Marks of kinds up to the new K stay, those above are dropped"
unfoldable pub up_to_kind : ℕ → List (List ℕ) → List (List ℕ)
up_to_kind k [] = []
up_to_kind zero (words ∷ rest) = map (λ w. 0) words ∷ up_to_kind zero rest
up_to_kind (suc k) (words ∷ rest) = words ∷ up_to_kind k rest

-- the table with k kinds in use: ".. and moves hold their arrival order"
unfoldable pub to_kinds : ℕ → Table → Table
to_kinds k t = record { size = t.size; start = t.start; kinds = k; marks = up_to_kind k t.marks; edges = t.edges }

-- "Refusals 16 and then 11 apply", 11 by the new K: the list lent is for the walk on its layers
unfoldable pub kinds_trial : ℕ → Table → ℕ → Trial
kinds_trial k t room = first_held ((16, bad_kinds k t.size (length t.edges)) ∷ room_condition t.size k room)

-- ---- calls

-- What a call on a session asks for: changes, or another count of kinds.
pub data Command : Type 0 where
  update : Update → Command
  -- ticket 10: "The line `kinds` is .. taken after `go` as well."
  set_kinds : ℕ → Command

abbrev pub command_trial : Command → Table → ℕ → Trial
command_trial (update u) t room = update_trial u t room
command_trial (set_kinds k) t room = kinds_trial k t room

-- where a refusal of it stands
abbrev pub position_for : Command → Table → ℕ → Position
position_for (update u) t room = position_in u t room
position_for (set_kinds k) t room = alone

-- the table that it leaves where it is accepted
abbrev pub commanded : Command → Table → Table
commanded (update u) t = applied u t
commanded (set_kinds k) t = to_kinds k t

-- the looks that are kept: of another count of kinds "kept 0"
abbrev pub kept_by : Command → Table → ℕ
kept_by (update u) t = kept u t
kept_by (set_kinds k) t = 0

-- "After a load, kept is 0."
unfoldable pub load_answer : Trial → Table → Answer
load_answer accepted t = answer (printed_verdict t (verdict (final t))) (count (final t)) 0
load_answer (refused n) t = refusal (numbered n)

-- "a refused call leaves it as it was"
abbrev pub after : Trial → Table → Table → Table
after accepted new old = new
after (refused n) new old = old

-- A call on a session: what it asks for, and "of the list lent for the walk the length alone".
pub record Call : Type 0 where
  pub command : Command
  pub room : ℕ

-- a call that makes one change, and one that makes a batch
abbrev pub call_for : ℕ → Change → Call
call_for room c = record { command = update (single c); room = room }

abbrev pub batch_call : ℕ → List BatchLine → Call
batch_call room xs = record { command = update (batch xs); room = room }

-- one that sets another count of kinds
abbrev pub kinds_call : ℕ → ℕ → Call
kinds_call room k = record { command = set_kinds k; room = room }

unfoldable pub trial_of : Call → Table → Trial
trial_of c t = command_trial c.command t c.room

-- "spent is the rest": t is the table as the call finds it. Ticket 10: the line `kinds` "is answered in the form of a change".
unfoldable pub call_answer : Trial → Call → Table → Answer
call_answer accepted c t =
    let u = commanded c.command t in
    let k = kept_by c.command t in
    answer (printed_verdict u (verdict (final u))) (count (final u) - k) k
call_answer (refused n) c t = refusal (record { number = n; position = position_for c.command t c.room })

unfoldable pub answer_to : Call → Table → Answer
answer_to c t = call_answer (trial_of c t) c t

unfoldable pub table_after : Call → Table → Table
table_after c t = after (trial_of c t) (commanded c.command t) t

-- a list of calls, any number of them
unfoldable pub answers : List Call → Table → List Answer
answers [] t = []
answers (c ∷ cs) t = answer_to c t ∷ answers cs (table_after c t)

-- What the list lent for the walk then holds: "the stem first, and the round .. behind the stem. Entries after the walk keep their values;
-- for "none" all do", and no lent list changes on a refusal.
unfoldable pub written : Answer → List ℕ → List ℕ
written (refusal r) lent = lent
written (answer none spent kept) lent = lent
written (answer (lasso stem cycle) spent kept) lent = stem ++ (cycle ++ drop (length stem + length cycle) lent)
written (answer unfinished spent kept) lent = lent

-- The output lines, their fields in the order printed.
pub data Line : Type 0 where
  -- N, the count of moves, the count of paying states
  game_line : ℕ → ℕ → ℕ → Line
  -- spent, kept, stem length, round length, the walk
  round_line : ℕ → ℕ → ℕ → ℕ → List ℕ → Line
  -- spent, kept
  none_line : ℕ → ℕ → Line
  -- the refusal's number, and of a batch the line's position
  no_line : Refusal → Line
  -- document 02, ticket 8: the state, the count of moves that leave it, the count that enter it
  ways_line : ℕ → ℕ → ℕ → Line
  -- ticket 11: "the length of the best round known, and the smallest length not ruled out"; or, "With no round the line is `none` alone"
  short_line : ℕ → ℕ → Line
  no_round_line : Line

unfoldable pub answer_line : Answer → List Line
answer_line (refusal r) = no_line r ∷ []
answer_line (answer none spent kept) = none_line spent kept ∷ []
answer_line (answer (lasso stem cycle) spent kept) = round_line spent kept (length stem) (length cycle) (stem ++ cycle) ∷ []
answer_line (answer unfinished spent kept) = []

unfoldable pub answer_lines : List Answer → List Line
answer_lines [] = []
answer_lines (a ∷ rest) = answer_line a ++ answer_lines rest

-- the lines of a load and the calls after it; a refused load ends the session
unfoldable pub transcript : Load → ℕ → List Call → List Line
transcript l room cs = elim (load_trial l room) [
  | accepted ↦ game_line l.size (length (pairs l.numbers)) (accepting_count l.marks)
      ∷ answer_lines (load_answer accepted (table_of l) ∷ answers cs (table_of l))
  | refused n ↦ no_line (numbered n) ∷ []
]
