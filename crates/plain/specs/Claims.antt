-- What is promised of the plain answers: demand 2, and what "kept" means (demand 3). proofs/Demands.antt proves it. Assumes nothing.
use Rattle.std.specs.Prelude.{ℕ, ◌+◌, ◌*◌, ◌≤◌, ◌<◌, ◌≡◌, ◌≢◌, Bool, true, false, List, [], ◌∷◌, ◌++◌, map, leb, length, take, drop}
use Rattle.plain.specs.Lists.{any, filter, In, Once, Rising}
use Rattle.plain.specs.Search.{Edge, Verdict, none, lasso, unfinished, verdict, count, taken}
use Rattle.plain.specs.Cycles.{Run, FreeRound, FullRound, OnRound, round_length, FullLoop, FullLasso}
use Rattle.plain.specs.Table.{Table, graph_of, game_of, searched, copies_in, printed, printed_verdict, plain_edge, final, first_meeting}
use Rattle.plain.specs.Refusals.{accepted, refused, flat, full, Load, load_trial, same_edge}
use Rattle.plain.specs.Machine.{Change, apply, change_trial, BatchLine, makes, changes_in, Update, applied, named_by, at_line, keeps_all, kept_part, to_kinds, Command, update, set_kinds, Answer, refusal, answer, table_of, load_answer, Call, call_for, batch_call, kinds_call, trial_of, answer_to, table_after, answers, Line, game_line, round_line, none_line, no_line, ways_line, short_line, no_round_line}
use Rattle.plain.specs.Shortest.{roots, found_at, left_at}
use Rattle.plain.specs.Rounds.{on_rounds}
use Rattle.plain.specs.Questions.{out_degree, in_degree, short, no_reply, shortest, no_round, hunt_in, reply_to}

-- the tables that a session can hold: those that a load accepts, and those to which accepted changes lead. A load accepts those of another count of kinds too (proofs/NewKinds.antt).
pub data Arises : Table → Type 0 where
  loaded : (l : Load) (room : ℕ) → load_trial l room ≡ accepted → Arises (table_of l)
  changed : (t : Table) (c : Change) (room : ℕ) → Arises t → change_trial c t room ≡ accepted → Arises (apply c t)

-- how often a move stands among looks
unfoldable pub times : Edge → List Edge → ℕ
times e looks = length (filter (same_edge e) looks)

-- Demand 2: ""None" exactly when no free round can be reached from the start state; otherwise a walk that the present table really has, into a
-- free round and once along it." Ticket 9: ""None" must mean that no reachable closed run passes all kinds, whatever states it repeats." With it, from the plain search's section
-- and the ticket: "no layered state occurs twice in the walk", which so has at most N × K entries; the looks are "those of the layers, at most two at each move in each layer".
pub record VerdictRight (t : Table) : Type 0 where
  pub ends : verdict (final t) ≢ unfinished
  pub none_only : verdict (final t) ≡ none → FullRound (game_of t) → ⊥
  pub none_if : (FullRound (game_of t) → ⊥) → verdict (final t) ≡ none
  pub walk : (stem cycle : List ℕ) → verdict (final t) ≡ lasso stem cycle → FullLasso (game_of t) (printed t stem) (printed t cycle)
  pub once : (stem cycle : List ℕ) → verdict (final t) ≡ lasso stem cycle → Once (stem ++ cycle)
  pub short : (stem cycle : List ℕ) → verdict (final t) ≡ lasso stem cycle → length stem + length cycle ≤ t.size * t.kinds
  pub looks : count (final t) ≤ 2 * (length t.edges * t.kinds)
  pub each : (e : Edge) → times e (taken (final t)) ≤ 2

-- A verdict as a caller gets it: "none", or "round" with the lengths of stem and round, and the walk.
pub data Report : Type 0 where
  clear : Report
  round : ℕ → ℕ → List ℕ → Report

-- A printed verdict as a caller gets it. Of no table that a session can hold is it `unfinished` (VerdictRight, `ends`): that would be
-- a round without a state, which is right of no table.
unfoldable pub report_of : Verdict → Report
report_of none = clear
report_of (lasso stem cycle) = round (length stem) (length cycle) (stem ++ cycle)
report_of unfinished = round 0 0 []

-- Demand 2 of such a verdict: "none" exactly when no free round can be reached; otherwise the walk has the lengths told, and is a stem and a round of
-- the table, which passes all kinds.
pub record ReportRight (r : Report) (t : Table) : Type 0 where
  pub clear_only : r ≡ clear → FullRound (game_of t) → ⊥
  pub clear_if : (FullRound (game_of t) → ⊥) → r ≡ clear
  pub lengths : (stem cycle : ℕ) (walk : List ℕ) → r ≡ round stem cycle walk → length walk ≡ stem + cycle
  pub lasso_there : (stem cycle : ℕ) (walk : List ℕ) → r ≡ round stem cycle walk → FullLasso (game_of t) (take stem walk) (drop stem walk)

-- the changes are accepted one by one, each on the table that those before it leave
abbrev pub AllAccepted : ℕ → List Change → Table → Type 0
AllAccepted room [] t = Unit {0}
AllAccepted room (c ∷ cs) t = (change_trial c t room ≡ accepted) × AllAccepted room cs (apply c t)

-- Of a call that is answered with so many looks spent and kept; t is the table as the call finds it.
pub record KeptRight (u : Update) (t : Table) (spent kept : ℕ) : Type 0 where
  -- Ticket 4, of moves that the search had not come to, and ticket 5 of a batch of such: "the new run is the old one", the same looks, move for move, and the same
  -- verdict and walk. "Spent is then 0 and kept is the full count."
  pub same_run : keeps_all u t ≡ true → (taken (final (applied u t)) ≡ taken (final t)) × (printed_verdict (applied u t) (verdict (final (applied u t))) ≡ printed_verdict t (verdict (final t)))
  pub all_kept : keeps_all u t ≡ true → (spent ≡ 0) × (kept ≡ count (final (applied u t)))
  -- "In all other cases kept is counted as before": "Kept is the looks which that search makes before it first meets the state that the changed move leaves (all if
  -- never)", or the state marked or unmarked; of a batch, "a state that any of them names"
  pub kept_is : keeps_all u t ≡ false → kept ≡ count (first_meeting (named_by u) (applied u t))
  -- either way they are the first looks of that search
  pub new_run : take kept (taken (final (applied u t))) ≡ taken (kept_part u t)
  -- "the run before began with these looks, move for move"
  pub run_before : take kept (taken (final t)) ≡ taken (kept_part u t)
  -- "Kept + spent = that search's full count"
  pub adds_up : kept + spent ≡ count (final (applied u t))

-- Of a call, whatever it asks for: of another count of kinds (ticket 10) "kept 0", as after a load, and every look is spent.
abbrev pub CountsRight : Command → Table → ℕ → ℕ → Type 0
CountsRight (update u) t spent kept = KeptRight u t spent kept
CountsRight (set_kinds k) t spent kept = (kept ≡ 0) × (spent ≡ count (final (to_kinds k t)))

-- an answer with its looks taken together: the verdict, the walk, and the total of kept and spent
unfoldable pub totalled : Answer → Answer
totalled (refusal r) = refusal r
totalled (answer v spent kept) = answer v (kept + spent) 0

-- the load of a table as it stands: its marks and its moves are those of that moment
unfoldable pub load_from : Table → Load
load_from t = record { size = t.size; start = t.start; kinds = t.kinds; marks = t.marks; numbers = flat t.edges }

-- Of an accepted call, and the table t that it finds: "Anyone comparing with a fresh load uses the marks of that moment" (document 02, ticket 2). A load of the
-- table as the call leaves it answers with the same verdict and walk; its looks, all spent, are those kept and those spent.
abbrev pub AsFresh : Call → Table → Type 0
AsFresh c t = trial_of c t ≡ accepted → load_answer (load_trial (load_from (table_after c t)) c.room) (table_of (load_from (table_after c t))) ≡ totalled (answer_to c t)

-- Document 02, ticket 10, of a line `kinds` and the table t that it finds: "That answer and what follows are the same as after a load of that table", which is the table with the new count of
-- kinds. The two are refused alike, answered alike, and leave the same table, so that what follows is answered alike.
pub record AsLoaded (k : ℕ) (t : Table) (room : ℕ) : Type 0 where
  pub same_trial : trial_of (kinds_call room k) t ≡ load_trial (load_from (to_kinds k t)) room
  pub same_answer : answer_to (kinds_call room k) t ≡ load_answer (load_trial (load_from (to_kinds k t)) room) (table_of (load_from (to_kinds k t)))
  pub same_table : trial_of (kinds_call room k) t ≡ accepted → table_after (kinds_call room k) t ≡ table_of (load_from (to_kinds k t))

-- the answer tells the verdict and the walk of a table, and its looks, kept and spent together, are those of its search: what a load of that table tells
abbrev pub Reports : Answer → Table → Type 0
Reports a t = totalled a ≡ load_answer accepted t

-- the table behind some calls, and the last of some answers
unfoldable pub table_behind : List Call → Table → Table
table_behind [] t = t
table_behind (c ∷ cs) t = table_behind cs (table_after c t)

unfoldable pub last_of : Answer → List Answer → Answer
last_of a [] = a
last_of a (b ∷ bs) = last_of b bs

-- Document 02, ticket 5, of a batch that is accepted: its changes are accepted one by one too, and end in the same table. The batch's answer and the last of theirs
-- tell that table: the same verdict and walk, and the same total of kept and spent. Of an empty batch the last answer is the one before it.
pub record OneByOne (xs : List BatchLine) (t : Table) (room : ℕ) : Type 0 where
  pub each_accepted : AllAccepted room (changes_in xs) t
  pub same_table : table_behind (map (call_for room) (changes_in xs)) t ≡ table_after (batch_call room xs) t
  pub batch_tells : Reports (answer_to (batch_call room xs) t) (table_after (batch_call room xs) t)
  pub last_tells : (before : Answer) → Reports before t → Reports (last_of before (answers (map (call_for room) (changes_in xs)) t)) (table_after (batch_call room xs) t)

-- A batch of one change is that change: where the lent list has room it is refused with the same number, the line's position being 1, and where it is accepted the
-- answer is the same, the counts too. Either way it leaves the same table.
pub record AsOne (c : Change) (t : Table) (room : ℕ) : Type 0 where
  pub same_number : t.size * t.kinds ≤ room → trial_of (batch_call room (makes c ∷ [])) t ≡ trial_of (call_for room c) t
  pub position_1 : t.size * t.kinds ≤ room → (n : ℕ) → trial_of (call_for room c) t ≡ refused n → answer_to (batch_call room (makes c ∷ [])) t ≡ refusal (record { number = n; position = at_line 1 })
  pub same_answer : trial_of (call_for room c) t ≡ accepted → answer_to (batch_call room (makes c ∷ [])) t ≡ answer_to (call_for room c) t
  pub same_table : table_after (batch_call room (makes c ∷ [])) t ≡ table_after (call_for room c) t

-- Document 02, ticket 11, of the two lengths of a line `short`: the first is that of a free round of the table; no free round of the table is shorter than the second, whatever was
-- searched; so the first is never below the second.
pub record LengthsTrue (t : Table) (best least : ℕ) : Type 0 where
  pub round : FullRound (game_of t)
  pub best_is : round_length (game_of t) round ≡ best
  pub none_shorter : (f : FullRound (game_of t)) → least ≤ round_length (game_of t) f
  pub ordered : least ≤ best

-- Document 02, ticket 12, of the states of a line `all`: they stand "in rising order", each lies on a reachable free round of the table, those of demand 2, and each state that does is there.
pub record ListedRight (t : Table) (states : List ℕ) : Type 0 where
  pub rising : Rising states
  pub only : (s : ℕ) → In s states → OnRound (game_of t) s
  pub each : (s : ℕ) → OnRound (game_of t) s → In s states

-- What a line says of the table that is then present is true. Of a `no` line: "refusal 7 no longer occurs" (document 02, ticket 1). Of a `ways` line: the counts "equal a count over
-- the present moves" (ticket 8). Of a `none` that stands alone: no free round can be reached (ticket 11).
abbrev pub LineTrue : Line → Table → Type 0
LineTrue (game_line size moves paying) t = Unit {0}
LineTrue (round_line spent kept stem cycle walk) t = ReportRight (round stem cycle walk) t
LineTrue (none_line spent kept) t = ReportRight clear t
LineTrue (no_line r) t = r.number ≢ 7
LineTrue (ways_line s leaving entering) t = (leaving ≡ out_degree t.edges s) × (entering ≡ in_degree t.edges s)
LineTrue (short_line best least) t = LengthsTrue t best least
LineTrue no_round_line t = FullRound (game_of t) → ⊥

-- a line that does not say "none"
abbrev pub NotNone : Line → Type 0
NotNone (game_line size moves paying) = Unit {0}
NotNone (round_line spent kept stem cycle walk) = Unit {0}
NotNone (none_line spent kept) = ⊥
NotNone (no_line r) = Unit {0}
NotNone (ways_line s leaving entering) = Unit {0}
NotNone (short_line best least) = Unit {0}
NotNone no_round_line = ⊥

-- Document 02, ticket 1, "The trade counts such a repeat as a round": where a paying state with a move to itself can be reached, which carries every kind in use, the line does not say "none".
abbrev pub LoopTold : Line → Table → Type 0
LoopTold l t = FullLoop (game_of t) → NotNone l

-- The looks that the line of an accepted call tells are right; t is the table as the call finds it.
abbrev pub LineCounted : Line → Command → Table → Type 0
LineCounted (game_line size moves paying) c t = Unit {0}
LineCounted (round_line spent kept stem cycle walk) c t = CountsRight c t spent kept
LineCounted (none_line spent kept) c t = CountsRight c t spent kept
LineCounted (no_line r) c t = Unit {0}
LineCounted (ways_line s leaving entering) c t = Unit {0}
LineCounted (short_line best least) c t = Unit {0}
LineCounted no_round_line c t = Unit {0}

-- "a number is handed back when its condition holds and no earlier one that is tried there does, and only then": cs are the conditions, in the
-- order tried, each with its number
pub record Handed (n : ℕ) (cs : List (ℕ × Bool)) : Type 0 where
  pub earlier : List (ℕ × Bool)
  pub later : List (ℕ × Bool)
  pub tried : cs ≡ earlier ++ ((n, true) ∷ later)
  pub none_earlier : any (λ (c : ℕ × Bool). c.1) earlier ≡ false

-- ---- ticket 9, with one kind

-- "K = 1, also where the line is missing, gives the old results": the graph that is searched is the game's own, whose free rounds are those of document 01; each state is its only copy, a look is at
-- the move itself, and what is found is printed as it is; 9 and 11 are document 01's.
pub record OldResults (t : Table) : Type 0 where
  pub same_graph : searched t ≡ graph_of t
  pub rounds_free : FullRound (game_of t) → FreeRound (graph_of t)
  pub free_rounds : FreeRound (graph_of t) → FullRound (game_of t)
  pub same_states : (named : List ℕ) → copies_in t named ≡ named
  pub same_looks : (e : Edge) → plain_edge t e ≡ e
  pub same_verdict : (v : Verdict) → printed_verdict t v ≡ v
  pub same_full : (es : List Edge) → full t.kinds es ≡ leb 2048 (length es)
  pub same_room : t.size * t.kinds ≡ t.size

-- and no load is refused with 16
abbrev pub Never16 : Type 0
Never16 = (l : Load) (room : ℕ) → l.kinds ≡ 1 → load_trial l room ≢ refused 16

-- ---- ticket 11

-- Document 02, ticket 11, of a table and every budget.
pub record ShortRight (t : Table) : Type 0 where
  -- "17, K is above 1"
  pub several_kinds : (b : ℕ) → 1 < t.kinds → reply_to (short b) t ≡ no_reply 17
  -- "With no round the line is `none` alone, for every B.", and with a round it is not
  pub none_if : (b : ℕ) → t.kinds ≡ 1 → (FullRound (game_of t) → ⊥) → reply_to (short b) t ≡ no_round
  pub none_only : (b : ℕ) → reply_to (short b) t ≡ no_round → FullRound (game_of t) → ⊥
  -- "Found within B, both are the shortest length.", over all free rounds of the table
  pub found : (b l : ℕ) (stem cycle : List ℕ) → t.kinds ≡ 1 → verdict (final t) ≡ lasso stem cycle → hunt_in t b (length cycle) ≡ found_at l
      → (reply_to (short b) t ≡ shortest l l) × LengthsTrue t l l
  -- "Otherwise the first is the present walk's round length", and no free round is shorter than the second
  pub otherwise : (b l : ℕ) (stem cycle : List ℕ) → t.kinds ≡ 1 → verdict (final t) ≡ lasso stem cycle → hunt_in t b (length cycle) ≡ left_at l
      → (reply_to (short b) t ≡ shortest (length cycle) l) × LengthsTrue t (length cycle) l
  -- "On one unchanged table a larger B never gives a longer round or a smaller second number."
  pub more_looks : (b c best least best' least' : ℕ) → b ≤ c → reply_to (short b) t ≡ shortest best least → reply_to (short c) t ≡ shortest best' least' → (best' ≤ best) × (least ≤ least')
  -- For which tables the shortest is always found: where the length of a free round, times the reachable paying states, times the moves, is within B.
  pub enough : (b : ℕ) (f : FullRound (game_of t)) → t.kinds ≡ 1 → round_length (game_of t) f * (length (roots (graph_of t) t.size) * length t.edges) ≤ b
      → (l : ℕ) × (reply_to (short b) t ≡ shortest l l) × LengthsTrue t l l

-- ---- ticket 12

-- Document 02, ticket 12, of a table, the states that are listed, and the verdict at that moment.
pub record RoundsRight (t : Table) : Type 0 where
  pub listed_right : ListedRight t (on_rounds (game_of t))
  -- "each reachable state"
  pub reachable : (s : ℕ) → In s (on_rounds (game_of t)) → (way : List ℕ) × Run (graph_of t) t.start way s
  -- "The count is 0 exactly when the box says "none"."
  pub zero_if : verdict (final t) ≡ none → length (on_rounds (game_of t)) ≡ 0
  pub zero_only : length (on_rounds (game_of t)) ≡ 0 → verdict (final t) ≡ none
  -- every state of the round of the walk is listed
  pub walk_listed : (stem cycle : List ℕ) → verdict (final t) ≡ lasso stem cycle → (s : ℕ) → In s (printed t cycle) → In s (on_rounds (game_of t))
