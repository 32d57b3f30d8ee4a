-- Document 02, ticket 7: orders of switching. proofs/Orders.antt proves it. Assumes nothing.
use Rattle.std.specs.Prelude.{ℕ, ◌+◌, ◌≤◌, ◌≡◌, ◌≢◌, List, [], ◌∷◌, ◌++◌, length, get_or}
use Rattle.plain.specs.Lists.{Once}
use Rattle.plain.specs.Search.{Edge}
use Rattle.plain.specs.Table.{Table, carried_by, row, final}
use Rattle.plain.specs.Refusals.{accepted}
use Rattle.plain.specs.Machine.{Change, add, cut, table_of, changes_of, named_all, Command, update, set_kinds, Answer, load_answer, Call, call_for, trial_of, answer_to, table_after, answers, Line, game_line, round_line, none_line, no_line, ways_line, short_line, no_round_line, answer_line}
use Rattle.plain.specs.Questions.{Question, reply_to}
use Rattle.plain.specs.Claims.{Arises, totalled, Reports, table_behind, last_of}
use Rattle.plain.specs.Games.{game_h}

-- ---- what a call sees of a table

-- The same rows and the same marks; as many states, kinds and moves, as many words of each kind, and the same start state. The order of the whole list of moves is no part of it: only that of each row.
pub record SameView (t u : Table) : Type 0 where
  pub same_size : t.size ≡ u.size
  pub same_start : t.start ≡ u.start
  pub same_kinds : t.kinds ≡ u.kinds
  pub same_count : length t.edges ≡ length u.edges
  pub same_row : (s : ℕ) → row t.edges s ≡ row u.edges s
  pub same_words : (kind : ℕ) → length (get_or t.marks kind []) ≡ length (get_or u.marks kind [])
  pub same_marks : (kind s : ℕ) → carried_by t.marks kind s ≡ carried_by u.marks kind s

-- No list of calls tells two tables apart, and no question does, before, between or behind the calls.
pub record AnsweredAlike (t u : Table) : Type 0 where
  pub same_answers : (cs : List Call) → answers cs t ≡ answers cs u
  pub same_replies : (cs : List Call) (q : Question) → reply_to q (table_behind cs t) ≡ reply_to q (table_behind cs u)

-- The search sees no more of a table, and neither do calls and questions.
pub record SeenAlike (t u : Table) : Type 0 where
  pub same_search : final t ≡ final u
  pub same_after : AnsweredAlike t u

abbrev pub OnlyRows : Type 0
OnlyRows = (t u : Table) → SameView t u → SeenAlike t u

-- ---- orders

-- "that leave different states": no two of them name one state
abbrev pub Apart : List Change → Type 0
Apart cs = Once (named_all cs)

-- the calls are accepted, each on the table that those before it leave
abbrev pub EachAccepted : List Call → Table → Type 0
EachAccepted [] t = Unit {0}
EachAccepted (c ∷ cs) t = (trial_of c t ≡ accepted) × EachAccepted cs (table_after c t)

-- "two changes of moves that leave different states, one straight after the other from the same session, if accepted in both orders, end in the same verdict, walk and total of
-- kept and spent in the second answer." It is so of every two changes that name different states, of moves or of marks.
abbrev pub TwoOrders : Type 0
TwoOrders = (t : Table) (c d : Change) (room : ℕ) → Arises t → Apart (c ∷ d ∷ [])
    → EachAccepted (call_for room c ∷ call_for room d ∷ []) t → EachAccepted (call_for room d ∷ call_for room c ∷ []) t
    → totalled (answer_to (call_for room d) (table_after (call_for room c) t)) ≡ totalled (answer_to (call_for room c) (table_after (call_for room d) t))

-- the same changes in another order, a permutation: the first of one list stands somewhere in the other, and so on with the rest
pub data Permutation : List Change → List Change → Type 0 where
  nothing : Permutation [] []
  first : (c : Change) (cs before behind : List Change) → Permutation cs (before ++ behind) → Permutation (c ∷ cs) (before ++ (c ∷ behind))

-- the changes that a call asks for, those of a batch too, and those of calls, one behind the other
abbrev pub asked_by : Command → List Change
asked_by (update u) = changes_of u
asked_by (set_kinds k) = []

unfoldable pub changes_asked : List Call → List Change
changes_asked [] = []
changes_asked (c ∷ cs) = asked_by c.command ++ changes_asked cs

-- calls that ask for changes and nothing else
abbrev pub IsUpdate : Command → Type 0
IsUpdate (update u) = Unit {0}
IsUpdate (set_kinds k) = ⊥

abbrev pub Switching : List Call → Type 0
Switching [] = Unit {0}
Switching (c ∷ cs) = IsUpdate c.command × Switching cs

-- Two lists of calls end alike: in the same verdict, walk and total in the last answer (of an empty list that is the one before it), and nothing asked behind them tells the two apart.
pub record SameEnding (cs ds : List Call) (t : Table) : Type 0 where
  pub same_report : (before : Answer) → Reports before t → totalled (last_of before (answers cs t)) ≡ totalled (last_of before (answers ds t))
  pub same_after : AnsweredAlike (table_behind cs t) (table_behind ds t)

-- Beyond the ticket's two: any number of changes that name pairwise different states, in any two orders that are accepted, each a call of its own or in a batch.
abbrev pub AnyOrders : Type 0
AnyOrders = (t : Table) (cs ds : List Call) → Arises t → Switching cs → Switching ds → Apart (changes_asked cs) → Permutation (changes_asked cs) (changes_asked ds)
    → EachAccepted cs t → EachAccepted ds t → SameEnding cs ds t

-- ---- lines

-- an answer's line with its looks taken together
unfoldable pub total_line : Line → Line
total_line (game_line size moves paying) = game_line size moves paying
total_line (round_line spent kept stem cycle walk) = round_line (kept + spent) 0 stem cycle walk
total_line (none_line spent kept) = none_line (kept + spent) 0
total_line (no_line r) = no_line r
total_line (ways_line s leaving entering) = ways_line s leaving entering
total_line (short_line best least) = short_line best least
total_line no_round_line = no_round_line

-- ---- there and back

-- "adding a move and cutting it straight away"
abbrev pub add_and_cut : ℕ → ℕ → Edge → List Call
add_and_cut room room₂ e = call_for room (add e) ∷ call_for room₂ (cut e) ∷ []

-- ".. brings these back": the last answer tells the verdict, walk and total of the one before the two calls, and the table is the one before, its moves in their order
pub record BroughtBack (cs : List Call) (t : Table) : Type 0 where
  pub same_table : table_behind cs t ≡ t
  pub same_report : (before : Answer) → Reports before t → totalled (last_of before (answers cs t)) ≡ totalled before

abbrev pub BringsBack : Type 0
BringsBack = (t : Table) (e : Edge) (room room₂ : ℕ) → Arises t → EachAccepted (add_and_cut room room₂ e) t → BroughtBack (add_and_cut room room₂ e) t

-- where the add is accepted, the cut is, with a list that is no shorter
abbrev pub CutFollows : Type 0
CutFollows = (t : Table) (e : Edge) (room room₂ : ℕ) → room ≤ room₂ → trial_of (call_for room (add e)) t ≡ accepted → EachAccepted (add_and_cut room room₂ e) t

-- "Cutting and adding need not, because the move becomes newest": both are accepted, and the last answer's line tells another verdict, walk or total than the line of a load of the
-- table before
abbrev pub cut_and_add : ℕ → ℕ → Edge → List Call
cut_and_add room room₂ e = call_for room (cut e) ∷ call_for room₂ (add e) ∷ []

pub record NotBroughtBack (e : Edge) (t : Table) : Type 0 where
  pub arises : Arises t
  pub each_accepted : EachAccepted (cut_and_add 512 512 e) t
  pub other_line : (room room₂ : ℕ) → EachAccepted (cut_and_add room room₂ e) t
      → answer_line (totalled (last_of (load_answer accepted t) (answers (cut_and_add room room₂ e) t))) ≢ answer_line (load_answer accepted t)

-- the example: game H, and its move from 0 to 1
abbrev pub NeedNot : Type 0
NeedNot = NotBroughtBack (0, 1) (table_of game_h.load)
