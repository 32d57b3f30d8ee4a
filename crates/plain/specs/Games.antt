-- Document 01, "Games with known results": games A to I, the changes made to them, and the lines printed. Behind them games that tickets of document 02
-- bring, worked by hand. Assumes nothing.
use Rattle.std.specs.Prelude.{ℕ, zero, suc, ◌+◌, ◌^◌, List, [], ◌∷◌, ◌++◌, map, replicate}
use Rattle.plain.specs.Refusals.{Load}
use Rattle.plain.specs.Questions.{Reply, no_reply, shortest, no_round}
use Rattle.plain.specs.Machine.{Change, add, cut, mark, unmark, BatchLine, makes, other, Update, single, batch, Command, update, set_kinds, at_line, Call, numbered, Line, game_line, round_line, none_line, no_line}

-- a game, what is asked of it in turn, and the lines printed
pub record Known : Type 0 where
  pub load : Load
  pub commands : List Command
  pub lines : List Line

-- the word that marks the states of the list, each below 64
unfoldable pub word_of : List ℕ → ℕ
word_of [] = 0
word_of (s ∷ ss) = 2 ^ s + word_of ss

-- the marks of four kinds: of each, the states that carry it, each below 64
unfoldable pub marks_of : List ℕ → List ℕ → List ℕ → List ℕ → List (List ℕ)
marks_of first second third fourth = map (λ states. word_of states ∷ replicate 7 0) (first ∷ second ∷ third ∷ fourth ∷ [])

-- N states, start 0, K, the marks, the moves as numbers
unfoldable pub known_in : ℕ → ℕ → List (List ℕ) → List ℕ → List Command → List Line → Known
known_in n k marks numbers cs ls = record { load = record { size = n; start = 0; kinds = k; marks = marks; numbers = numbers }; commands = cs; lines = ls }

-- one kind of pay: N states, start 0, the paying states, the moves as numbers
unfoldable pub known_by : ℕ → List ℕ → List ℕ → List Update → List Line → Known
known_by n paying numbers us ls = known_in n 1 (marks_of paying [] [] []) numbers (map update us) ls

-- the same with changes, each a call of its own
unfoldable pub known : ℕ → List ℕ → List ℕ → List Change → List Line → Known
known n paying numbers cs ls = known_by n paying numbers (map single cs) ls

-- the list lent for the walk is the box's own
unfoldable pub lent : Command → Call
lent c = record { command = c; room = 512 }

-- H, its last line as ticket 4 has it
unfoldable pub game_h : Known
game_h = known 3 (1 ∷ 2 ∷ []) (0 ∷ 1 ∷ 0 ∷ 2 ∷ 1 ∷ 0 ∷ 2 ∷ 0 ∷ []) (cut (0, 1) ∷ add (0, 1) ∷ [])
    (game_line 3 4 2 ∷ round_line 3 0 0 2 (0 ∷ 1 ∷ []) ∷ round_line 3 0 0 2 (0 ∷ 2 ∷ []) ∷ round_line 0 3 0 2 (0 ∷ 2 ∷ []) ∷ [])

-- Ticket 1, "though the search may answer another": state 1 pays and returns to itself, and the older way back to 0 is found first
unfoldable pub returning : Known
returning = known 2 (1 ∷ []) (0 ∷ 1 ∷ 1 ∷ 0 ∷ 1 ∷ 1 ∷ []) [] (game_line 2 3 1 ∷ round_line 4 0 0 2 (0 ∷ 1 ∷ []) ∷ [])

-- a state's pay goes on and off, so many times
unfoldable pub switching : ℕ → List BatchLine
switching zero = []
switching (suc n) = makes (mark 0 1) ∷ makes (unmark 0 1) ∷ switching n

unfoldable pub games : List Known
games =
    -- A
    known 4 (2 ∷ []) (0 ∷ 1 ∷ 1 ∷ 2 ∷ []) (add (2, 1) ∷ add (2, 3) ∷ cut (1, 2) ∷ cut (1, 2) ∷ add (2, 0) ∷ [])
    (game_line 4 2 1
    ∷ none_line 2 0
    ∷ round_line 2 2 1 2 (0 ∷ 1 ∷ 2 ∷ [])
    ∷ round_line 3 2 1 2 (0 ∷ 1 ∷ 2 ∷ [])
    ∷ none_line 0 1
    ∷ no_line (numbered 10)
    ∷ none_line 0 1
    ∷ [])
    -- B
    ∷ known 1 [] [] [] (game_line 1 0 0 ∷ none_line 0 0 ∷ [])
    -- C
    ∷ known 2 (1 ∷ []) (0 ∷ 1 ∷ 1 ∷ 0 ∷ []) [] (game_line 2 2 1 ∷ round_line 3 0 0 2 (0 ∷ 1 ∷ []) ∷ [])
    -- D
    ∷ known 2 (0 ∷ []) (0 ∷ 1 ∷ 1 ∷ 0 ∷ []) [] (game_line 2 2 1 ∷ round_line 4 0 0 2 (0 ∷ 1 ∷ []) ∷ [])
    -- E
    ∷ known 2 [] (0 ∷ 1 ∷ 1 ∷ 0 ∷ []) [] (game_line 2 2 0 ∷ none_line 2 0 ∷ [])
    -- F
    ∷ known 3 (0 ∷ []) (0 ∷ 1 ∷ 1 ∷ 2 ∷ 2 ∷ 1 ∷ []) [] (game_line 3 3 1 ∷ none_line 6 0 ∷ [])
    -- G
    ∷ known 3 (1 ∷ []) (1 ∷ 2 ∷ 2 ∷ 1 ∷ []) [] (game_line 3 2 1 ∷ none_line 0 0 ∷ [])
    ∷ game_h
    -- I
    ∷ known 3 (0 ∷ 1 ∷ []) (0 ∷ 1 ∷ 1 ∷ 2 ∷ 2 ∷ 1 ∷ []) [] (game_line 3 3 2 ∷ round_line 5 0 1 2 (0 ∷ 1 ∷ 2 ∷ []) ∷ [])
    -- Ticket 1: a paying state that returns to itself
    ∷ known 1 (0 ∷ []) (0 ∷ 0 ∷ []) [] (game_line 1 1 1 ∷ round_line 2 0 0 1 (0 ∷ []) ∷ [])
    -- one that does not pay
    ∷ known 1 [] (0 ∷ 0 ∷ []) [] (game_line 1 1 0 ∷ none_line 1 0 ∷ [])
    -- a move to itself on a state of the stem
    ∷ known 3 (2 ∷ []) (0 ∷ 0 ∷ 0 ∷ 1 ∷ 1 ∷ 2 ∷ 2 ∷ 1 ∷ []) [] (game_line 3 4 1 ∷ round_line 5 0 1 2 (0 ∷ 1 ∷ 2 ∷ []) ∷ [])
    -- on a state of the round
    ∷ known 2 (0 ∷ []) (0 ∷ 1 ∷ 1 ∷ 1 ∷ 1 ∷ 0 ∷ []) [] (game_line 2 3 1 ∷ round_line 6 0 0 2 (0 ∷ 1 ∷ []) ∷ [])
    -- cut, added, added once more, cut where it is not, and outside
    ∷ known 2 (1 ∷ []) (0 ∷ 1 ∷ 1 ∷ 1 ∷ [])
    (cut (1, 1) ∷ add (1, 1) ∷ add (1, 1) ∷ cut (0, 0) ∷ add (0, 0) ∷ cut (0, 1) ∷ add (2, 2) ∷ cut (0, 0) ∷ [])
    (game_line 2 2 1
    ∷ round_line 3 0 1 1 (0 ∷ 1 ∷ [])
    ∷ none_line 0 1
    ∷ round_line 2 1 1 1 (0 ∷ 1 ∷ [])
    ∷ no_line (numbered 8)
    ∷ no_line (numbered 10)
    ∷ round_line 0 3 1 1 (0 ∷ 1 ∷ [])
    ∷ none_line 1 0
    ∷ no_line (numbered 6)
    ∷ none_line 0 0
    ∷ [])
    -- a move to itself on the paying state, beside a longer round that is found first
    ∷ returning
    -- Ticket 2: game A with its round; the paying state is unmarked, and marked again; then the start state
    ∷ known 4 (2 ∷ []) (0 ∷ 1 ∷ 1 ∷ 2 ∷ []) (add (2, 1) ∷ unmark 2 1 ∷ unmark 2 1 ∷ mark 2 1 ∷ mark 2 1 ∷ mark 0 1 ∷ unmark 0 1 ∷ [])
    (game_line 4 2 1
    ∷ none_line 2 0
    ∷ round_line 2 2 1 2 (0 ∷ 1 ∷ 2 ∷ [])
    ∷ none_line 1 2
    ∷ no_line (numbered 14)
    ∷ round_line 2 2 1 2 (0 ∷ 1 ∷ 2 ∷ [])
    ∷ no_line (numbered 13)
    ∷ round_line 4 0 1 2 (0 ∷ 1 ∷ 2 ∷ [])
    ∷ round_line 4 0 1 2 (0 ∷ 1 ∷ 2 ∷ [])
    ∷ [])
    -- a state never met, one on the stem, the payer, one on the round, the start state, states outside
    ∷ known 5 (3 ∷ []) (0 ∷ 1 ∷ 1 ∷ 2 ∷ 2 ∷ 3 ∷ 3 ∷ 2 ∷ [])
    (mark 4 1 ∷ mark 4 1 ∷ mark 1 1 ∷ unmark 3 1 ∷ unmark 3 1 ∷ mark 2 1 ∷ mark 0 1 ∷ mark 5 1 ∷ unmark 512 1 ∷ unmark 1 1 ∷ [])
    (game_line 5 4 1
    ∷ round_line 5 0 2 2 (0 ∷ 1 ∷ 2 ∷ 3 ∷ [])
    ∷ round_line 0 5 2 2 (0 ∷ 1 ∷ 2 ∷ 3 ∷ [])
    ∷ no_line (numbered 13)
    ∷ round_line 4 1 2 2 (0 ∷ 1 ∷ 2 ∷ 3 ∷ [])
    ∷ none_line 4 3
    ∷ no_line (numbered 14)
    ∷ round_line 4 2 2 2 (0 ∷ 1 ∷ 2 ∷ 3 ∷ [])
    ∷ round_line 6 0 2 2 (0 ∷ 1 ∷ 2 ∷ 3 ∷ [])
    ∷ no_line (numbered 6)
    ∷ no_line (numbered 6)
    ∷ round_line 5 1 2 2 (0 ∷ 1 ∷ 2 ∷ 3 ∷ [])
    ∷ [])
    -- a mark by which another round is found first, and without it the old one
    ∷ known 3 (2 ∷ []) (0 ∷ 1 ∷ 0 ∷ 2 ∷ 1 ∷ 0 ∷ 2 ∷ 0 ∷ []) (mark 1 1 ∷ unmark 1 1 ∷ unmark 2 1 ∷ mark 1 1 ∷ [])
    (game_line 3 4 1
    ∷ round_line 5 0 0 2 (0 ∷ 2 ∷ [])
    ∷ round_line 2 1 0 2 (0 ∷ 1 ∷ [])
    ∷ round_line 4 1 0 2 (0 ∷ 2 ∷ [])
    ∷ none_line 1 3
    ∷ round_line 2 1 0 2 (0 ∷ 1 ∷ [])
    ∷ [])
    -- Ticket 4: moves behind the one along the stem go and come, one at a state whose last move leads along it, one at a state never met; then moves of a state
    -- that has finished, behind the stem again, a mark, a move of the tip, the move along the stem, a move after "none", and one that was looked at first
    ∷ known 5 (3 ∷ []) (0 ∷ 1 ∷ 0 ∷ 2 ∷ 0 ∷ 4 ∷ 2 ∷ 3 ∷ 3 ∷ 2 ∷ [])
    (cut (0, 4) ∷ add (0, 3) ∷ add (2, 4) ∷ add (4, 0) ∷ add (1, 4) ∷ cut (2, 4) ∷ cut (0, 3) ∷ mark 2 1 ∷ add (3, 0) ∷ cut (2, 3) ∷ add (2, 0) ∷ cut (0, 1) ∷ [])
    (game_line 5 5 1
    ∷ round_line 5 0 1 2 (0 ∷ 2 ∷ 3 ∷ [])
    ∷ round_line 0 5 1 2 (0 ∷ 2 ∷ 3 ∷ [])
    ∷ round_line 0 5 1 2 (0 ∷ 2 ∷ 3 ∷ [])
    ∷ round_line 0 5 1 2 (0 ∷ 2 ∷ 3 ∷ [])
    ∷ round_line 0 5 1 2 (0 ∷ 2 ∷ 3 ∷ [])
    ∷ round_line 6 1 1 2 (0 ∷ 2 ∷ 3 ∷ [])
    ∷ round_line 0 7 1 2 (0 ∷ 2 ∷ 3 ∷ [])
    ∷ round_line 0 7 1 2 (0 ∷ 2 ∷ 3 ∷ [])
    ∷ round_line 3 4 1 2 (0 ∷ 2 ∷ 3 ∷ [])
    ∷ round_line 3 5 1 2 (0 ∷ 2 ∷ 3 ∷ [])
    ∷ none_line 0 4
    ∷ round_line 2 4 0 2 (0 ∷ 2 ∷ [])
    ∷ round_line 3 0 0 2 (0 ∷ 2 ∷ [])
    ∷ [])
    -- the tip and a state behind it, which the inner search passes: moves of both; then moves never come to, and the only move of the start state
    ∷ known 3 (1 ∷ []) (0 ∷ 1 ∷ 1 ∷ 2 ∷ 2 ∷ 0 ∷ []) (add (1, 0) ∷ cut (1, 2) ∷ add (2, 2) ∷ add (0, 2) ∷ cut (0, 1) ∷ cut (2, 2) ∷ [])
    (game_line 3 3 1
    ∷ round_line 5 0 0 3 (0 ∷ 1 ∷ 2 ∷ [])
    ∷ round_line 5 1 0 3 (0 ∷ 1 ∷ 2 ∷ [])
    ∷ round_line 2 1 0 2 (0 ∷ 1 ∷ [])
    ∷ round_line 0 3 0 2 (0 ∷ 1 ∷ [])
    ∷ round_line 0 3 0 2 (0 ∷ 1 ∷ [])
    ∷ none_line 3 0
    ∷ none_line 1 1
    ∷ [])
    -- Ticket 5: 64 changes in a batch, and the 65th line: a change, a change that names a state outside, one that is no change; and 66 changes
    ∷ known_by 1 [] []
    (batch (switching 32)
    ∷ batch (switching 32 ++ (makes (mark 0 1) ∷ []))
    ∷ batch (switching 32 ++ (makes (add (9, 9)) ∷ []))
    ∷ batch (switching 32 ++ (other ∷ []))
    ∷ batch (switching 33)
    ∷ [])
    (game_line 1 0 0
    ∷ none_line 0 0
    ∷ none_line 0 0
    ∷ no_line (record { number = 15; position = at_line 65 })
    ∷ no_line (record { number = 15; position = at_line 65 })
    ∷ no_line (record { number = 1; position = at_line 65 })
    ∷ no_line (record { number = 15; position = at_line 65 })
    ∷ [])
    -- batches: of no change; of moves not come to; of a state never met and one that has finished; of moves along the stem and at the tip; of one change; and a mixed one
    ∷ known_by 5 (3 ∷ []) (0 ∷ 1 ∷ 0 ∷ 2 ∷ 0 ∷ 4 ∷ 2 ∷ 3 ∷ 3 ∷ 2 ∷ [])
    (batch []
    ∷ batch (makes (cut (0, 4)) ∷ makes (add (2, 4)) ∷ [])
    ∷ batch (makes (add (4, 0)) ∷ makes (add (1, 4)) ∷ [])
    ∷ batch (makes (cut (2, 3)) ∷ makes (add (3, 0)) ∷ [])
    ∷ batch (makes (add (2, 3)) ∷ [])
    ∷ batch (makes (mark 1 1) ∷ makes (add (3, 1)) ∷ [])
    ∷ [])
    (game_line 5 5 1
    ∷ round_line 5 0 1 2 (0 ∷ 2 ∷ 3 ∷ [])
    ∷ round_line 0 5 1 2 (0 ∷ 2 ∷ 3 ∷ [])
    ∷ round_line 0 5 1 2 (0 ∷ 2 ∷ 3 ∷ [])
    ∷ round_line 6 1 1 2 (0 ∷ 2 ∷ 3 ∷ [])
    ∷ none_line 1 4
    ∷ round_line 5 4 1 2 (0 ∷ 2 ∷ 3 ∷ [])
    ∷ round_line 4 1 0 3 (0 ∷ 1 ∷ 4 ∷ [])
    ∷ [])
    -- Ticket 9: two kinds; the round goes, comes shorter, and comes another way; a state is marked with the other kind
    ∷ known_in 3 2 (marks_of (0 ∷ 2 ∷ []) (1 ∷ []) [] []) (0 ∷ 1 ∷ 1 ∷ 2 ∷ 2 ∷ 0 ∷ []) (map (λ c. update (single c)) (cut (2, 0) ∷ add (2, 1) ∷ add (1, 0) ∷ mark 2 2 ∷ []))
    (game_line 3 3 3
    ∷ round_line 6 0 1 3 (0 ∷ 1 ∷ 2 ∷ 0 ∷ [])
    ∷ none_line 2 2
    ∷ round_line 2 2 1 2 (0 ∷ 1 ∷ 2 ∷ [])
    ∷ round_line 0 4 1 2 (0 ∷ 1 ∷ 2 ∷ [])
    ∷ round_line 2 2 1 2 (0 ∷ 1 ∷ 2 ∷ [])
    ∷ [])
    -- three kinds: a round that passes state 0 three times
    ∷ known_in 4 3 (marks_of (1 ∷ []) (2 ∷ []) (3 ∷ []) []) (0 ∷ 1 ∷ 1 ∷ 0 ∷ 0 ∷ 2 ∷ 2 ∷ 0 ∷ 0 ∷ 3 ∷ []) (map (λ c. update (single c)) (add (3, 0) ∷ cut (0, 2) ∷ []))
    (game_line 4 5 3 ∷ none_line 26 0 ∷ round_line 14 11 0 6 (0 ∷ 1 ∷ 0 ∷ 2 ∷ 0 ∷ 3 ∷ []) ∷ none_line 13 0 ∷ [])
    -- Ticket 10: of two kinds one goes, and comes back carried by no state until one is marked; then too many, and the same once more
    ∷ known_in 2 2 (marks_of (0 ∷ []) (1 ∷ []) [] []) (0 ∷ 1 ∷ 1 ∷ 0 ∷ []) (set_kinds 1 ∷ set_kinds 2 ∷ update (single (mark 1 2)) ∷ set_kinds 5 ∷ set_kinds 2 ∷ [])
    (game_line 2 2 2
    ∷ round_line 4 0 0 2 (0 ∷ 1 ∷ [])
    ∷ round_line 4 0 0 2 (0 ∷ 1 ∷ [])
    ∷ none_line 6 0
    ∷ round_line 3 1 0 2 (0 ∷ 1 ∷ [])
    ∷ no_line (numbered 16)
    ∷ round_line 4 0 0 2 (0 ∷ 1 ∷ [])
    ∷ [])
    ∷ []

-- ---- ticket 11

-- a game as it is loaded, the budgets with which the shortest round is asked for, and the replies
pub record Asked : Type 0 where
  pub load : Load
  pub budgets : List ℕ
  pub replies : List Reply

unfoldable pub asked_in : ℕ → ℕ → List (List ℕ) → List ℕ → List ℕ → List Reply → Asked
asked_in n k marks numbers bs rs = record { load = record { size = n; start = 0; kinds = k; marks = marks; numbers = numbers }; budgets = bs; replies = rs }

-- one kind of pay: N states, start 0, the paying states, the moves as numbers
unfoldable pub asked : ℕ → List ℕ → List ℕ → List ℕ → List Reply → Asked
asked n paying numbers bs rs = asked_in n 1 (marks_of paying [] [] []) numbers bs rs

-- With the looks beside them: each search is written as the state from which it is made and the targets that it looks at, oldest first.
unfoldable pub short_games : List Asked
short_games =
    -- the paying state has a move to itself, behind the one to 0. Length 1: from 1 to 0, 1
    asked 2 (1 ∷ []) (0 ∷ 1 ∷ 1 ∷ 0 ∷ 1 ∷ 1 ∷ []) (0 ∷ 1 ∷ 2 ∷ 65535 ∷ []) (shortest 2 1 ∷ shortest 2 1 ∷ shortest 1 1 ∷ shortest 1 1 ∷ [])
    -- game C. Length 1: from 1 to 0. Length 2: from 1 to 0, then 1
    ∷ asked 2 (1 ∷ []) (0 ∷ 1 ∷ 1 ∷ 0 ∷ []) (0 ∷ 1 ∷ 2 ∷ 3 ∷ []) (shortest 2 1 ∷ shortest 2 2 ∷ shortest 2 2 ∷ shortest 2 2 ∷ [])
    -- both states pay. Length 1: from 0 to 1; from 1 to 0, 1
    ∷ asked 2 (0 ∷ 1 ∷ []) (0 ∷ 1 ∷ 1 ∷ 0 ∷ 1 ∷ 1 ∷ []) (0 ∷ 1 ∷ 2 ∷ 3 ∷ []) (shortest 2 1 ∷ shortest 2 1 ∷ shortest 2 1 ∷ shortest 1 1 ∷ [])
    -- state 3 pays and has a move to itself, and cannot be reached. Length 1: from 1 to 2. Length 2: from 1 to 2, then 0. Length 3: from 1 to 2, then 0, then 1
    ∷ asked 4 (1 ∷ 3 ∷ []) (0 ∷ 1 ∷ 1 ∷ 2 ∷ 2 ∷ 0 ∷ 3 ∷ 3 ∷ []) (0 ∷ 1 ∷ 2 ∷ 3 ∷ 5 ∷ 6 ∷ []) (shortest 3 1 ∷ shortest 3 2 ∷ shortest 3 2 ∷ shortest 3 3 ∷ shortest 3 3 ∷ shortest 3 3 ∷ [])
    -- the walk's round, 0, 1, 2, is longer than the one of 1 and 2. Length 1: from 2 to 0, 1. Length 2: from 2 to 0, 1, then from 0 to 1, from 1 to 2
    ∷ asked 3 (2 ∷ []) (0 ∷ 1 ∷ 1 ∷ 2 ∷ 2 ∷ 0 ∷ 2 ∷ 1 ∷ []) (1 ∷ 2 ∷ 5 ∷ 6 ∷ []) (shortest 3 1 ∷ shortest 3 2 ∷ shortest 3 2 ∷ shortest 2 2 ∷ [])
    -- no state pays; and two kinds
    ∷ asked 2 [] (0 ∷ 1 ∷ 1 ∷ 0 ∷ []) (0 ∷ 5 ∷ []) (no_round ∷ no_round ∷ [])
    ∷ asked_in 2 2 (marks_of (0 ∷ []) (1 ∷ []) [] []) (0 ∷ 1 ∷ 1 ∷ 0 ∷ []) (0 ∷ 5 ∷ []) (no_reply 17 ∷ no_reply 17 ∷ [])
    ∷ []

-- ---- ticket 12

-- a game as it is loaded, and every state of it on a round
pub record Listing : Type 0 where
  pub load : Load
  pub states : List ℕ

unfoldable pub listing_in : ℕ → ℕ → List (List ℕ) → List ℕ → List ℕ → Listing
listing_in n k marks numbers states = record { load = record { size = n; start = 0; kinds = k; marks = marks; numbers = numbers }; states = states }

-- one kind of pay: N states, start 0, the paying states, the moves as numbers
unfoldable pub listing : ℕ → List ℕ → List ℕ → List ℕ → Listing
listing n paying numbers states = listing_in n 1 (marks_of paying [] [] []) numbers states

unfoldable pub listings : List Listing
listings =
    -- game A with the move from 2 to 1: its start state lies on no closed run
    listing 4 (2 ∷ []) (0 ∷ 1 ∷ 1 ∷ 2 ∷ 2 ∷ 1 ∷ []) (1 ∷ 2 ∷ [])
    -- game F: the closed run passes no paying state; and G: the paying state on it cannot be reached
    ∷ listing 3 (0 ∷ []) (0 ∷ 1 ∷ 1 ∷ 2 ∷ 2 ∷ 1 ∷ []) []
    ∷ listing 3 (1 ∷ []) (1 ∷ 2 ∷ 2 ∷ 1 ∷ []) []
    -- a lone paying state, without and with a move to itself
    ∷ listing 1 (0 ∷ []) [] []
    ∷ listing 1 (0 ∷ []) (0 ∷ 0 ∷ []) (0 ∷ [])
    -- two closed runs that are met in falling order, and one of states that cannot be reached
    ∷ listing 5 (1 ∷ 2 ∷ 4 ∷ []) (0 ∷ 3 ∷ 3 ∷ 1 ∷ 1 ∷ 3 ∷ 0 ∷ 2 ∷ 2 ∷ 2 ∷ 4 ∷ 4 ∷ []) (1 ∷ 2 ∷ 3 ∷ [])
    -- two kinds: carried on one closed run, which passes state 0 twice; on two that no run leads back between; and one that no state carries
    ∷ listing_in 3 2 (marks_of (1 ∷ []) (2 ∷ []) [] []) (0 ∷ 1 ∷ 1 ∷ 0 ∷ 0 ∷ 2 ∷ 2 ∷ 0 ∷ []) (0 ∷ 1 ∷ 2 ∷ [])
    ∷ listing_in 4 2 (marks_of (0 ∷ []) (2 ∷ []) [] []) (0 ∷ 1 ∷ 1 ∷ 0 ∷ 1 ∷ 2 ∷ 2 ∷ 3 ∷ 3 ∷ 2 ∷ []) []
    ∷ listing_in 2 2 (marks_of (0 ∷ []) [] [] []) (0 ∷ 1 ∷ 1 ∷ 0 ∷ []) []
    -- three kinds on one state with a move to itself
    ∷ listing_in 2 3 (marks_of (1 ∷ []) (1 ∷ []) (1 ∷ []) []) (0 ∷ 1 ∷ 1 ∷ 1 ∷ []) (1 ∷ [])
    ∷ []
