-- Document 01, "The game table", and the plain search on it. Document 02, ticket 9: several kinds of pay. Assumes nothing.
use Rattle.std.specs.Prelude.{ℕ, zero, suc, ◌+◌, ◌*◌, ◌-◌, ◌/◌, ◌%◌, ◌^◌, Bool, true, false, List, [], ◌∷◌, map, eqb, length, get_or, set, take, drop, replicate}
use Rattle.plain.specs.Lists.{any, filter, below}
use Rattle.plain.specs.Search.{Graph, Edge, Config, run, begin, until, Verdict, none, lasso, unfinished}
use Rattle.plain.specs.Cycles.{Kinded}
use Rattle.plain.specs.Layers.{copies_of, state_at, layers}

-- "A game has N states, numbered 0 to N − 1, one start state, a set of paying states and a list of moves."
pub record Table : Type 0 where
  -- N
  pub size : ℕ
  pub start : ℕ
  -- K: "The kinds in use are 1 to K, carried by a state or not."
  pub kinds : ℕ
  -- the paying marks of each kind, kind 1 first: "The paying marks are eight 64-bit words"
  pub marks : List (List ℕ)
  -- the moves present, oldest first
  pub edges : List Edge

-- bit b of a word, "bit 0 being worth 1"
unfoldable pub bit : ℕ → ℕ → Bool
bit b w = eqb (w / 2 ^ b % 2) 1

-- "State s has bit (s mod 64) of word (s div 64)": does s pay?
unfoldable pub accepts : List ℕ → ℕ → Bool
accepts words s = bit (s % 64) (get_or words (s / 64) 0)

-- the word with bit b set
unfoldable pub with_bit : ℕ → ℕ → ℕ
with_bit b w = elim (bit b w) [ true ↦ w | false ↦ w + 2 ^ b ]

-- the word with bit b cleared
unfoldable pub without_bit : ℕ → ℕ → ℕ
without_bit b w = elim (bit b w) [ true ↦ w - 2 ^ b | false ↦ w ]

-- the words with the mark of s set: what a line `pay` does, and a line `mark`
unfoldable pub with_mark : List ℕ → ℕ → List ℕ
with_mark words s = set words (s / 64) (with_bit (s % 64) (get_or words (s / 64) 0))

-- the words with the mark of s cleared: what a line `unmark` does
unfoldable pub without_mark : List ℕ → ℕ → List ℕ
without_mark words s = set words (s / 64) (without_bit (s % 64) (get_or words (s / 64) 0))

-- the words with the marks of some states set
unfoldable pub with_marks : List ℕ → List ℕ → List ℕ
with_marks words [] = words
with_marks words (s ∷ ss) = with_marks (with_mark words s) ss

-- eight words that mark the states of a list and no other
unfoldable pub marking : List ℕ → List ℕ
marking states = with_marks (replicate 8 0) states

-- the states that eight words mark, in rising order
unfoldable pub marked : List ℕ → List ℕ
marked words = filter (accepts words) (below 512)

abbrev pub one : Bool → ℕ
one true = 1
one false = 0

-- how many numbers below n pass the test
unfoldable pub count_below : ℕ → (ℕ → Bool) → ℕ
count_below zero p = 0
count_below (suc n) p = one (p n) + count_below n p

-- the paying words of each kind, out of one list: "eight words for each of four kinds"
unfoldable pub by_kind : List ℕ → List (List ℕ)
by_kind ws = take 8 ws ∷ take 8 (drop 8 ws) ∷ take 8 (drop 16 ws) ∷ take 8 (drop 24 ws) ∷ []

-- does s carry the kind? Kinds count from 0 here, as layers do.
unfoldable pub carried_by : List (List ℕ) → ℕ → ℕ → Bool
carried_by marks kind s = accepts (get_or marks kind []) s

-- "The count of paying states"; "The `game` line counts states of any kind."
unfoldable pub accepting_count : List (List ℕ) → ℕ
accepting_count marks = count_below 512 (λ s. any (λ words. accepts words s) marks)

-- the targets of the moves that leave s, in their order: the row of s
unfoldable pub row : List Edge → ℕ → List ℕ
row es s = map (λ (e : Edge). e.1) (filter (λ (e : Edge). eqb e.0 s) es)

-- the game's moves as a graph, of which a state accepts that carries the first kind
abbrev pub graph_of : Table → Graph
graph_of t = record { start = t.start; successors = row t.edges; accepting = carried_by t.marks 0 }

-- the game with its kinds of pay: what free rounds are
abbrev pub game_of : Table → Kinded
game_of t = record { graph = graph_of t; size = t.size; kinds = t.kinds; carries = carried_by t.marks }

-- The graph that the search runs on: "The search runs on K layers of the game".
abbrev pub searched : Table → Graph
searched t = layers (game_of t)

-- "any copy of the named state"
abbrev pub copies_in : Table → List ℕ → List ℕ
copies_in t named = copies_of t.size (t.kinds - 1) named

-- "The walk is printed in plain states": those of which the states of the layers are copies.
unfoldable pub printed : Table → List ℕ → List ℕ
printed t vs = map (state_at (game_of t)) vs

unfoldable pub printed_verdict : Table → Verdict → Verdict
printed_verdict t none = none
printed_verdict t (lasso stem cycle) = lasso (printed t stem) (printed t cycle)
printed_verdict t unfinished = unfinished

-- the move of the game at which a look at a move of the layers looks
abbrev pub plain_edge : Table → Edge → Edge
plain_edge t e = (state_at (game_of t) e.0, state_at (game_of t) e.1)

-- more steps than the search on a table takes (proofs/Demands.antt, `ends`)
unfoldable pub budget : Table → ℕ
budget t = 2 * (t.kinds * length t.edges) + 3 * (t.kinds * t.size) + 2

-- the plain search on the table, at its end
unfoldable pub final : Table → Config
final t = run (searched t) (budget t)

-- that search where it first meets a copy of a named state, or at its end if it never does
unfoldable pub first_meeting : List ℕ → Table → Config
first_meeting named t = until (searched t) (copies_in t named) (budget t) (begin (searched t))
