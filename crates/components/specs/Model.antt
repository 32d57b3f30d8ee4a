-- What the functions of the component search do, in terms of their arrays; and the game that the arrays of a table stand for, whatever they hold. Cited by contracts. Assumes nothing.
use Rattle.std.specs.Prelude.{ℕ, zero, suc, ◌+◌, ◌*◌, ◌-◌, ◌%◌, ◌≡◌, Bool, true, ◌&&◌, ◌||◌, cond, None, Some, List, [], ◌∷◌, map, eqb, ltb, leb, length, get_or, set, drop}
use Rattle.plain.specs.Lists.{any, filter, below, elem}
use Rattle.plain.specs.Cycles.{Kinded}
use Rattle.plain.specs.Table.{accepts, marking}
use Rattle.rows.specs.Rows.{entries}
use Rattle.look.specs.Numbers.{no_number, up}
use Rattle.look.specs.Scan.{most_states, row_in}
use Rattle.components.specs.declared.Board.{Board}
use Rattle.components.specs.declared.Cursor.{Cursor}
use Rattle.components.specs.declared.Stand.{Stand}
use Rattle.components.specs.declared.Scanned.{Scanned}
use Rattle.components.specs.declared.Found.{Found}

-- ---- the game that the arrays stand for

-- a state, a target or a start state of 512 or more counts as what it leaves when divided by 512: no table has one
abbrev pub within : ℕ → ℕ
within x = x % most_states

-- the targets of the edges of v, oldest first
unfoldable pub row_of : List ℕ → List ℕ → ℕ → List ℕ
row_of targets starts v = map within (row_in targets starts v)

-- The game of 512 states whose rows these are. The marks of the kinds stand one behind the other, as many as there are states for each.
abbrev pub game_in : List ℕ → List ℕ → List ℕ → ℕ → ℕ → ℕ → Kinded
game_in targets starts words size kinds start = record {
  graph = record { start = within start; successors = row_of targets starts; accepting = accepts words };
  size = most_states;
  kinds = kinds;
  carries = λ kind s. accepts words (kind * size + s);
}

-- some states, and how many they are
abbrev pub found_of : List ℕ → Found
found_of states = record { count = length states; states = marking states }

-- ---- the arrays

-- what stands in place of a number for a state of a complete component: it lies on no round through all kinds, or on one
abbrev pub closed : ℕ
closed = 65533

abbrev pub on_round : ℕ
on_round = 65534

-- what the search writes on, of lists
abbrev pub board_of : List ℕ → List ℕ → List ℕ → List ℕ → List ℕ → Board
board_of number stack firsts path next = record { number = number; stack = stack; firsts = firsts; path = path; next = next }

-- lengths that the arrays have by their types
pub record Sized (b : Board) : Type 0 where
  pub number_size : length b.number ≡ 512
  pub stack_size : length b.stack ≡ 512
  pub firsts_size : length b.firsts ≡ 512
  pub path_size : length b.path ≡ 512
  pub next_size : length b.next ≡ 512

-- where the search stands
abbrev pub stand_of : Board → Cursor → Stand
stand_of b c = record { board = b; cursor = c }

-- ---- going through the edges of a state

-- how many groups are left where those from the one that has place x on become one
unfoldable pub joined : List ℕ → ℕ → ℕ → ℕ
joined firsts x zero = 0
joined firsts x (suc n) = cond (ltb 0 n && ltb x (get_or firsts n 0)) (joined firsts x n) (suc n)

-- the edges that are left, from edge k on, with so many groups
unfoldable pub scanned : List ℕ → List ℕ → List ℕ → ℕ → ℕ → Scanned
scanned number firsts [] k n = record { groups = n; found = None }
scanned number firsts (t ∷ ts) k n = cond (eqb (get_or number t 0) no_number)
    (record { groups = n; found = Some (record { index = k; target = t }) })
    (scanned number firsts ts (suc k) (joined firsts (get_or number t 0) n))

-- ---- a complete group

-- is each of so many kinds carried by one of the states?
unfoldable pub carries_all : List ℕ → ℕ → List ℕ → ℕ → Bool
carries_all words size states zero = true
carries_all words size states (suc n) = any (λ s. accepts words (n * size + s)) states && carries_all words size states n

-- are they more than one, or has the one an edge to itself?
unfoldable pub is_cyclic : (ℕ → List ℕ) → ℕ → ℕ → Bool
is_cyclic row n v = ltb 1 n || elem v (row v)

-- does a closed run pass the open states from a place up to another, and every kind in use?
unfoldable pub is_round : List ℕ → List ℕ → List ℕ → ℕ → ℕ → List ℕ → ℕ → ℕ → Bool
is_round targets starts words size kinds stack from stop =
    is_cyclic (row_of targets starts) (stop - from) (get_or stack from 0) && carries_all words size (entries (stop - from) from stack) kinds

-- some states get a number
unfoldable pub renumbered : ℕ → List ℕ → List ℕ → List ℕ
renumbered x [] number = number
renumbered x (s ∷ ss) number = renumbered x ss (set number s x)

-- ---- one turn

-- a state is discovered: it is a group of its own, and the last of the path
unfoldable pub discovered : Board → Cursor → ℕ → Stand
discovered b c t = stand_of
    (board_of (set b.number t c.top) (set b.stack c.top t) (set b.firsts c.groups c.top) (set b.path c.height t) (set b.next c.height 0))
    (record { groups = up c.groups; top = up c.top; height = up c.height })

-- the place of the newest group's first state
abbrev pub first_in : Board → Cursor → ℕ
first_in b c = get_or b.firsts (c.groups - 1) 0

-- is a state of the newest group left on a path of so many states?
unfoldable pub is_left : Board → Cursor → ℕ → Bool
is_left b c height = ltb 0 height && leb (first_in b c) (get_or b.number (get_or b.path (height - 1) 0) 0)

-- the path leaves its last state; where the newest group has none left on it, that group is closed
unfoldable pub departed : List ℕ → List ℕ → List ℕ → ℕ → ℕ → Board → Cursor → Stand
departed targets starts words size kinds b c =
    let first = first_in b c in
    cond (is_left b c (c.height - 1))
    (stand_of b (record { groups = c.groups; top = c.top; height = c.height - 1 }))
    (stand_of
    (board_of (renumbered (cond (is_round targets starts words size kinds b.stack first c.top) on_round closed) (entries (c.top - first) first b.stack) b.number) b.stack b.firsts b.path b.next)
    (record { groups = c.groups - 1; top = first; height = c.height - 1 }))

-- the cursor with so many groups
abbrev pub grouped : Cursor → ℕ → Cursor
grouped c n = record { groups = n; top = c.top; height = c.height }

-- behind the edges of the path's last state
unfoldable pub onwards : List ℕ → List ℕ → List ℕ → ℕ → ℕ → Board → Cursor → Scanned → Stand
onwards targets starts words size kinds b c r = elim r.found [
  | None ↦ departed targets starts words size kinds b (grouped c r.groups)
  | Some e ↦ discovered (board_of b.number b.stack b.firsts b.path (set b.next (c.height - 1) (up e.index))) (grouped c r.groups) e.target
]

unfoldable pub advanced : List ℕ → List ℕ → List ℕ → ℕ → ℕ → Board → Cursor → Stand
advanced targets starts words size kinds b c =
    let at = c.height - 1 in
    let k = get_or b.next at 0 in
    onwards targets starts words size kinds b c (scanned b.number b.firsts (drop k (row_of targets starts (get_or b.path at 0))) k c.groups)

-- ---- the end

-- the states that have the number of those on a round
unfoldable pub states_found : List ℕ → List ℕ
states_found number = filter (λ s. eqb (get_or number s 0) on_round) (below most_states)
