-- Document 01, "Turned back": the conditions, each with its sentence, and the order in which a load tries them; that of a change is in Machine.antt.
-- Document 02, ticket 1: a move from a state to itself "is .. taken like any other, refusal 7 no longer occurs"; the other numbers stay. Ticket 9: limits for several kinds of pay.
-- Assumes nothing.
use Rattle.std.specs.Prelude.{ℕ, ◌+◌, ◌*◌, ◌%◌, Bool, true, false, ◌&&◌, ◌||◌, List, [], ◌∷◌, eqb, ltb, leb, length}
use Rattle.plain.specs.Lists.{any, any_below}
use Rattle.plain.specs.Search.{Edge}
use Rattle.plain.specs.Table.{carried_by}

pub data Trial : Type 0 where
  accepted : Trial
  refused : ℕ → Trial

-- "Tried in this order": the number of the first condition that holds
unfoldable pub first_held : List (ℕ × Bool) → Trial
first_held [] = accepted
first_held (c ∷ cs) = elim c.1 [ true ↦ refused c.0 | false ↦ first_held cs ]

-- the moves of a list of numbers: two numbers each, from and to
unfoldable pub pairs : List ℕ → List Edge
pairs [] = []
pairs (a ∷ []) = []
pairs (a ∷ b ∷ ns) = (a, b) ∷ pairs ns

-- and the numbers of moves
unfoldable pub flat : List Edge → List ℕ
flat [] = []
flat (e ∷ es) = e.0 ∷ e.1 ∷ flat es

unfoldable pub same_edge : Edge → Edge → Bool
same_edge e f = eqb e.0 f.0 && eqb e.1 f.1

-- 8. "A move to be .. added is already there"; 10. "A cut names a move that is not present."
unfoldable pub present : List Edge → Edge → Bool
present es e = any (same_edge e) es

-- 2. "The count of states is 0 or above 512."
unfoldable pub bad_size : ℕ → Bool
bad_size n = eqb n 0 || ltb 512 n

-- 3. "The start state is not below the count of states."
unfoldable pub bad_start : ℕ → ℕ → Bool
bad_start n s = leb n s

-- 4. "A paying mark is set for a number not below the count of states."; a kind "above K gets 4". A mark has one of four kinds.
unfoldable pub bad_marks : ℕ → ℕ → List (List ℕ) → Bool
bad_marks n k marks = any_below 4 (λ kind. any_below 512 (λ s. (leb n s || leb k kind) && carried_by marks kind s))

-- 5. "The loaded list has an odd count of numbers or more than 4,096 of them."
unfoldable pub bad_count : List ℕ → Bool
bad_count ns = eqb (length ns % 2) 1 || ltb 4096 (length ns)

-- 6. "A move names a number that is not below the count of states."
unfoldable pub outside : ℕ → Edge → Bool
outside n e = leb n e.0 || leb n e.1

-- 6, of a state that is named alone: "A state outside the game gets refusal 6." (document 02, ticket 2)
unfoldable pub beyond : ℕ → ℕ → Bool
beyond n s = leb n s

-- 8. "A move to be loaded .. stands twice in the loaded list."
unfoldable pub repeated : List Edge → Bool
repeated [] = false
repeated (e ∷ es) = present es e || repeated es

-- 16. "K is 0 or above 4, or states × K exceeds 512, or moves × K exceeds 2,048"
unfoldable pub bad_kinds : ℕ → ℕ → ℕ → Bool
bad_kinds k n moves = eqb k 0 || (ltb 4 k || (ltb 512 (n * k) || ltb 2048 (moves * k)))

-- 9. "An add finds 2,048 moves present."; with K kinds "when one more move, times K, would exceed 2,048"
unfoldable pub full : ℕ → List Edge → Bool
full k es = ltb 2048 ((length es + 1) * k)

-- 11. "The lent list for the walk has fewer entries than the game has states."; with K kinds it "compares with states × K"
unfoldable pub short_room : ℕ → ℕ → Bool
short_room n room = ltb room n

-- as the last condition that a load or a change tries, of a game of so many states and kinds
abbrev pub room_condition : ℕ → ℕ → ℕ → List (ℕ × Bool)
room_condition n k room = (11, short_room (n * k) room) ∷ []

-- the arguments of a load: the count of states, the start state, the count of kinds, the paying words of each kind, the moves as a list of numbers
pub record Load : Type 0 where
  pub size : ℕ
  pub start : ℕ
  pub kinds : ℕ
  pub marks : List (List ℕ)
  pub numbers : List ℕ

-- "A load tries 2 to 8 and 11" (7 no more), "each over the whole list before the next"; 16 "is tried after 5 at a load"; room is the length of the list lent for the walk
unfoldable pub load_trial : Load → ℕ → Trial
load_trial l room = first_held (
    (2, bad_size l.size)
    ∷ (3, bad_start l.size l.start)
    ∷ (4, bad_marks l.size l.kinds l.marks)
    ∷ (5, bad_count l.numbers)
    ∷ (16, bad_kinds l.kinds l.size (length (pairs l.numbers)))
    ∷ (6, any (outside l.size) (pairs l.numbers))
    ∷ (8, repeated (pairs l.numbers))
    ∷ room_condition l.size l.kinds room)
