-- Document 02, ticket 11: the shortest round within a budget of looks, by breadth-first searches over any graph. Assumes nothing.
use Rattle.std.specs.Prelude.{ℕ, zero, suc, Bool, true, false, ◌&&◌, ◌||◌, List, [], ◌∷◌, ◌++◌, eqb, leb, length, drop}
use Rattle.plain.specs.Lists.{any, filter, elem, below}
use Rattle.plain.specs.Search.{Graph}

-- ---- "every reachable paying state in rising order"

-- does a run of at most n moves lead from a to b?
unfoldable pub leads : Graph → ℕ → ℕ → ℕ → Bool
leads g zero a b = eqb a b
leads g (suc n) a b = eqb a b || any (λ x. leads g n x b) (g.successors a)

-- "It is reachable if a run of zero or more moves leads from the start state to it": in a game of so many states, so many moves are enough (proofs/Reached.antt, `reached_right`).
unfoldable pub reached : Graph → ℕ → ℕ → Bool
reached g size s = leads g size g.start s

-- the states that are searched from
unfoldable pub roots : Graph → ℕ → List ℕ
roots g size = filter (λ s. g.accepting s && reached g size s) (below size)

-- ---- one search

-- the states seen, oldest first, with t among them: a state that was seen already is not taken a second time
unfoldable pub noted : ℕ → List ℕ → List ℕ
noted t seen = elim (elem t seen) [ true ↦ seen | false ↦ seen ++ (t ∷ []) ]

-- What looks at some moves have come to.
pub data Sweep : Type 0 where
  -- all were looked at: the states seen by then, and the count of looks
  through : List ℕ → ℕ → Sweep
  -- a look came back
  back : Sweep
  -- the next would be look B + 1
  stopped : Sweep

-- Looks at moves that lead to ts, "until a look comes back to it", the state s; "the search stops before look B + 1". b is the budget B, and the looks of all searches of one line are
-- counted on.
unfoldable pub sweep : ℕ → ℕ → List ℕ → List ℕ → ℕ → Sweep
sweep b s [] seen n = through seen n
sweep b s (t ∷ ts) seen n = elim (leb b n) [
  | true ↦ stopped
  | false ↦ elim (eqb t s) [ true ↦ back | false ↦ sweep b s ts (noted t seen) (suc n) ]
]

-- where the moves of some states lead, "moves oldest first"
unfoldable pub targets_of : Graph → List ℕ → List ℕ
targets_of g [] = []
targets_of g (x ∷ xs) = g.successors x ++ targets_of g xs

module _ (g : Graph) (b : ℕ) where
  -- So many levels, of which the given one is the first: the moves of a level's states are looked at, and the states first seen by that are the next level.
  unfoldable pub levels : ℕ → ℕ → List ℕ → List ℕ → ℕ → Sweep
  levels zero s level seen n = through seen n
  levels (suc l) s level seen n = elim (sweep b s (targets_of g level) seen n) [
    | through seen' m ↦ levels l s (drop (length seen) seen') seen' m
    | back ↦ back
    | stopped ↦ stopped
  ]

  -- "searched breadth-first .. over states fewer than that many moves away": for length l these are the states of l levels, the first of which is s alone
  abbrev pub search_from : ℕ → ℕ → ℕ → Sweep
  search_from l s n = levels l s (s ∷ []) (s ∷ []) n

-- ---- the lengths

-- What trying one length has come to: a round was found, the budget was used up, or it is ruled out, with so many looks by then.
pub data Attempt : Type 0 where
  succeeded : Attempt
  ran_out : Attempt
  ruled_out : ℕ → Attempt

-- What trying the lengths has come to: a round of that length was found; or the budget was used up at that length, "the smallest length not ruled out".
pub data Hunt : Type 0 where
  found_at : ℕ → Hunt
  left_at : ℕ → Hunt

module _ (g : Graph) (b : ℕ) where
  -- "For each length, every reachable paying state in rising order is searched": each search begins anew, and the looks go on counting
  unfoldable pub attempt : ℕ → List ℕ → ℕ → Attempt
  attempt l [] n = ruled_out n
  attempt l (s ∷ ss) n = elim (search_from g b l s n) [
    | through seen m ↦ attempt l ss m
    | back ↦ succeeded
    | stopped ↦ ran_out
  ]

  -- "tries the lengths 1, 2 and so on": k lengths from l on, from the states of rs
  unfoldable pub hunt : List ℕ → ℕ → ℕ → ℕ → Hunt
  hunt rs zero l n = left_at l
  hunt rs (suc k) l n = elim (attempt l rs n) [
    | succeeded ↦ found_at l
    | ran_out ↦ left_at l
    | ruled_out m ↦ hunt rs k (suc l) m
  ]
