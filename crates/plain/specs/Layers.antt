-- Document 02, ticket 9: "The search runs on K layers of the game, from layer 1." The layers are one more graph for the plain search. Layers and kinds count from 0 here, from 1 in
-- the papers. Assumes nothing.
use Rattle.std.specs.Prelude.{ℕ, zero, suc, ◌+◌, ◌*◌, ◌-◌, Bool, true, false, ◌&&◌, List, [], ◌∷◌, ◌++◌, map, eqb, ltb}
use Rattle.plain.specs.Search.{Graph}
use Rattle.plain.specs.Cycles.{Kinded}

-- the copy of state s in layer l, of a game of n states
unfoldable pub copy : ℕ → ℕ → ℕ → ℕ
copy n l s = l * n + s

-- The layer in which v lies, and the state of which it is a copy; m layers lie above the first. A number beyond the last layer counts to it, so that each number is a copy.
unfoldable pub layer_of : ℕ → ℕ → ℕ → ℕ
layer_of n zero v = 0
layer_of n (suc m) v = elim (ltb v n) [ true ↦ 0 | false ↦ suc (layer_of n m (v - n)) ]

unfoldable pub state_of : ℕ → ℕ → ℕ → ℕ
state_of n zero v = v
state_of n (suc m) v = elim (ltb v n) [ true ↦ v | false ↦ state_of n m (v - n) ]

-- the copies of a state, one in each layer, and of several states: "any copy of the named state"
unfoldable pub copies : ℕ → ℕ → ℕ → List ℕ
copies n zero s = copy n 0 s ∷ []
copies n (suc m) s = copy n (suc m) s ∷ copies n m s

unfoldable pub copies_of : ℕ → ℕ → List ℕ → List ℕ
copies_of n m [] = []
copies_of n m (s ∷ ss) = copies n m s ++ copies_of n m ss

-- the next of k layers, "and from the last .. the first"
unfoldable pub next : ℕ → ℕ → ℕ
next k l = elim (eqb (suc l) k) [ true ↦ 0 | false ↦ suc l ]

-- the layer in which a move lands that leaves layer l: does its state carry that layer's kind?
abbrev pub landing : ℕ → Bool → ℕ → ℕ
landing k true l = next k l
landing k false l = l

module _ (a : Kinded) where
  -- "A move out of a state that carries its layer's kind lands in the next layer, and from the last in the first; other moves stay in their layer."
  abbrev pub lands : ℕ → ℕ → ℕ
  lands l s = landing a.kinds (a.carries l s) l

  -- the moves of state s in layer l
  abbrev pub row_in : ℕ → ℕ → List ℕ
  row_in l s = map (copy a.size (lands l s)) (a.graph.successors s)

  -- "A layered state pays if it is in layer 1 and carries kind 1."
  abbrev pub pays_in : ℕ → ℕ → Bool
  pays_in l s = eqb l 0 && a.carries 0 s

  -- the state of which v is a copy, and its layer
  abbrev pub state_at : ℕ → ℕ
  state_at v = state_of a.size (a.kinds - 1) v

  abbrev pub layer_at : ℕ → ℕ
  layer_at v = layer_of a.size (a.kinds - 1) v

  -- the layers, as the graph that is searched
  abbrev pub layers : Graph
  layers = record {
    start = copy a.size 0 a.graph.start;
    successors = λ v. row_in (layer_at v) (state_at v);
    accepting = λ v. pays_in (layer_at v) (state_at v);
  }
