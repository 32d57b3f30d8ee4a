-- The marks of a game's kinds in eight words, one bit for each state of the layers: cited by contracts. Assumes nothing.
use Rattle.std.specs.Prelude.{ℕ, ◌*◌, ◌-◌, ◌≤◌, ◌<◌, ◌≡◌, false, List, length}
use Rattle.plain.specs.Table.{accepts, carried_by}
use Rattle.plain.specs.Layers.{layer_of, state_of}

-- Of a game of n states and k kinds: the bit of a state of the layers tells whether the state of which it is a copy carries its layer's kind.
pub record Packed (n k : ℕ) (marks : List (List ℕ)) (words : List ℕ) : Type 0 where
  pub words_size : length words ≡ 8
  pub bits_are : (v : ℕ) → v < k * n → accepts words v ≡ carried_by marks (layer_of n (k - 1) v) (state_of n (k - 1) v)

-- the bits before the first of these stay, and from it on none of 512 is set
pub record ClearedFrom (first : ℕ) (words words' : List ℕ) : Type 0 where
  pub same_size : length words' ≡ length words
  pub before : (v : ℕ) → v < first → accepts words' v ≡ accepts words v
  pub behind : (v : ℕ) → first ≤ v → v < 512 → accepts words' v ≡ false
