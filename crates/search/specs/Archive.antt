-- The arrays that outlive a search, as the notes of the plain search. Assumes nothing.
use Rattle.std.specs.Prelude.{ℕ, ◌<◌, ◌≡◌, false, cond, List, [], ◌∷◌, length, get_or}
use Rattle.plain.specs.Lists.{elem, In}
use Rattle.plain.specs.Search.{Graph, Frame, frame, Config, outer, nested, exhausted, found, discovered_of, marked_of, run}
use Rattle.plain.specs.Notes.{Notes, Faithful}
use Rattle.look.specs.Numbers.{no_number}
use Rattle.search.specs.Core.{Lengths}

-- the newest state of a path
abbrev pub top_of : List Frame → List ℕ
top_of [] = []
top_of (frame s ts ∷ p) = s ∷ []

-- the state from which a nested search was started that has not ended without success
abbrev pub root_of : Config → List ℕ
root_of (outer p d k l) = []
root_of (nested s p q d k l) = s ∷ []
root_of (exhausted d k l) = []
root_of (found h p q d k l) = top_of p

-- The stamp of a marked state. That state is marked in the array only when it is left: until then its stamp is the count of discovered states.
abbrev pub stamp_in : Config → List ℕ → ℕ → ℕ
stamp_in c stamp x = cond (elem x (root_of c)) (length (discovered_of c)) (get_or stamp x 0)

-- the arrays as notes of a search that stands at c
abbrev pub notes_of : Config → List ℕ → List ℕ → List ℕ → List ℕ → List ℕ → Notes
notes_of c number parent index probes stamp = record {
  of = λ x. record { number = get_or number x 0; parent = get_or parent x 0; index = get_or index x 0; probes = get_or probes x 0 };
  stamp = stamp_in c stamp;
}

-- arrays that hold the notes of a search of n steps, and nothing else
pub record Archived (g : Graph) (n : ℕ) (number parent index probes stamp walk : List ℕ) : Type 0 where
  pub sizes : Lengths number parent index probes stamp walk
  pub holds : Faithful g (notes_of (run g n) number parent index probes stamp) n
  pub undiscovered : (x : ℕ) → x < 512 → elem x (discovered_of (run g n)) ≡ false → get_or number x 0 ≡ no_number
  pub unmarked : (x : ℕ) → x < 512 → elem x (marked_of (run g n)) ≡ false → get_or stamp x 0 ≡ no_number
  pub root_unmarked : (x : ℕ) → In x (root_of (run g n)) → get_or stamp x 0 ≡ no_number
