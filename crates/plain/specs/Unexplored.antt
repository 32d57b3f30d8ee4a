-- Document 02, ticket 4, over any two graphs: how far a run has come, and when the run on another graph is the same. Assumes nothing.
use Rattle.std.specs.Prelude.{ℕ, ◌≡◌, ◌⊎◌, false, List, [], ◌∷◌, ◌++◌}
use Rattle.plain.specs.Lists.{elem, In}
use Rattle.plain.specs.Search.{Graph, Frame, frame, Config, outer, nested, exhausted, found, discovered_of}

-- The open path of the states that have not finished their outer moves. An accepting state whose nested search runs has finished, also where that search has
-- stopped the run: it is the tip of the open path.
abbrev pub unfinished_path : Config → List Frame
unfinished_path (outer p d k l) = p
unfinished_path (nested s p q d k l) = p
unfinished_path (exhausted d k l) = []
unfinished_path (found h [] q d k l) = []
unfinished_path (found h (frame s us ∷ p) q d k l) = p

-- x is on the path, and ts are the targets of those of its edges that are not yet taken
abbrev pub Untaken : ℕ → List ℕ → List Frame → Type 0
Untaken x ts [] = ⊥
Untaken x ts (frame s us ∷ p) = ((x ≡ s) × (ts ≡ us)) ⊎ Untaken x ts p

-- What the rows of x in two graphs have in common, seen from the run of g that stands at c. Behind the common part both have nothing; or x was never discovered; or
-- x has not finished, and the common part is what was taken. If x was discovered, it accepts in both graphs or in neither.
pub record Shared (g h : Graph) (c : Config) (x : ℕ) : Type 0 where
  pub common : List ℕ
  pub left : List ℕ
  pub right : List ℕ
  pub here : g.successors x ≡ common ++ left
  pub there : h.successors x ≡ common ++ right
  pub untaken : ((left ≡ []) × (right ≡ [])) ⊎ ((elem x (discovered_of c) ≡ false) ⊎ Untaken x left (unfinished_path c))
  pub acceptance : In x (discovered_of c) → h.accepting x ≡ g.accepting x

abbrev pub bare_frames : List Frame → List Frame
bare_frames [] = []
bare_frames (frame s ts ∷ p) = frame s [] ∷ bare_frames p

-- A configuration without what is left to take: where two are equal in this, the searches have met, marked and looked at the same, in the same order, and stand on the
-- same paths.
abbrev pub bare : Config → Config
bare (outer p d k l) = outer (bare_frames p) d k l
bare (nested s p q d k l) = nested s (bare_frames p) (bare_frames q) d k l
bare (exhausted d k l) = exhausted d k l
bare (found h p q d k l) = found h (bare_frames p) (bare_frames q) d k l
