-- When the arrays of the search stand for a configuration of the plain search. Assumes nothing.
use mathlib.Core.Path.{◌≡◌}
use mathlib.Core.Bool.{false}
use mathlib.Core.List.{List, [], ◌∷◌, ◌++◌}
use Prim.Native.Nat.{ℕ, suc, ◌+◌, ◌<◌}
use lib.ListN.{length, get_or, drop}
use Rattle.plain.specs.Lists.{elem, In, Begins}
use Rattle.plain.specs.Search.{Graph, Frame, frame, Config, outer, nested, exhausted, found, discovered_of, marked_of, count, states_of, stem_of, cycle_of}
use Rattle.plain.specs.Notes.{Note, Notes}
use Rattle.look.specs.Numbers.{no_number}
use Rattle.search.specs.declared.Phase.TheVariants.{Outer, Nested, Exhausted, Found}
use Rattle.search.specs.Core.{Game, row_of, accepts_at, Core, Sized}
use Rattle.search.specs.Archive.{root_of, stamp_in}

-- the note of a state in the arrays
abbrev pub note_in : Core → ℕ → Note
note_in s x = record { number = get_or s.number x 0; parent = get_or s.parent x 0; index = get_or s.index x 0; probes = get_or s.probes x 0 }

-- the arrays hold the notes r of what c has discovered and marked, and nothing else
pub record Mirrors (s : Core) (r : Notes) (c : Config) : Type 0 where
  pub sized : Sized s
  pub notes_right : (x : ℕ) → In x (discovered_of c) → note_in s x ≡ r.of x
  pub stamps_right : (x : ℕ) → In x (marked_of c) → stamp_in c s.stamp x ≡ r.stamp x
  pub undiscovered : (x : ℕ) → x < 512 → elem x (discovered_of c) ≡ false → get_or s.number x 0 ≡ no_number
  pub unmarked : (x : ℕ) → x < 512 → elem x (marked_of c) ≡ false → get_or s.stamp x 0 ≡ no_number
  -- a nested search's first state is marked in the array only when it is left
  pub root_unmarked : (x : ℕ) → In x (root_of c) → get_or s.stamp x 0 ≡ no_number
  pub met_right : s.walker.met ≡ length (discovered_of c)
  pub probes_right : s.walker.kept + s.spent ≡ count c

-- each state of the path has its place on it, the count of those below
abbrev pub Placed : List ℕ → List Frame → Type 0
Placed depth [] = Unit {0}
Placed depth (frame x ts ∷ p) = (get_or depth x 0 ≡ length p) × Placed depth p

module _ (g : Graph) where
  -- what is pending of the states of the nested search's path q: what stands behind the edge that was taken; base: the place of its first state in the walk
  abbrev pub Cursors : ℕ → List ℕ → List Frame → Type 0
  Cursors base cursor [] = Unit {0}
  Cursors base cursor (frame y us ∷ q) = (us ≡ drop (suc (get_or cursor (base + length q) 0)) (g.successors y)) × Cursors base cursor q

  -- the outer search has the state x at the top of the open path, with ts pending
  pub record AtOuter (s : Core) (x : ℕ) (ts : List ℕ) (p : List Frame) : Type 0 where
    pub phase_is : s.walker.phase ≡ Outer
    pub cur_is : s.walker.cur ≡ x
    pub pending_is : ts ≡ drop s.walker.next (g.successors x)
    pub height_is : s.walker.height ≡ suc (length p)
    pub walk_is : Begins (states_of (frame x ts ∷ p)) s.walk
    pub places : Placed s.depth (frame x ts ∷ p)

  -- a nested search from b, with x at the top of its path
  pub record AtNested (s : Core) (b : ℕ) (p : List Frame) (x : ℕ) (ts : List ℕ) (q : List Frame) : Type 0 where
    pub phase_is : s.walker.phase ≡ Nested
    pub cur_is : s.walker.cur ≡ x
    pub pending_is : ts ≡ drop s.walker.next (g.successors x)
    pub height_is : s.walker.height ≡ suc (length p)
    pub top_is : s.walker.top ≡ length p + suc (length q)
    pub walk_is : Begins (states_of p ++ states_of (frame x ts ∷ q)) s.walk
    pub places : Placed s.depth (frame b [] ∷ p)
    pub cursors : Cursors (length p) s.cursor q

  -- a nested search from b that is over
  pub record AtReturn (s : Core) (b : ℕ) (p : List Frame) : Type 0 where
    pub phase_is : s.walker.phase ≡ Nested
    pub cur_is : s.walker.cur ≡ b
    pub height_is : s.walker.height ≡ suc (length p)
    pub top_is : s.walker.top ≡ length p
    pub walk_is : Begins (states_of p) s.walk
    pub places : Placed s.depth (frame b [] ∷ p)

  -- a cycle is found while p is the open path: the walk is stem and cycle, and begins with the states of the open path
  pub record AtFound (s : Core) (p : List Frame) (stem cycle : List ℕ) : Type 0 where
    pub phase_is : s.walker.phase ≡ Found
    pub height_is : s.walker.height ≡ length p
    pub stem_is : s.walker.stem ≡ length stem
    pub top_is : s.walker.top ≡ length stem + length cycle
    pub walk_is : Begins (stem ++ cycle) s.walk
    pub path_is : Begins (states_of p) s.walk

  -- the walker stands where the configuration does
  abbrev pub Stands : Core → Config → Type 0
  Stands s (outer [] d k l) = (s.walker.phase ≡ Outer) × (s.walker.height ≡ 0)
  Stands s (outer (frame x ts ∷ p) d k l) = AtOuter s x ts p
  Stands s (nested b p [] d k l) = AtReturn s b p
  Stands s (nested b p (frame x ts ∷ q) d k l) = AtNested s b p x ts q
  Stands s (exhausted d k l) = (s.walker.phase ≡ Exhausted) × (s.walker.height ≡ 0)
  Stands s (found h p q d k l) = AtFound s p (stem_of h p) (cycle_of h p q)

  -- of the states that a search can discover, the game's rows and paying marks are those of the graph
  pub record Matches (game : Game) : Type 0 where
    pub rows : (v : ℕ) → v < 512 → g.successors v ≡ row_of game v
    pub acceptance : (v : ℕ) → v < 512 → g.accepting v ≡ accepts_at game v
