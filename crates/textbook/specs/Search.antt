-- What the functions of the textbook search promise: when its sets, its walk and its count of looks show where the plain search stands, and what a visit, and going through
-- the edges of a state, then come to. The outer and the nested search are said at once. Assumes nothing.
use Rattle.std.specs.Prelude.{ℕ, suc, ◌+◌, ◌≤◌, ◌<◌, ◌≡◌, Bool, true, false, ◌&&◌, cond, Option, None, Some, List, [], ◌∷◌, ◌++◌, ltb, length, replicate}
use Rattle.plain.specs.Lists.{Begins}
use Rattle.plain.specs.Search.{Graph, Edge, Frame, frame, Config, outer, nested, found, run, states_of, stem_of, cycle_of}
use Rattle.plain.specs.Limits.{Limits}
use Rattle.plain.specs.Table.{accepts}
use Rattle.look.specs.Scan.{row_laid}
use Rattle.look.specs.declared.Layout.{Layout}
use Rattle.look.specs.Sets.{Members}
use Rattle.textbook.specs.declared.Board.{Board}
use Rattle.look.specs.declared.Game.{Game}
use Rattle.textbook.specs.declared.Walk.{Walk}

-- ---- what a search has come to: a walk, or none

-- the lengths of the stem and of the walk, 0 where there is none
abbrev pub stem_in : Option Walk → ℕ
stem_in None = 0
stem_in (Some w) = w.stem

abbrev pub length_in : Option Walk → ℕ
length_in None = 0
length_in (Some w) = w.length

-- ---- the board: what the search writes on

abbrev pub board_of : List Bool → List Bool → List ℕ → ℕ → Board
board_of met marked walk spent = record { met = met; marked = marked; walk = walk; spent = spent }

-- HOW MANY STATES are not in a set: what falls from a visit to the visits that it makes
unfoldable pub missing : List Bool → ℕ
missing [] = 0
missing (b ∷ bs) = cond b 0 1 + missing bs

-- for any contents of the arrays: their lengths stay, and no state leaves a set
pub record Kept (B B' : Board) : Type 0 where
  pub met_size : length B'.met ≡ length B.met
  pub marked_size : length B'.marked ≡ length B.marked
  pub walk_size : length B'.walk ≡ length B.walk
  pub met_fewer : missing B'.met ≤ missing B.met
  pub marked_fewer : missing B'.marked ≤ missing B.marked

-- ---- the graph: any one that the arrays show

-- its rows are those of the arrays, and its search stays within the limits
pub record Reads (targets : List ℕ) (y : Layout) (g : Graph) : Type 0 where
  pub rows : (v : ℕ) → v < 512 → g.successors v ≡ row_laid targets y v
  pub limits : (n : ℕ) → Limits g (run g n)

-- and its accepting states are those of the words, below a size
pub record ReadsAll (targets : List ℕ) (y : Layout) (size : ℕ) (words : List ℕ) (g : Graph) : Type 0 where
  pub reads : Reads targets y g
  pub acceptance : (v : ℕ) → v < 512 → g.accepting v ≡ (ltb v size && accepts words v)

-- the same of a game as the search is lent it
abbrev pub ReadsGame : Game → Graph → Type 0
ReadsGame a g = ReadsAll a.targets.now a.layout.now a.size a.words.now g

-- ---- where the plain search stands, in the outer and in the nested search alike. q: the path that is worked on. In the nested search, s: the state from which it was started;
-- p: the open path below s.

abbrev pub conf : Bool → ℕ → List Frame → List Frame → List ℕ → List ℕ → List Edge → Config
conf false s p q d k l = outer q d k l
conf true s p q d k l = nested s p q d k l

-- what lies below that path
abbrev pub under : Bool → List Frame → List Frame
under false p = []
under true p = p

-- the plain search comes to c
abbrev pub Reached : Graph → Config → Type 0
Reached g c = (n : ℕ) × (run g n ≡ c)

-- the board shows it
pub record Shows (nesting : Bool) (B : Board) (p q : List Frame) (d k : List ℕ) (l : List Edge) : Type 0 where
  pub met_right : Members B.met d
  pub marked_right : Members B.marked k
  pub walk_right : Begins (states_of (under nesting p) ++ states_of q) B.walk
  pub spent_right : B.spent ≡ length l

-- ---- how a call ends

-- no round was found: the plain search comes to where q is the path that is worked on, and the board shows it
pub record Going (g : Graph) (nesting : Bool) (s : ℕ) (p q : List Frame) (B : Board) : Type 0 where
  pub d : List ℕ
  pub k : List ℕ
  pub l : List Edge
  pub reached : Reached g (conf nesting s p q d k l)
  pub shows : Shows nesting B p q d k l

-- a round was found: the plain search comes to it, its walk stands on the board, and everything stops
pub record Stopped (g : Graph) (B : Board) (stem len : ℕ) : Type 0 where
  pub h : ℕ
  pub p : List Frame
  pub q : List Frame
  pub d : List ℕ
  pub k : List ℕ
  pub l : List Edge
  pub reached : Reached g (found h p q d k l)
  pub stem_is : stem ≡ length (stem_of h p)
  pub length_is : len ≡ length (stem_of h p) + length (cycle_of h p q)
  pub walk_is : Begins (stem_of h p ++ cycle_of h p q) B.walk
  pub spent_is : B.spent ≡ length l

abbrev pub Ends : Graph → Bool → ℕ → List Frame → List Frame → Board → Option Walk → Type 0
Ends g nesting s p q B None = Going g nesting s p q B
Ends g nesting s p q B (Some w) = Stopped g B w.stem w.length

-- A VISIT of v, where the plain search has just put v on its path and the board shows the rest: it comes to where v has left the path again, or to a round. height: in the
-- nested search, how many states the open path has; place: where v is put on the walk.
pub record Visits (P : Graph → Type 0) (nesting : Bool) (v height place : ℕ) (B B' : Board) (r : Option Walk) : Type 0 where
  pub kept : Kept B B'
  pub leads : (g : Graph) → P g → (s : ℕ) (p q : List Frame) (d k : List ℕ) (l : List Edge)
      → Reached g (conf nesting s p (frame v (g.successors v) ∷ q) (cond nesting d (v ∷ d)) (cond nesting (v ∷ k) k) l)
      → Shows nesting B p q d k l → (nesting ≡ true → height ≡ suc (length p)) → place ≡ length (under nesting p) + length q
      → Ends g nesting s p q B' r

-- from where v is the newest state of the path, none of its edges is taken, and the board shows it, to a goal; place: behind v on the walk
abbrev pub Leads : (Graph → Type 0) → Bool → ℕ → ℕ → ℕ → Board → (Graph → ℕ → List Frame → List Frame → Type 0) → Type 0
Leads P nesting v height place B Goal = (g : Graph) → P g → (s : ℕ) (p q : List Frame) (d k : List ℕ) (l : List Edge)
    → Reached g (conf nesting s p (frame v (g.successors v) ∷ q) d k l)
    → Shows nesting B p (frame v (g.successors v) ∷ q) d k l → (nesting ≡ true → height ≡ suc (length p)) → place ≡ length (under nesting p) + suc (length q)
    → Goal g s p q

-- THE EDGES of v are explored: it comes to where they are all taken, or to a round.
pub record Explores (P : Graph → Type 0) (nesting : Bool) (v height place : ℕ) (B B' : Board) (r : Option Walk) : Type 0 where
  pub kept : Kept B B'
  pub leads : Leads P nesting v height place B (λ g s p q. Ends g nesting s p (frame v [] ∷ q) B' r)

-- A SEARCH that is begun at v, with no state in a set: what the visit of v comes to.
pub record Begun (P : Graph → Type 0) (v : ℕ) (walk : List ℕ) (spent : ℕ) (walk' : List ℕ) (spent' : ℕ) (r : Option Walk) : Type 0 where
  pub met : List Bool
  pub marked : List Bool
  pub visits : Visits P false v 0 0 (board_of (replicate 512 false) (replicate 512 false) walk spent) (board_of met marked walk' spent') r
