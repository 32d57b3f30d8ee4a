-- What the functions of the searches for a short round do, against the plain definitions: the arrays stand for the states that a plain search has seen. Cited by contracts. Assumes nothing.
use Rattle.std.specs.Prelude.{ℕ, ◌≤◌, ◌<◌, ◌≡◌, Bool, true, false, ◌&&◌, List, [], ◌∷◌, length, get_or, set, drop}
use Rattle.plain.specs.Lists.{In, Once, Begins}
use Rattle.plain.specs.Search.{Graph}
use Rattle.plain.specs.Table.{Table, accepts, carried_by, row, graph_of}
use Rattle.plain.specs.Shortest.{noted, targets_of, roots, Sweep as PlainSweep, through, back, stopped, sweep, levels, Attempt, succeeded, ran_out, ruled_out, attempt, Hunt, found_at, left_at, hunt}
use Rattle.plain.specs.Questions.{hunt_in}
use Rattle.plain.specs.Claims.{Arises}
use Rattle.rows.specs.Rows.{entries}
use Rattle.look.specs.Numbers.{further}
use Rattle.look.specs.Scan.{row_in}
use Rattle.look.specs.Sets.{Members}
use Rattle.shortest.specs.declared.Board.{Board}
use Rattle.shortest.specs.declared.Sweep.{Sweep}
use Rattle.shortest.specs.declared.Sweep.TheVariants.{Through, Back, Stopped}
use Rattle.shortest.specs.declared.Swept.{Swept}
use Rattle.shortest.specs.declared.Lengths.{Lengths}

abbrev pub goes_on : Sweep → Bool
goes_on Through = true
goes_on Back = false
goes_on Stopped = false

-- is the state accepting, and in the set?
abbrev pub root_in : List ℕ → List Bool → ℕ → Bool
root_in words seen s = accepts words s && get_or seen s true

-- what a search writes on, of lists
abbrev pub board_of : List ℕ → List Bool → ℕ → Board
board_of queue seen spent = record { queue = queue; seen = seen; spent = spent }

-- lengths that the arrays have by their types
pub record Sized (queue : List ℕ) (seen : List Bool) : Type 0 where
  pub queue_size : length queue ≡ 512
  pub seen_size : length seen ≡ 512

-- The arrays stand for the states seen, oldest first: the queue begins with them and ends behind them, and they are the set. Each is below 512, and none stands twice.
pub record Stands (queue : List ℕ) (seen : List Bool) (tail : ℕ) (xs : List ℕ) : Type 0 where
  pub tail_is : tail ≡ length xs
  pub in_order : Begins xs queue
  pub members : Members seen xs
  pub once : Once xs
  pub small : (x : ℕ) → In x xs → x < 512

-- the rows are those of the graph, whose states are below 512
pub record Rows (g : Graph) (targets starts : List ℕ) : Type 0 where
  pub rows_are : (v : ℕ) → row_in targets starts v ≡ g.successors v
  pub targets_small : (v t : ℕ) → In t (g.successors v) → t < 512

-- a state is noted
pub record Notes (queue : List ℕ) (seen : List Bool) (tail t : ℕ) (queue' : List ℕ) (seen' : List Bool) (r : ℕ) : Type 0 where
  pub sized : Sized queue' seen'
  pub stands : (xs : List ℕ) → t < 512 → Stands queue seen tail xs → Stands queue' seen' r (noted t xs)

-- what looks have come to, by the plain search
abbrev pub Comes : PlainSweep → Board → Swept → Type 0
Comes (through xs n) b r = (r.sweep ≡ Through) × (b.spent ≡ n) × Stands b.queue b.seen r.tail xs
Comes back b r = r.sweep ≡ Back
Comes stopped b r = r.sweep ≡ Stopped

-- the edges of a state are looked at
pub record LooksThrough (targets starts : List ℕ) (budget goal v : ℕ) (b : Board) (tail : ℕ) (b' : Board) (r : Swept) : Type 0 where
  pub sized : Sized b'.queue b'.seen
  pub comes : (g : Graph) (xs : List ℕ) → Rows g targets starts → Stands b.queue b.seen tail xs → Comes (sweep budget goal (g.successors v) xs b.spent) b' r

-- those of the states of a level, which are the states seen from a place on
pub record LooksLevel (targets starts : List ℕ) (budget goal from : ℕ) (b : Board) (tail : ℕ) (b' : Board) (r : Swept) : Type 0 where
  pub sized : Sized b'.queue b'.seen
  pub comes : (g : Graph) (xs : List ℕ) → Rows g targets starts → Stands b.queue b.seen tail xs → Comes (sweep budget goal (targets_of g (drop from xs)) xs b.spent) b' r

-- a search, over so many levels
pub record Searches (targets starts : List ℕ) (budget goal state l spent : ℕ) (b' : Board) (r : Swept) : Type 0 where
  pub sized : Sized b'.queue b'.seen
  pub comes : (g : Graph) → Rows g targets starts → state < 512 → Comes (levels g budget l goal (state ∷ []) (state ∷ []) spent) b' r

-- what trying a length has come to
abbrev pub Ends : Attempt → ℕ → Sweep → Type 0
Ends succeeded spent r = r ≡ Back
Ends ran_out spent r = r ≡ Stopped
Ends (ruled_out n) spent r = (r ≡ Through) × (spent ≡ n)

-- the first entries of an array are states
abbrev pub States : ℕ → List ℕ → Type 0
States count roots = (i : ℕ) → i < count → get_or roots i 0 < 512

pub record TriesLength (targets starts roots : List ℕ) (count budget l spent : ℕ) (queue' : List ℕ) (spent' : ℕ) (r : Sweep) : Type 0 where
  pub queue_size : length queue' ≡ 512
  pub ends : (g : Graph) → Rows g targets starts → States count roots → Ends (attempt g budget l (entries count 0 roots) spent) spent' r

-- "Found within B, both are the shortest length. Otherwise the first is the present walk's round length"
abbrev pub lengths_of : ℕ → Hunt → Lengths
lengths_of present (found_at l) = record { best = l; least = l }
lengths_of present (left_at l) = record { best = present; least = l }

abbrev pub lengths_at : Sweep → ℕ → ℕ → Lengths
lengths_at Through l present = record { best = present; least = l }
lengths_at Back l present = record { best = l; least = l }
lengths_at Stopped l present = record { best = present; least = l }

abbrev pub TriesLengths : List ℕ → List ℕ → List ℕ → ℕ → ℕ → ℕ → Lengths → Type 0
TriesLengths targets starts roots count budget present r =
    (g : Graph) → Rows g targets starts → States count roots → present ≤ 512 → r ≡ lengths_of present (hunt g budget (entries count 0 roots) present 1 0)

-- The arrays hold a table with one kind of pay.
pub record Holds (t : Table) (targets starts words : List ℕ) (size start : ℕ) : Type 0 where
  pub arises : Arises t
  pub one_kind : t.kinds ≡ 1
  pub size_is : size ≡ t.size
  pub start_is : start ≡ t.start
  pub rows_are : (v : ℕ) → row_in targets starts v ≡ row t.edges v
  pub marks_are : (s : ℕ) → s < t.size → accepts words s ≡ carried_by t.marks 0 s

-- a state is filed where it is a root
pub record FilesRoot (root : Bool) (roots : List ℕ) (count s : ℕ) (roots' : List ℕ) (r : ℕ) : Type 0 where
  pub filed : root ≡ true → (roots' ≡ set roots count s) × (r ≡ further count)
  pub unfiled : root ≡ false → (roots' ≡ roots) × (r ≡ count)

-- the reachable paying states in rising order, and how many they are
pub record FindsRoots (targets starts words : List ℕ) (size start : ℕ) (queue' roots' : List ℕ) (r : ℕ) : Type 0 where
  pub queue_size : length queue' ≡ 512
  pub roots_size : length roots' ≡ 512
  pub roots_are : (t : Table) → Holds t targets starts words size start → entries r 0 roots' ≡ roots (graph_of t) t.size

-- the two lengths are those of the table
abbrev pub Shortens : Table → List ℕ → List ℕ → List ℕ → ℕ → ℕ → ℕ → ℕ → Lengths → Type 0
Shortens t targets starts words size start present budget r = Holds t targets starts words size start → present ≤ 512 → r ≡ lengths_of present (hunt_in t budget present)
