-- The arrays of the search as lists, and what each step does to them. Cited by the contracts of this crate: a theorem (proofs/OneStep.antt) ties it
-- to the plain search. Assumes nothing.
use Rattle.std.specs.Prelude.{ℕ, zero, suc, ◌+◌, ◌*◌, ◌-◌, ◌%◌, ◌≤◌, ◌<◌, ◌≡◌, Bool, true, false, ◌&&◌, cond, List, ◌++◌, map, eqb, ltb, leb, length, get_or, set, take, drop, replicate}
use Rattle.plain.specs.Table.{accepts}
use Rattle.look.specs.Numbers.{no_number, blanks, plus, up, further}
use Rattle.look.specs.Scan.{most_states, row_laid}
use Rattle.look.specs.declared.Layout.{Layout}
use Rattle.search.specs.declared.Phase.{Phase}
use Rattle.search.specs.declared.Phase.TheVariants.{Outer, Nested, Exhausted, Found}
use Rattle.look.specs.declared.Game.{Game as LentGame}
use Rattle.search.specs.declared.Walker.{Walker}
use Rattle.search.specs.declared.Records.{Records}
use Rattle.search.specs.declared.Trail.{Trail}

-- ---- the game

-- the targets of the moves, where each state's row lies among them, the words of the paying marks, and the number below which a state can be accepting
pub record Game : Type 0 where
  pub targets : List ℕ
  pub layout : Layout
  pub words : List ℕ
  pub size : ℕ

-- the game of lent arrays
abbrev pub game_of : List ℕ → Layout → List ℕ → ℕ → Game
game_of targets layout words size = record { targets = targets; layout = layout; words = words; size = size }

-- the same of a game as a search is lent it
abbrev pub game_in : LentGame → Game
game_in g = game_of g.targets.now g.layout.now g.words.now g.size

-- is the mark of v set, and is v below the number?
unfoldable pub accepts_below : List ℕ → ℕ → ℕ → Bool
accepts_below words size v = ltb v size && accepts words (v % most_states)

-- The steps read a game through these two alone: the targets of the edges that leave v, oldest first; and whether v is accepting.
abbrev pub row_of : Game → ℕ → List ℕ
row_of g v = row_laid g.targets g.layout v

abbrev pub accepts_at : Game → ℕ → Bool
accepts_at g v = accepts_below g.words g.size v

-- ---- the arrays

-- the arrays of a search, the count of its probes, and where it stands
pub record Core : Type 0 where
  -- by state: discovery number, parent, index of the edge in the parent's row, probes made by then
  pub number : List ℕ
  pub parent : List ℕ
  pub index : List ℕ
  pub probes : List ℕ
  -- by state: how many states were discovered when it was marked
  pub stamp : List ℕ
  -- the open path, and behind it the path of the nested search
  pub walk : List ℕ
  -- by state: its place on the open path
  pub depth : List ℕ
  -- by place: the edge that was taken last from a state on the path of the nested search
  pub cursor : List ℕ
  -- the probes made since the search was begun or resumed
  pub spent : ℕ
  pub walker : Walker

-- the same of lent arrays
abbrev pub core_of : Walker → ℕ → List ℕ → List ℕ → List ℕ → List ℕ → List ℕ → List ℕ → List ℕ → List ℕ → Core
core_of w spent number parent index probes stamp walk depth cursor = record {
  number = number;
  parent = parent;
  index = index;
  probes = probes;
  stamp = stamp;
  walk = walk;
  depth = depth;
  cursor = cursor;
  spent = spent;
  walker = w;
}

-- the same of the records and the trail that a search is lent
abbrev pub core_in : Walker → ℕ → Records → Trail → Core
core_in w spent a t = core_of w spent a.number a.parent a.index a.probes a.stamp a.walk t.depth t.cursor

-- the records with another walk, and the trail with other places
abbrev pub with_walk : Records → List ℕ → Records
with_walk a walk = record { number = a.number; parent = a.parent; index = a.index; probes = a.probes; stamp = a.stamp; walk = walk }

abbrev pub with_depth : Trail → List ℕ → Trail
with_depth t depth = record { depth = depth; cursor = t.cursor }

-- lengths that the arrays have by their types
pub record Sized (s : Core) : Type 0 where
  pub number_size : length s.number ≡ most_states
  pub parent_size : length s.parent ≡ most_states
  pub index_size : length s.index ≡ most_states
  pub probes_size : length s.probes ≡ most_states
  pub stamp_size : length s.stamp ≡ most_states
  pub walk_size : length s.walk ≡ most_states
  pub depth_size : length s.depth ≡ most_states
  pub cursor_size : length s.cursor ≡ most_states

-- the same of those that outlive a search
pub record Lengths (number parent index probes stamp walk : List ℕ) : Type 0 where
  pub number_size : length number ≡ most_states
  pub parent_size : length parent ≡ most_states
  pub index_size : length index ≡ most_states
  pub probes_size : length probes ≡ most_states
  pub stamp_size : length stamp ≡ most_states
  pub walk_size : length walk ≡ most_states

-- ---- one step, by its ways

-- the walker at another edge of its state
abbrev pub placed : Walker → ℕ → Walker
placed w next = record { phase = w.phase; cur = w.cur; next = next; height = w.height; top = w.top; stem = w.stem; met = w.met; kept = w.kept }

-- at the edge behind
abbrev pub skipped : Walker → Walker
skipped w = placed w (suc w.next)

-- t is discovered, by edge `next` of `cur`
abbrev pub entered : Walker → ℕ → Walker
entered w t = record { phase = Outer; cur = t; next = 0; height = up w.height; top = up w.height; stem = 0; met = up w.met; kept = w.kept }

-- `cur` leaves the open path
abbrev pub left : List ℕ → List ℕ → Walker → Walker
left parent index w = record {
  phase = Outer;
  cur = get_or parent w.cur 0;
  next = suc (get_or index w.cur 0);
  height = w.height - 1;
  top = w.height - 1;
  stem = 0;
  met = w.met;
  kept = w.kept;
}

-- a nested search starts from `cur`
abbrev pub nesting : Walker → Walker
nesting w = record { phase = Nested; cur = w.cur; next = 0; height = w.height; top = w.height; stem = 0; met = w.met; kept = w.kept }

-- after the last edge of `cur`: is it accepting?
unfoldable pub finished : Bool → List ℕ → List ℕ → Walker → Walker
finished accepting parent index w = cond accepting (nesting w) (left parent index w)

-- the nested search goes on to t
abbrev pub deepened : Walker → ℕ → Walker
deepened w t = record { phase = Nested; cur = t; next = 0; height = w.height; top = further w.top; stem = 0; met = w.met; kept = w.kept }

-- the nested search goes back to the state below, behind the edge that was taken there
abbrev pub returned : List ℕ → List ℕ → Walker → Walker
returned walk cursor w = record {
  phase = Nested;
  cur = get_or walk (w.top - 1 - 1) 0;
  next = suc (get_or cursor (w.top - 1 - 1) 0);
  height = w.height;
  top = w.top - 1;
  stem = 0;
  met = w.met;
  kept = w.kept;
}

-- the nested search goes back out of its first state: its path is empty
abbrev pub emptied : Walker → Walker
emptied w = record { phase = Nested; cur = w.cur; next = w.next; height = w.height; top = w.top - 1; stem = 0; met = w.met; kept = w.kept }

-- the search is over, and no cycle was found
abbrev pub exhausted : Walker → Walker
exhausted w = record { phase = Exhausted; cur = w.cur; next = w.next; height = 0; top = w.top; stem = 0; met = w.met; kept = w.kept }

-- a cycle is found; it is entered at place h of the open path
abbrev pub closed : Walker → ℕ → Walker
closed w h = record { phase = Found; cur = w.cur; next = 0; height = w.height; top = w.top; stem = h; met = w.met; kept = w.kept }

-- the arrays with another walker
abbrev pub with_walker : Core → Walker → Core
with_walker s w = core_of w s.spent s.number s.parent s.index s.probes s.stamp s.walk s.depth s.cursor

-- one probe more
abbrev pub probed : Core → Core
probed s = core_of s.walker (up s.spent) s.number s.parent s.index s.probes s.stamp s.walk s.depth s.cursor

-- t is discovered
unfoldable pub discover : Core → ℕ → Core
discover s t = core_of (entered s.walker t) s.spent
    (set s.number t s.walker.met)
    (set s.parent t s.walker.cur)
    (set s.index t s.walker.next)
    (set s.probes t (plus s.walker.kept s.spent))
    s.stamp
    (set s.walk s.walker.height t)
    (set s.depth t s.walker.height)
    s.cursor

-- the nested search goes on to t, and marks it
unfoldable pub deepen : Core → ℕ → Core
deepen s t = core_of (deepened s.walker t) s.spent s.number s.parent s.index s.probes
    (set s.stamp t s.walker.met)
    (set s.walk s.walker.top t)
    s.depth
    (set s.cursor (s.walker.top - 1) s.walker.next)

-- the first state of a nested search is marked, and leaves the open path
unfoldable pub leave_root : Core → Core
leave_root s = core_of (left s.parent s.index s.walker) s.spent s.number s.parent s.index s.probes
    (set s.stamp s.walker.cur s.walker.met) s.walk s.depth s.cursor

-- the nested search goes back: out of its first state it ends at once
unfoldable pub go_back : Core → Core
go_back s = cond (leb s.walker.top s.walker.height) (leave_root s) (with_walker s (returned s.walk s.cursor s.walker))

-- is t on the open path of that height?
abbrev pub on_open_path : List ℕ → List ℕ → ℕ → ℕ → Bool
on_open_path walk depth height t = ltb (get_or depth t 0) height && eqb (get_or walk (get_or depth t 0) 0) t

-- a step by the phase: none once the search is over
abbrev pub by_phase : Phase → Core → Core → Core → Core
by_phase Outer a b s = a
by_phase Nested a b s = b
by_phase Exhausted a b s = s
by_phase Found a b s = s

-- is the search over?
abbrev pub over : Phase → Bool
over Outer = false
over Nested = false
over Exhausted = true
over Found = true

module _ (g : Game) where
  -- the target of the next edge
  abbrev pub target_of : Core → ℕ
  target_of s = get_or (row_of g s.walker.cur) s.walker.next 0

  -- has the state an edge left?
  abbrev pub has_edge : Core → Bool
  has_edge s = ltb s.walker.next (length (row_of g s.walker.cur))

  -- a probe of the outer search: was the target discovered?
  unfoldable pub outer_probe : Core → Core
  outer_probe s = cond (eqb (get_or s.number (target_of s) 0) no_number) (discover (probed s) (target_of s)) (with_walker (probed s) (skipped s.walker))

  -- after the last edge
  unfoldable pub finish : Core → Core
  finish s = with_walker s (finished (accepts_at g s.walker.cur) s.parent s.index s.walker)

  -- a step of the outer search; where the open path is empty, the search is over
  unfoldable pub outer_step : Core → Core
  outer_step s = cond (eqb s.walker.height 0) (with_walker s (exhausted s.walker)) (cond (has_edge s) (outer_probe s) (finish s))

  -- a probe of the nested search: is the target unmarked? on the open path? (The first state of the nested search is not marked yet.)
  unfoldable pub nested_probe : Core → Core
  nested_probe s = cond (eqb (get_or s.stamp (target_of s) 0) no_number)
      (cond (on_open_path s.walk s.depth s.walker.height (target_of s))
      (with_walker (probed s) (closed s.walker (get_or s.depth (target_of s) 0)))
      (deepen (probed s) (target_of s)))
      (with_walker (probed s) (skipped s.walker))

  -- a step of the nested search; where its path is empty, its first state is left
  unfoldable pub nested_step : Core → Core
  nested_step s = cond (ltb s.walker.top s.walker.height) (leave_root s)
      (cond (has_edge s) (nested_probe s)
      (with_walker s (cond (leb s.walker.top s.walker.height) (emptied s.walker) (returned s.walk s.cursor s.walker))))

  -- one step
  unfoldable pub step : Core → Core
  step s = by_phase s.walker.phase (outer_step s) (nested_step s) s

  -- n steps
  unfoldable pub run_for : ℕ → Core → Core
  run_for zero s = s
  run_for (suc n) s = run_for n (step s)

-- ---- several steps at once

-- a nested search has a state on the open path, and one on its own path
pub record Deep (w : Walker) : Type 0 where
  pub high : w.phase ≡ Nested → 0 < w.height
  pub above : w.phase ≡ Nested → w.height ≤ w.top

-- ---- that the steps of a phase come to an end, on any arrays

-- The next discovery number, and as many more as there are states without one, stay far below "no number".
abbrev pub Roomy : Walker → List ℕ → Type 0
Roomy w number = w.met + blanks number ≤ 1024

-- what the steps of the outer search use up, and those of the nested one: with each discovery or mark one entry more has a number, and the path is one state higher
abbrev pub outer_weight : Walker → List ℕ → ℕ
outer_weight w number = 2 * blanks number + w.height

abbrev pub nested_weight : Walker → List ℕ → ℕ
nested_weight w stamp = 2 * blanks stamp + w.top

-- a turn of the outer search, and of the nested one
pub record OuterTurn (w : Walker) (number : List ℕ) (r : Walker) (number' : List ℕ) : Type 0 where
  pub roomy : Roomy r number'
  pub lighter : r.phase ≡ Outer → outer_weight r number' < outer_weight w number

pub record NestedTurn (w : Walker) (stamp : List ℕ) (r : Walker) (stamp' : List ℕ) : Type 0 where
  pub same_met : r.met ≡ w.met
  pub lighter : r.phase ≡ Nested → nested_weight r stamp' < nested_weight w stamp

-- some steps more, at least one
pub record Advanced (g : Game) (s s' : Core) : Type 0 where
  pub more : ℕ
  pub reached : s' ≡ run_for g (suc more) s
  pub deep : Deep s'.walker

-- what outlives a search
pub record Result : Type 0 where
  pub walker : Walker
  pub spent : ℕ
  pub number : List ℕ
  pub parent : List ℕ
  pub index : List ℕ
  pub probes : List ℕ
  pub stamp : List ℕ
  pub walk : List ℕ

-- the same of lent arrays
abbrev pub result_of : Walker → ℕ → List ℕ → List ℕ → List ℕ → List ℕ → List ℕ → List ℕ → Result
result_of w spent number parent index probes stamp walk = record {
  walker = w;
  spent = spent;
  number = number;
  parent = parent;
  index = index;
  probes = probes;
  stamp = stamp;
  walk = walk;
}

-- the same of the records that a search is lent
abbrev pub result_in : Walker → ℕ → Records → Result
result_in w spent a = result_of w spent a.number a.parent a.index a.probes a.stamp a.walk

-- what a search leaves of its arrays
abbrev pub result : Core → Result
result s = result_of s.walker s.spent s.number s.parent s.index s.probes s.stamp s.walk

-- What a search from s leaves. Where it is over after as many steps as phases were asked for, that is what those steps leave. Where not, as only a
-- forged session's is not, how many steps were made stays open: at least one for each phase.
pub record Ran (g : Game) (phases : ℕ) (s : Core) (r : Result) : Type 0 where
  pub ends : over (run_for g phases s).walker.phase ≡ true → r ≡ result (run_for g phases s)
  pub steps : ℕ
  pub enough : phases ≤ steps
  pub reached : r ≡ result (run_for g steps s)

-- ---- resuming

-- a number up to the limit stays
unfoldable pub up_to : ℕ → ℕ → ℕ
up_to limit x = cond (leb x limit) x no_number

-- of the first `size` entries, those up to the limit stay
unfoldable pub forget_above : ℕ → ℕ → List ℕ → List ℕ
forget_above limit size xs = map (up_to limit) (take size xs) ++ drop size xs

-- the count of states from x up to the start state, at most n
unfoldable pub climb : List ℕ → ℕ → ℕ → ℕ → ℕ
climb parent start zero x = 0
climb parent start (suc n) x = cond (eqb x start) 1 (suc (climb parent start n (get_or parent x 0)))

-- the chain of parents of x on the first n places of the walk
unfoldable pub retrace_walk : List ℕ → ℕ → ℕ → List ℕ → List ℕ
retrace_walk parent zero x walk = walk
retrace_walk parent (suc n) x walk = retrace_walk parent n (get_or parent x 0) (set walk n x)

-- and the places of its states
unfoldable pub retrace_depth : List ℕ → ℕ → ℕ → List ℕ → List ℕ
retrace_depth parent zero x depth = depth
retrace_depth parent (suc n) x depth = retrace_depth parent n (get_or parent x 0) (set depth x n)

-- the search as it stood when s was discovered; no state is `size` or more
unfoldable pub rewound : ℕ → ℕ → ℕ → ℕ → List ℕ → List ℕ → List ℕ → List ℕ → List ℕ → List ℕ → Core
rewound size start s spent number parent index probes stamp walk =
    let limit = get_or number s 0 % most_states in
    let height = climb parent start most_states s in
    core_of (record { phase = Outer; cur = s; next = 0; height = height; top = height; stem = 0; met = up limit; kept = get_or probes s 0 }) spent
    (forget_above limit size number) parent index probes (forget_above limit size stamp)
    (retrace_walk parent height s walk) (retrace_depth parent height s (replicate most_states 0)) (replicate most_states 0)

-- the same of the records that a search is lent
abbrev pub rewound_in : ℕ → ℕ → ℕ → ℕ → Records → Core
rewound_in size start s spent a = rewound size start s spent a.number a.parent a.index a.probes a.stamp a.walk

-- the arrays of a search that has discovered only the start state, and marked none
pub record Fresh (start : ℕ) (number parent index probes stamp : List ℕ) : Type 0 where
  pub number_is : number ≡ set (replicate most_states no_number) start 0
  pub parent_is : parent ≡ replicate most_states start
  pub index_is : index ≡ replicate most_states 0
  pub probes_is : probes ≡ replicate most_states 0
  pub stamp_is : stamp ≡ replicate most_states no_number
