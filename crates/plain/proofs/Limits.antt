-- What bounds a search on a small graph: its states, its looks, its walk. A table that arises is one such graph. Assumes nothing.
use mathlib.Core.Path.{◌≡◌}
use mathlib.Core.Logic.{⊎_elim}
use mathlib.Core.Bool.{Bool, true, false}
use mathlib.Core.List.{List, [], ◌∷◌, ◌++◌}
use Prim.Native.Nat.{ℕ, zero, suc, ◌*◌, ◌≤◌, ◌<◌}
use native.Mathlib.Omega.{arith}
use lib.Dec.{eqb, ltb}
use lib.ListN.{length, drop, length-append, length-drop}
use borrow.Author.Tests.{ltb-false}
use Rattle.plain.specs.Lists.{elem, In}
use Rattle.plain.specs.Search.{Graph, Edge, Frame, frame, on_path, Config, outer, nested, exhausted, found, discovered_of, marked_of, visit, finish, probe, step, steps, run, states_of}
use Rattle.plain.specs.Limits.{WalkFew, Limits}
use Rattle.plain.specs.Table.{Table, game_of, searched, budget}
use Rattle.plain.specs.Layers.{state_at}
use Rattle.plain.specs.Refusals.{bad_size}
use Rattle.plain.proofs.Tests.{or-false, in_nil, in_tail, in_append}
use Rattle.plain.proofs.Invariant.{Inv, inv_run}
use Rattle.plain.proofs.Lassos.{states_on, once_states, walk_once}
use Rattle.plain.proofs.Bounds.{left, once_short, run_within, discovered_few, probes_twice}
use Rattle.plain.proofs.Rows.{row_short}
use Rattle.plain.proofs.Tables.{Valid, edges_most}
use Rattle.plain.proofs.Upto.{in_upto}
use Rattle.plain.proofs.Demands.{states, states_count, start_in, target_in, edges_few}
use Rattle.plain.proofs.LayerSizes.{row_length}
use Rattle.plain.proofs.Walks.{states_length}

-- a graph of states below a size of at most 512, with at most 2,048 edges
pub record Small (g : Graph) (size : ℕ) : Type 0 where
  pub us : List ℕ
  pub start_in : In g.start us
  pub stays : (x y : ℕ) → In x us → In y (g.successors x) → In y us
  pub below : (x : ℕ) → In x us → x < size
  pub size_few : size ≤ 512
  pub few : length us ≤ 512
  pub rows_short : (v : ℕ) → length (g.successors v) ≤ 2048
  pub edges_few : left (λ x. length (g.successors x)) [] us ≤ 2048

module _ (g : Graph) (size : ℕ) (b : Small g size) where
  -- the states of the open path and of the nested search's path fit the walk
  walk_fits : (c : Config) → Inv g c → ((x : ℕ) → In x (discovered_of c) → In x b.us) → WalkFew c
  unfolding on_path
  walk_fits (outer p d k l) (o, m) w =
      omega (arith, b.few, once_short (states_of p) b.us (once_states p o.distinct) (λ x i. w x (o.known x (states_on x p i))), states_length p)
  walk_fits (nested s p [] d k l) (o, (old, n)) w =
      omega (arith, b.few, once_short (states_of (frame s [] ∷ p)) b.us (once_states (frame s [] ∷ p) o.distinct) (λ x i. w x (o.known x (states_on x (frame s [] ∷ p) i))), states_length (frame s [] ∷ p))
  walk_fits (nested s p (frame x ts ∷ q) d k l) (o, (old, n)) w =
      let once = walk_once g s [] p x ts q o.distinct n.chain n.distinct (λ y i. (n.done y (n.known y i)).1) in
      let tail = drop 1 (states_of (frame x ts ∷ q)) in
      omega (
        arith,
        b.few,
        length-append (states_of (frame s [] ∷ p)) tail,
        length-drop 1 (states_of (frame x ts ∷ q)),
        states_length (frame s [] ∷ p),
        states_length (frame x ts ∷ q),
        once_short (states_of (frame s [] ∷ p) ++ tail) b.us once (λ y i. ⊎_elim
            (λ j. w y (o.known y (states_on y (frame s [] ∷ p) j)))
            (λ j. w y (n.done y (n.known y (states_on y (frame x ts ∷ q) (in_drop y (states_of (frame x ts ∷ q)) j)))).0)
            (in_append y (states_of (frame s [] ∷ p)) tail i)),
      )
    where
      in_drop : (y : ℕ) (xs : List ℕ) → In y (drop 1 xs) → In y xs
      in_drop y [] i = i
      in_drop y (z ∷ xs) i = in_tail y z xs i
  walk_fits (exhausted d k l) v w = tt
  walk_fits (found h p q d k l) v w = tt

  -- what is discovered lies below the size
  pub within : (n x : ℕ) → In x (discovered_of (run g n)) → x < size
  within n x i = b.below x (run_within g b.us b.start_in b.stays n x i)

  pub limits : (n : ℕ) → Limits g (run g n)
  limits n = record {
    below = λ x i. omega (arith, within n x i, b.size_few);
    few = omega (arith, b.few, discovered_few g b.us b.start_in b.stays n);
    probes_few = omega (arith, b.edges_few, probes_twice g b.us b.start_in b.stays n);
    rows_short = b.rows_short;
    walk_few = walk_fits (run g n) (inv_run g n) (run_within g b.us b.start_in b.stays n);
  }

-- ---- what is marked is discovered

module _ (g : Graph) where
  abbrev Known : Config → Type 0
  Known c = (x : ℕ) → In x (marked_of c) → In x (discovered_of c)

  visit_known : (b : Bool) (s t : ℕ) (ts : List ℕ) (p : List Frame) (d k : List ℕ) (l : List Edge) → Inv g (visit g b s t ts p d k l) → Known (visit g b s t ts p d k l)
  visit_known true s t ts p d k l (o, m) x i = (m.done x i).0
  visit_known false s t ts p d k l (o, m) x i = (m.done x i).0

  finish_known : (b : Bool) (s : ℕ) (p : List Frame) (d k : List ℕ) (l : List Edge) → Inv g (finish g b s p d k l) → Known (finish g b s p d k l)
  finish_known true s p d k l (o, (old, m)) x i = (m.done x i).0
  finish_known false s p d k l (o, m) x i = (m.done x i).0

  probe_known : (a b : Bool) (s : ℕ) (p : List Frame) (x t : ℕ) (ts : List ℕ) (q : List Frame) (d k : List ℕ) (l : List Edge) → Inv g (probe g a b s p x t ts q d k l)
      → Known (outer p d k l) → Known (probe g a b s p x t ts q d k l)
  probe_known true b s p x t ts q d k l v h = h
  probe_known false true s p x t ts q d k l (o, (old, m)) h = λ y i. (m.done y i).0
  probe_known false false s p x t ts q d k l (o, (old, m)) h = λ y i. (m.done y i).0

  step_known : (c : Config) → Inv g (step g c) → Known c → Known (step g c)
  unfolding step
  step_known (outer [] d k l) v h = h
  step_known (outer (frame s [] ∷ p) d k l) v h = finish_known (g.accepting s) s p d k l v
  step_known (outer (frame s (t ∷ ts) ∷ p) d k l) v h = visit_known (elem t d) s t ts p d k ((s, t) ∷ l) v
  step_known (nested s p [] d k l) v h = h
  step_known (nested s p (frame x [] ∷ q) d k l) v h = h
  step_known (nested s p (frame x (t ∷ ts) ∷ q) d k l) v h = probe_known (on_path t (frame s [] ∷ p)) (elem t k) s p x t ts q d k ((x, t) ∷ l) v h
  step_known (exhausted d k l) v h = h
  step_known (found t p q d k l) v h = h

  pub marked_known : (n : ℕ) → Known (run g n)
  unfolding steps
  marked_known zero = λ x i. absurd (in_nil x i)
  marked_known (suc n) = step_known (run g n) (inv_run g (suc n)) (marked_known n)

-- ---- a table

pub size_few : (n : ℕ) → bad_size n ≡ false → n ≤ 512
unfolding bad_size
size_few n f = ltb-false 512 n (or-false (eqb n 0) (ltb 512 n) f).1

-- the bound of the largest table is enough
pub budget_bound : (t : Table) → Valid t → budget t ≤ 5634
unfolding budget
budget_bound t v = omega (arith, v.moves_few, v.states_few)

-- a table that arises is a small graph: the layers of its game
pub small : (t : Table) → Valid t → Small (searched t) (t.kinds * t.size)
small t v = record {
  us = states t;
  start_in = start_in t v;
  stays = target_in t v;
  below = λ x i. in_upto x (t.kinds * t.size) i;
  size_few = v.states_few;
  few = omega (arith, states_count t, v.states_few);
  rows_short = λ x. omega (arith, row_length (game_of t) x, row_short t.edges (state_at (game_of t) x), edges_most t v);
  edges_few = omega (arith, edges_few t v, v.moves_few);
}
