-- The roots: what the search from the start state has seen is what can be reached, and the accepting states of it are filed in rising order. Assumes nothing.
use mathlib.Core.Path.{◌≡◌, refl, sym, ap, subst, ◌∙◌}
use mathlib.Core.Logic.{◌≢◌, ⊎_elim}
use mathlib.Core.Bool.{Bool, true, false, ◌&&◌}
use mathlib.Core.List.{List, [], ◌∷◌, ◌++◌}
use Prim.Native.Nat.{ℕ, suc, ◌+◌, ◌≤◌, ◌<◌}
use native.Mathlib.Numerals.{add-one}
use native.Mathlib.Omega.{arith}
use lib.ListN.{length, get_or, length-append, length-set}
use borrow.Author.Tests.{leb-false}
use Rattle.plain.specs.Lists.{filter, below, elem, Begins}
use Rattle.plain.specs.Table.{Table, graph_of}
use Rattle.plain.specs.Refusals.{bad_start}
use Rattle.plain.specs.Shortest.{leads, reached, roots, Sweep as PlainSweep, through, back, stopped, levels, hunt}
use Rattle.plain.specs.Questions.{hunt_in}
use Rattle.plain.proofs.Tests.{contra, either, not-true, in_get_or}
use Rattle.plain.proofs.Upto.{upto, upto_in, once_upto}
use Rattle.plain.proofs.Walks.{begins_push}
use Rattle.plain.proofs.Tables.{Valid, valid, edges_most}
use Rattle.plain.proofs.Demands.{total_le, target_below}
use Rattle.plain.proofs.Limits.{size_few}
use Rattle.plain.proofs.Reached.{roots_below_lem}
use Rattle.plain.proofs.ShortLooks.{levels_within}
use Rattle.plain.proofs.Shortest.{levels_seen, levels_never_back}
use Rattle.marks.proofs.Below.{passed_more, passed_same, passed_few}
use Rattle.rows.specs.Rows.{entries}
use Rattle.rows.proofs.Entries.{entries_length, entries_first, entries_front}
use Rattle.look.proofs.Counting.{further_more}
use Rattle.shortest.specs.declared.Swept.{Swept}
use Rattle.shortest.specs.declared.Lengths.{Lengths}
use Rattle.shortest.specs.Model.{root_in, Rows, Comes, States, Searches, lengths_of, TriesLengths, Holds, FilesRoot, FindsRoots, Shortens}
use Rattle.shortest.specs.declared.Board.{Board}

-- two tests that hold together
both_ways : (a b : Bool) → (a ≡ true → b ≡ true) → (b ≡ true → a ≡ true) → a ≡ b
both_ways true b f g = sym (f refl)
both_ways false b f g = sym (not-true b (λ e. contra (g e) refl))

module _ (t : Table) (targets starts words : List ℕ) (size start : ℕ) (h : Holds t targets starts words size start) where
  ok : Valid t
  ok = valid t h.arises

  small : t.size ≤ 512
  small = size_few t.size ok.size_ok

  pub rows_of : Rows (graph_of t) targets starts
  rows_of = record { rows_are = h.rows_are; targets_small = λ v x i. omega (arith, target_below t ok v x i, small) }

  begins : t.start < t.size
  unfolding bad_start
  begins = leb-false t.size t.start ok.start_ok

  -- the whole search from the start state
  abbrev everything : PlainSweep
  everything = levels (graph_of t) 65535 t.size 512 (t.start ∷ []) (t.start ∷ []) 0

  no_look_back : everything ≢ back
  no_look_back = levels_never_back (graph_of t) 65535 512 (λ y z i e. omega (arith, target_below t ok y z i, small)) t.size (t.start ∷ []) (t.start ∷ []) 0

  no_stop : everything ≢ stopped
  no_stop = levels_within (graph_of t) (upto t.size) (λ x y i j. upto_in y t.size (target_below t ok x y j)) 65535 t.size 512 t.start 0 (upto_in t.start t.size begins)
      (omega (arith, total_le t.edges (upto t.size) (once_upto t.size), edges_most t ok))

  module _ (b : Board) (r : Swept) (looked : Searches targets starts 65535 512 start size 0 b r) where
    comes_here : Comes everything b r
    comes_here = subst (λ (p : PlainSweep). Comes p b r) (λ i. levels (graph_of t) 65535 (h.size_is i) 512 (h.start_is i ∷ []) (h.start_is i ∷ []) 0)
        (looked.comes (graph_of t) rows_of (omega (arith, h.start_is, begins, small)))

    seen_by : (w : PlainSweep) → everything ≡ w → Comes w b r → (s : ℕ) → s < 512 → get_or b.seen s true ≡ reached (graph_of t) t.size s
    unfolding reached
    seen_by (through xs m) e c s low =
        let q = levels_seen (graph_of t) 65535 t.size t.start 512 0 xs m e s in
        c.2.members s low ∙ both_ways (elem s xs) (leads (graph_of t) t.size t.start s) q.0 q.1
    seen_by back e c s low = absurd (no_look_back e)
    seen_by stopped e c s low = absurd (no_stop e)

    -- what was seen is what can be reached
    root_right : (s : ℕ) → s < t.size → root_in words b.seen s ≡ (graph_of t).accepting s && reached (graph_of t) t.size s
    root_right s low = (λ i. h.marks_are s low i && seen_by everything refl comes_here s (omega (arith, small)) i)

-- the roots below a number
abbrev roots_below : Table → ℕ → List ℕ
roots_below t n = filter (λ s. (graph_of t).accepting s && reached (graph_of t) t.size s) (below n)

-- the roots below s are filed
pub record Filed (t : Table) (list : List ℕ) (count s : ℕ) : Type 0 where
  pub in_order : Begins (roots_below t s) list
  pub count_is : count ≡ length (roots_below t s)

module _ (targets starts words : List ℕ) (size start : ℕ) where
  abbrev pub FiledAll : List ℕ → ℕ → ℕ → Type 0
  FiledAll list count s = (t : Table) → Holds t targets starts words size start → Filed t list count s

  pub filed_none : (list : List ℕ) → FiledAll list 0 0
  unfolding below filter
  filed_none list t h = record { in_order = (list, refl); count_is = refl }

pub filed_size : (root : Bool) (list : List ℕ) (count s : ℕ) → length list ≡ 512 → (list' : List ℕ) (count' : ℕ) → FilesRoot root list count s list' count' → length list' ≡ 512
filed_size true list count s room list' count' f = ap length (f.filed refl).0 ∙ length-set list count s ∙ room
filed_size false list count s room list' count' f = ap length (f.unfiled refl).0 ∙ room

module _ (targets starts words : List ℕ) (size start : ℕ) (b : Board) (r : Swept) (looked : Searches targets starts 65535 512 start size 0 b r) where
  -- the next state
  pub filed_next : (list : List ℕ) (count s : ℕ) → length list ≡ 512 → s < size → FiledAll targets starts words size start list count s → (list' : List ℕ) (count' : ℕ) → FilesRoot (root_in words b.seen s) list count s list' count'
      → FiledAll targets starts words size start list' count' (s + 1)
  filed_next list count s room more all list' count' f t h = subst (Filed t list' count') (sym (add-one s)) (⊎_elim yes no (either (root_in words b.seen s)))
    where
      p : ℕ → Bool
      p x = (graph_of t).accepting x && reached (graph_of t) t.size x

      low : s < t.size
      low = omega (arith, h.size_is)

      same : root_in words b.seen s ≡ p s
      same = root_right t targets starts words size start h b r looked s low

      yes : root_in words b.seen s ≡ true → Filed t list' count' (suc s)
      yes e =
          let now = all t h in
          let z = f.filed e in
          let added : roots_below t (suc s) ≡ roots_below t s ++ (s ∷ []) = passed_more p s (sym same ∙ e) in
          let few : length (roots_below t s) ≤ s = passed_few p s in
          record {
            in_order = rw (added, z.0) (begins_push (roots_below t s) list s count now.count_is room (omega (arith, few, small t targets starts words size start h)) now.in_order);
            count_is = z.1 ∙ further_more count (omega (arith, now.count_is, few, small t targets starts words size start h)) ∙ omega (arith, now.count_is, ap length added, length-append (roots_below t s) (s ∷ []));
          }

      no : root_in words b.seen s ≡ false → Filed t list' count' (suc s)
      no e =
          let now = all t h in
          let z = f.unfiled e in
          let same-roots : roots_below t (suc s) ≡ roots_below t s = passed_same p s (sym same ∙ e) in
          record { in_order = rw (same-roots, z.0) now.in_order; count_is = z.1 ∙ now.count_is ∙ ap length (sym same-roots) }

  -- all are filed
  pub filed_end : (list : List ℕ) (count s : ℕ) → length list ≡ 512 → size ≤ s → s ≤ size → FiledAll targets starts words size start list count s → FindsRoots targets starts words size start b.queue list count
  unfolding roots
  filed_end list count s room over most all = record {
    queue_size = looked.sized.queue_size;
    roots_size = room;
    roots_are = λ t h.
        let now = all t h in
        let e : s ≡ t.size = omega (arith, h.size_is) in
        (λ i. entries (now.count_is i) 0 (now.in_order.1 i)) ∙ entries_front (roots_below t s) now.in_order.0 ∙ ap (roots_below t) e;
  }

-- ---- all lengths, from these roots

pub shortened : (targets starts words : List ℕ) (size start : ℕ) (queue list : List ℕ) (count budget present : ℕ) (r : Lengths)
    → FindsRoots targets starts words size start queue list count → TriesLengths targets starts list count budget present r
    → (t : Table) → Shortens t targets starts words size start present budget r
unfolding hunt_in
shortened targets starts words size start queue list count budget present r f tries t h short =
    tries (graph_of t) (rows_of t targets starts words size start h) low short
    ∙ ap (λ (rs : List ℕ). lengths_of present (hunt (graph_of t) budget rs present 1 0)) (f.roots_are t h)
  where
    low : States count list
    low i more =
        let inside : i < length (roots (graph_of t) t.size) = omega (arith, sym (ap length (f.roots_are t h)), entries_length count 0 list) in
        let among = roots_below_lem (graph_of t) t.size _ (in_get_or (roots (graph_of t) t.size) i inside) in
        omega (arith, entries_first count list i more ∙ ap (λ (xs : List ℕ). get_or xs i 0) (f.roots_are t h), among, small t targets starts words size start h)
