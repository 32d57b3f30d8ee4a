-- The states that runs of so many moves lead to, and the reachable accepting states of a graph. Assumes nothing.
use mathlib.Core.Path.{◌≡◌}
use mathlib.Core.Logic.{⊎_elim}
use mathlib.Core.Bool.{true, ◌&&◌}
use mathlib.Core.List.{List, [], ◌∷◌, ◌++◌}
use Prim.Native.Nat.{ℕ, zero, suc, ◌≤◌, ◌<◌}
use native.Mathlib.Omega.{arith}
use lib.Dec.{eqb}
use lib.ListN.{length, length-append}
use borrow.Author.Tests.{eq-eqb}
use Rattle.plain.specs.Lists.{any, below, elem, In, Once}
use Rattle.plain.specs.Search.{Graph}
use Rattle.plain.specs.Cycles.{Run}
use Rattle.plain.specs.Shortest.{leads, reached, roots}
use Rattle.plain.proofs.Tests.{either, or_true, or_first, or_second, and-true, and_both, same, out_nil, in_cases, in_one, any_in, any_some, in_filter, filter_in}
use Rattle.plain.proofs.Upto.{upto, upto_in, in_upto, length_upto, in_below, below_in}
use Rattle.plain.proofs.Runs.{Reach, Away, run_snoc, run_inside, states_inside}
use Rattle.plain.proofs.Bounds.{once_short}

module _ (g : Graph) where
  -- a run of at most n moves leads from a to b
  abbrev pub Near : ℕ → ℕ → ℕ → Type 0
  Near n a b = (xs : List ℕ) × Run g a xs b × (length xs ≤ n)

  pub away_snoc : (n a b c : ℕ) → Away g n a b → In c (g.successors b) → Away g (suc n) a c
  away_snoc n a b c (xs, r, e) i = (xs ++ (c ∷ []), run_snoc g xs a b c r i, omega (arith, length-append xs (c ∷ [])))

  -- `leads` is right
  pub leads_run : (n a b : ℕ) → leads g n a b ≡ true → Near n a b
  unfolding leads
  leads_run zero a b e = ([], same e, omega arith)
  leads_run (suc n) a b e = ⊎_elim
      (λ h. ([], same h, omega arith))
      (λ h.
      let m = any_some (λ x. leads g n x b) (g.successors a) h in
      let r = leads_run n m.0 b m.2 in
      (m.0 ∷ r.0, (m.1, r.1), omega (arith, r.2)))
      (or_true (eqb a b) (any (λ x. leads g n x b) (g.successors a)) e)

  pub run_leads : (xs : List ℕ) (n a b : ℕ) → Run g a xs b → length xs ≤ n → leads g n a b ≡ true
  unfolding leads
  run_leads [] zero a b r h = eq-eqb a b r
  run_leads [] (suc n) a b r h = or_first (eqb a b) (any (λ x. leads g n x b) (g.successors a)) (eq-eqb a b r)
  run_leads (x ∷ xs) zero a b r h = absurd (omega arith)
  run_leads (x ∷ xs) (suc n) a b r h =
      or_second (eqb a b) (any (λ x. leads g n x b) (g.successors a))
      (any_in (λ x. leads g n x b) x (g.successors a) r.0 (run_leads xs n x b r.1 (omega arith)))

  -- ---- a run that repeats no state

  -- of a run that repeats no state, the part from a state of it on
  from_state : (xs : List ℕ) (a b c : ℕ) → Run g a xs b → Once (a ∷ xs) → In c (a ∷ xs) → (ys : List ℕ) × Run g c ys b × Once (c ∷ ys)
  from_state [] a b c r o i = let e = in_one c a i in rw e ([], r, o)
  from_state (x ∷ xs) a b c r o i = ⊎_elim
      (λ e. rw e (x ∷ xs, r, o))
      (λ j. from_state xs x b c r.1 o.1 j) (in_cases c a (x ∷ xs) i)

  -- where a run leads, one leads that repeats no state
  pub run_once : (xs : List ℕ) (a b : ℕ) → Run g a xs b → (ys : List ℕ) × Run g a ys b × Once (a ∷ ys)
  run_once [] a b r = ([], r, (out_nil a, tt))
  run_once (x ∷ xs) a b r =
      let q = run_once xs x b r.1 in
      ⊎_elim (from_state q.0 x b a q.1 q.2) (λ f. (x ∷ q.0, (r.0, q.1), (f, q.2))) (either (elem a (x ∷ q.0)))

  -- ---- the states of a game of so many

  -- the states that are searched from are among them
  pub roots_below_lem : (size s : ℕ) → In s (roots g size) → s < size
  unfolding roots
  roots_below_lem size s i = in_below s size (filter_in _ s (below size) i).0

  module _ (size : ℕ) (stays : (x y : ℕ) → x < size → In y (g.successors x) → y < size) where
    among : (x y : ℕ) → In x (upto size) → In y (g.successors x) → In y (upto size)
    among x y i j = upto_in y size (stays x y (in_upto x size i) j)

    -- so many moves are enough, from any of them
    pub leads_right : (a b : ℕ) → a < size → (leads g size a b ≡ true → Reach g a b) × (Reach g a b → leads g size a b ≡ true)
    leads_right a b h = (
      λ e. let r = leads_run size a b e in (r.0, r.1),
      λ (xs, r).
          let q = run_once xs a b r in
          let inside = states_inside g (upto size) among q.0 a b q.1 (upto_in a size h) in
          run_leads q.0 size a b q.1 (omega (arith, once_short (a ∷ q.0) (upto size) q.2 inside, length_upto size)),
    )

    pub reach_below : (a b : ℕ) → a < size → Reach g a b → b < size
    reach_below a b h (xs, r) = in_upto b size (run_inside g (upto size) among xs a b r (upto_in a size h))

  module _ (size : ℕ) (begins : g.start < size) (stays : (x y : ℕ) → x < size → In y (g.successors x) → y < size) where
    -- `reached` is right
    pub reached_right : (s : ℕ) → (reached g size s ≡ true → Reach g g.start s) × (Reach g g.start s → reached g size s ≡ true)
    unfolding reached
    reached_right s = leads_right size stays g.start s begins

    -- the states that are searched from are the accepting states that can be reached
    pub root_reached : (s : ℕ) → In s (roots g size) → (g.accepting s ≡ true) × Reach g g.start s
    unfolding roots
    root_reached s i =
        let f = filter_in (λ x. g.accepting x && reached g size x) s (below size) i in
        let h = and-true (g.accepting s) (reached g size s) f.1 in
        (h.0, (reached_right s).0 h.1)

    pub reached_root : (s : ℕ) → g.accepting s ≡ true → Reach g g.start s → In s (roots g size)
    unfolding roots
    reached_root s p r =
        in_filter (λ x. g.accepting x && reached g size x) s (below size) (below_in s size (reach_below size stays g.start s begins r)) (and_both (g.accepting s) (reached g size s) p ((reached_right s).1 r))
