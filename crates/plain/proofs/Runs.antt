-- Runs of edges: joined, split, and kept inside a set that the edges do not leave. Assumes nothing.
use mathlib.Core.Path.{◌≡◌, refl, sym, ap}
use mathlib.Core.Logic.{⊎_elim}
use mathlib.Core.List.{List, [], ◌∷◌, ◌++◌}
use Prim.Native.Nat.{ℕ, suc, ◌+◌}
use native.Mathlib.Omega.{arith}
use lib.ListN.{length}
use Rattle.plain.specs.Lists.{In}
use Rattle.plain.specs.Search.{Graph}
use Rattle.plain.specs.Cycles.{Run, FreeRound, Lasso}
use Rattle.plain.proofs.Tests.{in_nil, in_head, in_cases, in_append, in_left, in_right, to_end}

-- a list with something at its end has a first
pub some_first : (xs : List ℕ) (x : ℕ) → (y : ℕ) × (ys : List ℕ) × (xs ++ (x ∷ []) ≡ y ∷ ys)
some_first [] x = (x, [], refl)
some_first (y ∷ ys) x = (y, ys ++ (x ∷ []), refl)

module _ (g : Graph) where
  pub run_join : (xs ys : List ℕ) (a b c : ℕ) → Run g a xs b → Run g b ys c → Run g a (xs ++ ys) c
  run_join [] ys a b c r q = rw r q
  run_join (x ∷ xs) ys a b c r q = (r.0, run_join xs ys x b c r.1 q)

  pub run_snoc : (xs : List ℕ) (a b c : ℕ) → Run g a xs b → In c (g.successors b) → Run g a (xs ++ (c ∷ [])) c
  run_snoc xs a b c r i = run_join xs (c ∷ []) a b c r (i, refl)

  -- some run leads from a to b
  abbrev pub Reach : ℕ → ℕ → Type 0
  Reach a b = (xs : List ℕ) × Run g a xs b

  pub reach_join : (a b c : ℕ) → Reach a b → Reach b c → Reach a c
  reach_join a b c r q = (r.0 ++ q.0, run_join r.0 q.0 a b c r.1 q.1)

  -- a run of one or more edges from a back to a, by its last edge
  abbrev pub Returns : ℕ → Type 0
  Returns a = (b : ℕ) × Reach a b × In a (g.successors b)

  -- a run of n moves leads from a to b
  abbrev pub Away : ℕ → ℕ → ℕ → Type 0
  Away n a b = (xs : List ℕ) × Run g a xs b × (length xs ≡ n)

  -- a run of one or more moves, without its last
  pub last_move : (xs : List ℕ) (a x b : ℕ) → Run g a (x ∷ xs) b → (c : ℕ) × Away (length xs) a c × In b (g.successors c)
  last_move [] a x b r = (a, ([], refl, refl), rw r.1 at r.0)
  last_move (y ∷ xs) a x b r =
      let q = last_move xs x y b r.1 in
      (q.0, (x ∷ q.1.0, (r.0, q.1.1), ap suc q.1.2), q.2)

  -- and without its first
  pub first_move : (n a b : ℕ) → Away (suc n) a b → (x : ℕ) × In x (g.successors a) × Away n x b
  first_move n a b ([], r, e) = absurd (omega arith)
  first_move n a b (x ∷ xs, r, e) = (x, r.0, (xs, r.1, omega arith))

  -- at a state that a run comes to, it splits into a run of one or more edges, and the rest
  pub run_split : (xs : List ℕ) (a b c : ℕ) → Run g a xs b → In c xs
      → (p : (y : ℕ) × (ys : List ℕ) × Run g a (y ∷ ys) c) × (q : Reach c b) × (length (p.0 ∷ p.1) + length q.0 ≡ length xs)
  run_split [] a b c r i = absurd (in_nil c i)
  run_split (x ∷ xs) a b c r i = ⊎_elim
      (λ e. ((x, [], (r.0, sym e)), (xs, rw e r.1), omega arith))
      (λ j. let q = run_split xs x b c r.1 j in ((x, (q.0.0 ∷ q.0.1), (r.0, q.0.2)), q.1, omega (arith, q.2)))
      (in_cases c x xs i)

  -- a closed run leads from each state that it comes to, to each other
  pub run_between : (xs : List ℕ) (a c d : ℕ) → Run g a xs a → In c xs → In d xs → Reach c d
  run_between xs a c d r i j =
      let p = (run_split xs a a d r j).0 in
      reach_join c a d (run_split xs a a c r i).1 (p.0 ∷ p.1, p.2)

  -- a set that no edge leaves keeps every run inside
  pub run_inside : (k : List ℕ) → ((x y : ℕ) → In x k → In y (g.successors x) → In y k) → (xs : List ℕ) (a b : ℕ) → Run g a xs b → In a k → In b k
  run_inside k stays [] a b r i = rw r at i
  run_inside k stays (x ∷ xs) a b r i = run_inside k stays xs x b r.1 (stays a x i r.0)

  pub states_inside : (k : List ℕ) → ((x y : ℕ) → In x k → In y (g.successors x) → In y k) → (xs : List ℕ) (a b : ℕ) → Run g a xs b → In a k
      → (c : ℕ) → In c (a ∷ xs) → In c k
  states_inside k stays [] a b r i c j = ⊎_elim (λ e. rw e i) (λ n. absurd (in_nil c n)) (in_cases c a [] j)
  states_inside k stays (x ∷ xs) a b r i c j =
      ⊎_elim (λ e. rw e i) (λ n. states_inside k stays xs x b r.1 (stays a x i r.0) c n) (in_cases c a (x ∷ xs) j)

  -- A reachable free round: its accepting state is reachable, and a run leads from it back to it.
  pub free_payer : (f : FreeRound g) → Reach g.start f.0.payer × Returns f.0.payer
  free_payer (c, r) =
      let p = run_split (c.first ∷ c.others) c.origin c.origin c.payer c.closed c.passes in
      let l = last_move p.0.1 c.origin p.0.0 c.payer p.0.2 in (
        reach_join g.start r.entry c.payer (r.way, r.leads) (run_between (c.first ∷ c.others) c.origin r.entry c.payer c.closed r.enters c.passes),
        (l.0, reach_join c.payer c.origin l.0 p.1 (l.1.0, l.1.1), l.2),
      )

  -- the walk of an answer is a reachable free round
  pub lasso_free : (stem cycle : List ℕ) → Lasso g stem cycle → FreeRound g
  lasso_free stem cycle w =
      let (y, ys, e) = some_first w.others w.entry in (
        record {
          origin = w.entry;
          first = y;
          others = ys;
          closed = rw e at w.closes;
          payer = w.payer;
          pays = w.pays;
          passes = rw e at (to_end w.entry w.payer w.others (rw w.cycle_is at w.passes));
        },
        record { way = w.way; entry = w.entry; leads = w.leads; enters = rw e at (in_right w.entry w.others (w.entry ∷ []) (in_head w.entry [])) },
      )

  -- and keeps inside a set that holds the start state and that no edge leaves
  pub lasso_inside : (k : List ℕ) → ((x y : ℕ) → In x k → In y (g.successors x) → In y k) → In g.start k
      → (stem cycle : List ℕ) → Lasso g stem cycle → (x : ℕ) → In x (stem ++ cycle) → In x k
  lasso_inside k stays i stem cycle w x j = ⊎_elim
      (λ h. states_inside k stays w.way g.start w.entry w.leads i x (rw w.begins at (in_left x stem (w.entry ∷ []) h)))
      (λ h. states_inside k stays (w.others ++ (w.entry ∷ [])) w.entry w.entry w.closes (run_inside k stays w.way g.start w.entry w.leads i) x
      (in_left x (w.entry ∷ w.others) (w.entry ∷ []) (rw w.cycle_is at h)))
      (in_append x stem cycle j)
