-- Which kinds a run of the game passes, by the layers through which it comes. Assumes nothing.
use mathlib.Core.Path.{◌≡◌, refl, sym, ap, ◌∙◌}
use mathlib.Core.Logic.{◌≢◌, ◌⊎◌, inl, inr, ⊎_elim}
use mathlib.Core.Bool.{true, false}
use mathlib.Core.List.{List, [], ◌∷◌, ◌++◌}
use Prim.Native.Nat.{ℕ, zero, suc, ◌≤◌, ◌<◌}
use native.Mathlib.Omega.{arith}
use lib.Dec.{eqb}
use borrow.Author.Tests.{eqb-false, ne_eqb}
use Rattle.plain.specs.Lists.{In}
use Rattle.plain.specs.Search.{Graph}
use Rattle.plain.specs.Cycles.{Run, Kinded, PassesAll, FullRound}
use Rattle.plain.specs.Layers.{next, lands}
use Rattle.plain.proofs.Tests.{contra, either, same, in_nil, in_head, in_tail, in_cases}
use Rattle.plain.proofs.Runs.{Reach, reach_join, run_between}
use Rattle.plain.proofs.Copies.{next_last, next_up}
use Rattle.plain.proofs.Lifting.{layer_after, lands_below}

-- the end of a run stands in it, or is where it began
pub run_end : (g : Graph) (xs : List ℕ) (x y : ℕ) → Run g x xs y → In y (x ∷ xs)
run_end g [] x y r = rw r (in_head y [])
run_end g (z ∷ xs) x y r = in_tail y x (z ∷ xs) (run_end g xs z y r.1)

pub run_last : (g : Graph) (xs : List ℕ) (x z y : ℕ) → Run g x (z ∷ xs) y → In y (z ∷ xs)
run_last g xs x z y r = run_end g xs z y r.1

module _ (a : Kinded) where
  -- a closed run that passes all kinds, from a state to which a run from the start state leads
  abbrev pub round_from : (x y : ℕ) (ys ws : List ℕ) → Run a.graph x (y ∷ ys) x → PassesAll a (y ∷ ys) → Run a.graph a.graph.start ws x → FullRound a
  round_from x y ys ws r c w = record {
    origin = x;
    first = y;
    others = ys;
    closed = r;
    passes_all = c;
    way = ws;
    entry = x;
    leads = w;
    enters = run_last a.graph ys x y x r;
  }

  -- the states of a reachable round can be reached
  pub round_reached : (f : FullRound a) (s : ℕ) → In s (f.first ∷ f.others) → Reach a.graph a.graph.start s
  round_reached f s i = reach_join a.graph a.graph.start f.entry s (f.way, f.leads) (run_between a.graph (f.first ∷ f.others) f.origin f.entry s f.closed f.enters i)

  -- a move of the run leaves a state that carries the kind
  abbrev pub Leaves : ℕ → ℕ → List ℕ → Type 0
  Leaves kind x [] = ⊥
  Leaves kind x (y ∷ ys) = (a.carries kind x ≡ true) ⊎ Leaves kind y ys

  -- a move of the run, from layer l, leaves an accepting state of the layers
  abbrev pub LeavesAccepting : ℕ → ℕ → List ℕ → Type 0
  LeavesAccepting l x [] = ⊥
  LeavesAccepting l x (y ∷ ys) = ((l ≡ 0) × (a.carries 0 x ≡ true)) ⊎ LeavesAccepting (lands a l x) y ys

  lands_here : (l x : ℕ) → a.carries l x ≡ false → lands a l x ≡ l
  lands_here l x e = rw e

  lands_next : (l x : ℕ) → a.carries l x ≡ true → lands a l x ≡ next a.kinds l
  lands_next l x e = rw e

  lands_up : (l x : ℕ) → a.carries l x ≡ true → suc l < a.kinds → lands a l x ≡ suc l
  lands_up l x e h = lands_next l x e ∙ next_up a.kinds l (ne_eqb (suc l) a.kinds (λ z. omega arith))

  -- ---- a run round the layers passes every kind

  -- from a layer above the first back to the first: that layer's kind, and those of the layers above it
  passed_from : (xs : List ℕ) (l x : ℕ) → 0 < l → l < a.kinds → layer_after a l x xs ≡ 0 → (kind : ℕ) → l ≤ kind → kind < a.kinds → Leaves kind x xs
  unfolding layer_after
  passed_from [] l x p h e kind m b = absurd (omega arith)
  passed_from (y ∷ ys) l x p h e kind m b = ⊎_elim
      (λ t. ⊎_elim
      (λ s. let q : kind ≡ l = same s in inl (rw q t))
      (λ s. let q : kind ≢ l = eqb-false kind l s in
      let z = lands_up l x t (omega arith) in
      inr (passed_from ys (lands a l x) y (omega arith) (omega arith) e kind (omega arith) b)) (either (eqb kind l)))
      (λ f. let z = lands_here l x f in inr (passed_from ys (lands a l x) y (omega arith) (omega arith) e kind (omega arith) b)) (either (a.carries l x))

  -- from an accepting state of the layers back to the first layer: all of them
  pub passed_all : (xs : List ℕ) (c x : ℕ) → In c xs → a.carries 0 x ≡ true → layer_after a 0 x xs ≡ 0 → (kind : ℕ) → kind < a.kinds → Leaves kind x xs
  unfolding layer_after
  passed_all [] c x i t e kind b = absurd (in_nil c i)
  passed_all (y ∷ ys) c x i t e zero b = inl t
  passed_all (y ∷ ys) c x i t e (suc kind) b =
      let z = lands_up 0 x t (omega arith) in
      inr (passed_from ys (lands a 0 x) y (omega arith) (omega arith) e (suc kind) (omega arith) b)

  -- ---- the states that a run leaves, and those to which it comes

  pub leaves_cases : (xs ys : List ℕ) (kind x y : ℕ) → Run a.graph x xs y → Leaves kind x (xs ++ ys) → Leaves kind x xs ⊎ Leaves kind y ys
  leaves_cases [] ys kind x y r c = inr (rw r at c)
  leaves_cases (z ∷ xs) ys kind x y r (inl c) = inl (inl c)
  leaves_cases (z ∷ xs) ys kind x y r (inr c) = ⊎_elim (λ d. inl (inr d)) inr (leaves_cases xs ys kind z y r.1 c)

  pub leaves_left : (xs ys : List ℕ) (kind x : ℕ) → Leaves kind x xs → Leaves kind x (xs ++ ys)
  leaves_left [] ys kind x c = absurd c
  leaves_left (z ∷ xs) ys kind x (inl c) = inl c
  leaves_left (z ∷ xs) ys kind x (inr c) = inr (leaves_left xs ys kind z c)

  pub leaves_right : (xs ys : List ℕ) (kind x y : ℕ) → Run a.graph x xs y → Leaves kind y ys → Leaves kind x (xs ++ ys)
  leaves_right [] ys kind x y r c = rw r c
  leaves_right (z ∷ xs) ys kind x y r c = inr (leaves_right xs ys kind z y r.1 c)

  leaves_state : (xs : List ℕ) (kind x : ℕ) → Leaves kind x xs → (s : ℕ) × In s (x ∷ xs) × (a.carries kind s ≡ true)
  leaves_state [] kind x c = absurd c
  leaves_state (y ∷ ys) kind x (inl c) = (x, in_head x (y ∷ ys), c)
  leaves_state (y ∷ ys) kind x (inr c) = let r = leaves_state ys kind y c in (r.0, in_tail r.0 x (y ∷ ys) r.1, r.2)

  -- a closed run comes to the states that it leaves
  pub leaves_passes : (xs : List ℕ) (kind x : ℕ) → Run a.graph x xs x → Leaves kind x xs → (s : ℕ) × In s xs × (a.carries kind s ≡ true)
  leaves_passes [] kind x r c = absurd c
  leaves_passes (y ∷ ys) kind x r c =
      let q = leaves_state (y ∷ ys) kind x c in
      (q.0, ⊎_elim (λ e. rw e (run_last a.graph ys x y x r)) (λ i. i) (in_cases q.0 x (y ∷ ys) q.1), q.2)

  leaves_or_ends : (xs : List ℕ) (kind x y s : ℕ) → Run a.graph x xs y → In s xs → a.carries kind s ≡ true → Leaves kind x xs ⊎ (s ≡ y)
  leaves_or_ends [] kind x y s r i c = absurd (in_nil s i)
  leaves_or_ends (z ∷ xs) kind x y s r i c =
      ⊎_elim (λ e. head xs r.1 e) (λ m. ⊎_elim (λ d. inl (inr d)) inr (leaves_or_ends xs kind z y s r.1 m c)) (in_cases s z xs i)
    where
      head : (us : List ℕ) → Run a.graph z us y → s ≡ z → Leaves kind x (z ∷ us) ⊎ (s ≡ y)
      head [] q e = inr (e ∙ q)
      head (u ∷ us) q e = inl (inr (inl (rw (← e) c)))

  -- and leaves those to which it comes
  pub passes_leaves : (xs : List ℕ) (kind x s : ℕ) → Run a.graph x xs x → In s xs → a.carries kind s ≡ true → Leaves kind x xs
  passes_leaves [] kind x s r i c = absurd (in_nil s i)
  passes_leaves (y ∷ ys) kind x s r i c = ⊎_elim (λ d. d) (λ e. inl (rw e at c)) (leaves_or_ends (y ∷ ys) kind x x s r i c)

  -- ---- a run that leaves no accepting state of the layers only climbs

  -- the layers in the order in which a run comes to them that has left an accepting state
  pub rank : ℕ → ℕ
  rank zero = a.kinds
  rank (suc l) = suc l

  rank_next : (l : ℕ) → rank (next a.kinds (suc l)) ≡ suc (suc l)
  unfolding rank
  rank_next l = ⊎_elim
      (λ e. let z : suc (suc l) ≡ a.kinds = same e in rw (next_last a.kinds (suc l) z) (sym z))
      (λ e. rw (next_up a.kinds (suc l) e)) (either (eqb (suc (suc l)) a.kinds))

  -- the layer m has no lower rank than l, and a higher one where the run leaves a state that carries kind l
  abbrev pub Climbs : ℕ → ℕ → List ℕ → ℕ → Type 0
  Climbs l x xs m = (rank l ≤ rank m) × (Leaves l x xs → rank l < rank m)

  -- of a run whose first move leaves x in layer l for y: what is known behind that move, and what of all of it
  abbrev Behind : ℕ → ℕ → ℕ → List ℕ → Type 0
  Behind l x y ys = LeavesAccepting (lands a l x) y ys ⊎ Climbs (lands a l x) y ys (layer_after a (lands a l x) y ys)

  abbrev Whole : ℕ → ℕ → ℕ → List ℕ → Type 0
  Whole l x y ys = LeavesAccepting l x (y ∷ ys) ⊎ Climbs l x (y ∷ ys) (layer_after a (lands a l x) y ys)

  pub climbs : (xs : List ℕ) (l x : ℕ) → l < a.kinds → LeavesAccepting l x xs ⊎ Climbs l x xs (layer_after a l x xs)
  unfolding layer_after rank
  climbs [] l x h = inr (omega arith, λ c. absurd c)
  climbs (y ∷ ys) l x h = ⊎_elim
      (λ t. carries l x y ys t (climbs ys (lands a l x) y (lands_below a l x h)))
      (λ f. carries_not l x y ys f (climbs ys (lands a l x) y (lands_below a l x h))) (either (a.carries l x))
    where
      carries : (l x y : ℕ) (ys : List ℕ) → a.carries l x ≡ true → Behind l x y ys → Whole l x y ys
      carries zero x y ys t q = inl (inl (refl, t))
      carries (suc l) x y ys t (inl q) = inl (inr q)
      carries (suc l) x y ys t (inr q) =
          let z : rank (lands a (suc l) x) ≡ suc (suc l) = ap rank (lands_next (suc l) x t) ∙ rank_next l in
          inr (omega (arith, q.0), λ c. omega (arith, q.0))

      carries_not : (l x y : ℕ) (ys : List ℕ) → a.carries l x ≡ false → Behind l x y ys → Whole l x y ys
      carries_not l x y ys f (inl q) = inl (inr q)
      carries_not l x y ys f (inr q) =
          let z : lands a l x ≡ l = lands_here l x f in
          let e : rank (lands a l x) ≡ rank l = ap rank z in
          inr (omega (arith, q.0), λ c. ⊎_elim (λ t. absurd (contra t f)) (λ d. let b = q.1 (rw z d) in omega arith) c)
