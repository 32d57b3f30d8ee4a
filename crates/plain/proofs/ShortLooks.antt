-- The looks of the searches for a short round: no more than the budget, and in one search at most one at each move, so that a budget can be enough. Assumes nothing.
use mathlib.Core.Path.{◌≡◌, refl, sym, ap, ◌∙◌}
use mathlib.Core.Logic.{◌≢◌, ◌⊎◌, inl, inr, ⊎_elim}
use mathlib.Core.List.{List, [], ◌∷◌, ◌++◌}
use Prim.Native.Nat.{ℕ, zero, suc, ◌+◌, ◌*◌, ◌≤◌}
use native.Mathlib.Nat.{suc-mul}
use native.Mathlib.Omega.{arith}
use lib.ListN.{length, drop, length-append}
use Rattle.plain.specs.Lists.{In, Once}
use Rattle.plain.specs.Search.{Graph}
use Rattle.plain.specs.Shortest.{noted, through, stopped, sweep, targets_of, levels, search_from, ran_out, ruled_out, attempt, found_at, left_at, hunt}
use Rattle.plain.proofs.Tests.{out_nil, in_head, in_tail, in_one, in_append, in_right}
use Rattle.plain.proofs.Bounds.{left, left_drop}
use Rattle.plain.proofs.Sweeps.{sweep_cases, attempt_cases, through_stopped, back_stopped, ruled_ran, succeeded_ran, same_through, same_ruled, sweep_none, looked, not_taken, returned, gone_on, sweep_went, swept, swept_level, targets_in, levels_over, levels_on, levels_back, levels_went, attempt_over, attempt_on, attempt_back, attempt_went, hunt_over, hunt_on, hunt_found}

-- ---- the budget

-- A sweep that goes through makes a look at each move.
pub sweep_count : (b s : ℕ) (ts seen : List ℕ) (n : ℕ) (seen' : List ℕ) (m : ℕ) → sweep b s ts seen n ≡ through seen' m → m ≡ n + length ts
sweep_count b s [] seen n seen' m h = omega (arith, (same_through (sym (sweep_none b s seen n) ∙ h)).1)
sweep_count b s (t ∷ ts) seen n seen' m h = omega (arith, sweep_count b s ts (noted t seen) (suc n) seen' m (sweep_went b s t ts seen n seen' m h).2)

-- Where the budget has a look for each move, it is not stopped.
pub sweep_within : (b s : ℕ) (ts seen : List ℕ) (n : ℕ) → n + length ts ≤ b → sweep b s ts seen n ≢ stopped
sweep_within b s [] seen n h e = through_stopped _ (sweep_none b s seen n) e
sweep_within b s (t ∷ ts) seen n h e = elim (looked b s t ts seen n) [
  | not_taken k f ↦ omega arith
  | returned k z f ↦ back_stopped _ f e
  | gone_on k z f ↦ sweep_within b s ts (noted t seen) (suc n) (omega arith) (sym f ∙ e)
]

-- "the search stops before look B + 1": no more looks than the budget are ever counted
pub sweep_budget : (b s : ℕ) (ts seen : List ℕ) (n : ℕ) (seen' : List ℕ) (m : ℕ) → n ≤ b → sweep b s ts seen n ≡ through seen' m → m ≤ b
sweep_budget b s [] seen n seen' m h e = omega (arith, (same_through (sym (sweep_none b s seen n) ∙ e)).1)
sweep_budget b s (t ∷ ts) seen n seen' m h e = let w = sweep_went b s t ts seen n seen' m e in sweep_budget b s ts (noted t seen) (suc n) seen' m (omega arith) w.2

module _ (g : Graph) (b : ℕ) where
  pub levels_budget : (l s : ℕ) (level seen : List ℕ) (n : ℕ) (last : List ℕ) (k : ℕ) → n ≤ b → levels g b l s level seen n ≡ through last k → k ≤ b
  levels_budget zero s level seen n last k h e = omega (arith, (same_through (sym (levels_over g b s level seen n) ∙ e)).1)
  levels_budget (suc l) s level seen n last k h e =
      let (seen', m, p, q) = levels_went g b l s level seen n last k e in
      levels_budget l s (drop (length seen) seen') seen' m last k (sweep_budget b s (targets_of g level) seen n seen' m h p) q

  pub attempt_budget : (l : ℕ) (rs : List ℕ) (n m : ℕ) → n ≤ b → attempt g b l rs n ≡ ruled_out m → m ≤ b
  attempt_budget l [] n m h e = omega (arith, same_ruled (sym (attempt_over g b l n) ∙ e))
  attempt_budget l (s ∷ ss) n m h e =
      let (seen, k, p, q) = attempt_went g b l s ss n m e in
      attempt_budget l ss k m (levels_budget l s (s ∷ []) (s ∷ []) n seen k h p) q

-- ---- the states seen

-- us: states among which the searches stay
module _ (us : List ℕ) where
  abbrev pub Among : List ℕ → Type 0
  Among xs = (x : ℕ) → In x xs → In x us

  -- No state is seen twice, and none outside us.
  pub sweep_once : (b s : ℕ) (ts seen : List ℕ) (n : ℕ) (seen' : List ℕ) (m : ℕ) → Once seen → Among seen → Among ts → sweep b s ts seen n ≡ through seen' m → Once seen' × Among seen'
  sweep_once b s ts seen n seen' m o i j h =
      let w = swept b s ts seen n seen' m h in
      (w.once o, λ x k. ⊎_elim (i x) (λ z. j x (w.only x z)) (in_append x seen w.news (rw w.grown at k)))

  -- Where a search stands: its level is the newest part of what it has seen, and the states before it are those that were swept.
  pub record Stands (old level seen : List ℕ) : Type 0 where
    pub newest : seen ≡ old ++ level
    pub once : Once seen
    pub among : Among seen

  pub stands_begin : (a : ℕ) → In a us → Stands [] (a ∷ []) (a ∷ [])
  stands_begin a i = record { newest = refl; once = (out_nil a, tt); among = λ x j. rw (in_one x a j) i }

  pub stands_level : (old level seen : List ℕ) → Stands old level seen → Among level
  stands_level old level seen v x i = v.among x (rw v.newest (in_right x old level i))

-- ---- one search

-- how many moves the states of a list have
abbrev pub moves_of : Graph → List ℕ → ℕ
moves_of g us = left (λ x. length (g.successors x)) [] us

module _ (g : Graph) (us : List ℕ) where
  targets_append : (xs ys : List ℕ) → length (targets_of g (xs ++ ys)) ≡ length (targets_of g xs) + length (targets_of g ys)
  unfolding targets_of
  targets_append [] ys = omega arith
  targets_append (x ∷ xs) ys =
      omega (arith, length-append (g.successors x) (targets_of g (xs ++ ys)), length-append (g.successors x) (targets_of g xs), targets_append xs ys)

  -- different states of us have no more moves than us
  pub targets_few : (xs : List ℕ) → Once xs → Among us xs → left (λ x. length (g.successors x)) xs us + length (targets_of g xs) ≤ moves_of g us
  unfolding targets_of
  targets_few [] o i = omega arith
  targets_few (x ∷ xs) o i = omega (
    arith,
    left_drop (λ x. length (g.successors x)) x xs us o.0 (i x (in_head x xs)),
    length-append (g.successors x) (targets_of g xs),
    targets_few xs o.1 (λ y j. i y (in_tail y x xs j)),
  )

  -- the moves of what was swept, with those of the level, are no more than those of us
  stands_count : (old level seen : List ℕ) → Stands us old level seen → length (targets_of g seen) ≡ length (targets_of g old) + length (targets_of g level)
  stands_count old level seen v = ap (λ (xs : List ℕ). length (targets_of g xs)) v.newest ∙ targets_append old level

  stands_few : (old level seen : List ℕ) → Stands us old level seen → length (targets_of g old) + length (targets_of g level) ≤ moves_of g us
  stands_few old level seen v = omega (arith, targets_few seen v.once v.among, stands_count old level seen v)

  -- What a search that goes through has seen and counted, from wherever it stands.
  record Went (old : List ℕ) (n : ℕ) (last : List ℕ) (k : ℕ) : Type 0 where
    once : Once last
    among : Among us last
    more : n ≤ k
    few : k + length (targets_of g old) ≤ n + moves_of g us

-- moves stay in us
module _ (g : Graph) (us : List ℕ) (stays : (x y : ℕ) → In x us → In y (g.successors x) → In y us) where
  pub targets_among : (xs : List ℕ) → Among us xs → Among us (targets_of g xs)
  targets_among xs i y j = let t = targets_in g y xs j in stays t.0 y (i t.0 t.1) t.2

  -- a sweep that goes through leads to the next level
  pub stands_next : (b s : ℕ) (old level seen : List ℕ) (n : ℕ) (seen' : List ℕ) (m : ℕ) → Stands us old level seen → sweep b s (targets_of g level) seen n ≡ through seen' m
      → Stands us seen (drop (length seen) seen') seen'
  stands_next b s old level seen n seen' m v h =
      let ts = targets_of g level in
      let w = swept b s ts seen n seen' m h in
      let o = sweep_once us b s ts seen n seen' m v.once v.among (targets_among level (stands_level us old level seen v)) h in
      record { newest = w.grown ∙ ap (λ (xs : List ℕ). seen ++ xs) (sym (swept_level s ts seen seen' w)); once = o.0; among = o.1 }

  went : (b l s : ℕ) (old level seen : List ℕ) (n : ℕ) (last : List ℕ) (k : ℕ) → Stands us old level seen → levels g b l s level seen n ≡ through last k → Went g us old n last k
  went b zero s old level seen n last k v h =
      let e = same_through (sym (levels_over g b s level seen n) ∙ h) in
      record { once = rw (← e.0) v.once; among = rw (← e.0) v.among; more = omega arith; few = omega (arith, stands_few g us old level seen v) }
  went b (suc l) s old level seen n last k v h =
      let (seen', m, e, f) = levels_went g b l s level seen n last k h in
      let w = went b l s seen (drop (length seen) seen') seen' m last k (stands_next b s old level seen n seen' m v e) f in
      let c = sweep_count b s (targets_of g level) seen n seen' m e in
      record { once = w.once; among = w.among; more = omega arith; few = omega (arith, stands_count g us old level seen v) }

  never_stopped : (b l s : ℕ) (old level seen : List ℕ) (n : ℕ) → Stands us old level seen → n + moves_of g us ≤ b + length (targets_of g old) → levels g b l s level seen n ≢ stopped
  never_stopped b zero s old level seen n v h z = through_stopped _ (levels_over g b s level seen n) z
  never_stopped b (suc l) s old level seen n v h z = ⊎_elim
      (λ r. never_stopped b l s seen (drop (length seen) r.0) r.0 r.1 (stands_next b s old level seen n r.0 r.1 v r.2)
      (omega (arith, sweep_count b s (targets_of g level) seen n r.0 r.1 r.2, stands_count g us old level seen v))
      (sym (levels_on g b l s level seen n r.0 r.1 r.2) ∙ z))
      (⊎_elim
      (λ e. back_stopped _ (levels_back g b l s level seen n e) z)
      (λ e. sweep_within b s (targets_of g level) seen n (omega (arith, stands_few g us old level seen v)) e))
      (sweep_cases (sweep b s (targets_of g level) seen n))

  -- A search from a state of us, over any number of levels: what it has seen, its looks, and the budget that is enough.
  module _ (b l s a n : ℕ) (begins : In a us) where
    pub levels_once : (seen : List ℕ) (m : ℕ) → levels g b l s (a ∷ []) (a ∷ []) n ≡ through seen m → Once seen × Among us seen
    levels_once seen m h = let w = went b l s [] (a ∷ []) (a ∷ []) n seen m (stands_begin us a begins) h in (w.once, w.among)

    pub levels_count : (seen : List ℕ) (m : ℕ) → levels g b l s (a ∷ []) (a ∷ []) n ≡ through seen m → (n ≤ m) × (m ≤ n + moves_of g us)
    levels_count seen m h = let w = went b l s [] (a ∷ []) (a ∷ []) n seen m (stands_begin us a begins) h in (w.more, omega arith)

    pub levels_within : n + moves_of g us ≤ b → levels g b l s (a ∷ []) (a ∷ []) n ≢ stopped
    levels_within h = never_stopped b l s [] (a ∷ []) (a ∷ []) n (stands_begin us a begins) (omega arith)

  -- ---- one length, and all lengths

  -- all searches for a length: for each state of rs, the moves of us
  pub attempt_count : (b l : ℕ) (rs : List ℕ) (n m : ℕ) → Among us rs → attempt g b l rs n ≡ ruled_out m → (n ≤ m) × (m ≤ n + length rs * moves_of g us)
  attempt_count b l [] n m i h = let z = same_ruled (sym (attempt_over g b l n) ∙ h) in (omega arith, omega arith)
  attempt_count b l (s ∷ ss) n m i h =
      let (seen, k, e, f) = attempt_went g b l s ss n m h in
      let c = levels_count b l s s n (i s (in_head s ss)) seen k e in
      let d = attempt_count b l ss k m (λ x j. i x (in_tail x s ss j)) f in
      (omega arith, omega (arith, suc-mul (length ss) (moves_of g us)))

  pub attempt_within : (b l : ℕ) (rs : List ℕ) (n : ℕ) → Among us rs → n + length rs * moves_of g us ≤ b → attempt g b l rs n ≢ ran_out
  attempt_within b l [] n i h z = ruled_ran _ (attempt_over g b l n) z
  attempt_within b l (s ∷ ss) n i h z = ⊎_elim
      (λ r. attempt_within b l ss r.1 (λ x j. i x (in_tail x s ss j))
      (omega (arith, suc-mul (length ss) (moves_of g us), levels_count b l s s n (i s (in_head s ss)) r.0 r.1 r.2))
      (sym (attempt_on g b l s ss n r.0 r.1 r.2) ∙ z))
      (⊎_elim
      (λ e. succeeded_ran _ (attempt_back g b l s ss n e) z)
      (λ e. levels_within b l s s n (i s (in_head s ss)) (omega (arith, suc-mul (length ss) (moves_of g us))) e))
      (sweep_cases (search_from g b l s n))

  -- With a budget that is enough for all lengths, the hunt finds a round, or rules them all out.
  pub hunt_within : (b : ℕ) (rs : List ℕ) (k l n : ℕ) → Among us rs → n + k * (length rs * moves_of g us) ≤ b
      → ((m : ℕ) × (hunt g b rs k l n ≡ found_at m)) ⊎ (hunt g b rs k l n ≡ left_at (l + k))
  hunt_within b rs zero l n i h = inr (hunt_over g b rs l n ∙ (let z : l ≡ l + 0 = omega arith in ap left_at z))
  hunt_within b rs (suc k) l n i h = ⊎_elim
      (λ r. let z : suc l + k ≡ l + suc k = omega arith in
      rw (hunt_on g b rs k l n r.0 r.1, ← z)
      (hunt_within b rs k (suc l) r.0 i (omega (arith, suc-mul k (length rs * moves_of g us), attempt_count b l rs n r.0 i r.1))))
      (⊎_elim
      (λ e. inl (l, hunt_found g b rs k l n e))
      (λ e. absurd (attempt_within b l rs n i (omega (arith, suc-mul k (length rs * moves_of g us))) e)))
      (attempt_cases (attempt g b l rs n))
