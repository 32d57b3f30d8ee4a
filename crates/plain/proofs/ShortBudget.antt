-- More looks go further on the same way; and for which budgets a table's hunt for its shortest round always ends. Assumes nothing.
use mathlib.Core.Path.{◌≡◌, sym, ◌∙◌}
use mathlib.Core.Logic.{◌≢◌, ◌⊎◌, ⊎_elim}
use mathlib.Core.List.{List, [], ◌∷◌}
use Prim.Native.Nat.{ℕ, zero, suc, ◌+◌, ◌*◌, ◌≤◌, ◌<◌}
use native.Mathlib.Nat.{mul-le-mul_left}
use native.Mathlib.Omega.{arith}
use lib.ListN.{length, drop}
use Rattle.plain.specs.Search.{Graph, Verdict, none, lasso, unfinished, verdict}
use Rattle.plain.specs.Table.{Table, graph_of, final}
use Rattle.plain.specs.Shortest.{noted, stopped, sweep, targets_of, levels, search_from, ran_out, attempt, Hunt, found_at, left_at, hunt}
use Rattle.plain.specs.Refusals.{Trial, accepted, refused}
use Rattle.plain.specs.Questions.{short, no_reply, shortest, question_trial, hunt_in, lengths_for, short_reply, question_reply, reply_to}
use Rattle.plain.proofs.Upto.{upto, upto_in, once_upto}
use Rattle.plain.proofs.Tables.{Valid}
use Rattle.plain.proofs.Demands.{total_le, target_below}
use Rattle.plain.proofs.Sweeps.{sweep_cases, attempt_cases, through_stopped, back_stopped, ruled_ran, succeeded_ran, found_left, sweep_none, looked, not_taken, returned, gone_on, sweep_returns, sweep_goes, levels_over, levels_on, levels_back, levels_stop, attempt_over, attempt_on, attempt_back, attempt_stop, hunt_over, hunt_on, hunt_found, hunt_left}
use Rattle.plain.proofs.Reached.{roots_below_lem}
use Rattle.plain.proofs.ShortLooks.{hunt_within}
use Rattle.plain.proofs.Shortest.{roots_of, shortest_none}

-- ---- more looks

-- What b looks are enough for comes out the same with c looks.
pub sweep_more : (b c : ℕ) → b ≤ c → (s : ℕ) (ts seen : List ℕ) (n : ℕ) → sweep b s ts seen n ≢ stopped → sweep c s ts seen n ≡ sweep b s ts seen n
sweep_more b c more s [] seen n h = sweep_none c s seen n ∙ sym (sweep_none b s seen n)
sweep_more b c more s (t ∷ ts) seen n h = elim (looked b s t ts seen n) [
  | not_taken k f ↦ absurd (h f)
  | returned k z f ↦ sweep_returns c s t ts seen n (omega arith) z ∙ sym f
  | gone_on k z f ↦ sweep_goes c s t ts seen n (omega arith) z ∙ sweep_more b c more s ts (noted t seen) (suc n) (λ y. h (f ∙ y)) ∙ sym f
]

module _ (g : Graph) (b c : ℕ) (more : b ≤ c) where
  pub levels_more : (l s : ℕ) (level seen : List ℕ) (n : ℕ) → levels g b l s level seen n ≢ stopped → levels g c l s level seen n ≡ levels g b l s level seen n
  levels_more zero s level seen n h = levels_over g c s level seen n ∙ sym (levels_over g b s level seen n)
  levels_more (suc l) s level seen n h = ⊎_elim
      (λ r. let e = levels_on g b l s level seen n r.0 r.1 r.2 in
      levels_on g c l s level seen n r.0 r.1 (same (λ z. through_stopped _ r.2 z) ∙ r.2)
      ∙ levels_more l s (drop (length seen) r.0) r.0 r.1 (λ z. h (e ∙ z)) ∙ sym e)
      (⊎_elim
      (λ e. levels_back g c l s level seen n (same (λ z. back_stopped _ e z) ∙ e) ∙ sym (levels_back g b l s level seen n e))
      (λ e. absurd (h (levels_stop g b l s level seen n e))))
      (sweep_cases (sweep b s (targets_of g level) seen n))
    where
      same : sweep b s (targets_of g level) seen n ≢ stopped → sweep c s (targets_of g level) seen n ≡ sweep b s (targets_of g level) seen n
      same = sweep_more b c more s (targets_of g level) seen n

  pub attempt_more : (l : ℕ) (rs : List ℕ) (n : ℕ) → attempt g b l rs n ≢ ran_out → attempt g c l rs n ≡ attempt g b l rs n
  attempt_more l [] n h = attempt_over g c l n ∙ sym (attempt_over g b l n)
  attempt_more l (s ∷ ss) n h = ⊎_elim
      (λ r. let e = attempt_on g b l s ss n r.0 r.1 r.2 in
      attempt_on g c l s ss n r.0 r.1 (same (λ z. through_stopped _ r.2 z) ∙ r.2) ∙ attempt_more l ss r.1 (λ z. h (e ∙ z)) ∙ sym e)
      (⊎_elim
      (λ e. attempt_back g c l s ss n (same (λ z. back_stopped _ e z) ∙ e) ∙ sym (attempt_back g b l s ss n e))
      (λ e. absurd (h (attempt_stop g b l s ss n e))))
      (sweep_cases (search_from g b l s n))
    where
      same : search_from g b l s n ≢ stopped → search_from g c l s n ≡ search_from g b l s n
      same = levels_more l s (s ∷ []) (s ∷ []) n

-- where a hunt over k lengths from l on can end
abbrev pub Ends : ℕ → ℕ → Hunt → Type 0
Ends k l (found_at m) = (l ≤ m) × (m < l + k)
Ends k l (left_at m) = (l ≤ m) × (m ≤ l + k)

ends_next : (k l : ℕ) (r : Hunt) → Ends k (suc l) r → Ends (suc k) l r
ends_next k l (found_at m) e = (omega arith, omega arith)
ends_next k l (left_at m) e = (omega arith, omega arith)

pub hunt_least : (g : Graph) (b : ℕ) (rs : List ℕ) (k l n : ℕ) → Ends k l (hunt g b rs k l n)
hunt_least g b rs zero l n = rw (hunt_over g b rs l n) (omega arith, omega arith)
hunt_least g b rs (suc k) l n = ⊎_elim
    (λ r. rw (hunt_on g b rs k l n r.0 r.1) (ends_next k l (hunt g b rs k (suc l) r.0) (hunt_least g b rs k (suc l) r.0)))
    (⊎_elim
    (λ e. rw (hunt_found g b rs k l n e) (omega arith, omega arith))
    (λ e. rw (hunt_left g b rs k l n e) (omega arith, omega arith)))
    (attempt_cases (attempt g b l rs n))

-- the second hunt comes as far as the first, and finds what the first finds
abbrev pub Further : Hunt → Hunt → Type 0
Further (found_at m) r = r ≡ found_at m
Further (left_at m) (found_at m') = m ≤ m'
Further (left_at m) (left_at m') = m ≤ m'

further_least : (k l : ℕ) (r : Hunt) → Ends k l r → Further (left_at l) r
further_least k l (found_at m) e = e.0
further_least k l (left_at m) e = e.0

pub hunt_more : (g : Graph) (b c : ℕ) → b ≤ c → (rs : List ℕ) (k l n : ℕ) → Further (hunt g b rs k l n) (hunt g c rs k l n)
hunt_more g b c more rs zero l n = rw (hunt_over g b rs l n, hunt_over g c rs l n) (omega arith)
hunt_more g b c more rs (suc k) l n = ⊎_elim
    (λ r. rw (hunt_on g b rs k l n r.0 r.1, hunt_on g c rs k l n r.0 (same (λ z. ruled_ran _ r.1 z) ∙ r.1)) (hunt_more g b c more rs k (suc l) r.0))
    (⊎_elim
    (λ e. rw (hunt_found g b rs k l n e) (hunt_found g c rs k l n (same (λ z. succeeded_ran _ e z) ∙ e)))
    (λ e. rw (hunt_left g b rs k l n e) (further_least (suc k) l (hunt g c rs (suc k) l n) (hunt_least g c rs (suc k) l n))))
    (attempt_cases (attempt g b l rs n))
  where
    same : attempt g b l rs n ≢ ran_out → attempt g c l rs n ≡ attempt g b l rs n
    same = attempt_more g b c more l rs n

-- What is found is found too where more lengths would be tried
pub hunt_shorter : (g : Graph) (b : ℕ) (rs : List ℕ) (k k' l n m : ℕ) → k ≤ k' → hunt g b rs k l n ≡ found_at m → hunt g b rs k' l n ≡ found_at m
hunt_shorter g b rs zero k' l n m h f = absurd (found_left _ f (hunt_over g b rs l n))
hunt_shorter g b rs (suc k) zero l n m h f = absurd (omega arith)
hunt_shorter g b rs (suc k) (suc k') l n m h f = ⊎_elim
    (λ r. hunt_on g b rs k' l n r.0 r.1 ∙ hunt_shorter g b rs k k' (suc l) r.0 m (omega arith) (sym (hunt_on g b rs k l n r.0 r.1) ∙ f))
    (⊎_elim
    (λ e. hunt_found g b rs k' l n e ∙ sym (hunt_found g b rs k l n e) ∙ f)
    (λ e. absurd (found_left _ f (hunt_left g b rs k l n e))))
    (attempt_cases (attempt g b l rs n))

-- ---- of a table

two_lengths : {a b c d : ℕ} → shortest a b ≡ shortest c d → (a ≡ c) × (b ≡ d)
two_lengths e = ((cc), (cc))

lengths_more : (present : ℕ) (p q : Hunt) (best least best' least' : ℕ) → Further p q → Ends present 1 q
    → lengths_for present p ≡ shortest best least → lengths_for present q ≡ shortest best' least'
    → (best' ≤ best) × (least ≤ least')
unfolding lengths_for
lengths_more present (found_at m) q best least best' least' f e x y =
    let z : shortest m m ≡ shortest best' least' = rw f at y in
    let v = two_lengths x in
    let w = two_lengths z in
    (omega arith, omega arith)
lengths_more present (left_at m) (found_at m') best least best' least' f e x y = let v = two_lengths x in let w = two_lengths y in (omega arith, omega arith)
lengths_more present (left_at m) (left_at m') best least best' least' f e x y = let v = two_lengths x in let w = two_lengths y in (omega arith, omega arith)

-- "On one unchanged table a larger B never gives a longer round or a smaller second number."
pub more_looks : (t : Table) (b c best least best' least' : ℕ) → b ≤ c → reply_to (short b) t ≡ shortest best least → reply_to (short c) t ≡ shortest best' least'
    → (best' ≤ best) × (least ≤ least')
unfolding reply_to question_trial question_reply short_reply hunt_in
more_looks t b c best least best' least' more = by_trial (question_trial (short b) t)
  where
    refusal_apart : {n : ℕ} → no_reply n ≡ shortest best least → ⊥
    refusal_apart e = let z : ◌≡◌ {A = ℕ} 0 1 = cc in omega arith

    by_verdict : (v : Verdict) → short_reply v b t ≡ shortest best least → short_reply v c t ≡ shortest best' least' → (best' ≤ best) × (least ≤ least')
    by_verdict none x y = absurd (shortest_none (sym x))
    by_verdict (lasso stem cycle) x y =
        let rs = roots_of t in
        let k = length cycle in
        lengths_more k (hunt_in t b k) (hunt_in t c k) best least best' least' (hunt_more (graph_of t) b c more rs k 1 0) (hunt_least (graph_of t) c rs k 1 0) x y
    by_verdict unfinished x y = absurd (shortest_none (sym x))

    by_trial : (r : Trial) → question_reply r (short b) t ≡ shortest best least → question_reply r (short c) t ≡ shortest best' least' → (best' ≤ best) × (least ≤ least')
    by_trial accepted x y = by_verdict (verdict (final t)) x y
    by_trial (refused n) x y = absurd (refusal_apart x)

-- Where the budget has, for each of k lengths and each state that is searched from, a look at each move, the hunt finds a round or rules all k lengths out.
pub hunt_ends : (t : Table) → Valid t → (b k : ℕ) → k * (length (roots_of t) * length t.edges) ≤ b
    → ((m : ℕ) × (hunt_in t b k ≡ found_at m)) ⊎ (hunt_in t b k ≡ left_at (suc k))
unfolding hunt_in
hunt_ends t v b k h =
    let g = graph_of t in
    let us = upto t.size in
    let few = mul-le-mul_left k (mul-le-mul_left (length (roots_of t)) (total_le t.edges us (once_upto t.size))) in
    let z : 1 + k ≡ suc k = omega arith in
    rw (← z) (hunt_within g us (λ x y i j. upto_in y t.size (target_below t v x y j)) b (roots_of t) k 1 0 (λ x i. upto_in x t.size (roots_below_lem g t.size x i)) (omega arith))
