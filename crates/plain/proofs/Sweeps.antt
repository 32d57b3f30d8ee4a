-- How the searches of ticket 11 go on, look by look, level by level and length by length; and what a sweep leaves. Assumes nothing.
use mathlib.Core.Path.{◌≡◌, refl, sym, ap, ◌∙◌}
use mathlib.Core.Logic.{◌≢◌, ◌⊎◌, inl, inr, ⊎_elim}
use mathlib.Core.Bool.{Bool, true, false}
use mathlib.Core.List.{List, [], ◌∷◌, ◌++◌, append_assoc, append-nil}
use Prim.Native.Nat.{ℕ, zero, suc, ◌≤◌, ◌<◌}
use native.Mathlib.Decide.{dec_le}
use native.Mathlib.Omega.{arith}
use lib.Dec.{eqb, leb}
use lib.ListN.{length, drop, drop_of_length-le}
use lib.Seq.{drop-append_seam}
use borrow.Author.Tests.{le-leb, lt-leb, eqb-true, eqb-false, eq-eqb, ne_eqb}
use Rattle.plain.specs.Lists.{elem, In, Once, Begins}
use Rattle.plain.specs.Search.{Graph}
use Rattle.plain.specs.Shortest.{noted, Sweep, through, back, stopped, sweep, targets_of, levels, search_from, Attempt, succeeded, ran_out, ruled_out, attempt, Hunt, found_at, left_at, hunt}
use Rattle.plain.proofs.Tests.{contra, either, in_nil, out_nil, in_head, in_tail, in_cases, in_one, in_append, in_left, in_right}
use Rattle.plain.proofs.Lassos.{once_append}

-- ---- what has come of looks, of a length, of the lengths

pub sweep_cases : (r : Sweep) → ((xs : List ℕ) × (m : ℕ) × (r ≡ through xs m)) ⊎ ((r ≡ back) ⊎ (r ≡ stopped))
sweep_cases (through xs m) = inl (xs, m, refl)
sweep_cases back = inr (inl refl)
sweep_cases stopped = inr (inr refl)

pub attempt_cases : (r : Attempt) → ((m : ℕ) × (r ≡ ruled_out m)) ⊎ ((r ≡ succeeded) ⊎ (r ≡ ran_out))
attempt_cases (ruled_out m) = inl (m, refl)
attempt_cases succeeded = inr (inl refl)
attempt_cases ran_out = inr (inr refl)

pub through_stopped : {xs : List ℕ} {m : ℕ} → (r : Sweep) → r ≡ through xs m → r ≡ stopped → ⊥
through_stopped r p q = let z : ◌≡◌ {A = ℕ} 0 1 = cc in omega arith

pub through_back : {xs : List ℕ} {m : ℕ} → (r : Sweep) → r ≡ through xs m → r ≡ back → ⊥
through_back r p q = let z : ◌≡◌ {A = ℕ} 0 1 = cc in omega arith

pub back_stopped : (r : Sweep) → r ≡ back → r ≡ stopped → ⊥
back_stopped r p q = let z : ◌≡◌ {A = ℕ} 0 1 = cc in omega arith

pub ruled_ran : {m : ℕ} → (r : Attempt) → r ≡ ruled_out m → r ≡ ran_out → ⊥
ruled_ran r p q = let z : ◌≡◌ {A = ℕ} 0 1 = cc in omega arith

pub ruled_succeeded : {m : ℕ} → (r : Attempt) → r ≡ ruled_out m → r ≡ succeeded → ⊥
ruled_succeeded r p q = let z : ◌≡◌ {A = ℕ} 0 1 = cc in omega arith

pub succeeded_ran : (r : Attempt) → r ≡ succeeded → r ≡ ran_out → ⊥
succeeded_ran r p q = let z : ◌≡◌ {A = ℕ} 0 1 = cc in omega arith

pub found_left : {k l : ℕ} → (r : Hunt) → r ≡ found_at k → r ≡ left_at l → ⊥
found_left r p q = let z : ◌≡◌ {A = ℕ} 0 1 = cc in omega arith

pub same_through : {xs ys : List ℕ} {m n : ℕ} → through xs m ≡ through ys n → (xs ≡ ys) × (m ≡ n)
same_through e = ((cc), (cc))

pub same_ruled : {m n : ℕ} → ruled_out m ≡ ruled_out n → m ≡ n
same_ruled e = cc

pub same_found : {k l : ℕ} → found_at k ≡ found_at l → k ≡ l
same_found e = cc

pub same_left : {k l : ℕ} → left_at k ≡ left_at l → k ≡ l
same_left e = cc

-- ---- one look

pub noted_again : (t : ℕ) (xs : List ℕ) → elem t xs ≡ true → noted t xs ≡ xs
unfolding noted
noted_again t xs e = ap (λ (c : Bool). elim c [ true ↦ xs | false ↦ xs ++ (t ∷ []) ]) e

pub noted_new : (t : ℕ) (xs : List ℕ) → elem t xs ≡ false → noted t xs ≡ xs ++ (t ∷ [])
unfolding noted
noted_new t xs e = ap (λ (c : Bool). elim c [ true ↦ xs | false ↦ xs ++ (t ∷ []) ]) e

-- what comes of one look, by the budget and by whether it comes back, where this comes of those behind it
abbrev one_look : Bool → Bool → Sweep → Sweep
one_look out home rest = elim out [ true ↦ stopped | false ↦ elim home [ true ↦ back | false ↦ rest ] ]

module _ (b s t : ℕ) (ts xs : List ℕ) (n : ℕ) where
  sweep_one : sweep b s (t ∷ ts) xs n ≡ one_look (leb b n) (eqb t s) (sweep b s ts (noted t xs) (suc n))
  unfolding sweep
  sweep_one = refl

  pub sweep_stops : b ≤ n → sweep b s (t ∷ ts) xs n ≡ stopped
  sweep_stops h = sweep_one ∙ ap (λ (c : Bool). one_look c (eqb t s) (sweep b s ts (noted t xs) (suc n))) (le-leb b n h)

  pub sweep_returns : n < b → t ≡ s → sweep b s (t ∷ ts) xs n ≡ back
  sweep_returns h e = sweep_one ∙ (λ i. one_look (lt-leb b n h i) (eq-eqb t s e i) (sweep b s ts (noted t xs) (suc n)))

  pub sweep_goes : n < b → t ≢ s → sweep b s (t ∷ ts) xs n ≡ sweep b s ts (noted t xs) (suc n)
  sweep_goes h e = sweep_one ∙ (λ i. one_look (lt-leb b n h i) (ne_eqb t s e i) (sweep b s ts (noted t xs) (suc n)))

-- What comes of one look: it is not taken, it comes back, or the sweep goes on behind it.
pub data Looked (b s t : ℕ) (ts xs : List ℕ) (n : ℕ) : Type 0 where
  not_taken : b ≤ n → sweep b s (t ∷ ts) xs n ≡ stopped → Looked b s t ts xs n
  returned : n < b → t ≡ s → sweep b s (t ∷ ts) xs n ≡ back → Looked b s t ts xs n
  gone_on : n < b → t ≢ s → sweep b s (t ∷ ts) xs n ≡ sweep b s ts (noted t xs) (suc n) → Looked b s t ts xs n

pub looked : (b s t : ℕ) (ts xs : List ℕ) (n : ℕ) → Looked b s t ts xs n
looked b s t ts xs n = elim (dec_le b n) [
  | yes h ↦ not_taken h (sweep_stops b s t ts xs n h)
  | no h ↦ let low : n < b = omega arith in
      ⊎_elim
      (λ e. let z = eqb-true t s e in returned low z (sweep_returns b s t ts xs n low z))
      (λ e. let z = eqb-false t s e in gone_on low z (sweep_goes b s t ts xs n low z)) (either (eqb t s))
]

-- a sweep that goes through goes on behind its first look, which is within the budget and does not come back
pub sweep_went : (b s t : ℕ) (ts xs : List ℕ) (n : ℕ) (ys : List ℕ) (m : ℕ) → sweep b s (t ∷ ts) xs n ≡ through ys m
    → (n < b) × (t ≢ s) × (sweep b s ts (noted t xs) (suc n) ≡ through ys m)
sweep_went b s t ts xs n ys m e = elim (looked b s t ts xs n) [
  | not_taken h f ↦ absurd (through_stopped _ e f)
  | returned h z f ↦ absurd (through_back _ e f)
  | gone_on h z f ↦ (h, z, sym f ∙ e)
]

pub sweep_none : (b s : ℕ) (xs : List ℕ) (n : ℕ) → sweep b s [] xs n ≡ through xs n
unfolding sweep
sweep_none b s xs n = refl

-- ---- more looks behind some

-- what comes of looks at more moves, behind those that have come to this
abbrev pub then_look : ℕ → ℕ → List ℕ → Sweep → Sweep
then_look b s us (through xs n) = sweep b s us xs n
then_look b s us back = back
then_look b s us stopped = stopped

look_more : (b s : ℕ) (us : List ℕ) (out home : Bool) (v w : Sweep) → v ≡ then_look b s us w → one_look out home v ≡ then_look b s us (one_look out home w)
look_more b s us true home v w e = refl
look_more b s us false true v w e = refl
look_more b s us false false v w e = e

pub sweep_append : (b s : ℕ) (ts us xs : List ℕ) (n : ℕ) → sweep b s (ts ++ us) xs n ≡ then_look b s us (sweep b s ts xs n)
unfolding sweep
sweep_append b s [] us xs n = refl
sweep_append b s (t ∷ ts) us xs n =
    look_more b s us (leb b n) (eqb t s) (sweep b s (ts ++ us) (noted t xs) (suc n)) (sweep b s ts (noted t xs) (suc n)) (sweep_append b s ts us (noted t xs) (suc n))

-- ---- what a sweep leaves

pub begins_trans : (xs ys zs : List ℕ) → Begins xs ys → Begins ys zs → Begins xs zs
begins_trans xs ys zs (us, e) (vs, f) = (us ++ vs, f ∙ ap (λ (l : List ℕ). l ++ vs) e ∙ append_assoc xs us vs)

pub noted_once : (t : ℕ) (xs : List ℕ) → Once xs → Once (noted t xs)
noted_once t xs o = ⊎_elim
    (λ e. rw (noted_again t xs e) o)
    (λ e. rw (noted_new t xs e) (once_append xs (t ∷ []) o (out_nil t, tt) (λ x k z. contra (rw (in_one x t z) at k) e))) (either (elem t xs))

-- What a sweep over moves to ts leaves, where no look comes back to s: the states seen before, and behind them those of ts that are new.
pub record Swept (s : ℕ) (ts xs ys : List ℕ) : Type 0 where
  pub news : List ℕ
  pub grown : ys ≡ xs ++ news
  pub each : (t : ℕ) → In t ts → (t ≢ s) × In t ys
  pub only : (t : ℕ) → In t news → In t ts
  pub once : Once xs → Once ys

-- one look more, at the start
swept_more : (s t : ℕ) (ts xs ys : List ℕ) → t ≢ s → Swept s ts (noted t xs) ys → Swept s (t ∷ ts) xs ys
swept_more s t ts xs ys ne w = ⊎_elim
    (λ e.
    let g : ys ≡ xs ++ w.news = w.grown ∙ ap (λ (l : List ℕ). l ++ w.news) (noted_again t xs e) in
    record {
      news = w.news;
      grown = g;
      each = each (rw g (in_left t xs w.news e));
      only = λ y i. in_tail y t ts (w.only y i);
      once = λ o. w.once (noted_once t xs o);
    })
    (λ e.
    let g : ys ≡ xs ++ (t ∷ w.news) = w.grown ∙ ap (λ (l : List ℕ). l ++ w.news) (noted_new t xs e) ∙ append_assoc xs (t ∷ []) w.news in
    record {
      news = t ∷ w.news;
      grown = g;
      each = each (rw g (in_right t xs (t ∷ w.news) (in_head t w.news)));
      only = λ y i. ⊎_elim (λ z. rw z (in_head t ts)) (λ j. in_tail y t ts (w.only y j)) (in_cases y t w.news i);
      once = λ o. w.once (noted_once t xs o);
    })
    (either (elem t xs))
  where
    each : In t ys → (y : ℕ) → In y (t ∷ ts) → (y ≢ s) × In y ys
    each i y j = ⊎_elim (λ z. rw z (ne, i)) (w.each y) (in_cases y t ts j)

pub swept : (b s : ℕ) (ts xs : List ℕ) (n : ℕ) (ys : List ℕ) (m : ℕ) → sweep b s ts xs n ≡ through ys m → Swept s ts xs ys
swept b s [] xs n ys m e =
    let z = (same_through (sym (sweep_none b s xs n) ∙ e)).0 in
    record { news = []; grown = sym z ∙ sym (append-nil xs); each = λ t i. absurd (in_nil t i); only = λ t i. i; once = λ o. rw z at o }
swept b s (t ∷ ts) xs n ys m e = let w = sweep_went b s t ts xs n ys m e in swept_more s t ts xs ys w.1 (swept b s ts (noted t xs) (suc n) ys m w.2)

pub sweep_begins : (b s : ℕ) (ts xs ys : List ℕ) (n m : ℕ) → sweep b s ts xs n ≡ through ys m → Begins xs ys
sweep_begins b s ts xs ys n m e = let w = swept b s ts xs n ys m e in (w.news, w.grown)

-- the states first seen are the next level
pub swept_level : (s : ℕ) (ts xs ys : List ℕ) (w : Swept s ts xs ys) → drop (length xs) ys ≡ w.news
swept_level s ts xs ys w = ap (drop (length xs)) w.grown ∙ drop-append_seam xs w.news

-- a look that came back was at a move to s
pub swept_back : (b s : ℕ) (ts xs : List ℕ) (n : ℕ) → sweep b s ts xs n ≡ back → In s ts
swept_back b s [] xs n e = absurd (through_back _ (sweep_none b s xs n) e)
swept_back b s (t ∷ ts) xs n e = elim (looked b s t ts xs n) [
  | not_taken h f ↦ absurd (back_stopped _ e f)
  | returned h z f ↦ rw z (in_head s ts)
  | gone_on h z f ↦ in_tail s t ts (swept_back b s ts (noted t xs) (suc n) (sym f ∙ e))
]

-- ---- levels

-- where the moves of a level's states lead
module _ (g : Graph) where
  pub in_targets : (x y : ℕ) (level : List ℕ) → In x level → In y (g.successors x) → In y (targets_of g level)
  unfolding targets_of
  in_targets x y [] i j = absurd (in_nil x i)
  in_targets x y (z ∷ level) i j = ⊎_elim
      (λ e. in_left y (g.successors z) (targets_of g level) (rw e at j))
      (λ k. in_right y (g.successors z) (targets_of g level) (in_targets x y level k j)) (in_cases x z level i)

  pub targets_in : (y : ℕ) (level : List ℕ) → In y (targets_of g level) → (x : ℕ) × In x level × In y (g.successors x)
  unfolding targets_of
  targets_in y [] i = absurd (in_nil y i)
  targets_in y (z ∷ level) i = ⊎_elim
      (λ j. (z, in_head z level, j))
      (λ j. let r = targets_in y level j in (r.0, in_tail r.0 z level r.1, r.2)) (in_append y (g.successors z) (targets_of g level) i)

module _ (g : Graph) (b : ℕ) where
  -- what comes of the levels behind one, by what has come of that one
  abbrev pub then_levels : ℕ → ℕ → ℕ → Sweep → Sweep
  then_levels l s k (through xs n) = levels g b l s (drop k xs) xs n
  then_levels l s k back = back
  then_levels l s k stopped = stopped

  pub levels_next : (l s : ℕ) (level xs : List ℕ) (n : ℕ) → levels g b (suc l) s level xs n ≡ then_levels l s (length xs) (sweep b s (targets_of g level) xs n)
  unfolding levels
  levels_next l s level xs n = by_sweep (sweep b s (targets_of g level) xs n)
    where
      by_sweep : (w : Sweep) → elim w [
        | through ys m ↦ levels g b l s (drop (length xs) ys) ys m
        | back ↦ back
        | stopped ↦ stopped
      ] ≡ then_levels l s (length xs) w
      by_sweep (through ys m) = refl
      by_sweep back = refl
      by_sweep stopped = refl

  module _ (l s : ℕ) (level xs : List ℕ) (n : ℕ) where
    pub levels_on : (ys : List ℕ) (m : ℕ) → sweep b s (targets_of g level) xs n ≡ through ys m → levels g b (suc l) s level xs n ≡ levels g b l s (drop (length xs) ys) ys m
    levels_on ys m e = levels_next l s level xs n ∙ ap (then_levels l s (length xs)) e

    pub levels_back : sweep b s (targets_of g level) xs n ≡ back → levels g b (suc l) s level xs n ≡ back
    levels_back e = levels_next l s level xs n ∙ ap (then_levels l s (length xs)) e

    pub levels_stop : sweep b s (targets_of g level) xs n ≡ stopped → levels g b (suc l) s level xs n ≡ stopped
    levels_stop e = levels_next l s level xs n ∙ ap (then_levels l s (length xs)) e

    -- a search that goes through has swept its first level, and goes on behind it
    pub levels_went : (last : List ℕ) (k : ℕ) → levels g b (suc l) s level xs n ≡ through last k
        → (ys : List ℕ) × (m : ℕ) × (sweep b s (targets_of g level) xs n ≡ through ys m) × (levels g b l s (drop (length xs) ys) ys m ≡ through last k)
    levels_went last k h = ⊎_elim
        (λ r. (r.0, r.1, r.2, sym (levels_on r.0 r.1 r.2) ∙ h))
        (⊎_elim (λ e. absurd (through_back _ h (levels_back e))) (λ e. absurd (through_stopped _ h (levels_stop e))))
        (sweep_cases (sweep b s (targets_of g level) xs n))

  pub levels_over : (s : ℕ) (level xs : List ℕ) (n : ℕ) → levels g b 0 s level xs n ≡ through xs n
  unfolding levels
  levels_over s level xs n = refl

  -- a level without a state is the last
  pub levels_none : (l s : ℕ) (xs : List ℕ) (n : ℕ) → levels g b l s [] xs n ≡ through xs n
  unfolding levels targets_of sweep
  levels_none zero s xs n = refl
  levels_none (suc l) s xs n = ap (λ (level : List ℕ). levels g b l s level xs n) (drop_of_length-le xs {i = length xs} (omega arith)) ∙ levels_none l s xs n

-- ---- lengths

module _ (g : Graph) (b : ℕ) where
  -- what comes of the other states for a length, by what has come of one
  abbrev pub then_states : ℕ → List ℕ → Sweep → Attempt
  then_states l ss (through xs n) = attempt g b l ss n
  then_states l ss back = succeeded
  then_states l ss stopped = ran_out

  pub attempt_next : (l s : ℕ) (ss : List ℕ) (n : ℕ) → attempt g b l (s ∷ ss) n ≡ then_states l ss (search_from g b l s n)
  unfolding attempt
  attempt_next l s ss n = by_sweep (search_from g b l s n)
    where
      by_sweep : (w : Sweep) → elim w [ through xs m ↦ attempt g b l ss m | back ↦ succeeded | stopped ↦ ran_out ] ≡ then_states l ss w
      by_sweep (through xs m) = refl
      by_sweep back = refl
      by_sweep stopped = refl

  module _ (l s : ℕ) (ss : List ℕ) (n : ℕ) where
    pub attempt_on : (xs : List ℕ) (m : ℕ) → search_from g b l s n ≡ through xs m → attempt g b l (s ∷ ss) n ≡ attempt g b l ss m
    attempt_on xs m e = attempt_next l s ss n ∙ ap (then_states l ss) e

    pub attempt_back : search_from g b l s n ≡ back → attempt g b l (s ∷ ss) n ≡ succeeded
    attempt_back e = attempt_next l s ss n ∙ ap (then_states l ss) e

    pub attempt_stop : search_from g b l s n ≡ stopped → attempt g b l (s ∷ ss) n ≡ ran_out
    attempt_stop e = attempt_next l s ss n ∙ ap (then_states l ss) e

    -- a length that is ruled out is ruled out from the first state, and then from the others
    pub attempt_went : (m : ℕ) → attempt g b l (s ∷ ss) n ≡ ruled_out m → (xs : List ℕ) × (k : ℕ) × (search_from g b l s n ≡ through xs k) × (attempt g b l ss k ≡ ruled_out m)
    attempt_went m h = ⊎_elim
        (λ r. (r.0, r.1, r.2, sym (attempt_on r.0 r.1 r.2) ∙ h))
        (⊎_elim (λ e. absurd (ruled_succeeded _ h (attempt_back e))) (λ e. absurd (ruled_ran _ h (attempt_stop e))))
        (sweep_cases (search_from g b l s n))

  pub attempt_over : (l n : ℕ) → attempt g b l [] n ≡ ruled_out n
  unfolding attempt
  attempt_over l n = refl

  -- what comes of the lengths behind one, by what has come of that one
  abbrev pub then_lengths : List ℕ → ℕ → ℕ → Attempt → Hunt
  then_lengths rs k l succeeded = found_at l
  then_lengths rs k l ran_out = left_at l
  then_lengths rs k l (ruled_out n) = hunt g b rs k (suc l) n

  pub hunt_next : (rs : List ℕ) (k l n : ℕ) → hunt g b rs (suc k) l n ≡ then_lengths rs k l (attempt g b l rs n)
  unfolding hunt
  hunt_next rs k l n = by_attempt (attempt g b l rs n)
    where
      by_attempt : (a : Attempt) → elim a [ succeeded ↦ found_at l | ran_out ↦ left_at l | ruled_out m ↦ hunt g b rs k (suc l) m ] ≡ then_lengths rs k l a
      by_attempt succeeded = refl
      by_attempt ran_out = refl
      by_attempt (ruled_out m) = refl

  module _ (rs : List ℕ) (k l n : ℕ) where
    pub hunt_on : (m : ℕ) → attempt g b l rs n ≡ ruled_out m → hunt g b rs (suc k) l n ≡ hunt g b rs k (suc l) m
    hunt_on m e = hunt_next rs k l n ∙ ap (then_lengths rs k l) e

    pub hunt_found : attempt g b l rs n ≡ succeeded → hunt g b rs (suc k) l n ≡ found_at l
    hunt_found e = hunt_next rs k l n ∙ ap (then_lengths rs k l) e

    pub hunt_left : attempt g b l rs n ≡ ran_out → hunt g b rs (suc k) l n ≡ left_at l
    hunt_left e = hunt_next rs k l n ∙ ap (then_lengths rs k l) e

  pub hunt_over : (rs : List ℕ) (l n : ℕ) → hunt g b rs 0 l n ≡ left_at l
  unfolding hunt
  hunt_over rs l n = refl
