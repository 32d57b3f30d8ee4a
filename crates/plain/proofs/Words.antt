-- The paying words: which states pay once the word of one state is changed, and once that state is marked or unmarked; words that mark a list of states. Assumes nothing.
use mathlib.Core.Path.{◌≡◌, refl, sym, ap, ap₂, ◌∙◌}
use mathlib.Core.Logic.{◌≢◌, ⊎_elim}
use mathlib.Core.Bool.{Bool, true, false, ◌||◌, or_assoc, or_comm, or-false}
use mathlib.Core.List.{List, [], ◌∷◌}
use Prim.Native.Nat.{ℕ, zero, suc, ◌+◌, ◌*◌, ◌/◌, ◌%◌, ◌<◌}
use native.Mathlib.Decide.{dec_lt}
use native.Mathlib.Omega.{arith}
use lib.Arith.{digits_div, digits_mod}
use lib.Dec.{eqb}
use lib.ListN.{length, get_or, set, take, drop, replicate, length-set, get_or-replicate}
use lib.Seq.{set_out, get_or-set_same, get_or-set_other, get_or-take, get_or-drop}
use borrow.Author.Tests.{eqb-false, ne_eqb}
use Rattle.plain.specs.Lists.{below, elem, In, Rising}
use Rattle.plain.specs.Table.{accepts, by_kind, carried_by, bit, with_bit, without_bit, with_mark, without_mark, with_marks, marking, marked}
use Rattle.plain.specs.Machine.{in_kind}
use Rattle.plain.proofs.Tests.{either, self, same, in_head, in_tail, in_filter, filter_in}
use Rattle.plain.proofs.Upto.{in_below, below_in, rising_below, rising_filter, rising_same}
use Rattle.plain.proofs.Bits.{bit_of_zero, bit_of_with_bit, cleared, cleared_other}

-- state b of word n
pub accepts_in_word : (words : List ℕ) (n b : ℕ) → b < 64 → accepts words (n * 64 + b) ≡ bit b (get_or words n 0)
unfolding accepts
accepts_in_word words n b h = ap₂ (λ (c k : ℕ). bit c (get_or words k 0)) (digits_mod n h) (digits_div n h)

-- ---- the word of s is changed to w

module _ (words : List ℕ) (s w : ℕ) where
  -- s has its bit of w, where s has a word
  pub accepts_set : s / 64 < length words → accepts (set words (s / 64) w) s ≡ bit (s % 64) w
  unfolding accepts
  accepts_set h = ap (bit (s % 64)) (get_or-set_same words (s / 64) w 0 h)

  -- the other states stay as they were, where the other bits of the word do
  pub accepts_set_other : ((b : ℕ) → b ≢ s % 64 → bit b w ≡ bit b (get_or words (s / 64) 0)) → (x : ℕ) → x ≢ s
      → accepts (set words (s / 64) w) x ≡ accepts words x
  unfolding accepts
  accepts_set_other keeps x n = ⊎_elim here elsewhere (either (eqb (x / 64) (s / 64)))
    where
      Goal : ℕ → Type 0
      Goal k = bit (x % 64) (get_or (set words (s / 64) w) k 0) ≡ bit (x % 64) (get_or words k 0)

      elsewhere : eqb (x / 64) (s / 64) ≡ false → Goal (x / 64)
      elsewhere f = ap (bit (x % 64)) (get_or-set_other words (s / 64) (x / 64) w 0 (eqb-false (x / 64) (s / 64) f))

      by_length : x / 64 ≡ s / 64 → Dec (s / 64 < length words) → Goal (s / 64)
      by_length q (yes h) = ap (bit (x % 64)) (get_or-set_same words (s / 64) w 0 h) ∙ keeps (x % 64) (λ r. n (omega arith))
      by_length q (no h) = ap (λ (l : List ℕ). bit (x % 64) (get_or l (s / 64) 0)) (set_out words (s / 64) w (omega arith))

      here : eqb (x / 64) (s / 64) ≡ true → Goal (x / 64)
      here e = let q : x / 64 ≡ s / 64 = same e in rw q (by_length q (dec_lt (s / 64) (length words)))

-- ---- s is marked

-- the other states stay as they were
pub accepts_marked_other : (words : List ℕ) (s x : ℕ) → x ≢ s → accepts (with_mark words s) x ≡ accepts words x
unfolding with_mark
accepts_marked_other words s x n =
    accepts_set_other words s (with_bit (s % 64) (get_or words (s / 64) 0))
    (λ b m. bit_of_with_bit b (s % 64) (get_or words (s / 64) 0) ∙ rw (ne_eqb b (s % 64) m)) x n

-- s pays, and each state that paid before, and no other
pub accepts_marked : (words : List ℕ) (s : ℕ) → s / 64 < length words → (x : ℕ) → accepts (with_mark words s) x ≡ (eqb x s || accepts words x)
unfolding with_mark
accepts_marked words s h x = ⊎_elim
    (λ e. let z : x ≡ s = same e in rw (e, z) (
    accepts_set words s (with_bit (s % 64) (get_or words (s / 64) 0)) h ∙ bit_of_with_bit (s % 64) (s % 64) (get_or words (s / 64) 0) ∙ rw (self (s % 64))))
    (λ f. accepts_marked_other words s x (eqb-false x s f) ∙ rw f) (either (eqb x s))

-- ---- the states of a list are marked

-- they pay, and each state that paid before, and no other
pub accepts_all_marked : (ss words : List ℕ) → ((s : ℕ) → In s ss → s / 64 < length words) → (x : ℕ) → accepts (with_marks words ss) x ≡ (elem x ss || accepts words x)
unfolding with_marks with_mark elem
accepts_all_marked [] words h x = refl
accepts_all_marked (s ∷ ss) words h x =
    accepts_all_marked ss (with_mark words s) (λ y i. simp length-set (h y (in_tail y s ss i))) x
    ∙ ap (λ (b : Bool). elem x ss || b) (accepts_marked words s (h s (in_head s ss)) x)
    ∙ sym (or_assoc (elem x ss) (eqb x s) (accepts words x)) ∙ ap (λ (b : Bool). b || accepts words x) (or_comm (elem x ss) (eqb x s))

-- eight words that mark a list's states and no other
pub accepts_marking : (ss : List ℕ) → ((s : ℕ) → In s ss → s < 512) → (x : ℕ) → x < 512 → accepts (marking ss) x ≡ elem x ss
unfolding marking accepts
accepts_marking ss h x b =
    accepts_all_marked ss (replicate 8 0) (λ s i. omega (arith, h s i)) x
    ∙ ap (λ (c : Bool). elem x ss || c) (ap (bit (x % 64)) (get_or-replicate 8 (x / 64) 0 0 (omega arith)) ∙ bit_of_zero (x % 64)) ∙ or-false (elem x ss)

-- and those are the states that they mark, in rising order
pub marked_marking : (xs : List ℕ) → Rising xs → ((s : ℕ) → In s xs → s < 512) → marked (marking xs) ≡ xs
unfolding marked
marked_marking xs r h = rising_same (marked (marking xs)) xs (rising_filter (accepts (marking xs)) (below 512) (rising_below 512)) r
    (λ x i. let f = filter_in (accepts (marking xs)) x (below 512) i in sym (accepts_marking xs h x (in_below x 512 f.0)) ∙ f.1)
    (λ x i. in_filter (accepts (marking xs)) x (below 512) (below_in x 512 (h x i)) (accepts_marking xs h x (h x i) ∙ i))

-- ---- s is unmarked

-- the other states stay as they were
pub accepts_unmarked_other : (words : List ℕ) (s x : ℕ) → x ≢ s → accepts (without_mark words s) x ≡ accepts words x
unfolding without_mark
accepts_unmarked_other words s x n =
    accepts_set_other words s (without_bit (s % 64) (get_or words (s / 64) 0))
    (λ b m. cleared_other b (s % 64) (get_or words (s / 64) 0) m) x n

-- s pays no more
pub accepts_unmarked : (words : List ℕ) (s : ℕ) → s / 64 < length words → accepts (without_mark words s) s ≡ false
unfolding without_mark
accepts_unmarked words s h = accepts_set words s (without_bit (s % 64) (get_or words (s / 64) 0)) h ∙ cleared (s % 64) (get_or words (s / 64) 0)

-- ---- the marks of one kind are changed

module _ (marks : List (List ℕ)) (kind : ℕ) (f : List ℕ → List ℕ) where
  -- the other kinds stay as they were
  pub carried_other_kind : (j x : ℕ) → j ≢ kind → carried_by (in_kind kind f marks) j x ≡ carried_by marks j x
  unfolding carried_by in_kind
  carried_other_kind j x n = ap (λ (words : List ℕ). accepts words x) (get_or-set_other marks kind j (f (get_or marks kind [])) [] n)

  -- of this kind, what is carried is what the changed words tell, where it has words
  pub carried_here : kind < length marks → (x : ℕ) → carried_by (in_kind kind f marks) kind x ≡ accepts (f (get_or marks kind [])) x
  unfolding carried_by in_kind
  carried_here h x = ap (λ (words : List ℕ). accepts words x) (get_or-set_same marks kind (f (get_or marks kind [])) [] h)

  -- where the change leaves the other states' marks, the other states carry what they carried
  pub carried_other : (s : ℕ) → ((words : List ℕ) (x : ℕ) → x ≢ s → accepts (f words) x ≡ accepts words x) → (j x : ℕ) → x ≢ s → carried_by (in_kind kind f marks) j x ≡ carried_by marks j x
  unfolding carried_by in_kind
  carried_other s keeps j x n = ⊎_elim
      (λ e. let z : j ≡ kind = same e in rw z (by_length (dec_lt kind (length marks))))
      (λ e. carried_other_kind j x (eqb-false j kind e)) (either (eqb j kind))
    where
      by_length : Dec (kind < length marks) → accepts (get_or (set marks kind (f (get_or marks kind []))) kind []) x ≡ accepts (get_or marks kind []) x
      by_length (yes h) = ap (λ (words : List ℕ). accepts words x) (get_or-set_same marks kind (f (get_or marks kind [])) [] h) ∙ keeps (get_or marks kind []) x n
      by_length (no h) = ap (λ (ms : List (List ℕ)). accepts (get_or ms kind []) x) (set_out marks kind (f (get_or marks kind [])) (omega arith))

-- ---- the marks of four kinds out of one list

kind_words : (ws : List ℕ) (kind : ℕ) → kind < 4 → get_or (by_kind ws) kind [] ≡ take 8 (drop (8 * kind) ws)
unfolding by_kind
kind_words ws zero h = refl
kind_words ws (suc zero) h = refl
kind_words ws (suc (suc zero)) h = refl
kind_words ws (suc (suc (suc zero))) h = refl
kind_words ws (suc (suc (suc (suc n)))) h = absurd (omega arith)

-- the mark of a state stands 512 bits further on for each kind before it
pub carried_flat : (ws : List ℕ) (kind s : ℕ) → kind < 4 → s < 512 → carried_by (by_kind ws) kind s ≡ accepts ws (512 * kind + s)
unfolding carried_by accepts
carried_flat ws kind s k h =
    let word : 8 * kind + s / 64 ≡ (512 * kind + s) / 64 = omega arith in
    let place : s % 64 ≡ (512 * kind + s) % 64 = omega arith in
    ap (λ (l : List ℕ). bit (s % 64) (get_or l (s / 64) 0)) (kind_words ws kind k)
    ∙ ap (bit (s % 64)) (get_or-take 8 (drop (8 * kind) ws) (s / 64) 0 (omega arith) ∙ get_or-drop (8 * kind) ws (s / 64) 0)
    ∙ (λ i. bit (place i) (get_or ws (word i) 0))
