-- Counts of the numbers that pass a test, and of the ones of words. Assumes nothing.
use mathlib.Core.Path.{◌≡◌, refl, sym, ap, ap₂, ◌∙◌}
use mathlib.Core.Bool.{Bool, true, false, ◌||◌}
use mathlib.Core.List.{List}
use Prim.Native.Nat.{ℕ, zero, suc, ◌+◌, ◌*◌, ◌/◌, ◌%◌, ◌^◌, ◌≤◌, ◌<◌, zero-le}
use native.Mathlib.Nat.{le_refl, le_trans, le-suc, add-zero, zero-add, add-suc, add_assoc, add_comm, suc-mul, mod-one, mod-lt, mod-eq_of_lt}
use native.Mathlib.Numerals.{one-add}
use native.Mathlib.Omega.{arith}
use lib.Count.{ones, ones_in, ones_cat}
use lib.Arith.{digits_div, digits_mod}
use lib.Bits.{bit_or}
use lib.ListN.{get_or, take, drop}
use lib.Seq.{get_or-take, get_or-drop}
use lib.Pow.{pow_pos, mod-pow-add}
use Rattle.plain.specs.Lists.{any}
use Rattle.plain.specs.Table.{accepts, by_kind, bit, count_below, one}
use Rattle.plain.proofs.Bits.{by_digit, digit, bit_of_or}

-- a count below n is at most n
pub count_le : (n : ℕ) (p : ℕ → Bool) → count_below n p ≤ n
unfolding count_below
count_le zero p = zero-le
count_le (suc n) p = go (p n) (count_le n p)
  where
    go : (t : Bool) → count_below n p ≤ n → one t + count_below n p ≤ suc n
    go true h = omega arith
    go false h = omega arith

-- tests that agree below n count the same
pub count_same : (n : ℕ) (p q : ℕ → Bool) → ((b : ℕ) → b < n → p b ≡ q b) → count_below n p ≡ count_below n q
unfolding count_below
count_same zero p q h = refl
count_same (suc n) p q h =
    ap₂ (λ (t : Bool) (k : ℕ). one t + k) (h n (le_refl (suc n))) (count_same n p q (λ b l. h b (le_trans l (le-suc n))))

-- a count below m + n: the first m, and the n from m on
pub count_add : (m n : ℕ) (p : ℕ → Bool) → count_below (m + n) p ≡ count_below n (λ b. p (m + b)) + count_below m p
unfolding count_below
count_add m zero p = ap (λ (k : ℕ). count_below k p) (add-zero m) ∙ sym (zero-add (count_below m p))
count_add m (suc n) p =
    ap (λ (k : ℕ). count_below k p) (add-suc m n) ∙ ap (λ (k : ℕ). one (p (m + n)) + k) (count_add m n p)
    ∙ sym (add_assoc (one (p (m + n))) (count_below n (λ b. p (m + b))) (count_below m p))

-- the ones among the k lowest digits of w are its set bits below k
ones_low : (k w : ℕ) → ones (w % 2 ^ k) ≡ count_below k (λ b. bit b w)
unfolding count_below ones ones_in
ones_low zero w = ap ones (mod-one w)
ones_low (suc k) w =
    ap (λ (j : ℕ). ones (w % 2 ^ j)) (sym (one-add k)) ∙ ap ones (mod-pow-add w 1 k)
    ∙ ones_cat k (w / 2 ^ k % 2) (w % 2 ^ k) (mod-lt w (pow_pos k))
    ∙ ap₂ (λ (x y : ℕ). x + y) (by_digit (λ (d : ℕ). ones d ≡ d) refl refl (w / 2 ^ k) ∙ digit k w) (ones_low k w)

-- the ones of a word below 2 ^ k are its set bits below k
pub ones_of_word : (k w : ℕ) → w < 2 ^ k → ones w ≡ count_below k (λ b. bit b w)
ones_of_word k w h = ap ones (sym (mod-eq_of_lt h)) ∙ ones_low k w

-- the ones of the first n words, added
unfoldable pub total : (ℕ → ℕ) → ℕ → ℕ
total word zero = 0
total word (suc n) = total word n + ones (word n)

-- words of 64 bits, as many as are counted
module _ (word : ℕ → ℕ) (most : ℕ) (fit : (i : ℕ) → i < most → word i < 2 ^ 64) where
  -- is the bit of s set?
  abbrev set_at : ℕ → Bool
  set_at s = bit (s % 64) (word (s / 64))

  -- the ones of the first n words are the bits set below 64 n
  pub total_counts : (n : ℕ) → n ≤ most → total word n ≡ count_below (n * 64) set_at
  unfolding total
  total_counts zero h = omega (arith, count_le 0 set_at)
  total_counts (suc n) h =
      ap₂ (λ (x y : ℕ). x + y) (total_counts n (omega arith))
      (ones_of_word 64 (word n) (fit n (omega arith))
      ∙ sym (count_same 64 (λ b. set_at (n * 64 + b)) (λ b. bit b (word n)) (λ b l. ap₂ (λ (c k : ℕ). bit c (word k)) (digits_mod n l) (digits_div n l))))
      ∙ add_comm (count_below (n * 64) set_at) (count_below 64 (λ b. set_at (n * 64 + b)))
      ∙ sym (ap (λ (k : ℕ). count_below k set_at) (suc-mul n 64) ∙ count_add (n * 64) 64 set_at)

  -- the ones of the first n words are at most 64 n
  pub total_le : (n : ℕ) → n ≤ most → total word n ≤ n * 64
  total_le n h = omega (arith, total_counts n h, count_le (n * 64) set_at)

-- ---- the marks of four kinds

-- word i of the states that carry any of four kinds, eight words for each
unfoldable pub joined_at : List ℕ → ℕ → ℕ
joined_at ws i = bit_or (bit_or (bit_or (get_or ws i 0) (get_or ws (i + 8) 0)) (get_or ws (i + 16) 0)) (get_or ws (i + 24) 0)

or_four : (a b c d : Bool) → (((a || b) || c) || d) ≡ (a || (b || (c || (d || false))))
or_four true b c d = refl
or_four false true c d = refl
or_four false false true d = refl
or_four false false false true = refl
or_four false false false false = refl

-- a state that carries any kind has its bit in the joined words
pub joined_any : (ws : List ℕ) (s : ℕ) → s < 512 → bit (s % 64) (joined_at ws (s / 64)) ≡ any (λ words. accepts words s) (by_kind ws)
unfolding joined_at accepts by_kind any
joined_any ws s h = simp (bit_of_or, or_four, first, of_kind)
  where
    first : get_or (take 8 ws) (s / 64) 0 ≡ get_or ws (s / 64) 0
    first = get_or-take 8 ws (s / 64) 0 (omega arith)

    of_kind : (k : ℕ) → get_or (take 8 (drop k ws)) (s / 64) 0 ≡ get_or ws (s / 64 + k) 0
    of_kind k =
        let within : s / 64 < 8 = omega arith in
        rw (get_or-take, get_or-drop) (ap (λ (i : ℕ). get_or ws i 0) (add_comm k (s / 64)))
