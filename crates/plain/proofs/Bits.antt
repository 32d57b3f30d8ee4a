-- A bit of a word, against and, or and the powers of 2. Assumes nothing.
use mathlib.Core.Path.{◌≡◌, refl, sym, ap, ◌∙◌}
use mathlib.Core.Logic.{◌≢◌, ⊎_elim}
use mathlib.Core.Bool.{Bool, true, false, ◌||◌, or_comm}
use Prim.Native.Nat.{ℕ, zero, suc, ◌+◌, ◌*◌, ◌-◌, ◌/◌, ◌%◌, ◌^◌, ◌≤◌, ◌<◌}
use native.Mathlib.Nat.{zero-lt-suc, le_of_suc-le-suc, not-suc-le-zero, one-mul, zero-div, div-one, mod-lt, mul-mod_left, mul-div_cancel, pow-suc, add-div_right}
use native.Mathlib.Numerals.{one-add}
use native.Mathlib.Omega.{arith}
use lib.Bits.{bit_and, bit_or, and_le_l, and_high, or_add_and, or_shr, or_mod}
use lib.Dec.{eqb, eqb-zero-suc, eqb-suc-zero, eqb-suc-suc}
use lib.Pow.{pow_pos, high_ones, shr-shr}
use borrow.Author.Tests.{eqb-true, ne_eqb}
use Rattle.plain.specs.Table.{bit, one, with_bit, without_bit}
use Rattle.plain.proofs.Tests.{either}

-- what holds of 0 and of 1 holds of the remainder by 2
pub by_digit : (P : ℕ → Type 0) → P 0 → P 1 → (n : ℕ) → P (n % 2)
by_digit P p q n = go (n % 2) (mod-lt n (zero-lt-suc 1))
  where
    go : (d : ℕ) → d < 2 → P d
    go zero h = p
    go (suc zero) h = q
    go (suc (suc d)) h = absurd (not-suc-le-zero (le_of_suc-le-suc (le_of_suc-le-suc h)))

-- the digit at b is 1 where bit b is set, else 0
pub digit : (b w : ℕ) → w / 2 ^ b % 2 ≡ one (bit b w)
unfolding bit
digit b w = by_digit (λ (d : ℕ). d ≡ one (eqb d 1)) refl refl (w / 2 ^ b)

-- 0 has no bit
pub bit_of_zero : (b : ℕ) → bit b 0 ≡ false
unfolding bit
bit_of_zero b = ap (λ (q : ℕ). eqb (q % 2) 1) (zero-div (2 ^ b))

-- a bit above the lowest is a bit of the half
pub bit_suc : (b w : ℕ) → bit (suc b) w ≡ bit b (w / 2)
unfolding bit
bit_suc b w = ap (λ (q : ℕ). eqb (q % 2) 1) (sym (shr-shr w 1 b ∙ ap (λ (k : ℕ). w / 2 ^ k) (one-add b)))

-- a power of 2 has one bit
pub bit_of_power : (a b : ℕ) → bit a (2 ^ b) ≡ eqb a b
unfolding bit
bit_of_power zero zero = refl
bit_of_power zero (suc b) =
    ap (λ (q : ℕ). eqb (q % 2) 1) (div-one (2 ^ suc b) ∙ pow-suc 2 b) ∙ ap (λ (d : ℕ). eqb d 1) (mul-mod_left (2 ^ b) 2) ∙ sym (eqb-zero-suc b)
bit_of_power (suc a) zero = bit_suc a 1 ∙ bit_of_zero a ∙ sym (eqb-suc-zero a)
bit_of_power (suc a) (suc b) =
    bit_suc a (2 ^ suc b) ∙ ap (bit a) (ap (λ (x : ℕ). x / 2) (pow-suc 2 b) ∙ mul-div_cancel (2 ^ b) (zero-lt-suc 1)) ∙ bit_of_power a b
    ∙ sym (eqb-suc-suc a b)

-- and with a power of 2 leaves that digit alone
pub and_power : (b w : ℕ) → bit_and w (2 ^ b) ≡ one (bit b w) * 2 ^ b
and_power b w = ap (bit_and w) (sym (high_ones 1 b ∙ one-mul (2 ^ b))) ∙ and_high w 1 b ∙ ap (λ (d : ℕ). d * 2 ^ b) (digit b w)

-- a bit that is set stays as it is, another is added
bit_stays : (b w : ℕ) → bit b w ≡ true → with_bit b w ≡ w
unfolding with_bit
bit_stays b w e = rw (e, with_bit)

bit_added : (b w : ℕ) → bit b w ≡ false → with_bit b w ≡ w + 2 ^ b
unfolding with_bit
bit_added b w e = rw (e, with_bit)

-- or with a power of 2 sets the bit
pub or_sets : (b w : ℕ) → bit_or w (2 ^ b) ≡ with_bit b w
or_sets b w =
    let h : bit_or w (2 ^ b) + one (bit b w) * 2 ^ b ≡ w + 2 ^ b = ap (λ (x : ℕ). bit_or w (2 ^ b) + x) (sym (and_power b w)) ∙ or_add_and w (2 ^ b) in
    ⊎_elim (λ e. omega (arith, rw e at h, bit_stays b w e)) (λ e. omega (arith, rw e at h, bit_added b w e)) (either (bit b w))

-- a bit of an or is set in one or the other
pub bit_of_or : (a x y : ℕ) → bit a (bit_or x y) ≡ (bit a x || bit a y)
unfolding bit
bit_of_or a x y =
    ap (λ (d : ℕ). eqb d 1) (ap (λ (q : ℕ). q % 2) (or_shr x y a) ∙ or_mod (x / 2 ^ a) (y / 2 ^ a) 1)
    ∙ by_digit (λ (d : ℕ). eqb (bit_or d (y / 2 ^ a % 2)) 1 ≡ (eqb d 1 || eqb (y / 2 ^ a % 2) 1)) refl
    (by_digit (λ (e : ℕ). eqb (bit_or 1 e) 1 ≡ (eqb 1 1 || eqb e 1)) refl refl (y / 2 ^ a)) (x / 2 ^ a)

-- the bits of a word after one is set
pub bit_of_with_bit : (a b w : ℕ) → bit a (with_bit b w) ≡ (eqb a b || bit a w)
bit_of_with_bit a b w =
    ap (bit a) (sym (or_sets b w)) ∙ bit_of_or a w (2 ^ b) ∙ ap (λ (t : Bool). bit a w || t) (bit_of_power a b) ∙ or_comm (bit a w) (eqb a b)

-- ---- a bit is cleared

-- a bit that is not set stays as it is, one that is set is taken away
bit_stays_clear : (b w : ℕ) → bit b w ≡ false → without_bit b w ≡ w
unfolding without_bit
bit_stays_clear b w e = rw (e, without_bit)

bit_taken : (b w : ℕ) → bit b w ≡ true → without_bit b w ≡ w - 2 ^ b
unfolding without_bit
bit_taken b w e = rw (e, without_bit)

-- the word less its own digit is the word with the bit cleared
pub less_clears : (b w : ℕ) → w - bit_and w (2 ^ b) ≡ without_bit b w
less_clears b w =
    let h = and_power b w in
    ⊎_elim (λ e. omega (arith, rw e at h, bit_taken b w e)) (λ e. omega (arith, rw e at h, bit_stays_clear b w e)) (either (bit b w))

-- where bit b is set, the word is that of the other bits, with bit b set
module _ (b w : ℕ) (e : bit b w ≡ true) where
  power_le : 2 ^ b ≤ w
  power_le = let h = and_power b w in omega (arith, and_le_l w (2 ^ b), rw e at h)

  rest_clear : bit b (w - 2 ^ b) ≡ false
  unfolding bit
  rest_clear =
      let q : w / 2 ^ b ≡ (w - 2 ^ b) / 2 ^ b + 1 = ap (λ (x : ℕ). x / 2 ^ b) (omega (arith, power_le)) ∙ add-div_right (w - 2 ^ b) (pow_pos b) in
      let odd : ((w - 2 ^ b) / 2 ^ b + 1) % 2 ≡ 1 = ap (λ (x : ℕ). x % 2) (sym q) ∙ eqb-true (w / 2 ^ b % 2) 1 e in
      ap (λ (d : ℕ). eqb d 1) (even ((w - 2 ^ b) / 2 ^ b) odd)
    where
      even : (n : ℕ) → (n + 1) % 2 ≡ 1 → n % 2 ≡ 0
      even n h = omega arith

  rest_set : with_bit b (w - 2 ^ b) ≡ w
  rest_set = bit_added b (w - 2 ^ b) rest_clear ∙ omega (arith, power_le)

-- the bit is clear
pub cleared : (b w : ℕ) → bit b (without_bit b w) ≡ false
cleared b w = ⊎_elim (λ e. ap (bit b) (bit_taken b w e) ∙ rest_clear b w e) (λ e. ap (bit b) (bit_stays_clear b w e) ∙ e) (either (bit b w))

-- the others are as they were
pub cleared_other : (a b w : ℕ) → a ≢ b → bit a (without_bit b w) ≡ bit a w
cleared_other a b w n = ⊎_elim
    (λ e. ap (bit a) (bit_taken b w e) ∙ sym (ap (bit a) (sym (rest_set b w e)) ∙ bit_of_with_bit a b (w - 2 ^ b) ∙ rw (ne_eqb a b n)))
    (λ e. ap (bit a) (bit_stays_clear b w e)) (either (bit b w))
