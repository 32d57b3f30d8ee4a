-- Numbers of 16 bits that do not come to their end, entries without a number, and what is left of a row. Assumes nothing.
use Rattle.std.proofs.Common.{◌≡◌, ℕ, zero, suc, ◌+◌, ◌%◌, ◌<◌, ◌≤◌, Bool, true, false, cond, eqb, ltb, ◌⊎◌, List, [], ◌∷◌, length, get_or, drop, set, refl, ◌∙◌, inl, inr, ⊎_elim, add-one, arith, drop_of_length-le, drop-cons, ltb-false, ltb-true, le-ltb, lt-ltb, eq-eqb, ne_eqb, eqb-true}
use borrow.Author.Tests.{eqb-false}
use Rattle.plain.proofs.Tests.{either}
use Rattle.look.specs.Numbers.{no_number, blanks, up, plus, further, raised}

pub up_is : (x : ℕ) → up x ≡ (x + 1) % 65536
unfolding up
up_is x = refl

pub plus_is : (a b : ℕ) → plus a b ≡ (a + b) % 65536
unfolding plus
plus_is a b = refl

pub up_more : (x : ℕ) → x < 65535 → up x ≡ suc x
unfolding up
up_more x h = omega arith

pub up_most : (x : ℕ) → up x ≤ suc x
unfolding up
up_most x = omega arith

pub plus_more : (a b : ℕ) → a + b ≤ 65535 → plus a b ≡ a + b
unfolding plus
plus_more a b h = omega arith

pub further_more : (x : ℕ) → x < 65535 → further x ≡ suc x
unfolding further
further_more x h = rw (lt-ltb x 65535 h) (add-one x)

further_end : (x : ℕ) → 65535 ≤ x → further x ≡ x
unfolding further
further_end x h = rw (le-ltb x 65535 h)

pub further_above : (x : ℕ) → x ≤ further x
further_above x = ⊎_elim
    (λ t. omega (arith, further_more x (ltb-true x 65535 t)))
    (λ t. omega (arith, further_end x (ltb-false x 65535 t))) (either (ltb x 65535))

pub further_most : (x : ℕ) → further x ≤ suc x
further_most x = ⊎_elim
    (λ t. omega (arith, further_more x (ltb-true x 65535 t)))
    (λ t. omega (arith, further_end x (ltb-false x 65535 t))) (either (ltb x 65535))

-- the last of n raises
pub raised_up : (n x : ℕ) → raised n (up x) ≡ up (raised n x)
unfolding raised
raised_up zero x = refl
raised_up (suc n) x = raised_up n (up x)

pub raised_none : (x : ℕ) → raised 0 x ≡ x
unfolding raised
raised_none x = refl

pub raised_next : (n x : ℕ) → raised (suc n) x ≡ up (raised n x)
unfolding raised
raised_next n x = raised_up n x

-- ---- entries without a number

either_number : (x : ℕ) → (x ≡ no_number) ⊎ (x ≡ no_number → ⊥)
either_number x = ⊎_elim (λ e. inl (eqb-true x no_number e)) (λ e. inr (eqb-false x no_number e)) (either (eqb x no_number))

blank_head : (x : ℕ) (xs : List ℕ) → x ≡ no_number → blanks (x ∷ xs) ≡ suc (blanks xs)
unfolding blanks
blank_head x xs e = rw (eq-eqb x no_number e, blanks)

no_blank_head : (x : ℕ) (xs : List ℕ) → (x ≡ no_number → ⊥) → blanks (x ∷ xs) ≡ blanks xs
unfolding blanks
no_blank_head x xs e = rw (ne_eqb x no_number e, blanks)

pub blanks_most : (xs : List ℕ) → blanks xs ≤ length xs
unfolding blanks
blanks_most [] = omega arith
blanks_most (x ∷ xs) = by_test (eqb x no_number) (blanks_most xs)
  where
    by_test : (b : Bool) → blanks xs ≤ length xs → cond b (suc (blanks xs)) (blanks xs) ≤ suc (length xs)
    by_test true h = omega arith
    by_test false h = omega arith

-- such an entry is one fewer once it has a number
pub blank_filled : (xs : List ℕ) (t y : ℕ) → get_or xs t 0 ≡ no_number → (y ≡ no_number → ⊥) → suc (blanks (set xs t y)) ≡ blanks xs
blank_filled [] t y e n = absurd (omega arith)
blank_filled (x ∷ xs) zero y e n = omega (arith, blank_head x xs e, no_blank_head y xs n)
blank_filled (x ∷ xs) (suc t) y e n = ⊎_elim
    (λ h. omega (arith, blank_head x xs h, blank_head x (set xs t y) h, blank_filled xs t y e n))
    (λ h. omega (arith, no_blank_head x xs h, no_blank_head x (set xs t y) h, blank_filled xs t y e n))
    (either_number x)

-- and no entry loses its number by getting another
pub blanks_set : (xs : List ℕ) (t y : ℕ) → (y ≡ no_number → ⊥) → blanks (set xs t y) ≤ blanks xs
blanks_set [] t y n = omega arith
blanks_set (x ∷ xs) zero y n = ⊎_elim
    (λ h. omega (arith, blank_head x xs h, no_blank_head y xs n))
    (λ h. omega (arith, no_blank_head x xs h, no_blank_head y xs n)) (either_number x)
blanks_set (x ∷ xs) (suc t) y n = ⊎_elim
    (λ h. omega (arith, blank_head x xs h, blank_head x (set xs t y) h, blanks_set xs t y n))
    (λ h. omega (arith, no_blank_head x xs h, no_blank_head x (set xs t y) h, blanks_set xs t y n)) (either_number x)

-- ---- what is left of a row

pub no_edge : (row : List ℕ) (k : ℕ) → [] ≡ drop k row → length row ≤ k
no_edge row k e = ⊎_elim
    (λ h. let z = e ∙ drop-cons row k 0 (ltb-true k (length row) h) in absurd (let y : ◌≡◌ {A = ℕ} 0 1 = cc in omega arith))
    (λ h. ltb-false k (length row) h) (either (ltb k (length row)))

pub record EdgeLeft (row : List ℕ) (k t : ℕ) (ts : List ℕ) : Type 0 where
  pub there : k < length row
  pub target : get_or row k 0 ≡ t
  pub rest : ts ≡ drop (suc k) row

pub edge_left : (row : List ℕ) (k t : ℕ) (ts : List ℕ) → t ∷ ts ≡ drop k row → EdgeLeft row k t ts
edge_left row k t ts e = ⊎_elim
    (λ h. let z = e ∙ drop-cons row k 0 (ltb-true k (length row) h) in record { there = ltb-true k (length row) h; target = cc; rest = cc })
    (λ h. absurd (none_left (ltb-false k (length row) h))) (either (ltb k (length row)))
  where
    none_left : length row ≤ k → ⊥
    none_left h = let z : t ∷ ts ≡ [] = e ∙ drop_of_length-le row h in let y : ◌≡◌ {A = ℕ} 0 1 = cc in omega arith
