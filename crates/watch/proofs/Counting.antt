-- How much of a text counts. Assumes nothing.
use Prim.Native.Nat.{ℕ, zero, suc, ◌+◌, ◌≤◌, ◌<◌}
use mathlib.Core.Path.{◌≡◌, refl, sym, ◌∙◌}
use mathlib.Core.Bool.{true, false}
use mathlib.Core.List.{List, [], ◌∷◌}
use native.Mathlib.Omega.{arith}
use borrow.Author.Tests.{eq-eqb, ne_eqb, le-leb, lt-leb}
use lib.Dec.{eqb}
use lib.ListN.{length, take, get_or}
use lib.Seq.{take-length, take-take}
use Rattle.plain.specs.Lists.{any}
use Rattle.plain.proofs.Tests.{any_head, any_tail}
use Rattle.line.specs.Fields.{newline}
use Rattle.watch.specs.Text.{limit, whole_lines, counted}

pub counted_all_lem : (text : List ℕ) → length text ≤ limit → take (length text) text ≡ counted text
unfolding counted
counted_all_lem text h = rw (le-leb (length text) limit h) (take-length text)

pub counted_above : (text : List ℕ) (n : ℕ) → limit < length text → n ≤ limit → take n (take limit text) ≡ whole_lines (take limit text) → take n text ≡ counted text
unfolding counted
counted_above text n h most e = rw (lt-leb (length text) limit h) (sym (take-take n limit text most) ∙ e)

-- ---- whole lines, up to and with the last newline

any_none : (xs : List ℕ) → ((k : ℕ) → k < length xs → get_or xs k 0 ≡ 10 → ⊥) → any (eqb newline) xs ≡ false
unfolding any newline
any_none [] n = refl
any_none (x ∷ xs) n = rw (ne_eqb 10 x (λ e. n 0 (omega arith) (sym e))) (any_none xs (λ k h. n (suc k) (omega arith)))

any_at : (xs : List ℕ) (i : ℕ) → i < length xs → get_or xs i 0 ≡ 10 → any (eqb newline) xs ≡ true
unfolding newline
any_at [] i h e = absurd (omega arith)
any_at (x ∷ xs) zero h e = any_head (eqb 10) x xs (eq-eqb 10 x (sym e))
any_at (x ∷ xs) (suc i) h e = any_tail (eqb 10) x xs (any_at xs i (omega arith) e)

-- no newline: no whole line
pub whole_none : (xs : List ℕ) → ((k : ℕ) → k < length xs → get_or xs k 0 ≡ 10 → ⊥) → whole_lines xs ≡ []
unfolding whole_lines
whole_none [] n = refl
whole_none (x ∷ xs) n = rw (any_none (x ∷ xs) n)

-- behind the last newline there is none
whole_before : (xs : List ℕ) (i : ℕ) → i < length xs → get_or xs i 0 ≡ 10 → ((k : ℕ) → i < k → k < length xs → get_or xs k 0 ≡ 10 → ⊥) → whole_lines xs ≡ take (suc i) xs
unfolding whole_lines
whole_before [] i h e n = absurd (omega arith)
whole_before (x ∷ xs) zero h e n = rw (any_at (x ∷ xs) zero h e, whole_none xs (λ k l. n (suc k) (omega arith) (omega arith)))
whole_before (x ∷ xs) (suc i) h e n = rw (any_at (x ∷ xs) (suc i) h e, whole_before xs i (omega arith) e (λ k g l. n (suc k) (omega arith) (omega arith)))

pub whole_at : (xs : List ℕ) (i : ℕ) → i < length xs → get_or xs i 0 ≡ 10 → ((k : ℕ) → i + 1 ≤ k → k < length xs → get_or xs k 0 ≡ 10 → ⊥) → take (i + 1) xs ≡ whole_lines xs
whole_at xs i h e n =
    let next : i + 1 ≡ suc i = omega arith in
    rw next (sym (whole_before xs i h e (λ k g. n k (omega arith))))
