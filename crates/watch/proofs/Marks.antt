-- A mark that is set among 32 words, eight for each of four kinds, is one of its kind. Assumes nothing.
use Prim.Native.Nat.{ℕ, zero, suc, ◌+◌, ◌*◌, ◌-◌, ◌/◌, ◌%◌, ◌≤◌, ◌<◌}
use mathlib.Core.Path.{◌≡◌, sym, ap, ◌∙◌}
use mathlib.Core.List.{List, [], ◌∷◌}
use native.Mathlib.Omega.{arith}
use lib.ListN.{get_or, set, take, drop}
use lib.Seq.{take-set-le, take-set-lt, drop-set-lt, drop-set-add, get_or-take, get_or-drop}
use Rattle.plain.specs.Table.{with_bit, with_mark, by_kind}
use Rattle.plain.specs.Machine.{in_kind}

module _ (ms : List ℕ) where
  -- eight words from the n-th on, where a word is set before them, or behind them
  set_before : (n x v : ℕ) → x < n → take 8 (drop n (set ms x v)) ≡ take 8 (drop n ms)
  set_before n x v h = ap (take 8) (drop-set-lt n ms x v h)

  set_behind : (n x v : ℕ) → n + 8 ≤ x → take 8 (drop n (set ms x v)) ≡ take 8 (drop n ms)
  set_behind n x v h =
      let there : x ≡ n + (x - n) = omega arith in
      ap (λ (y : ℕ). take 8 (drop n (set ms y v))) there ∙ ap (take 8) (drop-set-add n ms (x - n) v) ∙ take-set-le 8 (drop n ms) (x - n) v (omega arith)

  module _ (s : ℕ) (low : s < 512) where
    -- the words with the mark of s set among those from the n-th on
    abbrev marked : ℕ → List ℕ
    marked n = set ms (n + s / 64) (with_bit (s % 64) (get_or ms (n + s / 64) 0))

    marked_is : (n : ℕ) → with_mark ms (64 * n + s) ≡ marked n
    unfolding with_mark
    marked_is n =
        let word : (64 * n + s) / 64 ≡ n + s / 64 = omega arith in
        let bit : (64 * n + s) % 64 ≡ s % 64 = omega arith in
        λ i. set ms (word i) (with_bit (bit i) (get_or ms (word i) 0))

    -- it is the mark of s there
    marked_here : (n : ℕ) → take 8 (drop n (marked n)) ≡ with_mark (take 8 (drop n ms)) s
    unfolding with_mark
    marked_here n =
        let i = s / 64 in
        let few : i < 8 = omega arith in
        let word : get_or ms (n + i) 0 ≡ get_or (take 8 (drop n ms)) i 0 = sym (get_or-drop n ms i 0) ∙ sym (get_or-take 8 (drop n ms) i 0 few) in
        ap (take 8) (drop-set-add n ms i (with_bit (s % 64) (get_or ms (n + i) 0))) ∙ take-set-lt 8 (drop n ms) i (with_bit (s % 64) (get_or ms (n + i) 0)) few
        ∙ ap (λ (w : ℕ). set (take 8 (drop n ms)) i (with_bit (s % 64) w)) word

    -- the word that is set stands behind the first n, and before the eight that follow
    other_before : (n m : ℕ) → n + 8 ≤ m → take 8 (drop m (marked n)) ≡ take 8 (drop m ms)
    other_before n m h = set_before m (n + s / 64) (with_bit (s % 64) (get_or ms (n + s / 64) 0)) (omega arith)

    other_behind : (n m : ℕ) → m + 8 ≤ n → take 8 (drop m (marked n)) ≡ take 8 (drop m ms)
    other_behind n m h = set_behind m (n + s / 64) (with_bit (s % 64) (get_or ms (n + s / 64) 0)) (omega arith)

    pub kind_marked : (kind : ℕ) → kind < 4 → by_kind (with_mark ms (512 * kind + s)) ≡ in_kind kind (λ words. with_mark words s) (by_kind ms)
    unfolding by_kind in_kind
    kind_marked zero h = ap by_kind (marked_is 0) ∙ λ i. marked_here 0 i ∷ other_before 0 8 (omega arith) i ∷ other_before 0 16 (omega arith) i ∷ other_before 0 24 (omega arith) i ∷ []
    kind_marked (suc zero) h = ap by_kind (marked_is 8) ∙ λ i. other_behind 8 0 (omega arith) i ∷ marked_here 8 i ∷ other_before 8 16 (omega arith) i ∷ other_before 8 24 (omega arith) i ∷ []
    kind_marked (suc (suc zero)) h = ap by_kind (marked_is 16) ∙ λ i. other_behind 16 0 (omega arith) i ∷ other_behind 16 8 (omega arith) i ∷ marked_here 16 i ∷ other_before 16 24 (omega arith) i ∷ []
    kind_marked (suc (suc (suc zero))) h = ap by_kind (marked_is 24) ∙ λ i. other_behind 24 0 (omega arith) i ∷ other_behind 24 8 (omega arith) i ∷ other_behind 24 16 (omega arith) i ∷ marked_here 24 i ∷ []
    kind_marked (suc (suc (suc (suc kind)))) h = absurd (omega arith)
