-- A walk written into a list: the first entries of one list in place of those of another. Assumes nothing.
use mathlib.Core.Path.{◌≡◌, refl, ap}
use mathlib.Core.List.{List, [], ◌∷◌, ◌++◌, append_assoc, append-nil}
use Prim.Native.Nat.{ℕ, zero, suc, ◌+◌, ◌-◌, ◌≤◌, ◌<◌, min}
use native.Mathlib.Omega.{arith}
use lib.ListN.{length, get_or, set, take, drop}
use lib.Seq.{take_at, drop_at, drop-drop, take-add, length-take-le}
use borrow.Rule.Slice.PartMut.{mid_of, put_mid}
use Rattle.std.proofs.lemmas.Grind.{common_steps}
use Rattle.std.proofs.lemmas.List.{take-map, take_all}
use Rattle.plain.specs.Layers.{state_of}
use Rattle.verdict.specs.Answers.{shown_walk, lowered}

-- the first n entries of xs, the rest as it was
abbrev pub over : ℕ → List ℕ → List ℕ → List ℕ
over n xs ys = take n xs ++ drop n ys

-- one entry more
pub written_one : (part old : List ℕ) (i : ℕ) → i < length part → i < length old → set (over i part old) i (get_or part i 0) ≡ over (suc i) part old
written_one [] old i h k = absurd (omega (arith, h))
written_one (x ∷ part) [] i h k = absurd (omega (arith, k))
written_one (x ∷ part) (y ∷ old) zero h k = refl
written_one (x ∷ part) (y ∷ old) (suc i) h k = ap (λ (l : List ℕ). x ∷ l) (written_one part old i (omega (arith, h)) (omega (arith, k)))

-- all of a part that the walk has and the list has room for
pub written_part : (walk old : List ℕ) (from count start whole i : ℕ) → length walk ≡ 512 → from + count ≤ 512 → count ≤ length old → start ≡ min from 512
    → whole ≡ min (min count (length (mid_of start (512 - start) walk))) (length old) → i ≤ whole → whole ≤ i
    → over i (mid_of start (512 - start) walk) old ≡ take count (drop from walk) ++ drop count old
written_part walk old from count start whole i size fits room s w low high =
    let same : start ≡ from = omega (arith, s) in
    let part : mid_of from (512 - from) walk ≡ drop from walk = grind (arith, common_steps, take_all) in
    let entries : length (mid_of start (512 - start) walk) ≡ 512 - from = rw (same, part) (grind (arith, common_steps)) in
    let all : i ≡ count = omega (arith, w, entries) in
    rw (same, part, all) refl

-- the stem, and then the rest of the walk into the part of the list behind the stem: the whole walk
pub written_both : (walk lent first second : List ℕ) (stem len : ℕ) → length walk ≡ 512 → stem ≤ len → len ≤ 512 → len ≤ length lent
    → first ≡ over stem walk lent → second ≡ over (len - stem) (drop stem walk) (take (length first - stem) (drop stem first))
    → put_mid stem (length first - stem) first second ≡ shown_walk len walk lent
unfolding shown_walk
written_both walk lent first second stem len size low fits room f s =
    let head : take stem first ≡ take stem walk = grind (arith, take_at, length-take-le) in
    let behind : drop stem first ≡ drop stem lent = grind (arith, drop_at, length-take-le) in
    let whole : take (length first - stem) (drop stem first) ≡ drop stem lent = grind (arith, common_steps, take_all) in
    let none : drop (length first - stem) (drop stem first) ≡ [] = grind (arith, common_steps) in
    let tail : second ≡ take (len - stem) (drop stem walk) ++ drop len lent = grind (arith, drop-drop) in
    let sum : stem + (len - stem) ≡ len = omega arith in
    let both : take len walk ≡ take stem walk ++ take (len - stem) (drop stem walk) = rw sum at (take-add stem (len - stem) walk) in
    rw (head, none, append-nil, tail, both, append_assoc)

-- ---- in plain states

-- a game of one kind has one layer
pub lowered_one : (size above : ℕ) (walk : List ℕ) → above ≤ 0 → lowered size above walk ≡ walk
unfolding lowered state_of
lowered_one size above [] h = refl
lowered_one size zero (x ∷ walk) h = ap (λ (l : List ℕ). x ∷ l) (lowered_one size 0 walk h)
lowered_one size (suc above) (x ∷ walk) h = absurd (omega arith)

-- a walk that was written and then lowered is the lowered walk, written
pub lowered_written : (size above len : ℕ) (walk lent : List ℕ) → len ≤ length walk → shown_walk len (lowered size above (shown_walk len walk lent)) (shown_walk len walk lent) ≡ shown_walk len (lowered size above walk) lent
unfolding shown_walk lowered
lowered_written size above len walk lent h = grind (arith, common_steps, take-map, take_at, drop_at, length-take-le)
