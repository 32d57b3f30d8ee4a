-- Sets of states: how many are missing. Assumes nothing.
use mathlib.Core.Path.{◌≡◌, refl}
use mathlib.Core.Bool.{Bool, true, false}
use mathlib.Core.List.{List, [], ◌∷◌}
use Prim.Native.Nat.{ℕ, zero, suc, ◌+◌, ◌*◌, ◌≤◌, ◌<◌}
use native.Mathlib.Omega.{arith}
use lib.ListN.{get_or, set}
use Rattle.plain.proofs.Tests.{contra}
use Rattle.textbook.specs.Search.{missing}

-- ---- how many are missing

pub missing_insert : (bs : List Bool) (v : ℕ) → missing (set bs v true) ≤ missing bs
unfolding missing
missing_insert [] v = omega arith
missing_insert (true ∷ bs) zero = omega arith
missing_insert (false ∷ bs) zero = omega arith
missing_insert (true ∷ bs) (suc v) = omega (arith, missing_insert bs v)
missing_insert (false ∷ bs) (suc v) = omega (arith, missing_insert bs v)

-- one that was not in the set
missing_less : (bs : List Bool) (v : ℕ) → get_or bs v true ≡ false → suc (missing (set bs v true)) ≡ missing bs
unfolding missing
missing_less [] v e = absurd (contra refl e)
missing_less (true ∷ bs) zero e = absurd (contra refl e)
missing_less (false ∷ bs) zero e = omega arith
missing_less (true ∷ bs) (suc v) e = omega (arith, missing_less bs v e)
missing_less (false ∷ bs) (suc v) e = omega (arith, missing_less bs v e)

-- THE MEASURE: going through the edges has twice the states that are missing, and a visit one more than that once its state is in the set.
unfoldable pub left : List Bool → ℕ
left bs = 2 * missing bs

-- a state is visited that was not in the set: less is left than at the start of going through the edges
pub left_visit : {t : ℕ} (bs₀ bs : List Bool) (v : ℕ) → left bs₀ ≡ t → missing bs ≤ missing bs₀ → get_or bs v true ≡ false → left (set bs v true) + 1 < t
unfolding left
left_visit bs₀ bs v e h n = omega (arith, missing_less bs v n)

-- its edges are gone through
pub left_explore : {t : ℕ} (bs bs' : List Bool) (v : ℕ) → left (set bs v true) + 1 ≡ t → bs' ≡ set bs v true → left bs' < t
left_explore bs bs' v e f = rw f (omega arith)
