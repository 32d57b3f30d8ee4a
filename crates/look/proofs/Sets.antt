-- Sets of states: who is in them. Assumes nothing.
use Rattle.std.proofs.Common.{◌≡◌, ℕ, zero, suc, ◌<◌, Bool, true, false, eqb, List, [], ◌∷◌, length, get_or, set, replicate, refl, ◌∙◌, ⊎_elim, arith, get_or-set_other, get_or-set_same}
use Rattle.plain.specs.Lists.{elem}
use Rattle.plain.proofs.Tests.{contra, either, same, self}
use Rattle.look.specs.Sets.{Members}

-- within the set, it does not matter what counts past its end
pub get_or_within : (bs : List Bool) (i : ℕ) → i < length bs → get_or bs i false ≡ get_or bs i true
get_or_within [] i h = absurd (omega arith)
get_or_within (b ∷ bs) zero h = refl
get_or_within (b ∷ bs) (suc i) h = get_or_within bs i (omega arith)

pub members_insert : (bs bs' : List Bool) (xs : List ℕ) (v : ℕ) → length bs ≡ 512 → v < 512 → bs' ≡ set bs v true → Members bs xs → Members bs' (v ∷ xs)
unfolding elem
members_insert bs bs' xs v z b e h x l = rw e (⊎_elim
    (λ y. let w : x ≡ v = same y in rw (w, get_or-set_same bs v true true (omega arith), self v))
    (λ y. rw y (get_or-set_other bs v x true true (λ w. contra (rw w (self v)) y) ∙ h x l))
    (either (eqb x v)))

none_in : (n x : ℕ) → x < n → get_or (replicate n false) x true ≡ false
none_in zero x h = absurd (omega arith)
none_in (suc n) zero h = refl
none_in (suc n) (suc x) h = none_in n x (omega arith)

pub members_none : Members (replicate 512 false) []
unfolding elem
members_none x h = none_in 512 x h
