-- The numbers of the layers: copies, and the states and layers that they tell. Assumes nothing.
use mathlib.Core.Path.{◌≡◌, refl, sym, ap, ◌∙◌}
use mathlib.Core.Logic.{◌≢◌, ⊎_elim}
use mathlib.Core.Bool.{Bool, true, false}
use mathlib.Core.List.{List, [], ◌∷◌, ◌++◌, append_assoc}
use Prim.Native.Nat.{ℕ, zero, suc, ◌+◌, ◌-◌, ◌≤◌, ◌<◌}
use native.Mathlib.Omega.{arith}
use native.Mathlib.Nat.{zero-mul, suc-mul}
use lib.Dec.{eqb, ltb}
use borrow.Author.Tests.{lt-ltb, le-ltb, ltb-false, eqb-false, eq-eqb}
use Rattle.plain.specs.Lists.{elem, In}
use Rattle.plain.specs.Layers.{copy, state_of, layer_of, copies, copies_of, next, landing}
use Rattle.plain.proofs.Tests.{either, same, in_nil, in_one, in_head, in_tail, in_cases, in_append, in_left, in_right}

pub copy_first : (n s : ℕ) → copy n 0 s ≡ s
unfolding copy
copy_first n s = omega (arith, zero-mul n)

pub copy_up : (n l s : ℕ) → copy n (suc l) s ≡ n + copy n l s
unfolding copy
copy_up n l s = omega (arith, suc-mul l n)

-- ---- the state and the layer of a number

-- with one layer every state is its own copy
pub state_one : (n v : ℕ) → state_of n 0 v ≡ v
unfolding state_of
state_one n v = refl

pub layer_one : (n v : ℕ) → layer_of n 0 v ≡ 0
unfolding layer_of
layer_one n v = refl

pub state_below : (n m v : ℕ) → ltb v n ≡ true → state_of n (suc m) v ≡ v
unfolding state_of
state_below n m v e = rw (e, state_of)

pub state_beyond : (n m v : ℕ) → ltb v n ≡ false → state_of n (suc m) v ≡ state_of n m (v - n)
unfolding state_of
state_beyond n m v e = rw (e, state_of)

pub layer_below : (n m v : ℕ) → ltb v n ≡ true → layer_of n (suc m) v ≡ 0
unfolding layer_of
layer_below n m v e = rw (e, layer_of)

pub layer_beyond : (n m v : ℕ) → ltb v n ≡ false → layer_of n (suc m) v ≡ suc (layer_of n m (v - n))
unfolding layer_of
layer_beyond n m v e = rw (e, layer_of)

copy_down : (n l s : ℕ) → copy n (suc l) s - n ≡ copy n l s
copy_down n l s = omega (arith, copy_up n l s)

beyond_first : (n l s : ℕ) → ltb (copy n (suc l) s) n ≡ false
beyond_first n l s = le-ltb (copy n (suc l) s) n (omega (arith, copy_up n l s))

-- a copy tells its state and its layer
pub state_copy : (n m l s : ℕ) → l ≤ m → s < n → state_of n m (copy n l s) ≡ s
state_copy n zero zero s h b = state_one n (copy n 0 s) ∙ copy_first n s
state_copy n zero (suc l) s h b = absurd (omega arith)
state_copy n (suc m) zero s h b = ap (state_of n (suc m)) (copy_first n s) ∙ state_below n m s (lt-ltb s n b)
state_copy n (suc m) (suc l) s h b = state_beyond n m (copy n (suc l) s) (beyond_first n l s) ∙ ap (state_of n m) (copy_down n l s) ∙ state_copy n m l s (omega arith) b

pub layer_copy : (n m l s : ℕ) → l ≤ m → s < n → layer_of n m (copy n l s) ≡ l
layer_copy n zero zero s h b = layer_one n (copy n 0 s)
layer_copy n zero (suc l) s h b = absurd (omega arith)
layer_copy n (suc m) zero s h b = ap (layer_of n (suc m)) (copy_first n s) ∙ layer_below n m s (lt-ltb s n b)
layer_copy n (suc m) (suc l) s h b =
    layer_beyond n m (copy n (suc l) s) (beyond_first n l s) ∙ ap (λ v. suc (layer_of n m v)) (copy_down n l s) ∙ ap suc (layer_copy n m l s (omega arith) b)

-- every number is a copy: of its state, in its layer
pub copy_back : (n m v : ℕ) → copy n (layer_of n m v) (state_of n m v) ≡ v
copy_back n zero v = ap (λ l. copy n l (state_of n 0 v)) (layer_one n v) ∙ ap (copy n 0) (state_one n v) ∙ copy_first n v
copy_back n (suc m) v = ⊎_elim
    (λ e. ap (λ l. copy n l (state_of n (suc m) v)) (layer_below n m v e) ∙ ap (copy n 0) (state_below n m v e) ∙ copy_first n v)
    (λ e. let h : n ≤ v = ltb-false v n e in
    ap (λ l. copy n l (state_of n (suc m) v)) (layer_beyond n m v e) ∙ ap (copy n (suc (layer_of n m (v - n)))) (state_beyond n m v e)
    ∙ copy_up n (layer_of n m (v - n)) (state_of n m (v - n)) ∙ omega (arith, copy_back n m (v - n))) (either (ltb v n))

pub layer_most : (n m v : ℕ) → layer_of n m v ≤ m
layer_most n zero v = omega (arith, layer_one n v)
layer_most n (suc m) v = ⊎_elim (λ e. omega (arith, layer_below n m v e)) (λ e. omega (arith, layer_beyond n m v e, layer_most n m (v - n))) (either (ltb v n))

-- ---- the copies of some states

pub copy_among : (n m l s : ℕ) → l ≤ m → In (copy n l s) (copies n m s)
unfolding copies
copy_among n zero l s h = let z : l ≡ 0 = omega arith in rw z (in_head (copy n 0 s) [])
copy_among n (suc m) l s h = ⊎_elim
    (λ e. let z : l ≡ suc m = same e in rw z (in_head (copy n (suc m) s) (copies n m s)))
    (λ e. let z : l ≢ suc m = eqb-false l (suc m) e in in_tail (copy n l s) (copy n (suc m) s) (copies n m s) (copy_among n m l s (omega arith))) (either (eqb l (suc m)))

-- and no other number is among the copies of a state below n
pub among_copies : (n m s v : ℕ) → In v (copies n m s) → (l : ℕ) × (l ≤ m) × (v ≡ copy n l s)
unfolding copies
among_copies n zero s v i = (0, omega arith, in_one v (copy n 0 s) i)
among_copies n (suc m) s v i = ⊎_elim
    (λ e. (suc m, omega arith, e))
    (λ j. let r = among_copies n m s v j in (r.0, omega (arith, r.1), r.2)) (in_cases v (copy n (suc m) s) (copies n m s) i)

pub copies_among : (n m : ℕ) (named : List ℕ) (s v : ℕ) → In s named → In v (copies n m s) → In v (copies_of n m named)
unfolding copies_of
copies_among n m [] s v i j = absurd (in_nil s i)
copies_among n m (x ∷ named) s v i j = ⊎_elim
    (λ e. in_left v (copies n m x) (copies_of n m named) (rw e at j))
    (λ k. in_right v (copies n m x) (copies_of n m named) (copies_among n m named s v k j)) (in_cases s x named i)

-- each of them is a copy of one of the states
pub among_all : (n m : ℕ) (named : List ℕ) (v : ℕ) → In v (copies_of n m named) → (s : ℕ) × In s named × In v (copies n m s)
unfolding copies_of
among_all n m [] v i = absurd (in_nil v i)
among_all n m (x ∷ named) v i = ⊎_elim
    (λ j. (x, in_head x named, j))
    (λ j. let r = among_all n m named v j in (r.0, in_tail r.0 x named r.1, r.2)) (in_append v (copies n m x) (copies_of n m named) i)

pub copies_join : (n m : ℕ) (xs ys : List ℕ) → copies_of n m (xs ++ ys) ≡ copies_of n m xs ++ copies_of n m ys
unfolding copies_of
copies_join n m [] ys = refl
copies_join n m (x ∷ xs) ys = ap (λ zs. copies n m x ++ zs) (copies_join n m xs ys) ∙ sym (append_assoc (copies n m x) (copies_of n m xs) (copies_of n m ys))

-- a number is a copy of its state
pub own_copy : (n m v : ℕ) → In v (copies n m (state_of n m v))
own_copy n m v = ap (λ (x : ℕ). elem x (copies n m (state_of n m v))) (sym (copy_back n m v)) ∙ copy_among n m (layer_of n m v) (state_of n m v) (layer_most n m v)

-- ---- the next layer

pub next_last : (k l : ℕ) → suc l ≡ k → next k l ≡ 0
unfolding next
next_last k l e = rw (eq-eqb (suc l) k e, next)

pub next_up : (k l : ℕ) → eqb (suc l) k ≡ false → next k l ≡ suc l
unfolding next
next_up k l e = rw (e, next)

pub landing_below : (k : ℕ) (b : Bool) (l : ℕ) → l < k → landing k b l < k
landing_below k false l h = h
landing_below k true l h = ⊎_elim
    (λ e. omega (arith, next_last k l (same e)))
    (λ e. let z : suc l ≢ k = eqb-false (suc l) k e in omega (arith, next_up k l e)) (either (eqb (suc l) k))
