-- The copies in their order, one number after the other: which state and which layer each is of, and where its moves land. Assumes nothing.
use mathlib.Core.Path.{◌≡◌, sym, ap, ◌∙◌}
use mathlib.Core.Logic.{◌≢◌, ◌⊎◌, inl, inr, ⊎_elim}
use mathlib.Core.Bool.{Bool, true, false}
use Prim.Native.Nat.{ℕ, zero, suc, ◌+◌, ◌-◌, ◌≤◌, ◌<◌}
use native.Mathlib.Nat.{mul-zero, suc-mul}
use native.Mathlib.Omega.{arith}
use lib.Dec.{ltb, eqb}
use borrow.Author.Tests.{lt-ltb, le-ltb, eqb-false, ne_eqb}
use Rattle.plain.specs.Layers.{copy, state_of, layer_of, next, landing}
use Rattle.plain.proofs.Tests.{either, same}
use Rattle.plain.proofs.Copies.{copy_first, copy_up, state_one, layer_one, state_below, state_beyond, layer_beyond, state_copy, layer_copy, next_last, next_up}

-- ---- the state of v, by what is left of it and of the layers: `left` lie above the first

-- no layer is left
pub state_ends : (n left v : ℕ) → left ≤ 0 → state_of n left v ≡ v
state_ends n zero v h = state_one n v
state_ends n (suc left) v h = absurd (omega arith)

-- v lies in the first that is left
pub state_here : (n left v : ℕ) → 0 < left → v < n → state_of n left v ≡ v
state_here n zero v h b = absurd (omega arith)
state_here n (suc left) v h b = state_below n left v (lt-ltb v n b)

-- v lies behind it
pub state_down : (n left v : ℕ) → 0 < left → n ≤ v → state_of n left v ≡ state_of n (left - 1) (v - n)
state_down n zero v h b = absurd (omega arith)
state_down n (suc left) v h b = let e : left ≡ suc left - 1 = omega arith in state_beyond n left v (le-ltb v n b) ∙ ap (λ k. state_of n k (v - n)) e

-- ---- the last layer has no end: every number behind the layers below it counts to it

-- a copy behind the first layer, and the same in the layers without it
module _ (n m s : ℕ) where
  beyond : ltb (copy n (suc m) s) n ≡ false
  beyond = le-ltb (copy n (suc m) s) n (omega (arith, copy_up n m s))

  down : copy n (suc m) s - n ≡ copy n m s
  down = omega (arith, copy_up n m s)

-- its numbers have every state
state_last : (n m s : ℕ) → state_of n m (copy n m s) ≡ s
state_last n zero s = state_one n (copy n 0 s) ∙ copy_first n s
state_last n (suc m) s = state_beyond n m (copy n (suc m) s) (beyond n m s) ∙ ap (state_of n m) (down n m s) ∙ state_last n m s

-- and its layer
layer_last : (n m s : ℕ) → layer_of n m (copy n m s) ≡ m
layer_last n zero s = layer_one n (copy n 0 s)
layer_last n (suc m) s = layer_beyond n m (copy n (suc m) s) (beyond n m s) ∙ ap (λ v. suc (layer_of n m v)) (down n m s) ∙ ap suc (layer_last n m s)

-- ---- a walk through the copies

-- v is the copy of s in a layer whose first copy is `at`, and `left` layers lie above it. Without states no layer but the last has a copy.
pub record Stands (n m v s at left : ℕ) : Type 0 where
  pub layer : ℕ
  pub sum : v ≡ at + s
  pub first : at ≡ copy n layer 0
  pub within : layer ≤ m
  pub inside : (s < n) ⊎ (layer ≡ m)
  pub above : 0 < n → layer + left ≡ m

-- without states every layer begins at 0
copy_none : (l : ℕ) → copy 0 l 0 ≡ 0
unfolding copy
copy_none l = omega (arith, mul-zero l)

-- the walk begins
pub stands_first : (n m : ℕ) → Stands n m 0 0 0 m
stands_first zero m = record {
  layer = m;
  sum = omega arith;
  first = sym (copy_none m);
  within = omega arith;
  inside = inr (omega arith);
  above = λ h. absurd (omega arith);
}
stands_first (suc n) m = record {
  layer = 0;
  sum = omega arith;
  first = sym (copy_first (suc n) 0);
  within = omega arith;
  inside = inl (omega arith);
  above = λ h. omega arith;
}

module _ (n m v s at left : ℕ) (r : Stands n m v s at left) where
  -- where it stands
  copy_is : v ≡ copy n r.layer s
  unfolding copy
  copy_is = omega (arith, r.sum, r.first)

  -- the state and the layer of v
  pub state_is : state_of n m v ≡ s
  state_is = ap (state_of n m) copy_is ∙ ⊎_elim
      (λ h. state_copy n m r.layer s r.within h)
      (λ e. ap (λ l. state_of n m (copy n l s)) e ∙ state_last n m s) r.inside

  pub layer_is : layer_of n m v ≡ r.layer
  layer_is = ap (layer_of n m) copy_is ∙ ⊎_elim
      (λ h. layer_copy n m r.layer s r.within h)
      (λ e. ap (λ l. layer_of n m (copy n l s)) e ∙ layer_last n m s ∙ sym e) r.inside

  -- one copy further in the same layer: it has not come to its end, or it is the last
  pub stands_on : (s + 1 ≡ n → left ≡ 0) → Stands n m (v + 1) (s + 1) at left
  stands_on ends = record {
    layer = r.layer;
    sum = omega (arith, r.sum);
    first = r.first;
    within = r.within;
    inside = ⊎_elim (λ h. ⊎_elim
        (λ e. let z : s + 1 ≡ n = same e in inr (omega (arith, r.above (omega arith), ends z)))
        (λ e. let z : s + 1 ≢ n = eqb-false (s + 1) n e in inl (omega arith)) (either (eqb (s + 1) n))) inr r.inside;
    above = r.above;
  }

  -- at the end of a layer, the first copy of the next
  pub stands_up : s + 1 ≡ n → 0 < left → (w : ℕ) → w ≡ n → Stands n m (v + 1) 0 (at + w) (left - 1)
  unfolding copy
  stands_up end more w e = record {
    layer = suc r.layer;
    sum = omega (arith, r.sum);
    first = omega (arith, r.first, suc-mul r.layer n);
    within = omega (arith, r.above (omega arith));
    inside = inl (omega arith);
    above = λ h. omega (arith, r.above h);
  }

-- ---- where the moves land

-- A move leaves layer l, whose first copy is `at` and above which lie `left`: where the layer begins in which it lands. b tells whether its state carries the layer's kind.
module _ (n m l at left : ℕ) (first : at ≡ copy n l 0) (above : 0 < n → l + left ≡ m) (b : Bool) where
  -- the first copy of that layer
  abbrev begins : ℕ
  begins = copy n (landing (suc m) b l) 0

  -- it stays in its layer
  pub lands_here : b ≡ false → at ≡ begins
  lands_here e = first ∙ ap (λ c. copy n (landing (suc m) c l) 0) (sym e)

  -- it leaves the last layer
  pub lands_first : b ≡ true → left ≡ 0 → 0 ≡ begins
  lands_first e none = rw e (by_size n above)
    where
      by_size : (n : ℕ) → (0 < n → l + left ≡ m) → 0 ≡ copy n (next (suc m) l) 0
      by_size zero h = sym (copy_none (next (suc m) l))
      by_size (suc n) h = sym (ap (λ j. copy (suc n) j 0) (next_last (suc m) l (omega (arith, h (omega arith)))) ∙ copy_first (suc n) 0)

  -- it leaves another
  pub lands_next : b ≡ true → 0 < left → at + n ≡ begins
  lands_next e more = rw e (by_size n first above)
    where
      by_size : (n : ℕ) → at ≡ copy n l 0 → (0 < n → l + left ≡ m) → at + n ≡ copy n (next (suc m) l) 0
      by_size zero f h = omega (arith, copy_none l, copy_none (next (suc m) l))
      by_size (suc n) f h =
          omega (arith, ap (λ j. copy (suc n) j 0) (next_up (suc m) l (ne_eqb (suc l) (suc m) (λ z. omega (arith, h (omega arith))))), copy_up (suc n) l 0)
