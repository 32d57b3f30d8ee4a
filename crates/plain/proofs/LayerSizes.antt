-- The layers of a game of N states have K·N states and K times the moves. Assumes nothing.
use mathlib.Core.Path.{◌≡◌, refl, sym, ap, ◌∙◌}
use mathlib.Core.Logic.{⊎_elim}
use mathlib.Core.List.{List, [], ◌∷◌, ◌++◌, map}
use Prim.Native.Nat.{ℕ, zero, suc, ◌+◌, ◌*◌, ◌-◌, ◌≤◌, ◌<◌}
use native.Mathlib.Omega.{arith}
use native.Mathlib.Nat.{zero-mul, suc-mul, mul-le-mul_left, mul-le-mul_right}
use lib.Dec.{ltb}
use lib.ListN.{length, length-map}
use borrow.Author.Tests.{ltb-true, ltb-false}
use Rattle.plain.specs.Lists.{elem, In, Once}
use Rattle.plain.specs.Cycles.{Kinded}
use Rattle.plain.specs.Layers.{copy, state_of, lands, state_at, layer_at, layers}
use Rattle.plain.proofs.Tests.{either, not_in, in_head, in_tail, in_out}
use Rattle.plain.proofs.Upto.{upto, upto_in, in_upto}
use Rattle.plain.proofs.Bounds.{left}
use Rattle.plain.proofs.Copies.{state_one, state_below, state_beyond, layer_most}
use Rattle.plain.proofs.Lifting.{Inside, in_map, lands_below, row_at_lem}

-- ---- numbers

pub copy_below : (n k l s : ℕ) → l < k → s < n → copy n l s < k * n
unfolding copy
copy_below n k l s h b = let u : suc l ≤ k = omega arith in omega (arith, suc-mul l n, mul-le-mul_right n u)

pub state_small : (n m v : ℕ) → v < suc m * n → state_of n m v < n
state_small n zero v h = omega (arith, state_one n v, suc-mul 0 n, zero-mul n)
state_small n (suc m) v h = ⊎_elim
    (λ e. omega (arith, state_below n m v e, ltb-true v n e))
    (λ e. omega (arith, state_beyond n m v e, state_small n m (v - n) (omega (arith, suc-mul (suc m) n, ltb-false v n e)))) (either (ltb v n))

-- the numbers below a sum
upto_plus : (m n : ℕ) → upto (m + n) ≡ map (λ s. n + s) (upto m) ++ upto n
unfolding upto
upto_plus zero n = let e : 0 + n ≡ n = omega arith in ap upto e
upto_plus (suc m) n =
    let e : suc m + n ≡ suc (m + n) = omega arith in
    let f : m + n ≡ n + m = omega arith in
    ap upto e ∙ ap (λ x. x ∷ upto (m + n)) f ∙ ap (λ xs. (n + m) ∷ xs) (upto_plus m n)

-- those of one layer more
upto_copies : (n k : ℕ) → upto (suc k * n) ≡ map (copy n k) (upto n) ++ upto (k * n)
unfolding copy
upto_copies n k = let e : suc k * n ≡ n + k * n = omega (arith, suc-mul k n) in ap upto e ∙ upto_plus n (k * n)

-- ---- weights, added

left_join : (w : ℕ → ℕ) (us vs : List ℕ) → left w [] (us ++ vs) ≡ left w [] us + left w [] vs
unfolding left elem
left_join w [] vs = omega arith
left_join w (u ∷ us) vs = omega (arith, left_join w us vs)

left_map : (v w : ℕ → ℕ) (f : ℕ → ℕ) (us : List ℕ) → ((u : ℕ) → In u us → v (f u) ≡ w u) → left v [] (map f us) ≡ left w [] us
unfolding left elem
left_map v w f [] h = refl
left_map v w f (u ∷ us) h = omega (arith, h u (in_head u us), left_map v w f us (λ x i. h x (in_tail x u us i)))

-- ---- different targets stay different

once_map : (f : ℕ → ℕ) → ((x y : ℕ) → f x ≡ f y → x ≡ y) → (xs : List ℕ) → Once xs → Once (map f xs)
once_map f one [] o = tt
once_map f one (x ∷ xs) o = (
  not_in (f x) (map f xs) (λ i. let q = in_map f (f x) xs i in in_out q.0 x xs q.1 o.0 (sym (one x q.0 q.2))),
  once_map f one xs o.1,
)

pub copy_once : (n l x y : ℕ) → copy n l x ≡ copy n l y → x ≡ y
unfolding copy
copy_once n l x y e = omega arith

module _ (a : Kinded) where
  pub row_once : (v : ℕ) → Once (a.graph.successors (state_at a v)) → Once ((layers a).successors v)
  row_once v o =
      let l = lands a (layer_at a v) (state_at a v) in
      once_map (copy a.size l) (copy_once a.size l) (a.graph.successors (state_at a v)) o

  pub row_length : (v : ℕ) → length ((layers a).successors v) ≡ length (a.graph.successors (state_at a v))
  row_length v = length-map (a.graph.successors (state_at a v)) (copy a.size (lands a (layer_at a v) (state_at a v)))

  -- the states of the layers
  abbrev pub all_states : List ℕ
  all_states = upto (a.kinds * a.size)

  -- the moves of the game, counted by their rows
  abbrev pub moves : ℕ
  moves = left (λ s. length (a.graph.successors s)) [] (upto a.size)

  module _ (i : Inside a) where
    pub start_among : In (layers a).start all_states
    start_among = upto_in (layers a).start (a.kinds * a.size) (copy_below a.size a.kinds 0 a.graph.start i.some i.begins)

    pub stays_among : (x y : ℕ) → In x all_states → In y ((layers a).successors x) → In y all_states
    stays_among x y j m =
        let s = state_at a x in
        let l = layer_at a x in
        let q = in_map (copy a.size (lands a l s)) y (a.graph.successors s) m in
        let b : s < a.size = state_small a.size (a.kinds - 1) x (rw (one_more a.kinds i.some) (in_upto x (a.kinds * a.size) j)) in
        let h : l < a.kinds = omega (arith, layer_most a.size (a.kinds - 1) x, i.some) in
        rw q.2 (upto_in (copy a.size (lands a l s) q.0) (a.kinds * a.size) (copy_below a.size a.kinds (lands a l s) q.0 (lands_below a l s h) (i.stays s q.0 b q.1)))
      where
        one_more : (k : ℕ) → 0 < k → suc (k - 1) ≡ k
        one_more k h = omega arith

    moves_in : (m : ℕ) → m ≤ a.kinds → left (λ v. length ((layers a).successors v)) [] (upto (m * a.size)) ≡ m * moves
    unfolding left upto
    moves_in zero h = omega (arith, zero-mul moves, ap (λ n. left (λ v. length ((layers a).successors v)) [] (upto n)) (zero-mul a.size))
    moves_in (suc m) h =
        let w : ℕ → ℕ = λ v. length ((layers a).successors v) in
        ap (left w []) (upto_copies a.size m)
        ∙ left_join w (map (copy a.size m) (upto a.size)) (upto (m * a.size))
        ∙ omega (
          arith,
          left_map w (λ s. length (a.graph.successors s)) (copy a.size m) (upto a.size) (λ s j.
              ap length (row_at_lem a m s (omega arith) (in_upto s a.size j)) ∙ length-map (a.graph.successors s) (copy a.size (lands a m s))),
          moves_in m (omega arith),
          suc-mul m moves,
        )

    -- the moves of the layers: K times those of the game
    pub moves_layers : (edges : ℕ) → moves ≤ edges → left (λ v. length ((layers a).successors v)) [] all_states ≤ a.kinds * edges
    moves_layers edges h = omega (arith, moves_in a.kinds (omega arith), mul-le-mul_left a.kinds h)
