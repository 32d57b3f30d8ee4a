-- The rows that are laid for the layers are those of the layers as a graph. Assumes nothing.
use mathlib.Core.Path.{◌≡◌, refl, sym, ap, ◌∙◌}
use mathlib.Core.Logic.{⊎_elim}
use mathlib.Core.Bool.{Bool, true, false, ◌&&◌}
use mathlib.Core.List.{List, [], ◌∷◌, ◌++◌, map}
use Prim.Native.Nat.{ℕ, zero, suc, ◌*◌, ◌-◌, ◌%◌, ◌≤◌, ◌<◌}
use native.Mathlib.Nat.{mul-le-mul_right}
use native.Mathlib.Omega.{arith}
use lib.Dec.{ltb}
use lib.ListN.{get_or, drop, get_or-append}
use borrow.Author.Tests.{ltb-true, ltb-false, ne_eqb}
use Rattle.plain.specs.Lists.{In}
use Rattle.plain.specs.Cycles.{Kinded}
use Rattle.plain.specs.Table.{accepts}
use Rattle.plain.specs.Layers.{copy, layer_of, state_of, landing, lands, pays_in, state_at, layer_at, layers}
use Rattle.plain.proofs.Tests.{either, not-true, in_nil, in_head, in_tail}
use Rattle.plain.proofs.Copies.{copy_back, state_one, layer_one, layer_below, layer_beyond, layer_most}
use Rattle.plain.proofs.Lifting.{map_in, lands_below}
use Rattle.plain.proofs.LayerSizes.{copy_below}
use Rattle.rows.specs.Rows.{entries}
use Rattle.rows.proofs.Paste.{same_place}
use Rattle.rows.proofs.Entries.{entries_at}
use Rattle.rows.proofs.Empty.{reads_same}
use Rattle.look.specs.Scan.{ends_of, plain_layout, spanned, lifted, row_laid}
use Rattle.look.specs.declared.Layout.{Layout}
use Rattle.layers.specs.Layout.{listed, base_at, layered}
use Rattle.layers.proofs.Listing.{listed_length, listed_at}
use Rattle.layers.proofs.Laying.{begin_at, end_at}

-- The arrays of a search have a game: its rows as they are stored, which stay among its states, and its packed marks.
pub record GameHeld (a : Kinded) (targets starts words : List ℕ) : Type 0 where
  pub some : 0 < a.kinds
  pub fits : a.kinds * a.size ≤ 512
  pub rows_are : (s : ℕ) → s < 512 → row_laid targets (plain_layout starts) s ≡ a.graph.successors s
  pub behind : (s : ℕ) → a.size ≤ s → a.graph.successors s ≡ []
  pub stays : (s t : ℕ) → In t (a.graph.successors s) → t < a.size
  pub bits_are : (v : ℕ) → v < a.kinds * a.size → accepts words v ≡ a.carries (layer_at a v) (state_at a v)

-- where one map does at each number what two do, one after the other
map_twice : (f g h : ℕ → ℕ) (xs : List ℕ) → ((x : ℕ) → In x xs → f x ≡ g (h x)) → map f xs ≡ map g (map h xs)
map_twice f g h [] e = refl
map_twice f g h (x ∷ xs) e = λ i. e x (in_head x xs) i ∷ map_twice f g h xs (λ y j. e y (in_tail y x xs j)) i

-- a target that is raised to its layer, which ends within the numbers of the states, is a copy
lifts : (n l t : ℕ) → copy n l (lifted 0 t) < 512 → lifted (copy n l 0 % 512) t ≡ copy n l (lifted 0 t)
unfolding lifted copy
lifts n l t h = omega arith

module _ (targets starts : List ℕ) where
  -- the targets of s as they are stored
  abbrev stored : ℕ → List ℕ
  stored s = entries (spanned (get_or starts s 0) (get_or starts (suc s) 0)) (get_or starts s 0) targets

  -- a row by what the lists have at v
  row_by : (y : Layout) (v : ℕ) (s base : ℕ) → get_or y.begins (v % 512) 0 ≡ get_or starts s 0 → get_or y.ends (v % 512) 0 ≡ get_or starts (suc s) 0 → get_or y.bases (v % 512) 0 ≡ base
      → row_laid targets y v ≡ map (lifted base) (stored s)
  unfolding row_laid
  row_by y v s base begin end is = λ i. map (lifted (is i)) (entries (spanned (begin i) (end i)) (begin i) targets)

  module _ (v : ℕ) (low : v < 512) where
    -- v is its own place in the lists
    wraps : v % 512 ≡ v
    wraps = omega arith

    -- the row of a state as it is stored, and that of a copy
    row_plain : row_laid targets (plain_layout starts) v ≡ map (lifted 0) (stored v)
    unfolding ends_of
    row_plain =
        row_by (plain_layout starts) v v 0 (same_place starts wraps)
        (same_place (ends_of starts) wraps ∙ entries_at 512 1 starts v low ∙ same_place starts (omega arith)) (reads_same 512 (v % 512) 0)

    row_layered : (n m : ℕ) (words : List ℕ) → row_laid targets (layered n m starts words) v ≡ map (lifted (base_at n m words v)) (stored (state_of n m v))
    unfolding layered
    row_layered n m words =
        row_by (layered n m starts words) v (state_of n m v) (base_at n m words v)
        (same_place (listed 512 (begin_at n m starts) ++ drop 512 starts) wraps
        ∙ get_or-append (listed 512 (begin_at n m starts)) (drop 512 starts) 0 v (omega (arith, listed_length 512 (begin_at n m starts)))
        ∙ listed_at 512 (begin_at n m starts) v low)
        (same_place (listed 512 (end_at n m starts)) wraps ∙ listed_at 512 (end_at n m starts) v low)
        (same_place (listed 512 (base_at n m words)) wraps ∙ listed_at 512 (base_at n m words) v low)

module _ (a : Kinded) (targets starts words : List ℕ) (h : GameHeld a targets starts words) (v : ℕ) (low : v < 512) where
  -- how many states the game has, and the state and the layer of v
  abbrev n : ℕ
  n = a.size

  abbrev s : ℕ
  s = state_at a v

  abbrev l : ℕ
  l = layer_at a v

  -- the state is no larger than v
  state_low : s < 512
  unfolding copy
  state_low = omega (arith, copy_back n (a.kinds - 1) v)

  -- the layer is one of the kinds
  layer_low : l < a.kinds
  layer_low = omega (arith, h.some, layer_most n (a.kinds - 1) v)

  -- the row of its state
  row_is : a.graph.successors s ≡ map (lifted 0) (stored targets starts s)
  row_is = sym (h.rows_are s state_low) ∙ row_plain targets starts s state_low

  -- what is added to its targets, where it is a state of the layers
  base_is : s < n → base_at n (a.kinds - 1) words v ≡ copy n (lands a l s) 0 % 512
  unfolding base_at
  base_is b =
      let there : v < a.kinds * n = omega (arith, copy_back n (a.kinds - 1) v, copy_below n a.kinds l s layer_low b) in
      let all : suc (a.kinds - 1) ≡ a.kinds = omega (arith, h.some) in
      (λ i. copy n (landing (all i) (h.bits_are v there i) l) 0 % 512)

  -- each target is raised to the copy where the move lands
  lands_at : (t : ℕ) → In t (stored targets starts s) → lifted (base_at n (a.kinds - 1) words v) t ≡ copy n (lands a l s) (lifted 0 t)
  lands_at t i = ⊎_elim
      (λ e. let b : s < n = ltb-true s n e in
      ap (λ k. lifted k t) (base_is b)
      ∙ lifts n (lands a l s) t (omega (arith, h.fits, copy_below n a.kinds (lands a l s) (lifted 0 t) (lands_below a l s layer_low) (h.stays s (lifted 0 t) among))))
      (λ e. absurd (in_nil (lifted 0 t) (rw (h.behind s (ltb-false s n e)) at among))) (either (ltb s n))
    where
      among : In (lifted 0 t) (a.graph.successors s)
      among = rw row_is (map_in (lifted 0) t (stored targets starts s) i)

  -- the moves of v
  pub rows_layered : (layers a).successors v ≡ row_laid targets (layered a.size (a.kinds - 1) starts words) v
  rows_layered =
      ap (map (copy n (lands a l s))) row_is
      ∙ sym (map_twice (lifted (base_at n (a.kinds - 1) words v)) (copy n (lands a l s)) (lifted 0) (stored targets starts s) lands_at)
      ∙ sym (row_layered targets starts v low n (a.kinds - 1) words)

-- ---- the states that pay

-- a state of the layers pays that is one of the game and has its bit; the marks of the first kind are those of the game's states
module _ (a : Kinded) (targets starts words : List ℕ) (h : GameHeld a targets starts words) (own : (s : ℕ) → s < 512 → a.carries 0 s ≡ true → s < a.size) where
  -- in the first layer
  pays_first : (m v : ℕ) → ltb v a.size ≡ true → pays_in a (layer_of a.size m v) (state_of a.size m v) ≡ a.carries (layer_of a.size m v) (state_of a.size m v)
  pays_first zero v e = rw (layer_one a.size v)
  pays_first (suc m) v e = rw (layer_below a.size m v e)

  -- behind it
  pays_behind : (m v : ℕ) → v < 512 → ltb v a.size ≡ false → pays_in a (layer_of a.size m v) (state_of a.size m v) ≡ false
  pays_behind zero v b e = rw (layer_one a.size v, state_one a.size v) (not-true (a.carries 0 v) (λ c. omega (arith, ltb-false v a.size e, own v b c)))
  pays_behind (suc m) v b e = rw (layer_beyond a.size m v e) (ap (λ (t : Bool). t && a.carries 0 (state_of a.size (suc m) v)) (ne_eqb (suc (layer_of a.size m (v - a.size))) 0 (λ z. omega arith)))

  pub accepts_layered : (v : ℕ) → v < 512 → (layers a).accepting v ≡ (ltb v a.size && accepts words v)
  accepts_layered v b = ⊎_elim first behind (either (ltb v a.size))
    where
      first : ltb v a.size ≡ true → (layers a).accepting v ≡ (ltb v a.size && accepts words v)
      first e =
          let k : 1 ≤ a.kinds = omega (arith, h.some) in
          let low : v < a.kinds * a.size = omega (arith, ltb-true v a.size e, mul-le-mul_right a.size k) in
          pays_first (a.kinds - 1) v e ∙ sym (h.bits_are v low) ∙ sym (ap (λ (t : Bool). t && accepts words v) e)

      behind : ltb v a.size ≡ false → (layers a).accepting v ≡ (ltb v a.size && accepts words v)
      behind e = pays_behind (a.kinds - 1) v b e ∙ sym (ap (λ (t : Bool). t && accepts words v) e)
