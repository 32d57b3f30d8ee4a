-- A run of the layers is a run of the game with its layer counted along: each is lifted, and each is the lift of one. Assumes nothing.
use mathlib.Core.Path.{◌≡◌, refl, sym, ap, ◌∙◌}
use mathlib.Core.Logic.{⊎_elim}
use mathlib.Core.Bool.{◌&&◌}
use mathlib.Core.List.{List, [], ◌∷◌, ◌++◌, map}
use Prim.Native.Nat.{ℕ, ◌-◌, ◌<◌}
use native.Mathlib.Omega.{arith}
use lib.Dec.{eqb}
use Rattle.plain.specs.Lists.{In}
use Rattle.plain.specs.Cycles.{Run, Kinded}
use Rattle.plain.specs.Layers.{copy, lands, row_in, pays_in, state_at, layer_at, layers}
use Rattle.plain.proofs.Tests.{in_nil, in_head, in_tail, in_cases}
use Rattle.plain.proofs.Copies.{state_copy, layer_copy, landing_below}

pub map_in : (f : ℕ → ℕ) (x : ℕ) (xs : List ℕ) → In x xs → In (f x) (map f xs)
map_in f x [] i = absurd (in_nil x i)
map_in f x (y ∷ xs) i = ⊎_elim (λ e. rw e (in_head (f y) (map f xs))) (λ j. in_tail (f x) (f y) (map f xs) (map_in f x xs j)) (in_cases x y xs i)

pub in_map : (f : ℕ → ℕ) (y : ℕ) (xs : List ℕ) → In y (map f xs) → (x : ℕ) × In x xs × (y ≡ f x)
in_map f y [] i = absurd (in_nil y i)
in_map f y (x ∷ xs) i =
    ⊎_elim (λ e. (x, in_head x xs, e)) (λ j. let r = in_map f y xs j in (r.0, in_tail r.0 x xs r.1, r.2)) (in_cases y (f x) (map f xs) i)

pub map_join : (f : ℕ → ℕ) (xs ys : List ℕ) → map f (xs ++ ys) ≡ map f xs ++ map f ys
map_join f [] ys = refl
map_join f (x ∷ xs) ys = ap (λ zs. f x ∷ zs) (map_join f xs ys)

module _ (a : Kinded) where
  -- the copy of s in layer l
  abbrev pub copy_at : ℕ → ℕ → ℕ
  copy_at l s = copy a.size l s

  pub state_at_lem : (l s : ℕ) → l < a.kinds → s < a.size → state_at a (copy_at l s) ≡ s
  state_at_lem l s h b = state_copy a.size (a.kinds - 1) l s (omega arith) b

  pub layer_at_lem : (l s : ℕ) → l < a.kinds → s < a.size → layer_at a (copy_at l s) ≡ l
  layer_at_lem l s h b = layer_copy a.size (a.kinds - 1) l s (omega arith) b

  pub row_at_lem : (l s : ℕ) → l < a.kinds → s < a.size → (layers a).successors (copy_at l s) ≡ row_in a l s
  row_at_lem l s h b = ap (λ m. row_in a m (state_at a (copy_at l s))) (layer_at_lem l s h b) ∙ ap (row_in a l) (state_at_lem l s h b)

  pub accepting_at : (l s : ℕ) → l < a.kinds → s < a.size → (layers a).accepting (copy_at l s) ≡ eqb l 0 && a.carries 0 s
  accepting_at l s h b = ap (λ m. pays_in a m (state_at a (copy_at l s))) (layer_at_lem l s h b) ∙ ap (pays_in a l) (state_at_lem l s h b)

  pub lands_below : (l s : ℕ) → l < a.kinds → lands a l s < a.kinds
  lands_below l s h = landing_below a.kinds (a.carries l s) l h

  -- the layer in which a run of the game ends that leaves x in layer l
  unfoldable pub layer_after : ℕ → ℕ → List ℕ → ℕ
  layer_after l x [] = l
  layer_after l x (y ∷ ys) = layer_after (lands a l x) y ys

  -- the copies to which it comes
  unfoldable pub lifted : ℕ → ℕ → List ℕ → List ℕ
  lifted l x [] = []
  lifted l x (y ∷ ys) = copy_at (lands a l x) y ∷ lifted (lands a l x) y ys

  pub after_below : (xs : List ℕ) (l x : ℕ) → l < a.kinds → layer_after l x xs < a.kinds
  unfolding layer_after
  after_below [] l x h = h
  after_below (y ∷ ys) l x h = after_below ys (lands a l x) y (lands_below l x h)

  pub after_join : (xs ys : List ℕ) (l x y : ℕ) → Run a.graph x xs y → layer_after l x (xs ++ ys) ≡ layer_after (layer_after l x xs) y ys
  unfolding layer_after
  after_join [] ys l x y r = ap (λ z. layer_after l z ys) r
  after_join (z ∷ xs) ys l x y r = after_join xs ys (lands a l x) z y r.1

  -- the game has its start state, and its moves stay among its states
  pub record Inside : Type 0 where
    pub some : 0 < a.kinds
    pub begins : a.graph.start < a.size
    pub stays : (x y : ℕ) → x < a.size → In y (a.graph.successors x) → y < a.size

  module _ (i : Inside) where
    pub run_below : (xs : List ℕ) (x y : ℕ) → x < a.size → Run a.graph x xs y → y < a.size
    run_below [] x y b r = rw r at b
    run_below (z ∷ xs) x y b r = run_below xs z y (i.stays x z b r.0) r.1

    -- a run of the game, lifted
    pub lifted_run : (xs : List ℕ) (l x y : ℕ) → l < a.kinds → x < a.size → Run a.graph x xs y → Run (layers a) (copy_at l x) (lifted l x xs) (copy_at (layer_after l x xs) y)
    unfolding lifted layer_after
    lifted_run [] l x y h b r = ap (copy_at l) r
    lifted_run (z ∷ xs) l x y h b r = (
      rw (row_at_lem l x h b) (map_in (copy_at (lands a l x)) z (a.graph.successors x) r.0),
      lifted_run xs (lands a l x) z y (lands_below l x h) (i.stays x z b r.0) r.1,
    )

    -- a run of the layers, as the lift of a run of the game
    pub record Lowered (l x : ℕ) (vs : List ℕ) (w : ℕ) : Type 0 where
      pub states : List ℕ
      pub end : ℕ
      pub lifts : vs ≡ lifted l x states
      pub ends : w ≡ copy_at (layer_after l x states) end
      pub game_run : Run a.graph x states end

    pub lower : (vs : List ℕ) (l x w : ℕ) → l < a.kinds → x < a.size → Run (layers a) (copy_at l x) vs w → Lowered l x vs w
    unfolding lifted layer_after
    lower [] l x w h b r = record { states = []; end = x; lifts = refl; ends = sym r; game_run = refl }
    lower (v ∷ vs) l x w h b r =
        let m = in_map (copy_at (lands a l x)) v (a.graph.successors x) (rw (row_at_lem l x h b) at r.0) in
        let q = lower vs (lands a l x) m.0 w (lands_below l x h) (i.stays x m.0 b m.1) (rw m.2 at r.1) in
        record {
          states = m.0 ∷ q.states;
          end = q.end;
          lifts = ap (λ z. z ∷ vs) m.2 ∙ ap (λ z. copy_at (lands a l x) m.0 ∷ z) q.lifts;
          ends = q.ends;
          game_run = (m.1, q.game_run);
        }

    -- the states of a lifted run are those of the run
    pub lifted_states : (xs : List ℕ) (l x y : ℕ) → l < a.kinds → x < a.size → Run a.graph x xs y → map (state_at a) (lifted l x xs) ≡ xs
    unfolding lifted
    lifted_states [] l x y h b r = refl
    lifted_states (z ∷ xs) l x y h b r =
        let h' = lands_below l x h in
        let b' = i.stays x z b r.0 in
        ap (λ s. s ∷ map (state_at a) (lifted (lands a l x) z xs)) (state_at_lem (lands a l x) z h' b') ∙ ap (λ s. z ∷ s) (lifted_states xs (lands a l x) z y h' b' r.1)
