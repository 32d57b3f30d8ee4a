-- A change at some states of a game changes its layers at the copies of those states alone. Assumes nothing.
use mathlib.Core.Path.{◌≡◌, ap, ◌∙◌}
use mathlib.Core.Bool.{Bool, false, ◌&&◌}
use mathlib.Core.List.{List, map}
use Prim.Native.Nat.{ℕ, ◌-◌}
use lib.Dec.{eqb}
use Rattle.plain.specs.Lists.{elem}
use Rattle.plain.specs.Search.{Graph}
use Rattle.plain.specs.Cycles.{Kinded}
use Rattle.plain.specs.Layers.{copy, copies_of, state_of, landing, state_at, layer_at, layers}
use Rattle.plain.proofs.Tests.{contra, not_in}
use Rattle.plain.proofs.Prefix.{Agree}
use Rattle.plain.proofs.Copies.{copies_among, own_copy}

-- a number that is no copy of a named state: its state is not named
pub not_named_state : (n m : ℕ) (named : List ℕ) (v : ℕ) → elem v (copies_of n m named) ≡ false → elem (state_of n m v) named ≡ false
not_named_state n m named v f = not_in (state_of n m v) named (λ i. contra (copies_among n m named (state_of n m v) v i (own_copy n m v)) f)

-- Two games of n states and k kinds agree but for the named states: in their moves, and in the kinds that their states carry.
pub record AgreeBut (named : List ℕ) (g h : Graph) (carries carries' : ℕ → ℕ → Bool) : Type 0 where
  pub start : g.start ≡ h.start
  pub edges : (x : ℕ) → elem x named ≡ false → g.successors x ≡ h.successors x
  pub kinds : (x : ℕ) → elem x named ≡ false → (kind : ℕ) → carries kind x ≡ carries' kind x

module _ (n k : ℕ) (named : List ℕ) (g h : Graph) (carries carries' : ℕ → ℕ → Bool) (p : AgreeBut named g h carries carries') where
  abbrev before : Kinded
  before = record { graph = g; size = n; kinds = k; carries = carries }

  abbrev after : Kinded
  after = record { graph = h; size = n; kinds = k; carries = carries' }

  -- then their layers agree at each number whose state is not named
  pub layers_agree_at : (v : ℕ) → elem (state_of n (k - 1) v) named ≡ false → ((layers before).successors v ≡ (layers after).successors v) × ((layers before).accepting v ≡ (layers after).accepting v)
  layers_agree_at v o =
      let l = layer_at before v in
      let s = state_at before v in (
        ap (λ (c : Bool). map (copy n (landing k c l)) (g.successors s)) (p.kinds s o l) ∙ ap (map (copy n (landing k (carries' l s) l))) (p.edges s o),
        ap (λ (c : Bool). eqb (layer_at before v) 0 && c) (p.kinds s o 0),
      )

  -- so but for the copies
  pub layers_agree : Agree (copies_of n (k - 1) named) (layers before) (layers after)
  layers_agree = record {
    start = ap (copy n 0) p.start;
    edges = λ v f. (layers_agree_at v (not_named_state n (k - 1) named v f)).0;
    acceptance = λ v f. (layers_agree_at v (not_named_state n (k - 1) named v f)).1;
  }
