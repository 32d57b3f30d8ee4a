-- Where the rows of the layers lie: cited by contracts. Assumes nothing.
use Rattle.std.specs.Prelude.{ℕ, zero, suc, ◌%◌, List, [], ◌∷◌, ◌++◌, get_or, drop}
use Rattle.plain.specs.Table.{accepts}
use Rattle.plain.specs.Layers.{copy, layer_of, state_of, landing}
use Rattle.look.specs.Scan.{layout_of, most_states}
use Rattle.look.specs.declared.Layout.{Layout}

-- n numbers, each by its place
unfoldable pub listed : ℕ → (ℕ → ℕ) → List ℕ
listed zero f = []
listed (suc n) f = f 0 ∷ listed n (λ i. f (suc i))

-- What is added to the targets of v, where `above` layers lie above the first: the first copy of the layer in which its moves land. The bit of v tells whether it carries its layer's
-- kind.
unfoldable pub base_at : ℕ → ℕ → List ℕ → ℕ → ℕ
base_at size above words v = copy size (landing (suc above) (accepts words v) (layer_of size above v)) 0 % most_states

-- The layers of rows that are stored once: a copy's row lies where the row of its state lies.
unfoldable pub layered : ℕ → ℕ → List ℕ → List ℕ → Layout
layered size above starts words = layout_of
    (listed most_states (λ v. get_or starts (state_of size above v) 0) ++ drop most_states starts)
    (listed most_states (λ v. get_or starts (suc (state_of size above v)) 0))
    (listed most_states (base_at size above words))
