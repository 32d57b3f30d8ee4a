-- `base_of` meets its contract, on each way. Assumes nothing.
use mathlib.Core.Path.{ap, sym, ◌∙◌}
use Prim.Native.Nat.{ℕ, ◌%◌, ◌+◌}
use native.Mathlib.Omega.{arith}
use Rattle.layers.proofs.Standing.{lands_here, lands_first, lands_next}
use Rattle.layers.proofs.base_of.Goals as goal

pub returns-then-not-accepts_in : goal.returns-then-not-accepts_in
returns-then-not-accepts_in c layer above first left =
    let a = c.args in
    ap (λ (k : ℕ). k % 512) (lands_here a.size above layer a.at a.left first left _ (sym c.accepts_in.ensures ∙ c.if-not-accepts_in.true))

pub returns-then-left-eq0 : goal.returns-then-left-eq0
returns-then-left-eq0 c layer above first left =
    let a = c.args in
    ap (λ (k : ℕ). k % 512) (lands_first a.size above layer a.at a.left first left _ (sym c.accepts_in.ensures ∙ c.if-not-accepts_in.false) c.if-left-eq0.true)

pub returns : goal.returns
returns c layer above first left =
    let a = c.args in
    ap (λ (k : ℕ). k % 512)
    (ap (λ (n : ℕ). a.at + n) c.wide.ensures.0 ∙ lands_next a.size above layer a.at a.left first left _ (sym c.accepts_in.ensures ∙ c.if-not-accepts_in.false) (omega arith))
