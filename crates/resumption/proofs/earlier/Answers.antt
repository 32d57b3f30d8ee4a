-- `earlier` meets its contract: the first so far, and the copies that are left, give that of all. Assumes nothing.
use mathlib.Core.Path.{◌≡◌, refl, sym, ap, ◌∙◌}
use mathlib.Core.List.{List}
use Prim.Native.Nat.{ℕ, zero, suc, ◌+◌, ◌-◌, ◌≤◌}
use native.Mathlib.Omega.{arith}
use Rattle.look.specs.Numbers.{plus}
use Rattle.resumption.specs.declared.First.{First}
use Rattle.resumption.specs.Model.{copies_up, first_of}
use Rattle.resumption.proofs.Lines.{copies_next}
use Rattle.resumption.proofs.FirstMet.{turn_less, turn_stays}
use Rattle.resumption.proofs.earlier.Goals as goal
use Rattle.resumption.proofs.earlier.Goals.{then-n-least, else-n-least}

pub loop-layer-preserved : goal.loop-layer-preserved
loop-layer-preserved c = let w = c.loop-layer in
    let a = c.args in
    let left = a.kinds - w.layer in
    let rest = copies_up a.size (left - 1) (plus w.copy a.size) in
    let e : a.kinds - (w.layer + 1) ≡ left - 1 = omega arith in
    rw e (ap (λ (v : ℕ). first_of c.if-n-least.least (copies_up a.size (left - 1) v) a.number.now) c.plus-copy.ensures
    ∙ (elim c.if-n-least.branch [
      | then-n-least k ↦ ap (λ (f : First). first_of f rest a.number.now) k.least-is ∙ turn_less a.number.now w.least w.copy c.get-n.result rest c.get-n.ensures k.if-n-least.true
      | else-n-least k ↦ ap (λ (f : First). first_of f rest a.number.now) k.least-is ∙ turn_stays a.number.now w.least w.copy c.get-n.result rest c.get-n.ensures k.if-n-least.false
    ])
    ∙ ap (λ (vs : List ℕ). first_of w.least vs a.number.now) (sym (copies_next a.size w.copy left (omega arith))) ∙ w.invariant)

no_copy : (first : First) (size left copy : ℕ) (number : List ℕ) → left ≤ 0 → first_of first (copies_up size left copy) number ≡ first
unfolding first_of copies_up
no_copy first size zero copy number h = refl
no_copy first size (suc left) copy number h = absurd (omega arith)

pub returns : goal.returns
returns c = let w = c.loop-layer in
    sym (no_copy _ _ (c.args.kinds - w.layer) w.copy _ (omega arith)) ∙ w.invariant
