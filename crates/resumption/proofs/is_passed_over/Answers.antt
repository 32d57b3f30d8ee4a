-- `is_passed_over` meets its contract: the copies that are left tell what all of them tell. Assumes nothing.
use mathlib.Core.Path.{◌≡◌, sym, ap, ◌∙◌}
use Prim.Native.Nat.{ℕ, ◌+◌, ◌-◌}
use native.Mathlib.Omega.{arith}
use Rattle.plain.specs.Lists.{all}
use Rattle.resumption.specs.Model.{copies_up}
use Rattle.resumption.proofs.Lines.{passed_other, passed_copies, copies_stop, copies_on, copies_end}
use Rattle.resumption.proofs.is_passed_over.Invariants.{at_copy}
use Rattle.resumption.proofs.is_passed_over.Goals as goal

pub returns-then-not-is_change : goal.returns-then-not-is_change
returns-then-not-is_change c = sym (passed_other c.args.line _ _ _ _ _ _ _ (sym c.is_change.ensures ∙ c.if-not-is_change.true))

pub loop-layer-init : goal.loop-layer-init
loop-layer-init c = let a = c.args in
    let e : a.kinds - 0 ≡ a.kinds = omega arith in
    rw e (ap (λ (s : ℕ). all (at_copy a.line a.rows.now a.number.now a.index.now a.walk.now a.height) (copies_up a.size a.kinds s)) c.named_by-copy.ensures
    ∙ sym (passed_copies a.line _ _ _ _ _ _ _ (sym c.is_change.ensures ∙ c.if-not-is_change.false)))

pub returns-then-not-is_copy_passed_over : goal.returns-then-not-is_copy_passed_over
returns-then-not-is_copy_passed_over c = let l = c.loop-layer in
    let a = c.args in
    sym (copies_stop (at_copy a.line a.rows.now a.number.now a.index.now a.walk.now a.height) a.size l.copy (a.kinds - l.layer) (omega arith) (sym c.is_copy_passed_over.ensures ∙ c.if-not-is_copy_passed_over.true))
    ∙ l.invariant

pub loop-layer-preserved : goal.loop-layer-preserved
loop-layer-preserved c = let l = c.loop-layer in
    let a = c.args in
    let f = at_copy a.line a.rows.now a.number.now a.index.now a.walk.now a.height in
    let e : a.kinds - (l.layer + 1) ≡ a.kinds - l.layer - 1 = omega arith in
    rw e (ap (λ (v : ℕ). all f (copies_up a.size (a.kinds - l.layer - 1) v)) c.plus-copy.ensures
    ∙ copies_on f a.size l.copy (a.kinds - l.layer) (omega arith) (sym c.is_copy_passed_over.ensures ∙ c.if-not-is_copy_passed_over.false) ∙ l.invariant)

pub returns : goal.returns
returns c = let l = c.loop-layer in
    let a = c.args in
    sym (copies_end (at_copy a.line a.rows.now a.number.now a.index.now a.walk.now a.height) a.size l.copy (a.kinds - l.layer) (omega arith)) ∙ l.invariant
