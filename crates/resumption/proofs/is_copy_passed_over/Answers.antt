-- `is_copy_passed_over` meets its contract. Assumes nothing.
use mathlib.Core.Path.{sym, ap, ◌∙◌}
use Prim.Native.Nat.{ℕ}
use Rattle.resumption.specs.Model.{unexplored_edge}
use Rattle.resumption.proofs.Lines.{copy_unmet, copy_edge, copy_mark}
use Rattle.resumption.proofs.is_copy_passed_over.Goals as goal

pub returns-then-get : goal.returns-then-get
returns-then-get c = let a = c.args in
    sym (copy_unmet a.line a.rows.now a.number.now a.index.now a.walk.now a.height a.copy (sym c.get.ensures ∙ c.if-get.true))

pub returns-in-Edge : goal.returns-in-Edge
returns-in-Edge c = let a = c.args in
    c.is_unexplored.ensures
    ∙ ap (λ (n : ℕ). unexplored_edge c.switch_in-switch.result.on a.copy c.in-Edge.from c.in-Edge.to a.rows.now a.index.now a.walk.now n) c.down-tip.ensures
    ∙ sym (copy_edge a.line a.rows.now a.number.now a.index.now a.walk.now a.height a.copy (λ z. c.if-get.false (c.get.ensures ∙ z)) c.switch_in-switch.result c.switch_in-switch.ensures c.in-Edge.from c.in-Edge.to c.in-Edge.is)

pub returns : goal.returns
returns c = let a = c.args in
    sym (copy_mark a.line a.rows.now a.number.now a.index.now a.walk.now a.height a.copy (λ z. c.if-get.false (c.get.ensures ∙ z)) c.switch_in-switch.result c.switch_in-switch.ensures c.in_default.field-0 c.in_default.field-1 c.in_default.is)
