-- `marks_outside` meets its contract: no mark of a kind below one is bad. Assumes nothing.
use mathlib.Core.Path.{◌≡◌, refl, sym, ◌∙◌}
use native.Mathlib.Omega.{arith}
use Rattle.plain.specs.Lists.{any_below}
use Rattle.plain.specs.Refusals.{bad_marks}
use Rattle.table.proofs.Pairs.{some_below, none_more}
use Rattle.table.proofs.marks_outside.Invariants.{bad_kind}
use Rattle.table.proofs.marks_outside.Goals as goal

pub loop-kind-init : goal.loop-kind-init
unfolding any_below
loop-kind-init c = refl

pub returns-then-kind_outside : goal.returns-then-kind_outside
unfolding bad_marks
returns-then-kind_outside c = let a = c.args in
    sym (some_below (bad_kind a.size a.kinds a.marks.now) 4 c.loop-kind.kind (omega arith) (sym c.kind_outside.ensures ∙ c.if-kind_outside.true))

pub loop-kind-preserved : goal.loop-kind-preserved
loop-kind-preserved c = let a = c.args in
    none_more (bad_kind a.size a.kinds a.marks.now) c.loop-kind.kind c.loop-kind.invariant (sym c.kind_outside.ensures ∙ c.if-kind_outside.false)

pub returns : goal.returns
unfolding bad_marks
returns c = let a = c.args in
    let all : c.loop-kind.kind ≡ 4 = omega arith in
    sym (rw all at c.loop-kind.invariant)
