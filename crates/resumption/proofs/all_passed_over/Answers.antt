-- `all_passed_over` meets its contract: all lines are passed over exactly when those that are left are. Assumes nothing.
use mathlib.Core.Path.{sym, ◌∙◌}
use Prim.Native.Nat.{◌+◌, ◌<◌}
use native.Mathlib.Omega.{arith}
use lib.ListN.{length}
use Rattle.batch.specs.Batches.{numbers_in}
use Rattle.batch.proofs.Batches.{numbers_length, end_alone}
use Rattle.resumption.proofs.Lines.{passed_end, passed_stop, passed_on}
use Rattle.resumption.proofs.all_passed_over.Goals as goal

-- the place is one of the list
pub line_at-line-requires : goal.line_at-line-requires
line_at-line-requires c = let a = c.args in
    let n = numbers_length a.alone a.lines.now _ c.is_some.ensures in
    let k = c.loop-at.invariant.0 in
    (omega (arith, c.loop-at-test.true, c.lines_end-end.ensures, n), λ z. omega (arith, c.loop-at-test.true, k.1, c.lines_end-end.ensures, end_alone a.alone a.lines.now _ c.is_some.ensures z))

pub returns-then-not-is_passed_over : goal.returns-then-not-is_passed_over
returns-then-not-is_passed_over c = let a = c.args in
    let h : c.loop-at.at < length (numbers_in a.alone a.lines.now) = omega (arith, c.loop-at-test.true, c.lines_end-end.ensures, numbers_length a.alone a.lines.now _ c.is_some.ensures) in
    sym (passed_stop _ _ _ _ _ _ _ _ _ h c.line_at-line.result c.line_at-line.ensures c.is_passed_over.result c.is_passed_over.ensures c.if-not-is_passed_over.true)
    ∙ c.loop-at.invariant.1

pub loop-at-preserved : goal.loop-at-preserved
loop-at-preserved c = let a = c.args in
    let h : c.loop-at.at < length (numbers_in a.alone a.lines.now) = omega (arith, c.loop-at-test.true, c.lines_end-end.ensures, numbers_length a.alone a.lines.now _ c.is_some.ensures) in
    let k = c.loop-at.invariant.0 in (
      (k.0 + 1, omega (arith, k.1)),
      passed_on _ _ _ _ _ _ _ _ _ h c.line_at-line.result c.line_at-line.ensures c.is_passed_over.result c.is_passed_over.ensures c.if-not-is_passed_over.false ∙ c.loop-at.invariant.1,
    )

pub returns : goal.returns
returns c = let a = c.args in
    sym (passed_end _ c.loop-at.at _ _ _ _ _ _ _ (omega (arith, c.loop-at-test.false, c.lines_end-end.ensures, numbers_length a.alone a.lines.now _ c.is_some.ensures))) ∙ c.loop-at.invariant.1
