-- `name_states` meets its contract: the first states stand in the list, and the others are those of what is left. Assumes nothing.
use native.Mathlib.Omega.{arith}
use Rattle.batch.proofs.Batches.{numbers_length, end_alone}
use Rattle.resumption.proofs.Lines.{named_begun, named_on, named_all_lem, named_full}
use Rattle.resumption.proofs.name_states.Goals as goal

pub loop-at-init : goal.loop-at-init
loop-at-init c = named_begun _ _ c.requires

pub returns-then-n-eq-NAMED : goal.returns-then-n-eq-NAMED
returns-then-n-eq-NAMED c = let w = c.loop-at.invariant in (w.few, w.size, named_full _ _ _ _ w c.if-n-eq-NAMED.true)

-- the place is one of the list
pub line_at-line-requires : goal.line_at-line-requires
line_at-line-requires c = let a = c.args in
    let n = numbers_length a.alone a.lines.now _ c.is_some.ensures in
    (omega (arith, c.loop-at-test.true, c.lines_end-end.ensures, n), λ z. omega (arith, c.loop-at-test.true, c.loop-at.invariant.place, c.lines_end-end.ensures, end_alone a.alone a.lines.now _ c.is_some.ensures z))

pub loop-at-preserved : goal.loop-at-preserved
loop-at-preserved c = let a = c.args in
    let n = numbers_length a.alone a.lines.now _ c.is_some.ensures in
    named_on _ _ _ _ c.loop-at.invariant (omega (arith, c.loop-at-test.true, c.lines_end-end.ensures, n)) (omega (arith, c.if-n-eq-NAMED.false, c.loop-at.invariant.few)) c.line_at-line.result c.line_at-line.ensures c.named_by.result c.named_by.ensures

pub returns : goal.returns
returns c = let w = c.loop-at.invariant in
    let a = c.args in
    (w.few, w.size, named_all_lem _ _ _ _ w (omega (arith, c.loop-at-test.false, c.lines_end-end.ensures, numbers_length a.alone a.lines.now _ c.is_some.ensures)))
