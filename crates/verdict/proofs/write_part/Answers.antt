-- `write_part` meets its contract: the first i entries are written. Assumes nothing.
use Rattle.std.proofs.Common.{rules, ◌≡◌, ◌∙◌, ◌+◌, ◌-◌, suc, arith, length}
use borrow.Rule.Slice.PartMut.{mid_of}
use Rattle.verdict.proofs.Writing.{written_one, written_part}
use Rattle.verdict.proofs.write_part.Goals as goal

pub loop-i-preserved : goal.loop-i-preserved
loop-i-preserved c = let l = c.loop-i in
    let a = c.args in
    let part = mid_of c.min-from.result (512 - c.min-from.result) a.walk.now in
    let next : l.i + 1 ≡ suc l.i = omega arith in
    rw (l.invariant, next) (written_one part a.out.now l.i (omega (arith, c.loop-i-test.true, c.min-count.ensures, c.min.ensures)) (omega (arith, c.loop-i-test.true, c.min-count.ensures)))

pub returns : goal.returns
returns c = let l = c.loop-i in
    let a = c.args in
    let size : length a.walk.now ≡ 512 = search rules in
    (λ h k. l.invariant ∙ written_part a.walk.now a.out.now a.from a.count c.min-from.result c.min-count.result l.i size h k (omega (arith, c.min-from.ensures, c.wide.ensures)) (omega (arith, c.min-count.ensures, c.min.ensures, c.wide-2.ensures)) l.auto.i-end c.loop-i-test.false, l.auto.out)
