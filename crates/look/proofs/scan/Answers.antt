-- `scan` meets its contract: each turn passes over one edge of the row. Assumes nothing.
use Rattle.std.proofs.Common.{sym, ◌∙◌, arith}
use Rattle.look.specs.Scan.{row_laid}
use Rattle.look.proofs.Counting.{up_is}
use Rattle.look.proofs.Scans.{laid_length, laid_within, laid_at, scan_begins, scan_goes_on, scan_finds, scan_ends}
use Rattle.look.proofs.scan.Goals as goal

pub loop-e-init : goal.loop-e-init
loop-e-init c = let a = c.args in scan_begins (row_laid a.targets.now a.layout.now a.v) a.array.now a.k a.spent.now

pub overflow_add-row : goal.overflow_add-row
overflow_add-row c = omega (arith, laid_within c.args.targets.now _ _ _ c.stretch_of-row.ensures c.loop-e.e c.loop-e-test.true)

pub look-requires : goal.look-requires
look-requires c = laid_within c.args.targets.now _ _ _ c.stretch_of-row.ensures c.loop-e.e c.loop-e-test.true

pub overflow_add-t : goal.overflow_add-t
overflow_add-t c = omega (arith, c.wide.ensures.1, c.stretch_of-row.ensures.base_small)

pub narrow-requires : goal.narrow-requires
narrow-requires c = omega (arith, laid_within c.args.targets.now _ _ _ c.stretch_of-row.ensures c.loop-e.e c.loop-e-test.true)

-- the look's target is the row's, and its count is one more
pub returns-then-array-t : goal.returns-then-array-t
returns-then-array-t c =
    let z = c.stretch_of-row.ensures in
    scan_finds _ _ _ _ _ _ c.loop-e.invariant
    (omega (arith, laid_length c.args.targets.now _ _ _ z, c.loop-e-test.true)) _ _
    (laid_at c.args.targets.now _ _ _ z c.loop-e.e c.loop-e-test.true c.wide.result (c.wide.ensures.0 ∙ c.look.ensures.0))
    (c.look.ensures.1 ∙ sym (up_is c.loop-e.spent))
    _ _ c.narrow.ensures c.narrow-then-array-t.ensures c.if-array-t.true

pub loop-e-preserved : goal.loop-e-preserved
loop-e-preserved c =
    let z = c.stretch_of-row.ensures in
    scan_goes_on _ _ _ _ _ _ c.loop-e.invariant
    (omega (arith, laid_length c.args.targets.now _ _ _ z, c.loop-e-test.true)) _ _
    (laid_at c.args.targets.now _ _ _ z c.loop-e.e c.loop-e-test.true c.wide.result (c.wide.ensures.0 ∙ c.look.ensures.0))
    (c.look.ensures.1 ∙ sym (up_is c.loop-e.spent)) c.if-array-t.false

pub returns : goal.returns
returns c = scan_ends _ _ _ _ _ _ c.loop-e.invariant (omega (arith, laid_length c.args.targets.now _ _ _ c.stretch_of-row.ensures, c.loop-e-test.false))
