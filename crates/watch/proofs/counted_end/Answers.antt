-- `watch::counted_end`: all of it, or the whole lines within the limit.
use mathlib.Core.Path.{sym}
use native.Mathlib.Omega.{arith}
use lib.Seq.{length-take-le}
use Rattle.watch.proofs.Counting.{counted_all_lem, counted_above}
use Rattle.watch.proofs.counted_end.Goals as goal

pub returns-then-text-le-LIMIT : goal.returns-then-text-le-LIMIT
returns-then-text-le-LIMIT c = (omega arith, counted_all_lem _ c.if-text-le-LIMIT.true)

pub slice_bounds-whole_end-end : goal.slice_bounds-whole_end-end
slice_bounds-whole_end-end c = sym (length-take-le 4294967295 c.args.text.now (omega arith))

pub returns-else-text-le-LIMIT : goal.returns-else-text-le-LIMIT
returns-else-text-le-LIMIT c =
    let most = length-take-le 4294967295 c.args.text.now (omega arith) in
    (omega (arith, most, c.whole_end.ensures.0), counted_above _ _ c.if-text-le-LIMIT.false (omega (arith, most, c.whole_end.ensures.0)) c.whole_end.ensures.1)
