-- `row_of` meets its contract: the row of v starts and ends where it was read, where it fits. Assumes nothing.
use Rattle.std.proofs.Common.{◌≡◌, suc, ◌+◌, ◌∙◌, arith}
use Rattle.rows.proofs.Paste.{same_place}
use Rattle.look.proofs.Scans.{spans_whole, spans_long, spans_past}
use Rattle.look.proofs.row_of.Goals as goal

pub wide-i-requires : goal.wide-i-requires
wide-i-requires c = tt

pub wide-from-requires : goal.wide-from-requires
wide-from-requires c = tt

pub wide-stop-requires : goal.wide-stop-requires
wide-stop-requires c = tt

pub returns-then-stop-le-TARGETS : goal.returns-then-stop-le-TARGETS
returns-then-stop-le-TARGETS c = let a = c.args in
    let on : c.wide-i.result + 1 ≡ suc a.v = omega (arith, c.wide-i.ensures.0) in
    spans_whole a.starts.now a.v c.wide-i.result c.wide-i.ensures.0 _ _ c.if-i-lt-STATES.true c.if-stop-le-TARGETS.true
    (c.wide-from.ensures.0 ∙ same_place a.starts.now c.wide-i.ensures.0) (c.wide-stop.ensures.0 ∙ same_place a.starts.now on) c.wide-from.ensures.1

pub returns-else-stop-le-TARGETS : goal.returns-else-stop-le-TARGETS
returns-else-stop-le-TARGETS c = let a = c.args in
    let on : c.wide-i.result + 1 ≡ suc a.v = omega (arith, c.wide-i.ensures.0) in
    spans_long a.starts.now a.v c.wide-i.result c.wide-i.ensures.0 _ c.if-stop-le-TARGETS.false (c.wide-stop.ensures.0 ∙ same_place a.starts.now on)

pub returns-else-i-lt-STATES : goal.returns-else-i-lt-STATES
returns-else-i-lt-STATES c = let a = c.args in
    spans_past a.starts.now a.v c.wide-i.result c.wide-i.ensures.0 c.if-i-lt-STATES.false
