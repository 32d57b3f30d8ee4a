-- `watch::write`: where there is room, the lines of the plan; else none.
use mathlib.Core.Path.{◌≡◌}
use mathlib.Core.List.{[]}
use lib.ListN.{length}
use Rattle.watch.specs.Model.{lines_told}
use Rattle.watch.proofs.Writing.{no_lines, told_lines, long_walk, short_buffer}
use Rattle.watch.proofs.write.Goals as goal
use Rattle.watch.proofs.write.Goals.{else-walk-le-WALK-via-then-walk-le-WALK+else-out-ge-LINES, else-walk-le-WALK-via-else-walk-le-WALK}

pub returns-then-out-ge-LINES : goal.returns-then-out-ge-LINES
returns-then-out-ge-LINES c =
    let a = c.args in
    record {
      goes = c.lead_behind-lead.ensures;
      laid = rw (← told_lines a.plan a.marks.now a.answer a.reply a.walk.now _ c.if-walk-le-WALK.true c.if-out-ge-LINES.true) c.put_lines-first.ensures;
    }

pub returns-else-walk-le-WALK : goal.returns-else-walk-le-WALK
returns-else-walk-le-WALK c =
    let a = c.args in
    let none : [] ≡ lines_told a.plan a.marks.now a.answer a.reply a.walk.now (length a.out.now) =
    elim c.else-walk-le-WALK.branch [
      | else-walk-le-WALK-via-then-walk-le-WALK+else-out-ge-LINES w ↦ short_buffer a.plan a.marks.now a.answer a.reply a.walk.now _ w.if-out-ge-LINES.false
      | else-walk-le-WALK-via-else-walk-le-WALK w ↦ long_walk a.plan a.marks.now a.answer a.reply a.walk.now _ w.if-walk-le-WALK.false
    ]
    in
    record { goes = c.lead_behind-lead.ensures; laid = rw (← none) (no_lines a.out.now) }
