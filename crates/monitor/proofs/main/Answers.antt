-- `main` is safe and ends, and writes what the plain definition prints: behind the lines of what was read so far, the lead, what is lent beside it and the session
-- stand for what is held behind their records. The arrays keep their lengths, and each line takes off what may still come. Assumes nothing.
use mathlib.Core.Path.{refl, sym, ap, ◌∙◌}
use borrow.Author.Rules.{rules}
use lib.ListN.{take}
use lib.Seq.{length-take-le}
use Rattle.line.proofs.Paying.{record_pay}
use Rattle.lead.specs.declared.Lead.{Lead}
use Rattle.watch.proofs.Steps.{lent_to}
use Rattle.watch.proofs.Output.{laid_within}
use Rattle.watch.proofs.Turns.{Done, done_asked, done_else, behind}
use Rattle.console.proofs.Printing.{told_bytes, between_first, prints, between_next}
use Rattle.monitor.proofs.main.Goals as goal
use Rattle.monitor.proofs.main.Goals.{in-Ask, in_default}

pub loop-input-init : goal.loop-input-init
loop-input-init c = (
  search rules,
  search rules,
  search rules,
  between_first c.begin-r.result _ _ _ c.begin-r.ensures (search rules) (search rules) (ap (λ (l : Lead). l.stage) c.first_lead-lead.ensures, refl),
)

pub next_line-r-requires : goal.next_line-r-requires
next_line-r-requires c = let b = c.loop-input.invariant.3 in (b.within, b.space, b.size)

-- the lines end within the buffer
pub slice_bounds-lines-end : goal.slice_bounds-lines-end
slice_bounds-lines-end c = laid_within _ _ _ _ _ c.write-w.ensures.laid

pub slice_bounds-print-end-in-loop-input : goal.slice_bounds-print-end-in-loop-input
slice_bounds-print-end-in-loop-input c = sym (length-take-le _ _ (laid_within _ _ _ _ _ c.write-w.ensures.laid))

-- in both, d says that what the task asks of the session is done, and b what is held behind the line, and the lines in the buffer

pub print-requires : goal.print-requires
print-requires c =
    let i = c.loop-input.invariant in
    let n = c.next_line-r in
    let d : Done c.read-plan.result.task c.loop-input.lead (lent_to c.read-plan.new.marks c.read-plan.new.numbers) c.loop-input.c.session c.loop-input.walk c.match-plan.c c.match-plan.walk =
    elim c.match-plan.branch [
      | in-Ask w ↦ done_asked c.loop-input.lead _ _ i.1 _ _ c.read-plan.result.task _ _ _ _ w.in-Ask.is w.walk-is w.c-is w.serve-c.auto.walk w.serve-c.ensures
      | in_default w ↦ done_else c.loop-input.lead _ _ i.1 _ _ c.read-plan.result.task c.loop-input.c w.in_default.not-Ask w.walk-is w.c-is
    ]
    in
    let b = behind c.loop-input.lead _ _ _ _ _ _ _ _ _ _ _ _ i.0 i.1 i.2 i.3.stands (record_pay (take n.result.len n.new.held)) (λ k. lent_to (c.read-plan.ensures.marks_after k) (c.read-plan.ensures.numbers_after k))
    _ c.read-plan.ensures.value d c.reply_to-reply.ensures c.write-w.ensures in (
      told_bytes (take n.result.len n.new.held) _ _ _ _ _ _ _ _ _ i.2 c.read-plan.ensures.value c.write-w.ensures,
      prints _ _ _ _ i.3 _ _ _ n.ensures _ _ _ _ (sym c.has_line.ensures ∙ c.if-not-has_line.false) b.laid,
    )

pub loop-input-preserved : goal.loop-input-preserved
loop-input-preserved c =
    let i = c.loop-input.invariant in
    let n = c.next_line-r in
    let d : Done c.read-plan.result.task c.loop-input.lead (lent_to c.read-plan.new.marks c.read-plan.new.numbers) c.loop-input.c.session c.loop-input.walk c.match-plan.c c.match-plan.walk =
    elim c.match-plan.branch [
      | in-Ask w ↦ done_asked c.loop-input.lead _ _ i.1 _ _ c.read-plan.result.task _ _ _ _ w.in-Ask.is w.walk-is w.c-is w.serve-c.auto.walk w.serve-c.ensures
      | in_default w ↦ done_else c.loop-input.lead _ _ i.1 _ _ c.read-plan.result.task c.loop-input.c w.in_default.not-Ask w.walk-is w.c-is
    ]
    in
    let b = behind c.loop-input.lead _ _ _ _ _ _ _ _ _ _ _ _ i.0 i.1 i.2 i.3.stands (record_pay (take n.result.len n.new.held)) (λ k. lent_to (c.read-plan.ensures.marks_after k) (c.read-plan.ensures.numbers_after k))
    _ c.read-plan.ensures.value d c.reply_to-reply.ensures c.write-w.ensures in (
      c.read-plan.auto.numbers ∙ i.0,
      d.size,
      c.write-w.auto.out ∙ i.2,
      between_next _ _ _ _ i.3 _ _ _ n.ensures _ _ c.onward-r.ensures (sym c.is_line.ensures ∙ c.if-not-is_line.false) b.tracks,
    )
