-- `main` is safe and ends, and writes what the plain definition prints: behind the lines of what was read so far, the lead and what is lent beside it stand for what is held
-- behind their records, and the game is not read whole. The arrays keep their lengths, and each line takes off what may still come. Assumes nothing.
use mathlib.Core.Path.{refl, sym, ap, ◌∙◌}
use borrow.Author.Rules.{rules}
use lib.ListN.{take}
use lib.Seq.{length-take-le}
use Rattle.line.proofs.Paying.{record_pay}
use Rattle.question.specs.declared.Reply.TheVariants.{Refused}
use Rattle.lead.specs.declared.Lead.{Lead}
use Rattle.watch.proofs.Steps.{lent_to}
use Rattle.watch.proofs.Output.{laid_within}
use Rattle.console.proofs.Printing.{told_bytes, between_first, prints, between_next}
use Rattle.desk.specs.Desk.{is_read}
use Rattle.desk.proofs.Gathering.{behind, Done, done_asked, done_else}
use Rattle.desk.proofs.main.Goals as goal
use Rattle.desk.proofs.main.Goals.{in-Ask, in_default}

pub loop-input-init : goal.loop-input-init
loop-input-init c = (
  search rules,
  search rules,
  search rules,
  ap (λ (l : Lead). is_read l.stage) c.first_lead-lead.ensures,
  between_first c.begin-r.result _ _ _ c.begin-r.ensures (search rules) (search rules) (ap (λ (l : Lead). l.stage) c.first_lead-lead.ensures, refl),
)

pub next_line-r-requires : goal.next_line-r-requires
next_line-r-requires c = let b = c.loop-input.invariant.4 in (b.within, b.space, b.size)

-- the lines end within the buffer
pub slice_bounds-lines-end : goal.slice_bounds-lines-end
slice_bounds-lines-end c = laid_within _ _ _ _ _ c.write-w.ensures.laid

pub slice_bounds-print-end-in-loop-input : goal.slice_bounds-print-end-in-loop-input
slice_bounds-print-end-in-loop-input c = sym (length-take-le _ _ (laid_within _ _ _ _ _ c.write-w.ensures.laid))

-- in both, d says that what the line asks for is searched for, and b what is held behind it, and the lines in the buffer

pub print-requires : goal.print-requires
print-requires c =
    let i = c.loop-input.invariant in
    let n = c.next_line-r in
    let d : Done c.loop-input.lead (lent_to c.read-plan.new.marks c.read-plan.new.numbers) c.loop-input.walk i.1 c.match-plan.answer c.match-plan.walk c.read-plan.result.task =
    elim c.match-plan.branch [
      | in-Ask w ↦ done_asked c.loop-input.lead _ _ i.1 _ _ c.read-plan.result.task _ _ _ w.in-Ask.is w.walk-is w.answer-is w.search-answer.auto.walk w.search-answer.ensures
      | in_default w ↦ done_else c.loop-input.lead _ _ i.1 _ _ c.read-plan.result.task w.in_default.not-Ask w.walk-is
    ]
    in
    let b = behind c.loop-input.lead _ _ _ _ _ _ (Refused 0) _ refl i.0 i.1 i.4.stands i.3 (record_pay (take n.result.len n.new.held)) (λ j. lent_to (c.read-plan.ensures.marks_after j) (c.read-plan.ensures.numbers_after j)) _ c.read-plan.ensures.value
    _ _ _ d.searched d.size i.2 c.write-w.ensures in (
      told_bytes (take n.result.len n.new.held) _ _ _ _ _ _ _ _ _ i.2 c.read-plan.ensures.value c.write-w.ensures,
      prints _ _ _ _ i.4 _ _ _ n.ensures _ _ _ _ (sym c.has_line.ensures ∙ c.if-not-has_line.false) b.laid,
    )

pub loop-input-preserved : goal.loop-input-preserved
loop-input-preserved c =
    let i = c.loop-input.invariant in
    let n = c.next_line-r in
    let d : Done c.loop-input.lead (lent_to c.read-plan.new.marks c.read-plan.new.numbers) c.loop-input.walk i.1 c.match-plan.answer c.match-plan.walk c.read-plan.result.task =
    elim c.match-plan.branch [
      | in-Ask w ↦ done_asked c.loop-input.lead _ _ i.1 _ _ c.read-plan.result.task _ _ _ w.in-Ask.is w.walk-is w.answer-is w.search-answer.auto.walk w.search-answer.ensures
      | in_default w ↦ done_else c.loop-input.lead _ _ i.1 _ _ c.read-plan.result.task w.in_default.not-Ask w.walk-is
    ]
    in
    let b = behind c.loop-input.lead _ _ _ _ _ _ (Refused 0) _ refl i.0 i.1 i.4.stands i.3 (record_pay (take n.result.len n.new.held)) (λ j. lent_to (c.read-plan.ensures.marks_after j) (c.read-plan.ensures.numbers_after j)) _ c.read-plan.ensures.value
    _ _ _ d.searched d.size i.2 c.write-w.ensures in
    let unread = sym c.is_read.ensures ∙ c.if-is_read.false in (
      c.read-plan.auto.numbers ∙ i.0,
      d.size,
      c.write-w.auto.out ∙ i.2,
      unread,
      between_next _ _ _ _ i.4 _ _ _ n.ensures _ _ c.onward-r.ensures (sym c.is_line.ensures ∙ c.if-not-is_line.false) (b.tracks unread),
    )
