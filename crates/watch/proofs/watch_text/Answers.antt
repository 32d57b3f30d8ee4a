-- `watch::watch_text`: what is left to be written behind `at` is what the lines from `from` on are answered with, by what is held.
use Prim.Native.Nat.{ℕ, ◌-◌, ◌≤◌}
use mathlib.Core.Path.{◌≡◌, refl, sym, ap, ◌∙◌}
use native.Mathlib.Omega.{arith}
use borrow.Author.Rules.{rules}
use lib.ListN.{length, take, drop}
use lib.Seq.{length-take-le}
use Rattle.line.specs.Records.{record_of}
use Rattle.line.proofs.Fields.{end_within}
use Rattle.line.proofs.Paying.{record_pay}
use Rattle.lead.specs.declared.Lead.{Lead}
use Rattle.watch.specs.Text.{waiting, output_of}
use Rattle.watch.proofs.Steps.{lent_to}
use Rattle.watch.proofs.Output.{rest_start, rest_end}
use Rattle.watch.proofs.Turns.{told_all_lem, Done, done_asked, done_else, Behind, behind, fitting_sizes, line_cut, line_put, line_last}
use Rattle.watch.proofs.watch_text.Goals as goal
use Rattle.watch.proofs.watch_text.Goals.{in-Ask, in_default, After-fitting-n}

pub loop-from-init : goal.loop-from-init
unfolding output_of
loop-from-init c = (omega arith, refl, search rules, search rules, search rules, (waiting, ((ap (λ (l : Lead). l.stage) c.first_lead-lead.ensures, refl), rest_start _ _ _)))

-- what the task asks of the session is done
done : (c : After-fitting-n)
    → Done c.read-plan.result.task c.loop-from.lead (lent_to c.read-plan.new.marks c.read-plan.new.numbers) c.loop-from.c.session c.loop-from.walk c.match-plan.c c.match-plan.walk
done c =
    let k = c.loop-from.invariant.3 in
    elim c.match-plan.branch [
      | in-Ask w ↦ done_asked c.loop-from.lead _ _ k _ _ c.read-plan.result.task _ _ _ _ w.in-Ask.is w.walk-is w.c-is w.serve-c.auto.walk w.serve-c.ensures
      | in_default w ↦ done_else c.loop-from.lead _ _ k _ _ c.read-plan.result.task c.loop-from.c w.in_default.not-Ask w.walk-is w.c-is
    ]

-- what is held behind the line, and the lines in the buffer
told : (c : After-fitting-n)
    → Behind c.loop-from.invariant.5.0 (record_of (take (c.end_of-end.result - c.loop-from.from) (drop c.loop-from.from c.args.text.now))) (lent_to c.read-plan.new.marks c.read-plan.new.numbers)
    c.match-plan.c.session c.loop-from.lines c.write-w.new.out c.write-w.result
told c =
    let i = c.loop-from.invariant in
    behind c.loop-from.lead _ _ i.5.0 _ _ _ _ _ _ _ _ _ i.2 i.3 i.4 i.5.1.0 (record_pay _) (λ k. lent_to (c.read-plan.ensures.marks_after k) (c.read-plan.ensures.numbers_after k))
    c.read-plan.result c.read-plan.ensures.value (done c) c.reply_to-reply.ensures c.write-w.ensures

-- what is put has as many bytes as fit
sizes : (c : After-fitting-n) → (c.fitting-n.result ≤ c.args.space - c.loop-from.at) × (length (take c.fitting-n.result c.write-w.new.out) ≡ c.fitting-n.result)
sizes c =
    let z = fitting_sizes _ _ _ _ _ _ _ c.write-w.ensures.laid c.fitting-n.ensures in
    (z.0, length-take-le c.fitting-n.result c.write-w.new.out z.1)

-- a line ends within the text
pub slice_bounds-read-end-in-loop-from : goal.slice_bounds-read-end-in-loop-from
slice_bounds-read-end-in-loop-from c = end_within 10 _ c.loop-from.from _ (omega arith) c.end_of-end.ensures

pub slice_bounds-write-end : goal.slice_bounds-write-end
slice_bounds-write-end c = elim c.match-plan.branch [
  | in-Ask w ↦ omega (arith, ap (length {A = ℕ}) w.walk-is)
  | in_default w ↦ omega (arith, ap (length {A = ℕ}) w.walk-is)
]

pub slice_bounds-lines-end : goal.slice_bounds-lines-end
slice_bounds-lines-end c = (fitting_sizes _ _ _ _ _ _ _ c.write-w.ensures.laid c.fitting-n.ensures).1

pub slice_bounds-put-end : goal.slice_bounds-put-end
slice_bounds-put-end c = sym (sizes (goal.at.slice_bounds-put-end c).After-fitting-n).1

pub put-at-requires : goal.put-at-requires
put-at-requires c = omega (arith, sizes (goal.at.put-at-requires c).After-fitting-n)

pub overflow_mul-result : goal.overflow_mul-result
overflow_mul-result c = omega (arith, sizes (goal.at.overflow_mul-result c).After-fitting-n)

pub returns-then-n-w : goal.returns-then-n-w
returns-then-n-w c =
    let i = c.loop-from.invariant in
    line_cut _ _ _ _ _ c.loop-from.from _ _ _ _ _ _ _ c.loop-from-test.true c.end_of-end.ensures i.0 (omega arith) i.5.1.1 (told (goal.at.returns-then-n-w c).After-fitting-n) _ _ _
    c.fitting-n.ensures c.put-at.ensures c.if-n-w.true

pub overflow_mul-result-then-is_over : goal.overflow_mul-result-then-is_over
overflow_mul-result-then-is_over c =
    omega (arith, sizes (goal.at.overflow_mul-result-then-is_over c).After-fitting-n)

pub returns-then-is_over : goal.returns-then-is_over
returns-then-is_over c =
    let i = c.loop-from.invariant in
    line_last _ _ _ _ _ c.loop-from.from _ _ _ _ _ _ _ c.loop-from-test.true c.end_of-end.ensures i.0 (omega arith) i.5.1.1 (told (goal.at.returns-then-is_over c).After-fitting-n) _ _ _
    c.fitting-n.ensures c.put-at.ensures c.if-n-w.false (sym c.is_over.ensures ∙ c.if-is_over.true)

pub loop-from-preserved : goal.loop-from-preserved
loop-from-preserved c =
    let i = c.loop-from.invariant in
    let s = (goal.at.loop-from-preserved c).After-fitting-n in
    let b = told s in (
      omega (arith, sizes s),
      c.put-at.auto.out ∙ i.1,
      c.read-plan.auto.numbers ∙ i.2,
      (done s).size,
      omega arith,
      (_, (b.tracks, line_put _ _ _ _ _ c.loop-from.from _ _ _ _ _ _ _ c.loop-from-test.true c.end_of-end.ensures i.0 (omega arith) i.5.1.1 b _ _ _ c.fitting-n.ensures c.put-at.ensures c.if-n-w.false)),
    )

pub returns : goal.returns
returns c = rest_end _ _ _ _ _ _ (told_all_lem c.loop-from.invariant.5.0 _ c.loop-from.from c.loop-from-test.false) c.loop-from.invariant.5.1.1
