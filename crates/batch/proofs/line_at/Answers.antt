-- `line_at` meets its contract. Assumes nothing.
use mathlib.Core.Path.{sym, ◌∙◌}
use Rattle.batch.proofs.Batches.{head_few, head_lent}
use Rattle.batch.proofs.line_at.Goals as goal

pub returns-then-lines-at-lt-LINE : goal.returns-then-lines-at-lt-LINE
returns-then-lines-at-lt-LINE c = let a = c.args in
    c.line.ensures ∙ sym (head_lent a.alone a.lines.now a.at c.in_default.is ∙ head_few a.lines.now a.at c.if-lines-at-lt-LINE.true)
