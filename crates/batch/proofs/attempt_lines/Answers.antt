-- `attempt_lines` meets its contract: what is left of the lines comes to what all of them come to. Assumes nothing.
use mathlib.Core.Path.{sym, ◌∙◌}
use native.Mathlib.Omega.{arith}
use Rattle.batch.proofs.Batches.{numbers_length, walk_ended, walk_stopped, walk_on}
use Rattle.batch.proofs.attempt_lines.Goals as goal

pub returns-then-is_refused : goal.returns-then-is_refused
returns-then-is_refused c = let a = c.args in
    walk_stopped _ _ _ _ _ _ _ _ c.loop-at.invariant (omega (arith, c.lines_end-end.ensures, numbers_length a.alone a.lines.now _ c.is_some.ensures)) c.line_at-line.result c.line_at-line.ensures c.attempt_line-trial.result _ c.attempt_line-trial.ensures
    _ _ c.ended.ensures (sym c.is_refused.ensures ∙ c.if-is_refused.true)

pub loop-at-preserved : goal.loop-at-preserved
loop-at-preserved c = let a = c.args in
    walk_on _ _ _ _ _ _ _ _ c.loop-at.invariant (omega (arith, c.lines_end-end.ensures, numbers_length a.alone a.lines.now _ c.is_some.ensures)) c.line_at-line.result c.line_at-line.ensures c.attempt_line-trial.result _ c.attempt_line-trial.ensures
    (sym c.is_refused.ensures ∙ c.if-is_refused.false)

pub returns : goal.returns
returns c = let a = c.args in
    walk_ended _ _ _ _ _ _ _ _ c.loop-at.invariant _ _ c.ended-2.ensures (omega (arith, c.loop-at-test.false, c.lines_end-end.ensures, numbers_length a.alone a.lines.now _ c.is_some.ensures))
