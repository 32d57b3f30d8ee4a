-- `attempt_call` meets its contract: its changes are made, or the arrays are as they were. Assumes nothing.
use mathlib.Core.Path.{refl, sym, ◌∙◌}
use Rattle.plain.proofs.Tests.{contra}
use Rattle.batch.proofs.Batches.{call_stopped, call_tried, call_made, call_alone}
use Rattle.batch.proofs.attempt_call.Goals as goal

pub returns-then-is_refused : goal.returns-then-is_refused
returns-then-is_refused c =
    call_made _ _ _ _ _ _
    (call_stopped _ _ _ _ _ _ c.ahead_trial-ahead.result c.ahead_trial-ahead.ensures _ c.ended.ensures (sym c.is_refused.ensures ∙ c.if-is_refused.true))
    (λ e. refl) (λ e. refl)

pub returns-then-is_some : goal.returns-then-is_some
returns-then-is_some c =
    call_made _ _ _ _ _ _
    (call_tried _ _ _ _ _ _ c.ahead_trial-ahead.result c.ahead_trial-ahead.ensures (sym c.is_refused.ensures ∙ c.if-is_refused.false) _ _ c.attempt_lines.ensures)
    (λ e. refl) (call_alone _ _ _ _ _ _ _ _ (sym c.is_some.ensures ∙ c.if-is_some.true) c.attempt_lines.ensures)

pub returns-then-is_refused-2 : goal.returns-then-is_refused-2
returns-then-is_refused-2 c =
    call_made _ _ _ _ _ _
    (call_tried _ _ _ _ _ _ c.ahead_trial-ahead.result c.ahead_trial-ahead.ensures (sym c.is_refused.ensures ∙ c.if-is_refused.false) _ _ c.attempt_lines-r.ensures)
    (λ e. absurd (contra (sym c.is_refused-2.ensures ∙ c.if-is_refused-2.true) e)) (λ e. refl)

pub returns-else-is_refused-2 : goal.returns-else-is_refused-2
returns-else-is_refused-2 c =
    call_made _ _ _ _ _ _
    (call_tried _ _ _ _ _ _ c.ahead_trial-ahead.result c.ahead_trial-ahead.ensures (sym c.is_refused.ensures ∙ c.if-is_refused.false) _ _ c.attempt_lines-r.ensures)
    (λ e. refl) (λ e. absurd (contra e (sym c.is_refused-2.ensures ∙ c.if-is_refused-2.false)))
