-- `has_loop` meets its contract: the test of the edges that are left comes to that of the row. Assumes nothing.
use mathlib.Core.Path.{sym, ◌∙◌}
use mathlib.Core.Bool.{true, false}
use borrow.Author.Tests.{eq-eqb, ne_eqb}
use Rattle.components.proofs.Laws.{test_ends, test_next, row_test}
use Rattle.components.proofs.has_loop.Goals as goal

pub loop-e-init : goal.loop-e-init
loop-e-init c = row_test _ _ _ c.row_of-row.result c.row_of-row.ensures

pub returns-then-look-v : goal.returns-then-look-v
returns-then-look-v c = test_next _ _ _ _ c.loop-e-test.true _ c.look.ensures.0 true (eq-eqb _ _ (sym c.if-look-v.true)) ∙ c.loop-e.invariant

pub loop-e-preserved : goal.loop-e-preserved
loop-e-preserved c = test_next _ _ _ _ c.loop-e-test.true _ c.look.ensures.0 false (ne_eqb _ _ (λ z. c.if-look-v.false (sym z))) ∙ c.loop-e.invariant

pub returns : goal.returns
returns c = test_ends _ _ _ _ c.loop-e-test.false ∙ c.loop-e.invariant
