-- `kinds_trial` meets its contract. Assumes nothing.
use mathlib.Core.Path.{◌≡◌, sym, ap, ◌∙◌}
use borrow.Author.Tests.{eq-eqb, ne_eqb}
use Rattle.plain.specs.Refusals.{bad_kinds}
use Rattle.rows.specs.Rows.{edge_count}
use Rattle.table.specs.Trials.{kinds_trial_in}
use Rattle.table.proofs.Trying.{stop, skip}
use Rattle.table.proofs.kinds_trial.Goals as goal
use Rattle.table.proofs.kinds_trial.Goals.{After-kinds_outside}

pub returns-then-size-eq0 : goal.returns-then-size-eq0
unfolding kinds_trial_in
returns-then-size-eq0 c = stop 2 _ _ (eq-eqb _ 0 c.if-size-eq0.true)

-- the moves are those that the rows count
asked : (c : After-kinds_outside) → let a = c.args in bad_kinds a.new a.size (edge_count a.starts.now a.size) ≡ c.kinds_outside.result
asked c =
    let a = c.args in
    ap (bad_kinds a.new a.size) (sym (c.wide.ensures.0 ∙ c.edge_count.ensures)) ∙ sym c.kinds_outside.ensures

pub returns-then-kinds_outside : goal.returns-then-kinds_outside
unfolding kinds_trial_in
returns-then-kinds_outside c = skip _ 2 _ _ (ne_eqb _ 0 c.if-size-eq0.false) (stop 16 _ _ (asked c.before ∙ c.if-kinds_outside.true))

pub returns : goal.returns
unfolding kinds_trial_in
returns c = skip _ 2 _ _ (ne_eqb _ 0 c.if-size-eq0.false) (skip _ 16 _ _ (asked c.before.before ∙ c.if-kinds_outside.false) c.room_trial.ensures)
