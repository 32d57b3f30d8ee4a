-- `read_row` meets its contract: the rows from the index on find what the whole table finds. Assumes nothing.
use mathlib.Core.Path.{refl, sym, ◌∙◌}
use Rattle.line.specs.Fields.{bytes}
use Rattle.line.specs.Records.{words}
use Rattle.line.proofs.Words.{row_found, row_spelt, row_passed, rows_end}
use Rattle.line.proofs.read_row.Goals as goal

pub loop-spelling-init : goal.loop-spelling-init
unfolding words bytes
loop-spelling-init c = record { table = refl; rest = row_found _ refl }

pub returns-then-eq : goal.returns-then-eq
unfolding words
returns-then-eq c = row_spelt _ _ _ c.loop-spelling.invariant c.loop-spelling-test.true _ (sym c.eq.ensures ∙ c.if-eq.true)

pub loop-spelling-preserved : goal.loop-spelling-preserved
unfolding words
loop-spelling-preserved c = row_passed _ _ _ c.loop-spelling.invariant c.loop-spelling-test.true _ (sym c.eq.ensures ∙ c.if-eq.false)

pub returns : goal.returns
unfolding words
returns c = rows_end _ _ _ c.loop-spelling.invariant c.loop-spelling-test.false
