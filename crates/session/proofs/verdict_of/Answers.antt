-- `verdict_of` meets its contract. Assumes nothing.
use mathlib.Core.Path.{sym, ◌∙◌}
use Rattle.session.specs.Model.{verdict_of}
use Rattle.session.proofs.verdict_of.Goals as goal

pub returns-then-is_found : goal.returns-then-is_found
unfolding verdict_of
returns-then-is_found c = rw (sym c.is_found.ensures ∙ c.if-is_found.true)

pub returns : goal.returns
unfolding verdict_of
returns c = rw (sym c.is_found.ensures ∙ c.if-is_found.false)
