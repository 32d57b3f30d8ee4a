-- `where_to_resume` meets its contract. Assumes nothing.
use mathlib.Core.Path.{sym, ap, ◌∙◌}
use mathlib.Core.List.{List}
use Prim.Native.Nat.{ℕ}
use Rattle.resumption.specs.Model.{copies_up_all, earliest_of}
use Rattle.resumption.proofs.Lines.{resumption_nowhere, resumption_earliest}
use Rattle.resumption.proofs.where_to_resume.Goals as goal

pub returns-then-all_passed_over : goal.returns-then-all_passed_over
returns-then-all_passed_over c = sym (resumption_nowhere _ _ _ _ _ _ _ _ (sym c.all_passed_over.ensures ∙ c.if-all_passed_over.true))

pub returns : goal.returns
returns c = let a = c.args in
    c.earliest.ensures ∙ ap (λ (l : List ℕ). earliest_of (copies_up_all a.size a.kinds l) a.number.now) c.name_states-n.ensures.2
    ∙ sym (resumption_earliest _ _ _ _ _ _ _ _ (sym c.all_passed_over.ensures ∙ c.if-all_passed_over.false))
