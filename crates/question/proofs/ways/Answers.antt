-- `ways` meets its contract. Assumes nothing.
use mathlib.Core.Path.{sym, ◌∙◌}
use Rattle.question.specs.declared.Reply.TheVariants.{Degrees}
use Rattle.question.proofs.Replies.{ways_outside, ways_inside}
use Rattle.question.proofs.ways.Goals as goal

pub returns-then-size-state : goal.returns-then-size-state
returns-then-size-state c = sym (ways_outside _ _ _ _ c.if-size-state.true)

pub returns : goal.returns
returns c = let d = c in
    (λ i. Degrees d.args.state (d.degree-leaving.ensures i) (c.get-entering.ensures i)) ∙ sym (ways_inside _ _ _ _ d.if-size-state.false)
