-- `accepts` meets its contract: only a state below the size is asked for its mark. Assumes nothing.
use mathlib.Core.Path.{ap, ◌∙◌}
use Prim.Native.Nat.{ℕ, ◌%◌}
use borrow.Author.Tests.{le-ltb}
use Rattle.plain.specs.Table.{accepts}
use Rattle.search.proofs.Ways.{accepts_below_lem, accepts_beyond}
use Rattle.search.proofs.outer.accepts.Goals as goal

pub returns-then-v-size : goal.returns-then-v-size
returns-then-v-size c = let a = c.args in
    c.accepts_in.ensures ∙ ap (λ (n : ℕ). accepts a.game.words.now (n % 512)) c.wide.ensures.0 ∙ accepts_below_lem a.game.words.now a.game.size a.v c.if-v-size.true

pub returns-else-v-size : goal.returns-else-v-size
returns-else-v-size c = let a = c.args in le-ltb _ _ c.if-v-size.false ∙ accepts_beyond a.game.words.now a.game.size a.v c.if-v-size.false
