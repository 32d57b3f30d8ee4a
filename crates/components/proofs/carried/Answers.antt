-- `carried` meets its contract: a test at each place is one of the entries there. Assumes nothing.
use mathlib.Core.Path.{refl, ◌∙◌}
use Prim.Native.Nat.{◌+◌}
use borrow.Author.Rules.{rules}
use borrow.Author.Tests.{tests}
use lib.ListN.{get_or}
use Rattle.std.proofs.lemmas.Iterator.{YieldsList-from_range}
use Rattle.std.proofs.lemmas.Iterator.Search.{any_from_yields_List}
use Rattle.plain.specs.Table.{accepts}
use Rattle.components.proofs.Laws.{any_places}
use Rattle.components.proofs.carried.Goals as goal

pub returns : goal.returns
returns c =
    let a = c.args in
    any_from_yields_List (λ i. accepts a.words.now (a.base + get_or a.stack.now i 0)) _ _ c.any.result c.any.ensures.ran (YieldsList-from_range _ _ _ refl refl) (λ x b q k. search (rules, tests))
    ∙ any_places (λ s. accepts a.words.now (a.base + s)) a.stack.now _ a.from
