-- `carries_all` meets its contract: every kind is asked for. Assumes nothing.
use mathlib.Core.Path.{refl, ◌∙◌}
use Prim.Native.Nat.{◌-◌}
use native.Mathlib.Omega.{arith}
use borrow.Author.Rules.{rules}
use borrow.Author.Tests.{tests}
use Rattle.std.proofs.lemmas.Iterator.{YieldsList-from_range}
use Rattle.std.proofs.lemmas.Iterator.Search.{all_from_yields_List}
use Rattle.rows.specs.Rows.{entries}
use Rattle.components.proofs.Laws.{kind_carried, all_kinds}
use Rattle.components.proofs.carries_all.Goals as goal

pub returns : goal.returns
returns c =
    let a = c.args in
    let states = entries (a.stop - a.from) a.from a.stack.now in
    all_from_yields_List (kind_carried a.words.now a.size states) _ _ c.all.result c.all.ensures.ran (YieldsList-from_range _ _ a.kinds refl (omega arith)) (λ x b q k. search (rules, tests))
    ∙ all_kinds a.words.now a.size states _
