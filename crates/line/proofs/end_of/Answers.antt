-- `end_of` meets its contract: what stands before the first stop behind the place. Assumes nothing.
use mathlib.Core.Path.{◌≡◌, ap, ◌∙◌}
use Prim.Native.Nat.{ℕ, ◌+◌, ◌-◌}
use mathlib.Core.List.{List}
use lib.Dec.{eqb}
use lib.ListN.{length, drop, take}
use Rattle.std.proofs.Common.{rules, tests}
use Rattle.std.proofs.lemmas.Iterator.{YieldsList-from_slice}
use Rattle.std.proofs.lemmas.Iterator.Search.{position_from_yields_List}
use Rattle.std.proofs.lemmas.List.{take_rest}
use Rattle.std.specs.Prelude.{position}
use Rattle.line.specs.Fields.{up_to}
use Rattle.line.proofs.Fields.{first_stop}
use Rattle.line.proofs.end_of.Goals as goal

pub returns : goal.returns
returns c =
    let rest : List ℕ = take (length c.args.s.now - c.args.from) (drop c.args.from c.args.s.now) in
    let found : c.position.result ≡ position (λ x. eqb x c.args.stop) rest =
    position_from_yields_List (λ x. eqb x c.args.stop) _ _ _ c.position.ensures.ran (YieldsList-from_slice rest cc) (λ x b q k. search (rules, tests)) in
    ap (λ (n : ℕ). c.args.from + n) (c.unwrap_or.ensures ∙ first_stop _ rest _ found ∙ ap (up_to c.args.stop) (take_rest c.args.s.now c.args.from))
