-- `forget_above` meets its contract: the first i entries are rewritten, the others are as they were. Assumes nothing.
use Rattle.std.proofs.Common.{◌≡◌, ℕ, sym, ap, ◌∙◌, add-one, arith, rules, min, length}
use Rattle.search.specs.Core.{forget_above}
use Rattle.search.proofs.Ways.{forget_none, forget_capped, forgets}
use Rattle.search.proofs.rewind.forget_above.Goals as goal

pub loop-i-init : goal.loop-i-init
loop-i-init c = sym (forget_none _ _)

pub loop-i-preserved : goal.loop-i-preserved
loop-i-preserved c = rw add-one (forgets c.args.limit c.args.a.now c.loop-i.a c.loop-i.i c.loop-i.invariant _ c.up_to.ensures)

-- an array has no entry past its 512
pub returns : goal.returns
returns c =
    let a = c.args in
    let long : length a.a.now ≡ 512 = search rules in
    let done : c.loop-i.i ≡ min a.size 512 = omega arith in
    c.loop-i.invariant ∙ ap (λ (n : ℕ). forget_above a.limit n a.a.now) done ∙ forget_capped a.limit a.a.now a.size 512 long
