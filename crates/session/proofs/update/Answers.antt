-- `update` meets its contract: what the call leaves in the arrays is put back into the session. Assumes nothing.
use Prim.Native.Nat.{◌<◌}
use mathlib.Core.Path.{◌≡◌, refl, subst⁻¹}
use Rattle.verdict.specs.declared.Answer.{Answer}
use Rattle.session.specs.declared.Session.{Session}
use Rattle.session.specs.Promises.{command_of, Updates}
use native.Mathlib.Omega.{arith}
use lib.ListN.{length}
use Rattle.session.proofs.Performing.{update_right}
use borrow.Author.Rules.{rules}
use Rattle.session.proofs.update.Goals as goal

pub returns : goal.returns
returns c = let b = c.args in
    let walk_size : length b.s.records.walk ≡ 512 = search rules in
    let total_fits : b.s.total < 65536 = search rules in
    subst⁻¹ (λ (x : Answer × Session). Updates (command_of b.command b.lines.now) b.s b.lent.now (record { answer = x.0; session = x.1 }) c.perform-r.new.lent)
    (λ i. (c.conclude-answer.ensures.answer i, c.conclude-answer.ensures.session i))
    (update_right b.command b.lines.now b.s b.lent.now _ _ _ c.perform-r.result _ walk_size (omega (arith, total_fits)) refl c.perform-r.ensures)
