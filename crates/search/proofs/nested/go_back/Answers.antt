-- `go_back` meets its contract. Assumes nothing.
use mathlib.Core.Path.{◌∙◌}
use native.Mathlib.Numerals.{add-one}
use Rattle.search.specs.Core.{core_in}
use Rattle.search.proofs.Ways.{back_out, back_down}
use Rattle.search.proofs.nested.go_back.Goals as goal

pub returns-then-w : goal.returns-then-w
returns-then-w c = λ spent.
    let a = c.args in
    back_out (core_in a.w spent a.records.now a.trail.now) c.if-w.true c.put.ensures c.leave.ensures

pub returns : goal.returns
returns c = λ spent.
    let a = c.args in
    back_down (core_in a.w spent a.records.now a.trail.now) c.if-w.false c.down-top.ensures c.down-at.ensures c.get-2.ensures (c.wide-next.ensures.0 ∙ c.get.ensures) (add-one c.wide-next.result)
