-- `deepen` meets its contract: each call writes one array. Assumes nothing.
use Rattle.search.specs.Core.{core_in, placed}
use Rattle.search.proofs.Ways.{deepens}
use Rattle.search.proofs.nested.deepen.Goals as goal

pub returns : goal.returns
returns c = λ spent.
    let a = c.args in
    deepens (core_in (placed a.w a.edge.index) spent a.records.now a.trail.now) a.edge.target c.put.ensures c.put-2.ensures c.down.ensures c.put-3.ensures c.further.ensures
