-- `discover` meets its contract: each call writes one array. Assumes nothing.
use Rattle.search.specs.Core.{core_in, placed}
use Rattle.search.proofs.Ways.{discovers}
use Rattle.search.proofs.outer.discover.Goals as goal

pub returns : goal.returns
returns c = let a = c.args in
    discovers (core_in (placed a.w a.edge.index) a.spent a.records.now a.trail.now) a.edge.target c.put.ensures c.put-2.ensures c.put-3.ensures c.plus.ensures c.put-4.ensures
    c.put-5.ensures c.put-6.ensures c.up-height.ensures c.up.ensures
