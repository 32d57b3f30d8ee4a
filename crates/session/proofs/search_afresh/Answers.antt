-- `search_afresh` meets its contract: the search is begun, and settled from there. Assumes nothing.
use Rattle.session.proofs.Afresh.{settles_fresh}
use Rattle.session.proofs.search_afresh.Goals as goal

pub returns : goal.returns
returns c = settles_fresh c.begin.ensures c.no_verdict.ensures c.settle.ensures
