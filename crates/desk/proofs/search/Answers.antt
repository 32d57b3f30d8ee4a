-- `search` meets its contract: what was gathered is searched. Assumes nothing.
use Rattle.desk.proofs.Gathering.{search_all}
use Rattle.desk.proofs.search.Goals as goal

pub returns : goal.returns
returns c = search_all c.args.lead _ _ _ _ _ _ _ c.min-n.ensures c.wide.ensures.0 c.search.ensures
