-- `shorten` meets its contract. Assumes nothing.
use Rattle.shortest.proofs.Rooting.{shortened}
use Rattle.shortest.proofs.shorten.Goals as goal

pub returns : goal.returns
returns c = λ t. shortened _ _ _ _ _ _ _ _ _ _ _ c.find_roots-count.ensures c.try_lengths.ensures t
