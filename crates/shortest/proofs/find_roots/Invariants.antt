-- `find_roots` meets its contract: what the search has seen can be reached, and each turn files a state that is a root. Assumes nothing.
use mathlib.Core.Path.{◌≡◌}
use Prim.Native.Nat.{◌≤◌}
use lib.ListN.{length}
use Rattle.shortest.proofs.Rooting.{FiledAll}
use Rattle.shortest.proofs.find_roots.Given as goal

abbrev pub invariant-loop-s : goal.invariant-loop-s
invariant-loop-s l = (length l.roots ≡ 512) × (l.s ≤ l.size) × FiledAll l.rows.targets l.rows.starts l.words l.size l.start l.roots l.count l.s
