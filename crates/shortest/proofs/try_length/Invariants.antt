-- `try_length` meets its contract: each turn is a root, and those that are left come to what all do. Assumes nothing.
use mathlib.Core.Path.{◌≡◌}
use lib.ListN.{length}
use Rattle.shortest.proofs.Trying.{Left}
use Rattle.shortest.proofs.try_length.Given as goal

abbrev pub invariant-loop-i : goal.invariant-loop-i
invariant-loop-i l = (length l.board.queue ≡ 512) × Left l.rows.targets l.rows.starts l.roots l.count l.budget l.len l.initial.board.spent l.i l.board.spent
