-- `try_lengths` meets its contract: each turn is a length, and those that are left come to what all do. Assumes nothing.
use mathlib.Core.Path.{◌≡◌}
use Prim.Native.Nat.{◌≤◌}
use lib.ListN.{length}
use Rattle.shortest.proofs.Trying.{LeftLengths}
use Rattle.shortest.proofs.try_lengths.Given as goal

abbrev pub invariant-loop-ruled_out : goal.invariant-loop-ruled_out
invariant-loop-ruled_out l = (length l.board.queue ≡ 512) × (l.ruled_out ≤ l.present) × LeftLengths l.rows.targets l.rows.starts l.roots l.count l.budget l.present l.ruled_out l.board.spent
