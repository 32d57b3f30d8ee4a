-- `scan` meets its contract: what is left of the row, with the groups that are left, comes to what the whole does. Assumes nothing.
use mathlib.Core.Path.{◌≡◌}
use Prim.Native.Nat.{◌-◌, ◌≤◌}
use lib.ListN.{drop}
use Rattle.components.specs.Model.{row_of, scanned}
use Rattle.components.proofs.Laws.{edges_at}
use Rattle.components.proofs.scan.Given as goal

abbrev pub invariant-loop-at : goal.invariant-loop-at
invariant-loop-at l = record {
  begun : l.row.from ≤ l.at;
  left : scanned l.board.number l.board.firsts (edges_at l.rows.targets l.row.from l.row.stop l.at) (l.at - l.row.from) l.n ≡ scanned l.board.number l.board.firsts (drop l.k (row_of l.rows.targets l.rows.starts l.v)) l.k l.groups;
}
