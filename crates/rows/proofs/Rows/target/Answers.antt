-- `target` meets its contract. Assumes nothing.
use mathlib.Core.Path.{◌≡◌, sym, ◌∙◌}
use Prim.Native.Nat.{◌+◌, ◌<◌}
use native.Mathlib.Omega.{arith}
use lib.ListN.{get_or}
use Rattle.rows.specs.Rows.{degree_at}
use Rattle.rows.proofs.Paste.{past, same_place}
use Rattle.rows.proofs.Entries.{row_at_lem, row_past}
use Rattle.rows.proofs.Rows.target.Goals as goal
use Rattle.rows.proofs.Rows.target.Goals.{After-wide-then-k-degree-2}

-- the edge is there, and its place is found
found : (c : After-wide-then-k-degree-2) → (c.args.k < degree_at c.args.self.now.starts c.args.v)
    × (c.wide-then-k-degree.result + c.wide-then-k-degree-2.result ≡ get_or c.args.self.now.starts c.args.v 0 + c.args.k)
found c =
    let from = c.start_of.ensures ∙ same_place c.args.self.now.starts c.wide.ensures.0 in
    (omega arith, omega arith)

pub returns-then-at-lt-EDGES : goal.returns-then-at-lt-EDGES
returns-then-at-lt-EDGES c = let f = found c.before.before.before.before in
    same_place c.args.self.now.targets f.1 ∙ sym (row_at_lem _ _ _ _ f.0)

pub returns-else-at-lt-EDGES : goal.returns-else-at-lt-EDGES
returns-else-at-lt-EDGES c = let f = found c.before in
    let a = c.args in
    sym (row_at_lem _ _ _ _ f.0 ∙ past a.self.now.targets (get_or a.self.now.starts a.v 0 + a.k) (omega arith))

pub returns-else-k-degree : goal.returns-else-k-degree
returns-else-k-degree c = sym (row_past _ _ _ _ (omega arith))
