-- `remove` meets its contract. Assumes nothing.
use mathlib.Core.Path.{◌≡◌, ◌∙◌}
use Prim.Native.Nat.{ℕ, ◌+◌, ◌≤◌, ◌<◌}
use native.Mathlib.Omega.{arith}
use borrow.Author.Tests.{ltb-true, leb-true}
use lib.ListN.{get_or}
use Rattle.rows.specs.Rows.{edge_count}
use Rattle.rows.proofs.Paste.{same_place}
use Rattle.rows.proofs.Outcome.{remove_done, remove_undone}
use Rattle.rows.proofs.Rows.remove.Goals as goal
use Rattle.rows.proofs.Rows.remove.Goals.{After-wide-count, Then-count-le-EDGES}
use Rattle.rows.proofs.Rows.remove.Goals.{else-size-le-STATES-via-then-size-le-STATES+then-v-size+then-at-count+else-count-le-EDGES, else-size-le-STATES-via-then-size-le-STATES+then-v-size+else-at-count, else-size-le-STATES-via-then-size-le-STATES+else-v-size, else-size-le-STATES-via-else-size-le-STATES}

-- the place of the edge
abbrev at : After-wide-count → ℕ
at c = c.wide.result + c.wide-2.result

-- the place and the count that were read
found : (c : After-wide-count) → (at c ≡ get_or c.args.self.now.starts c.args.v 0 + c.args.k)
    × (c.wide-count.result ≡ edge_count c.args.self.now.starts c.args.size)
found c =
    let from = c.start_of.ensures ∙ same_place c.args.self.now.starts c.wide-i.ensures.0 in
    (omega arith, c.wide-count.ensures.0 ∙ c.edge_count.ensures)

-- the tests that were passed
passed : (c : Then-count-le-EDGES) → (c.args.size ≤ 512) × (c.args.v < c.args.size) × (at c.before.before.before.before < c.wide-count.result) × (c.wide-count.result ≤ 2048)
passed c = (omega (arith, c.if-size-le-STATES.true), omega (arith, ltb-true), omega (arith, ltb-true), omega (arith, leb-true))

pub move_starts-requires : goal.move_starts-requires
move_starts-requires c = let p = passed c.before.before.before.before in
    (omega arith, omega arith)

pub returns-then-count-le-EDGES : goal.returns-then-count-le-EDGES
returns-then-count-le-EDGES c = let p = passed c.before.before.before.before.before in
    let a = c.args in
    remove_done a.size a.v a.k a.self.now.targets a.self.now.starts _ _ (found c.before.before.before.before.before.before.before.before.before).0 (found c.before.before.before.before.before.before.before.before.before).1 p.0 p.1 p.2 p.3 _ _
    (omega arith) c.wide-then-count-le-EDGES.ensures.0 _ _ c.shift_down.ensures c.move_starts.ensures

pub returns-else-size-le-STATES : goal.returns-else-size-le-STATES
returns-else-size-le-STATES c =
    let a = c.args in
    remove_undone a.size a.v a.k a.self.now.targets a.self.now.starts _ _ (found c.before).0 (found c.before).1
    (λ few state there held.
    elim c.else-size-le-STATES.branch [
      | else-size-le-STATES-via-then-size-le-STATES+then-v-size+then-at-count+else-count-le-EDGES w ↦ omega arith
      | else-size-le-STATES-via-then-size-le-STATES+then-v-size+else-at-count w ↦ omega arith
      | else-size-le-STATES-via-then-size-le-STATES+else-v-size w ↦ omega arith
      | else-size-le-STATES-via-else-size-le-STATES w ↦ omega arith
    ])
