-- `insert` meets its contract. Assumes nothing.
use mathlib.Core.Path.{◌≡◌, ◌∙◌}
use Prim.Native.Nat.{suc, ◌≤◌, ◌<◌}
use native.Mathlib.Omega.{arith}
use borrow.Author.Tests.{ltb-true, leb-true}
use lib.ListN.{get_or}
use Rattle.rows.specs.Rows.{edge_count}
use Rattle.rows.proofs.Paste.{same_place}
use Rattle.rows.proofs.Outcome.{insert_done, insert_undone}
use Rattle.rows.proofs.Rows.insert.Goals as goal
use Rattle.rows.proofs.Rows.insert.Goals.{After-wide-count, Then-count-lt-EDGES}
use Rattle.rows.proofs.Rows.insert.Goals.{else-size-le-STATES-via-then-size-le-STATES+then-v-size+then-at-count+else-count-lt-EDGES, else-size-le-STATES-via-then-size-le-STATES+then-v-size+else-at-count, else-size-le-STATES-via-then-size-le-STATES+else-v-size, else-size-le-STATES-via-else-size-le-STATES}

-- the place and the count that were read
found : (c : After-wide-count) → (c.wide-at.result ≡ get_or c.args.self.now.starts (suc c.args.v) 0)
    × (c.wide-count.result ≡ edge_count c.args.self.now.starts c.args.size)
found c = (
  c.wide-at.ensures.0 ∙ c.start_of.ensures ∙ same_place c.args.self.now.starts (omega arith),
  c.wide-count.ensures.0 ∙ c.edge_count.ensures,
)

-- the tests that were passed
passed : (c : Then-count-lt-EDGES) → (c.args.size ≤ 512) × (c.args.v < c.args.size) × (c.wide-at.result ≤ c.wide-count.result) × (c.wide-count.result < 2048)
passed c = (omega (arith, c.if-size-le-STATES.true), omega (arith, ltb-true), omega (arith, leb-true), omega (arith, ltb-true))

pub move_starts-requires : goal.move_starts-requires
move_starts-requires c = let p = passed c.before.before.before.before in
    (omega arith, omega arith)

pub returns-then-count-lt-EDGES : goal.returns-then-count-lt-EDGES
returns-then-count-lt-EDGES c = let p = passed c.before.before.before.before.before in
    let a = c.args in
    insert_done a.size a.v a.t a.self.now.targets a.self.now.starts _ _ (found c.before.before.before.before.before.before.before.before.before).0 (found c.before.before.before.before.before.before.before.before.before).1 p.0 p.1 p.2 p.3 _ _
    (omega arith) c.wide.ensures.0 _ _ c.shift_up.ensures c.move_starts.ensures

pub returns-else-size-le-STATES : goal.returns-else-size-le-STATES
returns-else-size-le-STATES c =
    let a = c.args in
    insert_undone a.size a.v a.t a.self.now.targets a.self.now.starts _ _ (found c.before).0 (found c.before).1
    (λ few state ends free.
    elim c.else-size-le-STATES.branch [
      | else-size-le-STATES-via-then-size-le-STATES+then-v-size+then-at-count+else-count-lt-EDGES w ↦ omega arith
      | else-size-le-STATES-via-then-size-le-STATES+then-v-size+else-at-count w ↦ omega arith
      | else-size-le-STATES-via-then-size-le-STATES+else-v-size w ↦ omega arith
      | else-size-le-STATES-via-else-size-le-STATES w ↦ omega arith
    ])
