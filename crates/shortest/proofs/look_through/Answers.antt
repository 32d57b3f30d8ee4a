-- `look_through` meets its contract: each turn is a look, and what is left of the row comes to what the whole row does. Assumes nothing.
use mathlib.Core.Path.{◌≡◌, ◌∙◌}
use Prim.Native.Nat.{ℕ, suc, ◌+◌, ◌%◌, ◌<◌}
use native.Mathlib.Omega.{arith}
use Rattle.shortest.proofs.Looking.{left_begins, left_stops, left_returns, left_goes_on, left_ends}
use borrow.Author.Rules.{rules}
use Rattle.shortest.proofs.look_through.Goals as goal

-- a count below the budget does not wrap
one_more : (spent budget : ℕ) → spent < budget → budget < 65536 → (spent + 1) % 65536 ≡ suc spent
one_more spent budget h k = omega arith

pub loop-e-init : goal.loop-e-init
loop-e-init c = (record { queue_size = search rules; seen_size = search rules }, left_begins _ _ _ _ _ _ _ c.row_of-row.result c.row_of-row.ensures)

pub returns-then-budget-board : goal.returns-then-budget-board
returns-then-budget-board c = left_stops _ _ _ _ _ _ _ _ _ _ _ c.loop-e.invariant.0 c.loop-e.invariant.1 c.loop-e-test.true c.if-budget-board.true

-- the row ends within the array of targets
pub look-t-requires : goal.look-t-requires
look-t-requires c = omega (arith, c.loop-e-test.true, c.row_of-row.ensures.stop_small)

pub returns-then-t-goal : goal.returns-then-t-goal
returns-then-t-goal c = left_returns _ _ _ _ _ _ _ _ _ _ _ c.loop-e.invariant.0 c.loop-e.invariant.1 c.loop-e-test.true c.if-budget-board.false c.look-t.result c.look-t.ensures.0 _ c.if-t-goal.true

pub loop-e-preserved : goal.loop-e-preserved
loop-e-preserved c = (
  c.note-tail.ensures.noted.sized,
  left_goes_on _ _ _ _ _ _ _ _ _ _ _ c.loop-e.invariant.0 c.loop-e.invariant.1 c.loop-e-test.true c.if-budget-board.false c.look-t.result c.look-t.ensures.0 c.if-t-goal.false _
      (c.note-tail.ensures.spent_kept ∙ c.look-t.ensures.1 ∙ one_more _ _ c.if-budget-board.false (search rules)) _ _ _ c.note-tail.ensures.noted,
)

pub returns : goal.returns
returns c = left_ends _ _ _ _ _ _ _ _ _ _ _ c.loop-e.invariant.0 c.loop-e.invariant.1 c.loop-e-test.false
