-- The marks where no `pay` is taken, and the numbers of a line that is taken, which stand behind those of the lines before it. Assumes nothing.
use Prim.Native.Nat.{ℕ, ◌+◌, ◌≤◌}
use mathlib.Core.Path.{◌≡◌}
use mathlib.Core.Bool.{true, false}
use mathlib.Core.List.{List, [], ◌∷◌, ◌++◌}
use native.Mathlib.Omega.{arith}
use lib.ListN.{length, take}
use Rattle.std.proofs.lemmas.Grind.{common_steps}
use Rattle.line.specs.declared.Record.{Record}
use Rattle.answer.specs.Bytes.{overwritten}
use Rattle.answer.proofs.Laws.{length_overwritten}
use Rattle.lead.specs.declared.Lead.{Lead}
use Rattle.lead.specs.declared.Stage.{Stage}
use Rattle.lead.specs.Asked.{gathers_pay, takes_pay, filed_pay, takes_move, filed_move, takes_line, line_read, numbers_of, filed_line, filed}

-- ---- what stands at the head of a list that was overwritten

front_kept : (ns bs : List ℕ) (at : ℕ) → at ≤ length ns → take at (overwritten ns at bs) ≡ take at ns
unfolding overwritten
front_kept ns bs at h = grind (arith, common_steps)

front_put : (ns bs : List ℕ) (at : ℕ) → at ≤ length ns → take (at + length bs) (overwritten ns at bs) ≡ take at ns ++ bs
unfolding overwritten
front_put ns bs at h = grind (arith, common_steps)

-- ---- the marks behind a line

module _ (l : Lead) (r : Record) (marks : List ℕ) where
  pub pay_not : takes_pay l r ≡ false → marks ≡ filed_pay l r marks
  unfolding filed_pay
  pay_not t = rw t

-- ---- the list behind a line

module _ (l : Lead) (r : Record) (ns : List ℕ) where
  -- a `move` is no line of a batch
  no_line_lem : takes_move l r ≡ true → takes_line l r ≡ false
  unfolding takes_move takes_line
  no_line_lem t = grind arith

  -- ---- the head of the list: the numbers before the line stay

  pub numbers_kept : take l.count (filed l r ns) ≡ take l.count ns
  unfolding filed filed_move filed_line
  numbers_kept = grind (arith, front_kept, length_overwritten)

  -- and its own stand behind them
  pub move_put : takes_move l r ≡ true → l.count + 2 ≤ length ns → take (l.count + 2) (filed l r ns) ≡ take l.count ns ++ (r.first ∷ r.second ∷ [])
  unfolding filed filed_move filed_line
  move_put t h = let k = no_line_lem t in grind (arith, front_put)

  pub line_put : takes_line l r ≡ true → l.count + 3 ≤ length ns → take (l.count + 3) (filed l r ns) ≡ take l.count ns ++ numbers_of (line_read r)
  unfolding filed filed_move filed_line
  line_put t h = grind (arith, front_put, front_kept, length_overwritten)

-- ---- by the stage: what is not filed there

module _ (l : Lead) (r : Record) (g : Stage) (stage : l.stage ≡ g) where
  pub no_pay_at : gathers_pay g r ≡ false → (marks : List ℕ) → marks ≡ filed_pay l r marks
  unfolding takes_pay filed_pay
  no_pay_at h marks = grind arith
