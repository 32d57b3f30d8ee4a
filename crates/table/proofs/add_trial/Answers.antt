-- `add_trial` meets its contract: the conditions are tried in their order. Assumes nothing.
use mathlib.Core.Path.{◌≡◌, sym, ap, ◌∙◌}
use mathlib.Core.List.{[], ◌∷◌}
use Prim.Native.Nat.{ℕ, suc, ◌+◌, ◌*◌, ◌≤◌, ◌<◌}
use native.Mathlib.Nat.{suc-mul}
use native.Mathlib.Omega.{arith}
use lib.Dec.{ltb}
use borrow.Author.Tests.{lt-ltb, le-ltb}
use Rattle.plain.specs.Refusals.{first_held}
use Rattle.rows.specs.Rows.{edge_count}
use Rattle.table.specs.declared.Trial.{Trial}
use Rattle.table.specs.declared.Trial.TheVariants.{Accepted, Refused}
use Rattle.table.specs.Trials.{tried, add_conditions}
use Rattle.table.proofs.Trying.{stop, skip, none_held}
use Rattle.table.proofs.add_trial.Goals as goal
use Rattle.table.proofs.add_trial.Goals.{After-wide, Else-is_there}

pub returns-then-is_outside : goal.returns-then-is_outside
unfolding add_conditions
returns-then-is_outside c = stop 6 _ _ (sym c.is_outside.ensures ∙ c.if-is_outside.true)

pub returns-then-is_there : goal.returns-then-is_there
unfolding add_conditions
returns-then-is_there c = skip (Refused 8) 6 _ _ (sym c.is_outside.ensures ∙ c.if-is_outside.false) (stop 8 _ _ (sym c.is_there.ensures ∙ c.if-is_there.true))

-- the last condition decides
last : (c : Else-is_there) (k : Trial) → let a = c.args in
    k ≡ tried (first_held ((9, ltb 2048 ((edge_count a.rows.now.starts a.size + 1) * a.kinds)) ∷ [])) → k ≡ tried (first_held (add_conditions a.size a.kinds a.rows.now.targets a.rows.now.starts a.from a.to))
unfolding add_conditions
last c k h =
    skip k 6 _ _ (sym c.is_outside.ensures ∙ c.if-is_outside.false) (skip k 8 _ _ (sym c.is_there.ensures ∙ c.if-is_there.false) h)

one_more : (n k : ℕ) → (n + 1) * k ≡ n * k + k
one_more n k = let e : n + 1 ≡ suc n = omega arith in omega (arith, ap (λ (m : ℕ). m * k) e, suc-mul n k)

-- the moves with one more, times the kinds
copies : (c : After-wide) → let a = c.args in
    c.times.result + c.wide.result ≡ (edge_count a.rows.now.starts a.size + 1) * a.kinds
copies c =
    let a = c.args in
    omega (arith, c.times.ensures, ap (λ (n : ℕ). n * a.kinds) c.edge_count-present.ensures, c.wide.ensures, one_more (edge_count a.rows.now.starts a.size) a.kinds)

pub returns-then-times-wide-gt-MOVES : goal.returns-then-times-wide-gt-MOVES
returns-then-times-wide-gt-MOVES c = let a = c.args in
    let full : 2048 < (edge_count a.rows.now.starts a.size + 1) * a.kinds = omega (arith, copies c.before, c.if-times-wide-gt-MOVES.true) in
    last c.before.before.before.before (Refused 9) (stop 9 _ _ (lt-ltb _ _ full))

pub returns : goal.returns
returns c = let a = c.args in
    let free : (edge_count a.rows.now.starts a.size + 1) * a.kinds ≤ 2048 = omega (arith, copies c.before, c.if-times-wide-gt-MOVES.false) in
    last c.before.before.before.before Accepted (skip Accepted 9 _ _ (le-ltb _ _ free) none_held)
