-- `marks::count` meets its contract: after i words the sum is the ones of the first i. Assumes nothing.
use mathlib.Core.Path.{◌≡◌, refl, ap, ◌∙◌}
use Prim.Native.Nat.{ℕ, ◌+◌, ◌^◌, ◌<◌}
use native.Mathlib.Numerals.{add-one}
use native.Mathlib.Omega.{arith}
use lib.Bits.{or_lt}
use lib.Count.{ones}
use lib.ListN.{get_or}
use mir.Syntax.{w64}
use mir.Val.{Fits}
use borrow.Author.Rules.{rules}
use Rattle.plain.specs.Table.{accepting_count}
use Rattle.marks.proofs.Counts.{joined_at, count_same, total, total_counts, total_le, joined_any}
use Rattle.marks.proofs.count.Goals as goal
use Rattle.marks.proofs.count.Goals.{In-loop-i, Start}

-- each word is below 2 ^ 64, and so is what they are taken together
fit : (c : Start) (i : ℕ) → get_or c.args.marks i 0 < 2 ^ 64
fit c i = let f : Fits w64 (get_or c.args.marks i 0) = search rules in f.fits

joined-fits : (c : Start) (i : ℕ) → i < 8 → joined_at c.args.marks i < 2 ^ 64
unfolding joined_at
joined-fits c i h = or_lt 64 _ _ (or_lt 64 _ _ (or_lt 64 _ _ (fit c i) (fit c (i + 8))) (fit c (i + 16))) (fit c (i + 24))

-- the sum after one more word
next : (c : In-loop-i)
    → c.loop-i.sum + ones (joined_at c.args.marks c.loop-i.i) ≡ total (joined_at c.args.marks) (c.loop-i.i + 1)
unfolding total
next c = rw add-one cc

pub overflow_add-sum : goal.overflow_add-sum
unfolding joined_at
overflow_add-sum c = omega (arith, next c, total_le (joined_at c.args.marks) 8 (joined-fits c.before.before) (c.loop-i.i + 1) (omega arith))

pub loop-i-init : goal.loop-i-init
unfolding total
loop-i-init c = refl

pub loop-i-preserved : goal.loop-i-preserved
unfolding joined_at
loop-i-preserved c = next c

pub returns : goal.returns
unfolding accepting_count
returns c = let word = joined_at c.args.marks in
    let all : c.loop-i.i ≡ 8 = omega arith in
    c.loop-i.invariant
    ∙ ap (total word) all
    ∙ total_counts word 8 (joined-fits c.before.before) 8 (omega arith)
    ∙ count_same 512 _ _ (joined_any c.args.marks)
