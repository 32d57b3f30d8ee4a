-- `read_number` meets its contract: the digits from the index on, read behind v, give what the whole field gives; v has at most so many digits. Assumes nothing.
use Prim.Native.Nat.{ℕ, ◌+◌, ◌*◌, ◌^◌}
use mathlib.Core.Path.{◌≡◌, sym, ◌∙◌}
use native.Mathlib.Omega.{arith}
use native.Mathlib.Numerals.{add-one}
use native.Mathlib.Nat.{pow-suc}
use borrow.Author.Tests.{eqb-true, eqb-false}
use lib.ListN.{get_or}
use Rattle.line.specs.Numbers.{is_digit}
use Rattle.line.proofs.Numbers.{number_empty, number_long, number_zero, read_whole, read_other, read_digit, digit_most, read_end, read_above}
use Rattle.line.proofs.read_number.Goals as goal
use Rattle.line.proofs.read_number.Goals.{then-is_empty-via-then-is_empty, then-is_empty-via-else-is_empty+then-s-gt5, then-is_empty-via-else-is_empty+else-s-gt5+then-has_leading_zero}

one_digit_more : (i : ℕ) → 10 ^ (i + 1) ≡ 10 ^ i * 10
one_digit_more i = rw (add-one) (pow-suc 10 i)

pub returns-then-is_empty : goal.returns-then-is_empty
returns-then-is_empty c = elim c.then-is_empty.branch [
  | then-is_empty-via-then-is_empty w ↦ number_empty _ _ (eqb-true _ 0 (sym c.is_empty.ensures ∙ w.if-is_empty.true))
  | then-is_empty-via-else-is_empty+then-s-gt5 w ↦ number_long _ _ w.if-s-gt5.true
  | then-is_empty-via-else-is_empty+else-s-gt5+then-has_leading_zero w ↦ number_zero _ _ (sym w.has_leading_zero.ensures ∙ w.if-has_leading_zero.true)
]

pub loop-b-init : goal.loop-b-init
loop-b-init c = record {
  short = omega arith;
  below = omega arith;
  rest = read_whole _ _ (omega (arith, eqb-false _ 0 (sym c.is_empty.ensures ∙ c.if-is_empty.false))) (omega arith) (sym c.has_leading_zero.ensures ∙ c.if-has_leading_zero.false);
}

pub returns-then-not-is_ascii_digit : goal.returns-then-not-is_ascii_digit
unfolding is_digit
returns-then-not-is_ascii_digit c =
    sym (read_other _ _ _ c.loop-b.b-index (omega arith) (sym c.is_ascii_digit.ensures.value ∙ c.if-not-is_ascii_digit.true)) ∙ c.loop-b.invariant.rest

pub loop-b-preserved : goal.loop-b-preserved
unfolding is_digit
loop-b-preserved c = record {
  short = omega arith;
  below = omega (arith, one_digit_more c.loop-b.b-index, digit_most (get_or c.args.s.now c.loop-b.b-index 0) (sym c.is_ascii_digit.ensures.value ∙ c.if-not-is_ascii_digit.false));
  rest =
      rw c.from.ensures
      (sym (read_digit _ _ _ c.loop-b.b-index (omega arith) (sym c.is_ascii_digit.ensures.value ∙ c.if-not-is_ascii_digit.false)) ∙ c.loop-b.invariant.rest);
}

pub returns-then-v-from : goal.returns-then-v-from
returns-then-v-from c = sym (read_end _ _ _ c.loop-b.b-index c.loop-b-test.false (omega arith)) ∙ c.loop-b.invariant.rest

pub returns-else-v-from : goal.returns-else-v-from
returns-else-v-from c = sym (read_above _ _ _ c.loop-b.b-index c.loop-b-test.false (omega arith)) ∙ c.loop-b.invariant.rest
