-- `look::times` meets its contract. Assumes nothing.
use Rattle.std.proofs.Common.{ℕ, ◌*◌, ◌<◌, ◌≤◌, ap₂, mul-le-mul, arith}
use Rattle.look.proofs.times.Goals as goal

product_small : (a b : ℕ) → a < 65536 → b < 65536 → a * b < 4294967296
product_small a b h k =
    let x : a ≤ 65535 = omega arith in
    let y : b ≤ 65535 = omega arith in
    omega (arith, mul-le-mul x y)

pub overflow_mul-result : goal.overflow_mul-result
overflow_mul-result c = omega (arith, product_small c.wide.result c.wide-2.result (omega arith) (omega arith))

pub returns : goal.returns
returns c = (
  ap₂ (λ (x y : ℕ). x * y) c.wide.ensures.0 c.wide-2.ensures.0,
  product_small c.wide.result c.wide-2.result (omega arith) (omega arith),
)
