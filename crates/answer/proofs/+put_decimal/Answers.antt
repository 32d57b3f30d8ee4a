-- `put_decimal` meets its contract: the digits above the last by the call of itself, and then the last. Assumes nothing.
use native.Mathlib.Omega.{arith}
use Rattle.answer.proofs.Laws.{put_then, decimal_more}
use Rattle.answer.proofs.+put_decimal.Goals as goal

pub returns : goal.returns
returns t c =
    rw (decimal_more c.args.n (omega arith))
    (put_then _ _ _ _ _ _ _ _ (omega arith) c.put_decimal-next.ensures c.put_byte-2.ensures)
