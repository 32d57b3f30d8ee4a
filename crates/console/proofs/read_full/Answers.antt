-- `read_full` meets its contract: each read brings at least one byte, behind those of the reads before. Assumes nothing.
use native.Mathlib.Omega.{arith}
use borrow.Author.Rules.{rules}
use Rattle.console.proofs.Filling.{read_behind, consumes_both}
use Rattle.console.proofs.read_full.Goals as goal

pub loop-done-preserved : goal.loop-done-preserved
loop-done-preserved g c = let n = c.read_once-n in (
  search rules,
  rw (read_behind c.loop-done.done _ n.result c.loop-done.block n.new.buf (omega arith) n.ensures.within)
      (consumes_both _ _ _ _ _ c.loop-done.invariant.1 n.ensures.bytes),
)
