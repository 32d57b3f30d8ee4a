-- `climb` meets its contract: what is counted and what is left to count make the whole. Assumes nothing.
use mathlib.Core.Path.{◌≡◌}
use Prim.Native.Nat.{◌+◌, ◌-◌}
use Rattle.search.specs.Core.{climb}
use Rattle.search.proofs.rewind.climb.Given as goal

abbrev pub invariant-loop-n : goal.invariant-loop-n
invariant-loop-n l = l.n + climb l.parent l.start (512 - l.n) l.x ≡ climb l.parent l.start 512 l.s
