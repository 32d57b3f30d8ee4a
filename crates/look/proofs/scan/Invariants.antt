-- `scan` meets its contract: each turn passes over one edge of the row. Assumes nothing.
use Rattle.look.specs.Scan.{row_laid}
use Rattle.look.proofs.Scans.{SoFar}
use Rattle.look.proofs.scan.Given as goal

abbrev pub invariant-loop-e : goal.invariant-loop-e
invariant-loop-e l = SoFar (row_laid l.targets l.layout l.v) l.array l.k l.initial.spent l.e l.spent
