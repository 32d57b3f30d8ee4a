-- `retrace` meets its contract: what is left to write, from here, makes what was to be written. Assumes nothing.
use mathlib.Core.Path.{◌≡◌}
use Rattle.search.specs.Core.{retrace_walk, retrace_depth, with_walk, with_depth}
use Rattle.search.proofs.rewind.retrace.Given as goal

abbrev pub invariant-loop-i : goal.invariant-loop-i
invariant-loop-i l = record {
  walk_left : retrace_walk l.initial.records.parent l.i l.x l.records.walk ≡ retrace_walk l.initial.records.parent l.height l.s l.initial.records.walk;
  depth_left : retrace_depth l.initial.records.parent l.i l.x l.trail.depth ≡ retrace_depth l.initial.records.parent l.height l.s l.initial.trail.depth;
  records_kept : l.records ≡ with_walk l.initial.records l.records.walk;
  trail_kept : l.trail ≡ with_depth l.initial.trail l.trail.depth;
}
