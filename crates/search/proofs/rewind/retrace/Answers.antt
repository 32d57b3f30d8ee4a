-- `retrace` meets its contract: what is left to write, from here, makes what was to be written. Assumes nothing.
use mathlib.Core.Path.{◌≡◌, sym, ap, ◌∙◌}
use Prim.Native.Nat.{ℕ, suc, ◌-◌}
use native.Mathlib.Omega.{arith}
use lib.ListN.{get_or}
use Rattle.search.specs.declared.Records.{Records}
use Rattle.search.specs.declared.Trail.{Trail}
use Rattle.search.specs.Core.{retrace_walk, retrace_depth, with_walk, with_depth}
use Rattle.search.proofs.Ways.{walk_turn, depth_turn, walk_none, depth_none}
use Rattle.search.proofs.rewind.retrace.Goals as goal

pub loop-i-preserved : goal.loop-i-preserved
loop-i-preserved c = let parent = c.args.records.now.parent in
    let q = c.loop-i in
    let one : q.i ≡ suc (q.i - 1) = omega arith in
    let above : c.get-x.result ≡ get_or parent q.x 0 = c.get-x.ensures ∙ ap (λ (r : Records). get_or r.parent q.x 0) q.invariant.records_kept in
    record {
      walk_left = (λ j. retrace_walk parent (q.i - 1) (above j) (c.put.ensures j)) ∙ walk_turn parent q.x q.i (q.i - 1) q.records.walk one ∙ q.invariant.walk_left;
      depth_left = (λ j. retrace_depth parent (q.i - 1) (above j) (c.put-in-loop-i.ensures j)) ∙ depth_turn parent q.x q.i (q.i - 1) q.trail.depth one ∙ q.invariant.depth_left;
      records_kept = ap (λ (r : Records). with_walk r c.put.new.a) q.invariant.records_kept;
      trail_kept = ap (λ (t : Trail). with_depth t c.put-in-loop-i.new.a) q.invariant.trail_kept;
    }

pub returns : goal.returns
returns c = let a = c.args in
    let parent = a.records.now.parent in
    let q = c.loop-i in
    let none : q.i ≡ 0 = omega arith in
    record {
      records_after = q.invariant.records_kept ∙ ap (with_walk a.records.now)
          (sym (ap (λ (n : ℕ). retrace_walk parent n q.x q.records.walk) none ∙ walk_none parent q.x q.records.walk) ∙ q.invariant.walk_left);
      trail_after = q.invariant.trail_kept ∙ ap (with_depth a.trail.now)
          (sym (ap (λ (n : ℕ). retrace_depth parent n q.x q.trail.depth) none ∙ depth_none parent q.x q.trail.depth) ∙ q.invariant.depth_left);
    }
