-- `move_starts` meets its contract. The loop: the changed starts are pasted up to place j. Assumes nothing.
use borrow.Author.Rules.{rules}
use mathlib.Core.Path.{◌≡◌, sym, ap, ◌∙◌}
use Prim.Native.Nat.{ℕ, ◌+◌, ◌-◌, ◌<◌}
use native.Mathlib.Omega.{arith}
use mathlib.Core.List.{map}
use lib.ListN.{length, get_or, drop, length-drop, length-map}
use lib.Seq.{paste, get_or-drop}
use Rattle.rows.specs.Shift.{moved_one, moved_starts}
use Rattle.rows.proofs.Paste.{copy_begins, copy_reads, copy_stores, same_place, get_d_map}
use Rattle.rows.proofs.move_starts.Goals as goal

pub loop-j-init : goal.loop-j-init
loop-j-init c = (search rules, omega arith, copy_begins c.args.starts.now c.args.from (map (moved_one c.args.up) (drop c.args.from c.args.starts.now)))

pub loop-j-preserved : goal.loop-j-preserved
loop-j-preserved c = let a = c.args in
    let xs = a.starts.now in
    let j = c.loop-j.j in
    let old = drop a.from xs in
    let src = map (moved_one a.up) old in
    let lens : length old ≡ length xs - a.from = length-drop a.from xs in
    let mapped : length src ≡ length old = length-map old (moved_one a.up) in
    let more : j - a.from < length src = omega arith in
    let place : a.from + (j - a.from) ≡ j = omega arith in
    let read : get_or c.loop-j.starts j 0 ≡ get_or old (j - a.from) 0 =
    copy_reads xs a.from src j (omega arith) (omega arith) more c.loop-j.starts c.loop-j.invariant.2 j (omega arith)
    ∙ sym (get_or-drop a.from xs (j - a.from) 0 ∙ same_place xs place)
    in (
      omega arith,
      omega arith,
      copy_stores xs a.from src j (omega arith) (omega arith) more c.loop-j.starts c.loop-j.invariant.2 c.moved_one.result
          (c.moved_one.ensures ∙ ap (moved_one a.up) read ∙ sym (get_d_map (moved_one a.up) old (j - a.from) (omega arith))),
    )

pub returns : goal.returns
unfolding moved_starts
returns c = let a = c.args in
    c.loop-j.invariant.2 ∙ ap (λ (j : ℕ). paste a.starts.now a.from (map (moved_one a.up) (drop a.from a.starts.now)) (j - a.from)) (omega arith)
