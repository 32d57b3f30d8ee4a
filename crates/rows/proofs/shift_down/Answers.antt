-- `shift_down` meets its contract. The loop: the entries behind the place are pasted up to place j. Assumes nothing.
use borrow.Author.Rules.{rules}
use mathlib.Core.Path.{◌≡◌, sym, ap, ◌∙◌}
use Prim.Native.Nat.{ℕ, suc, ◌+◌, ◌-◌, ◌<◌}
use native.Mathlib.Omega.{arith}
use lib.ListN.{length, get_or, drop, length-drop}
use lib.Seq.{paste, get_or-drop}
use Rattle.rows.specs.Shift.{shut}
use Rattle.rows.proofs.Paste.{copy_begins, copy_reads, copy_stores, same_place}
use Rattle.rows.proofs.shift_down.Goals as goal

pub loop-j-init : goal.loop-j-init
loop-j-init c = (search rules, omega arith, copy_begins c.args.targets.now c.args.at (drop (suc c.args.at) c.args.targets.now))

pub loop-j-preserved : goal.loop-j-preserved
loop-j-preserved c = let a = c.args in
    let xs = a.targets.now in
    let j = c.loop-j.j in
    let src = drop (suc a.at) xs in
    let lens : length src ≡ length xs - suc a.at = length-drop (suc a.at) xs in
    let more : j - a.at < length src = omega arith in
    let place : suc a.at + (j - a.at) ≡ j + 1 = omega arith in
    let read : get_or c.loop-j.targets (j + 1) 0 ≡ get_or src (j - a.at) 0 =
    copy_reads xs a.at src j (omega arith) (omega arith) more c.loop-j.targets c.loop-j.invariant.2 (j + 1) (omega arith)
    ∙ sym (get_or-drop (suc a.at) xs (j - a.at) 0 ∙ same_place xs place)
    in
    (omega arith, omega arith, copy_stores xs a.at src j (omega arith) (omega arith) more c.loop-j.targets c.loop-j.invariant.2 _ read)

pub returns : goal.returns
unfolding shut
returns c = let a = c.args in
    let end : c.loop-j.j - a.at ≡ a.count - suc a.at = omega arith in
    c.loop-j.invariant.2 ∙ ap (λ (n : ℕ). paste a.targets.now a.at (drop (suc a.at) a.targets.now) n) end
