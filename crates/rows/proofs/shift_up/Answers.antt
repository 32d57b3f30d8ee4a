-- `shift_up` meets its contract. The loop: t and the entries behind it are pasted up to place j, and the next of them is carried. Assumes nothing.
use borrow.Author.Rules.{rules}
use mathlib.Core.Path.{◌≡◌, refl, sym, ap, ◌∙◌}
use Prim.Native.Nat.{ℕ, suc, ◌+◌, ◌-◌, ◌<◌}
use native.Mathlib.Nat.{sub_self}
use native.Mathlib.Omega.{arith}
use mathlib.Core.List.{◌∷◌}
use lib.ListN.{length, get_or, drop, length-drop}
use lib.Seq.{paste, get_or-drop}
use Rattle.rows.specs.Shift.{opened}
use Rattle.rows.proofs.Paste.{copy_begins, copy_reads, copy_stores, same_place}
use Rattle.rows.proofs.shift_up.Goals as goal

pub loop-j-init : goal.loop-j-init
loop-j-init c = (search rules, omega arith, copy_begins c.args.targets.now c.args.at (c.args.t ∷ drop c.args.at c.args.targets.now), rw sub_self refl)

pub loop-j-preserved : goal.loop-j-preserved
loop-j-preserved c = let a = c.args in
    let xs = a.targets.now in
    let j = c.loop-j.j in
    let src = a.t ∷ drop a.at xs in
    let lens : length (drop a.at xs) ≡ length xs - a.at = length-drop a.at xs in
    let more : j - a.at < length src = omega arith in
    let next : j + 1 - a.at ≡ suc (j - a.at) = omega arith in
    let place : a.at + (j - a.at) ≡ j = omega arith in
    let read : get_or c.loop-j.targets j 0 ≡ get_or src (suc (j - a.at)) 0 =
    copy_reads xs a.at src j (omega arith) (omega arith) more c.loop-j.targets c.loop-j.invariant.2 j (omega arith)
    ∙ sym (get_or-drop a.at xs (j - a.at) 0 ∙ same_place xs place)
    in (
      omega arith,
      omega arith,
      copy_stores xs a.at src j (omega arith) (omega arith) more c.loop-j.targets c.loop-j.invariant.2 c.loop-j.carry c.loop-j.invariant.3,
      rw next read,
    )

pub returns : goal.returns
unfolding opened
returns c = let a = c.args in
    c.loop-j.invariant.2 ∙ ap (λ (j : ℕ). paste a.targets.now a.at (a.t ∷ drop a.at a.targets.now) (j - a.at)) (omega arith)
