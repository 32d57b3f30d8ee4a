-- `kind_outside` meets its contract: no mark of a state below s is bad. Assumes nothing.
use mathlib.Core.Path.{◌≡◌, refl, sym, ◌∙◌}
use mathlib.Core.Bool.{true, false}
use Prim.Native.Nat.{◌≤◌, ◌<◌}
use native.Mathlib.Omega.{arith}
use borrow.Author.Tests.{leb-true, leb-false}
use Rattle.plain.specs.Lists.{any_below}
use Rattle.plain.specs.Table.{by_kind, carried_by}
use Rattle.plain.proofs.Words.{carried_flat}
use Rattle.table.specs.Trials.{bad_mark}
use Rattle.table.proofs.Pairs.{some_below, none_more, mark_far, mark_unused, mark_fine, mark_unset}
use Rattle.table.proofs.kind_outside.Goals as goal
use Rattle.table.proofs.kind_outside.Goals.{then-wide-s, else-wide-s, else-wide-kind-via-then-wide-kind+else-accepts_in, else-wide-kind-via-else-wide-kind}

pub loop-s-init : goal.loop-s-init
unfolding any_below
loop-s-init c = refl

pub returns-then-accepts_in : goal.returns-then-accepts_in
returns-then-accepts_in c =
    let a = c.args in
    let s = c.loop-s.s in
    let carried : carried_by (by_kind a.marks.now) a.kind s ≡ true =
    carried_flat a.marks.now a.kind s c.requires (omega arith) ∙ sym c.accepts_in.ensures ∙ c.if-accepts_in.true in
    let bad : bad_mark a.size a.kinds (by_kind a.marks.now) a.kind s ≡ true = elim c.if-wide-s.branch [
      | then-wide-s w ↦ mark_far a.size a.kinds (by_kind a.marks.now) a.kind s carried (omega (arith, c.wide.ensures, w.if-wide-s.true))
      | else-wide-s w ↦
          let unused : w.wide-else-wide-s.result ≤ a.kind = leb-true _ _ (sym w.value-is ∙ c.if-wide-kind.true) in
          mark_unused a.size a.kinds (by_kind a.marks.now) a.kind s carried (omega (arith, w.wide-else-wide-s.ensures))
    ] in
    sym (some_below (bad_mark a.size a.kinds (by_kind a.marks.now) a.kind) 512 s (omega arith) bad)

pub loop-s-preserved : goal.loop-s-preserved
loop-s-preserved c =
    let a = c.args in
    let s = c.loop-s.s in
    let fine : bad_mark a.size a.kinds (by_kind a.marks.now) a.kind s ≡ false = elim c.else-wide-kind.branch [
      | else-wide-kind-via-then-wide-kind+else-accepts_in w ↦
          mark_unset a.size a.kinds (by_kind a.marks.now) a.kind s (carried_flat a.marks.now a.kind s c.requires (omega arith) ∙ sym w.accepts_in.ensures ∙ w.if-accepts_in.false)
      | else-wide-kind-via-else-wide-kind w ↦ elim c.if-wide-s.branch [
        | then-wide-s v ↦ absurd (omega (arith, v.if-wide-s.true, leb-false _ _ (sym v.value-is ∙ w.if-wide-kind.false)))
        | else-wide-s v ↦
            let used : a.kind < v.wide-else-wide-s.result = leb-false _ _ (sym v.value-is ∙ w.if-wide-kind.false) in
            mark_fine a.size a.kinds (by_kind a.marks.now) a.kind s (omega (arith, c.wide.ensures, v.if-wide-s.false)) (omega (arith, v.wide-else-wide-s.ensures))
      ]
    ] in
    none_more (bad_mark a.size a.kinds (by_kind a.marks.now) a.kind) s c.loop-s.invariant fine
