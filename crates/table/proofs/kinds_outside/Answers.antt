-- `kinds_outside` meets its contract: the parts of the condition in their order. Assumes nothing.
use mathlib.Core.Path.{◌≡◌, sym, ap, ◌∙◌}
use mathlib.Core.Logic.{◌⊎◌}
use mathlib.Core.Bool.{true}
use Prim.Native.Nat.{ℕ, ◌*◌, ◌≤◌, ◌<◌}
use native.Mathlib.Omega.{arith}
use lib.Dec.{ltb}
use borrow.Author.Tests.{ltb-true, ltb-false, eqb-false}
use Rattle.std.proofs.lemmas.Bool.Decides.{nat_tests}
use Rattle.plain.specs.Refusals.{bad_kinds}
use Rattle.table.proofs.kinds_outside.Goals as goal
use Rattle.table.proofs.kinds_outside.Goals.{then-kinds-eq0, else-kinds-eq0, then-kinds-gt-KINDS, else-kinds-gt-KINDS}

module _ (k n m : ℕ) where
  none : (k ≡ 0) ⊎ ((k ≡ 0 → ⊥) × (4 < k)) → bad_kinds k n m ≡ true
  unfolding bad_kinds
  none h = grind (arith, nat_tests)

  large : (k ≡ 0 → ⊥) → k ≤ 4 → 512 < n * k → bad_kinds k n m ≡ true
  unfolding bad_kinds
  large some few h = grind (arith, nat_tests)

  fine : (k ≡ 0 → ⊥) → k ≤ 4 → n * k ≤ 512 → bad_kinds k n m ≡ ltb 2048 (m * k)
  unfolding bad_kinds
  fine some few h = grind (arith, nat_tests)

pub returns-then-times-gt-COPIES : goal.returns-then-times-gt-COPIES
returns-then-times-gt-COPIES c = let t = c.if-times-gt-COPIES.true in
    let a = c.args in
    t ∙ sym (elim c.if-kinds-gt-KINDS.branch [
      | then-kinds-gt-KINDS w ↦ none a.kinds a.size a.moves w.if-kinds-gt-KINDS.either
      | else-kinds-gt-KINDS w ↦
          let many : 512 < w.times.result = ltb-true _ _ (sym w.value-is ∙ t) in
          large a.kinds a.size a.moves w.if-kinds-gt-KINDS.false.0 w.if-kinds-gt-KINDS.false.1 (omega (arith, w.times.ensures))
    ])

pub returns-else-times-gt-COPIES : goal.returns-else-times-gt-COPIES
returns-else-times-gt-COPIES c = let t = c.if-times-gt-COPIES.false in
    let a = c.args in
    elim c.if-kinds-gt-KINDS.branch [
      | then-kinds-gt-KINDS w ↦ elim c.if-kinds-eq0.branch [
        | then-kinds-eq0 v ↦ absurd (eqb-false _ _ (sym v.t-6-is ∙ sym w.value-is ∙ t) v.if-kinds-eq0.true)
        | else-kinds-eq0 v ↦
            let few : a.kinds ≤ 4 = ltb-false _ _ (sym v.t-6-is ∙ sym w.value-is ∙ t) in
            absurd (omega (arith, w.if-kinds-gt-KINDS.either, v.if-kinds-eq0.false))
      ]
      | else-kinds-gt-KINDS w ↦
          let few : w.times.result ≤ 512 = ltb-false _ _ (sym w.value-is ∙ t) in
          ap (λ (n : ℕ). ltb 2048 (a.moves * n)) c.wide.ensures.0 ∙ sym (fine a.kinds a.size a.moves w.if-kinds-gt-KINDS.false.0 w.if-kinds-gt-KINDS.false.1 (omega (arith, w.times.ensures)))
    ]
