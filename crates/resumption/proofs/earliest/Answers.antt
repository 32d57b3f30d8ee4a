-- `earliest` meets its contract: the first so far, and the copies of the states that are left, give that of all. Assumes nothing.
use mathlib.Core.Path.{◌≡◌, sym, ap, ◌∙◌}
use mathlib.Core.List.{List, ◌∷◌}
use Prim.Native.Nat.{ℕ, suc, ◌+◌, ◌≤◌}
use native.Mathlib.Omega.{arith}
use lib.ListN.{length, get_or, drop, drop_of_length-le}
use lib.Seq.{drop-cons}
use Rattle.resumption.specs.declared.First.{First}
use Rattle.resumption.specs.Model.{copies_up, copies_up_all, first_of, taken_up_at}
use Rattle.resumption.proofs.FirstMet.{first_append, taken_none, taken_at}
use Rattle.resumption.proofs.earliest.Invariants.{among}
use Rattle.resumption.proofs.earliest.Goals as goal

-- one state more
next : (size kinds : ℕ) (number states : List ℕ) (first : First) (i : ℕ) → suc i ≤ length states
    → among size kinds number (first_of first (copies_up size kinds (get_or states i 0)) number) (drop (i + 1) states) ≡ among size kinds number first (drop i states)
unfolding copies_up_all
next size kinds number states first i h =
    let up : suc i ≡ i + 1 = omega arith in
    sym (ap (among size kinds number first) (drop-cons states i 0 h ∙ ap (λ (k : ℕ). get_or states i 0 ∷ drop k states) up)
    ∙ first_append number first (copies_up size kinds (get_or states i 0)) (copies_up_all size kinds (drop (i + 1) states)))

pub loop-state-preserved : goal.loop-state-preserved
loop-state-preserved c = let w = c.loop-state in
    let a = c.args in
    ap (λ (f : First). among a.size a.kinds a.number.now f (drop (w.state-index + 1) a.states.now)) c.earlier-first.ensures
    ∙ next a.size a.kinds a.number.now a.states.now w.first w.state-index c.loop-state-test.true
    ∙ w.invariant

-- no state is left
last : (size kinds : ℕ) (number states : List ℕ) (first : First) (i : ℕ) → length states ≤ i → first ≡ among size kinds number first (drop i states)
unfolding copies_up_all first_of
last size kinds number states first i h = sym (ap (among size kinds number first) (drop_of_length-le states h))

pub returns-then-first : goal.returns-then-first
returns-then-first c = let w = c.loop-state in
    let a = c.args in
    sym (taken_none a.number.now w.first c.if-first.true) ∙ ap taken_up_at (last a.size a.kinds a.number.now a.states.now w.first w.state-index c.loop-state-test.false ∙ w.invariant)

pub returns : goal.returns
returns c = let w = c.loop-state in
    let a = c.args in
    sym (taken_at a.number.now w.first c.if-first.false) ∙ ap taken_up_at (last a.size a.kinds a.number.now a.states.now w.first w.state-index c.loop-state-test.false ∙ w.invariant)
