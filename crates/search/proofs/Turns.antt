-- That the steps of a phase come to an end on any arrays: each turn numbers a state, or takes one off a path. Assumes nothing.
use mathlib.Core.Path.{◌≡◌, refl, sym, ap, subst}
use mathlib.Core.Bool.{Bool, true, false, cond}
use mathlib.Core.List.{List}
use Prim.Native.Nat.{ℕ, suc, ◌<◌}
use native.Mathlib.Omega.{arith}
use lib.Dec.{leb}
use lib.ListN.{get_or, set}
use borrow.Author.Tests.{leb-false}
use Rattle.look.specs.Numbers.{no_number, blanks, up}
use Rattle.look.proofs.Counting.{up_more, up_most, further_most, blank_filled}
use Rattle.search.specs.declared.Walker.{Walker}
use Rattle.search.specs.Core.{Core, placed, left, nesting, finished, returned, with_walker, discover, deepen, leave_root, go_back, Roomy, OuterTurn, NestedTurn}

-- ---- the outer search

pub turn_discovers : (w : Walker) (edge : ℕ) (s s' : Core) (t : ℕ) → s.walker ≡ placed w edge → s' ≡ discover s t → get_or s.number t 0 ≡ no_number → Roomy w s.number
    → OuterTurn w s.number s'.walker s'.number
unfolding discover
turn_discovers w edge s s' t p e new h =
    let same_met : s.walker.met ≡ w.met = ap (λ (x : Walker). x.met) p in
    let same-height : s.walker.height ≡ w.height = ap (λ (x : Walker). x.height) p in
    let fewer : suc (blanks (set s.number t s.walker.met)) ≡ blanks s.number = blank_filled s.number t s.walker.met new (λ z. omega arith) in
    let met : up s.walker.met ≡ suc s.walker.met = up_more s.walker.met (omega arith) in
    subst (λ (x : Core). OuterTurn w s.number x.walker x.number) (sym e)
    (record { roomy = omega arith; lighter = λ z. omega (arith, up_most s.walker.height) })

pub turn_finishes : (b : Bool) (parent index : List ℕ) (w r : Walker) (number : List ℕ) → r ≡ finished b parent index w → (w.height ≡ 0 → ⊥) → Roomy w number → OuterTurn w number r number
unfolding finished
turn_finishes b parent index w r number e high h = subst (λ (x : Walker). OuterTurn w number x number) (sym e) (by_test b)
  where
    by_test : (b : Bool) → OuterTurn w number (cond b (nesting w) (left parent index w)) number
    by_test true = record { roomy = h; lighter = λ z. absurd cc }
    by_test false = record { roomy = h; lighter = λ z. omega (arith, high) }

-- ---- the nested search

pub turn_deepens : (w : Walker) (edge : ℕ) (s s' : Core) (t : ℕ) → s.walker ≡ placed w edge → s' ≡ deepen s t → get_or s.stamp t 0 ≡ no_number → w.met < no_number
    → NestedTurn w s.stamp s'.walker s'.stamp
unfolding deepen
turn_deepens w edge s s' t p e new h =
    let same_met : s.walker.met ≡ w.met = ap (λ (x : Walker). x.met) p in
    let same-top : s.walker.top ≡ w.top = ap (λ (x : Walker). x.top) p in
    let fewer : suc (blanks (set s.stamp t s.walker.met)) ≡ blanks s.stamp = blank_filled s.stamp t s.walker.met new (λ z. omega arith) in
    subst (λ (x : Core). NestedTurn w s.stamp x.walker x.stamp) (sym e)
    (record { same_met = same_met; lighter = λ z. omega (arith, further_most s.walker.top) })

pub turn_returns : (s s' : Core) → s' ≡ go_back s → NestedTurn s.walker s.stamp s'.walker s'.stamp
unfolding go_back leave_root
turn_returns s s' e = subst (λ (x : Core). NestedTurn s.walker s.stamp x.walker x.stamp) (sym e) (by_test (leb s.walker.top s.walker.height) refl)
  where
    by_test : (b : Bool) → leb s.walker.top s.walker.height ≡ b
        → NestedTurn s.walker s.stamp (cond b (leave_root s) (with_walker s (returned s.walk s.cursor s.walker))).walker (cond b (leave_root s) (with_walker s (returned s.walk s.cursor s.walker))).stamp
    by_test true z = record { same_met = refl; lighter = λ y. absurd cc }
    by_test false z = record { same_met = refl; lighter = λ y. omega (arith, leb-false s.walker.top s.walker.height z) }
