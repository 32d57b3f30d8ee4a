-- `is_unexplored` meets its contract: a test for each of the three ways out. Assumes nothing.
use mathlib.Core.Path.{◌≡◌, sym, ap, ◌∙◌}
use mathlib.Core.Bool.{Bool}
use Prim.Native.Nat.{ℕ, suc}
use native.Mathlib.Numerals.{add-one}
use native.Mathlib.Omega.{arith}
use lib.Dec.{ltb}
use lib.ListN.{get_or}
use borrow.Author.Tests.{lt-ltb, le-ltb}
use Rattle.rows.specs.Rows.{entries, place_of}
use Rattle.resumption.specs.Model.{unexplored_edge}
use Rattle.resumption.proofs.Edges.{edge_off, edge_comes, edge_goes}
use Rattle.resumption.proofs.is_unexplored.Goals as goal

-- not below the tip
pub returns-then-tip-i : goal.returns-then-tip-i
returns-then-tip-i c = let a = c.args in
    sym (edge_off a.copy a.from a.to a.rows.now a.index.now a.walk.now a.tip a.on
    (le-ltb (place_of a.copy (entries a.tip 0 a.walk.now)) a.tip (omega (arith, c.find-i.ensures, c.if-tip-i.true))))

-- an edge that comes
pub returns-then-on : goal.returns-then-on
returns-then-on c = let a = c.args in
    sym (ap (λ (b : Bool). unexplored_edge b a.copy a.from a.to a.rows.now a.index.now a.walk.now a.tip) c.if-on.true
    ∙ edge_comes a.copy a.from a.to a.rows.now a.index.now a.walk.now a.tip (lt-ltb (place_of a.copy (entries a.tip 0 a.walk.now)) a.tip (omega (arith, c.find-i.ensures, c.if-tip-i.false))))

-- an edge that goes
pub returns : goal.returns
returns c = let a = c.args in
    let i = place_of a.copy (entries a.tip 0 a.walk.now) in
    let next : c.get-next.result ≡ get_or a.walk.now (suc i) 0 = c.get-next.ensures ∙ ap (λ (n : ℕ). get_or a.walk.now n 0) (add-one c.find-i.result ∙ ap suc c.find-i.ensures) in
    let last : c.get.result ≡ get_or a.index.now (get_or a.walk.now (suc i) 0) 0 = c.get.ensures ∙ ap (λ (n : ℕ). get_or a.index.now n 0) next in
    (λ k. ltb (last k) (c.place.ensures k))
    ∙ sym (ap (λ (x : Bool). unexplored_edge x a.copy a.from a.to a.rows.now a.index.now a.walk.now a.tip) c.if-on.false
    ∙ edge_goes a.copy a.from a.to a.rows.now a.index.now a.walk.now a.tip (lt-ltb i a.tip (omega (arith, c.find-i.ensures, c.if-tip-i.false))))
