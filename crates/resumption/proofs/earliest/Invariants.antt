-- `earliest` meets its contract: the first so far, and the copies of the states that are left, give that of all. Assumes nothing.
use mathlib.Core.Path.{◌≡◌}
use mathlib.Core.List.{List}
use Prim.Native.Nat.{ℕ}
use lib.ListN.{drop}
use Rattle.resumption.specs.declared.First.{First}
use Rattle.resumption.specs.Model.{copies_up_all, first_of}
use Rattle.look.specs.Numbers.{no_number}
use Rattle.resumption.proofs.earliest.Given as goal

-- the first of all copies of the states, behind one that is found
abbrev pub among : ℕ → ℕ → List ℕ → First → List ℕ → First
among size kinds number first states = first_of first (copies_up_all size kinds states) number

abbrev pub invariant-loop-state : goal.invariant-loop-state
invariant-loop-state l = among l.size l.kinds l.number l.first (drop l.state-index l.states) ≡ among l.size l.kinds l.number (record { number = no_number; copy = 0 }) l.states
