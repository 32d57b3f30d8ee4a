-- An edge that comes or goes, as the records of a search tell whether that had come to it. Assumes nothing.
use mathlib.Core.Path.{◌≡◌, refl, ap}
use mathlib.Core.Bool.{Bool, true, false, ◌&&◌, ◌||◌}
use mathlib.Core.List.{List, [], ◌∷◌}
use Prim.Native.Nat.{ℕ, suc}
use lib.Dec.{ltb}
use lib.ListN.{get_or}
use Rattle.plain.specs.Machine.{Change, add, cut, mark, unmark, named}
use Rattle.rows.specs.Rows.{entries, row_at, place_of}
use Rattle.rows.specs.declared.Rows.{Rows}
use Rattle.table.specs.declared.Subject.{Subject}
use Rattle.table.specs.Trials.{switching}
use Rattle.table.specs.Filing.{named_by}
use Rattle.batch.specs.Batches.{op_for}
use Rattle.resumption.specs.Model.{unexplored_edge, unexplored_in}

module _ (copy from to : ℕ) (rows : Rows) (index walk : List ℕ) (tip : ℕ) where
  abbrev place : ℕ
  place = place_of copy (entries tip 0 walk)

  abbrev next : ℕ
  next = get_or walk (suc place) 0

  abbrev target : ℕ
  target = place_of to (row_at rows.targets rows.starts from)

  pub edge_off : (on : Bool) → ltb place tip ≡ false → unexplored_edge on copy from to rows index walk tip ≡ false
  unfolding unexplored_edge
  edge_off on e = ap (λ (b : Bool). b && (on || ltb (get_or index next 0) target)) e

  pub edge_comes : ltb place tip ≡ true → unexplored_edge true copy from to rows index walk tip ≡ true
  unfolding unexplored_edge
  edge_comes e = ap (λ (b : Bool). b && (true || ltb (get_or index next 0) target)) e

  pub edge_goes : ltb place tip ≡ true → unexplored_edge false copy from to rows index walk tip ≡ ltb (get_or index next 0) target
  unfolding unexplored_edge
  edge_goes e = ap (λ (b : Bool). b && (false || ltb (get_or index next 0) target)) e

-- a change as it is switched: an edge, or a mark
pub switched_edge : (on : Bool) (x : Subject) (copy from to : ℕ) (rows : Rows) (index walk : List ℕ) (tip : ℕ) → x ≡ Subject.Edge from to
    → unexplored_in (switching on x) copy rows index walk tip ≡ unexplored_edge on copy from to rows index walk tip
switched_edge true x copy from to rows index walk tip e = ap (λ (y : Subject). unexplored_in (switching true y) copy rows index walk tip) e
switched_edge false x copy from to rows index walk tip e = ap (λ (y : Subject). unexplored_in (switching false y) copy rows index walk tip) e

pub switched_mark : (on : Bool) (x : Subject) (copy state kind : ℕ) (rows : Rows) (index walk : List ℕ) (tip : ℕ) → x ≡ Subject.Mark state kind → unexplored_in (switching on x) copy rows index walk tip ≡ false
switched_mark true x copy state kind rows index walk tip e = ap (λ (y : Subject). unexplored_in (switching true y) copy rows index walk tip) e
switched_mark false x copy state kind rows index walk tip e = ap (λ (y : Subject). unexplored_in (switching false y) copy rows index walk tip) e

-- the state that a change names is one
pub named_one : (c : Change) → named c ≡ named_by (op_for c) ∷ []
unfolding named
named_one (add e) = refl
named_one (cut e) = refl
named_one (mark s kind) = refl
named_one (unmark s kind) = refl
