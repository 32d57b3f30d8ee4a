-- Where a search is taken up for the lines of a call, over the lists that the arrays of a session hold. Cited by contracts alone. Assumes nothing.
use Rattle.std.specs.Prelude.{ℕ, zero, suc, ◌-◌, Bool, true, false, cond, ◌&&◌, ◌||◌, Option, None, Some, List, [], ◌∷◌, ◌++◌, eqb, ltb, get_or, take}
use Rattle.plain.specs.Lists.{all}
use Rattle.plain.specs.Machine.{BatchLine as PlainLine, makes, other}
use Rattle.rows.specs.Rows.{entries, row_at, place_of}
use Rattle.rows.specs.declared.Rows.{Rows}
use Rattle.table.specs.declared.Op.{Op}
use Rattle.table.specs.declared.Op.TheVariants.{Add, Cut, Mark, Unmark}
use Rattle.table.specs.Filing.{named_by}
use Rattle.batch.specs.Batches.{lines_in, states_in as named_in, op_for}
use Rattle.look.specs.Numbers.{no_number, plus}
use Rattle.resumption.specs.declared.First.{First}

-- the copies of a state, one in each of so many layers, and those of several states
unfoldable pub copies_up : ℕ → ℕ → ℕ → List ℕ
copies_up size zero v = []
copies_up size (suc n) v = v ∷ copies_up size n (plus v size)

unfoldable pub copies_up_all : ℕ → ℕ → List ℕ → List ℕ
copies_up_all size kinds [] = []
copies_up_all size kinds (s ∷ ss) = copies_up size kinds s ++ copies_up_all size kinds ss

-- Had the search not come to an edge that comes or goes, in the layer of one copy of the state that it leaves? Below the place of the tip stand, on the walk, the states that have not finished their outer moves. The state
-- behind each of them was discovered through the last of its edges that was taken: an edge that goes has to stand behind that one.
unfoldable pub unexplored_edge : Bool → ℕ → ℕ → ℕ → Rows → List ℕ → List ℕ → ℕ → Bool
unexplored_edge on copy from to rows index walk tip =
    let i = place_of copy (entries tip 0 walk) in
    ltb i tip && (on || ltb (get_or index (get_or walk (suc i) 0) 0) (place_of to (row_at rows.targets rows.starts from)))

-- of a change
abbrev pub unexplored_in : Op → ℕ → Rows → List ℕ → List ℕ → ℕ → Bool
unexplored_in (Add from to) copy rows index walk tip = unexplored_edge true copy from to rows index walk tip
unexplored_in (Cut from to) copy rows index walk tip = unexplored_edge false copy from to rows index walk tip
unexplored_in (Mark state kind) copy rows index walk tip = false
unexplored_in (Unmark state kind) copy rows index walk tip = false

-- Had the search not come to what a change alters, in the layer of one copy of the state that it names: was the copy never discovered, or the edge there not come to? The tip is the
-- last state of the open path, which is so many states high.
abbrev pub copy_passed_over : Op → ℕ → Rows → List ℕ → List ℕ → List ℕ → ℕ → Bool
copy_passed_over op copy rows number index walk height = eqb (get_or number copy 0) no_number || unexplored_in op copy rows index walk (height - 1)

-- in every layer; a line that makes no change is passed over
abbrev pub passed_over_in : PlainLine → ℕ → ℕ → Rows → List ℕ → List ℕ → List ℕ → ℕ → Bool
passed_over_in (makes c) size kinds rows number index walk height = all (λ copy. copy_passed_over (op_for c) copy rows number index walk height) (copies_up size kinds (named_by (op_for c)))
passed_over_in other size kinds rows number index walk height = true

abbrev pub all_passed_over : List PlainLine → ℕ → ℕ → Rows → List ℕ → List ℕ → List ℕ → ℕ → Bool
all_passed_over xs size kinds rows number index walk height = all (λ x. passed_over_in x size kinds rows number index walk height) xs

-- the most states that a batch names
abbrev pub named_most : ℕ
named_most = 64

-- the copy with the least discovery number of some, where the least so far is that of another
unfoldable pub first_of : First → List ℕ → List ℕ → First
first_of first [] number = first
first_of first (v ∷ vs) number = first_of (cond (ltb (get_or number v 0) first.number) (record { number = get_or number v 0; copy = v }) first) vs number

-- the state at whose discovery the search is taken up: none where none is discovered
abbrev pub taken_up_at : First → Option ℕ
taken_up_at first = cond (eqb first.number no_number) None (Some first.copy)

abbrev pub earliest_of : List ℕ → List ℕ → Option ℕ
earliest_of copies number = taken_up_at (first_of (record { number = no_number; copy = 0 }) copies number)

-- Where a search is taken up for the lines of a call, given as numbers: nowhere where all are passed over, else where the first copy of the states that they name was
-- discovered.
unfoldable pub resumption_of : ℕ → ℕ → List ℕ → Rows → List ℕ → List ℕ → List ℕ → ℕ → Option ℕ
resumption_of size kinds ns rows number index walk height =
    cond (all_passed_over (lines_in ns) size kinds rows number index walk height) None (earliest_of (copies_up_all size kinds (take named_most (named_in ns))) number)
