-- `place` meets its contract. The loop: the place is that of t in what is left of the row, behind the k that were passed. Assumes nothing.
use native.Mathlib.Numerals.{add-one}
use native.Mathlib.Omega.{arith}
use Rattle.rows.specs.Rows.{row_at}
use Rattle.rows.proofs.Entries.{row_length, place_found, place_passed, place_end}
use Rattle.rows.proofs.Rows.place.Goals as goal

pub returns-then-target-t : goal.returns-then-target-t
returns-then-target-t c = let a = c.args in
    let row = row_at a.self.now.targets a.self.now.starts a.v in
    let len = row_length a.self.now.targets a.self.now.starts a.v in
    omega (arith, place_found a.t row c.loop-k.k c.target.result (omega arith) c.target.ensures c.if-target-t.true)

pub loop-k-preserved : goal.loop-k-preserved
loop-k-preserved c = let a = c.args in
    let row = row_at a.self.now.targets a.self.now.starts a.v in
    let len = row_length a.self.now.targets a.self.now.starts a.v in
    let passed = place_passed a.t row c.loop-k.k c.target.result (omega arith) c.target.ensures c.if-target-t.false in
    (omega arith, rw add-one (omega arith))

pub returns : goal.returns
returns c = let a = c.args in
    let row = row_at a.self.now.targets a.self.now.starts a.v in
    let len = row_length a.self.now.targets a.self.now.starts a.v in
    omega (arith, place_end a.t row c.loop-k.k (omega arith))
