-- `find` meets its contract. The loop: the place is that of x in what is left of the entries, behind the i that were passed. Assumes nothing.
use Rattle.std.proofs.Common.{◌∙◌, add-one, arith}
use Rattle.rows.specs.Rows.{entries}
use Rattle.rows.proofs.Entries.{entries_length, entries_first, place_found, place_passed, place_end}
use Rattle.look.proofs.find.Goals as goal

pub returns-then-get-x : goal.returns-then-get-x
returns-then-get-x c = let a = c.args in
    let len = entries_length a.n 0 a.a.now in
    let at = entries_first a.n a.a.now c.loop-i.i (omega arith) in
    omega (arith, place_found a.x (entries a.n 0 a.a.now) c.loop-i.i c.get.result (omega arith) (c.get.ensures ∙ at) c.if-get-x.true)

pub loop-i-preserved : goal.loop-i-preserved
loop-i-preserved c = let a = c.args in
    let len = entries_length a.n 0 a.a.now in
    let at = entries_first a.n a.a.now c.loop-i.i (omega arith) in
    let passed = place_passed a.x (entries a.n 0 a.a.now) c.loop-i.i c.get.result (omega arith) (c.get.ensures ∙ at) c.if-get-x.false in
    (omega arith, rw add-one (omega arith))

pub returns : goal.returns
returns c = let a = c.args in
    let len = entries_length a.n 0 a.a.now in
    omega (arith, place_end a.x (entries a.n 0 a.a.now) c.loop-i.i (omega arith))
