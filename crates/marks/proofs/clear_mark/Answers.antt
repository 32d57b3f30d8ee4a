-- `marks::clear_mark` meets its contract: without the mask the word has the bit cleared, and past the last word nothing is cleared. Assumes nothing.
use mathlib.Core.Path.{◌≡◌}
use Prim.Native.Nat.{◌-◌, ◌/◌, ◌^◌}
use native.Mathlib.Omega.{arith}
use lib.Bits.{bit_and, and_comm}
use lib.ListN.{get_or}
use mir.Syntax.{w64}
use mir.Val.{Fits}
use borrow.Author.Rules.{rules}
use Rattle.std.proofs.lemmas.Grind.{common_steps}
use Rattle.std.proofs.lemmas.Nat.{and-not}
use Rattle.plain.specs.Table.{without_mark}
use Rattle.plain.proofs.Bits.{less_clears}
use Rattle.marks.proofs.clear_mark.Goals as goal

pub returns-then-word-words : goal.returns-then-word-words
unfolding without_mark
returns-then-word-words c = let w = get_or c.args.words.now (c.args.s / 64) 0 in
    let fit : Fits w64 w = search rules in
    let m = c.mask.result in
    let less : bit_and w (2 ^ 64 - 1 - m) ≡ w - bit_and w m =
    omega (arith, and-not 64 m w c.mask.type_inv fit.fits, and_comm m w, and_comm (2 ^ 64 - 1 - m) w) in
    grind (arith, common_steps, less, less_clears)

pub returns-else-word-words : goal.returns-else-word-words
unfolding without_mark
returns-else-word-words c = grind (arith, common_steps)
