-- `watch::watch_text`: what is left to be written behind `at` is what the lines from `from` on are answered with, by what is held.
use Prim.Native.Nat.{◌-◌, ◌≤◌}
use mathlib.Core.Path.{◌≡◌}
use lib.ListN.{length}
use Rattle.lead.specs.Asked.{numbers_most}
use Rattle.watch.specs.Text.{Held, room, output_of}
use Rattle.watch.specs.Model.{lines_most}
use Rattle.watch.proofs.Steps.{lent_to, Tracks}
use Rattle.watch.proofs.Output.{Rest}
use Rattle.watch.proofs.Turns.{to_tell}
use Rattle.watch.proofs.watch_text.Given as goal

abbrev pub invariant-loop-from : goal.invariant-loop-from
invariant-loop-from l = (l.at ≤ l.space) × (length l.out ≡ length l.initial.out) × (length l.numbers ≡ numbers_most) × (length l.walk ≡ room) × (length l.lines ≡ lines_most)
    × ((p : Held) × (Tracks l.lead (lent_to l.marks l.numbers) l.c.session p × Rest l.initial.out l.space (output_of l.text) l.out l.at (to_tell p l.text l.from)))

abbrev pub decreases-loop-from : goal.decreases-loop-from
decreases-loop-from l = length l.text - l.from
