-- `watch::put_load`: the answer is put behind the line `game`.
use Prim.Native.Nat.{◌/◌}
use mathlib.Core.Path.{sym, ap, ◌∙◌}
use Rattle.plain.specs.Machine.{game_line}
use Rattle.watch.proofs.Writing.{put_as, two_lines}
use Rattle.watch.proofs.put_load.Goals as goal

pub returns : goal.returns
returns c =
    rw (sym c.is_refused.ensures ∙ c.if-is_refused.false)
    (two_lines _ _ _ _ _ _ _
    (put_as _ _ _ _ _ _ (ap (game_line c.args.lead.size (c.args.lead.count / 2)) c.count-paying.ensures) c.put_game-n.ensures)
    c.put_answer-m.ensures)
