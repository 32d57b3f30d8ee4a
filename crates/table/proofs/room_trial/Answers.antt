-- `room_trial` meets its contract. Assumes nothing.
use native.Mathlib.Omega.{arith}
use Prim.Native.Nat.{◌*◌, ◌≤◌, ◌<◌}
use Rattle.table.specs.declared.Trial.TheVariants.{Accepted}
use Rattle.table.proofs.Trying.{stop, skip, none_held, room_short, room_enough}
use Rattle.table.proofs.room_trial.Goals as goal

pub returns-then-room-times : goal.returns-then-room-times
returns-then-room-times c = let a = c.args in
    let less : a.room < a.size * a.kinds = omega (arith, c.times.ensures, c.if-room-times.true) in
    stop 11 _ _ (room_short (a.size * a.kinds) a.room less)

pub returns : goal.returns
returns c = let a = c.args in
    let enough : a.size * a.kinds ≤ a.room = omega (arith, c.times.ensures, c.if-room-times.false) in
    skip Accepted 11 _ _ (room_enough (a.size * a.kinds) a.room enough) none_held
