-- When the desk program has read its game. Assumes nothing.
use Rattle.std.specs.Prelude.{Bool, true, false}
use Rattle.lead.specs.declared.Stage.{Stage}
use Rattle.lead.specs.declared.Stage.TheVariants.{Waiting, Opened, Gathering, Playing, Batching, Over}

-- is the game read whole, or refused?
abbrev pub is_read : Stage → Bool
is_read Waiting = false
is_read Opened = false
is_read Gathering = false
is_read Playing = true
is_read Batching = true
is_read Over = true
