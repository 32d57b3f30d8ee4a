-- `watch::no_session`: a load of no states is refused with 2, and hands back no game.
use mathlib.Core.Path.{refl}
use Rattle.plain.specs.Refusals.{first_held, bad_size, load_trial}
use Rattle.plain.specs.Machine.{load_answer, answer_line}
use Rattle.verdict.proofs.Told.{shown_refused}
use Rattle.watch.proofs.no_session.Goals as goal

pub returns : goal.returns
unfolding first_held bad_size load_trial load_answer answer_line
returns c = (shown_refused c.load.result.answer _ 2 c.load.ensures.answers.line, c.load.ensures.empty 2 refl)
