-- The textbook search of a game is the box's load of it: on the contracts of `textbook::search` and `session::load`, for every game, accepted or refused, and every list of the
-- same contents. Assumes nothing.
use mathlib.Core.List.{List}
use Prim.Native.Nat.{ℕ}
use lib.ListN.{length}
use Rattle.plain.specs.Refusals.{Load, load_trial}
use Rattle.plain.specs.Machine.{load_answer, table_of}
use Rattle.verdict.specs.declared.Answer.{Answer}
use Rattle.verdict.specs.Answers.{LoadAnswered}
use Rattle.verdict.proofs.Told.{answered_once}
use Rattle.session.specs.declared.Outcome.{Outcome}
use Rattle.session.specs.Promises.{Loads}
use Rattle.desk.specs.AsLoad.{AsLoad}

pub as_load : (l : Load) (lent : List ℕ) (r : Outcome) (lent' : List ℕ) (a : Answer) (lent₂ : List ℕ) → Loads l lent r lent' → LoadAnswered l lent a lent₂ → AsLoad r lent' a lent₂
as_load l lent r lent' a lent₂ load search =
    let same = answered_once (load_answer (load_trial l (length lent)) (table_of l)) lent a r.answer lent₂ lent' search load.answers in
    record { same_answer = same.0; same_list = same.1 }
