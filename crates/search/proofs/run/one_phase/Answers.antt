-- `one_phase` meets its contract: the phase tells the way. Assumes nothing.
use mathlib.Core.Path.{ap}
use mathlib.Core.Logic.{⊎_elim}
use Rattle.search.specs.Core.{over}
use Rattle.search.proofs.Scans.{advanced_over}
use Rattle.search.proofs.run.one_phase.Goals as goal

pub returns-in-Exhausted-clause-advanced : goal.returns-in-Exhausted-clause-advanced
returns-in-Exhausted-clause-advanced c = advanced_over _ _ (⊎_elim (λ e. ap over e) (λ e. ap over e) c.in-Exhausted.is) c.requires.0
