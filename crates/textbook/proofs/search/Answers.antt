-- `search` meets its contract: a refusal, or the table filed, its marks packed and the start state visited. Assumes nothing.
use Rattle.std.proofs.Common.{sym, ◌∙◌, ℕ, List, length}
use Rattle.plain.specs.Table.{by_kind}
use Rattle.plain.specs.Refusals.{Load, load_trial}
use Rattle.table.proofs.Trying.{tried_refused, tried_accepted}
use Rattle.verdict.proofs.Loads.{load_refused}
use Rattle.table.proofs.Holding.{packs}
use Rattle.textbook.proofs.Whole.{told_lengths, searched_right}
use Rattle.textbook.proofs.search.Goals as goal

-- the game that is searched
abbrev game : (size start kinds : ℕ) → List ℕ → List ℕ → Load
game size start kinds marks numbers = record { size = size; start = start; kinds = kinds; marks = by_kind marks; numbers = numbers }

pub returns-in-Refused : goal.returns-in-Refused
returns-in-Refused c =
    let a = c.args in
    let l = game a.size a.start a.kinds a.marks a.numbers.now in
    load_refused l a.lent.now c.refused.result c.in-Refused.n c.refused.ensures
    (tried_refused (load_trial l (length a.lent.now)) c.in-Refused.n (sym c.in-Refused.is ∙ c.load_trial-trial.ensures.trial_is))

pub pack-words-requires : goal.pack-words-requires
pack-words-requires c =
    let a = c.args in
    let l = game a.size a.start a.kinds a.marks a.numbers.now in
    packs l (length a.lent.now) (tried_accepted (load_trial l (length a.lent.now)) (sym c.load_trial-trial.ensures.trial_is ∙ c.in_default.is))

-- the load is accepted
pub returns : goal.returns
returns c =
    let a = c.args in
    let l = game a.size a.start a.kinds a.marks a.numbers.now in
    let f = c.load_trial-trial.ensures in
    let told = told_lengths c.visit_start.result c.unwrap_or-walk.ensures in
    searched_right l a.lent.now _ _ _ (tried_accepted (load_trial l (length a.lent.now)) (sym f.trial_is ∙ c.in_default.is)) (f.filed c.in_default.is) c.pack-words.ensures c.down-above.ensures c.visit_start.ensures
    told.0 told.1 c.tell.ensures
