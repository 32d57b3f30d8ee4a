-- `load` meets its contract: a refusal, or the table filed and its search begun. Assumes nothing.
use Rattle.std.proofs.Common.{rules, ◌≡◌, sym, ap, ◌∙◌, ℕ, List, length, refl}
use Rattle.plain.specs.Table.{by_kind}
use Rattle.plain.specs.Refusals.{Load, load_trial, pairs}
use Rattle.table.specs.Filing.{counted_all}
use Rattle.table.proofs.Trying.{tried_accepted}
use Rattle.table.proofs.Holding.{packs, four_kinds}
use Rattle.session.specs.declared.Session.{Session}
use Rattle.session.proofs.Loaded.{load_refused, load_accepted, loads_as, kinds_same}
use Rattle.session.proofs.load.Goals as goal

pub load_trial-trial-requires : goal.load_trial-trial-requires
load_trial-trial-requires c = let e = c.no_game.ensures in
    record { no_targets = ap (λ (s : Session). s.arrays.rows.targets) e; no_starts = ap (λ (s : Session). s.arrays.rows.starts) e }

-- the game that is loaded
abbrev game : ℕ → ℕ → ℕ → List ℕ → List ℕ → Load
game size start kinds marks numbers = record { size = size; start = start; kinds = kinds; marks = by_kind marks; numbers = numbers }

pub returns-in-Refused : goal.returns-in-Refused
returns-in-Refused c = let a = c.args in
    load_refused (game a.size a.start a.kinds a.marks a.numbers.now) a.lent.now c.refused-in-Refused.result c.no_game-in-Refused.result c.in-Refused.n
    c.refused-in-Refused.ensures c.no_game-in-Refused.ensures (sym c.in-Refused.is ∙ c.load_trial-trial.ensures.trial_is)

pub pack-s-requires : goal.pack-s-requires
pack-s-requires c = let a = c.args in
    let l = game a.size a.start a.kinds a.marks a.numbers.now in
    packs l (length a.lent.now) (tried_accepted (load_trial l (length a.lent.now)) (sym c.load_trial-trial.ensures.trial_is ∙ c.in_default.is))

pub returns : goal.returns
returns c = let a = c.args in
    let l = game a.size a.start a.kinds a.marks a.numbers.now in
    -- its marks have 32 words, by their type
    let sized : length a.marks ≡ 32 = search rules in
    let walk_size : length c.no_game.result.records.walk ≡ 512 = ap (λ (s : Session). length s.records.walk) c.no_game.ensures in
    loads_as l a.lent.now _ c.conclude-answer.ensures.answer (c.conclude-answer.ensures.session ∙ kinds_same a.size a.start c.search_afresh-r.result.verdict c.search_afresh-r.ensures.kinds_is)
    (load_accepted l a.lent.now _ _ _ _ _ c.search_afresh-r.result c.no_game.result.records.walk
    (tried_accepted (load_trial l (length a.lent.now)) (sym c.load_trial-trial.ensures.trial_is ∙ c.in_default.is))
    (c.load_trial-trial.ensures.filed c.in_default.is) (c.count_edges.ensures ∙ ap (λ (s : Session). counted_all (pairs a.numbers.now) s.arrays.indegree) c.no_game.ensures)
    walk_size (four_kinds a.marks sized) c.pack-s.ensures
    c.search_afresh-r.ensures _ refl)
