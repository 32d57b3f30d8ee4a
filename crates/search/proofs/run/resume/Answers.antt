-- `resume` meets its contract: what it makes of the arrays is the search as it stood, and `run` goes on from there. Assumes nothing.
use Rattle.std.proofs.Common.{◌≡◌, ℕ, ◌%◌, length, refl, ap, arith, rules}
use Rattle.search.proofs.Ways.{rewound_by, outer_deep}
use Rattle.look.proofs.Counting.{up_most, blanks_most}
use Rattle.search.proofs.Scans.{ran_from}
use Rattle.search.proofs.run.resume.Goals as goal

pub run-requires : goal.run-requires
run-requires c =
    let long : length c.retrace.new.records.number ≡ 512 = search rules in
    (outer_deep _ refl, omega (arith, blanks_most c.retrace.new.records.number, c.up.ensures, up_most (c.get-limit.result % 512)))

pub returns : goal.returns
returns c =
    let a = c.args in
    ran_from _ (rewound_by a.states a.start a.s a.spent.now a.records.now (ap (λ (n : ℕ). n % 512) c.get-limit.ensures) c.forget_above.ensures c.forget_above-2.ensures
    c.climb-height.ensures c.retrace.ensures.records_after c.retrace.ensures.trail_after c.up.ensures c.get.ensures) c.run.ensures
