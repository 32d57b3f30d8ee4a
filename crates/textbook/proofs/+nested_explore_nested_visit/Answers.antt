-- `nested_visit` and `nested_explore`, which call each other, meet their contracts. Assumes nothing.
use Rattle.std.proofs.Common.{refl, sym, ◌∙◌, arith, rules}
use Rattle.look.proofs.Scans.{laid_length, laid_within}
use Rattle.textbook.proofs.Sets.{left_visit, left_explore}
use Rattle.textbook.proofs.Turns.{taken, begins, ends, closed, passed, went_on, stopped, visits_nested}
use Rattle.textbook.proofs.+nested_explore_nested_visit.Goals as goal
use Rattle.textbook.proofs.+nested_explore_nested_visit.Goals.{nested_explore-then-not-contains+else-is_some, nested_explore-else-not-contains}

-- ---- the edges

pub nested_explore-loop-e-init : goal.nested_explore-loop-e-init
nested_explore-loop-e-init t c = (begins (λ g y. y), refl)

-- the place at which a turn looks is one of the array of targets
pub nested_explore-overflow_add-row : goal.nested_explore-overflow_add-row
nested_explore-overflow_add-row t c = omega (arith, laid_within c.args.game.targets.now _ _ _ c.stretch_of-row.ensures c.loop-e.e c.loop-e-test.true)

pub nested_explore-look-requires : goal.nested_explore-look-requires
nested_explore-look-requires t c = laid_within c.args.game.targets.now _ _ _ c.stretch_of-row.ensures c.loop-e.e c.loop-e-test.true

pub nested_explore-returns-then-stem-height-clause-explores : goal.nested_explore-returns-then-stem-height-clause-explores
nested_explore-returns-then-stem-height-clause-explores t c =
    let edge = taken c.args.game.targets.now c.stretch_of-row.ensures c.loop-e-test.true c.look.ensures c.lift-t.ensures in
    closed (λ g y. y) c.loop-e.invariant.0 edge refl c.find-stem.result c.find-stem.ensures c.if-stem-height.true

pub nested_explore-nested_visit-r-requires : goal.nested_explore-nested_visit-r-requires
nested_explore-nested_visit-r-requires t c =
    (left_visit _ _ c.lift-t.result c.decreases c.loop-e.invariant.0.kept.marked_fewer (sym c.contains.ensures ∙ c.if-not-contains.true), tt)

pub nested_explore-returns-then-is_some-clause-explores : goal.nested_explore-returns-then-is_some-clause-explores
nested_explore-returns-then-is_some-clause-explores t c =
    let edge = taken c.args.game.targets.now c.stretch_of-row.ensures c.loop-e-test.true c.look.ensures c.lift-t.ensures in
    stopped (λ g y. y) c.loop-e.invariant.0 edge (λ _. omega (arith, c.find-stem.ensures))
    (sym c.contains.ensures ∙ c.if-not-contains.true) c.nested_visit-r.ensures.visits (sym c.is_some.ensures ∙ c.if-is_some.true)

pub nested_explore-loop-e-preserved : goal.nested_explore-loop-e-preserved
nested_explore-loop-e-preserved t c =
    let edge = taken c.args.game.targets.now c.stretch_of-row.ensures c.loop-e-test.true c.look.ensures c.lift-t.ensures in
    elim c.if-not-contains.branch [
      | nested_explore-then-not-contains+else-is_some w ↦ rw w.board-is (
        went_on (λ g y. y) c.loop-e.invariant.0 edge (λ _. omega (arith, c.find-stem.ensures))
            (sym c.contains.ensures ∙ w.if-not-contains.true) w.nested_visit-r.ensures.visits (sym w.is_some.ensures ∙ w.if-is_some.false),
        w.nested_visit-r.ensures.met_kept ∙ c.loop-e.invariant.1,
      )
      | nested_explore-else-not-contains w ↦ rw w.board-is (
        passed (λ g y. y) c.loop-e.invariant.0 edge (λ _. omega (arith, c.find-stem.ensures))
            (sym c.contains.ensures ∙ w.if-not-contains.false),
        c.loop-e.invariant.1,
      )
    ]

pub nested_explore-returns-clause-explores : goal.nested_explore-returns-clause-explores
nested_explore-returns-clause-explores t c =
    ends (λ g y. y) c.loop-e.e (omega (arith, laid_length c.args.game.targets.now _ _ _ c.stretch_of-row.ensures, c.loop-e-test.false)) c.loop-e.invariant.0

-- ---- a visit

pub nested_visit-nested_explore-requires : goal.nested_visit-nested_explore-requires
nested_visit-nested_explore-requires t c = (left_explore c.args.board.now.marked _ c.args.v c.decreases c.insert.ensures, tt)

-- the state is marked, and has its place on the walk
pub nested_visit-returns-clause-visits : goal.nested_visit-returns-clause-visits
nested_visit-returns-clause-visits t c =
    visits_nested (λ g y. y) (record { met_is = refl; marked_is = c.insert.ensures; walk_is = c.put.ensures; spent_is = refl }) (search rules) (search rules) c.up-next.ensures c.nested_explore.ensures.explores
