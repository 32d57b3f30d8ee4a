-- `visit` and `explore`, which call each other, meet their contracts. Assumes nothing.
use Rattle.std.proofs.Common.{◌≡◌, refl, sym, ap, ◌∙◌, ℕ, Bool, true, false, List, arith, rules}
use Rattle.plain.specs.Table.{accepts}
use Rattle.look.proofs.Scans.{laid_length, laid_within}
use Rattle.textbook.proofs.Sets.{left_visit, left_explore}
use Rattle.textbook.proofs.Turns.{taken, begins, ends, passed, went_on, stopped, pays_below, pays_beyond, visits_outer, visits_round, visits_paying}
use Rattle.textbook.proofs.+explore_visit.Goals as goal
use Rattle.textbook.proofs.+explore_visit.Goals.{explore-then-not-contains+else-is_some, explore-else-not-contains, visit-else-v-size-via-then-v-size+else-accepts_in, visit-else-v-size-via-else-v-size}

-- ---- the edges

pub explore-loop-e-init : goal.explore-loop-e-init
explore-loop-e-init t c = begins (λ g y. y.reads)

-- the place at which a turn looks is one of the array of targets
pub explore-overflow_add-row : goal.explore-overflow_add-row
explore-overflow_add-row t c = omega (arith, laid_within c.args.game.targets.now _ _ _ c.stretch_of-row.ensures c.loop-e.e c.loop-e-test.true)

pub explore-look-requires : goal.explore-look-requires
explore-look-requires t c = laid_within c.args.game.targets.now _ _ _ c.stretch_of-row.ensures c.loop-e.e c.loop-e-test.true

pub explore-visit-r-requires : goal.explore-visit-r-requires
explore-visit-r-requires t c =
    (left_visit _ _ c.lift-t.result c.decreases c.loop-e.invariant.kept.met_fewer (sym c.contains.ensures ∙ c.if-not-contains.true), tt)

pub explore-returns-then-is_some : goal.explore-returns-then-is_some
explore-returns-then-is_some t c =
    let edge = taken c.args.game.targets.now c.stretch_of-row.ensures c.loop-e-test.true c.look.ensures c.lift-t.ensures in
    stopped (λ g y. y.reads) c.loop-e.invariant edge (λ e. cc)
    (sym c.contains.ensures ∙ c.if-not-contains.true) c.visit-r.ensures (sym c.is_some.ensures ∙ c.if-is_some.true)

pub explore-loop-e-preserved : goal.explore-loop-e-preserved
explore-loop-e-preserved t c =
    let edge = taken c.args.game.targets.now c.stretch_of-row.ensures c.loop-e-test.true c.look.ensures c.lift-t.ensures in
    elim c.if-not-contains.branch [
      | explore-then-not-contains+else-is_some w ↦ rw w.board-is
          (went_on (λ g y. y.reads) c.loop-e.invariant edge (λ e. cc)
          (sym c.contains.ensures ∙ w.if-not-contains.true) w.visit-r.ensures (sym w.is_some.ensures ∙ w.if-is_some.false))
      | explore-else-not-contains w ↦ rw w.board-is
          (passed (λ g y. y.reads) c.loop-e.invariant edge (λ e. cc)
          (sym c.contains.ensures ∙ w.if-not-contains.false))
    ]

pub explore-returns : goal.explore-returns
explore-returns t c =
    ends (λ g y. y.reads) c.loop-e.e (omega (arith, laid_length c.args.game.targets.now _ _ _ c.stretch_of-row.ensures, c.loop-e-test.false)) c.loop-e.invariant

-- ---- a visit: the state is discovered, and has its place on the walk

pub visit-explore-r-requires : goal.visit-explore-r-requires
visit-explore-r-requires t c = (left_explore c.args.board.now.met _ c.args.v c.decreases c.insert.ensures, tt)

pub visit-returns-then-is_some : goal.visit-returns-then-is_some
visit-returns-then-is_some t c =
    visits_round (λ g y. y.reads) (record { met_is = c.insert.ensures; marked_is = refl; walk_is = c.put.ensures; spent_is = refl }) (search rules) (search rules) c.up-height.ensures c.explore-r.ensures
    (sym c.is_some.ensures ∙ c.if-is_some.true)

-- does the state pay?
pays_as : (words : List ℕ) (v w : ℕ) (bit b : Bool) → w ≡ v → bit ≡ accepts words w → bit ≡ b → accepts words v ≡ b
pays_as words v w bit b e a h = ap (accepts words) (sym e) ∙ sym a ∙ h

pub visit-returns-then-accepts_in : goal.visit-returns-then-accepts_in
visit-returns-then-accepts_in t c =
    let a = c.args in
    visits_paying (λ g y. y.reads) (record { met_is = c.insert.ensures; marked_is = refl; walk_is = c.put.ensures; spent_is = refl }) (search rules) (search rules) c.up-height.ensures c.explore-r.ensures
    (sym c.is_some.ensures ∙ c.if-is_some.false)
    (λ g y low. y.acceptance a.v low ∙ pays_below a.v a.game.size _ true c.if-v-size.true (pays_as a.game.words.now a.v _ _ true c.wide.ensures.0 c.accepts_in.ensures c.if-accepts_in.true))
    c.nested_visit.ensures.visits

pub visit-returns : goal.visit-returns
visit-returns t c =
    let a = c.args in
    visits_outer (λ g y. y.reads) (record { met_is = c.insert.ensures; marked_is = refl; walk_is = c.put.ensures; spent_is = refl }) (search rules) (search rules) c.up-height.ensures c.explore-r.ensures
    (λ g y low. y.acceptance a.v low ∙ elim c.else-v-size.branch [
      | visit-else-v-size-via-then-v-size+else-accepts_in w ↦ pays_below a.v a.game.size _ false w.if-v-size.true (pays_as a.game.words.now a.v _ _ false w.wide.ensures.0 w.accepts_in.ensures w.if-accepts_in.false)
      | visit-else-v-size-via-else-v-size w ↦ pays_beyond a.v a.game.size (accepts a.game.words.now a.v) w.if-v-size.false
    ])
