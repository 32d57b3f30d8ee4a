-- A search of the arrays, begun or resumed to its end: what it has come to is what the plain search on the table comes to. Assumes nothing.
use mathlib.Core.Path.{◌≡◌, refl, ap, subst, subst⁻¹, ◌∙◌}
use mathlib.Core.Logic.{◌≢◌}
use mathlib.Core.Bool.{Bool, true, false, ◌&&◌, cond}
use mathlib.Core.List.{List}
use Prim.Native.Nat.{ℕ, ◌+◌, ◌*◌, ◌%◌, ◌≤◌, ◌<◌}
use native.Mathlib.Nat.{mul_comm}
use native.Mathlib.Omega.{arith}
use lib.Dec.{ltb}
use lib.ListN.{length, length-map}
use Rattle.plain.specs.Search.{Graph, Config, outer, nested, exhausted, found, run, lasso, unfinished, verdict, count}
use Rattle.plain.specs.Table.{Table, game_of, searched, printed, final, accepts}
use Rattle.plain.specs.Layers.{state_at}
use Rattle.plain.specs.Notes.{notes}
use Rattle.plain.proofs.Copies.{copy_first}
use Rattle.plain.proofs.Tables.{Valid, carried_few}
use Rattle.plain.proofs.Demands.{ended_within, run_final, verdict_right}
use Rattle.look.specs.Numbers.{plus}
use Rattle.look.proofs.Counting.{plus_more}
use Rattle.look.specs.Scan.{layout_of}
use Rattle.look.specs.declared.Layout.{Layout}
use Rattle.layers.proofs.Rows.{GameHeld, rows_layered, accepts_layered}
use Rattle.table.proofs.Holding.{game_held}
use Rattle.search.specs.declared.Walker.{Walker}
use Rattle.search.specs.Core.{Game, game_of as searchedGame, accepts_below, Core, Result, result, run_for, Ran}
use Rattle.search.specs.Archive.{Archived}
use Rattle.search.proofs.Represents.{Matches, Stands}
use Rattle.search.proofs.OneStep.{Fits}
use Rattle.plain.proofs.Limits.{limits, small, budget_bound}
use Rattle.search.proofs.Resumed.{at_run, archived}
use Rattle.search.proofs.Ended.{run_kept}
use Rattle.session.specs.declared.Verdict.{Verdict}
use Rattle.std.specs.Prelude.{Option, None, Some}
use Rattle.session.specs.Model.{game_in, states_in, records_in, is_found, verdict_of, bound, back_at, Sought}
use Rattle.search.specs.declared.Records.{Records}
use Rattle.session.specs.Promises.{height_of}
use Rattle.table.specs.declared.Arrays.{Arrays}
use Rattle.table.specs.Filing.{Stored}
use Rattle.verdict.specs.Answers.{WalkOf}

-- the rows and words are those of the table's graph
pub matches : (t : Table) (b : Arrays) → Valid t → Stored t b → Matches (searched t) (game_in t.size t.kinds b)
unfolding accepts_below
matches t b ok s = record {
  rows = rows_layered (game_of t) b.rows.targets b.rows.starts b.words held;
  acceptance = λ v h. let wraps : v ≡ v % 512 = omega arith in
      accepts_layered (game_of t) b.rows.targets b.rows.starts b.words held (λ x k e. (carried_few t ok 0 x (omega arith) k e).0) v h ∙ ap (λ (x : ℕ). ltb v t.size && accepts b.words x) wraps;
}
  where
    held : GameHeld (game_of t) b.rows.targets b.rows.starts b.words
    held = game_held t ok b.rows b.words s.filed s.packed

-- the layers have so many states, and the search on them starts where the game does
pub states_are : (t : Table) → Valid t → states_in t.size t.kinds ≡ t.kinds * t.size
states_are t ok = let few : t.size * t.kinds ≤ 512 = omega (arith, mul_comm t.size t.kinds, ok.states_few) in omega (arith, mul_comm t.size t.kinds)

pub starts_at : (t : Table) → (searched t).start ≡ t.start
starts_at t = copy_first t.size t.start

-- ---- what a search that is over has come to

-- it tells the walk and the height of the open path
stands_tells : (g : Graph) (s : Core) (c : Config) (spent : ℕ) → Stands g s c → verdict c ≢ unfinished → ((stem cycle : List ℕ) → verdict c ≡ lasso stem cycle → 0 < length cycle)
    → WalkOf (verdict_of s.walker spent).stem (verdict_of s.walker spent).length s.walk (verdict c) × ((verdict_of s.walker spent).height ≡ height_of c)
unfolding verdict verdict_of
stands_tells g s (outer p d k l) spent a n f = absurd (n refl)
stands_tells g s (nested b p q d k l) spent a n f = absurd (n refl)
stands_tells g s (exhausted d k l) spent a n f = rw a.0 ((refl, refl), refl)
stands_tells g s (found h p q d k l) spent a n f = rw a.phase_is ((a.stem_is, a.top_is, a.walk_is, f _ _ refl), a.height_is)

-- it tells its looks
pub verdict_kept : (w : Walker) (spent : ℕ) → ((verdict_of w spent).kept ≡ w.kept) × ((verdict_of w spent).spent ≡ spent)
unfolding verdict_of
verdict_kept w spent = by_test (is_found w.phase) (record { stem = w.stem; length = w.top; height = w.height; spent = spent; kept = w.kept })
    (record { stem = 0; length = 0; height = 0; spent = spent; kept = w.kept }) (refl, refl) (refl, refl)
  where
    by_test : (f : Bool) (a b : Verdict) → (a.kept ≡ w.kept) × (a.spent ≡ spent) → (b.kept ≡ w.kept) × (b.spent ≡ spent) → ((cond f a b).kept ≡ w.kept) × ((cond f a b).spent ≡ spent)
    by_test true a b x y = x
    by_test false a b x y = y

-- what a search that stood at a step and took `bound` steps more, or still more, has come to
pub record Reached (t : Table) (start-at : ℕ) (r : Result) : Type 0 where
  pub steps : ℕ
  pub ended : verdict (run (searched t) steps) ≢ unfinished
  pub archive : Archived (searched t) steps r.number r.parent r.index r.probes r.stamp r.walk
  pub tells : WalkOf (verdict_of r.walker r.spent).stem (verdict_of r.walker r.spent).length r.walk (verdict (final t))
  pub height_is : (verdict_of r.walker r.spent).height ≡ height_of (final t)
  pub kept_is : (verdict_of r.walker r.spent).kept ≡ count (run (searched t) start-at)
  pub adds_up : (verdict_of r.walker r.spent).kept + (verdict_of r.walker r.spent).spent ≡ count (final t)
  pub total_is : plus (verdict_of r.walker r.spent).kept (verdict_of r.walker r.spent).spent ≡ count (final t)

module _ (t : Table) (v : Valid t) (game : Game) (m : Matches (searched t) game) where
  reached_by : (more : ℕ) → bound ≤ more → (n : ℕ) (s : Core) → s.spent ≡ 0 → Fits (searched t) s (notes (searched t) n) (run (searched t) n) → Reached t n (result (run_for game more s))
  unfolding printed
  reached_by more enough n s unspent a =
      let g = searched t in
      let c = run_for game more s in
      let f = at_run g (t.kinds * t.size) (small t v) game m more n s a in
      let e : verdict (run g (n + more)) ≢ unfinished = ended_within t v (n + more) (omega (arith, enough, budget_bound t v)) in
      let z : run g (n + more) ≡ final t = run_final t v (n + more) e in
      let k = verdict_kept c.walker c.spent in
      let first : c.walker.kept ≡ count (run g n) = run_kept game more s ∙ omega (arith, a.0.probes_right) in
      let sum : c.walker.kept + c.spent ≡ count (final t) = f.0.probes_right ∙ ap count z in
      let few : count (final t) ≤ 4096 = omega (arith, ap count z, (limits g (t.kinds * t.size) (small t v) (n + more)).probes_few) in
      let told = stands_tells g c (final t) c.spent (subst (λ (x : Config). Stands g c x) z f.1) (subst (λ (x : Config). verdict x ≢ unfinished) z e) nonempty in
      record {
        steps = n + more;
        ended = e;
        archive = archived g (n + more) c f;
        tells = told.0;
        height_is = told.1;
        kept_is = k.0 ∙ first;
        adds_up = (λ i. k.0 i + k.1 i) ∙ sum;
        total_is = (λ i. plus (k.0 i) (k.1 i)) ∙ plus_more c.walker.kept c.spent (omega arith) ∙ sum;
      }
    where
      nonempty : (stem cycle : List ℕ) → verdict (final t) ≡ lasso stem cycle → 0 < length cycle
      nonempty stem cycle e = let w = (verdict_right t v).walk stem cycle e in omega (arith, ap length w.cycle_is, length-map cycle (state_at (game_of t)))

  pub reached : (n : ℕ) (s : Core) (r : Result) → s.spent ≡ 0 → Fits (searched t) s (notes (searched t) n) (run (searched t) n) → Ran game bound s r → Reached t n r
  reached n s r unspent a ran = subst⁻¹ (Reached t n) ran.reached (reached_by ran.steps ran.enough n s unspent a)

-- ---- what `seek` leaves

-- the rows that were laid for it are those of the layers
pub ran_laid : {targets begins ends bases words : List ℕ} {size phases : ℕ} {s : Core} {r : Result} (y : Layout) → layout_of begins ends bases ≡ y
    → Ran (searchedGame targets (layout_of begins ends bases) words size) phases s r → Ran (searchedGame targets y words size) phases s r
ran_laid {targets = targets} {words = words} {size = size} {phases = phases} {s = s} {r = r} y e ran = subst (λ (x : Layout). Ran (searchedGame targets x words size) phases s r) e ran

pub ran_states : {g : Game} {r : Result} (start s : ℕ) (a : Records) (n m : ℕ) → n ≡ m → Ran g bound (back_at n start s a) r → Ran g bound (back_at m start s a) r
ran_states {g = g} {r = r} start s a n m e ran = subst (λ (k : ℕ). Ran g bound (back_at k start s a) r) e ran

pub sought_nowhere : (g : Game) (size start : ℕ) (from : Option ℕ) (old : Verdict) (a : Records) → from ≡ None → Sought g size start from old a old a
sought_nowhere g size start from old a f = subst⁻¹ (λ (x : Option ℕ). Sought g size start x old a old a) f (refl, refl)

pub sought_at : (g : Game) (size start s : ℕ) (from : Option ℕ) (old : Verdict) (a : Records) (r : Result) (v : Verdict) → from ≡ Some s → v ≡ verdict_of r.walker r.spent
    → Ran g bound (back_at size start s a) r → Sought g size start from old a v (records_in r)
sought_at g size start s from old a r v f e ran = subst⁻¹ (λ (x : Option ℕ). Sought g size start x old a v (records_in r)) f (r, ran, e, refl)
