-- Several steps at once: a scan, the step behind it, and the loops of the phases, in steps of the model. Assumes nothing.
use mathlib.Core.Path.{◌≡◌, refl, sym, ap, subst, ◌∙◌}
use mathlib.Core.Logic.{⊎_elim}
use mathlib.Core.Bool.{true, false}
use Prim.Native.Nat.{ℕ, zero, suc, ◌+◌, ◌-◌, ◌≤◌, ◌<◌}
use native.Mathlib.Nat.{add-zero, zero-add}
use native.Mathlib.Omega.{arith}
use lib.Dec.{leb}
use lib.ListN.{get_or}
use borrow.Author.Tests.{leb-true, leb-false, le-leb, lt-leb}
use Rattle.plain.proofs.Tests.{either}
use Rattle.std.specs.Prelude.{Option, None, Some}
use Rattle.look.specs.declared.Edge.{Edge}
use Rattle.look.specs.Numbers.{up, raised}
use Rattle.look.specs.Scan.{Skips, Swept}
use Rattle.look.proofs.Counting.{raised_none, raised_next, raised_up}
use Rattle.look.proofs.Scans.{skips_first, skips_later}
use Rattle.search.specs.declared.Phase.TheVariants.{Outer, Nested}
use Rattle.search.specs.declared.Walker.{Walker}
use Rattle.search.specs.Core.{Game, row_of, accepts_at, Core, core_of, placed, skipped, finished, returned, emptied, closed, with_walker, probed, discover, deepen, leave_root, go_back, finish, on_open_path, over, outer_step, nested_step, step, run_for, Deep, Advanced, Result, result, Ran}
use Rattle.search.proofs.Ways.{same_walker, same_core, outer_discovers, outer_skips, outer_finishes, nested_closes, nested_deepens, nested_skips, nested_returns, nested_empties, nested_leaves, step_at, run_over, finished_deep, discover_deep, deepen_deep, found_deep, back_deep}

-- ---- steps, one after the other

module _ (g : Game) where
  run_none : (s : Core) → run_for g 0 s ≡ s
  unfolding run_for
  run_none s = refl

  run_one : (s : Core) → run_for g 1 s ≡ step g s
  unfolding run_for
  run_one s = refl

  run_first : (n : ℕ) (s : Core) → run_for g (suc n) s ≡ run_for g n (step g s)
  unfolding run_for
  run_first n s = refl

  -- steps after steps
  run_add : (m n : ℕ) (s : Core) → run_for g (m + n) s ≡ run_for g n (run_for g m s)
  unfolding run_for
  run_add zero n s = ap (λ (k : ℕ). run_for g k s) (zero-add n)
  run_add (suc m) n s = let e : suc m + n ≡ suc (m + n) = omega arith in ap (λ (k : ℕ). run_for g k s) e ∙ run_add m n (step g s)

  -- a step after n steps
  run_then : (n : ℕ) (s x : Core) → run_for g n s ≡ x → run_for g (suc n) s ≡ step g x
  run_then n s x e =
      let one : suc n ≡ n + 1 = omega arith in
      ap (λ (k : ℕ). run_for g k s) one ∙ run_add n 1 s ∙ ap (run_for g 1) e ∙ run_one x

  advanced : (n : ℕ) (s x s' : Core) → run_for g n s ≡ x → s' ≡ step g x → Deep s'.walker → Advanced g s s'
  advanced n s x s' e f d = record { more = n; reached = f ∙ sym (run_then n s x e); deep = d }

  pub advanced_one : (s s' : Core) → s' ≡ step g s → Deep s'.walker → Advanced g s s'
  advanced_one s s' f d = advanced 0 s s s' (run_none s) f d

  -- a search that is over stays as it is
  pub advanced_over : (s : Core) → over s.walker.phase ≡ true → Deep s.walker → Advanced g s s
  advanced_over s o d = record { more = 0; reached = sym (run_over g 1 s o); deep = d }

  -- ---- the loops of one phase, and of `run`

  -- some steps, at least so many
  pub record Made (least : ℕ) (s s' : Core) : Type 0 where
    pub steps : ℕ
    pub enough : least ≤ steps
    pub reached : s' ≡ run_for g steps s

  pub made_start : (s : Core) → Made 0 s s
  made_start s = record { steps = 0; enough = omega arith; reached = sym (run_none s) }

  pub made_more : {s x y : Core} {least : ℕ} → Made least s x → Advanced g x y → Made (least + 1) s y
  made_more {s = s} r a = record {
    steps = r.steps + suc a.more;
    enough = omega (arith, r.enough);
    reached = a.reached ∙ ap (run_for g (suc a.more)) r.reached ∙ sym (run_add r.steps (suc a.more) s);
  }

  pub made_then : {s x y : Core} {least : ℕ} → Made least s x → Advanced g x y → Advanced g s y
  made_then {s = s} r a =
      let sum : r.steps + suc a.more ≡ suc (r.steps + a.more) = omega arith in
      record {
        more = r.steps + a.more;
        reached = a.reached ∙ ap (run_for g (suc a.more)) r.reached ∙ sym (run_add r.steps (suc a.more) s) ∙ ap (λ (n : ℕ). run_for g n s) sum;
        deep = a.deep;
      }

  pub made_on : {s x y : Core} → Made 0 s x → Advanced g x y → Made 0 s y
  made_on r a = let z = made_then r a in record { steps = suc z.more; enough = omega arith; reached = z.reached }

  -- at least as many steps as phases were asked for: where the search is over by then, further ones do nothing
  ran : (s x : Core) (phases : ℕ) → Made phases s x → Ran g phases s (result x)
  ran s x phases r = record {
    ends = λ o.
        let all : r.steps ≡ phases + (r.steps - phases) = omega (arith, r.enough) in
        ap result (r.reached ∙ ap (λ (n : ℕ). run_for g n s) all ∙ run_add phases (r.steps - phases) s ∙ run_over g (r.steps - phases) (run_for g phases s) o);
    steps = r.steps;
    enough = r.enough;
    reached = ap result r.reached;
  }

  pub ran_over : (s x : Core) (phases : ℕ) {least : ℕ} → Made least s x → over x.walker.phase ≡ true → Ran g phases s (result x)
  ran_over s x phases r o = ran s x phases (record {
    steps = r.steps + phases;
    enough = omega arith;
    reached = sym (run_over g phases x o) ∙ ap (run_for g phases) r.reached ∙ sym (run_add r.steps phases s);
  })

  pub ran_all : (s x : Core) (phases least : ℕ) → phases ≤ least → Made least s x → Ran g phases s (result x)
  ran_all s x phases least h r = ran s x phases (record { steps = r.steps; enough = omega (arith, r.enough); reached = r.reached })

  pub ran_from : {s s₂ : Core} {phases : ℕ} {x : Result} → s ≡ s₂ → Ran g phases s x → Ran g phases s₂ x
  ran_from {phases = phases} {x = x} e r = subst (λ (y : Core). Ran g phases y x) e r

-- ---- the steps of a scan

-- the same at another edge, with another count of probes
abbrev pub standing : Core → ℕ → ℕ → Core
standing s next spent = core_of (placed s.walker next) spent s.number s.parent s.index s.probes s.stamp s.walk s.depth s.cursor

standing_here : (s : Core) → standing s (s.walker.next + 0) (raised 0 s.spent) ≡ s
standing_here s = same_core _ _ refl refl refl refl refl refl refl refl (raised_none s.spent) (same_walker _ _ refl refl (add-zero s.walker.next) refl refl refl refl refl)

-- one edge is passed over, and then n more
module _ (g : Game) (s : Core) where
  abbrev passing : Core
  passing = with_walker (probed s) (skipped s.walker)

  standing_next : (n : ℕ) → standing passing (suc s.walker.next + n) (raised n (up s.spent)) ≡ standing s (s.walker.next + suc n) (raised (suc n) s.spent)
  standing_next n = same_core _ _ refl refl refl refl refl refl refl refl (raised_up n s.spent ∙ sym (raised_next n s.spent))
      (same_walker _ _ refl refl (omega arith) refl refl refl refl refl)

outer_run : (g : Game) (n : ℕ) (s : Core) → s.walker.phase ≡ Outer → (s.walker.height ≡ 0 → ⊥) → Skips (row_of g s.walker.cur) s.number s.walker.next n
    → run_for g n s ≡ standing s (s.walker.next + n) (raised n s.spent)
outer_run g zero s p high h = run_none g s ∙ sym (standing_here s)
outer_run g (suc n) s p high h =
    let w = skips_first (row_of g s.walker.cur) s.number s.walker.next n h in
    run_first g n s ∙ ap (run_for g n) (sym (outer_skips g s refl refl w.0 high w.1 ∙ step_at g s Outer p))
    ∙ outer_run g n (passing g s) p high (skips_later (row_of g s.walker.cur) s.number s.walker.next n h) ∙ standing_next g s n

nested_run : (g : Game) (n : ℕ) (s : Core) → s.walker.phase ≡ Nested → s.walker.height ≤ s.walker.top → Skips (row_of g s.walker.cur) s.stamp s.walker.next n
    → run_for g n s ≡ standing s (s.walker.next + n) (raised n s.spent)
nested_run g zero s p above h = run_none g s ∙ sym (standing_here s)
nested_run g (suc n) s p above h =
    let w = skips_first (row_of g s.walker.cur) s.stamp s.walker.next n h in
    run_first g n s ∙ ap (run_for g n) (sym (nested_skips g s refl refl w.0 above w.1 ∙ step_at g s Nested p))
    ∙ nested_run g n (passing g s) p above (skips_later (row_of g s.walker.cur) s.stamp s.walker.next n h) ∙ standing_next g s n

-- ---- the step behind a scan

-- the arrays with another walker and another count
abbrev pub counted : Core → Walker → ℕ → Core
counted s w spent = core_of w spent s.number s.parent s.index s.probes s.stamp s.walk s.depth s.cursor

module _ (g : Game) (s : Core) (r : Option Edge) (spent' : ℕ) where
  -- the walker at the edge at which the scan stopped
  abbrev stopped : Edge → Walker
  stopped e = placed s.walker e.index

  module _ (phase_is : s.walker.phase ≡ Outer) (high : s.walker.height ≡ 0 → ⊥)
      (q : Swept (row_of g s.walker.cur) s.number s.walker.next s.spent r spent') where
    abbrev there : Core
    there = standing s (s.walker.next + q.passed) (raised q.passed s.spent)

    then_outer : (s' : Core) → s' ≡ outer_step g there → Deep s'.walker → Advanced g s s'
    then_outer s' e d =
        advanced g q.passed s there s' (outer_run g q.passed s phase_is high q.skips) (e ∙ step_at g there Outer phase_is) d

    pub then_discovers : (x : Edge) → r ≡ Some x → (s' : Core) → s' ≡ discover (counted s (stopped x) spent') x.target → Advanced g s s'
    then_discovers x hit s' f =
        let l = q.looked x hit in
        let h = l.0 in
        then_outer s' (f ∙ ap (λ (k : ℕ). discover (counted s (placed s.walker k) spent') x.target) h.index_is
        ∙ outer_discovers g there h.target_is l.1 h.edge high h.new)
        (subst (λ (y : Core). Deep y.walker) (sym f) (discover_deep _ _))

    pub then_finishes : (w : Walker) → r ≡ None → w ≡ finished (accepts_at g s.walker.cur) s.parent s.index s.walker
        → Advanced g s (counted s w spent')
    unfolding finish finished
    then_finishes w no_more f =
        let l = q.ended no_more in
        then_outer _ ((λ i. counted s (f i) (l.1 i)) ∙ outer_finishes g there l.0 high)
        (subst Deep (sym f) (finished_deep (accepts_at g s.walker.cur) s.parent s.index s.walker high))

  module _ (phase_is : s.walker.phase ≡ Nested) (deep : Deep s.walker)
      (q : Swept (row_of g s.walker.cur) s.stamp s.walker.next s.spent r spent') where
    above : s.walker.height ≤ s.walker.top
    above = deep.above phase_is

    abbrev within : Core
    within = standing s (s.walker.next + q.passed) (raised q.passed s.spent)

    reaches : run_for g q.passed s ≡ within
    reaches = nested_run g q.passed s phase_is above q.skips

    then_nested : (s' : Core) → s' ≡ nested_step g within → Deep s'.walker → Advanced g s s'
    then_nested s' e d = advanced g q.passed s within s' reaches (e ∙ step_at g within Nested phase_is) d

    module _ (x : Edge) (hit : r ≡ Some x) where
      pub then_closes : (h : ℕ) → on_open_path s.walk s.depth s.walker.height x.target ≡ true → h ≡ get_or s.depth x.target 0
          → Advanced g s (counted s (closed s.walker h) spent')
      then_closes h on e =
          let l = q.looked x hit in
          then_nested _ (nested_closes g within l.0.target_is l.1 l.0.edge above l.0.new e on) (found_deep _ refl)

      pub then_deepens : (s' : Core) → on_open_path s.walk s.depth s.walker.height x.target ≡ false
          → s' ≡ deepen (counted s (stopped x) spent') x.target → Advanced g s s'
      then_deepens s' off f =
          let l = q.looked x hit in
          then_nested s' (f ∙ ap (λ (k : ℕ). deepen (counted s (placed s.walker k) spent') x.target) l.0.index_is
          ∙ nested_deepens g within l.0.target_is l.1 l.0.edge above l.0.new off)
          (subst (λ (y : Core). Deep y.walker) (sym f) (deepen_deep _ _ (deep.high phase_is) above))

    below_is : {n : ℕ} → s.walker.height < s.walker.top → spent' ≡ n → go_back (counted s s.walker spent') ≡ counted s (returned s.walk s.cursor s.walker) n
    unfolding go_back
    below_is h e = rw (lt-leb s.walker.top s.walker.height h) (ap (counted s (returned s.walk s.cursor s.walker)) e)

    out_is : {n : ℕ} → s.walker.top ≤ s.walker.height → spent' ≡ n → go_back (counted s s.walker spent') ≡ leave_root (counted s (emptied (placed s.walker (s.walker.next + q.passed))) n)
    unfolding go_back leave_root
    out_is h e = rw (le-leb s.walker.top s.walker.height h, e)

    module _ (no_more : r ≡ None) where
      -- back to the state below: one step
      goes_below : s.walker.height < s.walker.top → Advanced g s (go_back (counted s s.walker spent'))
      goes_below h =
          let l = q.ended no_more in
          then_nested _ (below_is h l.1 ∙ nested_returns g within l.0 above h) (back_deep (counted s s.walker spent') (deep.high phase_is))

      -- out of the first state: two steps
      goes_out : s.walker.top ≤ s.walker.height → Advanced g s (go_back (counted s s.walker spent'))
      goes_out h =
          let l = q.ended no_more in
          let x = with_walker within (emptied within.walker) in
          advanced g (suc q.passed) s x _
          (run_then g q.passed s within reaches ∙ sym (nested_empties g within l.0 above h ∙ step_at g within Nested phase_is))
          (out_is h l.1 ∙ nested_leaves g x (omega (arith, deep.high phase_is)) ∙ step_at g x Nested refl)
          (back_deep (counted s s.walker spent') (deep.high phase_is))

      pub then_returns : (s' : Core) → s' ≡ go_back (counted s s.walker spent') → Advanced g s s'
      then_returns s' f = subst (Advanced g s) (sym f) (⊎_elim
          (λ e. goes_out (leb-true s.walker.top s.walker.height e))
          (λ e. goes_below (leb-false s.walker.top s.walker.height e)) (either (leb s.walker.top s.walker.height)))
