-- What a search was told to keep it keeps to its end, and a rewind leaves the count of probes. Assumes nothing.
use mathlib.Core.Path.{◌≡◌, refl, ◌∙◌}
use mathlib.Core.Bool.{Bool, true, false, cond}
use mathlib.Core.List.{List}
use Prim.Native.Nat.{ℕ, zero, suc}
use lib.Dec.{eqb, ltb, leb}
use lib.ListN.{get_or}
use Rattle.look.specs.Numbers.{no_number}
use Rattle.search.specs.declared.Phase.{Phase}
use Rattle.search.specs.declared.Phase.TheVariants.{Outer, Nested, Exhausted, Found}
use Rattle.search.specs.Core.{Game, Core, with_walker, probed, skipped, finished, emptied, returned, exhausted as over', closed, discover, deepen, leave_root, on_open_path, by_phase, target_of, has_edge, outer_probe, finish, outer_step, nested_probe, nested_step, step, run_for, rewound, accepts_at}
use Rattle.search.specs.declared.Walker.{Walker}

cond_kept : (b : Bool) (x y : Core) (k : ℕ) → x.walker.kept ≡ k → y.walker.kept ≡ k → (cond b x y).walker.kept ≡ k
cond_kept true x y k e f = e
cond_kept false x y k e f = f

phase_kept : (p : Phase) (x y z : Core) (k : ℕ) → x.walker.kept ≡ k → y.walker.kept ≡ k → z.walker.kept ≡ k → (by_phase p x y z).walker.kept ≡ k
phase_kept Outer x y z k e f g = e
phase_kept Nested x y z k e f g = f
phase_kept Exhausted x y z k e f g = g
phase_kept Found x y z k e f g = g

finished_kept : (b : Bool) (parent index : List ℕ) (w : Walker) → (finished b parent index w).kept ≡ w.kept
unfolding finished
finished_kept true parent index w = refl
finished_kept false parent index w = refl

back_kept : (b : Bool) (w x y : Walker) → x.kept ≡ w.kept → y.kept ≡ w.kept → (cond b x y).kept ≡ w.kept
back_kept true w x y e f = e
back_kept false w x y e f = f

module _ (g : Game) where
  outer_probe_kept : (s : Core) → (outer_probe g s).walker.kept ≡ s.walker.kept
  unfolding outer_probe discover
  outer_probe_kept s =
      cond_kept (eqb (get_or s.number (target_of g s) 0) no_number) (discover (probed s) (target_of g s)) (with_walker (probed s) (skipped s.walker)) s.walker.kept refl refl

  finish_kept : (s : Core) → (finish g s).walker.kept ≡ s.walker.kept
  unfolding finish
  finish_kept s = finished_kept (accepts_at g s.walker.cur) s.parent s.index s.walker

  outer_kept : (s : Core) → (outer_step g s).walker.kept ≡ s.walker.kept
  unfolding outer_step
  outer_kept s =
      cond_kept (eqb s.walker.height 0) (with_walker s (over' s.walker)) (cond (has_edge g s) (outer_probe g s) (finish g s)) s.walker.kept refl
      (cond_kept (has_edge g s) (outer_probe g s) (finish g s) s.walker.kept (outer_probe_kept s) (finish_kept s))

  nested_probe_kept : (s : Core) → (nested_probe g s).walker.kept ≡ s.walker.kept
  unfolding nested_probe deepen
  nested_probe_kept s =
      let t = target_of g s in
      let closes = with_walker (probed s) (closed s.walker (get_or s.depth t 0)) in
      cond_kept (eqb (get_or s.stamp t 0) no_number) (cond (on_open_path s.walk s.depth s.walker.height t) closes (deepen (probed s) t))
      (with_walker (probed s) (skipped s.walker)) s.walker.kept
      (cond_kept (on_open_path s.walk s.depth s.walker.height t) closes (deepen (probed s) t) s.walker.kept refl refl) refl

  nested_kept : (s : Core) → (nested_step g s).walker.kept ≡ s.walker.kept
  unfolding nested_step leave_root
  nested_kept s =
      let back = cond (leb s.walker.top s.walker.height) (emptied s.walker) (returned s.walk s.cursor s.walker) in
      cond_kept (ltb s.walker.top s.walker.height) (leave_root s) (cond (has_edge g s) (nested_probe g s) (with_walker s back)) s.walker.kept refl
      (cond_kept (has_edge g s) (nested_probe g s) (with_walker s back) s.walker.kept (nested_probe_kept s)
      (back_kept (leb s.walker.top s.walker.height) s.walker (emptied s.walker) (returned s.walk s.cursor s.walker) refl refl))

  step_kept : (s : Core) → (step g s).walker.kept ≡ s.walker.kept
  unfolding step
  step_kept s = phase_kept s.walker.phase (outer_step g s) (nested_step g s) s s.walker.kept (outer_kept s) (nested_kept s) refl

  pub run_kept : (n : ℕ) (s : Core) → (run_for g n s).walker.kept ≡ s.walker.kept
  unfolding run_for
  run_kept zero s = refl
  run_kept (suc n) s = run_kept n (step g s) ∙ step_kept s

pub rewound_spent : (size start s spent : ℕ) (number parent index probes stamp walk : List ℕ) → (rewound size start s spent number parent index probes stamp walk).spent ≡ spent
unfolding rewound
rewound_spent size start s spent number parent index probes stamp walk = refl
