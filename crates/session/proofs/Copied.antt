-- The copies of a state as the session names them, and what a change is to each of them. Assumes nothing.
use mathlib.Core.Path.{◌≡◌, refl, sym, ap, ◌∙◌}
use mathlib.Core.Logic.{◌≢◌, ⊎_elim}
use mathlib.Core.Bool.{Bool, true, false, ◌&&◌, ◌||◌, not}
use mathlib.Core.List.{List, [], ◌∷◌, map}
use Prim.Native.Nat.{ℕ, zero, suc, ◌+◌, ◌*◌, ◌-◌, ◌≤◌, ◌<◌}
use native.Mathlib.Nat.{mul-le-mul_right}
use native.Mathlib.Omega.{arith}
use lib.Dec.{eqb}
use borrow.Author.Tests.{eqb-false, not-true as untrue}
use Rattle.plain.specs.Lists.{all, any, elem, In}
use Rattle.plain.specs.Search.{Edge, Config, discovered_of, probes_of, run, finished, meets}
use Rattle.plain.specs.Layers.{copy, copies, copies_of, state_at, layer_at, lands}
use Rattle.plain.specs.Table.{Table, row, game_of, searched, copies_in, plain_edge, budget, final}
use Rattle.plain.specs.Refusals.{present}
use Rattle.plain.specs.Machine.{Change, add, cut, mark, unmark, named, unexplored, passed_over}
use Rattle.plain.proofs.Tests.{contra, either, not-true, same, in_nil, in_one, in_head, in_tail, in_cases, in_append, in_left, in_right, any_in, any_some}
use Rattle.plain.proofs.Copies.{copy_first, copy_up, state_copy, layer_most, copy_among, among_copies, among_all}
use Rattle.plain.proofs.Lifting.{in_map, state_at_lem, lands_below}
use Rattle.plain.proofs.LayerSizes.{copy_below}
use Rattle.plain.proofs.Edges.{has_map, map_has}
use Rattle.plain.proofs.OuterProbes.{looked_edge}
use Rattle.plain.proofs.Tables.{Valid, Within, inside_both}
use Rattle.plain.proofs.Demands.{target_below}
use Rattle.plain.proofs.Unexplored.{home_named, plain_look, unmet_unexplored}
use Rattle.look.specs.Numbers.{plus}
use Rattle.table.proofs.Places.{same_test}
use Rattle.resumption.specs.Model.{copies_up, copies_up_all}

-- ---- the copies, from the first layer upwards, are those of the papers

module _ (n k : ℕ) (fits : k * n ≤ 512) where
  module _ (s : ℕ) (low : s < 512) where
    -- the next copy
    next_copy : (l : ℕ) → l < k → plus (copy n l s) n ≡ copy n (suc l) s
    unfolding plus copy
    next_copy l h = let most : suc l * n ≤ k * n = mul-le-mul_right n h in omega (arith, copy_up n l s)

    up_has : (m l j : ℕ) → l ≤ j → j < l + m → l + m ≤ k → In (copy n j s) (copies_up n m (copy n l s))
    unfolding copies_up
    up_has zero l j a b h = absurd (omega arith)
    up_has (suc m) l j a b h = ⊎_elim
        (λ e. let z : j ≡ l = same e in rw z (in_head (copy n l s) (copies_up n m (plus (copy n l s) n))))
        (λ e. let z : j ≢ l = eqb-false j l e in
        in_tail (copy n j s) (copy n l s) (copies_up n m (plus (copy n l s) n))
        (ap (λ (v : ℕ). elem (copy n j s) (copies_up n m v)) (next_copy l (omega arith)) ∙ up_has m (suc l) j (omega arith) (omega arith) (omega arith))) (either (eqb j l))

    up_only : (m l x : ℕ) → l + m ≤ k → In x (copies_up n m (copy n l s)) → (j : ℕ) × (j < k) × (x ≡ copy n j s)
    unfolding copies_up
    up_only zero l x h i = absurd (in_nil x i)
    up_only (suc m) l x h i = ⊎_elim
        (λ e. (l, omega arith, e))
        (λ j. up_only m (suc l) x (omega arith) (ap (λ (v : ℕ). elem x (copies_up n m v)) (sym (next_copy l (omega arith))) ∙ j)) (in_cases x (copy n l s) (copies_up n m (plus (copy n l s) n)) i)

    pub copies_up_lem : 0 < k → (x : ℕ) → In x (copies n (k - 1) s) → In x (copies_up n k s)
    copies_up_lem some x i =
        let q = among_copies n (k - 1) s x i in
        ap (λ (y : ℕ). elem y (copies_up n k s)) q.2 ∙ ap (λ (v : ℕ). elem (copy n q.0 s) (copies_up n k v)) (sym (copy_first n s))
        ∙ up_has k 0 q.0 (omega arith) (omega (arith, q.1)) (omega arith)

    pub up_copies : (x : ℕ) → In x (copies_up n k s) → In x (copies n (k - 1) s)
    up_copies x i =
        let q = up_only k 0 x (omega arith) (ap (λ (v : ℕ). elem x (copies_up n k v)) (copy_first n s) ∙ i) in
        ap (λ (y : ℕ). elem y (copies n (k - 1) s)) q.2 ∙ copy_among n (k - 1) q.0 s (omega (arith, q.1))

  -- and those of several states
  abbrev Low : List ℕ → Type 0
  Low ss = (s : ℕ) → In s ss → s < 512

  pub all_up : 0 < k → (ss : List ℕ) → Low ss → (x : ℕ) → In x (copies_of n (k - 1) ss) → In x (copies_up_all n k ss)
  unfolding copies_of copies_up_all
  all_up some [] low x i = absurd (in_nil x i)
  all_up some (s ∷ ss) low x i = ⊎_elim
      (λ j. in_left x (copies_up n k s) (copies_up_all n k ss) (copies_up_lem s (low s (in_head s ss)) some x j))
      (λ j. in_right x (copies_up n k s) (copies_up_all n k ss) (all_up some ss (λ y m. low y (in_tail y s ss m)) x j)) (in_append x (copies n (k - 1) s) (copies_of n (k - 1) ss) i)

  pub up_all : (ss : List ℕ) → Low ss → (x : ℕ) → In x (copies_up_all n k ss) → In x (copies_of n (k - 1) ss)
  unfolding copies_of copies_up_all
  up_all [] low x i = absurd (in_nil x i)
  up_all (s ∷ ss) low x i = ⊎_elim
      (λ j. in_left x (copies n (k - 1) s) (copies_of n (k - 1) ss) (up_copies s (low s (in_head s ss)) x j))
      (λ j. in_right x (copies n (k - 1) s) (copies_of n (k - 1) ss) (up_all ss (λ y m. low y (in_tail y s ss m)) x j)) (in_append x (copies_up n k s) (copies_up_all n k ss) i)

-- ---- a test of each of some numbers

all_holds : (p : ℕ → Bool) (xs : List ℕ) → ((x : ℕ) → In x xs → p x ≡ true) → all p xs ≡ true
unfolding all
all_holds p [] h = refl
all_holds p (x ∷ xs) h = (λ i. h x (in_head x xs) i && all p xs) ∙ all_holds p xs (λ y j. h y (in_tail y x xs j))

all_fails : (p : ℕ → Bool) (xs : List ℕ) (x : ℕ) → In x xs → p x ≡ false → all p xs ≡ false
unfolding all
all_fails p [] x i f = absurd (in_nil x i)
all_fails p (y ∷ xs) x i f = ⊎_elim
    (λ e. ap (λ (b : Bool). b && all p xs) (ap p (sym e) ∙ f))
    (λ j. ap (λ (b : Bool). p y && b) (all_fails p xs x j f) ∙ never (p y)) (in_cases x y xs i)
  where
    never : (b : Bool) → (b && false) ≡ false
    never true = refl
    never false = refl

-- where the lists have the same numbers, all of one pass a test exactly when none of the other fails it
pub all_none : (p q : ℕ → Bool) (xs ys : List ℕ) → ((x : ℕ) → In x xs → In x ys) → ((x : ℕ) → In x ys → In x xs) → ((x : ℕ) → In x ys → p x ≡ not (q x)) → all p xs ≡ not (any q ys)
all_none p q xs ys into back e = ⊎_elim
    (λ h. let w = any_some q ys h in all_fails p xs w.0 (back w.0 w.1) (e w.0 w.1 ∙ ap not w.2) ∙ sym (ap not h))
    (λ h. all_holds p xs (λ x i. e x (into x i) ∙ ap not (not-true (q x) (λ y. contra (any_in q x ys (into x i) y) h))) ∙ sym (ap not h)) (either (any q ys))

-- ---- a change passed over, by copies

-- a second reason that is one for the first already
absorbed : (a b : Bool) → (b ≡ true → a ≡ true) → (a || b) ≡ a
absorbed true b f = refl
absorbed false true f = sym (f refl)
absorbed false false f = refl

module _ (t : Table) where
  -- the last run
  abbrev c : Config
  c = run (searched t) (budget t)

  -- the copy at which a move of x lands that leads to y
  abbrev pub landed : ℕ → ℕ → ℕ
  landed x y = copy t.size (lands (game_of t) (layer_at (game_of t) x) (state_at (game_of t) x)) y

  -- Had the run come to what a change alters, in the layer of x: had x finished its moves, was the move looked at, was x met?
  abbrev pub came_to : Change → ℕ → Bool
  came_to (add e) x = finished (searched t) (budget t) x
  came_to (cut e) x = present (probes_of c) (x, landed x e.1)
  came_to (mark s kind) x = elem x (discovered_of c)
  came_to (unmark s kind) x = elem x (discovered_of c)

module _ (t : Table) (v : Valid t) where
  -- the moves of x land among the layers
  pub lands_low : (x : ℕ) → lands (game_of t) (layer_at (game_of t) x) (state_at (game_of t) x) < t.kinds
  lands_low x = lands_below (game_of t) (layer_at (game_of t) x) (state_at (game_of t) x) (omega (arith, layer_most t.size (t.kinds - 1) x, v.some_kind))

  -- a copy of a state is one of that state
  pub home : (s x : ℕ) → s < t.size → In x (copies_in t (s ∷ [])) → state_at (game_of t) x ≡ s
  home s x b i =
      let w = among_all t.size (t.kinds - 1) (s ∷ []) x i in
      let q = among_copies t.size (t.kinds - 1) w.0 x w.2 in
      ap (state_at (game_of t)) (q.2 ∙ ap (copy t.size q.0) (in_one w.0 s w.1)) ∙ state_copy t.size (t.kinds - 1) q.0 s q.1 b

  -- the copies of the game's states are among the numbers of the arrays
  pub copies_few : (ss : List ℕ) → ((s : ℕ) → In s ss → s < t.size) → (x : ℕ) → In x (copies_in t ss) → x < 512
  copies_few ss low x i =
      let w = among_all t.size (t.kinds - 1) ss x i in
      let q = among_copies t.size (t.kinds - 1) w.0 x w.2 in
      let l : q.0 < t.kinds = omega (arith, q.1, v.some_kind) in
      omega (arith, q.2, copy_below t.size t.kinds q.0 w.0 l (low w.0 w.1), v.states_few)

  -- a look at a move, in whatever layer, is one at the move of some copy
  looked_copies : (e : Edge) → (e.0 < t.size) × (e.1 < t.size) → ((x : ℕ) (z : state_at (game_of t) x ≡ e.0) → plain_edge t (x, landed t x e.1) ≡ e)
      → present (map (plain_edge t) (probes_of (c t))) e ≡ any (λ x. present (probes_of (c t)) (x, landed t x e.1)) (copies_in t (e.0 ∷ []))
  looked_copies e (a, b) looks = same_test (present (map (plain_edge t) (probes_of (c t))) e) (any (λ x. present (probes_of (c t)) (x, landed t x e.1)) (copies_in t (e.0 ∷ []))) there back
    where
      there : present (map (plain_edge t) (probes_of (c t))) e ≡ true → any (λ x. present (probes_of (c t)) (x, landed t x e.1)) (copies_in t (e.0 ∷ [])) ≡ true
      there h =
          let q = map_has (plain_edge t) (probes_of (c t)) e h in
          let x = q.0.0 in
          let w = in_map (landed t x) q.0.1 (row t.edges (state_at (game_of t) x)) (looked_edge (searched t) (budget t) q.0 q.1) in
          let leads : w.0 ≡ e.1 =
          sym (state_at_lem (game_of t) (lands (game_of t) (layer_at (game_of t) x) (state_at (game_of t) x)) w.0 (lands_low x) (target_below t v (state_at (game_of t) x) w.0 w.1))
          ∙ ap (state_at (game_of t)) (sym w.2) ∙ ap (λ (y : Edge). y.1) (sym q.2) in
          let look : q.0 ≡ (x, landed t x e.1) = λ i. (x, (w.2 ∙ ap (landed t x) leads) i) in
          any_in (λ x. present (probes_of (c t)) (x, landed t x e.1)) x (copies_in t (e.0 ∷ []))
          (home_named t v t (refl, refl) (e.0 ∷ []) x (ap (λ (y : Edge). elem y.0 (e.0 ∷ [])) (sym q.2) ∙ in_head e.0 [])) (ap (present (probes_of (c t))) (sym look) ∙ q.1)

      back : any (λ x. present (probes_of (c t)) (x, landed t x e.1)) (copies_in t (e.0 ∷ [])) ≡ true → present (map (plain_edge t) (probes_of (c t))) e ≡ true
      back h =
          let q = any_some (λ x. present (probes_of (c t)) (x, landed t x e.1)) (copies_in t (e.0 ∷ [])) h in
          ap (present (map (plain_edge t) (probes_of (c t)))) (sym (looks q.0 (home e.0 q.0 a q.1))) ∙ has_map (plain_edge t) (probes_of (c t)) (q.0, landed t q.0 e.1) q.2

  -- a change is passed over exactly when the run had come to it in no layer
  pub passed_by_copies : (b : Change) → Within b t.size → passed_over b t ≡ not (any (came_to t b) (copies_in t (named b)))
  unfolding passed_over unexplored named final
  passed_by_copies (add e) w =
      absorbed (unexplored (add e) t) (not (meets (copies_in t (e.0 ∷ [])) (final t))) (λ h. (unmet_unexplored t v e (untrue (meets (copies_in t (e.0 ∷ [])) (final t)) h)).0)
  passed_by_copies (cut e) w =
      absorbed (unexplored (cut e) t) (not (meets (copies_in t (e.0 ∷ [])) (final t))) (λ h. (unmet_unexplored t v e (untrue (meets (copies_in t (e.0 ∷ [])) (final t)) h)).1)
      ∙ ap not (looked_copies e (inside_both t.size e w) (λ x z. plain_look t v t e x z (refl, refl) w))
  passed_by_copies (mark s kind) w = refl
  passed_by_copies (unmark s kind) w = refl
