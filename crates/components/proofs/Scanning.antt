-- Going through the edges of the path's last state: groups are joined as the arrays tell, up to an edge to a state that is not discovered. Assumes nothing.
use mathlib.Core.Path.{◌≡◌, refl, sym, ap, subst, ◌∙◌}
use mathlib.Core.Logic.{◌≢◌, ◌⊎◌, inl, inr, ⊎_elim}
use mathlib.Core.Bool.{Bool, true, false, ◌&&◌, cond}
use mathlib.Core.List.{List, [], ◌∷◌, ◌++◌, map, append_assoc, append-nil}
use Prim.Native.Nat.{ℕ, suc, ◌≤◌, ◌<◌}
use native.Mathlib.Omega.{arith}
use lib.Dec.{eqb, ltb}
use lib.ListN.{length, get_or, drop, length-append}
use borrow.Author.Tests.{eqb-true, eqb-false, lt-ltb, le-ltb}
use Rattle.std.specs.Prelude.{None, Some}
use Rattle.plain.specs.Lists.{elem, In}
use Rattle.plain.specs.Search.{Frame, frame}
use Rattle.plain.specs.Cycles.{Kinded}
use Rattle.plain.proofs.Tests.{contra, either, not-true, in_nil, in_head, in_cases, in_append}
use Rattle.plain.proofs.Paths.{pending_here}
use Rattle.plain.proofs.Rounds.{StartInside, MovesInside}
use Rattle.look.specs.Numbers.{no_number}
use Rattle.look.specs.Scan.{row_in}
use Rattle.look.proofs.Counting.{edge_left}
use Rattle.look.specs.declared.Edge.{Edge}
use Rattle.components.specs.declared.Scanned.{Scanned}
use Rattle.components.specs.Model.{within, row_of, game_in, joined, scanned}
use Rattle.components.proofs.Groups.{Group, group, members_of, path_of, joining, joining_here, joining_below, joining_members, joining_path}
use Rattle.components.proofs.Invariant.{Inv, inv_taken, inv_joined}
use Rattle.components.proofs.Boards.{Piled, placed, placed_low, placed_none, placed_newer, placed_older, number_of, number_found, number_closed, number_open}

-- ---- groups in the arrays

-- by group the place of its first state among the open states
abbrev pub firsts_of : List Group → List ℕ
firsts_of [] = []
firsts_of (group ms p ∷ gs) = length (members_of gs) ∷ firsts_of gs

pub firsts_length : (gs : List Group) → length (firsts_of gs) ≡ length gs
firsts_length [] = refl
firsts_length (group ms p ∷ gs) = omega (arith, firsts_length gs)

-- the state has edges in each group: none has left the path whole
abbrev pub Walked : List Group → Type 0
Walked [] = Unit {0}
Walked (group ms p ∷ gs) = ((s : ℕ) × (ts : List ℕ) × (q : List Frame) × (p ≡ frame s ts ∷ q)) × Walked gs

module _ (firsts : List ℕ) (x : ℕ) where
  joined_stays : (n : ℕ) → get_or firsts n 0 ≤ x → joined firsts x (suc n) ≡ suc n
  unfolding joined
  joined_stays n h = by_test (ltb 0 n)
    where
      by_test : (b : Bool) → cond (b && ltb x (get_or firsts n 0)) (joined firsts x n) (suc n) ≡ suc n
      by_test true = rw (le-ltb x (get_or firsts n 0) h)
      by_test false = refl

  joined_last : joined firsts x 1 ≡ 1
  unfolding joined
  joined_last = refl

  joined_goes_on : (n : ℕ) → x < get_or firsts (suc n) 0 → joined firsts x (suc (suc n)) ≡ joined firsts x (suc n)
  unfolding joined
  joined_goes_on n h = rw (lt-ltb 0 (suc n) (omega arith), lt-ltb x (get_or firsts (suc n) 0) h)

-- the place of the newest group's first state
pub first_at : (firsts ms : List ℕ) (p : List Frame) (gs : List Group) → Piled firsts (firsts_of (group ms p ∷ gs)) → get_or firsts (length gs) 0 ≡ length (members_of gs)
first_at firsts ms p gs h = subst (λ (n : ℕ). get_or firsts n 0 ≡ length (members_of gs)) (firsts_length gs) h.0

-- a number above all places joins nothing
joined_none : (firsts : List ℕ) (x : ℕ) (ms : List ℕ) (p : List Frame) (gs : List Group) → Piled firsts (firsts_of (group ms p ∷ gs)) → length (members_of gs) ≤ x
    → joined firsts x (suc (length gs)) ≡ suc (length gs)
joined_none firsts x ms p gs h high = joined_stays firsts x (length gs) (omega (arith, first_at firsts ms p gs h))

-- the place of an open state joins the groups down to its own
record Joins (firsts : List ℕ) (n : ℕ) (gs : List Group) : Type 0 where
  count : n ≡ length gs
  firsts_are : Piled firsts (firsts_of gs)

joined_right : (firsts : List ℕ) (t x : ℕ) (ms : List ℕ) (p : List Frame) (gs : List Group) → Piled firsts (firsts_of (group ms p ∷ gs)) → In t (ms ++ members_of gs)
    → x ≡ placed t (ms ++ members_of gs) → Joins firsts (joined firsts x (suc (length gs))) (joining t ms p gs)
unfolding joining
joined_right firsts t x ms p [] h i e = record { count = joined_last firsts x; firsts_are = h }
joined_right firsts t x ms p (group ns q ∷ gs) h i e = ⊎_elim here (below (joined_right firsts t x (ms ++ ns) (p ++ q) gs h.1)) (either (elem t ms))
  where
    older : List ℕ
    older = ns ++ members_of gs

    Goal : ℕ → List Group → Type 0
    Goal n hs = Joins firsts n hs

    here : elem t ms ≡ true → Joins firsts (joined firsts x (suc (length (group ns q ∷ gs)))) (joining t ms p (group ns q ∷ gs))
    here j =
        let same_count = joined_none firsts x ms p (group ns q ∷ gs) h (omega (arith, placed_newer t ms older j)) in
        subst (Goal (joined firsts x (suc (length (group ns q ∷ gs))))) (sym (joining_here t ms p (group ns q ∷ gs) j)) (record { count = same_count; firsts_are = h })

    below : (In t ((ms ++ ns) ++ members_of gs) → x ≡ placed t ((ms ++ ns) ++ members_of gs) → Joins firsts (joined firsts x (suc (length gs))) (joining t (ms ++ ns) (p ++ q) gs))
        → elem t ms ≡ false → Joins firsts (joined firsts x (suc (length (group ns q ∷ gs)))) (joining t ms p (group ns q ∷ gs))
    below more o =
        let there : In t older = ⊎_elim (λ j. absurd (contra j o)) (λ j. j) (in_append t ms older i) in
        let low : x < get_or firsts (suc (length gs)) 0 = omega (arith, placed_low t older there, placed_older t ms older o, first_at firsts ms p (group ns q ∷ gs) h) in
        let all : (ms ++ ns) ++ members_of gs ≡ ms ++ older = append_assoc ms ns (members_of gs) in
        let rest = more (rw all i) (e ∙ ap (placed t) (sym all)) in
        subst (Goal (joined firsts x (suc (suc (length gs))))) (sym (joining_below t ms p ns q gs o))
        (subst (λ (n : ℕ). Goal n (joining t (ms ++ ns) (p ++ q) gs)) (sym (joined_goes_on firsts x (length gs) low)) rest)

-- what the newest group is then: its own members and path stand first
record Newest (ms : List ℕ) (p : List Frame) (gs : List Group) : Type 0 where
  others : List ℕ
  further : List Frame
  older : List Group
  newest_is : gs ≡ group (ms ++ others) (p ++ further) ∷ older

joining_newest : (t : ℕ) (ms : List ℕ) (p : List Frame) (gs : List Group) → Newest ms p (joining t ms p gs)
unfolding joining
joining_newest t ms p [] = record { others = []; further = []; older = []; newest_is = λ i. group (sym (append-nil ms) i) (sym (append-nil p) i) ∷ [] }
joining_newest t ms p (group ns q ∷ gs) = ⊎_elim
    (λ j. record { others = []; further = []; older = group ns q ∷ gs; newest_is = joining_here t ms p (group ns q ∷ gs) j ∙ (λ i. group (sym (append-nil ms) i) (sym (append-nil p) i) ∷ group ns q ∷ gs) })
    (λ o.
    let r = joining_newest t (ms ++ ns) (p ++ q) gs in
    record {
      others = ns ++ r.others;
      further = q ++ r.further;
      older = r.older;
      newest_is = joining_below t ms p ns q gs o ∙ r.newest_is ∙ (λ i. group (append_assoc ms ns r.others i) (append_assoc p q r.further i) ∷ r.older);
    }) (either (elem t ms))

-- the older ones are walked
walked_joining : (t : ℕ) (ms : List ℕ) (s : ℕ) (ts : List ℕ) (p : List Frame) (gs : List Group) → Walked gs → Walked (joining t ms (frame s ts ∷ p) gs)
unfolding joining
walked_joining t ms s ts p [] w = ((s, ts, p, refl), tt)
walked_joining t ms s ts p (group ns q ∷ gs) w = by_test (elem t ms) (walked_joining t (ms ++ ns) s ts (p ++ q) gs w.1)
  where
    by_test : (b : Bool) → Walked (joining t (ms ++ ns) (frame s ts ∷ p ++ q) gs)
        → Walked (elim b [ true ↦ group ms (frame s ts ∷ p) ∷ group ns q ∷ gs | false ↦ joining t (ms ++ ns) (frame s ts ∷ p ++ q) gs ])
    by_test true z = ((s, ts, p, refl), w)
    by_test false z = z

-- ---- the edges of a state, one after the other

-- targets are states
row_low : (xs : List ℕ) (y : ℕ) → In y (map within xs) → y < 512
row_low [] y i = absurd (in_nil y i)
row_low (x ∷ xs) y i = ⊎_elim (λ e. omega arith) (row_low xs y) (in_cases y (within x) (map within xs) i)

-- the path below its last state
abbrev below_last : List Frame → List Frame
below_last [] = []
below_last (x ∷ p) = p

module _ (number firsts : List ℕ) (t : ℕ) (ts : List ℕ) (e n : ℕ) where
  scanned_new : eqb (get_or number t 0) no_number ≡ true → scanned number firsts (t ∷ ts) e n ≡ record { groups = n; found = Some (record { index = e; target = t }) }
  unfolding scanned
  scanned_new h = rw (h, scanned)

  scanned_old : eqb (get_or number t 0) no_number ≡ false → scanned number firsts (t ∷ ts) e n ≡ scanned number firsts ts (suc e) (joined firsts (get_or number t 0) n)
  unfolding scanned
  scanned_old h = rw (h, scanned)

module _ (targets starts words : List ℕ) (size kinds start : ℕ) where
  abbrev pub game : Kinded
  game = game_in targets starts words size kinds start

  pub start_inside : StartInside game
  start_inside = omega arith

  pub target_low : (x y : ℕ) → In y (game.graph.successors x) → y < 512
  unfolding row_of
  target_low x y i = row_low (row_in targets starts x) y i

  pub moves_inside : MovesInside game
  moves_inside x y h i = target_low x y i

  -- the numbers are those of the open states ms, the closed states f and the found ones k
  abbrev pub Numbered : List ℕ → List ℕ → List ℕ → List ℕ → Type 0
  Numbered number ms f k = (x : ℕ) → x < 512 → get_or number x 0 ≡ number_of x ms f k

  -- Before edge e of s, the path's last state: the targets ts are left. M are the open states and P is the path below s, which stay the same while edges are taken.
  pub record Going (firsts M : List ℕ) (P : List Frame) (f k : List ℕ) (s : ℕ) (ms ts : List ℕ) (p : List Frame) (gs : List Group) (e : ℕ) : Type 0 where
    pub inv : Inv game (group ms (frame s ts ∷ p) ∷ gs) f k
    pub firsts_are : Piled firsts (firsts_of (group ms (frame s ts ∷ p) ∷ gs))
    pub members : ms ++ members_of gs ≡ M
    pub path : p ++ path_of gs ≡ P
    pub walked : Walked gs
    pub left : ts ≡ drop e (game.graph.successors s)

  -- where it ends: behind the last edge, or before one that leads to a state without a number
  abbrev pub Ending : List ℕ → List ℕ → ℕ → Scanned → Type 0
  Ending number ts e r = ((r.found ≡ None) × (ts ≡ [])) ⊎ ((edge : Edge) × (r.found ≡ Some edge) × (edge.index ≡ e) × (get_or number edge.target 0 ≡ no_number) × (rest : List ℕ) × (ts ≡ edge.target ∷ rest))

  pub record Gone (number firsts M : List ℕ) (P : List Frame) (f k : List ℕ) (s : ℕ) (r : Scanned) : Type 0 where
    pub ms : List ℕ
    pub ts : List ℕ
    pub p : List Frame
    pub gs : List Group
    pub e : ℕ
    pub going : Going firsts M P f k s ms ts p gs e
    pub groups_is : r.groups ≡ suc (length gs)
    pub ending : Ending number ts e r

  module _ (number firsts M : List ℕ) (P : List Frame) (f k : List ℕ) (s : ℕ) (numbered : Numbered number M f k) (few : length M ≤ 512) where
    -- after an edge to a state that is open or closed
    record Onward (ts : List ℕ) (e n : ℕ) : Type 0 where
      ms : List ℕ
      p : List Frame
      gs : List Group
      going : Going firsts M P f k s ms ts p gs e
      count : n ≡ suc (length gs)

    module _ (ms : List ℕ) (t : ℕ) (ts : List ℕ) (p : List Frame) (gs : List Group) (e : ℕ) (w : Going firsts M P f k s ms (t ∷ ts) p gs e) (old : get_or number t 0 ≢ no_number) where
      is_move : In t (game.graph.successors s)
      is_move = (w.inv.stack.0.genuine s t (pending_here s t (t ∷ ts) p (in_head t ts))).1

      number_is : get_or number t 0 ≡ number_of t M f k
      number_is = numbered t (target_low s t is_move)

      left_then : ts ≡ drop (suc e) (game.graph.successors s)
      left_then = (edge_left (game.graph.successors s) e t ts w.left).rest

      -- a closed state joins nothing
      onto_closed : In t f → Onward ts (suc e) (joined firsts (get_or number t 0) (suc (length gs)))
      onto_closed i = record {
        ms = ms;
        p = p;
        gs = gs;
        going = record { inv = inv_taken game ms s p gs f k t ts i w.inv; firsts_are = w.firsts_are; members = w.members; path = w.path; walked = w.walked; left = left_then };
        count = joined_none firsts (get_or number t 0) ms (frame s ts ∷ p) gs w.firsts_are (omega (arith, high, few, ap length w.members, length-append ms (members_of gs)));
      }
        where
          high : 65533 ≤ get_or number t 0
          high = ⊎_elim (λ j. omega (arith, number_is, number_found t M f k j)) (λ o. omega (arith, number_is, number_closed t M f k o i)) (either (elem t k))

      -- an open one joins the groups down to its own
      onto_open : elem t f ≡ false → Onward ts (suc e) (joined firsts (get_or number t 0) (suc (length gs)))
      onto_open o = record {
        ms = ms ++ new.others;
        p = p ++ new.further;
        gs = new.older;
        going = record {
          inv = subst (λ (hs : List Group). Inv game hs f k) new.newest_is (inv_joined game ms s p gs f k t ts there w.inv);
          firsts_are = subst (λ (hs : List Group). Piled firsts (firsts_of hs)) new.newest_is joins.firsts_are;
          members = ap members_of (sym new.newest_is) ∙ joining_members t ms (frame s ts ∷ p) gs ∙ w.members;
          path = ap below_last (ap path_of (sym new.newest_is) ∙ joining_path t ms (frame s ts ∷ p) gs) ∙ w.path;
          walked = (subst Walked new.newest_is (walked_joining t ms s ts p gs w.walked)).1;
          left = left_then;
        };
        count = joins.count ∙ ap length new.newest_is;
      }
        where
          place_is : get_or number t 0 ≡ placed t M
          place_is = number_is ∙ number_open t M f k (not-true (elem t k) (λ i. contra (w.inv.within t i) o)) o

          there : In t (ms ++ members_of gs)
          there = rw w.members (⊎_elim (λ i. i) (λ z. absurd (old (place_is ∙ placed_none t M z))) (either (elem t M)))

          joins : Joins firsts (joined firsts (get_or number t 0) (suc (length gs))) (joining t ms (frame s ts ∷ p) gs)
          joins = joined_right firsts t (get_or number t 0) ms (frame s ts ∷ p) gs w.firsts_are there (place_is ∙ ap (placed t) (sym w.members))

          new : Newest ms (frame s ts ∷ p) (joining t ms (frame s ts ∷ p) gs)
          new = joining_newest t ms (frame s ts ∷ p) gs

      onward : Onward ts (suc e) (joined firsts (get_or number t 0) (suc (length gs)))
      onward = ⊎_elim onto_closed onto_open (either (elem t f))

    pub scan_right : (ts ms : List ℕ) (p : List Frame) (gs : List Group) (e n : ℕ) → Going firsts M P f k s ms ts p gs e → n ≡ suc (length gs)
        → Gone number firsts M P f k s (scanned number firsts ts e n)
    unfolding scanned
    scan_right [] ms p gs e n w c = record { ms = ms; ts = []; p = p; gs = gs; e = e; going = w; groups_is = c; ending = inl (refl, refl) }
    scan_right (t ∷ ts) ms p gs e n w c = ⊎_elim new (old (scan_right ts)) (either (eqb (get_or number t 0) no_number))
      where
        new : eqb (get_or number t 0) no_number ≡ true → Gone number firsts M P f k s (scanned number firsts (t ∷ ts) e n)
        new h = subst (Gone number firsts M P f k s) (sym (scanned_new number firsts t ts e n h))
            (record { ms = ms; ts = t ∷ ts; p = p; gs = gs; e = e; going = w; groups_is = c; ending = inr (record { index = e; target = t }, refl, refl, eqb-true (get_or number t 0) no_number h, ts, refl) })

        old : ((ms : List ℕ) (p : List Frame) (gs : List Group) (e n : ℕ) → Going firsts M P f k s ms ts p gs e → n ≡ suc (length gs) → Gone number firsts M P f k s (scanned number firsts ts e n))
            → eqb (get_or number t 0) no_number ≡ false → Gone number firsts M P f k s (scanned number firsts (t ∷ ts) e n)
        old more h =
            let o = onward ms t ts p gs e w (eqb-false (get_or number t 0) no_number h) in
            subst (Gone number firsts M P f k s) (sym (scanned_old number firsts t ts e n h))
            (more o.ms o.p o.gs (suc e) (joined firsts (get_or number t 0) n) o.going (ap (joined firsts (get_or number t 0)) c ∙ o.count))
