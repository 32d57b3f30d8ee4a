-- The component search from its first turn to its last: it finds every state on a round. Assumes nothing.
use mathlib.Core.Path.{◌≡◌, refl, sym, ap, subst, ◌∙◌}
use mathlib.Core.Logic.{⊎_elim}
use mathlib.Core.Bool.{Bool}
use mathlib.Core.List.{List, [], ◌∷◌, ◌++◌}
use Prim.Native.Nat.{ℕ, zero, suc, ◌-◌, ◌≤◌, ◌<◌}
use native.Mathlib.Omega.{arith}
use lib.Dec.{eqb}
use lib.ListN.{length, get_or, set, drop, replicate}
use borrow.Author.Tests.{eq-eqb}
use Rattle.std.specs.Prelude.{None, Some}
use Rattle.plain.specs.Lists.{filter, below, elem, In}
use Rattle.plain.specs.Search.{Frame, frame}
use Rattle.plain.specs.Cycles.{Kinded}
use Rattle.plain.specs.Rounds.{on_rounds}
use Rattle.plain.proofs.Tests.{either, same, out_nil, in_filter, filter_in}
use Rattle.plain.proofs.Upto.{in_below, below_in, rising_below, rising_filter, rising_same}
use Rattle.plain.proofs.Rounds.{listed_by, rounds_rising, rounds_below}
use Rattle.look.specs.Numbers.{no_number, up}
use Rattle.components.specs.declared.Board.{Board}
use Rattle.components.specs.declared.Cursor.{Cursor}
use Rattle.look.specs.declared.Edge.{Edge}
use Rattle.components.specs.declared.Scanned.{Scanned}
use Rattle.components.specs.declared.Stand.{Stand}
use Rattle.components.specs.Model.{within, row_of, on_round, board_of, grouped, scanned, discovered, departed, onwards, advanced, states_found}
use Rattle.components.proofs.Groups.{Group, group, members_of, path_of}
use Rattle.components.proofs.Invariant.{Inv, inv_begins, all_found}
use Rattle.components.proofs.Boards.{number_of, number_found, number_closed, number_open, placed_none}
use Rattle.components.proofs.Scanning.{firsts_of, firsts_length, Walked, game, start_inside, moves_inside, Gone, scan_right}
use Rattle.components.proofs.Turns.{members_few, Laid, laid_discovered, laid_grouped, At, Turn, turn_new}
use Rattle.components.proofs.Leaving.{turn_done}

module _ (targets starts words : List ℕ) (size kinds start : ℕ) where
  abbrev a : Kinded
  a = game targets starts words size kinds start

  -- ---- the first turn

  -- before it no state has a number
  abbrev pub blank : Board
  blank = board_of (replicate 512 no_number) (replicate 512 0) (replicate 512 0) (replicate 512 0) (replicate 512 0)

  abbrev pub first : Cursor
  first = record { groups = 0; top = 0; height = 0 }

  no_number_lem : (n x : ℕ) → x < n → get_or (replicate n no_number) x 0 ≡ no_number
  no_number_lem zero x h = absurd (omega arith)
  no_number_lem (suc n) zero h = refl
  no_number_lem (suc n) (suc x) h = no_number_lem n x (omega arith)

  laid_blank : Laid targets starts words size kinds start blank first [] [] [] [] []
  laid_blank = record {
    sized = record { number_size = refl; stack_size = refl; firsts_size = refl; path_size = refl; next_size = refl };
    numbered = λ x h. no_number_lem 512 x h ∙ sym (number_open x [] [] [] (out_nil x) (out_nil x) ∙ placed_none x [] (out_nil x));
    stacked = tt;
    firsts_are = tt;
    framed = tt;
    groups_is = refl;
    top_is = refl;
    height_is = refl;
  }

  begins : At targets starts words size kinds start (discovered blank first (within start)).board (discovered blank first (within start)).cursor
  begins = record {
    gs = group (within start ∷ []) (frame (within start) (a.graph.successors (within start)) ∷ []) ∷ [];
    f = [];
    k = [];
    inv = inv_begins a;
    walked = ((within start, a.graph.successors (within start), [], refl), tt);
    laid = laid_discovered targets starts words size kinds start blank first [] [] [] [] [] (within start) laid_blank (omega arith) (omega arith, omega arith, omega arith)
        (out_nil (within start), out_nil (within start));
  }

  pub at_first_lem : (s : Stand) → s ≡ discovered blank first (within start) → At targets starts words size kinds start s.board s.cursor
  at_first_lem s e = subst (λ (s : Stand). At targets starts words size kinds start s.board s.cursor) (sym e) begins

  -- ---- the turns between

  module _ (b : Board) (c : Cursor) (f k : List ℕ) (ms : List ℕ) (s : ℕ) (ts : List ℕ) (q : List Frame) (gs : List Group) (v : Inv a (group ms (frame s ts ∷ q) ∷ gs) f k) (walked : Walked gs)
      (w : Laid targets starts words size kinds start b c (ms ++ members_of gs) (firsts_of (group ms (frame s ts ∷ q) ∷ gs)) (frame s ts ∷ q ++ path_of gs) f k) where
    -- the edges that are left
    abbrev e : ℕ
    e = get_or b.next (length (q ++ path_of gs)) 0

    abbrev gone_to : Scanned
    gone_to = scanned b.number b.firsts ts e c.groups

    gone : Gone targets starts words size kinds start b.number b.firsts (ms ++ members_of gs) (q ++ path_of gs) f k s gone_to
    gone = scan_right targets starts words size kinds start b.number b.firsts (ms ++ members_of gs) (q ++ path_of gs) f k s w.numbered
        (members_few targets starts words size kinds start (group ms (frame s ts ∷ q) ∷ gs) f k v) ts ms q gs e c.groups
        (record { inv = v; firsts_are = w.firsts_are; members = refl; path = refl; walked = walked; left = w.framed.1 }) (w.groups_is ∙ ap suc (firsts_length gs))

    advanced_is : advanced targets starts words size kinds b c ≡ onwards targets starts words size kinds b c gone_to
    unfolding advanced
    advanced_is =
        let at : c.height - 1 ≡ length (q ++ path_of gs) = omega (arith, w.height_is) in
        (λ i. onwards targets starts words size kinds b c (scanned b.number b.firsts (drop (get_or b.next (at i) 0) (row_of targets starts (get_or b.path (at i) 0))) (get_or b.next (at i) 0) c.groups))
        ∙ (λ i. onwards targets starts words size kinds b c (scanned b.number b.firsts (drop e (row_of targets starts (w.framed.0 i))) e c.groups))
        ∙ (λ i. onwards targets starts words size kinds b c (scanned b.number b.firsts (sym w.framed.1 i) e c.groups))

    onwards_done : (r : Scanned) → r.found ≡ None → onwards targets starts words size kinds b c r ≡ departed targets starts words size kinds b (grouped c r.groups)
    unfolding onwards
    onwards_done r z = rw z

    onwards_new : (r : Scanned) (edge : Edge) → r.found ≡ Some edge
        → onwards targets starts words size kinds b c r ≡ discovered (board_of b.number b.stack b.firsts b.path (set b.next (c.height - 1) (up edge.index))) (grouped c r.groups) edge.target
    unfolding onwards
    onwards_new r edge z = rw z

    -- the same arrays, by the groups that are left
    abbrev ms' : List ℕ
    ms' = gone.ms

    abbrev gs' : List Group
    gs' = gone.gs

    abbrev p' : List Frame
    p' = gone.p

    laid_then : Laid targets starts words size kinds start b c (ms' ++ members_of gs') (firsts_of (group ms (frame s ts ∷ q) ∷ gs)) (frame s ts ∷ p' ++ path_of gs') f k
    laid_then = subst (λ (p : List Frame). Laid targets starts words size kinds start b c (ms' ++ members_of gs') (firsts_of (group ms (frame s ts ∷ q) ∷ gs)) (frame s ts ∷ p) f k) (sym gone.going.path)
        (subst (λ (xs : List ℕ). Laid targets starts words size kinds start b c xs (firsts_of (group ms (frame s ts ∷ q) ∷ gs)) (frame s ts ∷ q ++ path_of gs) f k) (sym gone.going.members) w)

    inv_then : (us : List ℕ) → gone.ts ≡ us → Inv a (group ms' (frame s us ∷ p') ∷ gs') f k
    inv_then us z = subst (λ (xs : List ℕ). Inv a (group ms' (frame s xs ∷ p') ∷ gs') f k) z gone.going.inv

    done : gone_to.found ≡ None → gone.ts ≡ [] → Turn targets starts words size kinds start b c (onwards targets starts words size kinds b c gone_to)
    done z none =
        let grouped-then = laid_grouped targets starts words size kinds start b c (ms' ++ members_of gs') (firsts_of (group ms (frame s ts ∷ q) ∷ gs)) (firsts_of (group ms' p' ∷ gs'))
        (frame s ts ∷ p' ++ path_of gs') f k gone_to.groups laid_then gone.going.firsts_are (gone.groups_is ∙ ap suc (sym (firsts_length gs'))) in
        let t = turn_done targets starts words size kinds start b (grouped c gone_to.groups) f k s ts ms' p' gs' grouped-then (inv_then [] none) gone.going.walked in
        subst (Turn targets starts words size kinds start b c) (sym (onwards_done gone_to z)) (record { at = t.at; lighter = t.lighter })

    new : (edge : Edge) → gone_to.found ≡ Some edge → edge.index ≡ gone.e → get_or b.number edge.target 0 ≡ no_number → (rest : List ℕ) → gone.ts ≡ edge.target ∷ rest
        → Turn targets starts words size kinds start b c (onwards targets starts words size kinds b c gone_to)
    new edge z index unknown rest next =
        subst (Turn targets starts words size kinds start b c) (sym (onwards_new gone_to edge z))
        (turn_new targets starts words size kinds start b c (firsts_of (group ms (frame s ts ∷ q) ∷ gs)) f k s ts gone_to.groups edge ms' rest p' gs' laid_then (inv_then (edge.target ∷ rest) next) gone.going.walked
        gone.going.firsts_are gone.groups_is (sym next ∙ gone.going.left ∙ ap (λ (n : ℕ). drop n (a.graph.successors s)) (sym index)) unknown)

    turn_at : Turn targets starts words size kinds start b c (advanced targets starts words size kinds b c)
    turn_at = subst (Turn targets starts words size kinds start b c) (sym advanced_is)
        (⊎_elim (λ (z, none). done z none) (λ (edge, z, index, unknown, rest, next). new edge z index unknown rest next) gone.ending)

  -- A TURN: the arrays stand for groups again, and less is left to do.
  turn : (b : Board) (c : Cursor) → At targets starts words size kinds start b c → 0 < c.height → Turn targets starts words size kinds start b c (advanced targets starts words size kinds b c)
  turn b c w h = by_groups w.gs w.inv w.walked w.laid
    where
      by_groups : (gs : List Group) → Inv a gs w.f w.k → Walked gs → Laid targets starts words size kinds start b c (members_of gs) (firsts_of gs) (path_of gs) w.f w.k
          → Turn targets starts words size kinds start b c (advanced targets starts words size kinds b c)
      by_groups [] v walked l = absurd (omega (arith, l.height_is))
      by_groups (group ms p ∷ gs) v ((s, ts, q, e), walked) l =
          turn_at b c w.f w.k ms s ts q gs (subst (λ (z : List Frame). Inv a (group ms z ∷ gs) w.f w.k) e v) walked
          (subst (λ (z : List Frame). Laid targets starts words size kinds start b c (ms ++ members_of gs) (firsts_of (group ms z ∷ gs)) (z ++ path_of gs) w.f w.k) e l)

  pub turned : (b : Board) (c : Cursor) (s : Stand) → At targets starts words size kinds start b c → 0 < c.height → s ≡ advanced targets starts words size kinds b c
      → Turn targets starts words size kinds start b c s
  turned b c s w h e = subst (Turn targets starts words size kinds start b c) (sym e) (turn b c w h)

  -- ---- the last

  -- where no group is left, the number of a found state is that of no other
  found_number : (number f k : List ℕ) (x : ℕ) → get_or number x 0 ≡ number_of x [] f k → get_or number x 0 ≡ on_round → In x k
  found_number number f k x n e = ⊎_elim
      (λ i. i)
      (λ o. ⊎_elim
      (λ j. absurd (omega (arith, number_closed x [] f k o j)))
      (λ p. absurd (omega (arith, number_open x [] f k o p, placed_none x [] (out_nil x)))) (either (elem x f)))
      (either (elem x k))

  all_listed : (number f k : List ℕ) → Inv a [] f k → ((x : ℕ) → x < 512 → get_or number x 0 ≡ number_of x [] f k) → states_found number ≡ on_rounds a
  unfolding states_found
  all_listed number f k v numbered = rising_same (filter test (below 512)) (on_rounds a) (rising_filter test (below 512) (rising_below 512)) (rounds_rising a) found_listed listed_found
    where
      test : ℕ → Bool
      test = λ x. eqb (get_or number x 0) on_round

      right : (x : ℕ) → (In x (on_rounds a) → In x k) × (In x k → In x (on_rounds a))
      right x =
          let l = listed_by a (start_inside targets starts words size kinds start) (moves_inside targets starts words size kinds start) x in
          let r = all_found a f k v x in
          (λ i. r.1 (l.0 i), λ i. l.1 (r.0 i))

      found_listed : (x : ℕ) → In x (filter test (below 512)) → In x (on_rounds a)
      found_listed x i =
          let z = filter_in test x (below 512) i in
          (right x).1 (found_number number f k x (numbered x (in_below x 512 z.0)) (same z.1))

      listed_found : (x : ℕ) → In x (on_rounds a) → In x (filter test (below 512))
      listed_found x i =
          let h = rounds_below a x i in
          in_filter test x (below 512) (below_in x 512 h) (eq-eqb (get_or number x 0) on_round (numbered x h ∙ number_found x [] f k ((right x).0 i)))

  -- THE END: where the path is empty, every state on a round is found, and no other.
  pub ends : (b : Board) (c : Cursor) → At targets starts words size kinds start b c → c.height ≤ 0 → states_found b.number ≡ on_rounds a
  ends b c w h = by_groups w.gs w.inv w.walked w.laid
    where
      by_groups : (gs : List Group) → Inv a gs w.f w.k → Walked gs → Laid targets starts words size kinds start b c (members_of gs) (firsts_of gs) (path_of gs) w.f w.k → states_found b.number ≡ on_rounds a
      by_groups [] v walked l = all_listed b.number w.f w.k v l.numbered
      by_groups (group ms p ∷ gs) v ((s, ts, q, e), walked) l =
          let z : length (p ++ path_of gs) ≡ suc (length (q ++ path_of gs)) = ap (λ (r : List Frame). length (r ++ path_of gs)) e in
          absurd (omega (arith, l.height_is))
