-- The path leaves its last state; where no state of the newest group is left on it, that group is a component, and is closed. Assumes nothing.
use mathlib.Core.Path.{◌≡◌, refl, sym, ap, subst, ◌∙◌}
use mathlib.Core.Logic.{◌≢◌, ⊎_elim}
use mathlib.Core.Bool.{Bool, true, false, ◌&&◌, ◌||◌, cond}
use mathlib.Core.List.{List, [], ◌∷◌, ◌++◌}
use Prim.Native.Nat.{ℕ, zero, suc, ◌+◌, ◌*◌, ◌-◌, ◌<◌}
use native.Mathlib.Decide.{dec_lt}
use native.Mathlib.Omega.{arith}
use lib.Dec.{ltb, leb}
use lib.ListN.{length, get_or, length-append}
use borrow.Author.Tests.{lt-ltb, le-leb, lt-leb}
use Rattle.plain.specs.Lists.{any, elem, In}
use Rattle.plain.specs.Search.{Frame, frame}
use Rattle.plain.specs.Cycles.{Kinded}
use Rattle.plain.specs.Table.{accepts}
use Rattle.plain.proofs.Tests.{contra, either, not-true, and-true, and_both, in_nil, in_append, in_left, in_right, any_in, any_some}
use Rattle.plain.proofs.Rounds.{Lies}
use Rattle.rows.specs.Rows.{entries}
use Rattle.look.specs.Numbers.{no_number}
use Rattle.components.specs.declared.Board.{Board}
use Rattle.components.specs.declared.Cursor.{Cursor}
use Rattle.components.specs.Model.{row_of, closed, on_round, board_of, stand_of, carries_all, is_cyclic, is_round, renumbered, first_in, is_left, departed}
use Rattle.components.proofs.Groups.{Group, group, members_of, path_of, Stack}
use Rattle.components.proofs.Invariant.{Inv, inv_done, inv_closed, found, cyclic_back, back_cyclic, carried_passes, passes_carried}
use Rattle.components.proofs.Boards.{piled_below, pile_entry, entry_pile, first_entry, placed, placed_low, placed_newer, placed_older, number_of, number_found, number_closed, number_open, same_number, renumbered_in, renumbered_out, renumbered_length, renumbered_blanks}
use Rattle.components.proofs.Scanning.{firsts_of, firsts_length, first_at, Walked, game}
use Rattle.components.proofs.Turns.{member_low, Laid, Turn}

-- ---- kinds that states carry

module _ (words : List ℕ) (size : ℕ) (xs : List ℕ) where
  -- one of the states carries the kind
  abbrev Carried : ℕ → Type 0
  Carried kind = (x : ℕ) × In x xs × (accepts words (kind * size + x) ≡ true)

  carries_each : (n : ℕ) → carries_all words size xs n ≡ true → (kind : ℕ) → kind < n → Carried kind
  unfolding carries_all
  carries_each zero e kind h = absurd (omega arith)
  carries_each (suc n) e kind h =
      let c = and-true (any (λ s. accepts words (n * size + s)) xs) (carries_all words size xs n) e in
      elim (dec_lt kind n) [
        | yes l ↦ carries_each n c.1 kind l
        | no l ↦ let z : n ≡ kind = omega arith in subst Carried z (any_some (λ s. accepts words (n * size + s)) xs c.0)
      ]

  each_carries : (n : ℕ) → ((kind : ℕ) → kind < n → Carried kind) → carries_all words size xs n ≡ true
  unfolding carries_all
  each_carries zero h = refl
  each_carries (suc n) h =
      let (x, i, c) = h n (omega arith) in
      and_both (any (λ s. accepts words (n * size + s)) xs) (carries_all words size xs n) (any_in (λ s. accepts words (n * size + s)) x xs i c) (each_carries n (λ kind l. h kind (omega arith)))

-- ---- open states are not closed

elem_older : (x : ℕ) (ms f : List ℕ) → elem x ms ≡ false → elem x f ≡ elem x (ms ++ f)
elem_older x ms f o = ⊎_elim
    (λ i. i ∙ sym (in_right x ms f i))
    (λ n. n ∙ sym (not-true (elem x (ms ++ f)) (λ i. ⊎_elim (λ j. contra j o) (λ j. contra j n) (in_append x ms f i)))) (either (elem x f))

module _ (targets starts words : List ℕ) (size kinds start : ℕ) where
  abbrev a : Kinded
  a = game targets starts words size kinds start

  open_apart : (newer : List ℕ) (gs : List Group) (x : ℕ) → Stack a.graph newer gs → In x (members_of gs) → elem x newer ≡ false
  open_apart newer [] x s i = absurd (in_nil x i)
  open_apart newer (group ms p ∷ gs) x (l, s) i = ⊎_elim
      (l.apart x)
      (λ j. not-true (elem x newer) (λ h. contra (in_right x ms newer h) (open_apart (ms ++ newer) gs x s j))) (in_append x ms (members_of gs) i)

  older_apart : (ms : List ℕ) (p : List Frame) (gs : List Group) (f : List ℕ) (x : ℕ) → Stack a.graph f (group ms p ∷ gs) → In x (members_of gs) → elem x ms ≡ false
  older_apart ms p gs f x s i = not-true (elem x ms) (λ h. contra (in_left x ms f h) (open_apart (ms ++ f) gs x s.1 i))

  -- a state that is not of the group keeps its number
  same_elsewhere : (x : ℕ) (ns ms f k : List ℕ) (t : Bool) → elem x ms ≡ false → number_of x ns f k ≡ number_of x ns (ms ++ f) (found a t ms k)
  unfolding number_of
  same_elsewhere x ns ms f k t o = λ i. cond (by_test t i) on_round (cond (elem_older x ms f o i) closed (placed x ns))
    where
      by_test : (t : Bool) → elem x k ≡ elem x (found a t ms k)
      by_test true = elem_older x ms k o
      by_test false = refl

  -- ---- the newest group, with what is left of its path

  module _ (b : Board) (c : Cursor) (f k : List ℕ) (s : ℕ) (us ms : List ℕ) (p : List Frame) (gs : List Group)
      (w : Laid targets starts words size kinds start b c (ms ++ members_of gs) (firsts_of (group ms p ∷ gs)) (frame s us ∷ p ++ path_of gs) f k) (v : Inv a (group ms p ∷ gs) f k) where
    first_is : first_in b c ≡ length (members_of gs)
    first_is = ap (λ (i : ℕ). get_or b.firsts i 0) (omega (arith, w.groups_is, firsts_length gs)) ∙ first_at b.firsts ms p gs w.firsts_are

    -- an open state has its place for a number
    number_at : (x : ℕ) → In x (ms ++ members_of gs) → get_or b.number x 0 ≡ placed x (ms ++ members_of gs)
    number_at x i =
        let o = open_apart f (group ms p ∷ gs) x v.stack i in
        w.numbered x (member_low targets starts words size kinds start (group ms p ∷ gs) f k v x i) ∙ number_open x (ms ++ members_of gs) f k (not-true (elem x k) (λ j. contra (v.within x j) o)) o

    -- the test, where the path's last state is x
    left_by : (x : ℕ) (height : ℕ) → 0 < height → get_or b.path (height - 1) 0 ≡ x → is_left b c height ≡ leb (length (members_of gs)) (get_or b.number x 0)
    unfolding is_left
    left_by x height h e =
        (λ i. lt-ltb 0 height h i && leb (first_is i) (get_or b.number (e i) 0))

  -- what is known of the arrays and of the groups, where the newest has members ms and path p, and the path's last state s has no edge left
  abbrev Last : Board → Cursor → List ℕ → List ℕ → ℕ → List ℕ → List ℕ → List Frame → List Group → Type 0
  Last b c f k s us ms p gs =
      Laid targets starts words size kinds start b c (ms ++ members_of gs) (firsts_of (group ms p ∷ gs)) (frame s us ∷ p ++ path_of gs) f k × Inv a (group ms p ∷ gs) f k

  module _ (b : Board) (c : Cursor) (f k : List ℕ) (s : ℕ) (us ms : List ℕ) where
    -- a state of the group is left on the path
    left_yes : (x : ℕ) (ts : List ℕ) (q : List Frame) (gs : List Group) → Last b c f k s us ms (frame x ts ∷ q) gs → is_left b c (c.height - 1) ≡ true
    left_yes x ts q gs (w, v) =
        let i : In x ms = v.stack.0.inside.0 in
        left_by b c f k s us ms (frame x ts ∷ q) gs w v x (c.height - 1) (omega (arith, w.height_is))
        (ap (λ (j : ℕ). get_or b.path j 0) (omega (arith, w.height_is)) ∙ w.framed.2.0)
        ∙ le-leb (length (members_of gs)) (get_or b.number x 0)
        (omega (arith, number_at b c f k s us ms (frame x ts ∷ q) gs w v x (in_left x ms (members_of gs) i), placed_newer x ms (members_of gs) i))

    -- none is: the path's last state is of an older group
    left_older : (ns : List ℕ) (x : ℕ) (ts : List ℕ) (q : List Frame) (gs : List Group) → Last b c f k s us ms [] (group ns (frame x ts ∷ q) ∷ gs) → is_left b c (c.height - 1) ≡ false
    left_older ns x ts q gs (w, v) =
        let older = group ns (frame x ts ∷ q) ∷ gs in
        let i : In x (members_of older) = in_left x ns (members_of gs) v.stack.1.0.inside.0 in
        left_by b c f k s us ms [] older w v x (c.height - 1) (omega (arith, w.height_is))
        (ap (λ (j : ℕ). get_or b.path j 0) (omega (arith, w.height_is)) ∙ w.framed.2.0)
        ∙ lt-leb (length (members_of older)) (get_or b.number x 0)
        (omega (
          arith,
          number_at b c f k s us ms [] older w v x (in_right x ms (members_of older) i),
          placed_older x ms (members_of older) (older_apart ms [] older f x v.stack i),
          placed_low x (members_of older) i,
        ))

    left_no : (gs : List Group) → Walked gs → Last b c f k s us ms [] gs → is_left b c (c.height - 1) ≡ false
    unfolding is_left
    left_no [] walked (w, v) =
        let z : c.height - 1 ≡ 0 = omega (arith, w.height_is) in
        ap (λ (n : ℕ). ltb 0 n && leb (first_in b c) (get_or b.number (get_or b.path (n - 1) 0) 0)) z
    left_no (group ns q ∷ gs) ((x, ts, q', e), walked) l =
        left_older ns x ts q' gs (subst (λ (z : List Frame). Last b c f k s us ms [] (group ns z ∷ gs)) e l)

  -- ---- the group is closed

  module _ (b : Board) (c : Cursor) (f k : List ℕ) (s : ℕ) (us ms : List ℕ) (gs : List Group) (l : Last b c f k s us ms [] gs) (walked : Walked gs) where
    abbrev w : Laid targets starts words size kinds start b c (ms ++ members_of gs) (firsts_of (group ms [] ∷ gs)) (frame s us ∷ path_of gs) f k
    w = l.0

    abbrev v : Inv a (group ms [] ∷ gs) f k
    v = l.1

    abbrev first : ℕ
    first = first_in b c

    at_first_lem : first ≡ length (members_of gs)
    at_first_lem = first_is b c f k s us ms [] gs w v

    many : c.top - first ≡ length ms
    many = omega (arith, w.top_is, at_first_lem, length-append ms (members_of gs))

    -- the states of the group as they stand in the array
    abbrev standing : List ℕ
    standing = entries (c.top - first) first b.stack

    standing_is : standing ≡ entries (length ms) (length (members_of gs)) b.stack
    standing_is = λ i. entries (many i) (at_first_lem i) b.stack

    stands : (x : ℕ) → In x ms → In x standing
    stands x i = rw standing_is (pile_entry b.stack ms (members_of gs) x w.stacked i)

    standing_in : (x : ℕ) → In x standing → In x ms
    standing_in x i = entry_pile b.stack ms (members_of gs) x w.stacked (rw standing_is at i)

    abbrev round : Bool
    round = is_round targets starts words size kinds b.stack first c.top

    oldest_in : In (get_or b.stack first 0) ms
    oldest_in = subst (λ (i : ℕ). In (get_or b.stack i 0) ms) (sym at_first_lem) (first_entry b.stack ms (members_of gs) w.stacked v.stack.0.some)

    -- the test is right: its states lie on a round
    round_lies : (x : ℕ) → In x ms → round ≡ true → Lies a x
    unfolding is_round is_cyclic
    round_lies x i e =
        let t = and-true (is_cyclic (row_of targets starts) (c.top - first) (get_or b.stack first 0)) (carries_all words size standing kinds) e in
        record {
          back = cyclic_back a ms gs f k v (get_or b.stack first 0) oldest_in x i (subst (λ (n : ℕ). ltb 1 n || elem (get_or b.stack first 0) (row_of targets starts (get_or b.stack first 0)) ≡ true) many t.0);
          carriers = λ kind h. let (y, j, q) = carries_each words size standing kinds t.1 kind h in carried_passes a ms gs f k v x kind i (y, standing_in y j, q);
        }

    lies_round : (x : ℕ) → In x ms → Lies a x → round ≡ true
    unfolding is_round is_cyclic
    lies_round x i o =
        and_both (is_cyclic (row_of targets starts) (c.top - first) (get_or b.stack first 0)) (carries_all words size standing kinds)
        (subst (λ (n : ℕ). ltb 1 n || elem (get_or b.stack first 0) (row_of targets starts (get_or b.stack first 0)) ≡ true) (sym many) (back_cyclic a ms gs f k v (get_or b.stack first 0) oldest_in x i o.back))
        (each_carries words size standing kinds (λ kind h. let (y, j, q) = passes_carried a ms gs f k v x kind i (o.carriers kind h) in (y, stands y j, q)))

    -- the number that its states get
    abbrev mark : ℕ
    mark = cond round on_round closed

    mark_some : mark ≢ no_number
    mark_some = by_test round
      where
        by_test : (t : Bool) → cond t on_round closed ≢ no_number
        by_test true = λ z. omega arith
        by_test false = λ z. omega arith

    abbrev number' : List ℕ
    number' = renumbered mark standing b.number

    number_then : (x : ℕ) → x < 512 → get_or number' x 0 ≡ number_of x (members_of gs) (ms ++ f) (found a round ms k)
    number_then x h = ⊎_elim inside outside (either (elem x ms))
      where
        inside : elem x ms ≡ true → get_or number' x 0 ≡ number_of x (members_of gs) (ms ++ f) (found a round ms k)
        inside i =
            let o = v.stack.0.apart x i in
            renumbered_in mark x standing b.number (omega (arith, w.sized.number_size)) (stands x i) ∙ by_test round (not-true (elem x k) (λ j. contra (v.within x j) o))
          where
            by_test : (t : Bool) → elem x k ≡ false → cond t on_round closed ≡ number_of x (members_of gs) (ms ++ f) (found a t ms k)
            by_test true o = sym (number_found x (members_of gs) (ms ++ f) (ms ++ k) (in_left x ms k i))
            by_test false o = sym (number_closed x (members_of gs) (ms ++ f) k o (in_left x ms f i))

        outside : elem x ms ≡ false → get_or number' x 0 ≡ number_of x (members_of gs) (ms ++ f) (found a round ms k)
        outside o =
            renumbered_out mark x standing b.number (not-true (elem x standing) (λ j. contra (standing_in x j) o)) ∙ w.numbered x h
            ∙ same_number x (ms ++ members_of gs) (members_of gs) f k (placed_older x ms (members_of gs) o)
            ∙ same_elsewhere x (members_of gs) ms f k round o

    laid_closed : Laid targets starts words size kinds start (board_of number' b.stack b.firsts b.path b.next) (record { groups = c.groups - 1; top = first; height = c.height - 1 })
        (members_of gs) (firsts_of gs) (path_of gs) (ms ++ f) (found a round ms k)
    laid_closed = record {
      sized = record {
        number_size = renumbered_length mark standing b.number ∙ w.sized.number_size;
        stack_size = w.sized.stack_size;
        firsts_size = w.sized.firsts_size;
        path_size = w.sized.path_size;
        next_size = w.sized.next_size;
      };
      numbered = number_then;
      stacked = piled_below b.stack ms (members_of gs) w.stacked;
      firsts_are = w.firsts_are.1;
      framed = w.framed.2;
      groups_is = omega (arith, w.groups_is);
      top_is = at_first_lem;
      height_is = omega (arith, w.height_is);
    }

    pub turn_closed : Turn targets starts words size kinds start b c (departed targets starts words size kinds b c)
    unfolding departed
    turn_closed = subst (Turn targets starts words size kinds start b c) (sym (by_left (left_no b c f k s us ms gs walked l))) (record {
      at = record { gs = gs; f = ms ++ f; k = found a round ms k; inv = inv_closed a ms gs f k v round round_lies lies_round; walked = walked; laid = laid_closed };
      lighter = omega (arith, renumbered_blanks mark standing b.number mark_some, w.height_is);
    })
      where
        by_left : is_left b c (c.height - 1) ≡ false
            → departed targets starts words size kinds b c
            ≡ stand_of (board_of number' b.stack b.firsts b.path b.next) (record { groups = c.groups - 1; top = first; height = c.height - 1 })
        by_left e = rw (e, departed)

  -- ---- a state of it is left

  module _ (b : Board) (c : Cursor) (f k : List ℕ) (s : ℕ) (us ms : List ℕ) (x : ℕ) (ts : List ℕ) (q : List Frame) (gs : List Group) (l : Last b c f k s us ms (frame x ts ∷ q) gs) (walked : Walked gs) where
    laid_left : Laid targets starts words size kinds start b (record { groups = c.groups; top = c.top; height = c.height - 1 }) (ms ++ members_of gs) (firsts_of (group ms (frame x ts ∷ q) ∷ gs))
        (frame x ts ∷ q ++ path_of gs) f k
    laid_left = let w = l.0 in record {
      sized = w.sized;
      numbered = w.numbered;
      stacked = w.stacked;
      firsts_are = w.firsts_are;
      framed = w.framed.2;
      groups_is = w.groups_is;
      top_is = w.top_is;
      height_is = omega (arith, w.height_is);
    }

    pub turn_left : Turn targets starts words size kinds start b c (departed targets starts words size kinds b c)
    unfolding departed
    turn_left = subst (Turn targets starts words size kinds start b c) (sym (by_left (left_yes b c f k s us ms x ts q gs l))) (record {
      at = record { gs = group ms (frame x ts ∷ q) ∷ gs; f = f; k = k; inv = l.1; walked = ((x, ts, q, refl), walked); laid = laid_left };
      lighter = omega (arith, l.0.height_is);
    })
      where
        by_left : is_left b c (c.height - 1) ≡ true → departed targets starts words size kinds b c ≡ stand_of b (record { groups = c.groups; top = c.top; height = c.height - 1 })
        by_left e = rw (e, departed)

  -- the path leaves s, which has no edge left
  pub turn_done : (b : Board) (c : Cursor) (f k : List ℕ) (s : ℕ) (us ms : List ℕ) (p : List Frame) (gs : List Group)
      → Laid targets starts words size kinds start b c (ms ++ members_of gs) (firsts_of (group ms p ∷ gs)) (frame s us ∷ p ++ path_of gs) f k → Inv a (group ms (frame s [] ∷ p) ∷ gs) f k → Walked gs
      → Turn targets starts words size kinds start b c (departed targets starts words size kinds b c)
  turn_done b c f k s us ms [] gs w v walked = turn_closed b c f k s us ms gs (w, inv_done a ms s [] gs f k v) walked
  turn_done b c f k s us ms (frame x ts ∷ q) gs w v walked = turn_left b c f k s us ms x ts q gs (w, inv_done a ms s (frame x ts ∷ q) gs f k v) walked
