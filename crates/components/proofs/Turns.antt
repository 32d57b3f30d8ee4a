-- A turn of the component search: what the arrays stand for before it and behind it. Assumes nothing.
use mathlib.Core.Path.{◌≡◌, refl, sym, ap, subst, ◌∙◌}
use mathlib.Core.Logic.{⊎_elim}
use mathlib.Core.Bool.{Bool, true, false, cond}
use mathlib.Core.List.{List, [], ◌∷◌, ◌++◌}
use Prim.Native.Nat.{ℕ, suc, ◌+◌, ◌*◌, ◌-◌, ◌≤◌, ◌<◌}
use native.Mathlib.Omega.{arith}
use lib.Dec.{eqb, ltb, leb}
use lib.ListN.{length, get_or, set, drop, length-append, length-set, length-map}
use lib.Seq.{get_or-set_same, get_or-set_other}
use borrow.Author.Tests.{eqb-false, leb-true}
use Rattle.plain.specs.Lists.{elem, In}
use Rattle.plain.specs.Search.{Frame, frame, states_of}
use Rattle.plain.specs.Cycles.{Kinded}
use Rattle.plain.proofs.Tests.{either, and-true, same, in_nil, in_head, in_append}
use Rattle.plain.proofs.Paths.{pending_here}
use Rattle.plain.proofs.Runs.{Reach}
use Rattle.plain.proofs.Lassos.{states_on, once_states}
use Rattle.plain.proofs.Walks.{states_length}
use Rattle.plain.proofs.Bounds.{once_few}
use Rattle.plain.proofs.Reached.{reach_below}
use Rattle.rows.specs.Rows.{row_at}
use Rattle.rows.proofs.Entries.{row_length}
use Rattle.look.specs.Numbers.{no_number, blanks, up}
use Rattle.look.specs.Scan.{fits, row_in}
use Rattle.look.proofs.Counting.{up_more, blank_filled, edge_left}
use Rattle.components.specs.declared.Board.{Board}
use Rattle.components.specs.declared.Cursor.{Cursor}
use Rattle.look.specs.declared.Edge.{Edge}
use Rattle.components.specs.declared.Stand.{Stand}
use Rattle.components.specs.Model.{within, row_of, board_of, Sized, grouped, discovered}
use Rattle.components.proofs.Groups.{Group, group, members_of, path_of, Stack}
use Rattle.components.proofs.Invariant.{Inv, inv_new, on_member}
use Rattle.components.proofs.Boards.{Piled, piled_push, placed_here, placed_other, number_of, number_open, number_none, same_number}
use Rattle.components.proofs.Scanning.{firsts_of, firsts_length, Walked, game, start_inside, target_low, moves_inside, Numbered}

module _ (targets starts words : List ℕ) (size kinds start : ℕ) where
  abbrev a : Kinded
  a = game targets starts words size kinds start

  -- ---- how many there are

  reached_of : (newer : List ℕ) (gs : List Group) (x : ℕ) → Stack a.graph newer gs → In x (members_of gs) → Reach a.graph a.graph.start x
  reached_of newer [] x s i = absurd (in_nil x i)
  reached_of newer (group ms p ∷ gs) x (l, s) i = ⊎_elim (l.reached x) (reached_of (ms ++ newer) gs x s) (in_append x ms (members_of gs) i)

  some_members : (newer : List ℕ) (gs : List Group) → Stack a.graph newer gs → length gs ≤ length (members_of gs)
  some_members newer [] s = omega arith
  some_members newer (group ms p ∷ gs) (l, s) = omega (arith, some_members (ms ++ newer) gs s, length-append ms (members_of gs), not_empty ms l.some)
    where
      not_empty : (xs : List ℕ) → (x : ℕ) × In x xs → 1 ≤ length xs
      not_empty [] (x, i) = absurd (in_nil x i)
      not_empty (y ∷ xs) z = omega arith

  module _ (gs : List Group) (f k : List ℕ) (v : Inv a gs f k) where
    pub member_low : (x : ℕ) → In x (members_of gs) → x < 512
    member_low x i = reach_below a.graph 512 (moves_inside targets starts words size kinds start) a.graph.start x (start_inside targets starts words size kinds start) (reached_of f gs x v.stack i)

    pub members_few : length (members_of gs) ≤ 512
    members_few = once_few 512 (members_of gs) v.once member_low

    pub groups_few : length gs ≤ 512
    groups_few = omega (arith, some_members f gs v.stack, members_few)

    pub path_few : length (path_of gs) ≤ 512
    path_few = omega (
      arith,
      states_length (path_of gs),
      once_few 512 (states_of (path_of gs)) (once_states (path_of gs) v.distinct) (λ x i. member_low x (on_member a f gs x v.stack (states_on x (path_of gs) i))),
    )

  -- a row ends within the array of targets
  row_few : (s : ℕ) → length (a.graph.successors s) ≤ 2048
  unfolding row_of row_in
  row_few s = omega (arith, length-map (row_in targets starts s) within, by_test (fits starts s) refl)
    where
      by_test : (b : Bool) → fits starts s ≡ b → length (cond b (row_at targets starts s) []) ≤ 2048
      by_test true e = omega (arith, row_length targets starts s, leb-true (get_or starts (suc s) 0) 2048 (and-true (ltb s 512) (leb (get_or starts (suc s) 0) 2048) e).1)
      by_test false e = omega arith

  -- ---- the arrays

  -- a path, with the index of the next edge of each state
  abbrev pub Framed : List ℕ → List ℕ → List Frame → Type 0
  Framed path next [] = Unit {0}
  Framed path next (frame s ts ∷ p) = (get_or path (length p) 0 ≡ s) × (ts ≡ drop (get_or next (length p) 0) (a.graph.successors s)) × Framed path next p

  framed_path : (path next : List ℕ) (p : List Frame) (i x : ℕ) → length p ≤ i → Framed path next p → Framed (set path i x) next p
  framed_path path next [] i x h w = tt
  framed_path path next (frame s ts ∷ p) i x h w = (get_or-set_other path i (length p) x 0 (λ e. omega arith) ∙ w.0, w.1, framed_path path next p i x (omega arith) w.2)

  framed_next : (path next : List ℕ) (p : List Frame) (i x : ℕ) → length p ≤ i → Framed path next p → Framed path (set next i x) p
  framed_next path next [] i x h w = tt
  framed_next path next (frame s ts ∷ p) i x h w = (
    w.0,
    w.1 ∙ ap (λ (n : ℕ). drop n (a.graph.successors s)) (sym (get_or-set_other next i (length p) x 0 (λ e. omega arith))),
    framed_next path next p i x (omega arith) w.2,
  )

  -- The arrays hold the open states ms, newest first, the places fs of the groups' first states, and the path q; f are the closed states, and k those of them that are found.
  pub record Laid (b : Board) (c : Cursor) (ms fs : List ℕ) (q : List Frame) (f k : List ℕ) : Type 0 where
    pub sized : Sized b
    pub numbered : Numbered targets starts words size kinds start b.number ms f k
    pub stacked : Piled b.stack ms
    pub firsts_are : Piled b.firsts fs
    pub framed : Framed b.path b.next q
    pub groups_is : c.groups ≡ length fs
    pub top_is : c.top ≡ length ms
    pub height_is : c.height ≡ length q

  -- a state is discovered
  module _ (b : Board) (c : Cursor) (ms fs : List ℕ) (q : List Frame) (f k : List ℕ) (t : ℕ) (w : Laid b c ms fs q f k) (low : t < 512)
      (room : (length ms < 512) × (length fs < 512) × (length q < 512)) (new : (elem t k ≡ false) × (elem t f ≡ false)) where
    number_then : (x : ℕ) → x < 512 → get_or (set b.number t c.top) x 0 ≡ number_of x (t ∷ ms) f k
    number_then x h = ⊎_elim here other (either (eqb x t))
      where
        here : eqb x t ≡ true → get_or (set b.number t c.top) x 0 ≡ number_of x (t ∷ ms) f k
        here e =
            let z : t ≡ x = sym (same e) in
            subst (λ (y : ℕ). get_or (set b.number t c.top) y 0 ≡ number_of y (t ∷ ms) f k) z
            (get_or-set_same b.number t c.top 0 (omega (arith, w.sized.number_size)) ∙ w.top_is ∙ sym (placed_here t ms) ∙ sym (number_open t (t ∷ ms) f k new.0 new.1))

        other : eqb x t ≡ false → get_or (set b.number t c.top) x 0 ≡ number_of x (t ∷ ms) f k
        other o =
            let n = eqb-false x t o in
            get_or-set_other b.number t x c.top 0 n ∙ w.numbered x h ∙ same_number x ms (t ∷ ms) f k (sym (placed_other x t ms n))

    pub laid_discovered : Laid (discovered b c t).board (discovered b c t).cursor (t ∷ ms) (length ms ∷ fs) (frame t (a.graph.successors t) ∷ q) f k
    unfolding discovered
    laid_discovered = record {
      sized = record {
        number_size = length-set b.number t c.top ∙ w.sized.number_size;
        stack_size = length-set b.stack c.top t ∙ w.sized.stack_size;
        firsts_size = length-set b.firsts c.groups c.top ∙ w.sized.firsts_size;
        path_size = length-set b.path c.height t ∙ w.sized.path_size;
        next_size = length-set b.next c.height 0 ∙ w.sized.next_size;
      };
      numbered = number_then;
      stacked = piled_push b.stack ms c.top t w.top_is (omega (arith, w.top_is, w.sized.stack_size, room.0)) w.stacked;
      firsts_are = subst (λ (x : ℕ). Piled (set b.firsts c.groups c.top) (x ∷ fs)) w.top_is
          (piled_push b.firsts fs c.groups c.top w.groups_is (omega (arith, w.groups_is, w.sized.firsts_size, room.1)) w.firsts_are);
      framed = (
        subst (λ (i : ℕ). get_or (set b.path c.height t) i 0 ≡ t) w.height_is (get_or-set_same b.path c.height t 0 (omega (arith, w.height_is, w.sized.path_size, room.2))),
        subst (λ (i : ℕ). a.graph.successors t ≡ drop (get_or (set b.next c.height 0) i 0) (a.graph.successors t)) w.height_is
            (ap (λ (n : ℕ). drop n (a.graph.successors t)) (sym (get_or-set_same b.next c.height 0 0 (omega (arith, w.height_is, w.sized.next_size, room.2))))),
        framed_path b.path (set b.next c.height 0) q c.height t (omega (arith, w.height_is)) (framed_next b.path b.next q c.height 0 (omega (arith, w.height_is)) w.framed),
      );
      groups_is = up_more c.groups (omega (arith, w.groups_is, room.1)) ∙ ap suc w.groups_is;
      top_is = up_more c.top (omega (arith, w.top_is, room.0)) ∙ ap suc w.top_is;
      height_is = up_more c.height (omega (arith, w.height_is, room.2)) ∙ ap suc w.height_is;
    }

  -- so many groups are left
  pub laid_grouped : (b : Board) (c : Cursor) (ms fs gs : List ℕ) (q : List Frame) (f k : List ℕ) (n : ℕ) → Laid b c ms fs q f k → Piled b.firsts gs → n ≡ length gs
      → Laid b (grouped c n) ms gs q f k
  laid_grouped b c ms fs gs q f k n w piled count = record {
    sized = w.sized;
    numbered = w.numbered;
    stacked = w.stacked;
    firsts_are = piled;
    framed = w.framed;
    groups_is = count;
    top_is = w.top_is;
    height_is = w.height_is;
  }

  -- so many groups are left, and the path's last state has taken the edges up to e
  laid_passed : (b : Board) (c : Cursor) (ms fs gs : List ℕ) (s : ℕ) (ts rest : List ℕ) (q : List Frame) (f k : List ℕ) (n e : ℕ) → Laid b c ms fs (frame s ts ∷ q) f k
      → Piled b.firsts gs → n ≡ length gs → e < 65535 → length q < 512 → rest ≡ drop (suc e) (a.graph.successors s)
      → Laid (board_of b.number b.stack b.firsts b.path (set b.next (c.height - 1) (up e))) (grouped c n) ms gs (frame s rest ∷ q) f k
  laid_passed b c ms fs gs s ts rest q f k n e w piled count small room left = record {
    sized = record {
      number_size = w.sized.number_size;
      stack_size = w.sized.stack_size;
      firsts_size = w.sized.firsts_size;
      path_size = w.sized.path_size;
      next_size = length-set b.next (c.height - 1) (up e) ∙ w.sized.next_size;
    };
    numbered = w.numbered;
    stacked = w.stacked;
    firsts_are = piled;
    framed = (
      w.framed.0,
      left ∙ ap (λ (i : ℕ). drop i (a.graph.successors s)) (sym (subst (λ (i : ℕ). get_or (set b.next (c.height - 1) (up e)) i 0 ≡ suc e) last
          (get_or-set_same b.next (c.height - 1) (up e) 0 (omega (arith, w.sized.next_size, w.height_is)) ∙ up_more e small))),
      framed_next b.path b.next q (c.height - 1) (up e) (omega (arith, last)) w.framed.2,
    );
    groups_is = count;
    top_is = w.top_is;
    height_is = w.height_is;
  }
    where
      last : c.height - 1 ≡ length q
      last = omega (arith, w.height_is)

  -- WHAT THE ARRAYS STAND FOR at every turn: groups, closed states and found ones for which the invariant holds.
  pub record At (b : Board) (c : Cursor) : Type 0 where
    pub gs : List Group
    pub f : List ℕ
    pub k : List ℕ
    pub inv : Inv a gs f k
    pub walked : Walked gs
    pub laid : Laid b c (members_of gs) (firsts_of gs) (path_of gs) f k

  -- what the turns use up: each discovers a state, or takes one off the path
  abbrev pub weight : Board → Cursor → ℕ
  weight b c = 2 * blanks b.number + c.height

  pub record Turn (b : Board) (c : Cursor) (s : Stand) : Type 0 where
    pub at : At s.board s.cursor
    pub lighter : weight s.board s.cursor < weight b c

  -- ---- the path's last state has an edge to a state that is not discovered

  module _ (b : Board) (c : Cursor) (fs : List ℕ) (f k : List ℕ) (s : ℕ) (us : List ℕ) (n : ℕ) (edge : Edge) (ms rest : List ℕ) (p : List Frame) (gs : List Group)
      (w : Laid b c (ms ++ members_of gs) fs (frame s us ∷ p ++ path_of gs) f k) (v : Inv a (group ms (frame s (edge.target ∷ rest) ∷ p) ∷ gs) f k) (walked : Walked gs)
      (piled : Piled b.firsts (firsts_of (group ms (frame s (edge.target ∷ rest) ∷ p) ∷ gs))) (count : n ≡ suc (length gs))
      (left : edge.target ∷ rest ≡ drop edge.index (a.graph.successors s)) (new : get_or b.number edge.target 0 ≡ no_number) where
    abbrev t : ℕ
    t = edge.target

    abbrev passed : Board
    passed = board_of b.number b.stack b.firsts b.path (set b.next (c.height - 1) (up edge.index))

    low : t < 512
    low = target_low targets starts words size kinds start s t (v.stack.0.genuine s t (pending_here s t (t ∷ rest) p (in_head t rest))).1

    unknown : (elem t k ≡ false) × (elem t f ≡ false) × (elem t (ms ++ members_of gs) ≡ false)
    unknown = number_none t (ms ++ members_of gs) f k (members_few (group ms (frame s (t ∷ rest) ∷ p) ∷ gs) f k v) (sym (w.numbered t low) ∙ new)

    v' : Inv a (group (t ∷ []) (frame t (a.graph.successors t) ∷ []) ∷ group ms (frame s rest ∷ p) ∷ gs) f k
    v' = inv_new a ms s p gs f k t rest unknown.1 unknown.2 v

    abbrev newest : List Group
    newest = group (t ∷ []) (frame t (a.graph.successors t) ∷ []) ∷ group ms (frame s rest ∷ p) ∷ gs

    here : Laid passed (grouped c n) (ms ++ members_of gs) (firsts_of (group ms (frame s rest ∷ p) ∷ gs)) (frame s rest ∷ p ++ path_of gs) f k
    here =
        let passing = edge_left (a.graph.successors s) edge.index t rest left in
        laid_passed b c (ms ++ members_of gs) fs (firsts_of (group ms (frame s rest ∷ p) ∷ gs)) s us rest (p ++ path_of gs) f k n edge.index w piled (omega (arith, count, firsts_length gs))
        (omega (arith, passing.there, row_few s)) (omega (arith, path_few newest f k v')) passing.rest

    pub turn_new : Turn b c (discovered passed (grouped c n) t)
    unfolding discovered
    turn_new = record {
      at = record {
        gs = newest;
        f = f;
        k = k;
        inv = v';
        walked = ((t, a.graph.successors t, [], refl), ((s, rest, p, refl), walked));
        laid = laid_discovered passed (grouped c n) (ms ++ members_of gs) (firsts_of (group ms (frame s rest ∷ p) ∷ gs)) (frame s rest ∷ p ++ path_of gs) f k t here low
            (omega (arith, members_few newest f k v'), omega (arith, groups_few newest f k v', firsts_length gs), omega (arith, path_few newest f k v')) (unknown.0, unknown.1);
      };
      lighter = omega (arith, blank_filled b.number t c.top new (λ z. omega (arith, w.top_is, members_few newest f k v')), up_more c.height (omega (arith, w.height_is, path_few newest f k v')));
    }
