-- Document 02, ticket 12: every state on a free round. A state lies on one exactly where runs lead from it back to it, and to a carrier of each kind and back. Assumes nothing.
use mathlib.Core.Path.{◌≡◌, refl, sym, ◌∙◌}
use mathlib.Core.Logic.{⊎_elim}
use mathlib.Core.Bool.{Bool, true, ◌&&◌}
use mathlib.Core.List.{List, [], ◌∷◌, ◌++◌}
use Prim.Native.Nat.{ℕ, zero, suc, ◌≤◌, ◌<◌}
use native.Mathlib.Decide.{dec_lt}
use native.Mathlib.Omega.{arith}
use lib.ListN.{length}
use Rattle.plain.specs.Lists.{all, below, In, Rising}
use Rattle.plain.specs.Search.{Graph}
use Rattle.plain.specs.Cycles.{Run, Kinded, PassesAll, OnRound}
use Rattle.plain.specs.Shortest.{reached}
use Rattle.plain.specs.Table.{Table, game_of, printed}
use Rattle.plain.specs.Claims.{Arises, RoundsRight}
use Rattle.plain.specs.Rounds.{reaches, returns, passes_kind, lies_on_round, on_rounds}
use Rattle.plain.proofs.Tests.{and-true, and_both, in_nil, in_head, in_tail, in_cases, in_left, in_right, any_in, any_some, all_holds, all_member, in_filter, filter_in}
use Rattle.plain.proofs.Upto.{in_below, below_in, rising_below, rising_filter, rising_same}
use Rattle.plain.proofs.Runs.{Reach, run_join, first_move, run_between}
use Rattle.plain.proofs.Passing.{run_end, run_last, round_from, round_reached}
use Rattle.plain.proofs.Tables.{Valid, valid}
use Rattle.plain.proofs.Demands.{inside_game, verdict_right}
use Rattle.plain.proofs.Reached.{leads_right, reach_below, reached_right}
use Rattle.plain.proofs.Shortest.{rotated, walk_round}

-- the game has its start state, and its moves stay among its states
abbrev pub StartInside : Kinded → Type 0
StartInside a = a.graph.start < a.size

abbrev pub MovesInside : Kinded → Type 0
MovesInside a = (x y : ℕ) → x < a.size → In y (a.graph.successors x) → y < a.size

module _ (a : Kinded) where
  -- a move of s, and a run that leads from there back
  abbrev pub Returning : ℕ → Type 0
  Returning s = (x : ℕ) × In x (a.graph.successors s) × Reach a.graph x s

  -- a carrier of the kind, a run that leads there from s, and one that leads back
  abbrev pub Carrier : ℕ → ℕ → Type 0
  Carrier s kind = (x : ℕ) × (a.carries kind x ≡ true) × Reach a.graph s x × Reach a.graph x s

  -- What the tests of `lies_on_round` ask of s, by runs.
  pub record Lies (s : ℕ) : Type 0 where
    pub back : Returning s
    pub carriers : (kind : ℕ) → kind < a.kinds → Carrier s kind

  -- ---- the tests

  module _ (stays : MovesInside a) where
    pub reaches_right : (x y : ℕ) → x < a.size → (reaches a x y ≡ true → Reach a.graph x y) × (Reach a.graph x y → reaches a x y ≡ true)
    unfolding reaches
    reaches_right x y h = leads_right a.graph a.size stays x y h

    returns_right : (s : ℕ) → s < a.size → (returns a s ≡ true → Returning s) × (Returning s → returns a s ≡ true)
    unfolding returns
    returns_right s h = (
      λ e. let (x, i, p) = any_some (λ x. reaches a x s) (a.graph.successors s) e in (x, i, (reaches_right x s (stays s x h i)).0 p),
      λ (x, i, r). any_in (λ x. reaches a x s) x (a.graph.successors s) i ((reaches_right x s (stays s x h i)).1 r),
    )

    passes_right : (s kind : ℕ) → s < a.size → (passes_kind a s kind ≡ true → Carrier s kind) × (Carrier s kind → passes_kind a s kind ≡ true)
    unfolding passes_kind
    passes_right s kind h = (
      λ e.
          let (x, i, p) = any_some test (below a.size) e in
          let c = and-true (a.carries kind x) (reaches a s x && reaches a x s) p in
          let d = and-true (reaches a s x) (reaches a x s) c.1 in
          (x, c.0, (reaches_right s x h).0 d.0, (reaches_right x s (in_below x a.size i)).0 d.1),
      λ (x, c, r, q).
          let b = reach_below a.graph a.size stays s x h r in
          let d = and_both (reaches a s x) (reaches a x s) ((reaches_right s x h).1 r) ((reaches_right x s b).1 q) in
          any_in test x (below a.size) (below_in x a.size b) (and_both (a.carries kind x) (reaches a s x && reaches a x s) c d),
    )
      where
        test : ℕ → Bool
        test = λ x. a.carries kind x && (reaches a s x && reaches a x s)

    pub lies_right : (s : ℕ) → s < a.size → (lies_on_round a s ≡ true → Lies s) × (Lies s → lies_on_round a s ≡ true)
    unfolding lies_on_round
    lies_right s h = (
      λ e.
          let c = and-true (returns a s) (all (passes_kind a s) (below a.kinds)) e in
          record {
            back = (returns_right s h).0 c.0;
            carriers = λ kind b. (passes_right s kind h).0 (all_member (passes_kind a s) kind (below a.kinds) (below_in kind a.kinds b) c.1);
          },
      λ l.
          let each = all_holds (passes_kind a s) (below a.kinds) (λ kind i. (passes_right s kind h).1 (l.carriers kind (in_below kind a.kinds i))) in
          and_both (returns a s) (all (passes_kind a s) (below a.kinds)) ((returns_right s h).1 l.back) each,
    )

  -- ---- the list

  -- the test that the states of the list pass
  abbrev listing : ℕ → Bool
  listing s = reached a.graph a.size s && lies_on_round a s

  pub rounds_rising : Rising (on_rounds a)
  unfolding on_rounds
  rounds_rising = rising_filter listing (below a.size) (rising_below a.size)

  pub rounds_below : (s : ℕ) → In s (on_rounds a) → s < a.size
  unfolding on_rounds
  rounds_below s i = in_below s a.size (filter_in listing s (below a.size) i).0

  pub listed_by : StartInside a → MovesInside a → (s : ℕ) → (In s (on_rounds a) → Reach a.graph a.graph.start s × Lies s)
      × (Reach a.graph a.graph.start s × Lies s → In s (on_rounds a))
  unfolding on_rounds
  listed_by begins stays s = (
    λ i.
        let c = and-true (reached a.graph a.size s) (lies_on_round a s) (filter_in listing s (below a.size) i).1 in
        ((reached_right a.graph a.size begins stays s).0 c.0, (lies_right stays s (rounds_below s i)).0 c.1),
    λ (r, l).
        let b = reach_below a.graph a.size stays a.graph.start s begins r in
        let c = and_both (reached a.graph a.size s) (lies_on_round a s) ((reached_right a.graph a.size begins stays s).1 r) ((lies_right stays s b).1 l) in
        in_filter listing s (below a.size) (below_in s a.size b) c,
  )

  -- ---- the rounds

  -- a run of zero or more moves from s back to s that passes the first n kinds, s itself counted
  abbrev Tour : ℕ → ℕ → Type 0
  Tour s n = (xs : List ℕ) × Run a.graph s xs s × ((kind : ℕ) → kind < n → (x : ℕ) × In x (s ∷ xs) × (a.carries kind x ≡ true))

  -- to a carrier of each kind and back, one behind the other
  tour : (s n : ℕ) → Lies s → n ≤ a.kinds → Tour s n
  tour s zero l h = ([], refl, λ kind b. absurd (omega arith))
  tour s (suc n) l h =
      let (x, c, there, here) = l.carriers n (omega arith) in
      let (xs, r, passed) = tour s n l (omega arith) in
      let behind = here.0 ++ xs in
      let new : In x (s ∷ (there.0 ++ behind)) = in_left x (s ∷ there.0) behind (run_end a.graph there.0 s x there.1) in
      let old : (y : ℕ) → In y (s ∷ xs) → In y (s ∷ (there.0 ++ behind)) =
      λ y i. ⊎_elim (λ e. rw e (in_head s _)) (λ j. in_tail y s (there.0 ++ behind) (in_right y there.0 behind (in_right y here.0 xs j))) (in_cases y s xs i) in (
        there.0 ++ behind,
        run_join a.graph there.0 behind s x s there.1 (run_join a.graph here.0 xs x s s here.1 r),
        λ kind b. elim (dec_lt kind n) [
          | yes d ↦ let (y, i, q) = passed kind d in (y, old y i, q)
          | no d ↦ let e : kind ≡ n = omega arith in (x, new, rw e c)
        ],
      )

  -- A reachable state from which such runs lead lies on a reachable free round: along the move and back, then the tour.
  pub on_round_lem : (s : ℕ) → Reach a.graph a.graph.start s → Lies s → OnRound a s
  on_round_lem s (ws, w) l =
      let (x, i, (xs, r)) = l.back in
      let (ys, q, passed) = tour s a.kinds l (omega arith) in
      let last : In s (x ∷ xs) = run_last a.graph xs s x s (i, r) in
      let among : (y : ℕ) → In y (s ∷ ys) → In y ((x ∷ xs) ++ ys) = λ y j. ⊎_elim (λ e. rw e (in_left s (x ∷ xs) ys last)) (in_right y (x ∷ xs) ys) (in_cases y s ys j) in
      let all-passed : PassesAll a (x ∷ (xs ++ ys)) = λ kind h. let (y, j, c) = passed kind h in (y, among y j, c) in
      (round_from a s x (xs ++ ys) ws (run_join a.graph (x ∷ xs) ys s s s (i, r) q) all-passed w, in_left s (x ∷ xs) ys last)

  -- And of a state on one: the round itself leads from it back to it, and to its carriers and back.
  pub round_lies : (s : ℕ) → OnRound a s → Reach a.graph a.graph.start s × Lies s
  round_lies s (f, i) =
      let g = a.graph in
      let xs = f.first ∷ f.others in
      let (x, j, (ys, r, e)) = first_move g (length f.others) s s (rotated g xs f.origin s f.closed i) in (
        round_reached a f s i,
        record {
          back = (x, j, (ys, r));
          carriers = λ kind h. let (y, k, c) = f.passes_all kind h in (y, c, run_between g xs f.origin s y f.closed i k, run_between g xs f.origin y s f.closed k i);
        },
      )

-- ---- two games

-- where each state has the same moves, the same runs lead
reach_alike : (g h : Graph) → ((v : ℕ) → g.successors v ≡ h.successors v) → (x y : ℕ) → Reach g x y → Reach h x y
reach_alike g h moves x y (xs, r) = (xs, along xs x r)
  where
    along : (xs : List ℕ) (x : ℕ) → Run g x xs y → Run h x xs y
    along [] x r = r
    along (z ∷ xs) x r = (rw (moves x) at r.0, along xs z r.1)

abbrev pub SameMoves : Kinded → Kinded → Type 0
SameMoves a b = (v : ℕ) → a.graph.successors v ≡ b.graph.successors v

-- the states of both carry the same of the kinds in use
abbrev pub SameCarriers : Kinded → Kinded → Type 0
SameCarriers a b = (kind s : ℕ) → kind < a.kinds → s < a.size → s < b.size → a.carries kind s ≡ b.carries kind s

rounds_alike : (a b : Kinded) → StartInside a → MovesInside a → StartInside b → MovesInside b → a.graph.start ≡ b.graph.start → SameMoves a b → a.kinds ≡ b.kinds → SameCarriers a b
    → (s : ℕ) → In s (on_rounds a) → In s (on_rounds b)
rounds_alike a b begins stays begins' stays' start moves kinds carried s i =
    let (r, l) = (listed_by a begins stays s).0 i in
    let to = reach_alike a.graph b.graph moves in
    let r' : Reach b.graph b.graph.start s = rw start at (to a.graph.start s r) in
    let h = rounds_below a s i in
    let h' = reach_below b.graph b.size stays' b.graph.start s begins' r' in
    (listed_by b begins' stays' s).1 (
      r',
      record {
        back = let (x, j, q) = l.back in (x, rw (moves s) at j, to x s q);
        carriers = λ kind k.
            let k' : kind < a.kinds = omega (arith, kinds) in
            let (x, c, p, q) = l.carriers kind k' in
            let same = carried kind x k' (reach_below a.graph a.size stays s x h p) (reach_below b.graph b.size stays' s x h' (to s x p)) in
            (x, sym same ∙ c, to s x p, to x s q);
      },
    )

-- Two games of the same moves, kinds and carriers have the same list, whatever their sizes.
pub same_rounds : (a b : Kinded) → StartInside a → MovesInside a → StartInside b → MovesInside b → a.graph.start ≡ b.graph.start → SameMoves a b → a.kinds ≡ b.kinds → SameCarriers a b
    → on_rounds a ≡ on_rounds b
same_rounds a b begins stays begins' stays' start moves kinds carried =
    rising_same (on_rounds a) (on_rounds b) (rounds_rising a) (rounds_rising b) (rounds_alike a b begins stays begins' stays' start moves kinds carried)
    (rounds_alike b a begins' stays' begins stays (sym start) (λ v. sym (moves v)) (sym kinds) (λ kind s k p q. sym (carried kind s (omega (arith, kinds)) q p)))

-- ---- the game of a table

empty_none : (xs : List ℕ) → ((x : ℕ) → In x xs → ⊥) → length xs ≡ 0
empty_none [] n = refl
empty_none (x ∷ xs) n = absurd (n x (in_head x xs))

none_empty : (xs : List ℕ) (x : ℕ) → length xs ≡ 0 → In x xs → ⊥
none_empty [] x e i = in_nil x i
none_empty (y ∷ xs) x e i = omega arith

module _ (t : Table) (v : Valid t) where
  listed_iff : (s : ℕ) → (In s (on_rounds (game_of t)) → OnRound (game_of t) s) × (OnRound (game_of t) s → In s (on_rounds (game_of t)))
  listed_iff s =
      let i = inside_game t v in
      let q = listed_by (game_of t) i.begins i.stays s in
      (λ j. let (r, l) = q.0 j in on_round_lem (game_of t) s r l, λ o. q.1 (round_lies (game_of t) s o))

  pub table_rounds : RoundsRight t
  table_rounds =
      let w = verdict_right t v in
      record {
        listed_right = record { rising = rounds_rising (game_of t); only = λ s. (listed_iff s).0; each = λ s. (listed_iff s).1 };
        reachable = λ s i. let (f, j) = (listed_iff s).0 i in round_reached (game_of t) f s j;
        zero_if = λ e. empty_none (on_rounds (game_of t)) (λ s i. w.none_only e ((listed_iff s).0 i).0);
        zero_only = λ e. w.none_if (λ f. none_empty (on_rounds (game_of t)) f.first e ((listed_iff f.first).1 (f, in_head f.first f.others)));
        walk_listed = λ stem cycle e s i.
            let (f, n, states) = walk_round (game_of t) (printed t stem) (printed t cycle) (w.walk stem cycle e) in
            (listed_iff s).1 (f, states s i);
      }

-- TICKET 12, of every table that a session can hold
pub rounds_right : (t : Table) → Arises t → RoundsRight t
rounds_right t a = table_rounds t (valid t a)
