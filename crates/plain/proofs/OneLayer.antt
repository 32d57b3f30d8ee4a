-- With one kind of pay the layers are the game itself. Assumes nothing.
use mathlib.Core.Path.{◌≡◌, refl, sym, ap, ◌∙◌, fun_ext}
use mathlib.Core.Logic.{⊎_elim}
use mathlib.Core.Bool.{Bool, true, false}
use mathlib.Core.List.{List, [], ◌∷◌, map}
use Prim.Native.Nat.{ℕ, ◌+◌, ◌*◌, ◌-◌, ◌%◌, ◌≤◌}
use native.Mathlib.Nat.{mul-one, one-mul}
use native.Mathlib.Decide.{dec_le}
use native.Mathlib.Omega.{arith}
use lib.Dec.{eqb, ltb, leb}
use lib.ListN.{length}
use borrow.Author.Tests.{lt-ltb, le-ltb, le-leb, lt-leb, ltb-false}
use Rattle.plain.specs.Lists.{elem}
use Rattle.plain.specs.Search.{Graph, Edge, Verdict, none, lasso, unfinished}
use Rattle.plain.specs.Cycles.{Kinded, FreeRound, FullRound}
use Rattle.plain.specs.Layers.{copy, state_of, layer_of, state_at, copies, copies_of, landing, layers}
use Rattle.plain.specs.Table.{Table, carried_by, graph_of, game_of, printed, printed_verdict}
use Rattle.plain.specs.Refusals.{refused, first_held, pairs, bad_size, bad_count, bad_kinds, full, Load, load_trial}
use Rattle.plain.specs.Claims.{OldResults, Never16}
use Rattle.plain.proofs.Tests.{either, or-false}
use Rattle.plain.proofs.Trials.{held_first, held_later, never_handed}
use Rattle.plain.proofs.Tables.{length_pairs, fit_kinds}
use Rattle.plain.proofs.Copies.{copy_first, state_one, next_last}

pub map_same : (f : ℕ → ℕ) → ((x : ℕ) → f x ≡ x) → (xs : List ℕ) → map f xs ≡ xs
map_same f h [] = refl
map_same f h (x ∷ xs) = ap (λ y. y ∷ map f xs) (h x) ∙ ap (λ ys. x ∷ ys) (map_same f h xs)

pub lands_first : (b : Bool) → landing 1 b 0 ≡ 0
lands_first true = next_last 1 0 refl
lands_first false = refl

-- the game with one kind: a graph, of which a state accepts that carries the kind
abbrev pub one_kind : Graph → ℕ → (ℕ → ℕ → Bool) → Kinded
one_kind g n carries = record { graph = g; size = n; kinds = 1; carries = carries }

pub one_layer : (g : Graph) (n : ℕ) (carries : ℕ → ℕ → Bool) → ((s : ℕ) → carries 0 s ≡ g.accepting s) → layers (one_kind g n carries) ≡ g
unfolding state_of layer_of
one_layer g n carries e =
    let a = one_kind g n carries in
    let rows : (layers a).successors ≡ g.successors = fun_ext (λ v. ap (λ l. map (copy n l) (g.successors v)) (lands_first (carries 0 v)) ∙ map_same (copy n 0) (copy_first n) (g.successors v)) in
    let pays : (layers a).accepting ≡ g.accepting = fun_ext (λ v. e v) in
    λ i. record { start = copy_first n g.start i; successors = rows i; accepting = pays i }

-- ---- of a table

-- each state is its only copy
copies_one : (n : ℕ) (named : List ℕ) → copies_of n 0 named ≡ named
unfolding copies_of copies
copies_one n [] = refl
copies_one n (s ∷ ss) = λ i. copy_first n s i ∷ copies_one n ss i

module _ (t : Table) (one : t.kinds ≡ 1) where
  same_state : (v : ℕ) → state_at (game_of t) v ≡ v
  same_state v = ap (λ k. state_of t.size (k - 1) v) one ∙ state_one t.size v

  verdict_one : (v : Verdict) → printed_verdict t v ≡ v
  unfolding printed_verdict printed
  verdict_one none = refl
  verdict_one (lasso stem cycle) = λ i. lasso (map_same (state_at (game_of t)) same_state stem i) (map_same (state_at (game_of t)) same_state cycle i)
  verdict_one unfinished = refl

  full_one : (es : List Edge) → full t.kinds es ≡ leb 2048 (length es)
  unfolding full
  full_one es = ap (λ k. ltb 2048 ((length es + 1) * k)) one ∙ ap (ltb 2048) (mul-one (length es + 1)) ∙ elim (dec_le 2048 (length es)) [
    | yes h ↦ lt-ltb 2048 (length es + 1) (omega arith) ∙ sym (le-leb 2048 (length es) h)
    | no h ↦ le-ltb 2048 (length es + 1) (omega arith) ∙ sym (lt-leb 2048 (length es) (omega arith))
  ]

  -- a closed run that passes the one kind passes a paying state, and the other way round
  to_free : FullRound (game_of t) → FreeRound (graph_of t)
  to_free f =
      let p = f.passes_all 0 (omega (arith, one)) in
      (record { origin = f.origin; first = f.first; others = f.others; closed = f.closed; payer = p.0; pays = p.2; passes = p.1 }, record { way = f.way; entry = f.entry; leads = f.leads; enters = f.enters })

  from_free : FreeRound (graph_of t) → FullRound (game_of t)
  from_free (c, r) = record {
    origin = c.origin;
    first = c.first;
    others = c.others;
    closed = c.closed;
    passes_all = λ kind h. let z : kind ≡ 0 = omega (arith, one) in (c.payer, c.passes, ap (λ k. carried_by t.marks k c.payer) z ∙ c.pays);
    way = r.way;
    entry = r.entry;
    leads = r.leads;
    enters = r.enters;
  }

  pub one_kind_lem : OldResults t
  one_kind_lem = record {
    same_graph = ap (λ k. layers (record { graph = graph_of t; size = t.size; kinds = k; carries = carried_by t.marks })) one ∙ one_layer (graph_of t) t.size (carried_by t.marks) (λ s. refl);
    rounds_free = to_free;
    free_rounds = from_free;
    same_states = λ named. ap (λ k. copies_of t.size (k - 1) named) one ∙ copies_one t.size named;
    same_looks = λ e i. (same_state e.0 i, same_state e.1 i);
    same_verdict = verdict_one;
    same_full = full_one;
    same_room = ap (λ k. t.size * k) one ∙ mul-one t.size;
  }

-- ---- of a load

-- with one kind, what 16 asks for is asked by 2 and 5 already
kinds_fine : (l : Load) → l.kinds ≡ 1 → bad_size l.size ≡ false → bad_count l.numbers ≡ false → bad_kinds l.kinds l.size (length (pairs l.numbers)) ≡ false
unfolding bad_size bad_count
kinds_fine l one a b =
    let few : l.size ≤ 512 = ltb-false 512 l.size (or-false (eqb l.size 0) (ltb 512 l.size) a).1 in
    let short : length l.numbers ≤ 4096 = ltb-false 4096 (length l.numbers) (or-false (eqb (length l.numbers % 2) 1) (ltb 4096 (length l.numbers)) b).1 in
    fit_kinds l.kinds l.size (length (pairs l.numbers)) (record {
      some = omega (arith, one);
      four = omega (arith, one);
      states = omega (arith, ap (λ k. k * l.size) one, one-mul l.size);
      moves_fit = omega (arith, ap (λ k. k * length (pairs l.numbers)) one, one-mul (length (pairs l.numbers)), length_pairs l.numbers);
    })

-- a number that is handed back, where another stands before it: that one's condition does not hold
behind_other : (n m : ℕ) (b : Bool) (cs : List (ℕ × Bool)) → (m ≡ n → ⊥) → first_held ((m, b) ∷ cs) ≡ refused n → (b ≡ false) × (first_held cs ≡ refused n)
behind_other n m b cs d e = ⊎_elim
    (λ h. absurd (let z : refused m ≡ refused n = sym (held_first (m, b) cs h) ∙ e in let y : m ≡ n = cc in d y))
    (λ h. (h, sym (held_later (m, b) cs h) ∙ e)) (either b)

pub never_16 : Never16
unfolding load_trial elem
never_16 l room one e =
    let a = behind_other 16 2 _ _ (λ z. omega arith) e in
    let b = behind_other 16 3 _ _ (λ z. omega arith) a.1 in
    let c = behind_other 16 4 _ _ (λ z. omega arith) b.1 in
    let d = behind_other 16 5 _ _ (λ z. omega arith) c.1 in
    never_handed 16 _ refl (sym (held_later _ _ (kinds_fine l one a.0 d.0)) ∙ d.1)
