-- Ticket 11's claims, together. Assumes nothing.
use mathlib.Core.Path.{◌≡◌, refl}
use mathlib.Core.Logic.{⊎_elim}
use mathlib.Core.List.{List}
use Prim.Native.Nat.{ℕ, ◌*◌, ◌≤◌}
use native.Mathlib.Nat.{mul-le-mul_right}
use native.Mathlib.Decide.{dec_le}
use native.Mathlib.Omega.{arith}
use lib.ListN.{length}
use Rattle.plain.specs.Search.{Verdict, none, lasso, unfinished, verdict}
use Rattle.plain.specs.Cycles.{FullRound, round_length}
use Rattle.plain.specs.Table.{Table, graph_of, game_of, final}
use Rattle.plain.specs.Shortest.{found_at}
use Rattle.plain.specs.Questions.{short, shortest, hunt_in, reply_to}
use Rattle.plain.specs.Claims.{Arises, LengthsTrue, ShortRight}
use Rattle.plain.proofs.Tables.{Valid, valid}
use Rattle.plain.proofs.Demands.{verdict_right}
use Rattle.plain.proofs.Shortest.{roots_of, hunt_leaves, none_shorter, present_round, several_kinds, none_if, none_only, found, otherwise}
use Rattle.plain.proofs.ShortBudget.{more_looks, hunt_shorter, hunt_ends}

module _ (t : Table) (v : Valid t) (one : t.kinds ≡ 1) (b : ℕ) where
  -- the looks at the moves of one length
  abbrev each : ℕ
  each = length (roots_of t) * length t.edges

  -- with a budget for k lengths, and a round that is not longer, one is found
  found_within : (k : ℕ) (f : FullRound (game_of t)) → round_length (game_of t) f ≤ k → k * each ≤ b → (m : ℕ) × (hunt_in t b k ≡ found_at m)
  unfolding hunt_in
  found_within k f h few = ⊎_elim
      (λ r. r)
      (λ e. absurd (omega (arith, none_shorter t v one _ (hunt_leaves (graph_of t) (roots_of t) b k 1 0 _ (λ s i x xs r. omega arith) e) f))) (hunt_ends t v b k few)

  -- the reply is the shortest length, twice
  abbrev Shortest : Type 0
  Shortest = (l : ℕ) × (reply_to (short b) t ≡ shortest l l) × LengthsTrue t l l

  enough : (f : FullRound (game_of t)) → round_length (game_of t) f * each ≤ b → Shortest
  unfolding hunt_in
  enough f few = by_verdict (verdict (final t)) refl
    where
      -- a round is found among those that are not longer than the present walk's
      within : (stem cycle : List ℕ) → verdict (final t) ≡ lasso stem cycle → (m : ℕ) × (hunt_in t b (length cycle) ≡ found_at m)
      within stem cycle e = let len = round_length (game_of t) f in elim (dec_le len (length cycle)) [
        | yes h ↦ let r = found_within len f (omega arith) few in
            (r.0, hunt_shorter (graph_of t) b (roots_of t) len (length cycle) 1 0 r.0 h r.1)
        | no h ↦ let p = present_round t v one stem cycle e in
            let z : length cycle ≤ len = omega arith in
            found_within (length cycle) p.0 (omega (arith, p.1)) (omega (arith, mul-le-mul_right each z))
      ]

      by_verdict : (w : Verdict) → verdict (final t) ≡ w → Shortest
      by_verdict none e = absurd ((verdict_right t v).none_only e f)
      by_verdict unfinished e = absurd ((verdict_right t v).ends e)
      by_verdict (lasso stem cycle) e = let (m, h) = within stem cycle e in let r = found t v b m stem cycle one e h in (m, r.0, r.1)

pub short_right : (t : Table) → Arises t → ShortRight t
short_right t a =
    let v = valid t a in record {
      several_kinds = several_kinds t v;
      none_if = none_if t v;
      none_only = none_only t v;
      found = found t v;
      otherwise = otherwise t v;
      more_looks = more_looks t;
      enough = λ b f one few. enough t v one b f few;
    }
