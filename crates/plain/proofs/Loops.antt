-- Document 02, ticket 1: a paying state with a move to itself. Assumes nothing.
use mathlib.Core.Path.{◌≡◌, refl}
use mathlib.Core.Logic.{◌≢◌}
use mathlib.Core.Bool.{true}
use mathlib.Core.List.{List, [], ◌∷◌}
use lib.ListN.{length}
use Prim.Native.Nat.{ℕ, zero, suc, ◌<◌}
use native.Mathlib.Omega.{arith}
use Rattle.plain.specs.Lists.{any, any_below, filter, elem, before, from}
use Rattle.plain.specs.Search.{on_path, step, steps, states_of, stem_of, cycle_of, none, lasso, verdict}
use Rattle.plain.specs.Cycles.{Kinded, FullLoop, OneMoveRound}
use Rattle.plain.specs.Table.{Table, bit, accepts, carried_by, row, game_of, budget, final}
use Rattle.plain.specs.Refusals.{first_held, pairs, same_edge, present, bad_size, bad_start, bad_marks, bad_count, bad_kinds, outside, repeated, short_room, load_trial}
use Rattle.plain.specs.Layers.{copy, layer_of, state_of, next}
use Rattle.plain.specs.Machine.{table_of, Line, game_line, round_line, none_line, no_line, ways_line, short_line, no_round_line}
use Rattle.plain.specs.Claims.{Arises, loaded, LineTrue, LoopTold}
use Rattle.plain.specs.Games.{word_of, marks_of, known_by, known, known_in, returning}
use Rattle.plain.proofs.Tests.{in_head}
use Rattle.plain.proofs.Demands.{demand_2}

-- "a paying state with such a move has a round of length 1", in any game
pub loop_round : (a : Kinded) (s : FullLoop a) → OneMoveRound a s.state
loop_round a s =
    let here = in_head s.state [] in (
      record {
        origin = s.state;
        first = s.state;
        others = [];
        closed = (s.loops, refl);
        passes_all = λ kind h. (s.state, here, s.carries_all kind h);
        way = s.way;
        entry = s.state;
        leads = s.leads;
        enters = here;
      },
      refl,
      refl,
    )

-- so the search does not end with "none"
pub loop_found : (t : Table) → Arises t → FullLoop (game_of t) → verdict (final t) ≢ none
loop_found t a s e = (demand_2 t a).none_only e (loop_round (game_of t) s).0

-- nor does a line that is true say it
pub loop_told : (l : Line) (t : Table) → LineTrue l t → LoopTold l t
loop_told (game_line size moves paying) t h s = tt
loop_told (round_line spent kept stem cycle walk) t h s = tt
loop_told (none_line spent kept) t h s = h.clear_only refl (loop_round (game_of t) s).0
loop_told (no_line r) t h s = tt
loop_told (ways_line v leaving entering) t h s = tt
loop_told (short_line best least) t h s = tt
loop_told no_round_line t h s = h (loop_round (game_of t) s).0

first_kind : (kind : ℕ) → kind < 1 → carried_by returning.load.marks kind 1 ≡ true
unfolding bit accepts carried_by word_of marks_of known_by known known_in returning
first_kind zero h = refl
first_kind (suc kind) h = absurd (omega arith)

-- "though the search may answer another": here one of two moves
pub another_round : (s : FullLoop (game_of (table_of returning.load))) × Arises (table_of returning.load)
    × (stem : List ℕ) × (cycle : List ℕ) × (verdict (final (table_of returning.load)) ≡ lasso stem cycle) × (length cycle ≡ 2)
unfolding any any_below filter elem before from on_path step steps states_of stem_of cycle_of verdict bit accepts row budget final first_held pairs same_edge present bad_size bad_start bad_marks bad_count outside repeated short_room load_trial table_of word_of marks_of known_by known known_in returning carried_by bad_kinds copy layer_of state_of next
another_round = (
  record { state = 1; loops = refl; carries_all = first_kind; way = 1 ∷ []; leads = (refl, refl) },
  loaded returning.load 512 refl,
  [],
  0 ∷ 1 ∷ [],
  refl,
  refl,
)
