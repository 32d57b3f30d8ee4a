-- TICKET 7: changes that name different states, in any order; a move that is added and cut; one that is cut and added. Assumes nothing.
use mathlib.Core.Path.{◌≡◌, refl, sym, ap, subst, ◌∙◌}
use mathlib.Core.Logic.{◌≢◌}
use mathlib.Core.Bool.{false, not}
use mathlib.Core.List.{List, [], ◌∷◌, ◌++◌, map}
use Prim.Native.Nat.{ℕ}
use native.Mathlib.Omega.{arith}
use lib.Dec.{eqb}
use Rattle.plain.specs.Lists.{any, filter, any_below, elem, Once, before, from}
use Rattle.plain.specs.Search.{Edge, on_path, step, steps, states_of, stem_of, cycle_of, none, lasso, unfinished, verdict, count}
use Rattle.plain.specs.Table.{Table, bit, accepts, carried_by, row, printed, printed_verdict, budget, final}
use Rattle.plain.specs.Layers.{copy, layer_of, state_of, next}
use Rattle.plain.specs.Refusals.{accepted, first_held, pairs, same_edge, present, bad_size, bad_start, bad_marks, bad_count, bad_kinds, outside, repeated, full, short_room, load_trial}
use Rattle.plain.specs.Machine.{Change, add, cut, table_of, with_edges, without, apply, conditions, misnamed, change_trial, apply_all, named_all, changes_of, applied, update_trial, kept, Answer, refusal, answer, load_answer, Call, call_for, trial_of, table_after, answers, written, answer_line}
use Rattle.plain.specs.Claims.{Arises, loaded, totalled, table_behind, last_of}
use Rattle.plain.specs.Orders.{SameView, Apart, TwoOrders, Permutation, nothing, first, changes_asked, Switching, EachAccepted, AnyOrders, add_and_cut, BringsBack, CutFollows, cut_and_add, NeedNot, total_line}
use Rattle.plain.specs.Games.{word_of, marks_of, known_by, known, known_in, game_h}
use Rattle.plain.proofs.Tests.{in_head, in_right, or-false, or_neither}
use Rattle.plain.proofs.Trials.{held_later, unheld}
use Rattle.plain.proofs.Rows.{row_has, row_add, without_newest}
use Rattle.plain.proofs.Tables.{room_enough}
use Rattle.plain.proofs.Calls.{single_trial, single_table, behind_calls, last_told, fresh_reports}
use Rattle.plain.proofs.OneByOne.{roomy}
use Rattle.plain.proofs.Views.{state_named, named_is, view_refl, view_trans, same_apply_all, commute, same_shown, only_rows}

-- ---- the states that changes name

named_first : (c : Change) (cs : List Change) → named_all (c ∷ cs) ≡ state_named c ∷ named_all cs
unfolding named_all
named_first c cs = ap (λ (l : List ℕ). l ++ named_all cs) (named_is c)

-- a state that is not named by some is not the first's, nor named by the rest
unnamed_cons : (x : ℕ) (c : Change) (cs : List Change) → elem x (named_all (c ∷ cs)) ≡ false → (eqb x (state_named c) ≡ false) × (elem x (named_all cs) ≡ false)
unfolding elem
unnamed_cons x c cs f = or-false (eqb x (state_named c)) (elem x (named_all cs)) (rw (named_first c cs) at f)

cons_unnamed : (x : ℕ) (c : Change) (cs : List Change) → eqb x (state_named c) ≡ false → elem x (named_all cs) ≡ false → elem x (named_all (c ∷ cs)) ≡ false
unfolding elem
cons_unnamed x c cs f g = rw (named_first c cs) (or_neither (eqb x (state_named c)) (elem x (named_all cs)) f g)

-- with one change more among them
insert_unnamed : (x : ℕ) (c : Change) (before behind : List Change) → eqb x (state_named c) ≡ false → elem x (named_all (before ++ behind)) ≡ false → elem x (named_all (before ++ (c ∷ behind))) ≡ false
insert_unnamed x c [] behind f g = cons_unnamed x c behind f g
insert_unnamed x c (d ∷ before) behind f g =
    let w = unnamed_cons x d (before ++ behind) g in
    cons_unnamed x d (before ++ (c ∷ behind)) w.0 (insert_unnamed x c before behind f w.1)

-- a part of them
part_unnamed : (x : ℕ) (before behind : List Change) → elem x (named_all (before ++ behind)) ≡ false → elem x (named_all before) ≡ false
unfolding named_all elem
part_unnamed x [] behind f = refl
part_unnamed x (d ∷ before) behind f =
    let w = unnamed_cons x d (before ++ behind) f in
    cons_unnamed x d before w.0 (part_unnamed x before behind w.1)

-- in another order
permuted_unnamed : (x : ℕ) (cs ds : List Change) → Permutation cs ds → elem x (named_all cs) ≡ false → elem x (named_all ds) ≡ false
permuted_unnamed x cs ds nothing f = f
permuted_unnamed x cs ds (first c rest before behind r) f =
    let w = unnamed_cons x c rest f in
    insert_unnamed x c before behind w.0 (permuted_unnamed x rest (before ++ behind) r w.1)

apart_cons : (c : Change) (cs : List Change) → Apart (c ∷ cs) → (elem (state_named c) (named_all cs) ≡ false) × Apart cs
apart_cons c cs a = subst Once (named_first c cs) a

-- ---- the tables that they leave

-- a change can be made ahead of changes that name other states, or behind them
moved : (c : Change) (before behind : List Change) (t : Table) → elem (state_named c) (named_all before) ≡ false
    → SameView (apply_all (before ++ behind) (apply c t)) (apply_all (before ++ (c ∷ behind)) t)
unfolding apply_all
moved c [] behind t f = view_refl (apply_all behind (apply c t))
moved c (d ∷ before) behind t f =
    let w = unnamed_cons (state_named c) d before f in
    view_trans (same_apply_all (before ++ behind) (commute c d t w.0)) (moved c before behind (apply d t) w.1)

-- changes that name pairwise different states lead to the same view in any order
any_order : (cs ds : List Change) (t : Table) → Permutation cs ds → Apart cs → SameView (apply_all cs t) (apply_all ds t)
unfolding apply_all
any_order cs ds t nothing a = view_refl t
any_order cs ds t (first c rest before behind r) a =
    let w = apart_cons c rest a in
    let other = part_unnamed (state_named c) before behind (permuted_unnamed (state_named c) rest (before ++ behind) r w.0) in
    view_trans (any_order rest (before ++ behind) (apply c t) r w.1) (moved c before behind t other)

-- ---- what they tell

-- tables with the same view are told alike
pub told_alike : (t u : Table) → SameView t u → load_answer accepted t ≡ load_answer accepted u
unfolding load_answer
told_alike t u w = λ i. answer (same_shown t u w i) (count ((only_rows t u w).same_search i)) 0

-- the line of an answer, its looks taken together
pub line_totalled : (a : Answer) → answer_line (totalled a) ≡ map total_line (answer_line a)
unfolding answer_line totalled total_line
line_totalled (refusal r) = refl
line_totalled (answer none spent kept) = refl
line_totalled (answer (lasso stem cycle) spent kept) = refl
line_totalled (answer unfinished spent kept) = refl

-- its walk is written as it was
pub written_totalled : (a : Answer) (lent : List ℕ) → written (totalled a) lent ≡ written a lent
unfolding written totalled
written_totalled (refusal r) lent = refl
written_totalled (answer none spent kept) lent = refl
written_totalled (answer (lasso stem cycle) spent kept) lent = refl
written_totalled (answer unfinished spent kept) lent = refl

-- accepted calls whose changes are the same in another order leave the same view
pub same_views : (t : Table) (cs ds : List Call) → Switching cs → Switching ds → Apart (changes_asked cs) → Permutation (changes_asked cs) (changes_asked ds) → EachAccepted cs t → EachAccepted ds t
    → SameView (table_behind cs t) (table_behind ds t)
same_views t cs ds x y apart order h k = rw (behind_calls cs t x h, behind_calls ds t y k) (any_order (changes_asked cs) (changes_asked ds) t order apart)

-- ANY ORDERS
pub any_orders : AnyOrders
any_orders t cs ds a x y apart order h k =
    let w = same_views t cs ds x y apart order h k in
    record {
      same_report = λ before r. last_told cs t a h before r ∙ told_alike (table_behind cs t) (table_behind ds t) w ∙ sym (last_told ds t a k before r);
      same_after = (only_rows (table_behind cs t) (table_behind ds t) w).same_after;
    }

-- TWO ORDERS
pub two_orders : TwoOrders
unfolding changes_asked changes_of last_of answers
two_orders t c d room a apart h k =
    (any_orders t (call_for room c ∷ call_for room d ∷ []) (call_for room d ∷ call_for room c ∷ []) a (tt, (tt, tt)) (tt, (tt, tt)) apart (first c (d ∷ []) (d ∷ []) [] (first d [] [] [] nothing)) h k).same_report
    (load_answer accepted t) (fresh_reports t)

-- ---- there and back

-- what an add's acceptance says
add_new : (t : Table) (e : Edge) (room : ℕ) → trial_of (call_for room (add e)) t ≡ accepted → present t.edges e ≡ false
unfolding change_trial conditions
add_new t e room h = unheld 8 _ (sym (single_trial room (add e) t) ∙ h)

-- ADDED AND CUT
pub brings_back : BringsBack
unfolding changes_asked changes_of apply_all apply
brings_back t e room room₂ a h =
    let same : table_behind (add_and_cut room room₂ e) t ≡ t =
    behind_calls (add_and_cut room room₂ e) t (tt, (tt, tt)) h ∙ ap (with_edges t) (without_newest t.edges e (add_new t e room h.0)) in
    record {
      same_table = same;
      same_report = λ before r. last_told (add_and_cut room room₂ e) t a h before r ∙ ap (load_answer accepted) same ∙ sym r;
    }

-- the cut is accepted where the add is
pub cut_follows : CutFollows
unfolding change_trial conditions misnamed apply
cut_follows t e room room₂ longer h =
    let k : change_trial (add e) t room ≡ accepted = sym (single_trial room (add e) t) ∙ h in
    let there = row_has (t.edges ++ (e ∷ [])) e.0 e.1 (rw (row_add t.edges e) (in_right e.1 (row t.edges e.0) (e.1 ∷ []) (in_head e.1 []))) in
    let after : trial_of (call_for room₂ (cut e)) (apply (add e) t) ≡ accepted =
    single_trial room₂ (cut e) (apply (add e) t) ∙ held_later _ _ refl ∙ held_later _ _ (unheld 6 _ k) ∙ held_later _ _ (ap not there) ∙ roomy (add e) t room₂ (omega (arith, room_enough (add e) t room k, longer)) in
    (h, (rw (single_table room (add e) t k) after, tt))

-- CUT AND ADDED: game H
need_not_line : answer_line (load_answer accepted (apply_all (cut (0, 1) ∷ add (0, 1) ∷ []) (table_of game_h.load))) ≢ answer_line (load_answer accepted (table_of game_h.load))
unfolding before from elem on_path step steps states_of stem_of cycle_of verdict bit accepts row filter budget final pairs same_edge table_of without apply apply_all load_answer answer_line word_of marks_of known_by known known_in game_h carried_by copy layer_of state_of next printed printed_verdict
need_not_line e = let z : ◌≡◌ {A = ℕ} 2 1 = cc in omega arith

need_not_accepted : EachAccepted (cut_and_add 512 512 (0, 1)) (table_of game_h.load)
unfolding any filter pairs same_edge present outside full short_room first_held table_of without apply conditions change_trial applied update_trial trial_of table_after misnamed word_of known_by known known_in game_h
need_not_accepted = (refl, (refl, tt))

pub need_not : NeedNot
unfolding any filter any_below bit accepts pairs same_edge present bad_size bad_start bad_marks bad_count outside repeated short_room first_held load_trial table_of word_of marks_of known_by known known_in game_h carried_by bad_kinds changes_asked changes_of
need_not = record {
  arises = here;
  each_accepted = need_not_accepted;
  other_line = λ room room₂ h e.
      need_not_line (ap answer_line (sym (last_told (cut_and_add room room₂ (0, 1)) _ here h (load_answer accepted _) (fresh_reports _) ∙ ap (load_answer accepted) (behind_calls (cut_and_add room room₂ (0, 1)) _ (tt, (tt, tt)) h))) ∙ e);
}
  where
    here : Arises (table_of game_h.load)
    here = loaded game_h.load 512 refl
