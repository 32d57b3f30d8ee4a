-- Ticket 10: another count of kinds. Which marks stay, and that a load accepts the table that is left. Assumes nothing.
use mathlib.Core.Path.{◌≡◌, refl, sym, ap, ◌∙◌}
use mathlib.Core.Logic.{◌≢◌}
use mathlib.Core.Bool.{Bool, true, false, ◌&&◌, ◌||◌}
use mathlib.Core.List.{List, [], ◌∷◌, map}
use Prim.Native.Nat.{ℕ, zero, suc, ◌*◌, ◌/◌, ◌%◌, ◌≤◌, ◌<◌}
use native.Mathlib.Decide.{dec_lt}
use native.Mathlib.Omega.{arith}
use lib.Dec.{leb}
use lib.ListN.{length, get_or, length-map}
use borrow.Author.Tests.{ltb-false, lt-leb}
use Rattle.plain.specs.Lists.{any_below, elem}
use Rattle.plain.specs.Table.{Table, bit, accepts, carried_by}
use Rattle.plain.specs.Refusals.{accepted, refused, bad_marks, short_room, load_trial}
use Rattle.plain.specs.Machine.{up_to_kind, to_kinds, kinds_trial}
use Rattle.plain.specs.Claims.{Arises, load_from}
use Rattle.plain.proofs.Tests.{contra, or_neither, and-true, not-true}
use Rattle.plain.proofs.Bits.{bit_of_zero}
use Rattle.plain.proofs.Trials.{unheld, never_handed}
use Rattle.plain.proofs.Tables.{Valid, valid, kinds_fit, edges_most, carried_few}
use Rattle.plain.proofs.Fresh.{fresh_trial, fresh_arises}

-- ---- the marks

-- those of kinds up to k stay
pub carried_kept : (k : ℕ) (marks : List (List ℕ)) (kind s : ℕ) → kind < k → carried_by (up_to_kind k marks) kind s ≡ carried_by marks kind s
unfolding carried_by up_to_kind
carried_kept k [] kind s h = refl
carried_kept zero (words ∷ rest) kind s h = absurd (omega arith)
carried_kept (suc k) (words ∷ rest) zero s h = refl
carried_kept (suc k) (words ∷ rest) (suc kind) s h = carried_kept k rest kind s (omega arith)

-- words without a mark
unmarked : (words : List ℕ) (i : ℕ) → ◌≡◌ {A = ℕ} (get_or (map (λ (w : ℕ). 0) words) i 0) 0
unmarked [] i = refl
unmarked (w ∷ ws) zero = refl
unmarked (w ∷ ws) (suc i) = unmarked ws i

none_accepts : (words : List ℕ) (s : ℕ) → accepts (map (λ (w : ℕ). 0) words) s ≡ false
unfolding accepts
none_accepts words s = ap (bit (s % 64)) (unmarked words (s / 64)) ∙ bit_of_zero (s % 64)

-- those of kinds above are dropped
pub carried_dropped : (k : ℕ) (marks : List (List ℕ)) (kind s : ℕ) → k ≤ kind → carried_by (up_to_kind k marks) kind s ≡ false
unfolding carried_by up_to_kind
carried_dropped k [] kind s h = none_accepts [] s
carried_dropped zero (words ∷ rest) zero s h = none_accepts words s
carried_dropped zero (words ∷ rest) (suc kind) s h = carried_dropped zero rest kind s (omega arith)
carried_dropped (suc k) (words ∷ rest) zero s h = absurd (omega arith)
carried_dropped (suc k) (words ∷ rest) (suc kind) s h = carried_dropped k rest kind s (omega arith)

-- as many kinds have words, and as many words each
pub kept_kinds : (k : ℕ) (marks : List (List ℕ)) → length (up_to_kind k marks) ≡ length marks
unfolding up_to_kind
kept_kinds k [] = refl
kept_kinds zero (words ∷ rest) = ap suc (kept_kinds zero rest)
kept_kinds (suc k) (words ∷ rest) = ap suc (kept_kinds k rest)

pub kept_words : (k : ℕ) (marks : List (List ℕ)) (kind : ℕ) → length (get_or (up_to_kind k marks) kind []) ≡ length (get_or marks kind [])
unfolding up_to_kind
kept_words k [] kind = refl
kept_words zero (words ∷ rest) zero = length-map words (λ (w : ℕ). 0)
kept_words zero (words ∷ rest) (suc kind) = kept_words zero rest kind
kept_words (suc k) (words ∷ rest) zero = refl
kept_words (suc k) (words ∷ rest) (suc kind) = kept_words k rest kind

-- ---- the table

none_below : (p : ℕ → Bool) (n : ℕ) → ((s : ℕ) → s < n → p s ≡ false) → any_below n p ≡ false
unfolding any_below
none_below p zero f = refl
none_below p (suc n) f = or_neither (p n) (any_below n p) (f n (omega arith)) (none_below p n (λ s h. f s (omega arith)))

-- no mark of it is one that a load refuses
mark_fine : (k : ℕ) (t : Table) → Valid t → (kind s : ℕ) → kind < 4 → s < 512 → ((leb t.size s || leb k kind) && carried_by (up_to_kind k t.marks) kind s) ≡ false
mark_fine k t v kind s few low = not-true _ (λ h.
    let both = and-true (leb t.size s || leb k kind) (carried_by (up_to_kind k t.marks) kind s) h in
    by_kind both (dec_lt kind k))
  where
    by_kind : ((leb t.size s || leb k kind) ≡ true) × (carried_by (up_to_kind k t.marks) kind s ≡ true) → Dec (kind < k) → ⊥
    by_kind both (yes h) =
        let inside = carried_few t v kind s few low (rw (← carried_kept k t.marks kind s h) both.1) in
        contra both.0 (or_neither (leb t.size s) (leb k kind) (lt-leb t.size s inside.0) (lt-leb k kind h))
    by_kind both (no h) = contra both.1 (carried_dropped k t.marks kind s (omega arith))

marks_fine : (k : ℕ) (t : Table) → Valid t → bad_marks t.size k (up_to_kind k t.marks) ≡ false
unfolding bad_marks
marks_fine k t v = none_below _ 4 (λ kind few. none_below _ 512 (λ s low. mark_fine k t v kind s few low))

-- of a load of it, only the count of kinds and the room can be refused: it is tried as the line is
pub kinds_tried : (k : ℕ) (t : Table) → Valid t → (room : ℕ) → kinds_trial k t room ≡ load_trial (load_from (to_kinds k t)) room
unfolding to_kinds kinds_trial
kinds_tried k t v room =
    sym (fresh_trial (to_kinds k t) (record { size_ok = v.size_ok; start_ok = v.start_ok; marks_ok = marks_fine k t v; few = edges_most t v; inside = v.inside; once = v.once }) room)

-- ---- an accepted line

module _ (k : ℕ) (t : Table) (room : ℕ) (e : kinds_trial k t room ≡ accepted) where
  -- the list has room for the walk on the new layers
  pub kinds_room : t.size * k ≤ room
  unfolding kinds_trial short_room
  kinds_room = ltb-false room (t.size * k) (unheld 11 _ e)

  -- the table that it leaves keeps the limits
  pub valid_kinds : Valid t → Valid (to_kinds k t)
  unfolding to_kinds kinds_trial
  valid_kinds v =
      let fit = kinds_fit k t.size (length t.edges) (unheld 16 _ e) in record {
        size_ok = v.size_ok;
        start_ok = v.start_ok;
        marks_ok = marks_fine k t v;
        some_kind = fit.some;
        four_kinds = fit.four;
        states_few = fit.states;
        moves_few = fit.moves_fit;
        inside = v.inside;
        once = v.once;
      }

  -- a session can hold it: a load accepts it
  pub kinds_arises : Arises t → Arises (to_kinds k t)
  kinds_arises a = fresh_arises (to_kinds k t) (valid_kinds (valid t a))

pub kinds_never_7 : (k : ℕ) (t : Table) (room : ℕ) → kinds_trial k t room ≢ refused 7
unfolding kinds_trial elem
kinds_never_7 k t room = never_handed 7 _ refl
