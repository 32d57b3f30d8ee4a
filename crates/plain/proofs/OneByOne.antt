-- Ticket 5: an accepted batch and its changes made one by one; a batch of one change and that change. Assumes nothing.
use mathlib.Core.Path.{◌≡◌, refl, sym, ap, ◌∙◌}
use mathlib.Core.Logic.{inr, ⊎_elim}
use mathlib.Core.Bool.{Bool, true, false, ◌&&◌, ◌||◌, not}
use mathlib.Core.List.{List, [], ◌∷◌, ◌++◌, append-nil, map}
use Prim.Native.Nat.{ℕ, zero, suc, ◌+◌, ◌*◌, ◌-◌, ◌≤◌}
use native.Mathlib.Omega.{arith}
use lib.ListN.{length, take, length-map}
use lib.Seq.{take_all}
use borrow.Author.Tests.{le-ltb, not-true as untrue}
use Rattle.plain.specs.Lists.{any, all}
use Rattle.plain.specs.Search.{meets, verdict, count}
use Rattle.plain.specs.Table.{Table, searched, copies_in, printed_verdict, budget, final, first_meeting}
use Rattle.plain.specs.Refusals.{Trial, accepted, refused, first_held, short_room, room_condition}
use Rattle.plain.specs.Machine.{Change, named, apply, conditions, misnamed, change_trial, BatchLine, makes, line_conditions, BatchTrial, changes_in, apply_all, named_all, lines_trial, batch_trial, single, batch, changes_of, applied, named_by, update_trial, position_in, at_line, unexplored, passed_over, keeps_all, kept_part, kept, refusal, answer, call_for, batch_call, trial_of, answer_to, table_after}
use Rattle.plain.specs.Notes.{notes}
use Rattle.plain.specs.Claims.{Arises, OneByOne, AsOne}
use Rattle.plain.proofs.Tests.{either}
use Rattle.plain.proofs.Trials.{held_first, held_later, accepted_when, last_free}
use Rattle.plain.proofs.Tables.{Valid, Within, change_within, valid, valid_change, room_enough}
use Rattle.plain.proofs.Resume.{holds_notes}
use Rattle.plain.proofs.Batches.{accepted_not, line_accepted, line_refused, line_few, batch_tried, batch_short, batch_few, batch_made}
use Rattle.plain.proofs.Demands.{ended_within, kept_all, kept_meeting, update_same}
use Rattle.plain.proofs.Calls.{table_accepted, answer_accepted, answer_refused, table_refused, single_trial, single_table, behind_calls, after_reports, last_told, each_call, switching_each, asked_each}

-- ---- one by one

batch_accepted : (room : ℕ) (xs : List BatchLine) (t : Table) → trial_of (batch_call room xs) t ≡ accepted → (batch_trial xs t room).trial ≡ accepted
unfolding trial_of update_trial
batch_accepted room xs t e = e

batch_table : (room : ℕ) (xs : List BatchLine) (t : Table) → trial_of (batch_call room xs) t ≡ accepted → table_after (batch_call room xs) t ≡ apply_all (changes_in xs) t
unfolding applied
batch_table room xs t e = table_accepted (batch_call room xs) t e

-- THE THEOREM of an accepted batch
pub one_by_one : (xs : List BatchLine) (t : Table) (room : ℕ) → Arises t → trial_of (batch_call room xs) t ≡ accepted → OneByOne xs t room
one_by_one xs t room a e =
    let h = (batch_made xs t room (batch_accepted room xs t e)).1 in
    let each = each_call room (changes_in xs) t h in
    let same = behind_calls (map (call_for room) (changes_in xs)) t (switching_each room (changes_in xs)) each ∙ ap (λ (cs : List Change). apply_all cs t) (asked_each room (changes_in xs)) ∙ sym (batch_table room xs t e) in
    record {
      each_accepted = h;
      same_table = same;
      batch_tells = after_reports (batch_call room xs) t a e;
      last_tells = λ before w. rw (← same) (last_told (map (call_for room) (changes_in xs)) t a each before w);
    }

-- ---- a batch of one change

module _ (c : Change) (t : Table) (room : ℕ) where
  abbrev only : List BatchLine
  only = makes c ∷ []

  -- where there is room, its line's own refusals decide, in the batch as alone
  own_trial : first_held (room_condition t.size t.kinds room) ≡ accepted → change_trial c t room ≡ first_held (line_conditions 1 (makes c) t)
  unfolding change_trial line_conditions
  own_trial r = by_kind (misnamed c) refl
    where
      by_kind : (b : Bool) → misnamed c ≡ b → first_held ((1, b) ∷ (conditions c t ++ room_condition t.size t.kinds room)) ≡ first_held ((1, b) ∷ (15, false) ∷ conditions c t)
      by_kind true e = held_first _ _ refl ∙ sym (held_first _ _ refl)
      by_kind false e = held_later _ _ refl ∙ last_free (conditions c t) (room_condition t.size t.kinds room) r ∙ sym (held_later (15, false) (conditions c t) refl) ∙ sym (held_later _ _ refl)

  -- so the batch comes to what the change comes to, at position 1 where it is refused
  one_tried : first_held (room_condition t.size t.kinds room) ≡ accepted → (w : Trial) → change_trial c t room ≡ w
      → ((batch_trial only t room).trial ≡ w) × ((n : ℕ) → w ≡ refused n → (batch_trial only t room).position ≡ 1)
  unfolding lines_trial
  one_tried r accepted e =
      let z : batch_trial only t room ≡ record { trial = accepted; position = 2 } = batch_tried only t room r ∙ line_accepted 1 (makes c) [] t (sym (own_trial r) ∙ e) in
      (ap (λ (b : BatchTrial). b.trial) z, λ n k. absurd (accepted_not n (sym k)))
  one_tried r (refused m) e =
      let z = batch_tried only t room r ∙ line_refused 1 (makes c) [] t m (sym (own_trial r) ∙ e) in
      (ap (λ (b : BatchTrial). b.trial) z, λ n k. ap (λ (b : BatchTrial). b.position) z)

  -- the states named and the table left are the same
  one_named : named_by (batch only) ≡ named_by (single c)
  unfolding named_by changes_in named_all
  one_named = append-nil (named c)

  one_applied : applied (batch only) t ≡ applied (single c) t
  unfolding applied changes_in apply_all
  one_applied = refl

  one_keeps : keeps_all (batch only) t ≡ (passed_over c t && true)
  unfolding keeps_all changes_in all
  one_keeps = refl

  alone_keeps : keeps_all (single c) t ≡ unexplored c t
  unfolding keeps_all
  alone_keeps = refl

  -- and so is what is kept: a change of marks that is passed over keeps all alone too, since its state is never met
  one_kept : Valid t → Valid (apply c t) → Within c t.size → kept_part (batch only) t ≡ kept_part (single c) t
  unfolding passed_over applied final changes_of named_by
  one_kept v v' within = ⊎_elim passed (λ f. ⊎_elim (unmet f) (met f) (either (not (meets (copies_in t (named c)) (final t))))) (either (unexplored c t))
    where
      all_batch : passed_over c t ≡ true → kept_part (batch only) t ≡ final (applied (single c) t)
      all_batch p = kept_all (batch only) t (one_keeps ∙ ap (λ (b : Bool). b && true) p) ∙ ap final one_applied

      passed : unexplored c t ≡ true → kept_part (batch only) t ≡ kept_part (single c) t
      passed k = all_batch (ap (λ (b : Bool). b || not (meets (copies_in t (named c)) (final t))) k) ∙ sym (kept_all (single c) t (alone_keeps ∙ k))

      unmet : unexplored c t ≡ false → not (meets (copies_in t (named c)) (final t)) ≡ true → kept_part (batch only) t ≡ kept_part (single c) t
      unmet f k =
          all_batch (ap (λ (b : Bool). b || not (meets (copies_in t (named c)) (final t))) f ∙ k)
          ∙ sym (update_same (single c) t v v' (within, tt) (budget t) (ended_within t v (budget t) (omega arith)) (notes (searched t) (budget t)) (inr (untrue (meets (copies_in t (named c)) (final t)) k)) (holds_notes (searched t) (budget t))).all_kept

      met : unexplored c t ≡ false → not (meets (copies_in t (named c)) (final t)) ≡ false → kept_part (batch only) t ≡ kept_part (single c) t
      met f k =
          kept_meeting (batch only) t (one_keeps ∙ ap (λ (b : Bool). (b || not (meets (copies_in t (named c)) (final t))) && true) f ∙ ap (λ (b : Bool). b && true) k)
          ∙ (λ i. first_meeting (one_named i) (one_applied i)) ∙ sym (kept_meeting (single c) t (alone_keeps ∙ f))

  pub roomy : t.size * t.kinds ≤ room → first_held (room_condition t.size t.kinds room) ≡ accepted
  unfolding short_room any
  roomy h = held_later _ _ (le-ltb room (t.size * t.kinds) h) ∙ accepted_when [] refl

  -- the call of the batch is refused where the batch is, at its position
  one_call : (n : ℕ) → (batch_trial only t room).trial ≡ refused n
      → answer_to (batch_call room only) t ≡ refusal (record { number = n; position = at_line (batch_trial only t room).position })
  unfolding trial_of update_trial position_in
  one_call n e = answer_refused (batch_call room only) t n e

  -- where the change is refused, alone it leaves the table as it was, and so does the batch: with its own number, or with 11
  one_refused : (n : ℕ) → change_trial c t room ≡ refused n → table_after (batch_call room only) t ≡ t
  unfolding trial_of update_trial
  one_refused n e = by_room (first_held (room_condition t.size t.kinds room)) refl
    where
      by_room : (w : Trial) → first_held (room_condition t.size t.kinds room) ≡ w → table_after (batch_call room only) t ≡ t
      by_room accepted k = table_refused (batch_call room only) t n (one_tried k (refused n) e).0
      by_room (refused m) k = table_refused (batch_call room only) t m (ap (λ (b : BatchTrial). b.trial) (batch_short only t room m k))

  one_accepted : change_trial c t room ≡ accepted → trial_of (batch_call room only) t ≡ accepted
  unfolding trial_of update_trial
  one_accepted e = (one_tried (roomy (room_enough c t room e)) accepted e).0

  one_table : (w : Trial) → change_trial c t room ≡ w → table_after (batch_call room only) t ≡ table_after (call_for room c) t
  unfolding applied changes_in apply_all
  one_table accepted e = batch_table room only t (one_accepted e) ∙ sym (single_table room c t e)
  one_table (refused n) e = one_refused n e ∙ sym (table_refused (call_for room c) t n (single_trial room c t ∙ e))

  -- THE THEOREM of a batch of one change
  pub as_one : Arises t → AsOne c t room
  unfolding trial_of update_trial applied kept
  as_one a = record {
    same_number = λ h. (one_tried (roomy h) (change_trial c t room) refl).0;
    position_1 = λ h n e.
        let w = one_tried (roomy h) (refused n) e in
        one_call n w.0 ∙ ap (λ (i : ℕ). refusal (record { number = n; position = at_line i })) (w.1 n refl);
    same_answer = λ e.
        let v = valid t a in
        let k : kept (batch only) t ≡ kept (single c) t = ap count (one_kept v (valid_change c t room v e) (change_within c t room e)) in
        answer_accepted (batch_call room only) t (one_accepted e)
        ∙ (λ i. answer (printed_verdict (one_applied i) (verdict (final (one_applied i)))) (count (final (one_applied i)) - k i) (k i))
        ∙ sym (answer_accepted (call_for room c) t e);
    same_table = one_table (change_trial c t room) refl;
  }

-- ---- lines behind the 65th are not looked at

lines_held_lem : (k i : ℕ) (xs : List BatchLine) (t : Table) → i ≤ 65 → 66 ≤ i + k → lines_trial i (take k xs) t ≡ lines_trial i xs t
lines_held_lem zero i xs t h m = absurd (omega arith)
lines_held_lem (suc k) i [] t h m = refl
lines_held_lem (suc k) i (x ∷ xs) t h m = by_trial (first_held (line_conditions i x t)) refl (lines_held_lem k (suc i) xs (apply_all (changes_in (x ∷ [])) t))
  where
    by_trial : (w : Trial) → first_held (line_conditions i x t) ≡ w
        → (suc i ≤ 65 → 66 ≤ suc i + k → lines_trial (suc i) (take k xs) (apply_all (changes_in (x ∷ [])) t) ≡ lines_trial (suc i) xs (apply_all (changes_in (x ∷ [])) t))
        → lines_trial i (x ∷ take k xs) t ≡ lines_trial i (x ∷ xs) t
    by_trial accepted e below =
        line_accepted i x (take k xs) t e ∙ below (omega (arith, line_few i x t e)) (omega arith) ∙ sym (line_accepted i x xs t e)
    by_trial (refused n) e below = line_refused i x (take k xs) t n e ∙ sym (line_refused i x xs t n e)

batch_held : (xs : List BatchLine) (t : Table) (room : ℕ) → batch_trial (take 65 xs) t room ≡ batch_trial xs t room
batch_held xs t room = by_room (first_held (room_condition t.size t.kinds room)) refl
  where
    by_room : (w : Trial) → first_held (room_condition t.size t.kinds room) ≡ w → batch_trial (take 65 xs) t room ≡ batch_trial xs t room
    by_room accepted k = batch_tried (take 65 xs) t room k ∙ lines_held_lem 65 1 xs t (omega arith) (omega arith) ∙ sym (batch_tried xs t room k)
    by_room (refused n) k = batch_short (take 65 xs) t room n k ∙ sym (batch_short xs t room n k)

-- an accepted batch has no line there
held_whole : (xs : List BatchLine) (t : Table) (room : ℕ) → (batch_trial xs t room).trial ≡ accepted → take 65 xs ≡ xs
held_whole xs t room e =
    take_all 65 xs (omega (arith, ap length (batch_made xs t room e).0, length-map (changes_in xs) makes, batch_few xs t room e))

-- so the first 65 are answered as the whole batch, and leave the same table
pub held_call : (xs : List BatchLine) (t : Table) (room : ℕ)
    → (answer_to (batch_call room (take 65 xs)) t ≡ answer_to (batch_call room xs) t) × (table_after (batch_call room (take 65 xs)) t ≡ table_after (batch_call room xs) t)
unfolding trial_of update_trial position_in
held_call xs t room = by_trial (batch_trial xs t room).trial refl
  where
    first : (batch_trial (take 65 xs) t room).trial ≡ (batch_trial xs t room).trial
    first = ap (λ (b : BatchTrial). b.trial) (batch_held xs t room)

    by_trial : (w : Trial) → (batch_trial xs t room).trial ≡ w
        → (answer_to (batch_call room (take 65 xs)) t ≡ answer_to (batch_call room xs) t) × (table_after (batch_call room (take 65 xs)) t ≡ table_after (batch_call room xs) t)
    by_trial accepted e = let z = held_whole xs t room e in (ap (λ (l : List BatchLine). answer_to (batch_call room l) t) z, ap (λ (l : List BatchLine). table_after (batch_call room l) t) z)
    by_trial (refused n) e = (
      answer_refused (batch_call room (take 65 xs)) t n (first ∙ e)
          ∙ ap (λ (b : BatchTrial). refusal (record { number = n; position = at_line b.position })) (batch_held xs t room)
          ∙ sym (answer_refused (batch_call room xs) t n e),
      table_refused (batch_call room (take 65 xs)) t n (first ∙ e) ∙ sym (table_refused (batch_call room xs) t n e),
    )
