-- What a call answers and leaves, accepted or refused, and what a list of accepted calls does. Assumes nothing.
use mathlib.Core.Path.{◌≡◌, refl, sym, ap, ◌∙◌}
use mathlib.Core.Logic.{◌≢◌}
use mathlib.Core.List.{List, [], ◌∷◌, ◌++◌, map}
use Prim.Native.Nat.{ℕ, ◌+◌, ◌*◌, ◌-◌, ◌≤◌}
use native.Mathlib.Omega.{arith}
use Rattle.plain.specs.Search.{verdict, count}
use Rattle.plain.specs.Table.{Table, printed_verdict, final}
use Rattle.plain.specs.Refusals.{Trial, accepted, refused}
use Rattle.plain.specs.Machine.{Change, apply, change_trial, apply_all, Update, single, batch, changes_of, applied, update_trial, to_kinds, kinds_trial, Command, update, set_kinds, command_trial, position_for, commanded, kept_by, Answer, refusal, answer, load_answer, after, Call, call_for, kinds_call, trial_of, call_answer, answer_to, table_after, answers}
use Rattle.plain.specs.Claims.{Arises, AllAccepted, CountsRight, totalled, AsFresh, AsLoaded, Reports, table_behind, last_of}
use Rattle.plain.specs.Orders.{asked_by, changes_asked, IsUpdate, Switching, EachAccepted}
use Rattle.plain.proofs.Tables.{valid}
use Rattle.plain.proofs.Fresh.{fresh_table, fresh_answer}
use Rattle.plain.proofs.NewKinds.{kinds_tried, kinds_room, kinds_arises, kinds_never_7}
use Rattle.plain.proofs.Batches.{update_arises, update_size, update_kinds, update_room, update_never_7}
use Rattle.plain.proofs.Demands.{demand_3_kept}

-- ---- what a call may ask for, changes or another count of kinds

-- where it is accepted, it leaves a table that a session can hold
pub command_arises : (c : Command) (t : Table) (room : ℕ) → Arises t → command_trial c t room ≡ accepted → Arises (commanded c t)
command_arises (update u) t room a e = update_arises u t room a e
command_arises (set_kinds k) t room a e = kinds_arises k t room e a

-- the list has room for its walk
command_room : (c : Command) (t : Table) (room : ℕ) → command_trial c t room ≡ accepted → (commanded c t).size * (commanded c t).kinds ≤ room
unfolding to_kinds
command_room (update u) t room e = rw (update_size u t, update_kinds u t) (update_room u t room e)
command_room (set_kinds k) t room e = kinds_room k t room e

-- its looks are right, and add up to those of the search on that table
pub command_counts : (c : Command) (t : Table) (room : ℕ) → Arises t → command_trial c t room ≡ accepted → CountsRight c t (count (final (commanded c t)) - kept_by c t) (kept_by c t)
command_counts (update u) t room a e = demand_3_kept u t room a e
command_counts (set_kinds k) t room a e = (refl, omega arith)

counts_add : (c : Command) (t : Table) (spent kept : ℕ) → CountsRight c t spent kept → kept + spent ≡ count (final (commanded c t))
counts_add (update u) t spent kept r = r.adds_up
counts_add (set_kinds k) t spent kept r = omega (arith, r.0, r.1)

-- it is never refused with 7
pub command_never_7 : (c : Command) (t : Table) (room : ℕ) → command_trial c t room ≢ refused 7
command_never_7 (update u) t room = update_never_7 u t room
command_never_7 (set_kinds k) t room = kinds_never_7 k t room

-- ---- one call

-- what an accepted call answers and leaves
pub answer_accepted : (c : Call) (t : Table) → trial_of c t ≡ accepted
    → answer_to c t ≡ answer (printed_verdict (commanded c.command t) (verdict (final (commanded c.command t)))) (count (final (commanded c.command t)) - kept_by c.command t) (kept_by c.command t)
unfolding answer_to call_answer
answer_accepted c t e = ap (λ (x : Trial). call_answer x c t) e

pub table_accepted : (c : Call) (t : Table) → trial_of c t ≡ accepted → table_after c t ≡ commanded c.command t
unfolding table_after
table_accepted c t e = ap (λ (x : Trial). after x (commanded c.command t) t) e

-- and a refused one
pub answer_refused : (c : Call) (t : Table) (n : ℕ) → trial_of c t ≡ refused n → answer_to c t ≡ refusal (record { number = n; position = position_for c.command t c.room })
unfolding answer_to call_answer
answer_refused c t n e = ap (λ (x : Trial). call_answer x c t) e

pub table_refused : (c : Call) (t : Table) (n : ℕ) → trial_of c t ≡ refused n → table_after c t ≡ t
unfolding table_after
table_refused c t n e = ap (λ (x : Trial). after x (commanded c.command t) t) e

-- an accepted call leaves a table that a session can hold, and its answer tells it
pub after_arises : (c : Call) (t : Table) → Arises t → trial_of c t ≡ accepted → Arises (table_after c t)
unfolding trial_of
after_arises c t a e = rw (table_accepted c t e) (command_arises c.command t c.room a e)

pub after_reports : (c : Call) (t : Table) → Arises t → trial_of c t ≡ accepted → Reports (answer_to c t) (table_after c t)
unfolding trial_of totalled load_answer
after_reports c t a e =
    let t' = commanded c.command t in
    rw (table_accepted c t e)
    (ap totalled (answer_accepted c t e) ∙ ap (λ (n : ℕ). answer (printed_verdict t' (verdict (final t'))) n 0) (counts_add c.command t _ _ (command_counts c.command t c.room a e)))

-- it is answered as a fresh load of the table that it leaves
pub as_fresh : (c : Call) (t : Table) → Arises t → AsFresh c t
unfolding trial_of
as_fresh c t a k =
    let t' = table_after c t in
    fresh_answer t' (valid t' (after_arises c t a k)) c.room (rw (table_accepted c t k) (command_room c.command t c.room k)) ∙ sym (after_reports c t a k)

-- another count of kinds, accepted: nothing is kept and every look is spent, as by a load
pub kinds_answer : (k : ℕ) (t : Table) (room : ℕ) → trial_of (kinds_call room k) t ≡ accepted → answer_to (kinds_call room k) t ≡ load_answer accepted (to_kinds k t)
unfolding load_answer
kinds_answer k t room e =
    let t' = to_kinds k t in
    answer_accepted (kinds_call room k) t e ∙ ap (λ (n : ℕ). answer (printed_verdict t' (verdict (final t'))) n 0) (omega arith)

-- TICKET 10: the line `kinds` is answered as a load of the table that it leaves, refused or not
pub as_loaded : (k : ℕ) (t : Table) (room : ℕ) → Arises t → AsLoaded k t room
unfolding trial_of load_answer
as_loaded k t room a =
    let same = kinds_tried k t (valid t a) room in
    record {
      same_trial = same;
      same_answer = by_trial (kinds_trial k t room) refl ∙ (λ i. load_answer (same i) (sym (fresh_table (to_kinds k t)) i));
      same_table = λ e. table_accepted (kinds_call room k) t e ∙ sym (fresh_table (to_kinds k t));
    }
  where
    by_trial : (x : Trial) → kinds_trial k t room ≡ x → answer_to (kinds_call room k) t ≡ load_answer (kinds_trial k t room) (to_kinds k t)
    by_trial accepted e = kinds_answer k t room e ∙ ap (λ (x : Trial). load_answer x (to_kinds k t)) (sym e)
    by_trial (refused n) e = answer_refused (kinds_call room k) t n e ∙ ap (λ (x : Trial). load_answer x (to_kinds k t)) (sym e)

-- a call that makes one change is accepted where the change is
pub single_trial : (room : ℕ) (c : Change) (t : Table) → trial_of (call_for room c) t ≡ change_trial c t room
unfolding trial_of update_trial
single_trial room c t = refl

pub single_table : (room : ℕ) (c : Change) (t : Table) → change_trial c t room ≡ accepted → table_after (call_for room c) t ≡ apply c t
unfolding applied
single_table room c t e = table_accepted (call_for room c) t (single_trial room c t ∙ e)

-- ---- a list of accepted calls, as their changes

applied_all : (u : Update) (t : Table) → applied u t ≡ apply_all (changes_of u) t
unfolding applied changes_of apply_all
applied_all (single c) t = refl
applied_all (batch xs) t = refl

apply_append : (cs ds : List Change) (t : Table) → apply_all (cs ++ ds) t ≡ apply_all ds (apply_all cs t)
unfolding apply_all
apply_append [] ds t = refl
apply_append (c ∷ cs) ds t = apply_append cs ds (apply c t)

asked_applied : (c : Call) (t : Table) → Switching (c ∷ []) → commanded c.command t ≡ apply_all (asked_by c.command) t
asked_applied c t w = by_command c.command w.0
  where
    by_command : (x : Command) → IsUpdate x → commanded x t ≡ apply_all (asked_by x) t
    by_command (update u) w = applied_all u t
    by_command (set_kinds k) w = absurd w

pub behind_calls : (cs : List Call) (t : Table) → Switching cs → EachAccepted cs t → table_behind cs t ≡ apply_all (changes_asked cs) t
unfolding table_behind changes_asked apply_all
behind_calls [] t w h = refl
behind_calls (c ∷ cs) t w h =
    behind_calls cs (table_after c t) w.1 h.1
    ∙ ap (apply_all (changes_asked cs)) (table_accepted c t h.0 ∙ asked_applied c t (w.0, tt))
    ∙ sym (apply_append (asked_by c.command) (changes_asked cs) t)

-- the last answer of accepted calls tells the table behind them
pub last_told : (cs : List Call) (t : Table) → Arises t → EachAccepted cs t → (before : Answer) → Reports before t → Reports (last_of before (answers cs t)) (table_behind cs t)
unfolding last_of answers table_behind
last_told [] t a h before w = w
last_told (c ∷ cs) t a h before w = last_told cs (table_after c t) (after_arises c t a h.0) h.1 (answer_to c t) (after_reports c t a h.0)

-- a load's answer tells its table
pub fresh_reports : (t : Table) → Reports (load_answer accepted t) t
unfolding totalled load_answer
fresh_reports t = ap (λ (n : ℕ). answer (printed_verdict t (verdict (final t))) n 0) (omega arith)

-- ---- calls that make one change each

pub each_call : (room : ℕ) (cs : List Change) (t : Table) → AllAccepted room cs t → EachAccepted (map (call_for room) cs) t
each_call room [] t h = tt
each_call room (c ∷ cs) t h = (single_trial room c t ∙ h.0, rw (single_table room c t h.0) (each_call room cs (apply c t) h.1))

pub switching_each : (room : ℕ) (cs : List Change) → Switching (map (call_for room) cs)
switching_each room [] = tt
switching_each room (c ∷ cs) = (tt, switching_each room cs)

pub asked_each : (room : ℕ) (cs : List Change) → changes_asked (map (call_for room) cs) ≡ cs
unfolding changes_asked changes_of
asked_each room [] = refl
asked_each room (c ∷ cs) = ap (λ (ds : List Change). c ∷ ds) (asked_each room cs)
