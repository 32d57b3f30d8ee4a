-- What is asked of a session, as the lines that are tried on its arrays: they come to what the plain table comes to. Assumes nothing.
use mathlib.Core.Path.{◌≡◌, refl, sym, ap, subst⁻¹, ◌∙◌}
use mathlib.Core.Bool.{Bool, true, false, cond}
use mathlib.Core.List.{List, [], ◌∷◌, map}
use Prim.Native.Nat.{ℕ}
use native.Mathlib.Omega.{arith}
use lib.Dec.{eqb, ltb}
use borrow.Author.Tests.{le-leb}
use Rattle.std.specs.Prelude.{is_some}
use Rattle.plain.specs.Table.{Table}
use Rattle.plain.specs.Refusals.{accepted, refused, first_held, beyond, room_condition}
use Rattle.plain.specs.Machine.{Change, add, cut, mark, unmark, misnamed, BatchLine as PlainLine, makes, Update as PlainUpdate, single, batch, changes_of, applied, update_trial, position_in}
use Rattle.plain.proofs.Trials.{held_first, held_later}
use Rattle.plain.proofs.Tables.{Valid}
use Rattle.plain.proofs.Batches.{batch_made}
use Rattle.batch.specs.declared.Update.{Update}
use Rattle.table.specs.declared.Position.TheVariants as Position
use Rattle.table.specs.Trials.{change_of, add_conditions, cut_conditions, mark_conditions, unmark_conditions}
use Rattle.table.specs.declared.Arrays.{Arrays}
use Rattle.table.specs.Filing.{Stored}
use Rattle.batch.specs.Batches.{lines_in, numbers_in, line_trial_in, TriedIn, ahead_trial, call_tried_in, position_at}
use Rattle.table.proofs.Pairs.{outside_from}
use Rattle.batch.proofs.Batches.{line_makes, tried_stop, call_on_lem, call_stop, batch_same, batch_stored, single_same, single_stored}
use Rattle.verdict.specs.declared.Answer.TheVariants.{Refused}
use Rattle.verdict.specs.Answers.{refusing, position_of}
use Rattle.session.specs.Model.{alone_line}
use Rattle.session.specs.Promises.{update_of, without_game}

-- lines that are tried alone or as a batch, and what is asked of the plain table
pub record Asks (u : PlainUpdate) (alone : Bool) (xs : List PlainLine) : Type 0 where
  pub same : (t : Table) → Valid t → (a : Arrays) → Stored t a → (room : ℕ) → (call_tried_in alone xs t.size t.kinds a room).trial ≡ update_trial u t room
  pub position : (t : Table) → Valid t → (a : Arrays) → Stored t a → (room : ℕ) → position_of (position_at alone (call_tried_in alone xs t.size t.kinds a room).position) ≡ position_in u t room
  pub stored : (t : Table) → Valid t → (a : Arrays) → Stored t a → (room : ℕ) → update_trial u t room ≡ accepted → Stored (applied u t) (call_tried_in alone xs t.size t.kinds a room).arrays
  pub lines_are : (t : Table) (room : ℕ) → update_trial u t room ≡ accepted → xs ≡ map makes (changes_of u)
  -- without a state, of so many kinds
  pub none : (kinds : ℕ) (a : Arrays) (room : ℕ) → (call_tried_in alone xs 0 kinds a room).trial ≡ refused (without_game kinds u).number
  pub refusal_is : (kinds : ℕ) (a : Arrays) (room : ℕ) → refusing (without_game kinds u).number (position_at alone (call_tried_in alone xs 0 kinds a room).position) ≡ Refused (without_game kinds u)

-- without a state, each change names one outside, unless its kind is refused ahead of that
kinds_first : (first second third : Bool) (behind : List (ℕ × Bool)) → third ≡ true
    → first_held ((1, first) ∷ (15, false) ∷ (4, second) ∷ (6, third) ∷ behind) ≡ refused (cond first 1 (cond second 4 6))
unfolding first_held
kinds_first true second third behind e = refl
kinds_first false true third behind e = refl
kinds_first false false third behind e = held_first (6, third) behind e

line_out : (c : Change) (kinds : ℕ) (a : Arrays) (room : ℕ) → line_trial_in 1 (makes c) 0 kinds a room ≡ refused (without_game kinds (single c)).number
unfolding add_conditions cut_conditions mark_conditions unmark_conditions beyond misnamed
line_out (add e) kinds a room = held_later (1, false) _ refl ∙ held_later (15, false) _ refl ∙ held_first _ _ (outside_from e.0 e.1 0 (omega arith))
line_out (cut e) kinds a room = held_later (1, false) _ refl ∙ held_later (15, false) _ refl ∙ held_first _ _ (outside_from e.0 e.1 0 (omega arith))
line_out (mark s kind) kinds a room = kinds_first _ (ltb kinds kind) _ _ (le-leb 0 s (omega arith))
line_out (unmark s kind) kinds a room = kinds_first _ (ltb kinds kind) _ _ (le-leb 0 s (omega arith))

pub asks_single : (c : Change) → Asks (single c) true (makes c ∷ [])
unfolding update_trial position_in applied changes_of ahead_trial
asks_single c = record {
  same = λ t v a f room. single_same t v a f c room;
  position = λ t v a f room. refl;
  stored = λ t v a f room e. single_stored t v a f c room e;
  lines_are = λ t room e. refl;
  none = λ kinds a room. ap (λ (w : TriedIn). w.trial) (call_on_lem true (makes c ∷ []) 0 kinds a room refl ∙ tried_stop 1 (makes c) [] 0 kinds a room _ (line_out c kinds a room));
  refusal_is = λ kinds a room. refl;
}

pub asks_batch : (xs : List PlainLine) → Asks (batch xs) false xs
unfolding update_trial position_in applied changes_of ahead_trial
asks_batch xs = record {
  same = λ t v a f room. (batch_same t v a f xs room).0;
  position = λ t v a f room. ap (λ (i : ℕ). position_of (Position.Line i)) (batch_same t v a f xs room).1;
  stored = λ t v a f room e. batch_stored t v a f xs room e;
  lines_are = λ t room e. sym (batch_made xs t room e).0;
  none = λ kinds a room. ap (λ (w : TriedIn). w.trial) (call_stop false xs 0 kinds a room 2 (ahead kinds room));
  refusal_is = λ kinds a room. ap (λ (w : TriedIn). refusing 2 (Position.Line w.position)) (call_stop false xs 0 kinds a room 2 (ahead kinds room));
}
  where
    ahead : (kinds room : ℕ) → ahead_trial false 0 kinds room ≡ refused 2
    ahead kinds room = held_first (2, eqb 0 0) (room_condition 0 kinds room) refl

-- as the session is asked
pub asked_so : (asked : Update) (ns : List ℕ) → Asks (update_of asked ns) (is_some (alone_line asked)) (lines_in (numbers_in (alone_line asked) ns))
unfolding lines_in
asked_so (Update.Change op) ns = subst⁻¹ (λ (x : PlainLine). Asks (single (change_of op)) true (x ∷ [])) (line_makes op) (asks_single (change_of op))
asked_so Update.Batch ns = asks_batch (lines_in ns)
