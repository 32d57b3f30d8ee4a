-- Ticket 10: another count of kinds is tried on the arrays as on the plain table, and the arrays that it leaves hold the table with that count. Assumes nothing.
use mathlib.Core.Path.{◌≡◌, sym, ap, ◌∙◌}
use mathlib.Core.List.{List, ◌∷◌}
use Prim.Native.Nat.{ℕ, ◌*◌, min}
use native.Mathlib.Omega.{arith}
use borrow.Author.Tests.{ne_eqb}
use Rattle.plain.specs.Table.{Table}
use Rattle.plain.specs.Refusals.{accepted, first_held, bad_kinds, room_condition}
use Rattle.plain.specs.Machine.{to_kinds, kinds_trial}
use Rattle.plain.proofs.Trials.{held_later}
use Rattle.plain.proofs.Tables.{Valid, carried_few}
use Rattle.plain.proofs.NewKinds.{kept_kinds, kept_words, valid_kinds}
use Rattle.plain.proofs.Demands.{inside_game}
use Rattle.layers.specs.Packed.{ClearedFrom}
use Rattle.layers.proofs.Clearing.{packed_kinds}
use Rattle.table.specs.Trials.{kinds_trial_in}
use Rattle.table.specs.declared.Arrays.{Arrays}
use Rattle.table.specs.Filing.{Stored, with_words}

module _ (k : ℕ) (t : Table) (ok : Valid t) (a : Arrays) (s : Stored t a) where
  pub kinds_trial_is : (room : ℕ) → kinds_trial k t room ≡ kinds_trial_in k t.size a.rows.starts room
  unfolding kinds_trial kinds_trial_in
  kinds_trial_is room =
      ap (λ (n : ℕ). first_held ((16, bad_kinds k t.size n) ∷ room_condition t.size k room)) (sym s.filed.count_is)
      ∙ sym (held_later _ _ (ne_eqb t.size 0 (λ z. omega (arith, (inside_game t ok).begins))))

  pub stored_kinds : (words : List ℕ) (room : ℕ) → kinds_trial k t room ≡ accepted → ClearedFrom (min t.kinds k * t.size) a.words words → Stored (to_kinds k t) (with_words a words)
  unfolding to_kinds
  stored_kinds words room e c =
      let new = valid_kinds k t room e ok in
      record {
        filed = s.filed;
        packed = packed_kinds t.size t.kinds k t.marks a.words words new.some_kind new.four_kinds new.states_few (λ kind x few low h. (carried_few t ok kind x few low h).1) s.packed c;
        form = record { four = kept_kinds k t.marks ∙ s.form.four; eight = λ kind h. kept_words k t.marks kind ∙ s.form.eight kind h };
        counted = s.counted;
      }
