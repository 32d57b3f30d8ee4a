-- A change of the table: its trial is the plain table's, and the arrays that it leaves hold the changed table. Assumes nothing.
use mathlib.Core.Path.{◌≡◌, refl, sym, ap, subst, subst⁻¹, ◌∙◌}
use mathlib.Core.Logic.{⊎_elim}
use mathlib.Core.Bool.{Bool, true, false, not}
use mathlib.Core.List.{List, [], ◌∷◌, ◌++◌}
use Prim.Native.Nat.{ℕ, suc, ◌+◌, ◌*◌, ◌-◌, ◌/◌, ◌≤◌, ◌<◌}
use native.Mathlib.Nat.{mul-le-mul_left}
use native.Mathlib.Omega.{arith}
use lib.Dec.{eqb, ltb}
use lib.ListN.{length, get_or, take, drop, length-set}
use lib.Seq.{get_or-set_same, get_or-set_other}
use borrow.Author.Tests.{ltb-true, ltb-false, leb-false, eqb-true, eqb-false, not-false}
use Rattle.plain.specs.Lists.{Once}
use Rattle.plain.specs.Search.{Edge}
use Rattle.plain.specs.Table.{Table, carried_by, row, with_mark, without_mark}
use Rattle.plain.specs.Refusals.{accepted, first_held, present, outside, beyond, full, room_condition}
use Rattle.plain.specs.Machine.{without, with_marks, in_kind, apply, conditions, change_trial}
use Rattle.plain.proofs.Tests.{either}
use Rattle.plain.proofs.Rows.{row_once, row_cut, row_cut_other, without_length, but, but_yes, but_no, but_none}
use Rattle.plain.proofs.Trials.{unheld}
use Rattle.plain.proofs.Tables.{Valid, inside_both}
use Rattle.rows.specs.Rows.{row_at, degree_at, place_of, Tabled}
use Rattle.rows.specs.declared.Rows.{Rows}
use Rattle.rows.specs.Change.{removed}
use Rattle.rows.proofs.Entries.{row_length}
use Rattle.rows.proofs.Change.{removes_edge, inserted_lengths, removed_lengths}
use Rattle.table.specs.declared.Op.{Op}
use Rattle.table.specs.declared.Op.TheVariants.{Add, Cut, Mark, Unmark}
use Rattle.table.specs.Trials.{Sized, change_of, there, carries_in, add_conditions, cut_conditions, mark_conditions, unmark_conditions, conditions_in, trial_in}
use Rattle.table.specs.declared.Arrays.{Arrays}
use Rattle.table.specs.Filing.{named_by, filed_in, Filed, Counted, FourKinds, Stored}
use Rattle.layers.specs.Packed.{Packed}
use Rattle.layers.proofs.Marking.{packed_bit, packed_mark, packed_unmark}
use Rattle.table.proofs.Places.{place_hit, place_miss}
use Rattle.table.proofs.Filing.{there_present, filed_insert}
use Rattle.table.proofs.Counting.{recounted_length, counted_more, counted_fewer}

rows_of : {a b : Arrays} → a ≡ b → a.rows ≡ b.rows
rows_of e = λ i. (e i).rows

-- the arrays keep their lengths
filed_counts : (op : Op) (size : ℕ) (a : Arrays) → length (filed_in op size a).indegree ≡ length a.indegree
filed_counts (Add from to) size a = recounted_length true to a.indegree
filed_counts (Cut from to) size a = recounted_length false to a.indegree
filed_counts (Mark state kind) size a = refl
filed_counts (Unmark state kind) size a = refl

filed_tabled : (op : Op) (size : ℕ) (a a' : Arrays) → a' ≡ filed_in op size a → Tabled a.rows.targets a.rows.starts → Tabled a'.rows.targets a'.rows.starts
filed_tabled (Add from to) size a a' e l = inserted_lengths size from to a.rows a'.rows (rows_of e) l
filed_tabled (Cut from to) size a a' e l = removed_lengths size from _ a.rows a'.rows (rows_of e) l
filed_tabled (Mark state kind) size a a' e l = subst⁻¹ (λ (r : Rows). Tabled r.targets r.starts) (rows_of e) l
filed_tabled (Unmark state kind) size a a' e l = subst⁻¹ (λ (r : Rows). Tabled r.targets r.starts) (rows_of e) l

pub filed_sized : (op : Op) (size : ℕ) (a a' : Arrays) → a' ≡ filed_in op size a → Sized a → Sized a'
filed_sized op size a a' e l = (filed_tabled op size a a' e l.0, ap (λ (b : Arrays). length b.indegree) e ∙ filed_counts op size a ∙ l.1)

-- the state that an accepted change names
pub named_below : (op : Op) (t : Table) (room : ℕ) → change_trial (change_of op) t room ≡ accepted → named_by op < t.size
unfolding change_trial conditions beyond
named_below (Add from to) t room e = (inside_both t.size (from, to) (unheld 6 _ e)).0
named_below (Cut from to) t room e = (inside_both t.size (from, to) (unheld 6 _ e)).0
named_below (Mark state kind) t room e = leb-false t.size state (unheld 6 _ e)
named_below (Unmark state kind) t room e = leb-false t.size state (unheld 6 _ e)

-- taking out the entry at its place takes out the entry
remove_place : (y : ℕ) (xs : List ℕ) → Once xs → place_of y xs < length xs → take (place_of y xs) xs ++ drop (suc (place_of y xs)) xs ≡ but y xs
remove_place y [] o h = absurd (omega arith)
remove_place y (x ∷ xs) o h = ⊎_elim
    (λ e. let z : y ≡ x = eqb-true y x e in
    ap (λ (k : ℕ). take k (x ∷ xs) ++ drop (suc k) (x ∷ xs)) (place_hit y x xs e) ∙ sym (but_yes y x xs e ∙ but_none y xs (rw z o.0)))
    (λ e. ap (λ (k : ℕ). take k (x ∷ xs) ++ drop (suc k) (x ∷ xs)) (place_miss y x xs e)
    ∙ ap (λ (l : List ℕ). x ∷ l) (remove_place y xs o.1 (omega (arith, place_miss y x xs e))) ∙ sym (but_no y x xs e)) (either (eqb y x))

-- ---- rows that hold a table's edges

module _ (t : Table) (before : Rows) (f : Filed t.size t.edges before) where
  present_here : (v y : ℕ) → there before.targets before.starts v y ≡ present t.edges (v, y)
  present_here v y = there_present before.targets before.starts t.edges v y (f.rows_are v)

  module _ (rows : Rows) where
    -- either way another state's row is as it was
    other_rows : (e : Edge) (es : List Edge) → ((u : ℕ) → (u ≡ e.0 → ⊥) → row_at rows.targets rows.starts u ≡ row_at before.targets before.starts u)
        → row_at rows.targets rows.starts e.0 ≡ row es e.0 → ((u : ℕ) → eqb e.0 u ≡ false → row es u ≡ row t.edges u)
        → (v : ℕ) → row_at rows.targets rows.starts v ≡ row es v
    other_rows e es o here same v = ⊎_elim
        (λ z. let y : e.0 ≡ v = eqb-true e.0 v z in rw (← y) here)
        (λ z. o v (λ y. eqb-false e.0 v z (sym y)) ∙ f.rows_are v ∙ sym (same v z)) (either (eqb e.0 v))

    -- a cut edge's row holds the others
    filed_remove : Valid t → (from to : ℕ) → from < t.size → present t.edges (from, to) ≡ true
        → rows ≡ removed t.size from (place_of to (row_at before.targets before.starts from)) before
        → Filed t.size (without (from, to) t.edges) rows
    filed_remove valid from to below is new =
        let place : place_of to (row_at before.targets before.starts from) < degree_at before.starts from = ltb-true _ _ (present_here from to ∙ is) in
        let i = removes_edge t.size from _ before rows new f.compressed below place in
        let size : length (row_at before.targets before.starts from) ≡ degree_at before.starts from = row_length before.targets before.starts from in
        let once : Once (row_at before.targets before.starts from) = subst (λ (l : List ℕ). Once l) (sym (f.rows_are from)) (row_once t.edges from valid.once) in
        record {
          compressed = i.rows.compressed;
          rows_are = other_rows (from, to) (without (from, to) t.edges) i.rows.others
              (i.rows.here ∙ remove_place to (row_at before.targets before.starts from) once (omega arith) ∙ ap (but to) (f.rows_are from) ∙ sym (row_cut t.edges (from, to))) (λ u z. row_cut_other t.edges (from, to) u z);
          count_is = omega (arith, i.count, f.count_is, without_length t.edges (from, to) valid.once is);
        }

-- ---- the conditions of a mark

-- a condition counts only where those ahead of it do not hold
shielded : (m n k : ℕ) (a b x y : Bool) (rest : List (ℕ × Bool)) → (a ≡ false → b ≡ false → x ≡ y)
    → first_held ((m, a) ∷ (n, b) ∷ (k, x) ∷ rest) ≡ first_held ((m, a) ∷ (n, b) ∷ (k, y) ∷ rest)
unfolding first_held
shielded m n k true b x y rest h = refl
shielded m n k false true x y rest h = refl
shielded m n k false false x y rest h = ap (λ (z : Bool). first_held ((k, z) ∷ rest)) (h refl refl)

-- marks keep their form where as many words are left
four_switched : (marks : List (List ℕ)) (kind : ℕ) (f : List ℕ → List ℕ) → ((ws : List ℕ) → length (f ws) ≡ length ws) → FourKinds marks → FourKinds (in_kind kind f marks)
unfolding in_kind
four_switched marks kind f keeps h = record {
  four = length-set marks kind _ ∙ h.four;
  eight = λ j b. ⊎_elim
      (λ e. let z : j ≡ kind = eqb-true j kind e in
      rw z (ap length (get_or-set_same marks kind _ [] (omega (arith, h.four))) ∙ keeps (get_or marks kind []) ∙ ap (λ (i : ℕ). length (get_or marks i [])) (sym z) ∙ h.eight j b))
      (λ e. ap length (get_or-set_other marks kind j _ [] (eqb-false j kind e)) ∙ h.eight j b) (either (eqb j kind));
}

-- ---- arrays that hold a table

module _ (t : Table) (valid : Valid t) (before : Arrays) (f : Stored t before) where
  -- a kind that is not above those in use is one of them
  in_use : (kind : ℕ) → ltb t.kinds kind ≡ false → kind - 1 < t.kinds
  in_use kind e = omega (arith, ltb-false t.kinds kind e, valid.some_kind)

  -- whether a state carries a kind in use is read off its copy's bit
  carries_here : (state kind : ℕ) → ltb t.kinds kind ≡ false → beyond t.size state ≡ false → carries_in t.size before.words state kind ≡ carried_by t.marks (kind - 1) state
  unfolding beyond
  carries_here state kind e b =
      packed_bit t.size t.kinds t.marks before.words (kind - 1) state (in_use kind e) (leb-false t.size state b) f.packed

  -- the conditions read off the arrays decide as the table's do, whatever comes behind them
  pub conditions_same : (op : Op) (rest : List (ℕ × Bool)) → first_held (conditions_in op t.size t.kinds before.rows before.words ++ rest) ≡ first_held (conditions (change_of op) t ++ rest)
  unfolding add_conditions cut_conditions mark_conditions unmark_conditions conditions full
  conditions_same (Add from to) rest = λ i. first_held (
      (6, outside t.size (from, to)) ∷ (8, present_here t before.rows f.filed from to i) ∷ (9, ltb 2048 ((f.filed.count_is i + 1) * t.kinds)) ∷ rest)
  conditions_same (Cut from to) rest = λ i. first_held ((6, outside t.size (from, to)) ∷ (10, not (present_here t before.rows f.filed from to i)) ∷ rest)
  conditions_same (Mark state kind) rest = shielded 4 6 13 _ _ _ _ rest (carries_here state kind)
  conditions_same (Unmark state kind) rest = shielded 4 6 14 _ _ _ _ rest (λ e b. ap not (carries_here state kind e b))

  -- and so is the trial, behind that of its kind
  pub trial_same : (op : Op) (room : ℕ) → trial_in op t.size t.kinds before.rows before.words room ≡ first_held (conditions (change_of op) t ++ room_condition t.size t.kinds room)
  unfolding trial_in
  trial_same op room = conditions_same op (room_condition t.size t.kinds room)

  -- other marks, and the moves as they were
  switched : (a : Arrays) (kind : ℕ) (g : List ℕ → List ℕ) → ((ws : List ℕ) → length (g ws) ≡ length ws) → a.rows ≡ before.rows → a.indegree ≡ before.indegree
      → Packed t.size t.kinds (in_kind kind g t.marks) a.words → Stored (with_marks t (in_kind kind g t.marks)) a
  switched a kind g keeps rows counts packed = record {
    filed = subst⁻¹ (Filed t.size t.edges) rows f.filed;
    packed = packed;
    form = four_switched t.marks kind g keeps f.form;
    counted = subst⁻¹ (Counted t.edges) counts f.counted;
  }

  few : length t.edges ≤ 2048
  few = omega (arith, f.filed.compressed.within, f.filed.count_is)

  states : t.size ≤ 512
  states = f.filed.compressed.states

  -- a state that is not outside the game has a count
  entered : (from to : ℕ) → outside t.size (from, to) ≡ false → to < 512
  entered from to e = omega (arith, (inside_both t.size (from, to) e).1, states)

  -- an accepted change leaves arrays that hold the changed table
  pub restored : (a : Arrays) → (op : Op) (room : ℕ) → change_trial (change_of op) t room ≡ accepted → a ≡ filed_in op t.size before → Stored (apply (change_of op) t) a
  unfolding change_trial conditions apply full beyond with_mark without_mark
  restored a (Add from to) room e new = let some : 1 ≤ t.kinds = omega (arith, valid.some_kind) in record {
    filed = filed_insert t.size t.edges (from, to) before.rows a.rows f.filed (named_below (Add from to) t room e)
        (omega (arith, ltb-false 2048 ((length t.edges + 1) * t.kinds) (unheld 9 _ e), mul-le-mul_left (length t.edges + 1) some, f.filed.count_is)) (rows_of new);
    packed = subst⁻¹ (Packed t.size t.kinds t.marks) (λ i. (new i).words) f.packed;
    form = f.form;
    counted = subst⁻¹ (Counted (t.edges ++ ((from, to) ∷ []))) (λ i. (new i).indegree) (counted_more t.edges (from, to) before.indegree f.counted (entered from to (unheld 6 _ e)) few);
  }
  restored a (Cut from to) room e new = record {
    filed = filed_remove t before.rows f.filed a.rows valid from to (named_below (Cut from to) t room e) (not-false (present t.edges (from, to)) (unheld 10 _ e)) (rows_of new);
    packed = subst⁻¹ (Packed t.size t.kinds t.marks) (λ i. (new i).words) f.packed;
    form = f.form;
    counted = subst⁻¹ (Counted (without (from, to) t.edges)) (λ i. (new i).indegree)
        (counted_fewer t.edges (from, to) before.indegree f.counted (entered from to (unheld 6 _ e)) valid.once (not-false (present t.edges (from, to)) (unheld 10 _ e)));
  }
  restored a (Mark state kind) room e new =
      switched a (kind - 1) (λ ws. with_mark ws state) (λ ws. length-set ws (state / 64) _) (rows_of new) (λ i. (new i).indegree)
      (subst⁻¹ (Packed t.size t.kinds _) (λ i. (new i).words)
      (packed_mark t.size t.kinds t.marks before.words (kind - 1) state (in_use kind (unheld 4 _ e)) (leb-false t.size state (unheld 6 _ e))
      valid.four_kinds valid.states_few f.form.four f.form.eight f.packed))
  restored a (Unmark state kind) room e new =
      switched a (kind - 1) (λ ws. without_mark ws state) (λ ws. length-set ws (state / 64) _) (rows_of new) (λ i. (new i).indegree)
      (subst⁻¹ (Packed t.size t.kinds _) (λ i. (new i).words)
      (packed_unmark t.size t.kinds t.marks before.words (kind - 1) state (in_use kind (unheld 4 _ e)) (leb-false t.size state (unheld 6 _ e))
      valid.four_kinds valid.states_few f.form.four f.form.eight f.packed))
