-- Replies read off arrays that hold a table are the plain table's. Assumes nothing.
use mathlib.Core.Path.{◌≡◌, refl, sym, ap, ◌∙◌}
use mathlib.Core.Logic.{◌≢◌, ⊎_elim}
use mathlib.Core.Bool.{Bool, true, false, cond}
use mathlib.Core.List.{List}
use Prim.Native.Nat.{ℕ, ◌+◌, ◌*◌, ◌≤◌, ◌<◌}
use native.Mathlib.Nat.{mul_comm}
use native.Mathlib.Omega.{arith}
use lib.Dec.{eqb, ltb, leb}
use lib.ListN.{length, get_or}
use borrow.Author.Tests.{le-leb, lt-leb, eq-eqb, ltb-true, ltb-false}
use Rattle.plain.specs.Search.{Verdict, none, lasso, unfinished, verdict}
use Rattle.plain.specs.Table.{Table, accepts, final}
use Rattle.plain.specs.Layers.{copy}
use Rattle.plain.specs.Refusals.{bad_size, first_held, beyond}
use Rattle.plain.specs.Shortest.{Hunt, found_at, left_at}
use Rattle.plain.specs.Questions.{ways, short, out_degree, Reply as PlainReply, no_reply, degrees, shortest, no_round, question_trial, hunt_in, lengths_for, short_reply, question_reply, reply_to, reply_line}
use Rattle.plain.specs.Claims.{Arises}
use Rattle.plain.proofs.Tests.{contra, either, or_first}
use Rattle.plain.proofs.Tables.{Valid, valid}
use Rattle.plain.proofs.Demands.{demand_2}
use Rattle.plain.proofs.Degrees.{out_row}
use Rattle.rows.specs.Rows.{degree_at}
use Rattle.rows.proofs.Entries.{row_length}
use Rattle.look.proofs.Scans.{row_filed}
use Rattle.layers.proofs.Marking.{packed_bit}
use Rattle.shortest.specs.declared.Lengths.{Lengths}
use Rattle.shortest.specs.Model.{lengths_of, Holds, Shortens}
use Rattle.table.specs.declared.Arrays.{Arrays}
use Rattle.table.specs.Filing.{Stored}
use Rattle.question.specs.declared.Reply.{Reply}
use Rattle.question.specs.declared.Reply.TheVariants.{Refused, Degrees, Shortest, NoRound}
use Rattle.question.specs.Replies.{replied, reply_shown, ways_in, RoundOf, ShortIn}

-- ---- any arrays

module _ (s size : ℕ) (starts indegree : List ℕ) where
  ways_by : (b : Bool) → leb size s ≡ b → ways_in s size starts indegree ≡ cond b (Refused 6) (Degrees s (degree_at starts s) (get_or indegree s 0))
  unfolding ways_in
  ways_by b e = ap (λ (x : Bool). cond x (Refused 6) (Degrees s (degree_at starts s) (get_or indegree s 0))) e

  pub ways_outside : size ≤ s → ways_in s size starts indegree ≡ Refused 6
  ways_outside h = ways_by true (le-leb size s h)

  pub ways_inside : s < size → ways_in s size starts indegree ≡ Degrees s (degree_at starts s) (get_or indegree s 0)
  ways_inside h = ways_by false (lt-leb size s h)

-- ---- `short`, on each of its ways

some_state : (t : Table) → Valid t → t.size ≢ 0
unfolding bad_size
some_state t v e = contra (or_first (eqb t.size 0) (ltb 512 t.size) (eq-eqb t.size 0 e)) v.size_ok

module _ (budget size kinds start present : ℕ) (targets starts words : List ℕ) where
  pub short_kinds : 1 < kinds → ShortIn budget size kinds start present targets starts words (Refused 17)
  short_kinds k = record {
    several_kinds = λ h. refl;
    no_game = λ h e. absurd (omega arith);
    no_round = λ h some e. absurd (omega arith);
    lengths = λ h some few t z. absurd (omega arith);
  }

  pub short_gameless : kinds ≤ 1 → size ≡ 0 → ShortIn budget size kinds start present targets starts words (Refused 2)
  short_gameless k empty = record {
    several_kinds = λ h. absurd (omega arith);
    no_game = λ h e. refl;
    no_round = λ h some e. absurd (omega arith);
    lengths = λ h some few t z. absurd (some_state t (valid t z.arises) (sym z.size_is ∙ empty));
  }

  pub short_roundless : kinds ≤ 1 → size ≢ 0 → present ≡ 0 → ShortIn budget size kinds start present targets starts words NoRound
  short_roundless k some empty = record {
    several_kinds = λ h. absurd (omega arith);
    no_game = λ h e. absurd (some e);
    no_round = λ h s e. refl;
    lengths = λ h s few t z. absurd (omega arith);
  }

  pub short_lengths : kinds ≤ 1 → size ≢ 0 → present ≢ 0 → (n : Lengths) → ((t : Table) → Shortens t targets starts words size start present budget n)
      → ShortIn budget size kinds start present targets starts words (Shortest n.best n.least)
  unfolding lengths_for
  short_lengths k some more n f = record {
    several_kinds = λ h. absurd (omega arith);
    no_game = λ h e. absurd (some e);
    no_round = λ h s e. absurd (more e);
    lengths = λ h s few t z. ap (λ (m : Lengths). Shortest m.best m.least) (f t z few) ∙ told (hunt_in t budget present);
  }
    where
      told : (h : Hunt) → Shortest (lengths_of present h).best (lengths_of present h).least ≡ replied (lengths_for present h)
      told (found_at l) = refl
      told (left_at l) = refl

-- ---- arrays that hold a table

module _ (t : Table) (a : Arrays) (arises : Arises t) (f : Stored t a) where
  leaving_is : (s : ℕ) → degree_at a.rows.starts s ≡ out_degree t.edges s
  leaving_is s = sym (row_length a.rows.targets a.rows.starts s) ∙ ap length (f.filed.rows_are s) ∙ sym (out_row t.edges s)

  pub ways_same : (s : ℕ) → ways_in s t.size a.rows.starts a.indegree ≡ replied (reply_to (ways s) t)
  unfolding reply_to question_trial first_held beyond question_reply
  ways_same s = ⊎_elim
      (λ e. ways_by s t.size a.rows.starts a.indegree true e ∙ rw e refl)
      (λ e. ways_by s t.size a.rows.starts a.indegree false e ∙ rw e (λ i. Degrees s (leaving_is s i) (f.counted.counts_are s i))) (either (leb t.size s))

  first_copy : (s : ℕ) → copy t.size 0 s ≡ s
  unfolding copy
  first_copy s = omega arith

  -- the arrays of a table with one kind, as the searches for a short round read them
  holds : t.kinds ≡ 1 → Holds t a.rows.targets a.rows.starts a.words t.size t.start
  holds one = record {
    arises = arises;
    one_kind = one;
    size_is = refl;
    start_is = refl;
    rows_are = λ v. row_filed t.size a.rows.targets a.rows.starts f.filed.compressed v ∙ f.filed.rows_are v;
    marks_are = λ s low. ap (accepts a.words) (sym (first_copy s)) ∙ packed_bit t.size t.kinds t.marks a.words 0 s (omega arith) low f.packed;
  }

  pub short_same : (b present : ℕ) (r : Reply) → RoundOf present (verdict (final t)) → ShortIn b t.size t.kinds t.start present a.rows.targets a.rows.starts a.words r
      → r ≡ replied (reply_to (short b) t)
  unfolding reply_to question_trial first_held question_reply short_reply
  short_same b present r p z = ⊎_elim
      (λ e. z.several_kinds (ltb-true 1 t.kinds e) ∙ rw e refl)
      (λ e. one_kind (ltb-false 1 t.kinds e) (verdict (final t)) refl p ∙ rw e refl) (either (ltb 1 t.kinds))
    where
      ok : Valid t
      ok = valid t arises

      one_kind : t.kinds ≤ 1 → (w : Verdict) → verdict (final t) ≡ w → RoundOf present w → r ≡ replied (short_reply w b t)
      one_kind few none e q = z.no_round few (omega (arith, some_state t ok)) q
      one_kind few (lasso stem cycle) e q =
          let short-walk : length stem + length cycle ≤ t.size * t.kinds = (demand_2 t arises).short stem cycle e in
          z.lengths few (omega (arith, q.0, q.1)) (omega (arith, q.0, short-walk, ok.states_few, mul_comm t.size t.kinds)) t (holds (omega (arith, ok.some_kind))) ∙ ap (λ (n : ℕ). replied (lengths_for n (hunt_in t b n))) q.0
      one_kind few unfinished e q = absurd q

-- the line that tells a reply is the plain table's
pub reply_shown_lem : (r : PlainReply) → reply_shown (replied r) ≡ reply_line r
unfolding reply_line
reply_shown_lem (no_reply n) = refl
reply_shown_lem (degrees s leaving entering) = refl
reply_shown_lem (shortest best least) = refl
reply_shown_lem no_round = refl
