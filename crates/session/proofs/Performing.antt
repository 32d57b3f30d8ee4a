-- The contract of a call, by what it asks for: changes, or another count of kinds. Assumes nothing.
use mathlib.Core.Path.{◌≡◌, refl, sym, ap, subst, subst⁻¹, ◌∙◌}
use Rattle.std.specs.Prelude.{Option, is_some}
use mathlib.Core.List.{List}
use Prim.Native.Nat.{ℕ, ◌*◌, ◌≤◌, min}
use lib.Dec.{eqb}
use lib.ListN.{length}
use Rattle.plain.specs.Table.{Table}
use Rattle.plain.specs.Refusals.{Trial, accepted, refused}
use Rattle.plain.specs.Machine.{to_kinds, kinds_trial, set_kinds, trial_of, Answer as PlainAnswer, load_answer}
use Rattle.plain.proofs.Trials.{held_first}
use Rattle.plain.proofs.Tables.{valid}
use Rattle.plain.proofs.NewKinds.{kinds_room, kinds_arises}
use Rattle.plain.proofs.Calls.{table_accepted, kinds_answer}
use Rattle.look.specs.Numbers.{plus}
use Rattle.layers.specs.Packed.{ClearedFrom}
use Rattle.table.specs.declared.Position.TheVariants.{Alone}
use Rattle.table.specs.Trials.{kinds_trial_in}
use Rattle.table.specs.declared.Arrays.{Arrays}
use Rattle.table.specs.Filing.{with_words}
use Rattle.table.proofs.NewKinds.{kinds_trial_is, stored_kinds}
use Rattle.batch.specs.declared.Update.{Update}
use Rattle.batch.specs.declared.Command.{Command}
use Rattle.batch.specs.declared.BatchLine.{BatchLine}
use Rattle.batch.specs.Batches.{numbers_in}
use Rattle.verdict.specs.Answers.{refusing, Answered}
use Rattle.verdict.proofs.Told.{never_refused}
use Rattle.session.specs.declared.Session.{Session}
use Rattle.session.specs.declared.Settled.{Settled}
use Rattle.session.specs.declared.Verdict.{Verdict}
use Rattle.session.specs.Model.{arrays_held, game_in, session_of, alone_line, SettlesAfresh, UpdatedIn, KindsSet, Performed}
use Rattle.search.specs.declared.Records.{Records}
use Rattle.session.specs.Promises.{Holds, update_of, command_of, call_of, Updates}
use Rattle.session.proofs.Asking.{asked_so}
use Rattle.session.proofs.Changing.{same_number, not_both}
use Rattle.session.proofs.Afresh.{afresh}
use Rattle.session.proofs.Accepted.{old_of, records_held, refused_right, left_alone, call_right}

-- ---- another count of kinds

module _ (k : ℕ) (s : Session) (lent : List ℕ) where
  abbrev tried : Trial
  tried = kinds_trial_in k s.size s.arrays.rows.starts (length lent)

  -- for a table that the session holds
  trial_is : (t : Table) → Holds s t → kinds_trial k t (length lent) ≡ tried
  trial_is t h = kinds_trial_is k t (valid t h.arises) (arrays_held s) h.stored (length lent) ∙ ap (λ (n : ℕ). kinds_trial_in k n s.arrays.rows.starts (length lent)) (sym h.size_is)

  -- without a state
  none_is : s.size ≡ 0 → tried ≡ refused 2
  unfolding kinds_trial_in
  none_is z = held_first _ _ (ap (λ (n : ℕ). eqb n 0) z)

  kinds_refused : (n : ℕ) → tried ≡ refused n → Updates (set_kinds k) s lent (record { answer = refusing n Alone; session = s }) lent
  unfolding trial_of
  kinds_refused n e = refused_right (set_kinds k) s lent n Alone (λ t h. trial_is t h ∙ e) (λ t h. refl) (λ z. ap (λ (m : ℕ). refusing m Alone) (same_number (sym e ∙ none_is z)))

  -- accepted: the marks that stay, and a search from the start
  module _ (words : List ℕ) (a : Records) (r : Settled) (lent' : List ℕ) (sized : length s.records.walk ≡ 512) (e : tried ≡ accepted) (cleared : ClearedFrom (min s.kinds k * s.size) s.arrays.words words)
      (settles : SettlesAfresh s.size k (game_in s.size k (with_words (arrays_held s) words)) s.start s.records.walk lent r a lent') where
    abbrev b : Arrays
    b = with_words (arrays_held s) words

    abbrev next : Session
    next = session_of s.size s.start k b a r.verdict (plus r.verdict.kept r.verdict.spent)

    held_answered : (t : Table) → Holds s t → Holds next (to_kinds k t) × Answered (load_answer accepted (to_kinds k t)) lent r.answer lent'
    unfolding to_kinds
    held_answered t h =
        let is = trial_is t h ∙ e in
        let stored = stored_kinds k t (valid t h.arises) (arrays_held s) h.stored words (length lent) is
        (subst (λ (x : ℕ × ℕ). ClearedFrom (min x.0 k * x.1) s.arrays.words words) (λ i. (h.kinds_is i, h.size_is i)) cleared) in
        let w = afresh (to_kinds k t) (kinds_arises k t (length lent) is h.arises) b stored s.records.walk lent lent' a r sized (kinds_room k t (length lent) is)
        (subst (λ (x : ℕ × ℕ). SettlesAfresh x.0 k (game_in x.0 k b) x.1 s.records.walk lent r a lent') (λ i. (h.size_is i, h.start_is i)) settles) in
        (subst⁻¹ (λ (x : ℕ × ℕ). Holds (session_of x.0 x.1 k b a r.verdict (plus r.verdict.kept r.verdict.spent)) (to_kinds k t)) (λ i. (h.size_is i, h.start_is i)) w.0, w.1)

    kinds_accepted : Updates (set_kinds k) s lent (record { answer = r.answer; session = next }) lent'
    unfolding trial_of
    kinds_accepted = record {
      answers = λ t h. subst⁻¹ (λ (x : PlainAnswer). Answered x lent r.answer lent') (kinds_answer k t (length lent) (trial_is t h ∙ e)) (held_answered t h).1;
      holds = λ t h. subst⁻¹ (λ (x : Table). Holds next x) (table_accepted (call_of (set_kinds k) lent) t (trial_is t h ∙ e)) (held_answered t h).0;
      refused = λ m z. absurd (never_refused r.verdict.spent r.verdict.kept r.verdict.stem r.verdict.length m (sym settles.tells.answer_is ∙ z));
      no_game = λ z. absurd (not_both (sym (none_is z) ∙ e));
    }

  -- the contract, from what it leaves in the arrays
  kinds_right : (lent' words : List ℕ) (a : Records) (r : Settled) (total : ℕ) → length s.records.walk ≡ 512 → s.total ≤ 65535 → total ≡ plus r.verdict.kept r.verdict.spent
      → KindsSet k s.size s.kinds s.start (old_of s) (arrays_held s).rows s.arrays.words (records_held s) lent r words a lent'
      → Updates (set_kinds k) s lent (record { answer = r.answer; session = session_of s.size s.start r.kinds (with_words (arrays_held s) words) a r.verdict total }) lent'
  kinds_right lent' words a r total sized small e w = by_trial tried refl
    where
      by_trial : (x : Trial) → tried ≡ x
          → Updates (set_kinds k) s lent (record { answer = r.answer; session = session_of s.size s.start r.kinds (with_words (arrays_held s) words) a r.verdict total }) lent'
      by_trial accepted f =
          let q = w.on_acceptance f in
          subst⁻¹ (λ (x : ℕ × ℕ). Updates (set_kinds k) s lent (record { answer = r.answer; session = session_of s.size s.start x.0 (with_words (arrays_held s) words) a r.verdict x.1 }) lent')
          (λ i. (q.1.kinds_is i, e i)) (kinds_accepted words a r lent' sized f q.0 q.1)
      by_trial (refused n) f =
          let q = w.on_refusal n f in
          left_alone (set_kinds k) s lent n Alone r (with_words (arrays_held s) words) a lent' total small e (q.0, ap (with_words (arrays_held s)) q.1, q.2, q.3) (kinds_refused n f)

-- ---- what `perform` leaves

pub performed_update : (command : Command) (u : Update) (alone : Option BatchLine) (ns : List ℕ) (size kinds start : ℕ) (old : Verdict) (b : Arrays) (a : Records) (lent : List ℕ) (r : Settled) (b' : Arrays) (a' : Records) (lent' : List ℕ)
    → command ≡ Command.Update u → alone ≡ alone_line u → UpdatedIn (is_some alone) (numbers_in alone ns) size kinds start old b a lent r b' a' lent'
    → Performed command ns size kinds start old b a lent r b' a' lent'
performed_update command u alone ns size kinds start old b a lent r b' a' lent' e f w =
    subst⁻¹ (λ (x : Command). Performed x ns size kinds start old b a lent r b' a' lent') e
    (subst (λ (x : Option BatchLine). UpdatedIn (is_some x) (numbers_in x ns) size kinds start old b a lent r b' a' lent') f w)

pub performed_kinds : (command : Command) (k : ℕ) (ns : List ℕ) (size kinds start : ℕ) (old : Verdict) (b : Arrays) (a : Records) (lent : List ℕ) (r : Settled) (b' : Arrays) (a' : Records) (lent' : List ℕ)
    → command ≡ Command.Kinds k → KindsSet k size kinds start old b.rows b.words a lent r b'.words a' lent' → (b'.rows ≡ b.rows) × (b'.indegree ≡ b.indegree)
    → Performed command ns size kinds start old b a lent r b' a' lent'
performed_kinds command k ns size kinds start old b a lent r b' a' lent' e w same =
    subst⁻¹ (λ (x : Command). Performed x ns size kinds start old b a lent r b' a' lent') e (w, same.0, same.1)

-- ---- the contract of `update`

pub update_right : (command : Command) (lines : List ℕ) (s : Session) (lent lent' : List ℕ) (b : Arrays) (a : Records) (r : Settled) (total : ℕ)
    → length s.records.walk ≡ 512 → s.total ≤ 65535 → total ≡ plus r.verdict.kept r.verdict.spent
    → Performed command lines s.size s.kinds s.start (old_of s) (arrays_held s) (records_held s) lent r b a lent'
    → Updates (command_of command lines) s lent (record { answer = r.answer; session = session_of s.size s.start r.kinds b a r.verdict total }) lent'
update_right (Command.Update u) lines s lent lent' b a r total sized small sum w =
    call_right (update_of u lines) (is_some (alone_line u)) (numbers_in (alone_line u) lines) (asked_so u lines) s lent lent' b a r total small sum w
update_right (Command.Kinds k) lines s lent lent' b a r total sized small sum w =
    subst⁻¹ (λ (x : Arrays). Updates (set_kinds k) s lent (record { answer = r.answer; session = session_of s.size s.start r.kinds x a r.verdict total }) lent')
    (λ i. record { rows = w.1 i; words = b.words; indegree = w.2 i }) (kinds_right k s lent lent' b.words a r total sized small sum w.0)
