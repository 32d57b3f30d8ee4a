-- An accepted call: the session that it returns holds the changed table, and the answer and the walk are the plain table's. Assumes nothing.
use mathlib.Core.Path.{◌≡◌, refl, sym, ap, subst, subst⁻¹, ◌∙◌}
use mathlib.Core.Logic.{◌≢◌, inl, inr, ⊎_elim}
use mathlib.Core.Bool.{Bool, true, false, cond}
use mathlib.Core.List.{List, [], ◌∷◌, map}
use Prim.Native.Nat.{ℕ, suc, ◌+◌, ◌*◌, ◌-◌, ◌≤◌, ◌<◌}
use native.Mathlib.Nat.{add-zero}
use native.Mathlib.Omega.{arith}
use lib.ListN.{length, get_or, take}
use lib.Seq.{take_all}
use Rattle.plain.specs.Lists.{all, elem, In}
use Rattle.plain.specs.Search.{Graph, Frame, frame, Config, outer, nested, exhausted, found, discovered_of, meets, run, Verdict as PlainVerdict, unfinished, verdict, count}
use Rattle.plain.specs.Unexplored.{bare_frames, bare}
use Rattle.plain.specs.Table.{Table, searched, copies_in, printed_verdict, final}
use Rattle.plain.specs.Refusals.{Trial, accepted, refused}
use Rattle.plain.specs.Machine.{BatchLine as PlainLine, makes, Update as PlainUpdate, changes_of, applied, named_by, update_trial, Position as PlainPosition, position_in, Command as PlainCommand, update, position_for, passed_over, keeps_all, kept_part, kept, Answer as PlainAnswer, refusal, answer, trial_of, answer_to, written, answer_line}
use Rattle.plain.specs.Notes.{Notes, Faithful}
use Rattle.plain.proofs.Tests.{either, in_one, any_some}
use Rattle.plain.proofs.Prefix.{FirstMeeting}
use Rattle.plain.proofs.Resume.{earliest}
use Rattle.plain.proofs.Tables.{Valid, valid}
use Rattle.plain.proofs.SameRun.{alike, alike_discovered, alike_marked, alike_probes, alike_verdict}
use Rattle.plain.proofs.Batches.{AllWithin, all_within, taken_here, Made, update_made, update_valid, update_arises, update_size, update_start, update_kinds, update_agree, update_room}
use Rattle.plain.proofs.Demands.{run_final, kept_meeting, Untouched, update_same, update_met}
use Rattle.plain.proofs.Calls.{answer_accepted, table_accepted, answer_refused, table_refused}
use Rattle.look.specs.Numbers.{plus}
use Rattle.look.proofs.Counting.{plus_more}
use Rattle.search.specs.Core.{Result}
use Rattle.search.specs.Archive.{root_of, notes_of, Archived}
use Rattle.search.proofs.Represents.{Matches}
use Rattle.search.proofs.Scans.{ran_from}
use Rattle.search.proofs.Ended.{rewound_spent}
use Rattle.plain.proofs.Limits.{Small, limits, size_few, small}
use Rattle.search.proofs.Resumed.{resume_fits}
use Rattle.table.specs.declared.Position.{Position}
use Rattle.session.specs.declared.Session.{Session}
use Rattle.session.specs.declared.Settled.{Settled}
use Rattle.std.specs.Prelude.{Option, None, Some}
use Rattle.session.specs.declared.Verdict.{Verdict}
use Rattle.verdict.specs.declared.Answer.{Answer}
use Rattle.verdict.specs.declared.Answer.TheVariants.{Refused}
use Rattle.table.specs.declared.Arrays.{Arrays}
use Rattle.table.specs.Filing.{Stored}
use Rattle.batch.specs.Batches.{lines_in, states_in as named_in, TriedIn, call_tried_in, position_at}
use Rattle.batch.proofs.Batches.{lines_other}
use Rattle.resumption.specs.Model.{copies_up_all, all_passed_over, named_most, earliest_of, resumption_of}
use Rattle.session.specs.Model.{records_in, arrays_held, game_in, states_in, back_at, Sought, verdict_of, session_of, Settles, UpdatedIn}
use Rattle.search.specs.declared.Records.{Records}
use Rattle.session.specs.Promises.{height_of, Holds, call_of, without_game, refused_without_game, Updates}
use Rattle.verdict.proofs.Told.{told, never_refused}
use Rattle.verdict.specs.Answers.{refusing, position_of, shown, lowered, WalkOf, Answered, Tells}
use Rattle.session.proofs.Sought.{matches, states_are, starts_at, Reached, reached}
use Rattle.session.proofs.Asking.{Asks}
use Rattle.session.proofs.Changing.{same_number, not_both}
use Rattle.resumption.proofs.FirstMet.{earliest_is}
use Rattle.resumption.proofs.Lines.{resumption_nowhere, resumption_earliest}
use Rattle.session.proofs.Copied.{all_up, up_all, copies_few}
use Rattle.session.proofs.Resuming.{all_inside, all_named, numbered_met, numbered_unmet, all_decided}

-- what the new records are worth for the changed table
record Worth (u : PlainUpdate) (t : Table) (v : Verdict) (a : Records) : Type 0 where
  steps : ℕ
  ended : verdict (run (searched (applied u t)) steps) ≢ unfinished
  archive : Archived (searched (applied u t)) steps a.number a.parent a.index a.probes a.stamp a.walk
  tells : WalkOf v.stem v.length a.walk (verdict (final (applied u t)))
  height_is : v.height ≡ height_of (final (applied u t))
  kept_is : v.kept ≡ kept u t
  adds_up : v.kept + v.spent ≡ count (final (applied u t))
  total_is : plus v.kept v.spent ≡ count (final (applied u t))

-- ---- the same run on another graph

bare_root : (c : Config) → root_of (bare c) ≡ root_of c
bare_root (outer p d k l) = refl
bare_root (nested s p q d k l) = refl
bare_root (exhausted d k l) = refl
bare_root (found h [] q d k l) = refl
bare_root (found h (frame s ts ∷ p) q d k l) = refl

bare_length : (p : List Frame) → length (bare_frames p) ≡ length p
bare_length [] = refl
bare_length (frame s ts ∷ p) = ap suc (bare_length p)

bare_height : (c : Config) → height_of (bare c) ≡ height_of c
bare_height (outer p d k l) = bare_length p
bare_height (nested s p q d k l) = ap suc (bare_length p)
bare_height (exhausted d k l) = refl
bare_height (found h p q d k l) = bare_length p

archive_moved : (g h : Graph) (n : ℕ) (a : Records) → Archived g n a.number a.parent a.index a.probes a.stamp a.walk
    → Faithful h (notes_of (run g n) a.number a.parent a.index a.probes a.stamp) n → bare (run h n) ≡ bare (run g n)
    → Archived h n a.number a.parent a.index a.probes a.stamp a.walk
archive_moved g h n a f w e =
    let root = alike root_of bare_root (run g n) (run h n) e in
    let met = alike_discovered (run g n) (run h n) e in
    let same : notes_of (run h n) a.number a.parent a.index a.probes a.stamp ≡ notes_of (run g n) a.number a.parent a.index a.probes a.stamp =
    λ i. record {
      of = λ x. record { number = get_or a.number x 0; parent = get_or a.parent x 0; index = get_or a.index x 0; probes = get_or a.probes x 0 };
      stamp = λ x. cond (elem x (root i)) (length (met i)) (get_or a.stamp x 0);
    } in
    record {
      sizes = f.sizes;
      holds = subst⁻¹ (λ (r : Notes). Faithful h r n) same w;
      undiscovered = λ x b o. f.undiscovered x b (rw met at o);
      unmarked = λ x b o. f.unmarked x b (rw (alike_marked (run g n) (run h n) e) at o);
      root_unmarked = λ x i. f.root_unmarked x (rw root at i);
    }

-- what a session holds of its last search
abbrev pub old_of : Session → Verdict
old_of s = record { stem = s.stem; length = s.length; height = s.height; spent = 0; kept = s.total }

abbrev pub records_held : Session → Records
records_held s = s.records

-- where a session's search is taken up for the lines of a call, given as numbers
abbrev taken_up : List ℕ → Session → Option ℕ
taken_up ns s = resumption_of s.size s.kinds ns (arrays_held s).rows s.records.number s.records.index s.records.walk s.height

module _ (ns : List ℕ) (s : Session) where
  abbrev all_passed : Bool
  all_passed = all_passed_over (lines_in ns) s.size s.kinds (arrays_held s).rows s.records.number s.records.index s.records.walk s.height

-- an accepted call: its lines as numbers, and the arrays that hold the table which it leaves
module _ (u : PlainUpdate) (ns : List ℕ) (s : Session) (b : Arrays) (a : Records) (v : Verdict)
    (sought : Sought (game_in s.size s.kinds b) (states_in s.size s.kinds) s.start (taken_up ns s) (old_of s) (records_held s) v a)
    (t : Table) (h : Holds s t) (room : ℕ) (yes-it-is : update_trial u t room ≡ accepted) (lines_are : lines_in ns ≡ map makes (changes_of u)) (stored-new : Stored (applied u t) b) where
  abbrev t' : Table
  t' = applied u t

  ok : Valid t
  ok = valid t h.arises

  ok' : Valid t'
  ok' = update_valid u t room ok yes-it-is

  -- its moves lie inside the game
  within : AllWithin (changes_of u) t.size
  within = all_within room (changes_of u) t (update_made u t room yes-it-is).each_accepted

  abbrev ran : Config
  ran = run (searched t) h.steps

  ran_final : ran ≡ final t
  ran_final = run_final t ok h.steps h.ended

  r : Notes
  r = notes_of ran s.records.number s.records.parent s.records.index s.records.probes s.records.stamp

  -- nothing is to be done
  worth_same : taken_up ns s ≡ None → Untouched u t ok ok' within h.steps h.ended → Worth u t v a
  unfolding r kept
  worth_same e o =
      let q = subst (λ (x : Option ℕ). Sought (game_in s.size s.kinds b) (states_in s.size s.kinds) s.start x (old_of s) (records_held s) v a) e sought in
      let w = update_same u t ok ok' within h.steps h.ended r o h.archived.holds in
      let looks : count (final t') ≡ count (final t) = ap length (alike_probes (final t) (final t') w.same_final) in
      let z : s.total + 0 ≡ count (final t') = omega (arith, h.total_is, looks) in
      subst⁻¹ (λ (x : Verdict). Worth u t x a) q.0 (subst⁻¹ (λ (x : Records). Worth u t (old_of s) x) q.1 (record {
        steps = h.steps;
        ended = w.still_ended;
        archive = archive_moved (searched t) (searched t') h.steps (records_held s) h.archived w.holds w.same_steps;
        tells = subst⁻¹ (λ (x : PlainVerdict). WalkOf s.stem s.length s.records.walk x) (alike_verdict (final t) (final t') w.same_final) h.told;
        height_is = h.height_is ∙ sym (alike height_of bare_height (final t) (final t') w.same_final);
        kept_is = h.total_is ∙ sym (ap count w.all_kept ∙ looks);
        adds_up = z;
        total_is = plus_more s.total 0 (omega (arith, z, (limits (searched t') (t'.kinds * t'.size) (small t' ok') h.steps).probes_few, ap count (run_final t' ok' h.steps w.still_ended))) ∙ z;
      }))

  -- the copies of the states that are named
  abbrev named : List ℕ
  named = copies_in t (named_by u)

  -- the numbers tell the first meeting among them
  met_first : (w : FirstMeeting named (searched t) (searched t') (update_agree u t) h.steps) → all_passed ns s ≡ false → taken_up ns s ≡ Some w.meeting.state
  unfolding r
  met_first w e =
      let m = update_made u t room yes-it-is in
      let states : take named_most (named_in ns) ≡ named_by u = ap (take named_most) (lines_other ns (changes_of u) lines_are ∙ sym m.named_are) ∙ take_all named_most (named_by u) (named_few m) in
      let met : In w.meeting.state (discovered_of ran) = met_in w.meeting.state w.discovered in
      resumption_earliest s.size s.kinds ns (arrays_held s).rows s.records.number s.records.index s.records.walk s.height e
      ∙ (λ i. earliest_of (copies_up_all (h.size_is i) (h.kinds_is i) (states i)) s.records.number)
      ∙ earliest_is s.records.number w.meeting.state (copies_up_all t.size t.kinds (named_by u)) (numbered_met s t h ok w.meeting.state met)
      (all_up t.size t.kinds ok.states_few ok.some_kind (named_by u) low w.meeting.state w.meeting.is_named)
      (λ x i k. let c = up_all t.size t.kinds ok.states_few (named_by u) low x i in ⊎_elim
      (λ j. earliest named (searched t) (searched t') (update_agree u t) r h.steps h.archived.holds w x c j k)
      (λ f. absurd (omega (arith, numbered_unmet s t h ok x (copies_few t ok (named_by u) inside x c) f, numbered_met s t h ok w.meeting.state met))) (either (elem x (discovered_of ran))))
    where
      named_few : Made u t room → length (named_by u) ≤ named_most
      named_few m = omega (arith, ap length m.named_are, all_named (changes_of u), m.few)

      inside : (x : ℕ) → In x (named_by u) → x < t.size
      inside x i = let m = update_made u t room yes-it-is in all_inside room (changes_of u) t m.each_accepted x (rw m.named_are at i)

      low : (x : ℕ) → In x (named_by u) → x < 512
      low x i = omega (arith, inside x i, size_few t.size ok.size_ok)

      met_in : (x : ℕ) → meets (x ∷ []) ran ≡ true → In x (discovered_of ran)
      met_in x m = let q = any_some (λ y. elem y (discovered_of ran)) (x ∷ []) m in rw (in_one q.0 x q.1) at q.2

  -- a copy of a named state was met: the search is resumed at the first meeting
  worth_met : all_passed ns s ≡ false → keeps_all u t ≡ false → meets named ran ≡ true → Worth u t v a
  unfolding r kept
  worth_met e o m =
      let met = update_met u t ok ok' within h.steps h.ended r m h.archived.holds in
      let w = met.meeting in
      let q = subst (λ (x : Option ℕ). Sought (game_in s.size s.kinds b) (states_in s.size s.kinds) s.start x (old_of s) (records_held s) v a) (met_first w e) sought in
      let size : t'.size ≡ t.size = update_size u t in
      let kinds : t'.kinds ≡ t.kinds = update_kinds u t in
      let states = t.kinds * t.size in
      let fit = resume_fits states named (searched t) (searched t') (update_agree u t) (small t ok) (subst (Small (searched t')) (λ i. kinds i * size i) (small t' ok')) h.steps s.records.number s.records.parent s.records.index s.records.probes s.records.stamp s.records.walk h.archived w in
      let begun = ran_from (game_in s.size s.kinds b)
      (same_start w.meeting.state ((λ i. states_in (h.size_is i) (h.kinds_is i)) ∙ states_are t ok) (h.start_is ∙ sym (update_start u t) ∙ sym (starts_at t'))) q.1 in
      let g = reached t' ok' (game_in s.size s.kinds b)
      (subst⁻¹ (λ (x : ℕ × ℕ). Matches (searched t') (game_in x.0 x.1 b)) (λ i. ((h.size_is ∙ sym size) i, (h.kinds_is ∙ sym kinds) i)) (matches t' b ok' stored-new))
      w.at (back_at states (searched t').start w.meeting.state (records_held s)) q.0
      (rewound_spent states (searched t').start w.meeting.state 0 s.records.number s.records.parent s.records.index s.records.probes s.records.stamp s.records.walk) fit begun in
      subst⁻¹ (λ (x : Verdict). Worth u t x a) q.2 (subst⁻¹ (λ (x : Records). Worth u t (verdict_of q.0.walker q.0.spent) x) q.3 (settled_by q.0 w.at g (ap count (kept_meeting u t o ∙ met.kept_here))))
    where
      same_start : (z : ℕ) {m n x y : ℕ} → m ≡ n → x ≡ y → back_at m x z (records_held s) ≡ back_at n y z (records_held s)
      same_start z l p = λ j. back_at (l j) (p j) z (records_held s)

      settled_by : (x : Result) (n : ℕ) → Reached t' n x → count (kept_part u t) ≡ count (run (searched t') n) → Worth u t (verdict_of x.walker x.spent) (records_in x)
      settled_by x n g z = record {
        steps = g.steps;
        ended = g.ended;
        archive = g.archive;
        tells = g.tells;
        height_is = g.height_is;
        kept_is = g.kept_is ∙ sym z;
        adds_up = g.adds_up;
        total_is = g.total_is;
      }

  -- the records are those of the changed table, either way
  worth : Worth u t v a
  worth = ⊎_elim
      (λ p. worth_same (resumption_nowhere s.size s.kinds ns (arrays_held s).rows s.records.number s.records.index s.records.walk s.height (decided ∙ p)) (⊎_elim inl (λ f. inr (rw ran_final f)) (made.passed p)))
      (λ p. let k = made.reached p in worth_met (decided ∙ p) k.0 (rw ran_final k.1)) (either (all (λ c. passed_over c t) (changes_of u)))
    where
      made : Made u t room
      made = update_made u t room yes-it-is

      decided : all_passed ns s ≡ all (λ c. passed_over c t) (changes_of u)
      decided =
          ap (λ (xs : List PlainLine). all_passed_over xs s.size s.kinds (arrays_held s).rows s.records.number s.records.index s.records.walk s.height) lines_are
          ∙ all_decided s t h ok room (changes_of u) t (refl, refl) (taken_here t ok) made.each_accepted

  -- the session that is returned
  abbrev next : Session
  next = session_of s.size s.start s.kinds b a v (plus v.kept v.spent)

  next_holds : Holds next t'
  next_holds =
      let w = worth in
      record {
        arises = update_arises u t room h.arises yes-it-is;
        size_is = h.size_is ∙ sym (update_size u t);
        start_is = h.start_is ∙ sym (update_start u t);
        kinds_is = h.kinds_is ∙ sym (update_kinds u t);
        stored = stored-new;
        steps = w.steps;
        ended = w.ended;
        archived = w.archive;
        told = w.tells;
        height_is = w.height_is;
        total_is = w.total_is;
      }

  -- the plain table's answer
  abbrev plain : PlainAnswer
  plain = answer (printed_verdict t' (verdict (final t'))) (count (final t') - kept u t) (kept u t)

  next_answers : (lent lent' : List ℕ) (r : Answer) → room ≤ length lent → Tells v.spent v.kept v.stem v.length (lowered s.size (s.kinds - 1) a.walk) lent r lent'
      → Answered plain lent r lent'
  next_answers lent lent' r e k =
      let w = worth in
      let size : t'.size ≡ t.size = update_size u t in
      let kinds : t'.kinds ≡ t.kinds = update_kinds u t in
      let rest : v.spent ≡ count (final t') - kept u t = omega (arith, w.kept_is, w.adds_up) in
      let few : t'.size * t'.kinds ≤ room = subst⁻¹ (λ (n : ℕ). n ≤ room) (λ i. size i * kinds i) (update_room u t room yes-it-is) in
      subst (λ (x : ℕ × ℕ). Answered (answer (printed_verdict t' (verdict (final t'))) x.0 x.1) lent r lent') (λ i. (rest i, w.kept_is i))
      (told v.spent v.kept v.stem v.length t' ok' a.walk lent lent' r w.tells
      (subst (λ (x : ℕ × ℕ). Tells v.spent v.kept v.stem v.length (lowered x.0 (x.1 - 1) a.walk) lent r lent') (λ i. ((h.size_is ∙ sym size) i, (h.kinds_is ∙ sym kinds) i)) k) (omega arith))

-- ---- the contract of a call

-- the session that a call makes of one, where nothing has changed
same_session : (s : Session) → s.total ≤ 65535 → session_of s.size s.start s.kinds (arrays_held s) (records_held s) (old_of s) (plus s.total 0) ≡ s
same_session s h = λ i. record {
  size = s.size;
  start = s.start;
  kinds = s.kinds;
  arrays = s.arrays;
  records = s.records;
  stem = s.stem;
  length = s.length;
  height = s.height;
  total = (plus_more s.total 0 (omega arith) ∙ add-zero s.total) i;
}

-- a refused call: nothing has changed
module _ (c : PlainCommand) (s : Session) (lent : List ℕ) (n : ℕ) (p : Position) where
  pub refused_right : ((t : Table) → Holds s t → trial_of (call_of c lent) t ≡ refused n) → ((t : Table) → Holds s t → position_for c t (length lent) ≡ position_of p)
      → (s.size ≡ 0 → refusing n p ≡ Refused (refused_without_game s.kinds c)) → Updates c s lent (record { answer = refusing n p; session = s }) lent
  unfolding shown written answer_line
  refused_right is place none = record {
    answers = λ t h. record { line = ap answer_line (refused_as t h); list = sym (ap (λ (x : PlainAnswer). written x lent) (refused_as t h)) };
    holds = λ t h. subst⁻¹ (λ (x : Table). Holds s x) (table_refused (call_of c lent) t n (is t h)) h;
    refused = λ m z. (refl, refl);
    no_game = none;
  }
    where
      refused_as : (t : Table) → Holds s t → answer_to (call_of c lent) t ≡ refusal (record { number = n; position = position_of p })
      refused_as t h = answer_refused (call_of c lent) t n (is t h) ∙ ap (λ (x : PlainPosition). refusal (record { number = n; position = x })) (place t h)

  -- what the arrays were, they are
  pub left_alone : (r : Settled) (b : Arrays) (a : Records) (lent' : List ℕ) (total : ℕ) → s.total ≤ 65535 → total ≡ plus r.verdict.kept r.verdict.spent
      → (r ≡ record { answer = refusing n p; verdict = old_of s; kinds = s.kinds }) × (b ≡ arrays_held s) × (a ≡ records_held s) × (lent' ≡ lent)
      → Updates c s lent (record { answer = refusing n p; session = s }) lent
      → Updates c s lent (record { answer = r.answer; session = session_of s.size s.start r.kinds b a r.verdict total }) lent'
  left_alone r b a lent' total small e k w =
      let sum : total ≡ plus s.total 0 = e ∙ (λ i. plus (k.0 i).verdict.kept (k.0 i).verdict.spent) in
      subst⁻¹ (λ (x : ℕ × Settled × Arrays × Records × List ℕ). Updates c s lent (record { answer = x.1.answer; session = session_of s.size s.start x.1.kinds x.2 x.3 x.1.verdict x.0 }) x.4)
      (λ i. (sum i, k.0 i, k.1 i, k.2 i, k.3 i))
      (subst⁻¹ (λ (x : Session). Updates c s lent (record { answer = refusing n p; session = x }) lent) (same_session s small) w)

module _ (u : PlainUpdate) (alone : Bool) (ns : List ℕ) (q : Asks u alone (lines_in ns)) (s : Session) (lent : List ℕ) where
  abbrev tried : TriedIn
  tried = call_tried_in alone (lines_in ns) s.size s.kinds (arrays_held s) (length lent)

  -- for a table that the session holds
  module _ (t : Table) (h : Holds s t) where
    held : tried ≡ call_tried_in alone (lines_in ns) t.size t.kinds (arrays_held s) (length lent)
    held = λ i. call_tried_in alone (lines_in ns) (h.size_is i) (h.kinds_is i) (arrays_held s) (length lent)

    trial_is : update_trial u t (length lent) ≡ tried.trial
    trial_is = sym (ap (λ (w : TriedIn). w.trial) held ∙ q.same t (valid t h.arises) (arrays_held s) h.stored (length lent))

    position_is : position_in u t (length lent) ≡ position_of (position_at alone tried.position)
    position_is = sym (ap (λ (w : TriedIn). position_of (position_at alone w.position)) held ∙ q.position t (valid t h.arises) (arrays_held s) h.stored (length lent))

    stored_is : update_trial u t (length lent) ≡ accepted → Stored (applied u t) tried.arrays
    stored_is e = subst⁻¹ (λ (w : TriedIn). Stored (applied u t) w.arrays) held (q.stored t (valid t h.arises) (arrays_held s) h.stored (length lent) e)

  -- without a state
  none_is : s.size ≡ 0 → (tried.trial ≡ refused (without_game s.kinds u).number) × (refusing (without_game s.kinds u).number (position_at alone tried.position) ≡ Refused (without_game s.kinds u))
  none_is z =
      let e : tried ≡ call_tried_in alone (lines_in ns) 0 s.kinds (arrays_held s) (length lent) = ap (λ (n : ℕ). call_tried_in alone (lines_in ns) n s.kinds (arrays_held s) (length lent)) z in (
        ap (λ (w : TriedIn). w.trial) e ∙ q.none s.kinds (arrays_held s) (length lent),
        ap (λ (w : TriedIn). refusing (without_game s.kinds u).number (position_at alone w.position)) e ∙ q.refusal_is s.kinds (arrays_held s) (length lent),
      )

  call_refused : (n : ℕ) → tried.trial ≡ refused n → Updates (update u) s lent (record { answer = refusing n (position_at alone tried.position); session = s }) lent
  unfolding trial_of
  call_refused n e = refused_right (update u) s lent n (position_at alone tried.position) (λ t h. trial_is t h ∙ e) position_is
      (λ z. let w = none_is z in ap (λ (k : ℕ). refusing k (position_at alone tried.position)) (same_number (sym e ∙ w.0)) ∙ w.1)

  call_accepted : (lent' : List ℕ) (b : Arrays) (a : Records) (r : Settled) → tried.trial ≡ accepted → b ≡ tried.arrays
      → Settles s.size s.kinds (game_in s.size s.kinds b) s.start (taken_up ns s) (old_of s) (records_held s) lent r a lent'
      → Updates (update u) s lent (record { answer = r.answer; session = session_of s.size s.start s.kinds b a r.verdict (plus r.verdict.kept r.verdict.spent) }) lent'
  unfolding trial_of
  call_accepted lent' b a r e new w = record {
    answers = λ t h. subst⁻¹ (λ (x : PlainAnswer). Answered x lent r.answer lent') (answer_accepted (call_of (update u) lent) t (is t h))
        (next_answers u ns s b a r.verdict w.sought t h (length lent) (is t h) (lines t h) (stored t h) lent lent' r.answer (omega arith) w.tells);
    holds = λ t h. subst⁻¹ (λ (x : Table). Holds (next u ns s b a r.verdict w.sought t h (length lent) (is t h) (lines t h) (stored t h)) x)
        (table_accepted (call_of (update u) lent) t (is t h)) (next_holds u ns s b a r.verdict w.sought t h (length lent) (is t h) (lines t h) (stored t h));
    refused = λ m z. absurd (never_refused r.verdict.spent r.verdict.kept r.verdict.stem r.verdict.length m (sym w.tells.answer_is ∙ z));
    no_game = λ z. absurd (not_both (sym (none_is z).0 ∙ e));
  }
    where
      is : (t : Table) → Holds s t → update_trial u t (length lent) ≡ accepted
      is t h = trial_is t h ∙ e

      lines : (t : Table) (h : Holds s t) → lines_in ns ≡ map makes (changes_of u)
      lines t h = q.lines_are t (length lent) (is t h)

      stored : (t : Table) (h : Holds s t) → Stored (applied u t) b
      stored t h = subst⁻¹ (Stored (applied u t)) new (stored_is t h (is t h))

  -- the contract of a call, from what it leaves in the arrays
  pub call_right : (lent' : List ℕ) (b : Arrays) (a : Records) (r : Settled) (total : ℕ) → s.total ≤ 65535 → total ≡ plus r.verdict.kept r.verdict.spent
      → UpdatedIn alone ns s.size s.kinds s.start (old_of s) (arrays_held s) (records_held s) lent r b a lent'
      → Updates (update u) s lent (record { answer = r.answer; session = session_of s.size s.start r.kinds b a r.verdict total }) lent'
  call_right lent' b a r total small e w = by_trial tried.trial refl
    where
      by_trial : (x : Trial) → tried.trial ≡ x → Updates (update u) s lent (record { answer = r.answer; session = session_of s.size s.start r.kinds b a r.verdict total }) lent'
      by_trial accepted f =
          let k = w.on_acceptance f in
          subst⁻¹ (λ (x : ℕ × ℕ). Updates (update u) s lent (record { answer = r.answer; session = session_of s.size s.start x.0 b a r.verdict x.1 }) lent') (λ i. (k.1.kinds_is i, e i))
          (call_accepted lent' b a r f k.0 k.1)
      by_trial (refused n) f = left_alone (update u) s lent n (position_at alone tried.position) r b a lent' total small e (w.on_refusal n f) (call_refused n f)
