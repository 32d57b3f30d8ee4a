-- DEMAND 3: for every list of calls and questions, of any length, accepted and refused in any order, from an accepted load on; and with it demand 2 of every answer.
-- Assumes nothing.
use mathlib.Core.Path.{◌≡◌, refl, sym, ap, subst, subst⁻¹, ◌∙◌}
use Prim.Native.Nat.{ℕ}
use mathlib.Core.List.{List, [], ◌∷◌, ◌++◌, map}
use lib.ListN.{length}
use Rattle.plain.specs.Table.{Table}
use Rattle.plain.specs.Refusals.{Trial, Load, accepted, refused, load_trial}
use Rattle.plain.specs.Machine.{Change, BatchLine, makes, changes_in, single, batch, Command, update, Call, call_for, trial_of, Answer as PlainAnswer, table_of, load_answer, answer_to, table_after, answers, Line, answer_line, answer_lines}
use Rattle.plain.specs.Claims.{LineTrue}
use Rattle.plain.specs.Questions.{Question, reply_to, table_next, told, told_all}
use Rattle.plain.proofs.Answers.{load_told, call_told, reply_told}
use Rattle.plain.proofs.Calls.{answer_refused}
use Rattle.plain.proofs.OneByOne.{one_by_one, as_one}
use Rattle.plain.proofs.Loops.{loop_told}
use Rattle.verdict.specs.declared.Answer.{Answer}
use Rattle.question.specs.declared.Reply.{Reply}
use Rattle.question.specs.Replies.{reply_shown}
use Rattle.question.proofs.Replies.{reply_shown_lem}
use Rattle.session.specs.declared.Session.{Session}
use Rattle.session.specs.declared.Outcome.{Outcome}
use Rattle.session.specs.Promises.{call_of, call_in, line_in, Holds, Loads, Updates, Replies, Exchange, Event, made, posed, operation_in, line_of, Served, done, call, ask, CallRight, QuestionRight, Right, EachEvent, AllRight, Demand3, LoopsTold, SameCall, SameEnd}
use Rattle.verdict.proofs.Told.{shown_refused, told_refused, answered_once}
use Rattle.verdict.specs.Answers.{shown, NoRefusal, Answered}

-- one call, by its contract alone
call_right : (x : Exchange) (s : Session) (t : Table) (r : Outcome) → Holds s t → Updates x.asked s x.lent r x.after → x.answered ≡ r.answer → CallRight x t
call_right x s t r h c e =
    let a : Answered (answer_to (call_in x) t) x.lent x.answered x.after = subst⁻¹ (λ (y : Answer). Answered (answer_to (call_in x) t) x.lent y x.after) e (c.answers t h) in
    let w = call_told (call_in x) t (line_in x) h.arises a.line in
    record { answers = a; counts = w.counts; truth = w.truth }

-- one question, by its contract alone
question_right : (q : Question) (s : Session) (t : Table) (r : Reply) → Holds s t → Replies q s r → QuestionRight q r t
question_right q s t r h c =
    let e = c.replies t h in
    record { replies = e; truth = subst⁻¹ (λ (y : Reply). LineTrue (reply_shown y) t) e (subst⁻¹ (λ (l : Line). LineTrue l t) (reply_shown_lem (reply_to q t)) (reply_told q t h.arises)) }

-- every call and question of a list, from a session that holds a table
pub all_right : (s : Session) (t : Table) (xs : List Event) → Holds s t → Served s xs → AllRight xs t
unfolding table_next
all_right s t xs h done = tt
all_right s t xs h (call d lent r lent' ys c rest) =
    let x : Exchange = record { asked = d; lent = lent; answered = r.answer; after = lent' } in
    (call_right x s t r h c refl, all_right r.session (table_after (call_in x) t) ys (c.holds t h) rest)
all_right s t xs h (ask q r ys c rest) = (question_right q s t r h c, all_right s t ys h rest)

-- so what is told, one behind the other, is the plain table's
told_right : (x : Event) (t : Table) → Right x t → told (operation_in x) t ≡ line_of x ∷ []
unfolding told
told_right (made x) t a = a.answers.line
told_right (posed q r) t a = ap (λ (l : Line). l ∷ []) (sym (reply_shown_lem (reply_to q t)) ∙ ap reply_shown (sym a.replies))

same_lines : (xs : List Event) (t : Table) → AllRight xs t → map line_of xs ≡ told_all (map operation_in xs) t
unfolding told_all
same_lines [] t a = refl
same_lines (x ∷ xs) t a =
    let t' = table_next (operation_in x) t in
    ap (λ (ls : List Line). line_of x ∷ ls) (same_lines xs t' a.1) ∙ ap (λ (ls : List Line). ls ++ told_all (map operation_in xs) t') (sym (told_right x t a.0))

-- of calls alone
calls_told : (xs : List Exchange) (t : Table) → told_all (map operation_in (map made xs)) t ≡ answer_lines (answers (map call_in xs) t)
unfolding told_all told table_next answers answer_lines
calls_told [] t = refl
calls_told (x ∷ xs) t = ap (λ (ls : List Line). answer_line (answer_to (call_in x) t) ++ ls) (calls_told xs (table_after (call_in x) t))

calls_lines : (xs : List Exchange) → map line_of (map made xs) ≡ map line_in xs
calls_lines [] = refl
calls_lines (x ∷ xs) = ap (λ (ls : List Line). line_in x ∷ ls) (calls_lines xs)

-- an answer that is no refusal is that of an accepted load
pub load_accepted : (l : Load) (lent : List ℕ) (r : Outcome) (lent' : List ℕ) → Loads l lent r lent' → NoRefusal r.answer → load_trial l (length lent) ≡ accepted
unfolding load_answer answer_line
load_accepted l lent r lent' a y = by_trial (load_trial l (length lent)) r.answer a.answers.line y
  where
    by_trial : (x : Trial) (b : Answer) → answer_line (load_answer x (table_of l)) ≡ shown b lent' ∷ [] → NoRefusal b → x ≡ accepted
    by_trial accepted b e y = refl
    by_trial (refused n) b e y = absurd (subst NoRefusal (shown_refused b lent' n e) y)

-- DEMAND 3
pub demand_3 : (l : Load) (lent : List ℕ) (r : Outcome) (lent' : List ℕ) → Loads l lent r lent' → NoRefusal r.answer
    → (xs : List Event) → Served r.session xs → Demand3 l lent r lent' xs
demand_3 l lent r lent' a y xs w =
    let e = load_accepted l lent r lent' a y in
    let told : Answered (load_answer accepted (table_of l)) lent r.answer lent' = subst (λ (x : Trial). Answered (load_answer x (table_of l)) lent r.answer lent') e a.answers in
    let right = all_right r.session (table_of l) xs (a.holds e) w in
    record {
      load_answers = told;
      load_truth = load_told l (length lent) (shown r.answer lent') e told.line;
      same_told = same_lines xs (table_of l) right;
      all_right = right;
    }

-- what follows for one follows for each
each_event : (P Q : Event → Table → Type 0) → ((x : Event) (t : Table) → P x t → Q x t) → (xs : List Event) (t : Table) → EachEvent P xs t → EachEvent Q xs t
each_event P Q f [] t h = tt
each_event P Q f (x ∷ xs) t h = (f x t h.0, each_event P Q f xs (table_next (operation_in x) t) h.1)

right_true : (x : Event) (t : Table) → Right x t → LineTrue (line_of x) (table_next (operation_in x) t)
unfolding table_next
right_true (made x) t a = a.truth
right_true (posed q r) t a = a.truth

-- Ticket 1: it follows from what is told being true
pub loops_told : (l : Load) (lent : List ℕ) (r : Outcome) (lent' : List ℕ) → Loads l lent r lent' → NoRefusal r.answer
    → (xs : List Event) → Served r.session xs → LoopsTold l r lent' xs
loops_told l lent r lent' a y xs w =
    let d = demand_3 l lent r lent' a y xs w in
    record {
      load = loop_told (shown r.answer lent') (table_of l) d.load_truth;
      calls = each_event Right _ (λ x t c. loop_told (line_of x) (table_next (operation_in x) t) (right_true x t c)) xs (table_of l) d.all_right;
    }

-- ---- ticket 5

-- an answer that is no refusal is that of an accepted call
pub answered_accepted : (c : Call) (t : Table) (lent : List ℕ) (r : Answer) (lent' : List ℕ) → Answered (answer_to c t) lent r lent' → NoRefusal r → trial_of c t ≡ accepted
unfolding answer_line
answered_accepted c t lent r lent' w y = by_trial (trial_of c t) refl
  where
    by_trial : (x : Trial) → trial_of c t ≡ x → trial_of c t ≡ accepted
    by_trial accepted e = e
    by_trial (refused n) e = absurd (told_refused r lent' _ (sym (ap answer_line (answer_refused c t n e)) ∙ w.line) y)

call_accepted : (c : Command) (s : Session) (t : Table) (lent : List ℕ) (r : Outcome) (lent' : List ℕ) → Holds s t → Updates c s lent r lent' → NoRefusal r.answer
    → trial_of (call_of c lent) t ≡ accepted
call_accepted c s t lent r lent' h w y = answered_accepted (call_of c lent) t lent r.answer lent' (w.answers t h) y

-- a batch of one change is that change
pub batch_of_one : (c : Change) (s : Session) (t : Table) → Holds s t → (lent : List ℕ) (r r₂ : Outcome) (lent' lent₂ : List ℕ)
    → Updates (update (batch (makes c ∷ []))) s lent r lent' → Updates (update (single c)) s lent r₂ lent₂ → NoRefusal r₂.answer → SameCall (update (batch (makes c ∷ []))) (update (single c)) lent t r r₂ lent' lent₂
batch_of_one c s t h lent r r₂ lent' lent₂ w v y =
    let one = as_one c t (length lent) h.arises in
    let same = one.same_answer (call_accepted (update (single c)) s t lent r₂ lent₂ h v y) in
    let both = answered_once (answer_to (call_of (update (single c)) lent) t) lent r.answer r₂.answer lent' lent₂
    (subst (λ (a : PlainAnswer). Answered a lent r.answer lent') same (w.answers t h)) (v.answers t h) in
    record {
      same_answer = both.0;
      same_list = both.1;
      same_table = one.same_table;
      holds = subst (λ (x : Table). Holds r.session x) one.same_table (w.holds t h);
      holds₂ = v.holds t h;
    }

-- an accepted batch and its changes one by one
pub batch_one_by_one : (xs : List BatchLine) (s : Session) (t : Table) → Holds s t → (lent : List ℕ) (r : Outcome) (lent' : List ℕ) → Updates (update (batch xs)) s lent r lent' → NoRefusal r.answer
    → (ys : List Exchange) → Served s (map made ys) → map call_in ys ≡ map (call_for (length lent)) (changes_in xs) → SameEnd xs lent t r lent' ys
batch_one_by_one xs s t h lent r lent' w y ys v e = record {
  plain = one_by_one xs t (length lent) h.arises (call_accepted (update (batch xs)) s t lent r lent' h w y);
  batch_tells = (w.answers t h).line;
  batch_holds = w.holds t h;
  changes_tell = sym (calls_lines ys) ∙ same_lines (map made ys) t (all_right s t (map made ys) h v) ∙ calls_told ys t ∙ ap (λ (cs : List Call). answer_lines (answers cs t)) e;
}
