-- TICKETS 7 AND 10 on the contracts of the session's operations: what the plain table's theorems say of the calls that were made. Assumes nothing.
use mathlib.Core.Path.{◌≡◌, refl, sym, ap, ap₂, subst, subst⁻¹, ◌∙◌}
use Prim.Native.Nat.{ℕ}
use mathlib.Core.List.{List, [], ◌∷◌, ◌++◌, append_assoc, map, nil≢cons, cons≢nil, head-eq_of_cons-eq, tail-eq_of_cons-eq}
use native.Mathlib.Omega.{arith}
use lib.ListN.{length}
use Rattle.plain.specs.Search.{Verdict, none, lasso, unfinished}
use Rattle.plain.specs.Table.{Table}
use Rattle.plain.specs.Refusals.{Trial, accepted}
use Rattle.plain.specs.Machine.{Change, add, cut, single, changes_of, to_kinds, Command, update, set_kinds, Answer as PlainAnswer, answer, load_answer, table_of, written, Call, call_for, trial_of, answer_to, table_after, answers, Line, answer_line}
use Rattle.plain.specs.Questions.{Question, reply_to, table_next}
use Rattle.plain.specs.Claims.{totalled, load_from, table_behind, last_of}
use Rattle.plain.specs.Games.{game_h}
use Rattle.plain.specs.Orders.{AnsweredAlike, Apart, Permutation, nothing, first, asked_by, changes_asked, IsUpdate, Switching, EachAccepted, add_and_cut, total_line}
use Rattle.plain.proofs.Answers.{first_line}
use Rattle.plain.proofs.Calls.{fresh_reports, answer_accepted, after_reports, as_loaded}
use Rattle.plain.proofs.Orders.{line_totalled, written_totalled, any_orders, brings_back, cut_follows, need_not}
use Rattle.verdict.specs.declared.Answer.{Answer}
use Rattle.verdict.specs.declared.Answer.TheVariants.{Refused, Clear, Round}
use Rattle.verdict.specs.Answers.{shown, NoRefusal, Answered}
use Rattle.verdict.proofs.Told.{answered_once}
use Rattle.question.specs.declared.Reply.{Reply}
use Rattle.question.specs.Replies.{replied}
use Rattle.session.specs.declared.Session.{Session}
use Rattle.session.specs.Promises.{call_of, Holds, Exchange, Event, made, posed, call_in, Served, CallRight, QuestionRight, AllRight}
use Rattle.session.proofs.Demand3.{all_right, load_accepted, answered_accepted}
use Rattle.orders.specs.Sessions.{NoneRefused, Given, to_call, to_question, given_to, calls_in, asked_in, SameTold, TwoOrders, AnyOrders, LastTold, by_load, by_call, left, BringsBack, CutFollows, NeedNot, AsLoad}

-- ---- calls, one behind the other

right_split : (xs ys : List Event) (t : Table) → AllRight (xs ++ ys) t → AllRight xs t × AllRight ys (table_behind (calls_in xs) t)
unfolding table_behind table_next
right_split [] ys t a = (tt, a)
right_split (made x ∷ xs) ys t a = let w = right_split xs ys (table_after (call_in x) t) a.1 in ((a.0, w.0), w.1)
right_split (posed q r ∷ xs) ys t a = let w = right_split xs ys t a.1 in ((a.0, w.0), w.1)

-- the plain table accepts what was not refused
each_accepted : (xs : List Event) (t : Table) → AllRight xs t → NoneRefused xs → EachAccepted (calls_in xs) t
unfolding table_next
each_accepted [] t a n = tt
each_accepted (made x ∷ xs) t a n =
    (answered_accepted (call_in x) t x.lent x.answered x.after a.0.answers n.0, each_accepted xs (table_after (call_in x) t) a.1 n.1)
each_accepted (posed q r ∷ xs) t a n = each_accepted xs t a.1 n

calls_append : (xs ys : List Event) → calls_in (xs ++ ys) ≡ calls_in xs ++ calls_in ys
calls_append [] ys = refl
calls_append (made x ∷ xs) ys = ap (λ (cs : List Call). call_in x ∷ cs) (calls_append xs ys)
calls_append (posed q r ∷ xs) ys = calls_append xs ys

last_answer : (before : PlainAnswer) (cs : List Call) (c : Call) (t : Table) → last_of before (answers (cs ++ (c ∷ [])) t) ≡ answer_to c (table_behind cs t)
unfolding last_of answers table_behind
last_answer before [] c t = refl
last_answer before (d ∷ cs) c t = last_answer (answer_to d t) cs c (table_after d t)

-- ---- equal answers of the plain table, as they are told

-- an answer's line, its looks taken together
total_told : (a : PlainAnswer) (lent : List ℕ) (r : Answer) (lent' : List ℕ) → Answered a lent r lent' → answer_line (totalled a) ≡ total_line (shown r lent') ∷ []
total_told a lent r lent' w = line_totalled a ∙ ap (map total_line) w.line

told_alike : (a b : PlainAnswer) (x y : Exchange) → totalled a ≡ totalled b → Answered a x.lent x.answered x.after → Answered b y.lent y.answered y.after → SameTold x y
unfolding first_line
told_alike a b x y e v w = record {
  same_line = ap first_line (sym (total_told a x.lent x.answered x.after v) ∙ ap answer_line e ∙ total_told b y.lent y.answered y.after w);
  same_list = λ l. v.list ∙ sym (written_totalled a x.lent) ∙ (λ i. written (e i) (l i)) ∙ written_totalled b y.lent ∙ sym w.list;
}

-- ---- what is asked behind

-- what is answered alike on two tables is answered alike behind a call
alike_after : (t u : Table) → AnsweredAlike t u → (c : Call) → AnsweredAlike (table_after c t) (table_after c u)
unfolding answers table_behind
alike_after t u w c = record { same_answers = λ cs. tail-eq_of_cons-eq (w.same_answers (c ∷ cs)); same_replies = λ cs q. w.same_replies (c ∷ cs) q }

one_given : (x y : Exchange) (a : PlainAnswer) → x.asked ≡ y.asked → x.lent ≡ y.lent → Answered a x.lent x.answered x.after → Answered a y.lent y.answered y.after → x ≡ y
one_given x y a asked lent v w =
    let both = answered_once a y.lent x.answered y.answered x.after y.after (subst (λ (l : List ℕ). Answered a l x.answered x.after) lent v) w in
    λ i. record { asked = asked i; lent = lent i; answered = both.0 i; after = both.1 i }

-- a call and a question are given other things
no_question : (u : Command) (lent : List ℕ) (q : Question) → to_call u lent ≡ to_question q → ⊥
no_question u lent q e = let z : ◌≡◌ {A = ℕ} 0 1 = cc in omega arith

command_in : Given → Command
command_in (to_call u lent) = u
command_in (to_question q) = set_kinds 0

lent_in : Given → List ℕ
lent_in (to_call u lent) = lent
lent_in (to_question q) = []

-- one call, one question
same_call : (x y : Exchange) (t u : Table) → AnsweredAlike t u → CallRight x t → CallRight y u → given_to (made x) ≡ given_to (made y) → x ≡ y
unfolding answers command_in lent_in
same_call x y t u w a b g =
    let asked : x.asked ≡ y.asked = ap command_in g in
    let lent : x.lent ≡ y.lent = ap lent_in g in
    let c : call_in x ≡ call_in y = λ i. record { command = asked i; room = length (lent i) } in
    let told = head-eq_of_cons-eq (w.same_answers (call_in x ∷ [])) ∙ ap (λ (d : Call). answer_to d u) c in
    one_given x y (answer_to (call_in y) u) asked lent (subst (λ (p : PlainAnswer). Answered p x.lent x.answered x.after) told a.answers) b.answers

same_reply : (p q : Question) (r s : Reply) (t u : Table) → AnsweredAlike t u → QuestionRight p r t → QuestionRight q s u → given_to (posed p r) ≡ given_to (posed q s) → posed p r ≡ posed q s
unfolding table_behind
same_reply p q r s t u w a b g =
    let asked : p ≡ q = cc in
    λ i. posed (asked i) ((a.replies ∙ ap replied (w.same_replies [] p ∙ ap (λ (x : Question). reply_to x u) asked) ∙ sym b.replies) i)

-- so what is given the same is answered alike
same_later : (xs ys : List Event) (t u : Table) → AllRight xs t → AllRight ys u → AnsweredAlike t u → map given_to xs ≡ map given_to ys → xs ≡ ys
unfolding table_next
same_later [] [] t u a b w g = refl
same_later [] (y ∷ ys) t u a b w g = absurd (nil≢cons g)
same_later (x ∷ xs) [] t u a b w g = absurd (cons≢nil g)
same_later (made x ∷ xs) (posed q r ∷ ys) t u a b w g = absurd (no_question x.asked x.lent q (head-eq_of_cons-eq g))
same_later (posed q r ∷ xs) (made y ∷ ys) t u a b w g = absurd (no_question y.asked y.lent q (sym (head-eq_of_cons-eq g)))
same_later (made x ∷ xs) (made y ∷ ys) t u a b w g =
    let here : x ≡ y = same_call x y t u w a.0 b.0 (head-eq_of_cons-eq g) in
    let rest : xs ≡ ys = same_later xs ys (table_after (call_in x) t) (table_after (call_in x) u) a.1 (subst⁻¹ (λ (z : Exchange). AllRight ys (table_after (call_in z) u)) here b.1) (alike_after t u w (call_in x)) (tail-eq_of_cons-eq g) in
    ap₂ (λ (z : Exchange) (zs : List Event). made z ∷ zs) here rest
same_later (posed p r ∷ xs) (posed q s ∷ ys) t u a b w g =
    ap₂ (λ (z : Event) (zs : List Event). z ∷ zs) (same_reply p q r s t u w a.0 b.0 (head-eq_of_cons-eq g)) (same_later xs ys t u a.1 b.1 w (tail-eq_of_cons-eq g))

-- ---- ANY ORDERS

-- calls from a session on, up to one that is the last of an order
module _ (s : Session) (t : Table) (h : Holds s t) (xs : List Event) (x : Exchange) (later : List Event) (served : Served s (xs ++ (made x ∷ later))) where
  abbrev calls : List Call
  calls = calls_in (xs ++ (made x ∷ []))

  whole : AllRight ((xs ++ (made x ∷ [])) ++ later) t
  whole = subst⁻¹ (λ (l : List Event). AllRight l t) (append_assoc xs (made x ∷ []) later) (all_right s t (xs ++ (made x ∷ later)) h served)

  rest : AllRight later (table_behind calls t)
  rest = (right_split (xs ++ (made x ∷ [])) later t whole).1

  taken : NoneRefused (xs ++ (made x ∷ [])) → EachAccepted calls t
  taken n = each_accepted (xs ++ (made x ∷ [])) t (right_split (xs ++ (made x ∷ [])) later t whole).0 n

  last_right : Answered (last_of (load_answer accepted t) (answers calls t)) x.lent x.answered x.after
  last_right =
      let b = (right_split xs (made x ∷ []) t (right_split (xs ++ (made x ∷ [])) later t whole).0).1.0.answers in
      let e : last_of (load_answer accepted t) (answers calls t) ≡ answer_to (call_in x) (table_behind (calls_in xs) t) =
      ap (λ (cs : List Call). last_of (load_answer accepted t) (answers cs t)) (calls_append xs (made x ∷ [])) ∙ last_answer (load_answer accepted t) (calls_in xs) (call_in x) t in
      subst⁻¹ (λ (p : PlainAnswer). Answered p x.lent x.answered x.after) e b

pub sessions_any_orders : AnyOrders
sessions_any_orders s t h xs x later served n ys y later₂ served₂ n₂ v v₂ apart order =
    let w = any_orders t (calls_in (xs ++ (made x ∷ []))) (calls_in (ys ++ (made y ∷ []))) h.arises v v₂ apart order (taken s t h xs x later served n) (taken s t h ys y later₂ served₂ n₂) in
    record {
      same_told = told_alike _ _ x y (w.same_report (load_answer accepted t) (fresh_reports t)) (last_right s t h xs x later served) (last_right s t h ys y later₂ served₂);
      same_after = same_later later later₂ _ _ (rest s t h xs x later served) (rest s t h ys y later₂ served₂) w.same_after;
    }

-- ---- TWO ORDERS

-- two calls that ask for one change each
two_asked : (x y : Exchange) (c d : Change) → x.asked ≡ update (single c) → y.asked ≡ update (single d) → asked_in (made x ∷ made y ∷ []) ≡ c ∷ d ∷ []
unfolding changes_asked changes_of
two_asked x y c d e f = (λ i. asked_by (e i) ++ (asked_by (f i) ++ []))

two_switching : (x y : Exchange) (c d : Change) → x.asked ≡ update (single c) → y.asked ≡ update (single d) → Switching (calls_in (made x ∷ made y ∷ []))
two_switching x y c d e f = (subst⁻¹ IsUpdate e tt, (subst⁻¹ IsUpdate f tt, tt))

pub sessions_two_orders : TwoOrders
sessions_two_orders s t h c d apart x y e f served n x₂ y₂ e₂ f₂ served₂ n₂ =
    let one = two_asked x y c d e f in
    let other = two_asked x₂ y₂ d c e₂ f₂ in
    let order : Permutation (c ∷ d ∷ []) (d ∷ c ∷ []) = first c (d ∷ []) (d ∷ []) [] (first d [] [] [] nothing) in
    (sessions_any_orders s t h (made x ∷ []) y [] served n (made x₂ ∷ []) y₂ [] served₂ n₂ (two_switching x y c d e f) (two_switching x₂ y₂ d c e₂ f₂) (subst⁻¹ Apart one apart) (rw (one, other) order)).same_told

-- ---- there and back

-- what a session holds whose last verdict was told, and what was told
record Told (s : Session) (t : Table) (l : Line) : Type 0 where
  pub holds : Holds s t
  pub line : answer_line (load_answer accepted t) ≡ total_line l ∷ []

told_of : (s : Session) (t : Table) (l : Line) → LastTold s t l → Told s t l
told_of s t l (by_load load lent r lent' w n) =
    let e = load_accepted load lent r lent' w n in
    record {
      holds = w.holds e;
      line = ap answer_line (sym (fresh_reports (table_of load))) ∙ total_told (load_answer accepted (table_of load)) lent r.answer lent' (subst (λ (x : Trial). Answered (load_answer x (table_of load)) lent r.answer lent') e w.answers);
    }
told_of s t l (by_call old u asked lent r lent' h w n) =
    let c = call_of asked lent in
    let e = answered_accepted c u lent r.answer lent' (w.answers u h) n in
    record {
      holds = w.holds u h;
      line = ap answer_line (sym (after_reports c u h.arises e)) ∙ total_told (answer_to c u) lent r.answer lent' (w.answers u h);
    }
told_of s t l (left old u m asked lent r lent' before w n e) = subst⁻¹ (λ (x : Session). Told x u m) (w.refused n e).0 (told_of old u m before)

-- the two calls
two_calls : (c d : Change) (x y : Exchange) → x.asked ≡ update (single c) → y.asked ≡ update (single d) → calls_in (made x ∷ made y ∷ []) ≡ call_for (length x.lent) c ∷ call_for (length y.lent) d ∷ []
two_calls c d x y p q = λ i. record { command = p i; room = length x.lent } ∷ record { command = q i; room = length y.lent } ∷ []

pub sessions_bring_back : BringsBack
unfolding first_line last_of answers table_behind
sessions_bring_back s t l before e x y later p q served n =
    let told = told_of s t l before in
    let each : EachAccepted (add_and_cut (length x.lent) (length y.lent) e) t = subst (λ (cs : List Call). EachAccepted cs t) (two_calls (add e) (cut e) x y p q) (taken s t told.holds (made x ∷ []) y later served n) in
    let back = brings_back t e (length x.lent) (length y.lent) told.holds.arises each in
    let same : table_behind (calls_in (made x ∷ made y ∷ [])) t ≡ t = ap (λ (cs : List Call). table_behind cs t) (two_calls (add e) (cut e) x y p q) ∙ back.same_table in
    let report : totalled (last_of (load_answer accepted t) (answers (calls_in (made x ∷ made y ∷ [])) t)) ≡ load_answer accepted t =
    ap (λ (cs : List Call). totalled (last_of (load_answer accepted t) (answers cs t))) (two_calls (add e) (cut e) x y p q) ∙ back.same_report (load_answer accepted t) (fresh_reports t) ∙ fresh_reports t in
    record {
      same_line = ap first_line (sym (total_told _ y.lent y.answered y.after (last_right s t told.holds (made x ∷ []) y later served)) ∙ ap answer_line report ∙ told.line);
      same_after = λ later₂ served₂ given. same_later later later₂ _ t (rest s t told.holds (made x ∷ []) y later served) (all_right s t later₂ told.holds served₂)
          (record { same_answers = λ cs. ap (answers cs) same; same_replies = λ cs q. ap (λ (u : Table). reply_to q (table_behind cs u)) same }) given;
    }

-- of game H
pub sessions_need_not : NeedNot
unfolding first_line
sessions_need_not lent r lent' w n x y p q served k same =
    let t = table_of game_h.load in
    let told = told_of r.session t (shown r.answer lent') (by_load game_h.load lent r lent' w n) in
    let calls = two_calls (cut (0, 1)) (add (0, 1)) x y p q in
    let each = subst (λ (cs : List Call). EachAccepted cs t) calls (taken r.session t told.holds (made x ∷ []) y [] served k) in
    need_not.other_line (length x.lent) (length y.lent) each
    (ap (λ (cs : List Call). answer_line (totalled (last_of (load_answer accepted t) (answers cs t)))) (sym calls)
    ∙ total_told _ y.lent y.answered y.after (last_right r.session t told.holds (made x ∷ []) y [] served)
    ∙ ap (λ (l : Line). l ∷ []) same ∙ sym told.line)

-- ---- the cut is not refused where the add is not

-- an accepted call's answer is no refusal
accepted_told : (v : Verdict) (spent kept : ℕ) (r : Answer) (list : List ℕ) → answer_line (answer v spent kept) ≡ shown r list ∷ [] → NoRefusal r
unfolding answer_line shown
accepted_told v spent kept (Clear a b) list e = tt
accepted_told v spent kept (Round a b c d) list e = tt
accepted_told none spent kept (Refused n) list e = let z : ◌≡◌ {A = ℕ} 0 1 = cc in omega arith
accepted_told (lasso stem cycle) spent kept (Refused n) list e = let z : ◌≡◌ {A = ℕ} 0 1 = cc in omega arith
accepted_told unfinished spent kept (Refused n) list e = let z : ◌≡◌ {A = ℕ} 0 1 = cc in omega arith

pub sessions_cut_follows : CutFollows
unfolding table_after table_next
sessions_cut_follows s t h e x y p q served longer n =
    let right = all_right s t (made x ∷ made y ∷ []) h served in
    let a : trial_of (call_in x) t ≡ accepted = answered_accepted (call_in x) t x.lent x.answered x.after right.0.answers n in
    let calls = two_calls (add e) (cut e) x y p q in
    let each : EachAccepted (calls_in (made x ∷ made y ∷ [])) t = subst⁻¹ (λ (cs : List Call). EachAccepted cs t) calls
    (cut_follows t e (length x.lent) (length y.lent) longer (subst (λ (u : Command). trial_of (record { command = u; room = length x.lent }) t ≡ accepted) p a)) in
    accepted_told _ _ _ y.answered y.after (sym (ap answer_line (answer_accepted (call_in y) (table_after (call_in x) t) each.1.0)) ∙ right.1.0.answers.line)

-- ---- ANOTHER COUNT OF KINDS

pub sessions_as_load : AsLoad
sessions_as_load s t h k lent r lent' w r₂ lent₂ v =
    let c = call_of (set_kinds k) lent in
    let u = table_of (load_from (to_kinds k t)) in
    let same = as_loaded k t (length lent) h.arises in
    let both = answered_once (answer_to c t) lent r.answer r₂.answer lent' lent₂ (w.answers t h)
    (subst⁻¹ (λ (a : PlainAnswer). Answered a lent r₂.answer lent₂) same.same_answer v.answers) in
    record {
      same_answer = both.0;
      same_list = both.1;
      same_after = λ n later later₂ served served₂ given.
          let e : trial_of c t ≡ accepted = answered_accepted c t lent r.answer lent' (w.answers t h) n in
          let held : Holds r.session u = subst (Holds r.session) (same.same_table e) (w.holds t h) in
          same_later later later₂ u u (all_right r.session u later held served) (all_right r₂.session u later₂ (v.holds (sym same.same_trial ∙ e)) served₂)
          (record { same_answers = λ cs. refl; same_replies = λ cs q. refl }) given;
    }
