-- One line: what the functions of a line do, taken together, is the plain definition's step. Assumes nothing.
use Prim.Native.Nat.{ℕ, zero, suc, ◌+◌, ◌*◌, ◌-◌, ◌/◌, ◌≤◌, ◌<◌}
use mathlib.Core.Path.{◌≡◌, refl, sym, ap, subst, subst⁻¹, ◌∙◌}
use mathlib.Core.Logic.{⊎_elim}
use mathlib.Core.Bool.{Bool, true, false, ◌&&◌, not, cond, and_comm, true≢false}
use mathlib.Core.List.{List, [], ◌∷◌, ◌++◌}
use native.Mathlib.Omega.{arith}
use native.Mathlib.Decide.{dec_le}
use borrow.Author.Tests.{eq-eqb, ne_eqb, lt-ltb, le-leb, lt-leb, leb-false}
use lib.Dec.{eqb, ltb}
use lib.ListN.{length, take, replicate, length-append, length-take, length-replicate, length-set}
use lib.Seq.{take_all, take-append-le, length-take-le}
use Rattle.plain.specs.Search.{Edge, Verdict, none, lasso, unfinished, verdict, count}
use Rattle.plain.specs.Table.{printed_verdict, final, with_mark, by_kind, accepting_count}
use Rattle.plain.specs.Refusals.{Trial, accepted, refused, flat, load_trial}
use Rattle.plain.specs.Machine.{BatchLine, makes, other, single, batch, Command, update, set_kinds, Answer as PlainAnswer, answer, in_kind, load_answer, table_of, answer_to, Line, game_line, round_line, none_line, no_line, ways_line, short_line, no_round_line, answer_line}
use Rattle.plain.specs.Questions.{reply_to}
use Rattle.plain.proofs.Tests.{either, and-true}
use Rattle.plain.proofs.OneByOne.{held_call}
use Rattle.line.specs.Words.{is_word}
use Rattle.line.specs.declared.Word.TheVariants.{Game, Pay, Move, Go, Kinds}
use Rattle.line.specs.declared.Word.{Word}
use Rattle.line.specs.declared.Word.TheVariants as W
use Rattle.line.specs.declared.Record.{Record}
use Rattle.line.proofs.Paying.{PayFits, other_word}
use Rattle.verdict.specs.declared.Answer.{Answer}
use Rattle.verdict.specs.declared.Answer.TheVariants.{Refused, Clear, Round}
use Rattle.verdict.specs.Answers.{LoadAnswered, is_refused, shown}
use Rattle.question.specs.declared.Question.{Question}
use Rattle.question.specs.declared.Reply.{Reply}
use Rattle.question.specs.Replies.{question_of, reply_shown}
use Rattle.question.proofs.Replies.{reply_shown_lem}
use Rattle.session.specs.declared.Session.{Session}
use Rattle.session.specs.declared.Outcome.{Outcome}
use Rattle.batch.specs.declared.BatchLine.{BatchLine as CodedLine}
use Rattle.table.specs.Trials.{change_of}
use Rattle.batch.specs.Batches.{line_in, lines_in}
use Rattle.batch.proofs.Batches.{line_makes}
use Rattle.session.specs.Promises.{Holds, Loads, Updates}
use Rattle.lead.specs.declared.Stage.{Stage}
use Rattle.lead.specs.declared.Stage.TheVariants.{Waiting, Opened, Gathering, Playing, Batching, Over}
use Rattle.lead.specs.declared.Lead.{Lead}
use Rattle.lead.specs.declared.Ask.TheVariants.{Load as AskLoad}
use Rattle.lead.specs.declared.Task.{Task}
use Rattle.lead.specs.declared.Task.TheVariants.{Nothing, Refuse, Ask as Asks, Question as Questions}
use Rattle.lead.specs.declared.Plan.{Plan}
use Rattle.lead.specs.declared.Request.{Request as LeadRequest}
use Rattle.lead.specs.declared.Request.TheVariants as R
use Rattle.lead.specs.Asked.{numbers_most, staged, no_task, refusing, loading, questioning as leadQuestioning, ending as endingPlan, batching as leadBatching, is_full, asked_first, asked_move, asked_before, asked_opened, request_by, request_of as leadRequest, plan_for, asked_after, held_most, holding, asked_inside, asked_at, asked, gathers_pay, takes_pay, filed_pay, gathers_move, takes_move, inside_line, takes_line, line_from, line_read, numbers_of, filed}
use Rattle.lead.proofs.Asking.{taken_at, held, not_held}
use Rattle.lead.proofs.Filing.{pay_not, no_pay_at, numbers_kept, move_put, line_put}
use Rattle.watch.specs.Text.{Draft, Play, Held, waiting, opened, gathering, playing, batching, ended, Step, quiet, no_step, empty, room, load_step, load_of, draft_of, with_kinds, with_pay, with_move, move_most, call_step, question_step, Request, changing as changes, beginning, ending, setting_kinds, questioning, unknown, request_of, play_step, batch_step, in_batch, at_first, before_go, behind_game, after_go, step}
use Rattle.watch.proofs.Marks.{kind_marked}
use Rattle.watch.specs.Model.{gathered, Serves, Replied, lines_for, lead_for}

-- what is lent beside the lead: the marks, eight words for each kind, and the list of numbers
pub record Lent : Type 0 where
  pub marks : List ℕ
  pub numbers : List ℕ

abbrev pub lent_to : List ℕ → List ℕ → Lent
lent_to marks numbers = record { marks = marks; numbers = numbers }

-- behind a line
abbrev pub filed_in : Lead → Record → Lent → Lent
filed_in l r y = lent_to (filed_pay l r y.marks) (filed l r y.numbers)

-- the lead, at a stage before `go`, and what is lent beside it stand for what is gathered
pub record Gathers (g : Stage) (l : Lead) (y : Lent) (d : Draft) : Type 0 where
  pub stage : l.stage ≡ g
  pub size : l.size ≡ d.size
  pub start : l.start ≡ d.start
  pub kinds : l.kinds ≡ d.kinds
  pub sized : length y.marks ≡ 32
  pub marks : by_kind y.marks ≡ d.marks
  pub count : l.count ≡ 2 * length d.moves
  pub moves : take l.count y.numbers ≡ flat d.moves

-- so many lines of a batch are held: the others are not looked at
abbrev lines_held : ℕ
lines_held = 65

-- the lead and the list of numbers stand for the lines of an open batch, as far as they are held
pub record Collects (l : Lead) (y : Lent) (xs : List BatchLine) : Type 0 where
  pub stage : l.stage ≡ Batching
  pub count : l.count ≡ 3 * length (take lines_held xs)
  pub lines : lines_in (take l.count y.numbers) ≡ take lines_held xs

-- The lead, what is lent beside it and the session stand for what the plain definition holds. Before the first line no mark is set.
abbrev pub Tracks : Lead → Lent → Session → Held → Type 0
Tracks l y s waiting = (l.stage ≡ Waiting) × (y.marks ≡ replicate 32 0)
Tracks l y s (opened d) = Gathers Opened l y d × (d.moves ≡ [])
Tracks l y s (gathering d) = Gathers Gathering l y d
Tracks l y s (playing p) = (l.stage ≡ Playing) × Holds s p.table
Tracks l y s (batching p xs) = Collects l y xs × Holds s p.table
Tracks l y s ended = l.stage ≡ Over

-- what is asked of the session is served; where nothing is, the session stays
abbrev pub Follows : Task → Lead → Lent → Session → List ℕ → Outcome → List ℕ → Type 0
Follows Nothing l y s walk c walk' = c.session ≡ s
Follows (Refuse n) l y s walk c walk' = c.session ≡ s
Follows (Asks ask) l y s walk c walk' = Serves ask l y.marks y.numbers s walk c walk'
Follows (Questions q) l y s walk c walk' = c.session ≡ s

-- ---- an answer and its line

-- do the lines tell a refusal?
tells_no : List Line → Bool
tells_no [] = false
tells_no (game_line size moves paying ∷ ls) = false
tells_no (round_line spent kept stem cycle walk ∷ ls) = false
tells_no (none_line spent kept ∷ ls) = false
tells_no (no_line r ∷ ls) = true
tells_no (ways_line s leaving entering ∷ ls) = false
tells_no (short_line best least ∷ ls) = false
tells_no (no_round_line ∷ ls) = false

shown_no : (a : Answer) (walk : List ℕ) → is_refused a ≡ tells_no (shown a walk ∷ [])
unfolding shown tells_no
shown_no (Refused r) walk = refl
shown_no (Clear spent kept) walk = refl
shown_no (Round spent kept stem cycle) walk = refl

verdict_yes : (v : Verdict) (spent kept : ℕ) → tells_no (answer_line (answer v spent kept)) ≡ false
unfolding answer_line tells_no
verdict_yes none spent kept = refl
verdict_yes (lasso stem cycle) spent kept = refl
verdict_yes unfinished spent kept = refl

-- an answer refuses where the plain one's line does
refused_as : (a : PlainAnswer) (b : Answer) (walk : List ℕ) → answer_line a ≡ shown b walk ∷ [] → is_refused b ≡ tells_no (answer_line a)
refused_as a b walk e = shown_no b walk ∙ ap tells_no (sym e)

-- ---- the moves so far

no_moves : (moves : List Edge) → empty moves ≡ true → moves ≡ []
no_moves [] e = refl
no_moves (m ∷ ms) e = absurd (true≢false (sym e))

-- the tests of the code on the count of numbers are those on the moves
pub count_empty : (n : ℕ) (moves : List Edge) → n ≡ 2 * length moves → eqb n 0 ≡ empty moves
count_empty n [] e = eq-eqb n 0 e
count_empty n (m ∷ ms) e = ne_eqb n 0 (λ z. omega arith)

pub count_full : (l : Lead) (moves : List Edge) → l.count ≡ 2 * length moves → is_full l ≡ move_most moves
unfolding is_full
count_full l moves e = elim (dec_le 2048 (length moves)) [
  | yes h ↦ le-leb 4096 l.count (omega arith) ∙ sym (le-leb 2048 (length moves) h)
  | no h ↦ lt-leb 4096 l.count (omega arith) ∙ sym (lt-leb 2048 (length moves) (omega arith))
]

flat_append : (ms : List Edge) (e : Edge) → flat (ms ++ (e ∷ [])) ≡ flat ms ++ (e.0 ∷ e.1 ∷ [])
unfolding flat
flat_append [] e = refl
flat_append (m ∷ ms) e = ap (λ (ns : List ℕ). m.0 ∷ m.1 ∷ ns) (flat_append ms e)

-- ---- a load

-- what is to be loaded
pub gathered_is : (g : Stage) (l : Lead) (y : Lent) (d : Draft) → Gathers g l y d → gathered l y.marks y.numbers ≡ load_of d
gathered_is g l y d k = λ i. record { size = k.size i; start = k.start i; kinds = k.kinds i; marks = k.marks i; numbers = k.moves i }

-- behind a line that is no `pay`, what was gathered is the same
pub still_gathers : (g : Stage) (l : Lead) (r : Record) (y y' : Lent) (d : Draft) → y' ≡ filed_in l r y → takes_pay l r ≡ false → Gathers g l y d → Gathers g l y' d
still_gathers g l r y y' d f n k =
    let same : y'.marks ≡ y.marks = ap (λ (z : Lent). z.marks) f ∙ sym (pay_not l r y.marks n) in
    record {
      stage = k.stage;
      size = k.size;
      start = k.start;
      kinds = k.kinds;
      sized = ap length same ∙ k.sized;
      marks = ap by_kind same ∙ k.marks;
      count = k.count;
      moves = ap (λ (z : Lent). take l.count z.numbers) f ∙ numbers_kept l r y.numbers ∙ k.moves;
    }

-- its lines, by what trying it gives

abbrev is_no : Trial → Bool
is_no accepted = false
is_no (refused n) = true

pub load_lines : (x : Trial) (st : Stage) (l : Lead) (y : Lent) (d : Draft) (walk : List ℕ) (a : Answer) (reply : Reply) (walk' : List ℕ) → load_trial (load_of d) (length walk) ≡ x → Gathers st l y d
    → LoadAnswered (load_of d) walk a walk' → (is_refused a ≡ is_no x) × (lines_for (Asks AskLoad) l y.marks a reply walk' ≡ (load_step x d).lines)
unfolding load_answer answer_line tells_no
load_lines accepted st l y d walk a reply walk' k g lo =
    let t = table_of (load_of d) in
    let told : answer_line (load_answer accepted t) ≡ shown a walk' ∷ [] = rw k at lo.line in
    let yes : is_refused a ≡ false = refused_as (load_answer accepted t) a walk' told ∙ verdict_yes (printed_verdict t (verdict (final t))) (count (final t)) 0 in
    let half : l.count / 2 ≡ length d.moves = omega (arith, g.count) in (
      yes,
      ap (λ (b : Bool). cond b (shown a walk' ∷ []) (game_line l.size (l.count / 2) (accepting_count (by_kind y.marks)) ∷ shown a walk' ∷ [])) yes
          ∙ rw (g.size, g.marks, half) (ap (λ (ls : List Line). game_line d.size (length d.moves) (accepting_count d.marks) ∷ ls) (sym told)),
    )
load_lines (refused n) st l y d walk a reply walk' k g lo =
    let told : answer_line (load_answer (refused n) (table_of (load_of d))) ≡ shown a walk' ∷ [] = rw k at lo.line in
    let no : is_refused a ≡ true = refused_as (load_answer (refused n) (table_of (load_of d))) a walk' told in
    (no, ap (λ (b : Bool). cond b (shown a walk' ∷ []) (game_line l.size (l.count / 2) (accepting_count (by_kind y.marks)) ∷ shown a walk' ∷ [])) no ∙ sym told)

-- ---- what a line after `go` requests

-- in the plain table's terms
abbrev requested : LeadRequest → Request
requested (R.Change op) = changes (change_of op)
requested R.Begin = beginning
requested R.End = ending
requested (R.Kinds k) = setting_kinds k
requested (R.Question q) = questioning (question_of q)
requested R.Unknown = unknown

pub false_true : {A : Type 0} → false ≡ true → A
false_true e = absurd (true≢false (sym e))

-- the line of a batch that a request makes; `end` is none
abbrev batch_line : Request → BatchLine
batch_line (changes c) = makes c
batch_line beginning = other
batch_line ending = other
batch_line (setting_kinds k) = other
batch_line (questioning q) = other
batch_line unknown = other

by_word : (w : Word) (a b : ℕ) → requested (request_by w a b) ≡ request_of (record { word = w; first = a; second = b })
unfolding is_word request_of
by_word W.Game a b = refl
by_word W.Pay a b = refl
by_word W.Move a b = refl
by_word W.Go a b = refl
by_word W.Add a b = refl
by_word W.Cut a b = refl
by_word W.Mark a b = refl
by_word W.Unmark a b = refl
by_word W.Begin a b = refl
by_word W.End a b = refl
by_word W.Ways a b = refl
by_word W.Kinds a b = refl
by_word W.Short a b = refl
by_word W.Unreadable a b = refl

same_request : (r : Record) → requested (leadRequest r) ≡ request_of r
unfolding leadRequest
same_request r = by_word r.word r.first r.second

-- ---- a line inside a batch

-- the line as it is held, of what it requests
held_line : (q : LeadRequest) → line_in (line_from q) ≡ batch_line (requested q)
unfolding line_in
held_line (R.Change op) = line_makes op
held_line R.Begin = refl
held_line R.End = refl
held_line (R.Kinds k) = refl
held_line (R.Question q) = refl
held_line R.Unknown = refl

-- it is `end`, or it is held
record Inside (r : Record) : Type 0 where
  ends : is_word r.word W.End ≡ true → request_of r ≡ ending
  stays : is_word r.word W.End ≡ false → (p : Play) (xs : List BatchLine) → batch_step (request_of r) p xs ≡ quiet (batching p (xs ++ (batch_line (request_of r) ∷ [])))

inside : (w : Word) (a b : ℕ) → Inside (record { word = w; first = a; second = b })
unfolding is_word request_of
inside W.Game a b = record { ends = λ e. false_true e; stays = λ e p xs. refl }
inside W.Pay a b = record { ends = λ e. false_true e; stays = λ e p xs. refl }
inside W.Move a b = record { ends = λ e. false_true e; stays = λ e p xs. refl }
inside W.Go a b = record { ends = λ e. false_true e; stays = λ e p xs. refl }
inside W.Add a b = record { ends = λ e. false_true e; stays = λ e p xs. refl }
inside W.Cut a b = record { ends = λ e. false_true e; stays = λ e p xs. refl }
inside W.Mark a b = record { ends = λ e. false_true e; stays = λ e p xs. refl }
inside W.Unmark a b = record { ends = λ e. false_true e; stays = λ e p xs. refl }
inside W.Begin a b = record { ends = λ e. false_true e; stays = λ e p xs. refl }
inside W.End a b = record { ends = λ e. refl; stays = λ e. false_true (sym e) }
inside W.Kinds a b = record { ends = λ e. false_true e; stays = λ e p xs. refl }
inside W.Ways a b = record { ends = λ e. false_true e; stays = λ e p xs. refl }
inside W.Short a b = record { ends = λ e. false_true e; stays = λ e p xs. refl }
inside W.Unreadable a b = record { ends = λ e. false_true e; stays = λ e p xs. refl }

-- three numbers more are a line more
lines_append : (n : ℕ) (ns : List ℕ) (l : CodedLine) → length ns ≡ 3 * n → lines_in (ns ++ numbers_of l) ≡ lines_in ns ++ (line_in l ∷ [])
unfolding lines_in
lines_append n [] l e = refl
lines_append n (a ∷ []) l e = absurd (omega arith)
lines_append n (a ∷ b ∷ []) l e = absurd (omega arith)
lines_append zero (a ∷ b ∷ c ∷ ns) l e = absurd (omega arith)
lines_append (suc n) (a ∷ b ∷ c ∷ ns) l e = ap (λ (xs : List BatchLine). line_in (record { what = a; first = b; second = c }) ∷ xs) (lines_append n ns l (omega (arith, e)))

-- ---- one line

-- what comes of a plan is the step: what is held then, and the lines
module _ (y : Lent) (walk : List ℕ) (s : Session) (c : Outcome) (reply : Reply) (walk' : List ℕ) where
  abbrev Comes : Lead → Plan → Step → Type 0
  Comes l₀ p u = Follows p.task l₀ y s walk c walk' → Replied p.task c.session reply
      → Tracks (lead_for p.task p.lead c.answer) y c.session u.next × (lines_for p.task p.lead y.marks c.answer reply walk' ≡ u.lines)

  comes_cond : (l₀ : Lead) (b : Bool) (p q : Plan) (u v : Step) → (b ≡ true → Comes l₀ p u) → (b ≡ false → Comes l₀ q v) → Comes l₀ (cond b p q) (cond b u v)
  comes_cond l₀ true p q u v h k = h refl
  comes_cond l₀ false p q u v h k = k refl

  comes_quiet : (l₀ l : Lead) (q : Held) → Tracks l y s q → Comes l₀ (no_task l) (quiet q)
  comes_quiet l₀ l q h w v = (rw w h, refl)

  comes_refusing : (l₀ : Lead) (stage : Stage) (l : Lead) (n : ℕ) (q : Held) → Tracks (staged stage l) y s q → Comes l₀ (refusing stage l n) (no_step n q)
  unfolding shown
  comes_refusing l₀ stage l n q h w v = (rw w h, refl)

  -- a call is answered as the plain table answers it
  called : (x : Command) (l : Lead) (p : Play) → l.stage ≡ Playing → Holds s p.table → length walk ≡ room → Updates x s walk c walk'
      → Tracks l y c.session (call_step x p).next × (shown c.answer walk' ∷ [] ≡ (call_step x p).lines)
  called x l p h k e w =
      ((h, rw e at (w.holds p.table k)), sym (w.answers p.table k).line ∙ ap (λ (n : ℕ). answer_line (answer_to (record { command = x; room = n }) p.table)) e)

  -- the batch that is held is answered as the whole one
  comes_batch : (l : Lead) (xs : List BatchLine) (p : Play) → Collects l y xs → Holds s p.table → length walk ≡ room → Comes l (endingPlan l) (call_step (update (batch xs)) p)
  comes_batch l xs p g k e w v =
      let first = take lines_held xs in
      let u : Updates (update (batch first)) s walk c walk' = subst (λ (ys : List BatchLine). Updates (update (batch ys)) s walk c walk') g.lines w in
      let whole = held_call xs p.table room in (
        (refl, rw whole.1 at (rw e at (u.holds p.table k))),
        sym (u.answers p.table k).line ∙ ap (λ (n : ℕ). answer_line (answer_to (record { command = update (batch first); room = n }) p.table)) e ∙ ap answer_line whole.0,
      )

  -- a question is replied as the plain table replies, and all is as it was
  comes_question : (q : Question) (l : Lead) (p : Play) → l.stage ≡ Playing → Holds s p.table → Comes l (leadQuestioning q l) (question_step (question_of q) p)
  comes_question q l p h k w v =
      let held = subst⁻¹ (λ (x : Session). Holds x p.table) w k in
      ((h, held), ap (λ (x : Line). x ∷ []) (ap reply_shown (v.replies p.table held) ∙ reply_shown_lem (reply_to (question_of q) p.table)))

  -- a load, by what trying it gives
  load_by : (x : Trial) (g : Stage) (l : Lead) (d : Draft) → load_trial (load_of d) (length walk) ≡ x → Gathers g l y d → Loads (load_of d) walk c walk'
      → Tracks (lead_for (Asks AskLoad) l c.answer) y c.session (load_step x d).next × (lines_for (Asks AskLoad) l y.marks c.answer reply walk' ≡ (load_step x d).lines)
  load_by accepted g l d k h lo =
      let w = load_lines accepted g l y d walk c.answer reply walk' k h lo.answers in
      ((ap (λ (b : Bool). cond b Over Playing) w.0, lo.holds k), w.1)
  load_by (refused n) g l d k h lo =
      let w = load_lines (refused n) g l y d walk c.answer reply walk' k h lo.answers in
      (ap (λ (b : Bool). cond b Over Playing) w.0, w.1)

  comes_load : (g : Stage) (l : Lead) (d : Draft) → Gathers g l y d → length walk ≡ room → Comes l (loading l) (load_step (load_trial (load_of d) room) d)
  comes_load g l d h e w v =
      load_by (load_trial (load_of d) room) g l d (ap (load_trial (load_of d)) e) h (rw (gathered_is g l y d h) at w)

  -- ---- by what is held

  -- y₀ is what is lent as the line finds it: no mark is set
  first_line : (y₀ : Lent) (l : Lead) (r : Record) → l.stage ≡ Waiting → y₀.marks ≡ replicate 32 0 → y ≡ filed_in l r y₀ → Comes l (asked_first l r) (at_first r)
  unfolding asked_first at_first flat by_kind
  first_line y₀ l r h z f =
      let none : y.marks ≡ replicate 32 0 = ap (λ (x : Lent). x.marks) f ∙ sym (no_pay_at l r Waiting h refl y₀.marks) ∙ z in
      comes_cond l (is_word r.word Game) _ _ _ _
      (λ b. comes_quiet l _ (opened (draft_of r)) (record { stage = refl; size = refl; start = refl; kinds = refl; sized = ap length none ∙ length-replicate {A = ℕ} 32 0; marks = ap by_kind none; count = refl; moves = refl }, refl))
      (λ b. comes_refusing l Over l 1 ended refl)

  comes_requested : (q : LeadRequest) (l : Lead) (p : Play) → Tracks l y s (playing p) → length walk ≡ room → Comes l (plan_for q l) (play_step (requested q) p)
  unfolding lines_in
  comes_requested (R.Change op) l p h e = λ w v. called (update (single (change_of op))) l p h.0 h.1 e w
  comes_requested R.Begin l p h e = comes_quiet l _ (batching p []) (record { stage = refl; count = refl; lines = refl }, h.1)
  comes_requested R.End l p h e = comes_refusing l Playing l 1 (playing p) (refl, h.1)
  comes_requested (R.Kinds k) l p h e = λ w v. called (set_kinds k) l p h.0 h.1 e w
  comes_requested (R.Question q) l p h e = comes_question q l p h.0 h.1
  comes_requested R.Unknown l p h e = comes_refusing l Playing l 1 (playing p) (refl, h.1)

  line_after_go : (l : Lead) (r : Record) (p : Play) → Tracks l y s (playing p) → length walk ≡ room → Comes l (asked_after l r) (after_go p r)
  unfolding asked_after after_go
  line_after_go l r p h e = subst (λ (q : Request). Comes l (plan_for (leadRequest r) l) (play_step q p)) (same_request r) (comes_requested (leadRequest r) l p h e)

  -- before `go`, at a stage at which marks and moves are gathered: y₀ is what is lent as the line finds it
  module _ (y₀ : Lent) (g : Stage) (l : Lead) (r : Record) (d : Draft) (k : Gathers g l y₀ d) (f : y ≡ filed_in l r y₀) (n : length y₀.numbers ≡ numbers_most) (fits : PayFits r)
      (pays : gathers_pay g r ≡ is_word r.word Pay) (takes : gathers_move g r ≡ is_word r.word Move) where
    -- the marks are those before the line, where it is no `pay` that is taken
    same_marks : takes_pay l r ≡ false → y.marks ≡ y₀.marks
    same_marks b = ap (λ (z : Lent). z.marks) f ∙ sym (pay_not l r y₀.marks b)

    pay_taken : takes_pay l r ≡ is_word r.word Pay && empty d.moves
    unfolding takes_pay
    pay_taken =
        (λ i. count_empty l.count d.moves k.count i && (ap (λ (x : Stage). gathers_pay x r) k.stage ∙ pays) i)
        ∙ and_comm (empty d.moves) (is_word r.word Pay)

    one_marked : is_word r.word Pay && empty d.moves ≡ true → Gathers Gathering (staged Gathering l) y (with_pay r d)
    unfolding filed_pay with_mark
    one_marked b =
        let w = and-true (is_word r.word Pay) (empty d.moves) b in
        let named = fits w.0 in
        let z : d.moves ≡ [] = no_moves d.moves w.1 in
        let set : y.marks ≡ with_mark y₀.marks (512 * (r.second - 1) + r.first) =
        ap (λ (x : Lent). x.marks) f ∙ ap (λ (c : Bool). cond c (with_mark y₀.marks (512 * (r.second - 1) + r.first)) y₀.marks) (pay_taken ∙ b) in
        record {
          stage = refl;
          size = k.size;
          start = k.start;
          kinds = k.kinds;
          sized = ap length set ∙ length-set y₀.marks ((512 * (r.second - 1) + r.first) / 64) _ ∙ k.sized;
          marks = ap by_kind set ∙ kind_marked y₀.marks r.first named.0 (r.second - 1) (omega (arith, named.1, named.2))
              ∙ ap (in_kind (r.second - 1) (λ words. with_mark words r.first)) k.marks;
          count = k.count;
          moves = ap (λ (x : Lent). take l.count x.numbers) f ∙ numbers_kept l r y₀.numbers ∙ k.moves;
        }

    one_more : takes_pay l r ≡ false → is_full l ≡ false → is_word r.word Move ≡ true
        → Gathers Gathering (record { stage = Gathering; size = l.size; start = l.start; kinds = l.kinds; count = l.count + 2 }) y (with_move r d)
    unfolding is_full takes_move
    one_more p b m =
        let few : l.count < 4096 = leb-false 4096 l.count b in
        let taken : takes_move l r ≡ true = sym (taken_at gathers_move r (not (is_full l)) l.stage g (ap not b) k.stage) ∙ takes ∙ m in
        record {
          stage = refl;
          size = k.size;
          start = k.start;
          kinds = k.kinds;
          sized = ap length (same_marks p) ∙ k.sized;
          marks = ap by_kind (same_marks p) ∙ k.marks;
          count = omega (arith, k.count, length-append d.moves ((r.first, r.second) ∷ []));
          moves = ap (λ (x : Lent). take (l.count + 2) x.numbers) f ∙ move_put l r y₀.numbers taken (omega (arith, k.count))
              ∙ ap (λ (xs : List ℕ). xs ++ (r.first ∷ r.second ∷ [])) k.moves ∙ sym (flat_append d.moves (r.first, r.second));
        }

    line_before_go : length walk ≡ room → Comes l (asked_before l r) (before_go d r)
    unfolding asked_before asked_move before_go flat
    line_before_go e = rw (count_empty l.count d.moves k.count) (comes_cond l (is_word r.word Pay && empty d.moves) _ _ _ _
        (λ b. comes_quiet l _ (gathering (with_pay r d)) (one_marked b))
        (λ b. let p : takes_pay l r ≡ false = pay_taken ∙ b in
        comes_cond l (is_word r.word Move) _ _ _ _
        (λ m. rw (← count_full l d.moves k.count) (comes_cond l (is_full l) _ _ _ _ (λ x. comes_refusing l Over l 5 ended refl) (λ x. comes_quiet l _ (gathering (with_move r d)) (one_more p x m))))
        (λ m. comes_cond l (is_word r.word Go) _ _ _ _ (λ x. comes_load g l d (still_gathers g l r y₀ y d f p k) e) (λ x. comes_refusing l Over l 1 ended refl))))

    -- straight behind `game` there is no move
    line_opened : d.moves ≡ [] → length walk ≡ room → Comes l (asked_opened l r) (behind_game d r)
    unfolding asked_opened behind_game flat is_word
    line_opened z e = comes_cond l (is_word r.word Kinds) _ _ _ _
        (λ b. let p : takes_pay l r ≡ false = pay_taken ∙ ap (λ (c : Bool). c && empty d.moves) (other_word r.word Kinds Pay b refl) in
        comes_quiet l _ (gathering (with_kinds r d)) (record {
          stage = refl;
          size = k.size;
          start = k.start;
          kinds = refl;
          sized = ap length (same_marks p) ∙ k.sized;
          marks = ap by_kind (same_marks p) ∙ k.marks;
          count = omega (arith, ap length z);
          moves = ap flat (sym z);
        }))
        (λ b. line_before_go e)

  -- inside a batch: y₀ is the list as the line finds it
  module _ (y₀ : Lent) (l : Lead) (r : Record) (p : Play) (xs : List BatchLine) (g : Collects l y₀ xs) (f : y ≡ filed_in l r y₀) (n : length y₀.numbers ≡ numbers_most) where
    abbrev held_ones : List BatchLine
    held_ones = take lines_held xs

    abbrev new : BatchLine
    new = line_in (line_read r)

    same_numbers : take l.count y.numbers ≡ take l.count y₀.numbers
    same_numbers = ap (λ (x : Lent). take l.count x.numbers) f ∙ numbers_kept l r y₀.numbers

    collected : Collects l y xs
    collected = record { stage = g.stage; count = g.count; lines = ap lines_in same_numbers ∙ g.lines }

    -- there is a place for it
    room_left : l.count < held_most → is_word r.word W.End ≡ false → Collects (leadBatching l (l.count + 3)) y (xs ++ (new ∷ []))
    unfolding takes_line
    room_left k b =
        let taken : takes_line l r ≡ true = sym (taken_at inside_line r (ltb l.count held_most) l.stage Batching (lt-ltb l.count held_most k) g.stage) ∙ ap not b in
        let few : length xs < lines_held = omega (arith, g.count, length-take lines_held xs) in
        let all : held_ones ≡ xs = take_all lines_held xs (omega arith) in
        let more : take lines_held (xs ++ (new ∷ [])) ≡ xs ++ (new ∷ []) = take_all lines_held (xs ++ (new ∷ [])) (omega (arith, length-append xs (new ∷ []))) in
        let size : length (take l.count y₀.numbers) ≡ 3 * length held_ones = length-take-le l.count y₀.numbers (omega arith) ∙ g.count in
        record {
          stage = refl;
          count = omega (arith, g.count, ap (length {A = BatchLine}) all, ap (length {A = BatchLine}) more, length-append xs (new ∷ []));
          lines = ap (λ (l : List ℕ). lines_in l) (ap (λ (x : Lent). take (l.count + 3) x.numbers) f ∙ line_put l r y₀.numbers taken (omega (arith, g.count, ap (length {A = BatchLine}) all)))
              ∙ lines_append (length held_ones) (take l.count y₀.numbers) (line_read r) size ∙ ap (λ (ys : List BatchLine). ys ++ (new ∷ [])) (g.lines ∙ all) ∙ sym more;
        }

    -- there is none
    no_room : held_most ≤ l.count → Collects l y (xs ++ (new ∷ []))
    no_room k =
        let many : lines_held ≤ length xs = omega (arith, g.count, length-take lines_held xs) in
        let same : take lines_held (xs ++ (new ∷ [])) ≡ held_ones = take-append-le lines_held xs (new ∷ []) many in
        record { stage = g.stage; count = g.count ∙ ap (λ (ys : List BatchLine). 3 * length ys) (sym same); lines = ap lines_in same_numbers ∙ g.lines ∙ sym same }

    comes_held : Holds s p.table → is_word r.word W.End ≡ false → Comes l (holding l) (quiet (batching p (xs ++ (new ∷ []))))
    comes_held k b = elim (dec_le held_most l.count) [
      | yes h ↦ subst (λ (q : Plan). Comes l q (quiet (batching p (xs ++ (new ∷ []))))) (not_held l h) (comes_quiet l l (batching p (xs ++ (new ∷ []))) (no_room h, k))
      | no h ↦ subst (λ (q : Plan). Comes l q (quiet (batching p (xs ++ (new ∷ []))))) (held l (omega arith))
          (comes_quiet l (leadBatching l (l.count + 3)) (batching p (xs ++ (new ∷ []))) (room_left (omega arith) b, k))
    ]

    line_inside : Holds s p.table → length walk ≡ room → Comes l (asked_inside l r) (in_batch p xs r)
    unfolding asked_inside in_batch line_read
    line_inside k e = ⊎_elim ends stays (either (is_word r.word W.End))
      where
        i : Inside r
        i = inside r.word r.first r.second

        ends : is_word r.word W.End ≡ true → Comes l (cond (is_word r.word W.End) (endingPlan l) (holding l)) (batch_step (request_of r) p xs)
        ends b = subst⁻¹ (λ (x : Bool × Request). Comes l (cond x.0 (endingPlan l) (holding l)) (batch_step x.1 p xs)) (λ j. (b j, i.ends b j)) (comes_batch l xs p collected k e)

        stays : is_word r.word W.End ≡ false → Comes l (cond (is_word r.word W.End) (endingPlan l) (holding l)) (batch_step (request_of r) p xs)
        stays b =
            let line : new ≡ batch_line (request_of r) = held_line (leadRequest r) ∙ ap batch_line (same_request r) in
            let goal : batch_step (request_of r) p xs ≡ quiet (batching p (xs ++ (new ∷ []))) = i.stays b p xs ∙ ap (λ (x : BatchLine). quiet (batching p (xs ++ (x ∷ [])))) (sym line) in
            subst⁻¹ (λ (x : Bool × Step). Comes l (cond x.0 (endingPlan l) (holding l)) x.1) (λ j. (b j, goal j)) (comes_held k b)

by_stage : (l : Lead) (r : Record) (y : Lent) (s : Session) (walk : List ℕ) (c : Outcome) (reply : Reply) (walk' : List ℕ) (g : Stage) (u : Step) → l.stage ≡ g
    → Comes y walk s c reply walk' l (asked_at g l r) u → Comes y walk s c reply walk' l (asked l r) u
unfolding asked
by_stage l r y s walk c reply walk' g u h k = subst⁻¹ (λ (x : Stage). Comes y walk s c reply walk' l (asked_at x l r) u) h k

-- One line: where the lead, what is lent beside it and the session stand for what is held, they do so behind the line, and the lines told are the step's.
pub stepped : (l : Lead) (y : Lent) (s : Session) (p : Held) (walk : List ℕ) (r : Record) (y' : Lent) (c : Outcome) (reply : Reply) (walk' : List ℕ)
    → length y.numbers ≡ numbers_most → length walk ≡ room → PayFits r → Tracks l y s p → y' ≡ filed_in l r y → Follows (asked l r).task l y' s walk c walk' → Replied (asked l r).task c.session reply
    → Tracks (lead_for (asked l r).task (asked l r).lead c.answer) y' c.session (step p r).next
    × (lines_for (asked l r).task (asked l r).lead y'.marks c.answer reply walk' ≡ (step p r).lines)
unfolding asked step
stepped l y s waiting walk r y' c reply walk' n e fits h f w v = by_stage l r y' s walk c reply walk' Waiting (step waiting r) h.0 (first_line y' walk s c reply walk' y l r h.0 h.1 f) w v
stepped l y s (opened d) walk r y' c reply walk' n e fits h f w v =
    by_stage l r y' s walk c reply walk' Opened (step (opened d) r) h.0.stage (line_opened y' walk s c reply walk' y Opened l r d h.0 f n fits refl refl h.1 e) w v
stepped l y s (gathering d) walk r y' c reply walk' n e fits h f w v =
    by_stage l r y' s walk c reply walk' Gathering (step (gathering d) r) h.stage (line_before_go y' walk s c reply walk' y Gathering l r d h f n fits refl refl e) w v
stepped l y s (playing p) walk r y' c reply walk' n e fits h f w v = by_stage l r y' s walk c reply walk' Playing (step (playing p) r) h.0 (line_after_go y' walk s c reply walk' l r p h e) w v
stepped l y s (batching p xs) walk r y' c reply walk' n e fits h f w v =
    by_stage l r y' s walk c reply walk' Batching (step (batching p xs) r) h.0.stage (line_inside y' walk s c reply walk' y l r p xs h.0 f n h.1 e) w v
stepped l y s ended walk r y' c reply walk' n e fits h f w v = by_stage l r y' s walk c reply walk' Over (step ended r) h (comes_quiet y' walk s c reply walk' l l ended h) w v
