-- One line of a game, up to `go`: what is held behind it, and the lines that tell it. Assumes nothing.
use mathlib.Core.Path.{◌≡◌, refl, sym, ap, subst, subst⁻¹, ◌∙◌}
use mathlib.Core.Bool.{Bool, true, false, ◌&&◌, cond}
use mathlib.Core.List.{List}
use Prim.Native.Nat.{ℕ, min}
use native.Mathlib.Omega.{arith}
use lib.Dec.{eqb}
use lib.ListN.{length, take}
use Rattle.plain.specs.Table.{by_kind}
use Rattle.plain.specs.Refusals.{load_trial}
use Rattle.plain.specs.Machine.{Line}
use Rattle.plain.proofs.Tests.{contra}
use Rattle.line.specs.Words.{is_word}
use Rattle.line.specs.declared.Word.TheVariants.{Game, Pay, Move, Go, Kinds}
use Rattle.line.specs.declared.Record.{Record}
use Rattle.line.proofs.Paying.{PayFits, other_word}
use Rattle.question.specs.declared.Question.{Question}
use Rattle.question.specs.declared.Reply.{Reply}
use Rattle.verdict.specs.declared.Answer.{Answer}
use Rattle.verdict.specs.Answers.{is_refused, LoadAnswered}
use Rattle.session.specs.Model.{no_game}
use Rattle.lead.specs.declared.Stage.{Stage}
use Rattle.lead.specs.declared.Stage.TheVariants.{Opened, Gathering, Playing, Over}
use Rattle.lead.specs.declared.Lead.{Lead}
use Rattle.lead.specs.declared.Ask.{Ask}
use Rattle.lead.specs.declared.Ask.TheVariants.{Load as AskLoad}
use Rattle.lead.specs.declared.Task.{Task}
use Rattle.lead.specs.declared.Task.TheVariants.{Nothing, Refuse, Ask as Asks, Question as Questions}
use Rattle.lead.specs.declared.Plan.{Plan}
use Rattle.lead.specs.Asked.{numbers_most, no_task, refusing, loading, is_full, asked_first, asked_move, asked_before, asked_opened, asked_at, asked, gathers_pay, takes_pay}
use Rattle.lead.proofs.Asking.{not_at}
use Rattle.watch.specs.declared.Written.{Written}
use Rattle.watch.specs.Text.{Draft, Held, waiting, opened, gathering, playing, batching, ended, Step, room, empty, load_of, load_step, before_go, behind_game, step}
use Rattle.watch.specs.Model.{lines_most, gathered, Replied, lines_for, lead_for, lines_told, Laid, Writes}
use Rattle.watch.proofs.Steps.{Lent, filed_in, Gathers, Tracks, Follows, count_empty, count_full, gathered_is, still_gathers, load_lines, stepped}
use Rattle.watch.proofs.Writing.{told_lines}
use Rattle.watch.proofs.Serving.{same_numbers}
use Rattle.desk.specs.Desk.{is_read}

-- what asks for an answer is searched for; before that nothing is
abbrev pub Searched : Task → Lead → Lent → List ℕ → Answer → List ℕ → Type 0
Searched Nothing l y walk a walk' = Unit {0}
Searched (Refuse refusal) l y walk a walk' = Unit {0}
Searched (Asks ask) l y walk a walk' = LoadAnswered (gathered l y.marks y.numbers) walk a walk'
Searched (Questions question) l y walk a walk' = Unit {0}

-- a task that asks something of a session
abbrev Asking : Task → Type 0
Asking Nothing = ⊥
Asking (Refuse refusal) = ⊥
Asking (Asks ask) = Unit {0}
Asking (Questions question) = Unit {0}

-- ---- up to `go`, what asks anything asks for the load of what is gathered

module _ (l : Lead) (r : Record) where
  -- a plan that asks anything, and the step of its line: the load's, and the line is no `pay`
  abbrev Only : Draft → Plan → Step → Type 0
  Only d p u = Asking p.task → (p ≡ loading l) × (u ≡ load_step (load_trial (load_of d) room) d) × (takes_pay l r ≡ false)

  only_cond : (d : Draft) (b : Bool) (p q : Plan) (u v : Step) → (b ≡ true → Only d p u) → (b ≡ false → Only d q v) → Only d (cond b p q) (cond b u v)
  only_cond d true p q u v h k = h refl
  only_cond d false p q u v h k = k refl

  module _ (g : Stage) (y : Lent) (d : Draft) (k : Gathers g l y d) (pays : gathers_pay g r ≡ is_word r.word Pay) where
    no_pay : is_word r.word Go ≡ true → takes_pay l r ≡ false
    unfolding takes_pay is_word
    no_pay b = not_at gathers_pay r (eqb l.count 0) l.stage g k.stage (pays ∙ other_word r.word Go Pay b refl)

    before_go_lem : Only d (asked_before l r) (before_go d r)
    unfolding asked_before asked_move before_go
    before_go_lem = rw (count_empty l.count d.moves k.count) (only_cond d (is_word r.word Pay && empty d.moves) _ _ _ _
        (λ b w. absurd w)
        (λ b. only_cond d (is_word r.word Move) _ _ _ _
        (λ m. rw (← count_full l d.moves k.count) (only_cond d (is_full l) _ _ _ _ (λ x w. absurd w) (λ x w. absurd w)))
        (λ m. only_cond d (is_word r.word Go) _ _ _ _ (λ x w. (refl, refl, no_pay x)) (λ x w. absurd w))))

    behind_game_lem : Only d (asked_opened l r) (behind_game d r)
    unfolding asked_opened behind_game
    behind_game_lem = only_cond d (is_word r.word Kinds) _ _ _ _ (λ b w. absurd w) (λ b. before_go_lem)

  at_first_lem : (b : Bool) (p : Lead) → Asking (cond b (no_task p) (refusing Over l 1)).task → ⊥
  at_first_lem true p w = w
  at_first_lem false p w = w

  pub record Loading (y : Lent) (p : Held) : Type 0 where
    pub stage : Stage
    pub draft : Draft
    pub gathers : Gathers stage l y draft
    pub plan_is : asked l r ≡ loading l
    pub step_is : step p r ≡ load_step (load_trial (load_of draft) room) draft
    pub unmarked : takes_pay l r ≡ false

  -- at a stage before `go`, by what is asked there
  loading_at : (g : Stage) (y : Lent) (d : Draft) (p : Held) (q : Plan) → Gathers g l y d → asked l r ≡ q → Only d q (step p r) → Asking (asked l r).task → Loading y p
  loading_at g y d p q k is only w =
      let m = only (subst (λ (x : Plan). Asking x.task) is w) in
      record { stage = g; draft = d; gathers = k; plan_is = is ∙ m.0; step_is = m.1; unmarked = m.2 }

  loads : (y : Lent) (p : Held) → Tracks l y no_game p → is_read l.stage ≡ false → Asking (asked l r).task → Loading y p
  unfolding asked asked_first step
  loads y waiting h unread w = absurd (at_first_lem (is_word r.word Game) _ (subst (λ (x : Stage). Asking (asked_at x l r).task) h.0 w))
  loads y (opened d) h unread w = loading_at Opened y d (opened d) (asked_opened l r) h.0 (ap (λ (x : Stage). asked_at x l r) h.0.stage) (behind_game_lem Opened y d h.0 refl) w
  loads y (gathering d) h unread w = loading_at Gathering y d (gathering d) (asked_before l r) h (ap (λ (x : Stage). asked_at x l r) h.stage) (before_go_lem Gathering y d h refl) w
  loads y (playing p) h unread w = absurd (contra (ap is_read h.0) unread)
  loads y (batching p xs) h unread w = absurd (contra (ap is_read h.0.stage) unread)
  loads y ended h unread w = absurd (contra (ap is_read h) unread)

-- ---- behind one line

-- the lines at the head of the buffer, and what is held, where the game is not read whole
pub record Behind (p : Held) (r : Record) (y : Lent) (d d' : List ℕ) (w : Written) : Type 0 where
  pub tracks : is_read w.lead.stage ≡ false → Tracks w.lead y no_game (step p r).next
  pub laid : Laid (step p r).lines d d' w.first w.len

module _ (l : Lead) (y : Lent) (p : Held) (walk : List ℕ) (r : Record) (y' : Lent) (a : Answer) (reply : Reply) (walk' : List ℕ) (none : reply ≡ Reply.Refused 0)
    (n : length y.numbers ≡ numbers_most) (k : length walk ≡ room) (h : Tracks l y no_game p) (unread : is_read l.stage ≡ false) (fits : PayFits r) (f : y' ≡ filed_in l r y) where
  abbrev q : Plan
  q = asked l r

  abbrev next : Lead
  next = lead_for q.task q.lead a

  abbrev Comes : Type 0
  Comes = (lines_for q.task q.lead y'.marks a reply walk' ≡ (step p r).lines) × (is_read next.stage ≡ false → Tracks next y' no_game (step p r).next)

  -- a line that asks nothing is the box's
  quietly : Follows q.task l y' no_game walk (record { answer = a; session = no_game }) walk' → Replied q.task no_game reply → Comes
  quietly w v = let m = stepped l y no_game p walk r y' (record { answer = a; session = no_game }) reply walk' n k fits h f w v in (m.1, λ _. m.0)

  -- no question is asked: its plan would be the load's
  no_question : (question : Question) → q.task ≡ Questions question → ⊥
  no_question question e =
      let m = loads l r y p h unread (subst⁻¹ Asking e tt) in
      let z : Asks AskLoad ≡ Questions question = ap (λ (x : Plan). x.task) (sym m.plan_is) ∙ e in
      let x : ◌≡◌ {A = ℕ} 0 1 = cc in omega arith

  -- behind a load the game is read whole
  over : (b : Bool) → is_read (cond b Over Playing) ≡ true
  over true = refl
  over false = refl

  by_task : (task : Task) → q.task ≡ task → Searched task l y' walk a walk' → Comes
  by_task Nothing e w = quietly (subst⁻¹ (λ (x : Task). Follows x l y' no_game walk (record { answer = a; session = no_game }) walk') e refl) (subst⁻¹ (λ (x : Task). Replied x no_game reply) e none)
  by_task (Refuse refusal) e w = quietly (subst⁻¹ (λ (x : Task). Follows x l y' no_game walk (record { answer = a; session = no_game }) walk') e refl) (subst⁻¹ (λ (x : Task). Replied x no_game reply) e none)
  by_task (Questions question) e w = absurd (no_question question e)
  by_task (Asks ask) e w =
      let m = loads l r y p h unread (subst⁻¹ Asking e tt) in
      let d = m.draft in
      let g = still_gathers m.stage l r y y' d f m.unmarked m.gathers in
      let told = load_lines (load_trial (load_of d) room) m.stage l y' d walk a reply walk' (ap (load_trial (load_of d)) k) g (rw (gathered_is m.stage l y' d g) at w) in (
        ap (λ (x : Plan). lines_for x.task x.lead y'.marks a reply walk') m.plan_is ∙ told.1 ∙ sym (ap (λ (u : Step). u.lines) m.step_is),
        λ z. absurd (contra (ap (λ (x : Plan). is_read (lead_for x.task x.lead a).stage) m.plan_is ∙ over (is_refused a)) z),
      )

  pub behind : (plan : Plan) → plan ≡ q → (d d' : List ℕ) (w : Written) → Searched plan.task l y' walk a walk' → length walk' ≡ room → length d ≡ lines_most → Writes plan y'.marks a reply walk' d d' w
      → Behind p r y' d d' w
  behind plan e d d' w s k' b t =
      let m = by_task q.task refl (subst (λ (x : Plan). Searched x.task l y' walk a walk') e s) in
      let t' : Writes q y'.marks a reply walk' d d' w = subst (λ (x : Plan). Writes x y'.marks a reply walk' d d' w) e t in
      let lines : lines_told q y'.marks a reply walk' (length d) ≡ (step p r).lines = sym (told_lines q y'.marks a reply walk' (length d) (omega arith) (omega arith)) ∙ m.0 in
      record {
        tracks = subst⁻¹ (λ (x : Lead). is_read x.stage ≡ false → Tracks x y' no_game (step p r).next) t'.goes m.1;
        laid = subst (λ (x : List Line). Laid x d d' w.first w.len) lines t'.laid;
      }

-- ---- what is searched

pub search_all : (l : Lead) (marks ns walk : List ℕ) (n k : ℕ) (a : Answer) (walk' : List ℕ) → n ≡ min k (length ns) → k ≡ l.count
    → LoadAnswered (record { size = l.size; start = l.start; kinds = l.kinds; marks = by_kind marks; numbers = take n ns }) walk a walk' → LoadAnswered (gathered l marks ns) walk a walk'
search_all l marks ns walk n k a walk' e f h =
    subst (λ (xs : List ℕ). LoadAnswered (record { size = l.size; start = l.start; kinds = l.kinds; marks = by_kind marks; numbers = xs }) walk a walk') (same_numbers l ns n k e f) h

module _ (l : Lead) (y : Lent) (walk : List ℕ) (k : length walk ≡ room) (a : Answer) (walk' : List ℕ) where
  -- what a line asks for is searched for, or nothing is, and the list of the walk keeps its length
  pub record Done (task : Task) : Type 0 where
    pub searched : Searched task l y walk a walk'
    pub size : length walk' ≡ room

  pub done_asked : (task : Task) (ask : Ask) (b : Answer) (w : List ℕ) → task ≡ Asks ask → walk' ≡ w → a ≡ b → length w ≡ length walk → LoadAnswered (gathered l y.marks y.numbers) walk b w → Done task
  done_asked task ask b w e f g h v = rw (e, f, g) (record { searched = v; size = h ∙ k })

  -- a task that asks for no load and no call
  pub done_else : (task : Task) → ((ask : Ask) → task ≡ Asks ask → ⊥) → walk' ≡ walk → Done task
  done_else Nothing o f = record { searched = tt; size = ap length f ∙ k }
  done_else (Refuse refusal) o f = record { searched = tt; size = ap length f ∙ k }
  done_else (Asks ask) o f = absurd (o ask refl)
  done_else (Questions question) o f = record { searched = tt; size = ap length f ∙ k }
