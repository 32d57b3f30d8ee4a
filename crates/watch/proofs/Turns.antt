-- The lines of a text, one after the other. Assumes nothing.
use Prim.Native.Nat.{ℕ, ◌+◌, ◌*◌, ◌-◌, ◌≤◌, ◌<◌}
use mathlib.Core.Path.{◌≡◌, refl, sym, ap, subst, subst⁻¹, ◌∙◌}
use mathlib.Core.Bool.{Bool, true, false, cond}
use mathlib.Core.List.{List, [], ◌∷◌, ◌++◌, map, map-append}
use native.Mathlib.Omega.{arith}
use lib.ListN.{length, take, drop}
use Rattle.plain.specs.Machine.{Line}
use Rattle.line.specs.Fields.{up_to, lines_of}
use Rattle.line.specs.Records.{record_of}
use Rattle.line.specs.declared.Record.{Record}
use Rattle.line.proofs.Paying.{PayFits}
use Rattle.line.proofs.Fields.{lines_at, lines_none}
use Rattle.answer.specs.Bytes.{Put}
use Rattle.answer.specs.Rendering.{render}
use Rattle.verdict.specs.declared.Answer.{Answer}
use Rattle.verdict.specs.Answers.{is_refused}
use Rattle.question.specs.declared.Reply.{Reply}
use Rattle.session.specs.declared.Session.{Session}
use Rattle.session.specs.declared.Outcome.{Outcome}
use Rattle.lead.specs.declared.Lead.{Lead}
use Rattle.lead.specs.declared.Task.{Task}
use Rattle.lead.specs.declared.Ask.{Ask}
use Rattle.lead.specs.declared.Ask.TheVariants.{Load as AskLoad, Call as AskCall}
use Rattle.lead.specs.declared.Task.TheVariants.{Nothing, Refuse, Ask as Asks, Question as Questions}
use Rattle.lead.specs.declared.Plan.{Plan}
use Rattle.lead.specs.Asked.{numbers_most, asked, is_over}
use Rattle.watch.specs.Text.{Held, waiting, opened, gathering, playing, batching, ended, room, Step, step, printed, output_of, Fitted}
use Rattle.watch.specs.declared.Written.{Written}
use Rattle.watch.specs.Model.{Serves, Replied, lines_most, lines_for, lines_told, fits, Laid, Writes}
use Rattle.watch.proofs.Output.{Rest, rest_end, AtMostTwo, all_put, not_put, fits_within, laid_within, laid_first}
use Rattle.watch.proofs.Steps.{Lent, filed_in, Tracks, Follows, stepped, false_true}
use Rattle.watch.proofs.Writing.{told_lines}

-- what is still to be written, where the text is read up to a place
abbrev pub to_tell : Held → List ℕ → ℕ → List (List ℕ)
to_tell p text from = map render (printed p (map record_of (lines_of (drop from text))))

-- a line more
pub turn : (p : Held) (text : List ℕ) (from end : ℕ) → from < length text → end ≡ from + up_to 10 (drop from text)
    → to_tell p text from ≡ map render (step p (record_of (take (end - from) (drop from text)))).lines
    ++ to_tell (step p (record_of (take (end - from) (drop from text)))).next text (end + 1)
unfolding printed
turn p text from end h e =
    let r = record_of (take (end - from) (drop from text)) in
    ap (λ (ls : List (List ℕ)). map render (printed p (map record_of ls))) (lines_at text from end h e)
    ∙ map-append render (step p r).lines (printed (step p r).next (map record_of (lines_of (drop (end + 1) text))))

-- no line more
pub told_all_lem : (p : Held) (text : List ℕ) (from : ℕ) → length text ≤ from → to_tell p text from ≡ []
unfolding printed
told_all_lem p text from h = ap (λ (ls : List (List ℕ)). map render (printed p (map record_of ls))) (lines_none text from h)

-- past a refusal that ends the run nothing is written
none_printed : (rs : List Record) → printed ended rs ≡ []
unfolding printed step
none_printed [] = refl
none_printed (r ∷ rs) = none_printed rs

pub over_told : (p : Held) (l : Lead) (y : Lent) (s : Session) (text : List ℕ) (from : ℕ) → is_over l.stage ≡ true → Tracks l y s p → to_tell p text from ≡ []
over_told waiting l y s text from o h = false_true (sym (ap is_over h.0) ∙ o)
over_told (opened d) l y s text from o h = false_true (sym (ap is_over h.0.stage) ∙ o)
over_told (gathering d) l y s text from o h = false_true (sym (ap is_over h.stage) ∙ o)
over_told (playing q) l y s text from o h = false_true (sym (ap is_over h.0) ∙ o)
over_told (batching q xs) l y s text from o h = false_true (sym (ap is_over h.0.stage) ∙ o)
over_told ended l y s text from o h = ap (map render) (none_printed (map record_of (lines_of (drop from text))))

-- a line is told by at most two
short_cond : (b : Bool) (x y z : Line) → AtMostTwo (cond b (x ∷ []) (y ∷ z ∷ []))
short_cond true x y z = tt
short_cond false x y z = tt

pub short : (task : Task) (l : Lead) (marks : List ℕ) (answer : Answer) (reply : Reply) (walk : List ℕ) → AtMostTwo (lines_for task l marks answer reply walk)
short Nothing l marks answer reply walk = tt
short (Refuse n) l marks answer reply walk = tt
short (Asks AskLoad) l marks answer reply walk = short_cond (is_refused answer) _ _ _
short (Asks (AskCall command)) l marks answer reply walk = tt
short (Questions q) l marks answer reply walk = tt

-- ---- what is asked of the session

-- What the task asks of the session is done, or nothing is, and the list of the walk keeps its length.
pub record Done (task : Task) (l : Lead) (y : Lent) (s : Session) (walk : List ℕ) (c : Outcome) (walk' : List ℕ) : Type 0 where
  pub follows : Follows task l y s walk c walk'
  pub size : length walk' ≡ room

module _ (l : Lead) (y : Lent) (walk : List ℕ) (k : length walk ≡ room) (c : Outcome) (walk' : List ℕ) where
  pub done_asked : (task : Task) (ask : Ask) (s : Session) (r : Outcome) (w : List ℕ) → task ≡ Asks ask → walk' ≡ w → c ≡ r → length w ≡ length walk
      → Serves ask l y.marks y.numbers s walk r w → Done task l y s walk c walk'
  done_asked task ask s r w e f g h v = rw (e, f, g) (record { follows = v; size = h ∙ k })

  -- a task that asks for no load and no call
  pub done_else : (task : Task) (c₀ : Outcome) → ((ask : Ask) → task ≡ Asks ask → ⊥) → walk' ≡ walk → c ≡ c₀ → Done task l y c₀.session walk c walk'
  done_else Nothing c₀ o f g = record { follows = ap (λ (x : Outcome). x.session) g; size = ap length f ∙ k }
  done_else (Refuse n) c₀ o f g = record { follows = ap (λ (x : Outcome). x.session) g; size = ap length f ∙ k }
  done_else (Asks ask) c₀ o f g = absurd (o ask refl)
  done_else (Questions q) c₀ o f g = record { follows = ap (λ (x : Outcome). x.session) g; size = ap length f ∙ k }

-- ---- behind one line

-- what is held, and the lines at the head of the buffer
pub record Behind (p : Held) (r : Record) (y : Lent) (s : Session) (d d' : List ℕ) (w : Written) : Type 0 where
  pub tracks : Tracks w.lead y s (step p r).next
  pub laid : Laid (step p r).lines d d' w.first w.len
  pub few : AtMostTwo (step p r).lines

-- the functions of a line, one after the other
module _ (l : Lead) (y : Lent) (s : Session) (p : Held) (walk : List ℕ) (r : Record) (y' : Lent) (c : Outcome) (reply : Reply) (walk' d d' : List ℕ) (w : Written)
    (n : length y.numbers ≡ numbers_most) (k : length walk ≡ room) (b : length d ≡ lines_most) (h : Tracks l y s p) (fits : PayFits r) (f : y' ≡ filed_in l r y) where
  behind_asked : Done (asked l r).task l y' s walk c walk' → Replied (asked l r).task c.session reply → Writes (asked l r) y'.marks c.answer reply walk' d d' w → Behind p r y' c.session d d' w
  behind_asked v x t =
      let q = asked l r in
      let m = stepped l y s p walk r y' c reply walk' n k fits h f v.follows x in
      let k' = v.size in
      let lines : lines_told q y'.marks c.answer reply walk' (length d) ≡ (step p r).lines = sym (told_lines q y'.marks c.answer reply walk' (length d) (omega arith) (omega arith)) ∙ m.1 in
      record {
        tracks = subst⁻¹ (λ (x : Lead). Tracks x y' c.session (step p r).next) t.goes m.0;
        laid = subst (λ (x : List Line). Laid x d d' w.first w.len) lines t.laid;
        few = subst AtMostTwo m.1 (short q.task q.lead y'.marks c.answer reply walk');
      }

  pub behind : (plan : Plan) → plan ≡ asked l r → Done plan.task l y' s walk c walk' → Replied plan.task c.session reply → Writes plan y'.marks c.answer reply walk' d d' w → Behind p r y' c.session d d' w
  behind plan e v u t =
      behind_asked (subst (λ (x : Plan). Done x.task l y' s walk c walk') e v) (subst (λ (x : Plan). Replied x.task c.session reply) e u) (subst (λ (x : Plan). Writes x y'.marks c.answer reply walk' d d' w) e t)

-- ---- how much of the lines is put

-- what fits whole is within the space and within the buffer
pub fitting_sizes : (ls : List Line) (d d' : List ℕ) (first len space n : ℕ) → Laid ls d d' first len → n ≡ fits space first len → (n ≤ space) × (n ≤ length d')
fitting_sizes ls d d' first len space n t e =
    let w = fits_within space first len (laid_first ls d d' first len t) in
    (omega (arith, e, w.0), omega (arith, e, w.1, laid_within ls d d' first len t))

-- One line read from a text, and as much of its answer as fits put behind `at`, where the output lent holds the lines before.
module _ (lent text out : List ℕ) (space at from end : ℕ) (p : Held) (y : Lent) (s : Session) (d d' : List ℕ) (w : Written) (inside : from < length text) (stops : end ≡ from + up_to 10 (drop from text))
    (low : at ≤ space) (wide : space ≤ length out) (rest : Rest lent space (output_of text) out at (to_tell p text from))
    (b : Behind p (record_of (take (end - from) (drop from text))) y s d d' w) (out' : List ℕ) (n r : ℕ) (most : n ≡ fits (space - at) w.first w.len) (put : Put out at (take n d') out' r) where
  abbrev answered : Step
  answered = step p (record_of (take (end - from) (drop from text)))

  both : Rest lent space (output_of text) out at (map render answered.lines ++ to_tell answered.next text (end + 1))
  both = subst (λ (ls : List (List ℕ)). Rest lent space (output_of text) out at ls) (turn p text from end inside stops) rest

  -- a line did not fit
  pub line_cut : n < w.len → Fitted (output_of text) space lent out' (2 * r + 1)
  line_cut h = not_put lent space (output_of text) out at answered.lines (to_tell answered.next text (end + 1)) b.few d' w.first w.len d b.laid low wide both out' n r most h put

  -- all did
  pub line_put : w.len ≤ n → Rest lent space (output_of text) out' r (to_tell answered.next text (end + 1))
  line_put h = (all_put lent space (output_of text) out at answered.lines (to_tell answered.next text (end + 1)) b.few d' w.first w.len d b.laid low wide both out' n r most h put).1

  -- and the run is over
  pub line_last : w.len ≤ n → is_over w.lead.stage ≡ true → Fitted (output_of text) space lent out' (2 * r)
  line_last h o = rest_end lent space (output_of text) out' r (to_tell answered.next text (end + 1)) (over_told answered.next w.lead y s text (end + 1) o b.tracks) (line_put h)
