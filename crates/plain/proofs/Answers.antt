-- What the lines of the plain answers say is true, and the looks that they tell are right. Assumes nothing.
use mathlib.Core.Path.{◌≡◌, refl, ap, subst, ◌∙◌}
use mathlib.Core.Logic.{◌≢◌}
use mathlib.Core.List.{List, [], ◌∷◌}
use Prim.Native.Nat.{ℕ}
use native.Mathlib.Omega.{arith}
use Rattle.plain.specs.Lists.{elem}
use Rattle.plain.specs.Search.{Verdict, none, lasso, unfinished, verdict, count}
use Rattle.plain.specs.Table.{Table, printed_verdict, final}
use Rattle.plain.specs.Refusals.{Trial, accepted, refused, first_held, beyond, Load, load_trial}
use Rattle.plain.specs.Machine.{answer, Command, commanded, table_of, load_answer, call_answer, Call, trial_of, answer_to, table_after, Line, game_line, answer_line}
use Rattle.plain.specs.Questions.{Question, ways, short, question_trial, question_reply, reply_to, reply_line}
use Rattle.plain.specs.Claims.{Arises, loaded, report_of, ReportRight, CountsRight, LineTrue, LineCounted}
use Rattle.plain.proofs.Trials.{never_handed}
use Rattle.plain.proofs.Demands.{report_right}
use Rattle.plain.proofs.Calls.{command_arises, command_counts, command_never_7}
use Rattle.plain.proofs.Shortest.{short_told}

-- the first line of some
unfoldable pub first_line : List Line → Line
first_line [] = game_line 0 0 0
first_line (l ∷ ls) = l

-- a list of no line is no list of one
no_line_lem : {l : Line} → [] ≡ l ∷ [] → ⊥
no_line_lem e = let z : ◌≡◌ {A = ℕ} 0 1 = cc in omega arith

-- a verdict of the plain search, told by a line
verdict_told : (t : Table) (w : Verdict) (spent kept : ℕ) (l : Line) → ReportRight (report_of w) t → answer_line (answer w spent kept) ≡ l ∷ [] → LineTrue l t
unfolding answer_line report_of first_line
verdict_told t none spent kept l r e = subst (λ (x : Line). LineTrue x t) (ap first_line e) r
verdict_told t (lasso stem cycle) spent kept l r e = subst (λ (x : Line). LineTrue x t) (ap first_line e) r
verdict_told t unfinished spent kept l r e = absurd (no_line_lem e)

counts_told : (c : Command) (t : Table) (w : Verdict) (spent kept : ℕ) (l : Line) → CountsRight c t spent kept → answer_line (answer w spent kept) ≡ l ∷ [] → LineCounted l c t
unfolding answer_line first_line
counts_told c t none spent kept l r e = subst (λ (x : Line). LineCounted x c t) (ap first_line e) r
counts_told c t (lasso stem cycle) spent kept l r e = subst (λ (x : Line). LineCounted x c t) (ap first_line e) r
counts_told c t unfinished spent kept l r e = absurd (no_line_lem e)

-- of a load that is accepted
pub load_told : (load : Load) (room : ℕ) (l : Line) → load_trial load room ≡ accepted → answer_line (load_answer accepted (table_of load)) ≡ l ∷ [] → LineTrue l (table_of load)
unfolding load_answer
load_told load room l a e =
    let t = table_of load in
    verdict_told t (printed_verdict t (verdict (final t))) (count (final t)) 0 l (report_right t (loaded load room a)) e

-- of every call on a table that a session can hold
pub record Told (c : Call) (t : Table) (l : Line) : Type 0 where
  pub truth : LineTrue l (table_after c t)
  pub counts : LineCounted l c.command t

pub call_told : (c : Call) (t : Table) (l : Line) → Arises t → answer_line (answer_to c t) ≡ l ∷ [] → Told c t l
unfolding answer_to call_answer answer_line table_after first_line trial_of
call_told c t l a e = by_trial (trial_of c t) refl e
  where
    never_7 : (n : ℕ) → trial_of c t ≡ refused n → n ≢ 7
    never_7 n k z = command_never_7 c.command t c.room (k ∙ ap refused z)

    by_trial : (x : Trial) → trial_of c t ≡ x → answer_line (call_answer x c t) ≡ l ∷ [] → Told c t l
    by_trial accepted k f =
        let t' = commanded c.command t in
        let b = command_arises c.command t c.room a k in
        record {
          truth = rw k (verdict_told t' (printed_verdict t' (verdict (final t'))) _ _ l (report_right t' b) f);
          counts = counts_told c.command t (printed_verdict t' (verdict (final t'))) _ _ l (command_counts c.command t c.room a k) f;
        }
    by_trial (refused n) k f = record {
      truth = subst (λ (x : Line). LineTrue x (table_after c t)) (ap first_line f) (never_7 n k);
      counts = subst (λ (x : Line). LineCounted x c.command t) (ap first_line f) tt;
    }

-- of every question on such a table
pub reply_told : (q : Question) (t : Table) → Arises t → LineTrue (reply_line (reply_to q t)) t
unfolding elem reply_to question_trial question_reply reply_line
reply_told (short b) t a = short_told t a b
reply_told (ways s) t a = by_trial (first_held ((6, beyond t.size s) ∷ [])) refl
  where
    by_trial : (x : Trial) → first_held ((6, beyond t.size s) ∷ []) ≡ x → LineTrue (reply_line (question_reply x (ways s) t)) t
    by_trial accepted k = (refl, refl)
    by_trial (refused n) k = λ z. never_handed 7 ((6, beyond t.size s) ∷ []) refl (k ∙ ap refused z)
