-- The answer to a load, refused or accepted, is the plain table's. Assumes nothing.
use mathlib.Core.Path.{◌≡◌, sym, ap, subst, ◌∙◌}
use mathlib.Core.List.{List, [], ◌∷◌}
use Prim.Native.Nat.{ℕ, ◌*◌, ◌≤◌}
use lib.ListN.{length}
use borrow.Author.Tests.{ltb-false}
use Rattle.plain.specs.Search.{verdict, count}
use Rattle.plain.specs.Table.{printed_verdict, final}
use Rattle.plain.specs.Refusals.{Trial, accepted, refused, Load, load_trial, short_room}
use Rattle.plain.specs.Machine.{Answer as PlainAnswer, refusal, numbered, answer, table_of, load_answer, written, answer_line}
use Rattle.plain.proofs.Trials.{unheld}
use Rattle.table.specs.declared.Position.TheVariants.{Alone}
use Rattle.verdict.specs.declared.Answer.{Answer}
use Rattle.verdict.specs.Answers.{refusing, shown, Answered, LoadAnswered}

-- the list is long enough for a load that is accepted
pub room_enough : (l : Load) (room : ℕ) → load_trial l room ≡ accepted → l.size * l.kinds ≤ room
unfolding load_trial short_room
room_enough l room e =
    ltb-false room (l.size * l.kinds) (unheld 11 _ e)

module _ (l : Load) (lent : List ℕ) where
  pub load_refused : (r : Answer) (n : ℕ) → r ≡ refusing n Alone → load_trial l (length lent) ≡ refused n → LoadAnswered l lent r lent
  unfolding shown written answer_line load_answer
  load_refused r n b e =
      let is : load_answer (load_trial l (length lent)) (table_of l) ≡ refusal (numbered n) = ap (λ (x : Trial). load_answer x (table_of l)) e in
      record { line = ap answer_line is ∙ sym (ap (λ (x : Answer). shown x lent ∷ []) b); list = sym (ap (λ (x : PlainAnswer). written x lent) is) }

  pub load_accepted : (r : Answer) (lent' : List ℕ) → load_trial l (length lent) ≡ accepted → Answered (answer (printed_verdict (table_of l) (verdict (final (table_of l)))) (count (final (table_of l))) 0) lent r lent'
      → LoadAnswered l lent r lent'
  unfolding load_answer
  load_accepted r lent' e w = subst (λ (x : Trial). Answered (load_answer x (table_of l)) lent r lent') (sym e) w
