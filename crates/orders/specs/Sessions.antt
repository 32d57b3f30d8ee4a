-- Document 02, tickets 7 and 10, on the contracts of the session's operations. proofs/Sessions.antt proves it. Assumes nothing.
use Rattle.std.specs.Prelude.{ℕ, ◌≤◌, ◌≡◌, ◌≢◌, List, [], ◌∷◌, ◌++◌, map, length}
use Rattle.plain.specs.Search.{Edge}
use Rattle.plain.specs.Table.{Table}
use Rattle.plain.specs.Refusals.{Load}
use Rattle.plain.specs.Machine.{Change, add, cut, single, to_kinds, Command, update, set_kinds, table_of, table_after, Call, Line}
use Rattle.plain.specs.Questions.{Question}
use Rattle.plain.specs.Claims.{load_from}
use Rattle.plain.specs.Games.{game_h}
use Rattle.plain.specs.Orders.{Apart, Permutation, changes_asked, Switching, total_line}
use Rattle.verdict.specs.declared.Answer.TheVariants.{Refused}
use Rattle.verdict.specs.Answers.{shown, NoRefusal}
use Rattle.table.specs.declared.Refusal.{Refusal}
use Rattle.session.specs.declared.Session.{Session}
use Rattle.session.specs.declared.Outcome.{Outcome}
use Rattle.session.specs.Promises.{call_of, Holds, Loads, Updates, Exchange, Event, made, posed, call_in, line_in, Served}

-- none of the calls was refused, whatever questions stand between them
abbrev pub NoneRefused : List Event → Type 0
NoneRefused [] = Unit {0}
NoneRefused (made x ∷ xs) = NoRefusal x.answered × NoneRefused xs
NoneRefused (posed q r ∷ xs) = NoneRefused xs

-- what an operation was given: a call what was asked and the lent list, a question itself
pub data Given : Type 0 where
  to_call : Command → List ℕ → Given
  to_question : Question → Given

abbrev pub given_to : Event → Given
given_to (made x) = to_call x.asked x.lent
given_to (posed q r) = to_question q

-- the calls, without the questions between them, and the changes that they ask for, one behind the other
abbrev pub calls_in : List Event → List Call
calls_in [] = []
calls_in (made x ∷ xs) = call_in x ∷ calls_in xs
calls_in (posed q r ∷ xs) = calls_in xs

abbrev pub asked_in : List Event → List Change
asked_in xs = changes_asked (calls_in xs)

-- ---- orders

-- Two calls tell "the same verdict, walk and total of kept and spent". The walk stands at the head of the lent lists; lists that were lent with the same entries are left with the same.
pub record SameTold (x y : Exchange) : Type 0 where
  pub same_line : total_line (line_in x) ≡ total_line (line_in y)
  pub same_list : x.lent ≡ y.lent → x.after ≡ y.after

-- "two changes of moves that leave different states, one straight after the other from the same session, if accepted in both orders, end in the same verdict, walk and total of
-- kept and spent in the second answer": c then d, and d then c. It is so of every two changes that name different states, of moves or of marks.
abbrev pub TwoOrders : Type 0
TwoOrders = (s : Session) (t : Table) → Holds s t → (c d : Change) → Apart (c ∷ d ∷ [])
    → (x y : Exchange) → x.asked ≡ update (single c) → y.asked ≡ update (single d) → Served s (made x ∷ made y ∷ []) → NoneRefused (made x ∷ made y ∷ [])
    → (x₂ y₂ : Exchange) → x₂.asked ≡ update (single d) → y₂.asked ≡ update (single c) → Served s (made x₂ ∷ made y₂ ∷ []) → NoneRefused (made x₂ ∷ made y₂ ∷ [])
    → SameTold y y₂

-- Two lists of calls from one session on, up to x and up to y, and calls and questions behind each. The last answers tell the same; and what is given the same behind them is answered
-- alike, refused calls too: the same answers, with their counts, the same lists, and the same replies.
pub record SameEnding (x : Exchange) (later : List Event) (y : Exchange) (later₂ : List Event) : Type 0 where
  pub same_told : SameTold x y
  pub same_after : map given_to later ≡ map given_to later₂ → later ≡ later₂

-- Beyond the ticket's two: any number of changes that name pairwise different states, in any two orders that are accepted, each a call of its own or in a batch,
-- questions between them or not.
abbrev pub AnyOrders : Type 0
AnyOrders = (s : Session) (t : Table) → Holds s t
    → (xs : List Event) (x : Exchange) (later : List Event) → Served s (xs ++ (made x ∷ later)) → NoneRefused (xs ++ (made x ∷ []))
    → (ys : List Event) (y : Exchange) (later₂ : List Event) → Served s (ys ++ (made y ∷ later₂)) → NoneRefused (ys ++ (made y ∷ []))
    → Switching (calls_in (xs ++ (made x ∷ []))) → Switching (calls_in (ys ++ (made y ∷ []))) → Apart (asked_in (xs ++ (made x ∷ []))) → Permutation (asked_in (xs ++ (made x ∷ []))) (asked_in (ys ++ (made y ∷ [])))
    → SameEnding x later y later₂

-- ---- there and back

-- The last verdict that was told of a session, and the table that it holds: it was told by its load, or by an accepted call; a refused call leaves it.
pub data LastTold : Session → Table → Line → Type 0 where
  by_load : (l : Load) (lent : List ℕ) (r : Outcome) (lent' : List ℕ) → Loads l lent r lent' → NoRefusal r.answer → LastTold r.session (table_of l) (shown r.answer lent')
  by_call : (s : Session) (t : Table) (c : Command) (lent : List ℕ) (r : Outcome) (lent' : List ℕ) → Holds s t → Updates c s lent r lent' → NoRefusal r.answer
      → LastTold r.session (table_after (call_of c lent) t) (shown r.answer lent')
  left : (s : Session) (t : Table) (l : Line) (c : Command) (lent : List ℕ) (r : Outcome) (lent' : List ℕ) → LastTold s t l → Updates c s lent r lent' → (n : Refusal) → r.answer ≡ Refused n
      → LastTold r.session t l

-- "adding a move and cutting it straight away brings these back": what the cut tells is what was told before. Calls and questions behind it are answered as if the two had not been made.
pub record BroughtBack (s : Session) (l : Line) (y : Exchange) (later : List Event) : Type 0 where
  pub same_line : total_line (line_in y) ≡ total_line l
  pub same_after : (later₂ : List Event) → Served s later₂ → map given_to later ≡ map given_to later₂ → later ≡ later₂

abbrev pub BringsBack : Type 0
BringsBack = (s : Session) (t : Table) (l : Line) → LastTold s t l
    → (e : Edge) (x y : Exchange) (later : List Event) → x.asked ≡ update (single (add e)) → y.asked ≡ update (single (cut e)) → Served s (made x ∷ made y ∷ later) → NoneRefused (made x ∷ made y ∷ [])
    → BroughtBack s l y later

-- where the add is not refused, the cut is not, with a list that is no shorter
abbrev pub CutFollows : Type 0
CutFollows = (s : Session) (t : Table) → Holds s t → (e : Edge) (x y : Exchange) → x.asked ≡ update (single (add e)) → y.asked ≡ update (single (cut e)) → Served s (made x ∷ made y ∷ [])
    → length x.lent ≤ length y.lent → NoRefusal x.answered → NoRefusal y.answered

-- "Cutting and adding need not, because the move becomes newest": game H is loaded, and its move from 0 to 1 is cut and added straight away, and nothing is refused. What is told
-- last is not what the load told.
abbrev pub NeedNot : Type 0
NeedNot = (lent : List ℕ) (r : Outcome) (lent' : List ℕ) → Loads game_h.load lent r lent' → NoRefusal r.answer
    → (x y : Exchange) → x.asked ≡ update (single (cut (0, 1))) → y.asked ≡ update (single (add (0, 1))) → Served r.session (made x ∷ made y ∷ []) → NoneRefused (made x ∷ made y ∷ [])
    → total_line (line_in y) ≢ total_line (shown r.answer lent')

-- ---- ticket 10: another count of kinds

-- A line `kinds`, and a load of the table with that count of kinds, with lists of the same entries: the two are refused alike; they are answered alike, and leave the same list, with its walk; and
-- what is given the same behind them is answered alike, with its counts, refused calls too.
pub record SameAsLoad (r r₂ : Outcome) (lent' lent₂ : List ℕ) : Type 0 where
  pub same_answer : r.answer ≡ r₂.answer
  pub same_list : lent' ≡ lent₂
  pub same_after : NoRefusal r.answer → (later later₂ : List Event) → Served r.session later → Served r₂.session later₂ → map given_to later ≡ map given_to later₂ → later ≡ later₂

-- "That answer and what follows are the same as after a load of that table".
abbrev pub AsLoad : Type 0
AsLoad = (s : Session) (t : Table) → Holds s t → (k : ℕ) (lent : List ℕ) (r : Outcome) (lent' : List ℕ) → Updates (set_kinds k) s lent r lent'
    → (r₂ : Outcome) (lent₂ : List ℕ) → Loads (load_from (to_kinds k t)) lent r₂ lent₂ → SameAsLoad r r₂ lent' lent₂
