-- A load: the session of an accepted one holds its table, and the answer and the walk are the plain table's. Assumes nothing.
use mathlib.Core.Path.{◌≡◌, sym, ap, subst⁻¹, ◌∙◌}
use Rattle.session.specs.declared.Verdict.{Verdict}
use mathlib.Core.List.{List}
use Prim.Native.Nat.{ℕ}
use native.Mathlib.Omega.{arith}
use lib.ListN.{length, replicate}
use Rattle.plain.specs.Table.{Table}
use Rattle.plain.specs.Refusals.{accepted, refused, Load, load_trial, pairs}
use Rattle.plain.specs.Machine.{table_of, load_answer}
use Rattle.plain.specs.Claims.{Arises, loaded}
use Rattle.plain.proofs.Tables.{valid}
use Rattle.rows.specs.declared.Rows.{Rows}
use Rattle.look.specs.Numbers.{plus}
use Rattle.layers.specs.Packed.{Packed}
use Rattle.verdict.specs.declared.Answer.{Answer}
use Rattle.session.specs.declared.Session.{Session}
use Rattle.table.specs.declared.Trial.TheVariants.{Refused}
use Rattle.session.specs.declared.Settled.{Settled}
use Rattle.table.specs.Trials.{tried}
use Rattle.table.specs.declared.Arrays.{Arrays}
use Rattle.table.specs.Filing.{Filed, FourKinds, Counted, Stored, counted_all}
use Rattle.session.specs.Model.{game_in, session_of, no_game, SettlesAfresh}
use Rattle.search.specs.declared.Records.{Records}
use Rattle.session.specs.Promises.{Loads}
use Rattle.table.proofs.Trying.{tried_refused}
use Rattle.table.proofs.Counting.{counted_load}
use Rattle.verdict.proofs.Loads.{room_enough, load_refused as refused-answer, load_accepted as accepted-answer}
use Rattle.verdict.specs.Answers.{refusing}
use Rattle.session.proofs.Afresh.{afresh}
use Rattle.table.specs.declared.Position.TheVariants.{Alone}

pub load_refused : (l : Load) (lent : List ℕ) (a : Answer) (s : Session) (n : ℕ) → a ≡ refusing n Alone → s ≡ no_game → Refused n ≡ tried (load_trial l (length lent))
    → Loads l lent (record { answer = a; session = s }) lent
load_refused l lent a s n b e f =
    let is : load_trial l (length lent) ≡ refused n = tried_refused (load_trial l (length lent)) n f in
    record {
      answers = refused-answer l lent a n b is;
      holds = λ z. absurd (let q : ◌≡◌ {A = ℕ} 0 1 = cc in omega arith);
      empty = λ m z. e;
    }

module _ (l : Load) (lent lent' : List ℕ) (rows : Rows) (words indegree : List ℕ) (a : Records) (r : Settled) (walk : List ℕ)
    (yes-it-is : load_trial l (length lent) ≡ accepted) (filed : Filed l.size (pairs l.numbers) rows)
    (counts : indegree ≡ counted_all (pairs l.numbers) (replicate 512 0)) (walk_size : length walk ≡ 512) (form : FourKinds l.marks) (packed : Packed l.size l.kinds l.marks words)
    (settles : SettlesAfresh l.size l.kinds (game_in l.size l.kinds (record { rows = rows; words = words; indegree = indegree })) l.start walk lent r a lent') where
  abbrev t : Table
  t = table_of l

  arises : Arises t
  arises = loaded l (length lent) yes-it-is

  abbrev b : Arrays
  b = record { rows = rows; words = words; indegree = indegree }

  stored : Stored t b
  unfolding table_of
  stored = record {
    filed = filed;
    packed = packed;
    form = form;
    counted = subst⁻¹ (Counted (pairs l.numbers)) counts (counted_load l.size (pairs l.numbers) filed.compressed.states (valid t arises).inside (omega (arith, filed.compressed.within, filed.count_is)));
  }

  pub load_accepted : (total : ℕ) → total ≡ plus r.verdict.kept r.verdict.spent
      → Loads l lent (record { answer = r.answer; session = session_of l.size l.start l.kinds b a r.verdict total }) lent'
  unfolding table_of load_answer
  load_accepted total e =
      let w = afresh t arises b stored walk lent lent' a r walk_size (room_enough l (length lent) yes-it-is) settles in
      rw e (record {
        answers = accepted-answer l lent r.answer lent' yes-it-is w.1;
        holds = λ z. w.0;
        empty = λ n z. absurd (let q : accepted ≡ refused n = sym yes-it-is ∙ z in let y : ◌≡◌ {A = ℕ} 0 1 = cc in omega arith);
      })

-- the answer and the session as they are put together
pub loads_as : (l : Load) (lent lent' : List ℕ) {a a' : Answer} {s s' : Session} → a' ≡ a → s' ≡ s → Loads l lent (record { answer = a; session = s }) lent'
    → Loads l lent (record { answer = a'; session = s' }) lent'
loads_as l lent lent' e f w = subst⁻¹ (λ (x : Answer × Session). Loads l lent (record { answer = x.0; session = x.1 }) lent') (λ i. (e i, f i)) w

pub kinds_same : (size start : ℕ) {k k' : ℕ} (v : Verdict) {b : Arrays} {a : Records} {total : ℕ} → k ≡ k' → session_of size start k b a v total ≡ session_of size start k' b a v total
kinds_same size start v {b = b'} {a = a'} {total = total} e = ap (λ (k : ℕ). session_of size start k b' a' v total) e
