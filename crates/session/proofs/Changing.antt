-- What a call leaves in the arrays, put together from what trying, filing and settling leave. Assumes nothing.
use mathlib.Core.Path.{◌≡◌, refl, sym, subst, ◌∙◌}
use mathlib.Core.Bool.{Bool}
use mathlib.Core.List.{List}
use Prim.Native.Nat.{ℕ, ◌-◌}
use native.Mathlib.Omega.{arith}
use lib.ListN.{length}
use Rattle.plain.specs.Refusals.{accepted, refused}
use Rattle.batch.specs.declared.Attempt.{Attempt}
use Rattle.table.specs.declared.Trial.{Trial}
use Rattle.table.specs.declared.Trial.TheVariants.{Accepted, Refused}
use Rattle.table.specs.declared.Position.TheVariants.{Alone}
use Rattle.verdict.specs.declared.Answer.{Answer}
use Rattle.verdict.specs.Answers.{refusing}
use Rattle.std.specs.Prelude.{Option}
use Rattle.session.specs.declared.Settled.{Settled}
use Rattle.session.specs.declared.Verdict.{Verdict}
use Rattle.rows.specs.declared.Rows.{Rows}
use Rattle.layers.specs.Layout.{layered}
use Rattle.search.specs.Core.{game_of}
use Rattle.table.specs.Trials.{kinds_trial_in}
use Rattle.table.specs.declared.Arrays.{Arrays}
use Rattle.table.specs.Filing.{AttemptedKinds}
use Rattle.batch.specs.Batches.{lines_in, TriedIn, call_tried_in, AttemptedCall}
use Rattle.resumption.specs.Model.{resumption_of}
use Rattle.session.specs.Model.{game_in, Settles, SettlesAfresh, UpdatedIn, KindsSet}
use Rattle.search.specs.declared.Records.{Records}
use Rattle.table.proofs.Trying.{tried_accepted, tried_refused}

-- refusals with their numbers
pub same_number : {m n : ℕ} → refused m ≡ refused n → m ≡ n
same_number e = cc

pub not_both : {n : ℕ} → refused n ≡ accepted → ⊥
not_both e = let z : ◌≡◌ {A = ℕ} 0 1 = cc in omega arith

module _ (alone : Bool) (ns : List ℕ) (size kinds start : ℕ) (old : Verdict) (b : Arrays) (a : Records) (lent : List ℕ) where
  abbrev tried : TriedIn
  tried = call_tried_in alone (lines_in ns) size kinds b (length lent)

  pub updated_refused : (x : Attempt) (b' : Arrays) (m : ℕ) (answer : Answer) → AttemptedCall alone tried b x b' → x.trial ≡ Refused m → answer ≡ refusing m x.position
      → UpdatedIn alone ns size kinds start old b a lent (record { answer = answer; verdict = old; kinds = kinds }) b' a lent
  updated_refused x b' m answer w e f =
      let is : tried.trial ≡ refused m = tried_refused tried.trial m (sym e ∙ w.trial_is) in
      record {
        on_refusal = λ n z.
            let same : m ≡ n = same_number (sym is ∙ z) in
            ((λ i. record { answer = (f ∙ (λ j. refusing (same j) (w.position_is j))) i; verdict = old; kinds = kinds }), w.unfiled m e, refl, refl);
        on_acceptance = λ z. absurd (not_both (sym is ∙ z));
      }

  pub updated_accepted : (x : Attempt) (b' : Arrays) (from : Option ℕ) (r : Settled) (a' : Records) (lent' : List ℕ) → AttemptedCall alone tried b x b' → x.trial ≡ Accepted
      → from ≡ resumption_of size kinds ns b.rows a.number a.index a.walk old.height → Settles size kinds (game_in size kinds b') start from old a lent r a' lent'
      → UpdatedIn alone ns size kinds start old b a lent r b' a' lent'
  updated_accepted x b' from r a' lent' w e g k = record {
    on_refusal = λ n z. absurd (not_both (sym z ∙ tried_accepted tried.trial (sym w.trial_is ∙ e)));
    on_acceptance = λ z. (w.filed e, subst (λ (x : Option ℕ). Settles size kinds (game_in size kinds b') start x old a lent r a' lent') g k);
  }

-- ---- another count of kinds

module _ (k size kinds start : ℕ) (old : Verdict) (rows : Rows) (words : List ℕ) (a : Records) (lent : List ℕ) where
  pub kinds_refused : (x : Trial) (words' : List ℕ) (m : ℕ) (answer : Answer) → AttemptedKinds k size kinds (length lent) rows.starts words x words' → x ≡ Refused m → answer ≡ refusing m Alone
      → KindsSet k size kinds start old rows words a lent (record { answer = answer; verdict = old; kinds = kinds }) words' a lent
  kinds_refused x words' m answer w e f =
      let is = tried_refused (kinds_trial_in k size rows.starts (length lent)) m (sym e ∙ w.trial_is) in
      record {
        on_refusal = λ n z.
            let same : m ≡ n = same_number (sym is ∙ z) in
            ((λ i. record { answer = (f ∙ (λ j. refusing (same j) Alone)) i; verdict = old; kinds = kinds }), w.untouched m e, refl, refl);
        on_acceptance = λ z. absurd (not_both (sym is ∙ z));
      }

  pub kinds_accepted : (x : Trial) (words' : List ℕ) (r : Settled) (a' : Records) (lent' : List ℕ) → AttemptedKinds k size kinds (length lent) rows.starts words x words' → x ≡ Accepted
      → SettlesAfresh size k (game_of rows.targets (layered size (k - 1) rows.starts words') words' size) start a.walk lent r a' lent'
      → KindsSet k size kinds start old rows words a lent r words' a' lent'
  kinds_accepted x words' r a' lent' w e s = record {
    on_refusal = λ n z. absurd (not_both (sym z ∙ tried_accepted (kinds_trial_in k size rows.starts (length lent)) (sym w.trial_is ∙ e)));
    on_acceptance = λ z. (w.kept e, s);
  }
