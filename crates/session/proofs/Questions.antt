-- A question on a session: what is read off its arrays is the reply of the table that it holds. Assumes nothing.
use mathlib.Core.Path.{◌≡◌, refl, ap, subst⁻¹, transport, ◌∙◌}
use mathlib.Core.Bool.{Bool, true, false}
use mathlib.Core.List.{List}
use Prim.Native.Nat.{ℕ, ◌-◌}
use native.Mathlib.Omega.{arith}
use Rattle.plain.specs.Search.{Verdict, none, lasso, unfinished, verdict}
use Rattle.plain.specs.Table.{final}
use Rattle.plain.specs.Questions.{Question, ways, short}
use Rattle.plain.proofs.Tests.{contra}
use Rattle.question.specs.declared.Topic.{Topic}
use Rattle.question.specs.declared.Topic.TheVariants.{Ways, Short}
use Rattle.question.specs.declared.Reply.{Reply}
use Rattle.question.specs.Replies.{topic_of, ways_in, RoundOf, ShortIn}
use Rattle.question.proofs.Replies.{ways_outside, ways_same, short_same}
use Rattle.verdict.specs.Answers.{WalkOf}
use Rattle.session.specs.declared.Session.{Session}
use Rattle.session.specs.Model.{arrays_held}
use Rattle.session.specs.Promises.{Replies}

-- the moves of the round of the walk that is held
round_held : (stem len present : ℕ) (walk : List ℕ) → present ≡ len - stem → (w : Verdict) → WalkOf stem len walk w → RoundOf present w
round_held stem len present walk e none h = omega (arith, h.0, h.1)
round_held stem len present walk e (lasso xs ys) h = (omega (arith, h.0, h.1), h.3)
round_held stem len present walk e unfinished h = h

-- what a question asks about, and its number
is_short : Question → Bool
is_short (ways n) = false
is_short (short n) = true

number_of : Question → ℕ
number_of (ways n) = n
number_of (short n) = n

module _ (s : Session) (topic : Topic) (n : ℕ) (r : Reply) where
  pub asked_ways : topic ≡ Ways → r ≡ ways_in n s.size s.arrays.rows.starts s.arrays.indegree → Replies (topic_of topic n) s r
  unfolding is_short number_of
  asked_ways e z = subst⁻¹ (λ (x : Topic). Replies (topic_of x n) s r) e (record {
    replies = λ t h. z ∙ ap (λ (size : ℕ). ways_in n size s.arrays.rows.starts s.arrays.indegree) h.size_is ∙ ways_same t (arrays_held s) h.arises h.stored n;
    outside = λ state f out. z ∙ ap (λ (m : ℕ). ways_in m s.size s.arrays.rows.starts s.arrays.indegree) (ap number_of f) ∙ ways_outside state s.size s.arrays.rows.starts s.arrays.indegree out;
    several_kinds = λ b f k. absurd (contra (ap is_short f) refl);
    no_game = λ b f k empty. absurd (contra (ap is_short f) refl);
  })

  pub asked_short : (present : ℕ) → present ≡ s.length - s.stem → topic ≡ Short
      → ShortIn n s.size s.kinds s.start present s.arrays.rows.targets s.arrays.rows.starts s.arrays.words r → Replies (topic_of topic n) s r
  unfolding is_short
  asked_short present p e z = subst⁻¹ (λ (x : Topic). Replies (topic_of x n) s r) e (record {
    replies = λ t h. short_same t (arrays_held s) h.arises h.stored n present r (round_held s.stem s.length present s.records.walk p (verdict (final t)) h.told)
        (transport (λ i. ShortIn n (h.size_is i) (h.kinds_is i) (h.start_is i) present s.arrays.rows.targets s.arrays.rows.starts s.arrays.words r) z);
    outside = λ state f out. absurd (contra refl (ap is_short f));
    several_kinds = λ b f k. z.several_kinds k;
    no_game = λ b f k empty. z.no_game k empty;
  })
