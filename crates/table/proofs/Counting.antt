-- The counts of the moves that enter each state, as moves come and go. Assumes nothing.
use mathlib.Core.Path.{◌≡◌, sym, ap, subst⁻¹, ◌∙◌}
use mathlib.Core.Logic.{⊎_elim}
use mathlib.Core.Bool.{Bool, true, false}
use mathlib.Core.List.{List, [], ◌∷◌, ◌++◌, append-nil, append_assoc}
use Prim.Native.Nat.{ℕ, ◌+◌, ◌≤◌, ◌<◌}
use native.Mathlib.Omega.{arith}
use lib.Dec.{eqb}
use lib.ListN.{length, get_or, set, replicate, length-set, length-append, length-replicate}
use lib.Seq.{get_or-set_same, get_or-set_other}
use borrow.Author.Tests.{eqb-true, eqb-false}
use Rattle.plain.specs.Lists.{any}
use Rattle.plain.specs.Search.{Edge}
use Rattle.plain.specs.Table.{one}
use Rattle.plain.specs.Refusals.{outside, pairs, repeated}
use Rattle.plain.specs.Machine.{without}
use Rattle.plain.specs.Questions.{in_degree}
use Rattle.plain.proofs.Tests.{either, self, none_cons}
use Rattle.plain.proofs.Edges.{Has}
use Rattle.plain.proofs.Tables.{inside_both}
use Rattle.plain.proofs.Degrees.{in_nil, in_short, in_add, in_cut}
use Rattle.rows.proofs.Empty.{reads_same}
use Rattle.look.proofs.Counting.{further_more}
use Rattle.table.specs.Filing.{Counted, recounted, counted_all}
use Rattle.table.proofs.Pairs.{pairs_next, pairs_end}

-- the array keeps its length
pub recounted_length : (more : Bool) (s : ℕ) (xs : List ℕ) → length (recounted more s xs) ≡ length xs
recounted_length true s xs = length-set xs s _
recounted_length false s xs = length-set xs s _

-- the counts with another one for a state, where that is what the edges give
module _ (es fs : List Edge) (xs : List ℕ) (f : Counted es xs) (s n : ℕ) (below : s < 512) where
  put_in : n ≡ in_degree fs s → ((v : ℕ) → eqb s v ≡ false → in_degree es v ≡ in_degree fs v) → Counted fs (set xs s n)
  put_in here others = record {
    counts_size = length-set xs s n ∙ f.counts_size;
    counts_are = λ v. ⊎_elim
        (λ z. let y : s ≡ v = eqb-true s v z in rw (← y) (get_or-set_same xs s n 0 (omega (arith, f.counts_size)) ∙ here))
        (λ z. get_or-set_other xs s v n 0 (λ y. eqb-false s v z (sym y)) ∙ f.counts_are v ∙ others v z) (either (eqb s v));
  }

module _ (es : List Edge) (e : Edge) (xs : List ℕ) (f : Counted es xs) (below : e.1 < 512) where
  -- an edge that comes
  pub counted_more : length es ≤ 2048 → Counted (es ++ (e ∷ [])) (recounted true e.1 xs)
  counted_more few = put_in es (es ++ (e ∷ [])) xs f e.1 _ below
      (further_more (get_or xs e.1 0) (omega (arith, f.counts_are e.1, in_short es e.1))
      ∙ (let here : eqb e.1 e.1 ≡ true = self e.1 in omega (arith, f.counts_are e.1, in_add es e e.1, ap one here)))
      (λ v z. omega (arith, in_add es e v, ap one z))

  -- an edge that goes
  pub counted_fewer : repeated es ≡ false → Has es e → Counted (without e es) (recounted false e.1 xs)
  counted_fewer once is = put_in es (without e es) xs f e.1 _ below
      (let here : eqb e.1 e.1 ≡ true = self e.1 in omega (arith, f.counts_are e.1, in_cut es e e.1 once is, ap one here))
      (λ v z. omega (arith, in_cut es e v once is, ap one z))

-- ---- those of a load

pub counted_none : Counted [] (replicate 512 0)
counted_none = record { counts_size = length-replicate {A = ℕ} 512 0; counts_are = λ s. reads_same 512 s 0 ∙ sym (in_nil s) }

counted_on : (n : ℕ) (es fs : List Edge) (xs : List ℕ) → n ≤ 512 → any (outside n) fs ≡ false → length es + length fs ≤ 2048 → Counted es xs → Counted (es ++ fs) (counted_all fs xs)
unfolding counted_all
counted_on n es [] xs size within few f = subst⁻¹ (λ (l : List Edge). Counted l xs) (append-nil es) f
counted_on n es (e ∷ fs) xs size within few f =
    let w = none_cons (outside n) e fs within in
    let below = (inside_both n e w.0).1 in
    rw (sym (append_assoc es (e ∷ []) fs))
    (counted_on n (es ++ (e ∷ [])) fs (recounted true e.1 xs) size w.1 (omega (arith, length-append es (e ∷ []))) (counted_more es e xs f (omega arith) (omega arith)))

pub counted_load : (n : ℕ) (es : List Edge) → n ≤ 512 → any (outside n) es ≡ false → length es ≤ 2048 → Counted es (counted_all es (replicate 512 0))
counted_load n es size within few = counted_on n [] es (replicate 512 0) size within (omega arith) counted_none

-- as it goes through a list of numbers
pub counted_next : (ns two rest : List ℕ) (n : ℕ) (xs : List ℕ) → (ns ≡ two ++ rest) × (length two ≡ n) → n ≡ 2 → counted_all (pairs ns) xs ≡ counted_all (pairs rest) (recounted true (get_or two 1 0) xs)
unfolding counted_all
counted_next ns two rest n xs parts e = ap (λ (es : List Edge). counted_all es xs) (pairs_next ns two rest n parts e)

pub counted_end : (ns : List ℕ) (n : ℕ) (xs : List ℕ) → length ns < n → n ≡ 2 → counted_all (pairs ns) xs ≡ xs
unfolding counted_all
counted_end ns n xs h e = ap (λ (es : List Edge). counted_all es xs) (pairs_end ns n h e)
