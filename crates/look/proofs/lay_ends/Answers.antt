-- `lay_ends` meets its contract: the first i entries are the starts behind. Assumes nothing.
use Rattle.std.proofs.Common.{◌≡◌, ℕ, ◌+◌, ◌<◌, ◌≤◌, eqb, List, get_or, set, sym, ◌∙◌, ⊎_elim, arith, rules, length-set, get_or-set_other, get_or-set_same, ext_get_or, eqb-true}
use borrow.Author.Tests.{eqb-false}
use Rattle.plain.proofs.Tests.{either}
use Rattle.rows.proofs.Paste.{same_place}
use Rattle.rows.proofs.Entries.{entries_length, entries_at}
use Rattle.look.specs.Scan.{ends_of}
use Rattle.look.proofs.lay_ends.Invariants.{Laid}
use Rattle.look.proofs.lay_ends.Goals as goal

laid_more : (starts ends : List ℕ) (i : ℕ) → i < 512 → Laid starts ends i → Laid starts (set ends i (get_or starts (i + 1) 0)) (i + 1)
laid_more starts ends i h r = record {
  within = omega arith;
  size = length-set ends i (get_or starts (i + 1) 0) ∙ r.size;
  laid = λ j l. ⊎_elim
      (λ e. let z : j ≡ i = eqb-true j i e in
      same_place (set ends i (get_or starts (i + 1) 0)) z ∙ get_or-set_same ends i (get_or starts (i + 1) 0) 0 (omega (arith, r.size)) ∙ same_place starts (omega arith))
      (λ e. let z : (j ≡ i) → ⊥ = eqb-false j i e in get_or-set_other ends i j (get_or starts (i + 1) 0) 0 z ∙ r.laid j (omega arith)) (either (eqb j i));
}

laid_all : (starts ends : List ℕ) (i : ℕ) → 512 ≤ i → Laid starts ends i → ends ≡ ends_of starts
unfolding ends_of
laid_all starts ends i h r =
    ext_get_or 0 ends (ends_of starts) (r.size ∙ sym (entries_length 512 1 starts))
    (λ j l. r.laid j (omega (arith, r.size)) ∙ sym (entries_at 512 1 starts j (omega (arith, r.size))))

pub loop-v-init : goal.loop-v-init
loop-v-init c = record { within = omega arith; size = search rules; laid = λ j l. absurd (omega arith) }

pub loop-v-preserved : goal.loop-v-preserved
loop-v-preserved c = laid_more c.args.starts.now c.loop-v.ends c.loop-v.v c.loop-v-test.true c.loop-v.invariant

pub returns : goal.returns
returns c = laid_all c.args.starts.now c.loop-v.ends c.loop-v.v c.loop-v-test.false c.loop-v.invariant
