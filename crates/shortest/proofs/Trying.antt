-- A length, root by root, and lengths one after the other: what is left comes to what the whole does. Assumes nothing.
use mathlib.Core.Path.{◌≡◌, refl, sym, ap, subst, ◌∙◌}
use mathlib.Core.Logic.{⊎_elim}
use mathlib.Core.Bool.{true, false}
use mathlib.Core.List.{List, ◌∷◌}
use Prim.Native.Nat.{ℕ, suc, ◌+◌, ◌-◌, ◌≤◌, ◌<◌}
use native.Mathlib.Numerals.{add-one}
use native.Mathlib.Omega.{arith}
use lib.ListN.{length, get_or}
use Rattle.plain.specs.Search.{Graph}
use Rattle.plain.specs.Shortest.{search_from, Attempt, succeeded, ran_out, ruled_out, attempt, left_at, hunt}
use Rattle.plain.proofs.Tests.{contra}
use Rattle.plain.proofs.Sweeps.{then_states, attempt_next, attempt_over, then_lengths, hunt_next, hunt_over}
use Rattle.rows.specs.Rows.{entries}
use Rattle.rows.proofs.Entries.{entries_none, entries_next}
use Rattle.look.specs.Numbers.{further}
use Rattle.look.proofs.Counting.{further_more}
use Rattle.shortest.specs.declared.Sweep.{Sweep}
use Rattle.shortest.specs.declared.Sweep.TheVariants.{Through}
use Rattle.shortest.specs.declared.Swept.{Swept}
use Rattle.shortest.specs.declared.Lengths.{Lengths}
use Rattle.shortest.specs.Model.{goes_on, Rows, States, Comes, Searches, Ends, TriesLength, lengths_of, lengths_at, TriesLengths}
use Rattle.shortest.specs.declared.Board.{Board}
use Rattle.shortest.proofs.Levels.{goes, halts}

-- ---- the roots of a length

module _ (targets starts roots : List ℕ) (count budget l spent₀ : ℕ) where
  -- the roots that are left, from place i on, come to what all do
  abbrev pub Left : ℕ → ℕ → Type 0
  Left i spent = (g : Graph) → Rows g targets starts → States count roots → attempt g budget l (entries (count - i) i roots) spent ≡ attempt g budget l (entries count 0 roots) spent₀

  pub left_begins : Left 0 spent₀
  left_begins g rows low = let all : count - 0 ≡ count = omega arith in ap (λ (n : ℕ). attempt g budget l (entries n 0 roots) spent₀) all

  module _ (i spent : ℕ) (left : Left i spent) where
    pub left_ends : (queue : List ℕ) → length queue ≡ 512 → count ≤ i → TriesLength targets starts roots count budget l spent₀ queue spent Through
    left_ends queue size h = record {
      queue_size = size;
      ends = λ g rows low. subst (λ (a : Attempt). Ends a spent Through)
          (sym (ap (λ (ss : List ℕ). attempt g budget l ss spent) (entries_none i count roots h) ∙ attempt_over g budget l spent) ∙ left g rows low) (refl, refl);
    }

    -- the next root
    module _ (more : i < count) (s : ℕ) (s-is : s ≡ get_or roots i 0) (b : Board) (r : Swept) (looked : Searches targets starts budget s s l spent b r) where
      module _ (g : Graph) (rows : Rows g targets starts) (low : States count roots) where
        abbrev behind : List ℕ
        behind = entries (count - (i + 1)) (i + 1) roots

        whole : then_states g budget l behind (search_from g budget l s spent) ≡ attempt g budget l (entries count 0 roots) spent₀
        whole = sym (attempt_next g budget l s behind spent) ∙ ap (λ (u : ℕ). attempt g budget l (u ∷ behind) spent) s-is
            ∙ ap (λ (ss : List ℕ). attempt g budget l ss spent) (sym (entries_next i count roots more)) ∙ left g rows low

        comes_here : Comes (search_from g budget l s spent) b r
        comes_here = looked.comes g rows (subst (λ (u : ℕ). u < 512) (sym s-is) (low i more))

        stops_here : goes_on r.sweep ≡ false → Ends (attempt g budget l (entries count 0 roots) spent₀) b.spent r.sweep
        stops_here k = ⊎_elim
            (λ z. subst (λ (a : Attempt). Ends a b.spent r.sweep) (ap (then_states g budget l behind) (sym z.0) ∙ whole) z.1)
            (λ z. subst (λ (a : Attempt). Ends a b.spent r.sweep) (ap (then_states g budget l behind) (sym z.0) ∙ whole) z.1)
            (halts (search_from g budget l s spent) b r comes_here k)

      pub left_halts : goes_on r.sweep ≡ false → TriesLength targets starts roots count budget l spent₀ b.queue b.spent r.sweep
      left_halts k = record { queue_size = looked.sized.queue_size; ends = λ g rows low. stops_here g rows low k }

      pub left_goes_on : goes_on r.sweep ≡ true → Left (i + 1) b.spent
      left_goes_on k g rows low =
          let t = goes (search_from g budget l s spent) b r (comes_here g rows low) k in
          ap (then_states g budget l (behind g rows low)) (sym t.1) ∙ whole g rows low

-- ---- the lengths

-- where trying a length goes on, it is ruled out
goes_ruled : (a : Attempt) (spent : ℕ) (r : Sweep) → Ends a spent r → goes_on r ≡ true → a ≡ ruled_out spent
goes_ruled succeeded spent r h k = absurd (contra k (ap goes_on h))
goes_ruled ran_out spent r h k = absurd (contra k (ap goes_on h))
goes_ruled (ruled_out n) spent r h k = ap ruled_out (sym h.1)

module _ (targets starts roots : List ℕ) (count budget present : ℕ) where
  -- the lengths that are left, behind those ruled out, come to what all do
  abbrev pub LeftLengths : ℕ → ℕ → Type 0
  LeftLengths gone spent = (g : Graph) → Rows g targets starts → States count roots
      → hunt g budget (entries count 0 roots) (present - gone) (gone + 1) spent ≡ hunt g budget (entries count 0 roots) present 1 0

  pub lengths_begin : LeftLengths 0 0
  lengths_begin g rows low = let all : present - 0 ≡ present = omega arith in ap (λ (k : ℕ). hunt g budget (entries count 0 roots) k 1 0) all

  module _ (gone spent : ℕ) (left : LeftLengths gone spent) where
    pub lengths_end : present ≤ gone → gone ≤ present → (least : ℕ) → least ≡ further present → TriesLengths targets starts roots count budget present (record { best = present; least = least })
    lengths_end h k least e g rows low short =
        let none : present - gone ≡ 0 = omega arith in
        let here : gone + 1 ≡ least = sym (e ∙ further_more present (omega arith) ∙ (let z : suc present ≡ gone + 1 = omega arith in z)) in
        ap (lengths_of present) (ap left_at (sym here) ∙ sym (hunt_over g budget (entries count 0 roots) (gone + 1) spent)
        ∙ ap (λ (k : ℕ). hunt g budget (entries count 0 roots) k (gone + 1) spent) (sym none) ∙ left g rows low)

    module _ (more : gone < present) (queue' : List ℕ) (spent' : ℕ) (r : Sweep) (tried : TriesLength targets starts roots count budget (gone + 1) spent queue' spent' r) where
      all_lengths : (g : Graph) → Rows g targets starts → States count roots
          → then_lengths g budget (entries count 0 roots) (present - (gone + 1)) (gone + 1) (attempt g budget (gone + 1) (entries count 0 roots) spent) ≡ hunt g budget (entries count 0 roots) present 1 0
      all_lengths g rows low =
          let one : present - gone ≡ suc (present - (gone + 1)) = omega arith in
          sym (hunt_next g budget (entries count 0 roots) (present - (gone + 1)) (gone + 1) spent)
          ∙ ap (λ (k : ℕ). hunt g budget (entries count 0 roots) k (gone + 1) spent) (sym one) ∙ left g rows low

      -- the searches end at this length
      halted : (g : Graph) (a : Attempt) → Ends a spent' r → goes_on r ≡ false
          → lengths_at r (gone + 1) present ≡ lengths_of present (then_lengths g budget (entries count 0 roots) (present - (gone + 1)) (gone + 1) a)
      halted g succeeded h k = ap (λ (x : Sweep). lengths_at x (gone + 1) present) h
      halted g ran_out h k = ap (λ (x : Sweep). lengths_at x (gone + 1) present) h
      halted g (ruled_out n) h k = absurd (contra (ap goes_on h.0) k)

      pub lengths_halt : goes_on r ≡ false → (n : Lengths) → n ≡ lengths_at r (gone + 1) present → TriesLengths targets starts roots count budget present n
      lengths_halt k n e g rows low short =
          e ∙ halted g (attempt g budget (gone + 1) (entries count 0 roots) spent) (tried.ends g rows low) k ∙ ap (lengths_of present) (all_lengths g rows low)

      pub lengths_go_on : goes_on r ≡ true → LeftLengths (gone + 1) spent'
      lengths_go_on k g rows low =
          ap (λ (l : ℕ). hunt g budget (entries count 0 roots) (present - (gone + 1)) l spent') (add-one (gone + 1))
          ∙ ap (then_lengths g budget (entries count 0 roots) (present - (gone + 1)) (gone + 1)) (sym (goes_ruled (attempt g budget (gone + 1) (entries count 0 roots) spent) spent' r (tried.ends g rows low) k)) ∙ all_lengths g rows low
