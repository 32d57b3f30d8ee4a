-- Looks at the edges of a level's states, and levels one after the other: what is left comes to what the whole does. Assumes nothing.
use mathlib.Core.Path.{◌≡◌, refl, sym, ap, subst, ◌∙◌}
use mathlib.Core.Logic.{◌⊎◌, inl, inr, ⊎_elim}
use mathlib.Core.Bool.{true, false}
use mathlib.Core.List.{List, [], ◌++◌, append-nil}
use Prim.Native.Nat.{ℕ, suc, ◌+◌, ◌≤◌, ◌<◌}
use native.Mathlib.Numerals.{add-one}
use native.Mathlib.Omega.{arith}
use lib.ListN.{length, get_or, drop, drop_of_length-le}
use lib.Seq.{drop-cons}
use Rattle.plain.specs.Lists.{Begins}
use Rattle.plain.specs.Search.{Graph}
use Rattle.plain.specs.Shortest.{Sweep as PlainSweep, through, back, stopped, sweep, targets_of}
use Rattle.plain.proofs.Tests.{contra}
use Rattle.plain.proofs.Walks.{begins_get_or}
use Rattle.plain.proofs.Sweeps.{sweep_none, then_look, sweep_append, begins_trans, sweep_begins}
use Rattle.shortest.specs.declared.Sweep.TheVariants.{Through, Back, Stopped}
use Rattle.shortest.specs.declared.Swept.{Swept}
use Rattle.shortest.specs.Model.{goes_on, Sized, Stands, Rows, Comes, LooksThrough, LooksLevel}
use Rattle.shortest.specs.declared.Board.{Board}

-- ---- what has come of looks, by whether it goes on

pub goes : (w : PlainSweep) (b : Board) (r : Swept) → Comes w b r → goes_on r.sweep ≡ true → (xs : List ℕ) × (w ≡ through xs b.spent) × Stands b.queue b.seen r.tail xs
goes (through xs n) b r h k = (xs, ap (through xs) (sym h.1), h.2)
goes back b r h k = absurd (contra k (ap goes_on h))
goes stopped b r h k = absurd (contra k (ap goes_on h))

pub halts : (w : PlainSweep) (b : Board) (r : Swept) → Comes w b r → goes_on r.sweep ≡ false → ((w ≡ back) × (r.sweep ≡ Back)) ⊎ ((w ≡ stopped) × (r.sweep ≡ Stopped))
halts (through xs n) b r h k = absurd (contra (ap goes_on h.0) k)
halts back b r h k = inl (refl, h)
halts stopped b r h k = inr (refl, h)

-- where looks halt, so does what they are a part of
pub halts_whole : (f : PlainSweep → PlainSweep) → f back ≡ back → f stopped ≡ stopped → (w whole : PlainSweep) → f w ≡ whole → (b : Board) (r : Swept) → Comes w b r → goes_on r.sweep ≡ false → Comes whole b r
halts_whole f on-back on-stop w whole e b r h k = ⊎_elim
    (λ z. subst (λ (p : PlainSweep). Comes p b r) (sym on-back ∙ ap f (sym z.0) ∙ e) z.1)
    (λ z. subst (λ (p : PlainSweep). Comes p b r) (sym on-stop ∙ ap f (sym z.0) ∙ e) z.1) (halts w b r h k)

-- ---- the states of a level

targets_next : (g : Graph) (xs : List ℕ) (i : ℕ) → i < length xs → targets_of g (drop i xs) ≡ g.successors (get_or xs i 0) ++ targets_of g (drop (suc i) xs)
unfolding targets_of
targets_next g xs i h = ap (targets_of g) (drop-cons xs i 0 h)

targets_none : (g : Graph) (xs : List ℕ) (i : ℕ) → length xs ≤ i → targets_of g (drop i xs) ≡ []
unfolding targets_of
targets_none g xs i h = ap (targets_of g) (drop_of_length-le xs {i = i} h)

module _ (targets starts : List ℕ) (budget goal from : ℕ) (b₀ : Board) (stop : ℕ) where
  -- Where the looks stand: the arrays stand for states, those at the beginning first, from which the rest of the level, from place i on, comes to what the whole level does.
  pub record Goes (g : Graph) (xs₀ : List ℕ) (i : ℕ) (b : Board) (tail : ℕ) : Type 0 where
    pub xs : List ℕ
    pub stands : Stands b.queue b.seen tail xs
    pub begins : Begins xs₀ xs
    pub same : sweep budget goal (targets_of g (drop i xs₀)) xs b.spent ≡ sweep budget goal (targets_of g (drop from xs₀)) xs₀ b₀.spent

  abbrev pub Left : ℕ → Board → ℕ → Type 0
  Left i b tail = (g : Graph) (xs : List ℕ) → Rows g targets starts → Stands b₀.queue b₀.seen stop xs → Goes g xs i b tail

  pub left_begins : Left from b₀ stop
  left_begins g xs rows h = record { xs = xs; stands = h; begins = ([], sym (append-nil xs)); same = refl }

  module _ (i : ℕ) (b : Board) (tail : ℕ) (left : Left i b tail) where
    -- no state is left
    pub left_ends : Sized b.queue b.seen → stop ≤ i → LooksLevel targets starts budget goal from b₀ stop b (record { sweep = Through; tail = tail })
    left_ends sized h = record {
      sized = sized;
      comes = λ g xs rows z.
          let w = left g xs rows z in
          subst (λ (p : PlainSweep). Comes p b (record { sweep = Through; tail = tail }))
          (sym (ap (λ (ts : List ℕ). sweep budget goal ts w.xs b.spent) (targets_none g xs i (omega (arith, z.tail_is))) ∙ sweep_none budget goal w.xs b.spent) ∙ w.same)
          (refl, refl, w.stands);
    }

    -- the next state
    module _ (more : i < stop) (v : ℕ) (v-is : v ≡ get_or b.queue i 0) (b' : Board) (r : Swept) (looked : LooksThrough targets starts budget goal v b tail b' r) where
      module _ (g : Graph) (xs : List ℕ) (rows : Rows g targets starts) (z : Stands b₀.queue b₀.seen stop xs) where
        abbrev now : Goes g xs i b tail
        now = left g xs rows z

        abbrev this : PlainSweep
        this = sweep budget goal (g.successors v) now.xs b.spent

        abbrev behind : List ℕ
        behind = targets_of g (drop (suc i) xs)

        inside : i < length xs
        inside = omega (arith, z.tail_is)

        state_is : v ≡ get_or xs i 0
        state_is = v-is ∙ begins_get_or xs b.queue i inside (begins_trans xs now.xs b.queue now.begins now.stands.in_order)

        whole : then_look budget goal behind this ≡ sweep budget goal (targets_of g (drop from xs)) xs b₀.spent
        whole = sym (sweep_append budget goal (g.successors v) behind now.xs b.spent)
            ∙ ap (λ (u : ℕ). sweep budget goal (g.successors u ++ behind) now.xs b.spent) state_is
            ∙ ap (λ (ts : List ℕ). sweep budget goal ts now.xs b.spent) (sym (targets_next g xs i inside)) ∙ now.same

        comes_here : Comes this b' r
        comes_here = looked.comes g now.xs rows now.stands

        onward : goes_on r.sweep ≡ true → Goes g xs (i + 1) b' r.tail
        onward k =
            let t = goes this b' r comes_here k in
            record {
              xs = t.0;
              stands = t.2;
              begins = begins_trans xs now.xs t.0 now.begins (sweep_begins budget goal (g.successors v) now.xs t.0 b.spent b'.spent t.1);
              same = ap (λ (j : ℕ). sweep budget goal (targets_of g (drop j xs)) t.0 b'.spent) (add-one i) ∙ ap (then_look budget goal behind) (sym t.1) ∙ whole;
            }

      pub left_halts : goes_on r.sweep ≡ false → LooksLevel targets starts budget goal from b₀ stop b' r
      left_halts k = record {
        sized = looked.sized;
        comes = λ g xs rows z. halts_whole (then_look budget goal (behind g xs rows z)) refl refl (this g xs rows z) _ (whole g xs rows z) b' r (comes_here g xs rows z) k;
      }

      pub left_goes_on : goes_on r.sweep ≡ true → Left (i + 1) b' r.tail
      left_goes_on k g xs rows z = onward g xs rows z k
