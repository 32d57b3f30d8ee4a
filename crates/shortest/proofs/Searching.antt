-- A search, level by level: the levels that are left come to what the whole search does. Assumes nothing.
use mathlib.Core.Path.{◌≡◌, refl, sym, ap, subst, ◌∙◌}
use mathlib.Core.Bool.{Bool, true, false}
use mathlib.Core.List.{List, [], ◌∷◌}
use Prim.Native.Nat.{ℕ, suc, ◌+◌, ◌-◌, ◌≤◌, ◌<◌}
use native.Mathlib.Omega.{arith}
use lib.ListN.{length, drop, replicate, drop_of_length-le}
use Rattle.plain.specs.Search.{Graph}
use Rattle.plain.specs.Shortest.{Sweep as PlainSweep, through, sweep, targets_of, levels}
use Rattle.plain.proofs.Tests.{out_nil}
use Rattle.plain.proofs.Sweeps.{noted_new, then_levels, levels_next, levels_over, levels_none}
use Rattle.shortest.specs.declared.Sweep.TheVariants.{Through}
use Rattle.shortest.specs.declared.Swept.{Swept}
use Rattle.shortest.specs.Model.{goes_on, board_of, Sized, Stands, Rows, Notes, Comes, LooksLevel, Searches}
use Rattle.shortest.specs.declared.Board.{Board}
use Rattle.shortest.proofs.Standing.{stands_none}
use Rattle.shortest.proofs.Levels.{goes, halts_whole}

module _ (targets starts : List ℕ) (budget goal state l spent₀ : ℕ) where
  -- Where a search stands: the arrays stand for some states, of which the next level is that from a place on, and the levels that are left come to what the whole search does.
  pub record Goes (g : Graph) (from depth : ℕ) (b : Board) (tail : ℕ) : Type 0 where
    pub xs : List ℕ
    pub stands : Stands b.queue b.seen tail xs
    pub same : levels g budget (l - depth) goal (drop from xs) xs b.spent ≡ levels g budget l goal (state ∷ []) (state ∷ []) spent₀

  abbrev pub Left : ℕ → ℕ → Board → ℕ → Type 0
  Left from depth b tail = (g : Graph) → Rows g targets starts → state < 512 → Goes g from depth b tail

  -- the state itself is seen first
  pub left_begins : (queue queue' : List ℕ) (seen seen' : List Bool) (tail spent : ℕ) → spent ≡ spent₀ → seen ≡ replicate 512 false → Notes queue seen 0 state queue' seen' tail → Left 0 0 (board_of queue' seen' spent) tail
  left_begins queue queue' seen seen' tail spent kept e n g rows low = record {
    xs = state ∷ [];
    stands = subst (Stands queue' seen' tail) (noted_new state [] (out_nil state)) (n.stands [] low (stands_none queue seen e));
    same = let all : l - 0 ≡ l = omega arith in (λ i. levels g budget (all i) goal (state ∷ []) (state ∷ []) (kept i));
  }

  module _ (from depth : ℕ) (b : Board) (tail : ℕ) (left : Left from depth b tail) where
    abbrev At : Type 0
    At = Searches targets starts budget goal state l spent₀ b (record { sweep = Through; tail = tail })

    -- what is left comes to the states seen
    over : Sized b.queue b.seen → ((g : Graph) (xs : List ℕ) → length xs ≡ tail → levels g budget (l - depth) goal (drop from xs) xs b.spent ≡ through xs b.spent) → At
    over sized e = record {
      sized = sized;
      comes = λ g rows low.
          let w = left g rows low in
          subst (λ (p : PlainSweep). Comes p b (record { sweep = Through; tail = tail })) (sym (e g w.xs (sym w.stands.tail_is)) ∙ w.same) (refl, refl, w.stands);
    }

    -- the level has no state
    pub left_empty : Sized b.queue b.seen → from ≡ tail → At
    left_empty sized h = over sized (λ g xs z.
        ap (λ (level : List ℕ). levels g budget (l - depth) goal level xs b.spent) (drop_of_length-le xs {i = from} (omega arith)) ∙ levels_none g budget (l - depth) goal xs b.spent)

    -- no level is left
    pub left_ends : Sized b.queue b.seen → l ≤ depth → At
    left_ends sized h = over sized (λ g xs z.
        let none : l - depth ≡ 0 = omega arith in
        ap (λ (k : ℕ). levels g budget k goal (drop from xs) xs b.spent) none ∙ levels_over g budget goal (drop from xs) xs b.spent)

    -- the next level
    module _ (more : depth < l) (b' : Board) (r : Swept) (looked : LooksLevel targets starts budget goal from b tail b' r) where
      module _ (g : Graph) (rows : Rows g targets starts) (low : state < 512) where
        abbrev now : Goes g from depth b tail
        now = left g rows low

        abbrev this : PlainSweep
        this = sweep budget goal (targets_of g (drop from now.xs)) now.xs b.spent

        whole : then_levels g budget (l - (depth + 1)) goal (length now.xs) this ≡ levels g budget l goal (state ∷ []) (state ∷ []) spent₀
        whole =
            let one : l - depth ≡ suc (l - (depth + 1)) = omega arith in
            sym (levels_next g budget (l - (depth + 1)) goal (drop from now.xs) now.xs b.spent)
            ∙ ap (λ (k : ℕ). levels g budget k goal (drop from now.xs) now.xs b.spent) (sym one) ∙ now.same

        comes_here : Comes this b' r
        comes_here = looked.comes g now.xs rows now.stands

        onward : goes_on r.sweep ≡ true → Goes g tail (depth + 1) b' r.tail
        onward k =
            let t = goes this b' r comes_here k in
            record {
              xs = t.0;
              stands = t.2;
              same = ap (λ (i : ℕ). levels g budget (l - (depth + 1)) goal (drop i t.0) t.0 b'.spent) now.stands.tail_is
                  ∙ ap (then_levels g budget (l - (depth + 1)) goal (length now.xs)) (sym t.1) ∙ whole;
            }

      pub left_halts : goes_on r.sweep ≡ false → Searches targets starts budget goal state l spent₀ b' r
      left_halts k = record {
        sized = looked.sized;
        comes = λ g rows low.
            halts_whole (then_levels g budget (l - (depth + 1)) goal (length (now g rows low).xs)) refl refl (this g rows low) _ (whole g rows low) b' r (comes_here g rows low) k;
      }

      pub left_goes_on : goes_on r.sweep ≡ true → Left tail (depth + 1) b' r.tail
      left_goes_on k g rows low = onward g rows low k
