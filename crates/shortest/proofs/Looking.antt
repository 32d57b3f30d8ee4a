-- Looks at the edges of a state, one after the other: what is left of the row comes to what the whole row does. Assumes nothing.
use mathlib.Core.Path.{◌≡◌, refl, sym, ap, subst, subst⁻¹, ◌∙◌}
use mathlib.Core.Logic.{◌≢◌}
use mathlib.Core.Bool.{Bool}
use mathlib.Core.List.{List, ◌∷◌}
use Prim.Native.Nat.{ℕ, suc, ◌+◌, ◌-◌, ◌≤◌, ◌<◌}
use lib.ListN.{get_or}
use Rattle.plain.specs.Lists.{In}
use Rattle.plain.specs.Search.{Graph}
use Rattle.plain.specs.Shortest.{noted, Sweep as PlainSweep, sweep}
use Rattle.plain.proofs.Tests.{in_head, in_tail}
use Rattle.plain.proofs.Sweeps.{sweep_stops, sweep_returns, sweep_goes, sweep_none}
use Rattle.rows.specs.Rows.{entries}
use Rattle.rows.proofs.Entries.{entries_none, entries_next}
use Rattle.look.specs.declared.Row.{Row}
use Rattle.look.specs.Scan.{Spans}
use Rattle.look.proofs.Scans.{row_places}
use Rattle.shortest.specs.declared.Sweep.TheVariants.{Through, Back, Stopped}
use Rattle.shortest.specs.Model.{board_of, Sized, Stands, Rows, Notes, Comes, LooksThrough}
use Rattle.shortest.specs.declared.Board.{Board}

module _ (targets starts : List ℕ) (budget goal v : ℕ) (b₀ : Board) (begin : ℕ) where
  -- Where the looks stand: the arrays stand for some states, from which the rest of the row, from place e up to its end, comes to what the whole row comes to.
  pub record Goes (g : Graph) (xs₀ : List ℕ) (stop e : ℕ) (b : Board) (tail : ℕ) : Type 0 where
    pub xs : List ℕ
    pub stands : Stands b.queue b.seen tail xs
    pub small : (t : ℕ) → In t (entries (stop - e) e targets) → t < 512
    pub same : sweep budget goal (entries (stop - e) e targets) xs b.spent ≡ sweep budget goal (g.successors v) xs₀ b₀.spent

  abbrev pub Left : ℕ → ℕ → Board → ℕ → Type 0
  Left stop e b tail = (g : Graph) (xs : List ℕ) → Rows g targets starts → Stands b₀.queue b₀.seen begin xs → Goes g xs stop e b tail

  pub left_begins : (r : Row) → Spans starts v r → Left r.stop r.from b₀ begin
  left_begins r z g xs rows h =
      let row : g.successors v ≡ entries (r.stop - r.from) r.from targets = sym (rows.rows_are v) ∙ row_places targets starts v r z in
      record {
        xs = xs;
        stands = h;
        small = λ t i. rows.targets_small v t (subst⁻¹ (In t) row i);
        same = ap (λ (ts : List ℕ). sweep budget goal ts xs b₀.spent) (sym row);
      }

  module _ (stop e : ℕ) (b : Board) (tail : ℕ) (sized : Sized b.queue b.seen) (left : Left stop e b tail) where
    -- no edge is left
    pub left_ends : stop ≤ e → LooksThrough targets starts budget goal v b₀ begin b (record { sweep = Through; tail = tail })
    left_ends h = record {
      sized = sized;
      comes = λ g xs rows z.
          let w = left g xs rows z in
          subst (λ (p : PlainSweep). Comes p b (record { sweep = Through; tail = tail }))
          (sym (ap (λ (ts : List ℕ). sweep budget goal ts w.xs b.spent) (entries_none e stop targets h) ∙ sweep_none budget goal w.xs b.spent) ∙ w.same)
          (refl, refl, w.stands);
    }

    module _ (more : e < stop) where
      -- the next edge, and those behind it
      next : (g : Graph) (xs : List ℕ) (w : Goes g xs stop e b tail)
          → sweep budget goal (get_or targets e 0 ∷ entries (stop - (e + 1)) (e + 1) targets) w.xs b.spent ≡ sweep budget goal (g.successors v) xs b₀.spent
      next g xs w = ap (λ (ts : List ℕ). sweep budget goal ts w.xs b.spent) (sym (entries_next e stop targets more)) ∙ w.same

      -- the budget does not allow a look
      pub left_stops : budget ≤ b.spent → LooksThrough targets starts budget goal v b₀ begin b (record { sweep = Stopped; tail = tail })
      left_stops h = record {
        sized = sized;
        comes = λ g xs rows z.
            let w = left g xs rows z in
            subst (λ (p : PlainSweep). Comes p b (record { sweep = Stopped; tail = tail }))
            (sym (sweep_stops budget goal (get_or targets e 0) (entries (stop - (e + 1)) (e + 1) targets) w.xs b.spent h) ∙ next g xs w) refl;
      }

      module _ (allowed : b.spent < budget) (t : ℕ) (t-is : t ≡ get_or targets e 0) where
        -- the look comes back
        pub left_returns : (spent : ℕ) → t ≡ goal → LooksThrough targets starts budget goal v b₀ begin (board_of b.queue b.seen spent) (record { sweep = Back; tail = tail })
        left_returns spent home = record {
          sized = sized;
          comes = λ g xs rows z.
              let w = left g xs rows z in
              subst (λ (p : PlainSweep). Comes p (board_of b.queue b.seen spent) (record { sweep = Back; tail = tail }))
              (sym (sweep_returns budget goal (get_or targets e 0) (entries (stop - (e + 1)) (e + 1) targets) w.xs b.spent allowed (sym t-is ∙ home)) ∙ next g xs w) refl;
        }

        -- it does not, and its target is noted
        pub left_goes_on : t ≢ goal → (spent : ℕ) → spent ≡ suc b.spent → (queue' : List ℕ) (seen' : List Bool) (tail' : ℕ) → Notes b.queue b.seen tail t queue' seen' tail'
            → Left stop (e + 1) (board_of queue' seen' spent) tail'
        left_goes_on away spent counted queue' seen' tail' n g xs rows z =
            let w = left g xs rows z in
            let rest : List ℕ = entries (stop - (e + 1)) (e + 1) targets in
            let low : (u : ℕ) → In u (get_or targets e 0 ∷ rest) → u < 512 = λ u i. w.small u (subst⁻¹ (In u) (entries_next e stop targets more) i) in
            record {
              xs = noted t w.xs;
              stands = n.stands w.xs (subst (λ (u : ℕ). u < 512) (sym t-is) (low (get_or targets e 0) (in_head (get_or targets e 0) rest))) w.stands;
              small = λ u i. low u (in_tail u (get_or targets e 0) rest i);
              same = (λ i. sweep budget goal rest (noted (t-is i) w.xs) (counted i))
                  ∙ sym (sweep_goes budget goal (get_or targets e 0) rest w.xs b.spent allowed (λ z. away (t-is ∙ z))) ∙ next g xs w;
            }
