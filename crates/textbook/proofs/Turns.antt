-- What holds at each turn of the loop over the edges of a state, and what a visit comes to by it. The outer and the nested search are shown at once. Assumes nothing.
use mathlib.Core.Path.{◌≡◌, refl, sym, ap, subst, subst⁻¹, ◌∙◌}
use mathlib.Core.Bool.{Bool, true, false, ◌&&◌, cond}
use mathlib.Core.List.{List, [], ◌∷◌}
use Prim.Native.Nat.{ℕ, suc, ◌+◌, ◌%◌, ◌≤◌, ◌<◌}
use native.Mathlib.Numerals.{add-one}
use native.Mathlib.Omega.{arith}
use lib.Dec.{ltb}
use lib.ListN.{length, get_or, set, drop, length-set, drop_of_length-le}
use lib.Seq.{drop-cons}
use borrow.Author.Tests.{lt-ltb, le-ltb}
use Rattle.std.specs.Prelude.{Option, None, Some, is_some}
use Rattle.plain.specs.Search.{Graph, Edge, Frame, frame}
use Rattle.plain.proofs.Tests.{contra}
use Rattle.plain.proofs.Paths.{Off}
use Rattle.rows.specs.Rows.{entries, place_of}
use Rattle.look.specs.declared.Stretch.{Stretch}
use Rattle.look.specs.Numbers.{up}
use Rattle.look.specs.Scan.{Stretches, lifted, row_laid}
use Rattle.look.specs.declared.Layout.{Layout}
use Rattle.look.proofs.Counting.{up_is, up_more}
use Rattle.look.proofs.Scans.{laid_length, laid_at}
use Rattle.textbook.specs.declared.Walk.{Walk}
use Rattle.textbook.specs.Search.{missing, Kept, Reads, conf, under, Reached, Shows, Going, Stopped, Ends, Visits, Leads, Explores}
use Rattle.textbook.specs.declared.Board.{Board}
use Rattle.textbook.proofs.Sets.{missing_insert}
use Rattle.textbook.proofs.Steps.{own, looked_at, Entered, top_below, enter_room, entered, passes, enters, apart, closes, leaves_nested, leaves_outer, starts_nested, returns_outer}

-- ---- lengths stay, and no state leaves a set

kept_self : (B : Board) → Kept B B
kept_self B = record { met_size = refl; marked_size = refl; walk_size = refl; met_fewer = omega arith; marked_fewer = omega arith }

kept_join : {B C D : Board} → Kept B C → Kept C D → Kept B D
kept_join a b = record {
  met_size = b.met_size ∙ a.met_size;
  marked_size = b.marked_size ∙ a.marked_size;
  walk_size = b.walk_size ∙ a.walk_size;
  met_fewer = omega (arith, a.met_fewer, b.met_fewer);
  marked_fewer = omega (arith, a.marked_fewer, b.marked_fewer);
}

-- a set into which a state was put
size_insert : (bs bs' : List Bool) (v : ℕ) → bs' ≡ set bs v true → length bs' ≡ length bs
size_insert bs bs' v e = ap length e ∙ length-set bs v true

fewer_insert : (bs bs' : List Bool) (v : ℕ) → bs' ≡ set bs v true → missing bs' ≤ missing bs
fewer_insert bs bs' v e = subst⁻¹ (λ (x : List Bool). missing x ≤ missing bs) e (missing_insert bs v)

pub kept_entered : {B C : Board} {v place : ℕ} (nesting : Bool) → Entered nesting v place B C → Kept B C
kept_entered {B} {C} {v} {place} true y = record {
  met_size = ap length y.met_is;
  marked_size = size_insert B.marked C.marked v y.marked_is;
  walk_size = ap length y.walk_is ∙ length-set B.walk place v;
  met_fewer = omega (arith, ap missing y.met_is);
  marked_fewer = fewer_insert B.marked C.marked v y.marked_is;
}
kept_entered {B} {C} {v} {place} false y = record {
  met_size = size_insert B.met C.met v y.met_is;
  marked_size = ap length y.marked_is;
  walk_size = ap length y.walk_is ∙ length-set B.walk place v;
  met_fewer = fewer_insert B.met C.met v y.met_is;
  marked_fewer = omega (arith, ap missing y.marked_is);
}

-- ---- the edges of a row

-- what is left of a list behind a place
drop_next : (xs : List ℕ) (e : ℕ) → e < length xs → drop e xs ≡ get_or xs e 0 ∷ drop (e + 1) xs
drop_next xs e h = drop-cons xs e 0 h ∙ ap (λ (i : ℕ). get_or xs e 0 ∷ drop i xs) (sym (add-one e))

-- an edge of a row is taken: by its place, its target is handed out, and the look is counted
pub record Taken (row : List ℕ) (e spent t spent' : ℕ) : Type 0 where
  pub there : e < length row
  pub target : t ≡ get_or row e 0
  pub counted : spent' ≡ up spent

-- what a look hands out, raised, is the target of an edge of the row of v
pub taken : (targets : List ℕ) {layout : Layout} {v : ℕ} {r : Stretch} → Stretches layout v r → {e spent x t spent' : ℕ} → e < r.count
    → (x ≡ get_or targets (r.from + e) 0) × (spent' ≡ (spent + 1) % 65536) → t ≡ lifted r.base x → Taken (row_laid targets layout v) e spent t spent'
unfolding lifted
taken targets {layout} {v} {r} z {e} {spent} {x} more look lift = record {
  there = omega (arith, laid_length targets layout v r z);
  target = lift ∙ laid_at targets layout v r z e more x look.0;
  counted = look.1 ∙ sym (up_is spent);
}

-- ---- a turn of the loop: the edges of the row up to a place are taken

pub record Turns (row : List ℕ) (P : Graph → Type 0) (nesting : Bool) (v height place : ℕ) (B C : Board) (e : ℕ) : Type 0 where
  pub kept : Kept B C
  pub leads : Leads P nesting v height place B (λ g s p q. Going g nesting s p (frame v (drop e row) ∷ q) C)

-- the same with the edges left under another name
going : {g : Graph} {nesting : Bool} {s : ℕ} {p q : List Frame} {v : ℕ} {B : Board} {ts us : List ℕ} → ts ≡ us → Going g nesting s p (frame v ts ∷ q) B → Going g nesting s p (frame v us ∷ q) B
going {g} {nesting} {s} {p} {q} {v} {B} e w = subst (λ (ys : List ℕ). Going g nesting s p (frame v ys ∷ q) B) e w

-- where a round was found, everything stops, whatever path is worked on; where none was, the search goes on
round_stays : (r : Option Walk) → is_some r ≡ true → (g : Graph) (nesting : Bool) (s : ℕ) (p q q' : List Frame) (B : Board) → Ends g nesting s p q B r → Ends g nesting s p q' B r
round_stays None e g nesting s p q q' B w = absurd (contra e refl)
round_stays (Some walk) e g nesting s p q q' B w = w

clear_goes : (r : Option Walk) → is_some r ≡ false → (g : Graph) (nesting : Bool) (s : ℕ) (p q : List Frame) (B : Board) → Ends g nesting s p q B r → Going g nesting s p q B
clear_goes None e g nesting s p q B w = w
clear_goes (Some walk) e g nesting s p q B w = absurd (contra refl e)

-- the nested search looks whether the target is on the open path: it is not
abbrev pub OffPath : Bool → ℕ → ℕ → Board → Type 0
OffPath nesting height t C = nesting ≡ true → height ≤ place_of t (entries height 0 C.walk)

module _ {targets : List ℕ} {layout : Layout} {P : Graph → Type 0} (reads : (g : Graph) → P g → Reads targets layout g) {nesting : Bool} {v height place : ℕ} where
  -- no edge is taken, and all are
  pub begins : {B : Board} → Turns (row_laid targets layout v) P nesting v height place B B 0
  begins {B} = record {
    kept = kept_self B;
    leads = λ g f s p q d k l i h high topped. going ((reads g f).rows v (top_below g (reads g f) nesting s p v (g.successors v) q d k l i)) (record { d = d; k = k; l = l; reached = i; shows = h });
  }

  pub ends : {B C : Board} (e : ℕ) → length (row_laid targets layout v) ≤ e → Turns (row_laid targets layout v) P nesting v height place B C e → Explores P nesting v height place B C None
  ends e h w = record {
    kept = w.kept;
    leads = λ g f s p q d k l r i high topped. going (drop_of_length-le (row_laid targets layout v) h) (w.leads g f s p q d k l r i high topped);
  }

  -- a look at the edge at a place
  module _ {B C : Board} {e : ℕ} (w : Turns (row_laid targets layout v) P nesting v height place B C e) {t spent' : ℕ} (edge : Taken (row_laid targets layout v) e C.spent t spent') where
    abbrev E : Board
    E = looked_at C spent'

    abbrev rest : List ℕ
    rest = drop (e + 1) (row_laid targets layout v)

    looks : Leads P nesting v height place B (λ g s p q. Going g nesting s p (frame v (t ∷ rest) ∷ q) C)
    looks g y s p q d k l r h high topped =
        going (drop_next (row_laid targets layout v) e edge.there ∙ ap (λ (x : ℕ). x ∷ rest) (sym edge.target)) (w.leads g y s p q d k l r h high topped)

    kept_here : Kept B E
    kept_here = record {
      met_size = w.kept.met_size;
      marked_size = w.kept.marked_size;
      walk_size = w.kept.walk_size;
      met_fewer = w.kept.met_fewer;
      marked_fewer = w.kept.marked_fewer;
    }

    off_path : (g : Graph) → Reads targets layout g → (s : ℕ) (p q : List Frame) (d k : List ℕ) (l : List Edge) (b : Bool) → OffPath b height t C → (b ≡ true → height ≡ suc (length p))
        → Reached g (conf b s p (frame v (t ∷ rest) ∷ q) d k l) → Shows b C p (frame v (t ∷ rest) ∷ q) d k l → b ≡ true → Off t (frame s [] ∷ p)
    off_path g f s p q d k l true o high r h e = apart g f C s p v t rest q d k l spent' edge.counted height _ (high refl) refl r h (o refl)
    off_path g f s p q d k l false o high r h e = absurd (contra e refl)

    -- a round is found
    pub closed : nesting ≡ true → (stem : ℕ) → stem ≡ place_of t (entries height 0 C.walk) → stem < height → Explores P nesting v height place B E (Some (record { stem = stem; length = place }))
    closed is stem at low = record {
      kept = kept_here;
      leads = λ g y s p q d k l r h high topped. let z = looks g y s p q d k l r h high topped in by_search g (reads g y) s p q z nesting is high topped z.reached z.shows;
    }
      where
        by_search : (g : Graph) → Reads targets layout g → (s : ℕ) (p q : List Frame) (z : Going g nesting s p (frame v (t ∷ rest) ∷ q) C) (b : Bool) → b ≡ true → (b ≡ true → height ≡ suc (length p))
            → place ≡ length (under b p) + suc (length q) → Reached g (conf b s p (frame v (t ∷ rest) ∷ q) z.d z.k z.l)
            → Shows b C p (frame v (t ∷ rest) ∷ q) z.d z.k z.l → Stopped g E stem place
        by_search g f s p q z true i high topped r h = closes g f C s p v t rest q z.d z.k z.l spent' edge.counted height stem (high refl) at r h place topped low
        by_search g f s p q z false i high topped r h = absurd (contra i refl)

    module _ (o : OffPath nesting height t C) where
      -- the target is in the set
      pub passed : get_or (own nesting C) t true ≡ true → Turns (row_laid targets layout v) P nesting v height place B E (e + 1)
      passed e = record {
        kept = kept_here;
        leads = λ g y s p q d k l r h high topped.
            let z = looks g y s p q d k l r h high topped in
            passes g (reads g y) C s p v t rest q z.d z.k z.l spent' edge.counted nesting (off_path g (reads g y) s p q z.d z.k z.l nesting o high z.reached z.shows) z.reached z.shows e;
      }

      -- it was not, and was visited
      module _ (n : get_or (own nesting C) t true ≡ false) {F : Board} {r : Option Walk} (visited : Visits P nesting t height place E F r) where
        leads_on : Leads P nesting v height place B (λ g s p q. Ends g nesting s p (frame v rest ∷ q) F r)
        leads_on g y s p q d k l i h high topped =
            let z = looks g y s p q d k l i h high topped in
            let x = enters g (reads g y) C s p v t rest q z.d z.k z.l spent' edge.counted nesting (off_path g (reads g y) s p q z.d z.k z.l nesting o high z.reached z.shows) z.reached z.shows n in
            visited.leads g y s p (frame v rest ∷ q) z.d z.k ((v, t) ∷ z.l) x.0 x.1 high topped

        pub went_on : is_some r ≡ false → Turns (row_laid targets layout v) P nesting v height place B F (e + 1)
        went_on e = record {
          kept = kept_join kept_here visited.kept;
          leads = λ g y s p q d k l i h high topped. clear_goes r e g nesting s p (frame v rest ∷ q) F (leads_on g y s p q d k l i h high topped);
        }

        pub stopped : is_some r ≡ true → Explores P nesting v height place B F r
        stopped e = record {
          kept = kept_join kept_here visited.kept;
          leads = λ g y s p q d k l i h high topped. round_stays r e g nesting s p (frame v rest ∷ q) (frame v [] ∷ q) F (leads_on g y s p q d k l i h high topped);
        }

-- ---- a visit

-- a state below the size pays as its bit tells
pub pays_below : (v size : ℕ) (bit b : Bool) → v < size → bit ≡ b → (ltb v size && bit) ≡ b
pays_below v size bit b h e = ap (λ (low : Bool). low && bit) (lt-ltb v size h) ∙ e

-- and no other pays
pub pays_beyond : (v size : ℕ) (bit : Bool) → size ≤ v → (ltb v size && bit) ≡ false
pays_beyond v size bit h = ap (λ (low : Bool). low && bit) (le-ltb v size h)

module _ {targets : List ℕ} {layout : Layout} {P : Graph → Type 0} (reads : (g : Graph) → P g → Reads targets layout g) {nesting : Bool} {v height place : ℕ} {B C : Board}
    (y : Entered nesting v place B C) (own-size : length (own nesting B) ≡ 512) (walk_size : length B.walk ≡ 512) {place' : ℕ} (higher : place' ≡ up place)
    {F : Board} {r : Option Walk} (moved : Explores P nesting v height place' C F r) where
  kept_moved : Kept B F
  kept_moved = kept_join (kept_entered nesting y) moved.kept

  module _ (g : Graph) (f : P g) (s : ℕ) (p q : List Frame) (d k : List ℕ) (l : List Edge)
      (i : Reached g (conf nesting s p (frame v (g.successors v) ∷ q) (cond nesting d (v ∷ d)) (cond nesting (v ∷ k) k) l)) (h : Shows nesting B p q d k l)
      (high : nesting ≡ true → height ≡ suc (length p)) (topped : place ≡ length (under nesting p) + length q) where
    next_place : place' ≡ suc place
    next_place = higher ∙ up_more place (omega (arith, enter_room g (reads g f) s v place p q (cond nesting d (v ∷ d)) (cond nesting (v ∷ k) k) l nesting (g.successors v) i topped))

    moved_on : Ends g nesting s p (frame v [] ∷ q) F r
    moved_on = moved.leads g f s p q (cond nesting d (v ∷ d)) (cond nesting (v ∷ k) k) l i
        (entered g (reads g f) s v place p q d k l walk_size nesting y own-size i h topped) high (omega (arith, next_place))

  -- after which v leaves the path, unless a round was found
  pub visits : ((g : Graph) → P g → (s : ℕ) (p q : List Frame) → Going g nesting s p (frame v [] ∷ q) F → Going g nesting s p q F) → Visits P nesting v height place B F r
  visits leaves = record { kept = kept_moved; leads = λ g f s p q d k l i h high topped. by_result r g f s p q (moved_on g f s p q d k l i h high topped) }
    where
      by_result : (x : Option Walk) (g : Graph) → P g → (s : ℕ) (p q : List Frame) → Ends g nesting s p (frame v [] ∷ q) F x → Ends g nesting s p q F x
      by_result None g f s p q w = leaves g f s p q w
      by_result (Some walk) g f s p q w = w

module _ {targets : List ℕ} {layout : Layout} {P : Graph → Type 0} (reads : (g : Graph) → P g → Reads targets layout g) {v height place : ℕ} {B C : Board} where
  -- the nested search
  module _ (y : Entered true v place B C) (marked_size : length B.marked ≡ 512) (walk_size : length B.walk ≡ 512) {place' : ℕ} (higher : place' ≡ up place)
      {F : Board} {r : Option Walk} (moved : Explores P true v height place' C F r) where
    pub visits_nested : Visits P true v height place B F r
    visits_nested = visits reads y marked_size walk_size higher moved (λ g f s p q w. leaves_nested g (reads g f) F s v p q w)

  -- the outer search
  module _ (y : Entered false v place B C) (met_size : length B.met ≡ 512) (walk_size : length B.walk ≡ 512) {place' : ℕ} (higher : place' ≡ up place)
      {F : Board} {r : Option Walk} (moved : Explores P false v height place' C F r) where
    -- v does not pay
    pub visits_outer : ((g : Graph) → P g → v < 512 → g.accepting v ≡ false) → Visits P false v height place B F r
    visits_outer pays = visits reads y met_size walk_size higher moved (λ g f s p q w. leaves_outer g (reads g f) F s v p q (pays g f (top_below g (reads g f) false s p v [] q w.d w.k w.l w.reached)) w)

    -- a round was found
    pub visits_round : is_some r ≡ true → Visits P false v height place B F r
    visits_round e = record {
      kept = kept_moved reads y met_size walk_size higher moved;
      leads = λ g f s p q d k l i h high topped. round_stays r e g false s p (frame v [] ∷ q) q F (moved_on reads y met_size walk_size higher moved g f s p q d k l i h high topped);
    }

    -- v pays, and a nested search was made from it
    pub visits_paying : is_some r ≡ false → ((g : Graph) → P g → v < 512 → g.accepting v ≡ true) → {G : Board} {r' : Option Walk} → Visits (Reads targets layout) true v place' place F G r'
        → Visits P false v height place B G r'
    visits_paying e pays {G} {r'} nested = record {
      kept = kept_join (kept_moved reads y met_size walk_size higher moved) nested.kept;
      leads = λ g f s p q d k l i h high topped.
          let x = starts_nested g (reads g f) F s v p q (pays g f (top_below g (reads g f) false s p v (g.successors v) q (v ∷ d) k l i)) (clear_goes r e g false s p (frame v [] ∷ q) F (moved_on reads y met_size walk_size higher moved g f s p q d k l i h high topped)) in
          returns_outer g (reads g f) G s v p q r'
          (nested.leads g (reads g f) v q [] x.d x.k x.l x.reached x.shows
          (λ _. omega (arith, next_place reads y met_size walk_size higher moved g f s p q d k l i h high topped)) (omega arith));
    }
