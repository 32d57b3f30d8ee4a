-- The row of a state by its places, and a scan of it, edge by edge. Assumes nothing.
use Rattle.std.proofs.Common.{◌≡◌, subst, ℕ, zero, suc, ◌+◌, ◌-◌, ◌%◌, ◌<◌, ◌≤◌, Bool, true, false, ◌&&◌, ltb, leb, List, [], ◌∷◌, map, length, get_or, replicate, sym, refl, ap, ◌∙◌, ⊎_elim, add-zero, arith, ltb-false, ltb-true, le-ltb, lt-ltb, le-leb, leb-false, leb-true}
use lib.ListN.{length-map}
use borrow.Author.Tests.{lt-leb}
use Rattle.plain.specs.Lists.{In}
use Rattle.plain.proofs.Tests.{contra, either, map_same}
use Rattle.rows.specs.Rows.{entries, row_at, Compressed}
use Rattle.rows.proofs.Paste.{same_place}
use Rattle.rows.proofs.Entries.{entries_length, entries_at, no_row}
use Rattle.rows.proofs.Change.{starts_within}
use Rattle.look.specs.declared.Row.{Row}
use Rattle.look.specs.declared.Stretch.{Stretch}
use Rattle.look.specs.Numbers.{no_number, up, raised}
use Rattle.std.specs.Prelude.{None, Some}
use Rattle.std.proofs.lemmas.Option.{none-some, same_Some}
use Rattle.look.specs.Scan.{fits, row_in, Spans, ends_of, plain_layout, Stretches, spanned, lifted, row_laid, Skips, Hits, Swept}
use Rattle.look.specs.declared.Layout.{Layout}
use Rattle.look.proofs.Counting.{raised_none, raised_next}

-- ---- the row of a state, by its places

-- what `row_of` reads, on each of its ways
module _ (starts : List ℕ) (v i : ℕ) (is : i ≡ v) where
  pub spans_whole : (from stop : ℕ) → i < 512 → stop ≤ 2048 → from ≡ get_or starts v 0 → stop ≡ get_or starts (suc v) 0 → from < 65536
      → Spans starts v (record { from = from; stop = stop })
  spans_whole from stop low short e f small = record {
    whole = λ y. (e, f);
    empty = λ y. absurd (contra (both (lt-ltb v 512 (omega arith)) (le-leb (get_or starts (suc v) 0) 2048 (omega arith))) y);
    from_small = small;
    stop_small = short;
  }
    where
      both : ltb v 512 ≡ true → leb (get_or starts (suc v) 0) 2048 ≡ true → fits starts v ≡ true
      both p q = rw (p, q)

  none_there : fits starts v ≡ false → Spans starts v (record { from = 0; stop = 0 })
  none_there f = record {
    whole = λ y. absurd (contra y f);
    empty = λ y. (refl, refl);
    from_small = omega arith;
    stop_small = omega arith;
  }

  pub spans_long : (stop : ℕ) → 2048 < stop → stop ≡ get_or starts (suc v) 0 → Spans starts v (record { from = 0; stop = 0 })
  spans_long stop long f = none_there (second (ltb v 512) (lt-leb (get_or starts (suc v) 0) 2048 (omega arith)))
    where
      second : (b : Bool) {d : Bool} → d ≡ false → b && d ≡ false
      second true e = e
      second false e = refl

  pub spans_past : 512 ≤ i → Spans starts v (record { from = 0; stop = 0 })
  spans_past high = none_there (first_off (le-ltb v 512 (omega arith)))
    where
      first_off : ltb v 512 ≡ false → fits starts v ≡ false
      first_off e = rw e

-- the row of v where it fits; none where it does not
module _ (targets starts : List ℕ) (v : ℕ) where
  row_whole : fits starts v ≡ true → row_in targets starts v ≡ row_at targets starts v
  unfolding row_in
  row_whole e = rw e

  row_none : fits starts v ≡ false → row_in targets starts v ≡ []
  unfolding row_in
  row_none e = rw e

  -- what stands at the places of a row is the row
  module _ (r : Row) (z : Spans starts v r) where
    pub row_places : row_in targets starts v ≡ entries (r.stop - r.from) r.from targets
    unfolding row_at entries
    row_places = ⊎_elim
        (λ e. row_whole e ∙ (λ i. entries (sym (z.whole e).1 i - sym (z.whole e).0 i) (sym (z.whole e).0 i) targets))
        (λ e. row_none e ∙ (λ i. entries (sym (z.empty e).1 i - sym (z.empty e).0 i) (sym (z.empty e).0 i) targets)) (either (fits starts v))

-- rows that a table has fit
row_fits : (targets starts : List ℕ) (v : ℕ) → (v < 512 → get_or starts (suc v) 0 ≤ 2048) → (512 ≤ v → row_at targets starts v ≡ [])
    → row_in targets starts v ≡ row_at targets starts v
row_fits targets starts v ends none = ⊎_elim (row_whole targets starts v) (λ e. row_none targets starts v e ∙ sym (none (past e))) (either (fits starts v))
  where
    past : fits starts v ≡ false → 512 ≤ v
    past e = ⊎_elim
        (λ t. absurd (contra (le-leb (get_or starts (suc v) 0) 2048 (ends (ltb-true v 512 t))) (rw t at e)))
        (ltb-false v 512) (either (ltb v 512))

pub row_filed : (size : ℕ) (targets starts : List ℕ) → Compressed size targets starts → (v : ℕ) → row_in targets starts v ≡ row_at targets starts v
row_filed size targets starts r v = row_fits targets starts v (λ h. starts_within size targets starts r (suc v)) (λ h. no_row targets starts size r v (omega (arith, r.states)))

-- ---- the rows as a search reads them

-- how many edges stand between two places, on each way
pub spanned_short : (from stop : ℕ) → stop ≤ 2048 → spanned from stop ≡ stop - from
unfolding spanned
spanned_short from stop h = rw (le-leb stop 2048 h)

spanned_long : (from stop : ℕ) → 2048 < stop → spanned from stop ≡ 0
unfolding spanned
spanned_long from stop h = rw (lt-leb stop 2048 h)

pub spanned_none : (from stop : ℕ) → stop ≤ from → spanned from stop ≡ 0
spanned_none from stop h = ⊎_elim
    (λ e. omega (arith, spanned_short from stop (leb-true stop 2048 e)))
    (λ e. spanned_long from stop (leb-false stop 2048 e)) (either (leb stop 2048))

pub spanned_past : (from stop : ℕ) → 2048 < stop → spanned from stop ≡ 0
spanned_past = spanned_long

-- they stand within the array of targets
spanned_within : (from stop k : ℕ) → k < spanned from stop → from + k < 2048
spanned_within from stop k h = ⊎_elim
    (λ e. omega (arith, spanned_short from stop (leb-true stop 2048 e), leb-true stop 2048 e))
    (λ e. absurd (omega (arith, spanned_long from stop (leb-false stop 2048 e)))) (either (leb stop 2048))

lifted_is : (base t : ℕ) → lifted base t ≡ (t + base) % 512
unfolding lifted
lifted_is base t = refl

-- an entry of a mapped list
map_at : (f : ℕ → ℕ) (xs : List ℕ) (i : ℕ) → i < length xs → get_or (map f xs) i 0 ≡ f (get_or xs i 0)
map_at f [] i h = absurd (omega arith)
map_at f (x ∷ xs) zero h = refl
map_at f (x ∷ xs) (suc i) h = map_at f xs i (omega arith)

-- ---- a scan

-- the row of v, by its places
module _ (targets : List ℕ) (y : Layout) (v : ℕ) (r : Stretch) (z : Stretches y v r) where
  row_is : row_laid targets y v ≡ map (lifted r.base) (entries r.count r.from targets)
  unfolding row_laid
  row_is = λ i. map (lifted (sym z.base_is i)) (entries (sym z.count_is i) (sym z.from_is i) targets)

  pub laid_length : length (row_laid targets y v) ≡ r.count
  laid_length = ap length row_is ∙ length-map (entries r.count r.from targets) (lifted r.base) ∙ entries_length r.count r.from targets

  module _ (k : ℕ) (edge : k < r.count) where
    pub laid_within : r.from + k < 2048
    laid_within = within r.from r.count z.from_is z.count_is edge
      where
        within : (from count : ℕ) → from ≡ get_or y.begins (v % 512) 0 → count ≡ spanned (get_or y.begins (v % 512) 0) (get_or y.ends (v % 512) 0) → k < count → from + k < 2048
        within from count e f h = rw e (spanned_within (get_or y.begins (v % 512) 0) (get_or y.ends (v % 512) 0) k (rw f at h))

    -- what a look hands out, raised by the base, is the row's target
    pub laid_at : (t : ℕ) → t ≡ get_or targets (r.from + k) 0 → (t + r.base) % 512 ≡ get_or (row_laid targets y v) k 0
    laid_at t e =
        sym (ap (λ (row : List ℕ). get_or row k 0) row_is ∙ map_at (lifted r.base) (entries r.count r.from targets) k (omega (arith, entries_length r.count r.from targets))
        ∙ ap (lifted r.base) (entries_at r.count r.from targets k edge ∙ sym e) ∙ lifted_is r.base t)

zero_at : (n i : ℕ) → ◌≡◌ {A = ℕ} (get_or (replicate n 0) i 0) 0
zero_at zero i = refl
zero_at (suc n) zero = refl
zero_at (suc n) (suc i) = zero_at n i

-- the rows of a table, read as they lie, are its rows
module _ (size : ℕ) (targets starts : List ℕ) (c : Compressed size targets starts) (v : ℕ) (low : v < 512) where
  abbrev from : ℕ
  from = get_or starts v 0

  abbrev stop : ℕ
  stop = get_or starts (suc v) 0

  wraps : v % 512 ≡ v
  wraps = omega arith

  end_is : get_or (ends_of starts) (v % 512) 0 ≡ stop
  unfolding ends_of
  end_is = same_place (ends_of starts) wraps ∙ entries_at 512 1 starts v low ∙ same_place starts (omega arith)

  base_is : ◌≡◌ {A = ℕ} (get_or (replicate 512 0) (v % 512) 0) 0
  base_is = zero_at 512 (v % 512)

  spans : spanned from stop ≡ stop - from
  spans = spanned_short from stop (starts_within size targets starts c (suc v))

  unlifted : (xs : List ℕ) → ((x : ℕ) → In x xs → x < 512) → map (lifted 0) xs ≡ xs
  unlifted xs h = map_same (lifted 0) xs (λ x i. lifted_is 0 x ∙ omega (arith, h x i))

  pub laid_plain : ((x : ℕ) → In x (row_at targets starts v) → x < 512) → row_laid targets (plain_layout starts) v ≡ row_at targets starts v
  unfolding row_laid row_at
  laid_plain few =
      (λ i. map (lifted (base_is i)) (entries (spanned (same_place starts wraps i) (end_is i)) (same_place starts wraps i) targets))
      ∙ (λ i. map (lifted 0) (entries (spans i) from targets))
      ∙ unlifted (row_at targets starts v) few

-- the edges from edge k up to edge e are passed over, and counted
abbrev pub SoFar : List ℕ → List ℕ → ℕ → ℕ → ℕ → ℕ → Type 0
SoFar row array k spent e now = (k ≤ e) × Skips row array k (e - k) × (now ≡ raised (e - k) spent)

pub scan_begins : (row array : List ℕ) (k spent : ℕ) → SoFar row array k spent k spent
scan_begins row array k spent =
    let none : k - k ≡ 0 = omega arith in
    (omega arith, λ i h. absurd (omega arith), sym (ap (λ (n : ℕ). raised n spent) none ∙ raised_none spent))

module _ (row array : List ℕ) (k spent e now : ℕ) (so_far : SoFar row array k spent e now) where
  abbrev passed : ℕ
  passed = e - k

  here : e ≡ k + passed
  here = omega (arith, so_far.0)

  module _ (more : e < length row) (t now' : ℕ) (handed : t ≡ get_or row e 0) (raises : now' ≡ up now) where
    -- the edge is passed over
    pub scan_goes_on : (get_or array t 0 ≡ no_number → ⊥) → SoFar row array k spent (e + 1) now'
    scan_goes_on old =
        let one : e + 1 - k ≡ suc passed = omega (arith, so_far.0) in (
          omega (arith, so_far.0),
          λ i h. ⊎_elim
              (λ y. so_far.1 i (ltb-true i passed y))
              (λ y. let last : k + i ≡ e = omega (arith, so_far.0, ltb-false i passed y) in
              (omega arith, λ n. old (ap (λ (u : ℕ). get_or array u 0) (handed ∙ ap (λ (j : ℕ). get_or row j 0) (sym last)) ∙ n)))
              (either (ltb i passed)),
          raises ∙ ap up so_far.2 ∙ sym (raised_next passed spent) ∙ sym (ap (λ (n : ℕ). raised n spent) one),
        )

    -- the edge is the one
    pub scan_finds : (index target : ℕ) → index ≡ e → target ≡ t → get_or array t 0 ≡ no_number → Swept row array k spent (Some (record { index = index; target = target })) now'
    scan_finds index target f g new = record {
      passed = passed;
      skips = so_far.1;
      looked = λ r y. (
        subst (Hits row array (k + passed)) (same_Some _ _ y) (record {
          edge = omega (arith, here);
          index_is = f ∙ here;
          target_is = g ∙ handed ∙ ap (λ (j : ℕ). get_or row j 0) here;
          new = ap (λ (u : ℕ). get_or array u 0) g ∙ new;
        }),
        raises ∙ ap up so_far.2,
      );
      ended = λ y. absurd (none-some _ (sym y));
    }

  -- no edge is left
  pub scan_ends : length row ≤ e → Swept row array k spent None now
  scan_ends done = record {
    passed = passed;
    skips = so_far.1;
    looked = λ r y. absurd (none-some _ y);
    ended = λ y. (omega (arith, here), so_far.2);
  }

-- ---- what a scan leaves

-- the first edge that is passed over, and those behind it
pub skips_later : (row array : List ℕ) (k n : ℕ) → Skips row array k (suc n) → Skips row array (suc k) n
skips_later row array k n h i l =
    let on : k + suc i ≡ suc k + i = omega arith in
    let w = h (suc i) (omega arith) in
    (omega (arith, w.0), λ e. w.1 (ap (λ (j : ℕ). get_or array (get_or row j 0) 0) on ∙ e))

pub skips_first : (row array : List ℕ) (k n : ℕ) → Skips row array k (suc n) → (k < length row) × (get_or array (get_or row k 0) 0 ≡ no_number → ⊥)
skips_first row array k n h =
    let w = h 0 (omega arith) in
    (omega (arith, w.0), λ e. w.1 (ap (λ (j : ℕ). get_or array (get_or row j 0) 0) (add-zero k) ∙ e))
