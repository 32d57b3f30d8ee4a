-- One row is changed and those behind it move with their starts: an edge is put in, an edge is taken out. Assumes nothing.
use Prim.Native.Nat.{ℕ, zero, suc, ◌+◌, ◌-◌, ◌≤◌, ◌<◌}
use native.Mathlib.Decide.{ℕ_discrete, dec_lt}
use native.Mathlib.Decide.{dec_le}
use native.Mathlib.Omega.{arith}
use mathlib.Core.Path.{◌≡◌, refl, sym, ap, ap₂, ◌∙◌}
use mathlib.Core.Bool.{Bool, true, false}
use mathlib.Core.List.{List, [], ◌∷◌, ◌++◌}
use lib.ListN.{length, get_or, take, drop}
use Rattle.rows.specs.Rows.{entries, degree_at, row_at, edge_count, Compressed, Changed, Inserted, Removed, Tabled}
use Rattle.rows.specs.Shift.{opened, shut, moved_starts}
use Rattle.rows.specs.declared.Rows.{Rows}
use Rattle.rows.specs.Change.{has_room, inserted, has_place, removed}
use Rattle.rows.proofs.Paste.{same_place}
use Rattle.rows.proofs.Shifts.{opened_length, opened_before, opened_at, opened_behind, shut_length, shut_before, shut_behind, moved_length, moved_before, moved_within, moved_behind}
use Rattle.rows.proofs.Entries.{entries_same, entries_add, entries_take, entries_drop, no_row, row_same}
use Rattle.rows.proofs.Outcome.{room, room_is, place, place_is, inserted_room, inserted_none, removed_place, removed_none}

-- The starts rise up to the last.
module _ (size : ℕ) (xs ss : List ℕ) (good : Compressed size xs ss) where
  rises : (k i : ℕ) → i + k ≤ size → get_or ss i 0 ≤ get_or ss (i + k) 0
  rises zero i h =
      let e : i ≡ i + 0 = omega arith in
      omega (arith, same_place ss e)
  rises (suc k) i h =
      let e : suc (i + k) ≡ i + suc k = omega arith in
      omega (arith, rises k i (omega arith), good.rising (i + k) (omega arith), same_place ss e)

  starts_rise : (i j : ℕ) → i ≤ j → j ≤ size → get_or ss i 0 ≤ get_or ss j 0
  starts_rise i j l h =
      let e : i + (j - i) ≡ j = omega arith in
      omega (arith, rises (j - i) i (omega arith), same_place ss e)

  row_end : (v : ℕ) → v < size → get_or ss (suc v) 0 ≤ edge_count ss size
  row_end v h = starts_rise (suc v) size h (omega arith)

  -- every row ends within the targets
  pub starts_within : (v : ℕ) → get_or ss v 0 ≤ 2048
  starts_within v = elim (dec_le v size) [
    | yes h ↦ omega (arith, starts_rise v size h (omega arith), good.within)
    | no h ↦ omega (arith, good.behind v (omega arith))
  ]

-- The starts behind v are more and less than before, the entries behind its row moved with them.
record Shifted (size : ℕ) (xs ss : List ℕ) (v more less : ℕ) (xs' ss' : List ℕ) : Type 0 where
  tabled : Tabled xs' ss'
  before : (u : ℕ) → u ≤ v → get_or ss' u 0 ≡ get_or ss u 0
  behind : (u : ℕ) → v < u → u ≤ size → get_or ss' u 0 + less ≡ get_or ss u 0 + more
  last : (u : ℕ) → size < u → get_or ss' u 0 ≡ get_or ss u 0
  room : get_or ss v 0 + less ≤ get_or ss (suc v) 0 + more
  fits : edge_count ss size + more ≤ 2048 + less
  kept : (i : ℕ) → i < get_or ss v 0 → get_or xs' i 0 ≡ get_or xs i 0
  moved : (i j : ℕ) → get_or ss (suc v) 0 ≤ i → i < edge_count ss size → j + less ≡ i + more → get_or xs' j 0 ≡ get_or xs i 0

module _ (size : ℕ) (xs ss : List ℕ) (v more less : ℕ) (xs' ss' : List ℕ) (good : Compressed size xs ss) (small : v < size) (s : Shifted size xs ss v more less xs' ss') where
  still_rising : (u : ℕ) → u < size → get_or ss' u 0 ≤ get_or ss' (suc u) 0
  still_rising u h =
      elim (dec_lt u v) [
        | yes l ↦ omega (arith, s.before u (omega arith), s.before (suc u) (omega arith), good.rising u h)
        | no n ↦ elim (ℕ_discrete u v) [
          | yes e ↦ omega (arith, s.before u (omega arith), s.behind (suc u) (omega arith) (omega arith), s.room, same_place ss e, same_place ss (ap suc e))
          | no m ↦ omega (arith, s.behind u (omega arith) (omega arith), s.behind (suc u) (omega arith) (omega arith), good.rising u h)
        ]
      ]

  still_compressed : Compressed size xs' ss'
  still_compressed =
      record {
        tabled = s.tabled;
        states = good.states;
        first = s.before 0 (omega arith) ∙ good.first;
        rising = still_rising;
        within = omega (arith, s.behind size small (omega arith), s.fits);
        behind = λ u h. s.last u h ∙ good.behind u h;
      }

  row_before : (u : ℕ) → u < v → row_at xs' ss' u ≡ row_at xs ss u
  row_before u l =
      let from = s.before u (omega arith) in
      let to = s.before (suc u) (omega arith) in
      row_same xs ss xs' ss' u (omega arith)
      (λ i h. same_place xs' (ap (λ (m : ℕ). m + i) from) ∙ s.kept (get_or ss u 0 + i) (omega (arith, starts_rise size xs ss good (suc u) v l (omega arith))))

  row_behind : (u : ℕ) → v < u → u < size → row_at xs' ss' u ≡ row_at xs ss u
  row_behind u l h =
      let from = s.behind u l (omega arith) in
      let to = s.behind (suc u) (omega arith) (omega arith) in
      let low = starts_rise size xs ss good (suc v) u l (omega arith) in
      let high = starts_rise size xs ss good (suc u) size (omega arith) (omega arith) in
      row_same xs ss xs' ss' u (omega arith) (λ i k. s.moved (get_or ss u 0 + i) (get_or ss' u 0 + i) (omega arith) (omega arith) (omega arith))

  other_row : (u : ℕ) → (u ≡ v → ⊥) → row_at xs' ss' u ≡ row_at xs ss u
  other_row u n =
      elim (dec_lt u v) [
        | yes l ↦ row_before u l
        | no k ↦ elim (dec_lt u size) [
          | yes h ↦ row_behind u (omega arith) h
          | no m ↦ no_row xs' ss' size still_compressed u (omega arith) ∙ sym (no_row xs ss size good u (omega arith))
        ]
      ]

  changed : (row : List ℕ) → row_at xs' ss' v ≡ row → Changed size xs ss v row xs' ss'
  changed row e = record { compressed = still_compressed; here = e; others = other_row }

-- An edge to t is put in behind the row of v.
module _ (size : ℕ) (xs ss : List ℕ) (v t : ℕ) (good : Compressed size xs ss) (small : v < size) (free : edge_count ss size < 2048) (xs' ss' : List ℕ) (targets : xs' ≡ opened xs (get_or ss (suc v) 0) (edge_count ss size) t) (starts : ss' ≡ moved_starts true ss (suc v) size) where
  space : edge_count ss size < length xs
  space = omega (arith, good.tabled.targets_size)

  inside : size < length ss
  inside = omega (arith, good.tabled.starts_size, good.states)

  open_before : (i : ℕ) → i < get_or ss (suc v) 0 → get_or xs' i 0 ≡ get_or xs i 0
  open_before = opened_before xs (get_or ss (suc v) 0) (edge_count ss size) t (row_end size xs ss good v small) space xs' targets

  one_more : (u : ℕ) → v < u → u ≤ size → get_or ss' u 0 ≡ get_or ss u 0 + 1
  one_more u l h =
      moved_within true ss (suc v) size small inside ss' starts u l h ∙ omega (arith, starts_rise size xs ss good u size h (omega arith))

  pushed : Shifted size xs ss v 1 0 xs' ss'
  pushed =
      record {
        tabled = record {
          targets_size = opened_length xs (get_or ss (suc v) 0) (edge_count ss size) t (row_end size xs ss good v small) space xs' targets ∙ good.tabled.targets_size;
          starts_size = moved_length true ss (suc v) size small inside ss' starts ∙ good.tabled.starts_size;
        };
        before = λ u h. moved_before true ss (suc v) size small inside ss' starts u (omega arith);
        behind = λ u l h. omega (arith, one_more u l h);
        last = λ u h. moved_behind true ss (suc v) size small inside ss' starts u h;
        room = omega (arith, good.rising v small);
        fits = omega arith;
        kept = λ i h. open_before i (omega (arith, good.rising v small));
        moved = λ i j l h e.
            same_place xs' (omega arith) ∙ opened_behind xs (get_or ss (suc v) 0) (edge_count ss size) t (row_end size xs ss good v small) space xs' targets i l h;
      }

  longer_row : row_at xs' ss' v ≡ row_at xs ss v ++ (t ∷ [])
  unfolding row_at entries
  longer_row =
      let a = get_or ss v 0 in
      let d = degree_at ss v in
      let rise = good.rising v small in
      let degree : degree_at ss' v ≡ d + 1 = omega (arith, pushed.before v (omega arith), one_more (suc v) (omega arith) small) in
      let end : a + d ≡ get_or ss (suc v) 0 = omega arith in
      ap₂ (λ (n at : ℕ). entries n at xs') degree (pushed.before v (omega arith))
      ∙ entries_add d 1 a xs'
      ∙ ap₂ {A = List ℕ} {B = List ℕ} (λ r s. r ++ s)
      (entries_same d a a xs' xs (λ i h. open_before (a + i) (omega arith)))
      (ap {B = List ℕ} (λ x. x ∷ []) (same_place xs' end ∙ opened_at xs (get_or ss (suc v) 0) (edge_count ss size) t (row_end size xs ss good v small) space xs' targets))

  opens_row : Inserted size xs ss v t xs' ss'
  opens_row = record { rows = changed size xs ss v 1 0 xs' ss' good small pushed (row_at xs ss v ++ (t ∷ [])) longer_row; count = one_more size small (omega arith) }

-- Edge k of v is taken out.
module _ (size : ℕ) (xs ss : List ℕ) (v k : ℕ) (good : Compressed size xs ss) (small : v < size) (there : k < degree_at ss v) (xs' ss' : List ℕ) (targets : xs' ≡ shut xs (get_or ss v 0 + k) (edge_count ss size)) (starts : ss' ≡ moved_starts false ss (suc v) size) where
  ahead : get_or ss v 0 + k < edge_count ss size
  ahead = omega (arith, row_end size xs ss good v small)

  held : edge_count ss size ≤ length xs
  held = omega (arith, good.tabled.targets_size, good.within)

  ends_inside : size < length ss
  ends_inside = omega (arith, good.tabled.starts_size, good.states)

  closed_before : (i : ℕ) → i < get_or ss v 0 + k → get_or xs' i 0 ≡ get_or xs i 0
  closed_before = shut_before xs (get_or ss v 0 + k) (edge_count ss size) ahead held xs' targets

  closed_behind : (i : ℕ) → get_or ss v 0 + k ≤ i → suc i < edge_count ss size → get_or xs' i 0 ≡ get_or xs (suc i) 0
  closed_behind = shut_behind xs (get_or ss v 0 + k) (edge_count ss size) ahead held xs' targets

  one_less : (u : ℕ) → v < u → u ≤ size → get_or ss' u 0 + 1 ≡ get_or ss u 0
  one_less u l h =
      omega (arith, moved_within false ss (suc v) size small ends_inside ss' starts u l h, starts_rise size xs ss good (suc v) u l h)

  pulled : Shifted size xs ss v 0 1 xs' ss'
  pulled =
      record {
        tabled = record {
          targets_size = shut_length xs (get_or ss v 0 + k) (edge_count ss size) ahead held xs' targets ∙ good.tabled.targets_size;
          starts_size = moved_length false ss (suc v) size small ends_inside ss' starts ∙ good.tabled.starts_size;
        };
        before = λ u h. moved_before false ss (suc v) size small ends_inside ss' starts u (omega arith);
        behind = λ u l h. omega (arith, one_less u l h);
        last = λ u h. moved_behind false ss (suc v) size small ends_inside ss' starts u h;
        room = omega arith;
        fits = omega (arith, good.within);
        kept = λ i h. closed_before i (omega arith);
        moved = λ i j l h e.
            let p : suc j ≡ i = omega arith in
            closed_behind j (omega arith) (omega arith) ∙ same_place xs p;
      }

  shorter_row : row_at xs' ss' v ≡ take k (row_at xs ss v) ++ drop (suc k) (row_at xs ss v)
  unfolding row_at
  shorter_row =
      let a = get_or ss v 0 in
      let d = degree_at ss v in
      let degree : degree_at ss' v ≡ k + (d - suc k) = omega (arith, pulled.before v (omega arith), one_less (suc v) (omega arith) small) in
      ap₂ (λ (n at : ℕ). entries n at xs') degree (pulled.before v (omega arith))
      ∙ entries_add k (d - suc k) a xs'
      ∙ ap₂ {A = List ℕ} {B = List ℕ} (λ r s. r ++ s)
      (entries_same k a a xs' xs (λ i h. closed_before (a + i) (omega arith)) ∙ sym (entries_take d k (omega arith) a xs))
      (entries_same (d - suc k) (a + k) (a + suc k) xs' xs
      (λ i h.
      let p : suc (a + k + i) ≡ a + suc k + i = omega arith in
      closed_behind (a + k + i) (omega arith) (omega (arith, row_end size xs ss good v small)) ∙ same_place xs p)
      ∙ sym (entries_drop d (suc k) there a xs))

  shuts_row : Removed size xs ss v k xs' ss'
  shuts_row = record { rows = changed size xs ss v 0 1 xs' ss' good small pulled (take k (row_at xs ss v) ++ drop (suc k) (row_at xs ss v)) shorter_row; count = one_less size small (omega arith) }

-- What the contracts' definitions mean. The lengths stay, for any arrays.

either : {A : Type 0} (b : Bool) → (b ≡ true → A) → (b ≡ false → A) → A
either true f g = f refl
either false f g = g refl

module _ (size v t : ℕ) (r r' : Rows) (new : r' ≡ inserted size v t r) where
  pub inserted_lengths : Tabled r.targets r.starts → Tabled r'.targets r'.starts
  inserted_lengths l = either (has_room r.starts size v)
      (λ e.
      let w = new ∙ inserted_room size v t r e in
      let f = room_is size v r.starts e in
      record {
        targets_size = opened_length r.targets (get_or r.starts (suc v) 0) (edge_count r.starts size) t f.2 (omega (arith, l.targets_size)) r'.targets (ap (λ (x : Rows). x.targets) w) ∙ l.targets_size;
        starts_size = moved_length true r.starts (suc v) size f.1 (omega (arith, l.starts_size)) r'.starts (ap (λ (x : Rows). x.starts) w) ∙ l.starts_size;
      })
      (λ e.
      let w = new ∙ inserted_none size v t r e in
      record { targets_size = ap (λ (x : Rows). length x.targets) w ∙ l.targets_size; starts_size = ap (λ (x : Rows). length x.starts) w ∙ l.starts_size })

  pub inserts_edge : Compressed size r.targets r.starts → v < size → edge_count r.starts size < 2048
      → Inserted size r.targets r.starts v t r'.targets r'.starts
  inserts_edge good small free =
      let w = new ∙ inserted_room size v t r (room size v r.starts good.states small (row_end size r.targets r.starts good v small) free) in
      opens_row size r.targets r.starts v t good small free r'.targets r'.starts (ap (λ (x : Rows). x.targets) w) (ap (λ (x : Rows). x.starts) w)

module _ (size v k : ℕ) (r r' : Rows) (new : r' ≡ removed size v k r) where
  pub removed_lengths : Tabled r.targets r.starts → Tabled r'.targets r'.starts
  removed_lengths l = either (has_place r.starts size v k)
      (λ e.
      let w = new ∙ removed_place size v k r e in
      let f = place_is size v r.starts k e in
      record {
        targets_size = shut_length r.targets (get_or r.starts v 0 + k) (edge_count r.starts size) f.2 (omega (arith, l.targets_size)) r'.targets (ap (λ (x : Rows). x.targets) w) ∙ l.targets_size;
        starts_size = moved_length false r.starts (suc v) size f.1 (omega (arith, l.starts_size)) r'.starts (ap (λ (x : Rows). x.starts) w) ∙ l.starts_size;
      })
      (λ e.
      let w = new ∙ removed_none size v k r e in
      record { targets_size = ap (λ (x : Rows). length x.targets) w ∙ l.targets_size; starts_size = ap (λ (x : Rows). length x.starts) w ∙ l.starts_size })

  pub removes_edge : Compressed size r.targets r.starts → v < size → k < degree_at r.starts v
      → Removed size r.targets r.starts v k r'.targets r'.starts
  removes_edge good small there =
      let end = row_end size r.targets r.starts good v small in
      let w = new ∙ removed_place size v k r (place size v r.starts k good.states small (omega arith) good.within) in
      shuts_row size r.targets r.starts v k good small there r'.targets r'.starts (ap (λ (x : Rows). x.targets) w) (ap (λ (x : Rows). x.starts) w)
