-- When there is room for an edge, or a place of one, and what is made of the arrays then and else. Assumes nothing.
use Prim.Native.Nat.{ℕ, suc, ◌+◌, ◌≤◌, ◌<◌}
use mathlib.Core.Path.{◌≡◌, refl, sym, ap, ◌∙◌}
use mathlib.Core.Bool.{Bool, true, false, cond, ◌&&◌, true≢false}
use mathlib.Core.List.{List}
use native.Mathlib.Omega.{arith}
use lib.ListN.{get_or}
use borrow.Author.Tests.{ltb-true, leb-true, lt-ltb, le-leb}
use Rattle.rows.specs.Rows.{edge_count}
use Rattle.rows.specs.Shift.{opened, shut, moved_starts}
use Rattle.rows.specs.declared.Rows.{Rows}
use Rattle.rows.specs.Change.{rows_of, has_room, with_edge, inserted, has_place, without_edge, removed}

four : (a b c d : Bool) → a && b && c && d ≡ true → (a ≡ true) × (b ≡ true) × (c ≡ true) × (d ≡ true)
four true true true true e = (refl, refl, refl, refl)
four true true true false e = absurd (true≢false (sym e))
four true true false d e = absurd (true≢false (sym e))
four true false c d e = absurd (true≢false (sym e))
four false b c d e = absurd (true≢false (sym e))

not_so : (b : Bool) → (b ≡ true → ⊥) → b ≡ false
not_so true n = absurd (n refl)
not_so false n = refl

module _ (size v : ℕ) (ss : List ℕ) where
  pub room : size ≤ 512 → v < size → get_or ss (suc v) 0 ≤ edge_count ss size → edge_count ss size < 2048 → has_room ss size v ≡ true
  unfolding has_room
  room a b c d = λ i. le-leb size 512 a i && lt-ltb v size b i && le-leb (get_or ss (suc v) 0) (edge_count ss size) c i && lt-ltb (edge_count ss size) 2048 d i

  pub room_is : has_room ss size v ≡ true → (size ≤ 512) × (v < size) × (get_or ss (suc v) 0 ≤ edge_count ss size) × (edge_count ss size < 2048)
  unfolding has_room
  room_is e =
      let f = four _ _ _ _ e in
      (leb-true size 512 f.0, ltb-true v size f.1, leb-true (get_or ss (suc v) 0) (edge_count ss size) f.2, ltb-true (edge_count ss size) 2048 f.3)

  pub place : (k : ℕ) → size ≤ 512 → v < size → get_or ss v 0 + k < edge_count ss size → edge_count ss size ≤ 2048 → has_place ss size v k ≡ true
  unfolding has_place
  place k a b c d = λ i. le-leb size 512 a i && lt-ltb v size b i && lt-ltb (get_or ss v 0 + k) (edge_count ss size) c i && le-leb (edge_count ss size) 2048 d i

  pub place_is : (k : ℕ) → has_place ss size v k ≡ true → (size ≤ 512) × (v < size) × (get_or ss v 0 + k < edge_count ss size) × (edge_count ss size ≤ 2048)
  unfolding has_place
  place_is k e =
      let f = four _ _ _ _ e in
      (leb-true size 512 f.0, ltb-true v size f.1, ltb-true (get_or ss v 0 + k) (edge_count ss size) f.2, leb-true (edge_count ss size) 2048 f.3)

-- An edge comes in.

module _ (size v t : ℕ) (r : Rows) where
  pub inserted_room : has_room r.starts size v ≡ true → inserted size v t r ≡ with_edge size v t r
  unfolding inserted
  inserted_room e = ap (λ (b : Bool). cond b (with_edge size v t r) r) e

  pub inserted_none : has_room r.starts size v ≡ false → inserted size v t r ≡ r
  unfolding inserted
  inserted_none e = ap (λ (b : Bool). cond b (with_edge size v t r) r) e

-- by the place and the count that were read
module _ (size v t : ℕ) (xs ss : List ℕ) (at count : ℕ) (at-is : at ≡ get_or ss (suc v) 0) (count_is : count ≡ edge_count ss size) where
  pub insert_done : size ≤ 512 → v < size → at ≤ count → count < 2048 → (from last : ℕ) → from ≡ suc v → last ≡ size
      → (xs' ss' : List ℕ) → xs' ≡ opened xs at count t → ss' ≡ moved_starts true ss from last → rows_of xs' ss' ≡ inserted size v t (rows_of xs ss)
  insert_done a b c d from last from_is last_is xs' ss' targets starts =
      (λ i. rows_of (targets i) (starts i))
      ∙ (λ i. rows_of (opened xs (at-is i) (count_is i) t) (moved_starts true ss (from_is i) (last_is i)))
      ∙ sym (inserted_room size v t (rows_of xs ss) (room size v ss a b (omega arith) (omega arith)))

  pub insert_undone : (size ≤ 512 → v < size → at ≤ count → count < 2048 → ⊥) → rows_of xs ss ≡ inserted size v t (rows_of xs ss)
  insert_undone n = sym (inserted_none size v t (rows_of xs ss) (not_so _ (λ e. let f = room_is size v ss e in n f.0 f.1 (omega arith) (omega arith))))

-- An edge goes out.

module _ (size v k : ℕ) (r : Rows) where
  pub removed_place : has_place r.starts size v k ≡ true → removed size v k r ≡ without_edge size v k r
  unfolding removed
  removed_place e = ap (λ (b : Bool). cond b (without_edge size v k r) r) e

  pub removed_none : has_place r.starts size v k ≡ false → removed size v k r ≡ r
  unfolding removed
  removed_none e = ap (λ (b : Bool). cond b (without_edge size v k r) r) e

module _ (size v k : ℕ) (xs ss : List ℕ) (at count : ℕ) (at-is : at ≡ get_or ss v 0 + k) (count_is : count ≡ edge_count ss size) where
  pub remove_done : size ≤ 512 → v < size → at < count → count ≤ 2048 → (from last : ℕ) → from ≡ suc v → last ≡ size
      → (xs' ss' : List ℕ) → xs' ≡ shut xs at count → ss' ≡ moved_starts false ss from last → rows_of xs' ss' ≡ removed size v k (rows_of xs ss)
  remove_done a b c d from last from_is last_is xs' ss' targets starts =
      (λ i. rows_of (targets i) (starts i))
      ∙ (λ i. rows_of (shut xs (at-is i) (count_is i)) (moved_starts false ss (from_is i) (last_is i)))
      ∙ sym (removed_place size v k (rows_of xs ss) (place size v ss k a b (omega arith) (omega arith)))

  pub remove_undone : (size ≤ 512 → v < size → at < count → count ≤ 2048 → ⊥) → rows_of xs ss ≡ removed size v k (rows_of xs ss)
  remove_undone n = sym (removed_none size v k (rows_of xs ss) (not_so _ (λ e. let f = place_is size v ss k e in n f.0 f.1 (omega arith) (omega arith))))
