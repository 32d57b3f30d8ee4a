-- The loops of the component search: what is left, from where the search stands, comes to what the whole does. Assumes nothing.
use mathlib.Core.Path.{◌≡◌, refl, sym, ap, ◌∙◌}
use mathlib.Core.Logic.{⊎_elim}
use mathlib.Core.Bool.{Bool, true, false, ◌&&◌, ◌||◌, cond}
use mathlib.Core.List.{List, [], ◌∷◌, ◌++◌, append-nil, map}
use Prim.Native.Nat.{ℕ, zero, suc, ◌+◌, ◌*◌, ◌-◌, ◌/◌, ◌%◌, ◌≤◌, ◌<◌}
use native.Mathlib.Numerals.{add-one}
use native.Mathlib.Omega.{arith}
use lib.Dec.{eqb, ltb}
use lib.ListN.{length, get_or, set, drop, replicate, length-append, length-set}
use borrow.Author.Tests.{lt-ltb, le-ltb, eq-eqb, ne_eqb}
use Rattle.std.specs.Prelude.{None, Some}
use Rattle.std.specs.List.{list_any, list_all, range_with_len}
use Rattle.plain.specs.Lists.{any, filter, below, elem}
use Rattle.plain.specs.Table.{accepts, with_bit, with_mark, with_marks, marking}
use Rattle.plain.proofs.Tests.{either, filter_yes, filter_no, filter_short}
use Rattle.rows.specs.Rows.{entries}
use Rattle.rows.proofs.Paste.{same_place}
use Rattle.rows.proofs.Entries.{entries_none, entries_next}
use Rattle.look.specs.declared.Row.{Row}
use Rattle.look.specs.Numbers.{no_number}
use Rattle.look.specs.Scan.{Spans}
use Rattle.look.proofs.Scans.{row_places}
use Rattle.components.specs.Model.{within, row_of, found_of, on_round, joined, scanned, carries_all, renumbered, states_found}

-- ---- groups that become one

module _ (firsts : List ℕ) (x : ℕ) where
  pub join_last : (n : ℕ) → n ≤ 1 → n ≡ joined firsts x n
  unfolding joined
  join_last zero h = refl
  join_last (suc n) h = rw (le-ltb 0 n (omega arith))

  -- the newest begins behind x, or it does not
  pub join_next : (n y : ℕ) → 1 < n → y ≡ get_or firsts (n - 1) 0 → (b : Bool) → ltb x y ≡ b → cond b (joined firsts x (n - 1)) n ≡ joined firsts x n
  unfolding joined
  join_next zero y more is b e = absurd (omega arith)
  join_next (suc n) y more is b e =
      let last : suc n - 1 ≡ n = omega arith in
      rw (lt-ltb 0 n (omega arith)) (λ i. cond ((sym e ∙ ap (ltb x) (is ∙ same_place firsts last)) i) (joined firsts x (last i)) (suc n))

-- ---- a test at each of the entries up to a place

module _ (p : ℕ → Bool) (xs : List ℕ) (at stop : ℕ) where
  abbrev left : ℕ → List ℕ
  left i = entries (stop - i) i xs

  pub test_ends : stop ≤ at → false ≡ any p (left at)
  unfolding any
  test_ends h = sym (ap (any p) (entries_none at stop xs h))

  -- the next one passes, or it does not
  pub test_next : at < stop → (x : ℕ) → x ≡ get_or xs at 0 → (b : Bool) → p x ≡ b → b || any p (left (at + 1)) ≡ any p (left at)
  unfolding any
  test_next more x is b e =
      ap (λ (t : Bool). t || any p (left (at + 1))) (sym e) ∙ ap (λ (y : ℕ). p y || any p (left (at + 1))) is ∙ sym (ap (any p) (entries_next at stop xs more))

-- is a state among the targets of some entries?
elem_any : (v : ℕ) (xs : List ℕ) → any (λ t. eqb v (within t)) xs ≡ elem v (map within xs)
unfolding any elem
elem_any v [] = refl
elem_any v (x ∷ xs) = ap (λ (b : Bool). eqb v (within x) || b) (elem_any v xs)

pub row_test : (targets starts : List ℕ) (v : ℕ) (r : Row) → Spans starts v r → any (λ t. eqb v (within t)) (entries (r.stop - r.from) r.from targets) ≡ elem v (row_of targets starts v)
unfolding row_of
row_test targets starts v r z = elem_any v (entries (r.stop - r.from) r.from targets) ∙ ap (λ (xs : List ℕ). elem v (map within xs)) (sym (row_places targets starts v r z))

-- a test at each of some places is one of the entries there
pub any_places : (p : ℕ → Bool) (xs : List ℕ) (n at : ℕ) → list_any (λ i. p (get_or xs i 0)) (range_with_len at n) ≡ any p (entries n at xs)
unfolding any entries
any_places p xs zero at = refl
any_places p xs (suc n) at =
    ap (λ (b : Bool). p (get_or xs at 0) || b) (ap (λ (m : ℕ). list_any (λ i. p (get_or xs i 0)) (range_with_len m n)) (add-one at) ∙ any_places p xs n (suc at))

-- ---- kinds, each of them

and_swap : (a b c : Bool) → a && (b && c) ≡ b && (a && c)
and_swap true b c = refl
and_swap false true c = refl
and_swap false false c = refl

-- the last number of a range may be asked first
all_last : (test : ℕ → Bool) (n at : ℕ) → list_all test (range_with_len at (suc n)) ≡ test (at + n) && list_all test (range_with_len at n)
all_last test zero at = let e : at ≡ at + 0 = omega arith in ap (λ (m : ℕ). test m && true) e
all_last test (suc n) at =
    let e : at + 1 + n ≡ at + suc n = omega arith in
    ap (λ (b : Bool). test at && b) (all_last test n (at + 1) ∙ ap (λ (m : ℕ). test m && list_all test (range_with_len (at + 1) n)) e)
    ∙ and_swap (test at) (test (at + suc n)) (list_all test (range_with_len (at + 1) n))

module _ (words : List ℕ) (size : ℕ) (states : List ℕ) where
  abbrev pub kind_carried : ℕ → Bool
  kind_carried kind = any (λ s. accepts words (kind * size + s)) states

  pub all_kinds : (n : ℕ) → list_all kind_carried (range_with_len 0 n) ≡ carries_all words size states n
  unfolding carries_all
  all_kinds zero = refl
  all_kinds (suc n) = let e : 0 + n ≡ n = omega arith in all_last kind_carried n 0 ∙ (λ i. kind_carried (e i) && all_kinds n i)

-- ---- the edges of a state

-- the targets from an edge on
drop_targets : (k n at : ℕ) (xs : List ℕ) → map within (entries (n - k) (at + k) xs) ≡ drop k (map within (entries n at xs))
unfolding entries
drop_targets zero n at xs =
    let e : n - 0 ≡ n = omega arith in
    let f : at + 0 ≡ at = omega arith in
    (λ i. map within (entries (e i) (f i) xs))
drop_targets (suc k) zero at xs = let e : 0 - suc k ≡ 0 = omega arith in (λ i. map within (entries (e i) (at + suc k) xs))
drop_targets (suc k) (suc n) at xs =
    let e : suc n - suc k ≡ n - k = omega arith in
    let f : at + suc k ≡ suc at + k = omega arith in
    (λ i. map within (entries (e i) (f i) xs)) ∙ drop_targets k n (suc at) xs

module _ (targets : List ℕ) (from stop : ℕ) where
  -- the targets from a place on
  abbrev pub edges_at : ℕ → List ℕ
  edges_at at = map within (entries (stop - at) at targets)

  module _ (number firsts : List ℕ) (at n : ℕ) where
    pub scan_ends : stop ≤ at → record { groups = n; found = None } ≡ scanned number firsts (edges_at at) (at - from) n
    unfolding scanned
    scan_ends h = sym (ap (λ (ts : List ℕ). scanned number firsts (map within ts) (at - from) n) (entries_none at stop targets h))

    module _ (begun : from ≤ at) (more : at < stop) (t : ℕ) (t-is : t ≡ within (get_or targets at 0)) where
      -- what the target's number leads to
      leads : scanned number firsts (edges_at at) (at - from) n
          ≡ cond (eqb (get_or number t 0) no_number) (record { groups = n; found = Some (record { index = at - from; target = t }) })
          (scanned number firsts (edges_at (at + 1)) (at + 1 - from) (joined firsts (get_or number t 0) n))
      unfolding scanned
      leads =
          let behind : suc (at - from) ≡ at + 1 - from = omega arith in
          ap (λ (ts : List ℕ). scanned number firsts (map within ts) (at - from) n) (entries_next at stop targets more)
          ∙ (λ i. cond (eqb (get_or number (sym t-is i) 0) no_number) (record { groups = n; found = Some (record { index = at - from; target = sym t-is i }) })
          (scanned number firsts (edges_at (at + 1)) (behind i) (joined firsts (get_or number (sym t-is i) 0) n)))

      module _ (u : ℕ) (u-is : u ≡ t) where
        pub scan_finds : get_or number u 0 ≡ no_number → record { groups = n; found = Some (record { index = at - from; target = t }) } ≡ scanned number firsts (edges_at at) (at - from) n
        scan_finds new = sym (leads ∙ rw (eq-eqb (get_or number t 0) no_number (sym (same_place number u-is) ∙ new)))

        pub scan_goes_on : (get_or number u 0 ≡ no_number → ⊥) → (m : ℕ) → m ≡ joined firsts (get_or number u 0) n
            → scanned number firsts (edges_at (at + 1)) (at + 1 - from) m ≡ scanned number firsts (edges_at at) (at - from) n
        scan_goes_on old m joins =
            ap (scanned number firsts (edges_at (at + 1)) (at + 1 - from)) (joins ∙ ap (λ (x : ℕ). joined firsts x n) (same_place number u-is))
            ∙ sym (leads ∙ rw (ne_eqb (get_or number t 0) no_number (λ z. old (same_place number u-is ∙ z))))

pub scan_begins : (targets starts number firsts : List ℕ) (v n k : ℕ) (r : Row) → Spans starts v r → (w : ℕ) → w ≡ k
    → scanned number firsts (edges_at targets r.from r.stop (r.from + w)) (r.from + w - r.from) n ≡ scanned number firsts (drop k (row_of targets starts v)) k n
unfolding row_of
scan_begins targets starts number firsts v n k r z w w-is =
    let e : r.stop - (r.from + w) ≡ r.stop - r.from - k = omega arith in
    let f : r.from + w - r.from ≡ k = omega arith in
    let g : r.from + w ≡ r.from + k = omega arith in
    (λ i. scanned number firsts (map within (entries (e i) (g i) targets)) (f i) n)
    ∙ ap (λ (ts : List ℕ). scanned number firsts ts k n) (drop_targets k (r.stop - r.from) r.from targets ∙ ap (λ (xs : List ℕ). drop k (map within xs)) (sym (row_places targets starts v r z)))

-- ---- states that get a number

module _ (x : ℕ) (stack : List ℕ) (at stop : ℕ) (number : List ℕ) where
  pub renumber_ends : stop ≤ at → number ≡ renumbered x (entries (stop - at) at stack) number
  unfolding renumbered
  renumber_ends h = sym (ap (λ (ss : List ℕ). renumbered x ss number) (entries_none at stop stack h))

  pub renumber_next : at < stop → (s : ℕ) → s ≡ get_or stack at 0 → (number' : List ℕ) → number' ≡ set number s x
      → renumbered x (entries (stop - (at + 1)) (at + 1) stack) number' ≡ renumbered x (entries (stop - at) at stack) number
  unfolding renumbered
  renumber_next more s is number' e =
      ap (renumbered x (entries (stop - (at + 1)) (at + 1) stack)) (e ∙ ap (λ (u : ℕ). set number u x) is)
      ∙ sym (ap (λ (ss : List ℕ). renumbered x ss number) (entries_next at stop stack more))

-- ---- the states that pass a test, in rising order

length_below : (n : ℕ) → length (below n) ≡ n
unfolding below
length_below zero = refl
length_below (suc n) = omega (arith, length-append (below n) (n ∷ []), length_below n)

module _ (p : ℕ → Bool) where
  filter_end : (xs : List ℕ) (x : ℕ) → filter p (xs ++ (x ∷ [])) ≡ filter p xs ++ filter p (x ∷ [])
  unfolding filter
  filter_end [] x = refl
  filter_end (y ∷ xs) x = ⊎_elim
      (λ e. filter_yes p y (xs ++ (x ∷ [])) e ∙ ap (λ (l : List ℕ). y ∷ l) (filter_end xs x) ∙ ap (λ (l : List ℕ). l ++ filter p (x ∷ [])) (sym (filter_yes p y xs e)))
      (λ e. filter_no p y (xs ++ (x ∷ [])) e ∙ filter_end xs x ∙ ap (λ (l : List ℕ). l ++ filter p (x ∷ [])) (sym (filter_no p y xs e))) (either (p y))

  passed_more : (n : ℕ) → p n ≡ true → filter p (below (suc n)) ≡ filter p (below n) ++ (n ∷ [])
  unfolding below filter
  passed_more n e = filter_end (below n) n ∙ ap (λ (l : List ℕ). filter p (below n) ++ l) (filter_yes p n [] e)

  passed_same : (n : ℕ) → p n ≡ false → filter p (below (suc n)) ≡ filter p (below n)
  unfolding below filter
  passed_same n e = filter_end (below n) n ∙ ap (λ (l : List ℕ). filter p (below n) ++ l) (filter_no p n [] e) ∙ append-nil (filter p (below n))

  passed_few : (n : ℕ) → length (filter p (below n)) ≤ n
  passed_few n = omega (arith, filter_short p (below n), length_below n)

-- the marks of some states, then those of others
marks_append : (words xs ys : List ℕ) → with_marks words (xs ++ ys) ≡ with_marks (with_marks words xs) ys
unfolding with_marks
marks_append words [] ys = refl
marks_append words (x ∷ xs) ys = marks_append (with_mark words x) xs ys

module _ (number : List ℕ) where
  -- the states below s that have the number of those on a round
  abbrev is_found : ℕ → Bool
  is_found s = eqb (get_or number s 0) on_round

  abbrev found_below : ℕ → List ℕ
  found_below s = filter is_found (below s)

  -- they are marked and counted
  pub record Listed (states : List ℕ) (count s : ℕ) : Type 0 where
    pub states_size : length states ≡ 8
    pub states_are : states ≡ marking (found_below s)
    pub count_is : count ≡ length (found_below s)

  pub listed_none : Listed (replicate 8 0) 0 0
  unfolding marking with_marks filter below
  listed_none = record { states_size = refl; states_are = refl; count_is = refl }

  pub listed_end : (states : List ℕ) (count s : ℕ) → Listed states count s → s ≤ 512 → 512 ≤ s → record { count = count; states = states } ≡ found_of (states_found number)
  unfolding states_found
  listed_end states count s l most done =
      let e : s ≡ 512 = omega arith in
      (λ i. record { count = l.count_is i; states = l.states_are i }) ∙ ap (λ (m : ℕ). found_of (found_below m)) e

  module _ (states : List ℕ) (count s : ℕ) (l : Listed states count s) where
    pub listed_few : count ≤ s
    listed_few = omega (arith, l.count_is, passed_few is_found s)

    module _ (states' : List ℕ) (count' : ℕ) where
      pub listed_one : get_or number s 0 ≡ on_round → states' ≡ with_mark states s → count' ≡ count + 1 → Listed states' count' (s + 1)
      unfolding marking with_marks with_mark
      listed_one on marks counts =
          let e = ap found_below (add-one s) ∙ passed_more is_found s (eq-eqb (get_or number s 0) on_round on) in
          record {
            states_size = ap length marks ∙ length-set states (s / 64) (with_bit (s % 64) (get_or states (s / 64) 0)) ∙ l.states_size;
            states_are = marks ∙ (λ j. with_mark (l.states_are j) s) ∙ sym (ap marking e ∙ marks_append (replicate 8 0) (found_below s) (s ∷ []));
            count_is = omega (arith, counts, l.count_is, ap length e, length-append (found_below s) (s ∷ []));
          }

      pub listed_other : (get_or number s 0 ≡ on_round → ⊥) → states' ≡ states → count' ≡ count → Listed states' count' (s + 1)
      listed_other off same counts =
          let e = ap found_below (add-one s) ∙ passed_same is_found s (ne_eqb (get_or number s 0) on_round off) in
          record {
            states_size = ap length same ∙ l.states_size;
            states_are = same ∙ l.states_are ∙ ap marking (sym e);
            count_is = counts ∙ l.count_is ∙ ap length (sym e);
          }
