-- What stands behind a field tells the fields behind it, and a word with the fields behind it is the record that the code makes. Assumes nothing.
use mathlib.Core.Path.{◌≡◌, refl, sym, ap, subst, ◌∙◌}
use mathlib.Core.List.{List, [], ◌∷◌, map}
use mathlib.Core.Bool.{Bool, true, false, ◌&&◌, ◌||◌, cond, and-true, and-false}
use Prim.Native.Nat.{ℕ, suc, ◌+◌, ◌≤◌, ◌<◌}
use native.Mathlib.Decide.{ℕ_discrete, dec_lt}
use native.Mathlib.Nat.{zero-add}
use native.Mathlib.Omega.{arith}
use borrow.Author.Tests.{eq-eqb, ne_eqb, eqb-true, leb-true, lt-ltb, le-ltb}
use lib.Dec.{eqb, leb, ltb}
use lib.ListN.{length, get_or, take, drop, length-take}
use lib.Seq.{take_all, take-length}
use Rattle.std.specs.Prelude.{Option, Some, None, Result, Ok, Err}
use Rattle.std.specs.Result.{result_unwrap_or}
use Rattle.line.specs.Fields.{tab, fields_of, field_at}
use Rattle.line.specs.Numbers.{all, value, is_number, number_of}
use Rattle.line.specs.Words.{count_of, limit_of, kind_of, takes_kind}
use Rattle.line.specs.Records.{words, unreadable, word_of, is_kind, fields_fit, worded, from_fields, record_of}
use Rattle.line.specs.Items.{row_of, as_item, item_at, second_limit, filled_with}
use Rattle.line.specs.declared.NoRecord.{NoRecord}
use Rattle.line.specs.declared.Record.{Record}
use Rattle.line.specs.declared.Word.{Word}
use Rattle.line.proofs.Words.{each_word}
use Rattle.line.proofs.Fields.{behind_none, fields_behind, field_within, fields_at, behind_field}

-- ---- what stands behind a field

pub item_end : (limit : ℕ) (l : List ℕ) (at : ℕ) → at ≡ length l → Ok None ≡ item_at limit l at
unfolding item_at
item_end limit l at e = rw (eq-eqb at (length l) e)

pub item_field : (limit : ℕ) (l : List ℕ) (at : ℕ) (f : List ℕ) → (at ≡ length l → ⊥) → f ≡ field_at l (at + 1)
    → as_item (number_of limit f) (at + 1 + length f) ≡ item_at limit l at
unfolding item_at
item_field limit l at f d e = rw (ne_eqb at (length l) d, e)

-- what an item tells of the fields behind the field that ends at `at`
abbrev pub Tells : ℕ → List ℕ → ℕ → Result (Option (ℕ × ℕ)) NoRecord → Type 0
Tells limit l at (Ok (Some (v, end))) =
    (f : List ℕ) × (fields_behind l at ≡ f ∷ fields_behind l end) × (is_number limit f ≡ true) × (value f ≡ v) × (end ≤ length l)
Tells limit l at (Err _) = (f : List ℕ) × (rest : List (List ℕ)) × (fields_behind l at ≡ f ∷ rest) × (is_number limit f ≡ false)
Tells limit l at (Ok None) = fields_behind l at ≡ []

field_tells : (limit : ℕ) (l : List ℕ) (at : ℕ) (t : Bool) → at < length l → is_number limit (field_at l (at + 1)) ≡ t
    → Tells limit l at (as_item (cond t (Some (value (field_at l (at + 1)))) None) (at + 1 + length (field_at l (at + 1))))
field_tells limit l at true h e = (field_at l (at + 1), behind_field l at h, e, refl, field_within l (at + 1) (omega arith))
field_tells limit l at false h e = (field_at l (at + 1), _, behind_field l at h, e)

pub item_tells : (limit : ℕ) (l : List ℕ) (at : ℕ) (i : Result (Option (ℕ × ℕ)) NoRecord) → at ≤ length l → i ≡ item_at limit l at → Tells limit l at i
unfolding number_of
item_tells limit l at i k e = elim (dec_lt at (length l)) [
  | yes h ↦ subst (Tells limit l at) (item_field limit l at _ (λ d. omega arith) refl ∙ sym e) (field_tells limit l at _ h refl)
  | no h ↦ subst (Tells limit l at) (item_end limit l at (omega arith) ∙ sym e) (behind_none tab ([] ∷ []) l at (omega arith))
]

-- ---- a word and the fields behind it

-- each field is a number within its limit, and none is without a limit
unfoldable within : List ℕ → List (List ℕ) → Bool
within limits [] = true
within [] (f ∷ fs) = false
within (n ∷ limits) (f ∷ fs) = is_number n f && within limits fs

within_all : (limit : ℕ) (fs : List (List ℕ)) → length fs ≤ 2 → within (limit ∷ limit ∷ []) fs ≡ all (is_number limit) fs
unfolding within all
within_all limit [] h = refl
within_all limit (f ∷ []) h = refl
within_all limit (f ∷ g ∷ []) h = refl
within_all limit (f ∷ g ∷ x ∷ rest) h = absurd (omega arith)

-- a word takes up to two numbers, or one and a kind
data Takes (w : Word) : Type 0 where
  numbers : takes_kind w ≡ false → count_of w ≤ 2 → Takes w
  kind : takes_kind w ≡ true → count_of w ≡ 1 → Takes w

takes_few : Word → Bool
takes_few w = cond (takes_kind w) (eqb (count_of w) 1) (leb (count_of w) 2)

takes : (w : Word) → Takes w
unfolding takes_few words all
takes w = by_kind (takes_kind w) refl (each_word takes_few refl refl w)
  where
    by_kind : (t : Bool) → takes_kind w ≡ t → cond t (eqb (count_of w) 1) (leb (count_of w) 2) ≡ true → Takes w
    by_kind true k e = kind k (eqb-true (count_of w) 1 e)
    by_kind false k e = numbers k (leb-true (count_of w) 2 e)

kind_alone : (a b v : Bool) → a && (b && true) && v ≡ a && true && (b && v && true)
kind_alone true true v = sym (and-true v)
kind_alone true false v = refl
kind_alone false b v = refl

-- the law below, for a word with one number and a kind; d is the kind that is meant where none is written
kind_fits : (limit d : ℕ) (fs : List (List ℕ)) → within (limit ∷ 4 ∷ []) fs && (eqb (length fs) 1 || eqb (length fs) 2 && ltb 0 (get_or (map value fs) 1 d))
    ≡ all (is_number limit) (take 1 fs) && (eqb (length fs) 1 || eqb (length fs) 2 && all is_kind (drop 1 fs))
unfolding within all is_kind
kind_fits limit d [] = refl
kind_fits limit d (f ∷ []) = refl
kind_fits limit d (f ∷ g ∷ []) = kind_alone (is_number limit f) (is_number 4 g) (ltb 0 (value g))
kind_fits limit d (f ∷ g ∷ x ∷ rest) =
    rw (ne_eqb (length (f ∷ g ∷ x ∷ rest)) 1 (λ e. omega arith), ne_eqb (length (f ∷ g ∷ x ∷ rest)) 2 (λ e. omega arith)) (simp and-false)

-- the limits under which the numbers behind a word are read
abbrev limits_of : Word → List ℕ
limits_of w = limit_of w ∷ second_limit (row_of w) ∷ []

-- a word takes so many fields, or a kind behind them
abbrev counted : Word → List (List ℕ) → Bool
counted w fs = eqb (length fs) (count_of w) || takes_kind w && eqb (length fs) (suc (count_of w)) && ltb 0 (get_or (map value fs) 1 (kind_of w))

-- the fields fit a word where its numbers can be read and it takes so many of them
numbers_fit : (w : Word) (fs : List (List ℕ)) → Takes w
    → within (limits_of w) fs && counted w fs ≡ fields_fit w fs
unfolding second_limit fields_fit
numbers_fit w fs (numbers k h) = elim (ℕ_discrete (length fs) (count_of w)) [
  | yes e ↦ rw (k, ← e, eq-eqb (length fs) (length fs) refl, take-length fs, within_all (limit_of w) fs (omega arith))
  | no d ↦ rw (k, ne_eqb (length fs) (count_of w) d) (simp and-false)
]
numbers_fit w fs (kind k h) = rw (k, h) (kind_fits (limit_of w) (kind_of w) fs)

-- a record, or that of a line that cannot be read
abbrev pub or_unreadable : Result Record NoRecord → Record
or_unreadable r = result_unwrap_or r unreadable

or_by_test : (t : Bool) (r : Record) → or_unreadable (cond t (Ok r) (Err (record {}))) ≡ cond t r unreadable
or_by_test true r = refl
or_by_test false r = refl

worded_good : (w : Word) (fs : List (List ℕ)) → within (limits_of w) fs ≡ true
    → or_unreadable (filled_with (row_of w) (length fs) (get_or (map value fs) 0 0) (get_or (map value fs) 1 (kind_of w))) ≡ worded w fs
unfolding worded filled_with
worded_good w fs e = rw (← numbers_fit w fs (takes w), e) (or_by_test (counted w fs) _)

worded_bad : (w : Word) (fs : List (List ℕ)) → within (limits_of w) fs ≡ false → unreadable ≡ worded w fs
unfolding worded
worded_bad w fs e = rw (← numbers_fit w fs (takes w), e)

-- ---- the ways in which a line goes on behind its word

pub none_behind : (w : Word) (l : List ℕ) (at : ℕ) → Tells (limit_of w) l at (Ok None) → or_unreadable (filled_with (row_of w) 0 0 (kind_of w)) ≡ worded w (fields_behind l at)
unfolding within
none_behind w l at t = worded_good w [] refl ∙ rw t

pub bad_behind : (w : Word) (l : List ℕ) (at : ℕ) → Tells (limit_of w) l at (Err (record {})) → unreadable ≡ worded w (fields_behind l at)
unfolding within
bad_behind w l at t = worded_bad w (fields_behind l at) (rw (t.2, t.3))

pub one_behind : (w : Word) (l : List ℕ) (at v end : ℕ) → Tells (limit_of w) l at (Ok (Some (v, end))) → Tells (second_limit (row_of w)) l end (Ok None)
    → or_unreadable (filled_with (row_of w) 1 v (kind_of w)) ≡ worded w (fields_behind l at)
unfolding within
one_behind w l at v end t u = rw (t.1, u, sym t.3) (worded_good w (t.0 ∷ []) (rw t.2))

pub bad_second : (w : Word) (l : List ℕ) (at v end : ℕ) → Tells (limit_of w) l at (Ok (Some (v, end))) → Tells (second_limit (row_of w)) l end (Err (record {}))
    → unreadable ≡ worded w (fields_behind l at)
unfolding within
bad_second w l at v end t u = worded_bad w (fields_behind l at) (rw (t.1, u.2, t.2, u.3))

pub two_behind : (w : Word) (l : List ℕ) (at v end u last : ℕ) → Tells (limit_of w) l at (Ok (Some (v, end))) → Tells (second_limit (row_of w)) l end (Ok (Some (u, last)))
    → last ≡ length l → or_unreadable (filled_with (row_of w) 2 v u) ≡ worded w (fields_behind l at)
unfolding within
two_behind w l at v end u last s t e =
    rw (s.1, t.1, behind_none tab ([] ∷ []) l last (omega arith), sym s.3, sym t.3)
    (worded_good w (s.0 ∷ t.0 ∷ []) (rw (s.2, t.2)))

pub more_behind : (w : Word) (l : List ℕ) (at v end u last : ℕ) → Tells (limit_of w) l at (Ok (Some (v, end))) → Tells (second_limit (row_of w)) l end (Ok (Some (u, last)))
    → (last ≡ length l → ⊥) → unreadable ≡ worded w (fields_behind l at)
unfolding within
more_behind w l at v end u last s t d =
    worded_bad w (fields_behind l at) (rw (s.1, t.1, behind_field l last (omega (arith, t.4)), s.2, t.2))

-- ---- a line

pub record_long : (l : List ℕ) → 32 < length l → unreadable ≡ record_of l
unfolding record_of
record_long l h = rw (lt-ltb 32 (length l) h)

pub record_is : (l name : List ℕ) (w : Word) → length l ≤ 32 → name ≡ field_at l 0 → w ≡ word_of name
    → worded w (fields_behind l (length name)) ≡ record_of l
unfolding record_of from_fields
record_is l name w h k m =
    let e : fields_of l ≡ name ∷ fields_behind l (length name) = fields_at l 0 (omega arith) ∙ rw k (rw (zero-add (length (field_at l 0)))) in
    rw (le-ltb 32 (length l) h, e, m)

-- the first 33 bytes of a line are enough: a reader that holds no more of a longer one makes the same record
pub record_held : (l : List ℕ) → record_of (take 33 l) ≡ record_of l
record_held l = elim (dec_lt 32 (length l)) [
  | yes h ↦ sym (record_long (take 33 l) (omega (arith, length-take 33 l))) ∙ record_long l h
  | no h ↦ ap record_of (take_all 33 l (omega arith))
]
