-- Equality of lists of bytes as a test, words by their numbers, and the lookup of a word in the table, row by row. Assumes nothing.
use native.Mathlib.Omega.{arith}
use mathlib.Core.Path.{◌≡◌, refl, sym, ap, ap₂, subst, ◌∙◌}
use mathlib.Core.List.{List, [], ◌∷◌, map}
use mathlib.Core.Bool.{Bool, true, false, cond, not, ◌&&◌, true≢false}
use Prim.Native.Nat.{ℕ, zero, suc, ◌+◌, ◌≤◌, ◌<◌}
use native.Mathlib.Numerals.{add-one}
use denote.Enum.Bare.{sameb}
use denote.Enum.Declared.{tag_of as Declared·tag_of}
use borrow.Author.Tests.{eqb-true}
use lib.Dec.{eqb}
use lib.ListN.{length, get_or, drop, drop_of_length-le}
use lib.Seq.{drop-cons}
use lib.Pointwise.{pointwise, bytes_decides}
use Rattle.std.specs.Borrow.{Bor}
use Rattle.std.proofs.lemmas.Bool.{and_parts, not-true}
use Rattle.std.proofs.lemmas.List.{get_or-map, length-map}
use Rattle.line.specs.Numbers.{all}
use Rattle.line.specs.Words.{tag_of, is_word}
use Rattle.line.specs.Records.{same_bytes, words, word_in, word_of}
use Rattle.line.specs.Items.{row_with, row_of, or_row}
use Rattle.line.specs.contracts.Word.{the_type}
use Rattle.line.specs.declared.Word.{Word}
use Rattle.line.specs.declared.Word.TheVariants as W
use Rattle.line.specs.declared.Row.{Row}

-- ---- equality as a test

and_cond : (t u v : Bool) → u ≡ v → (t && u) ≡ cond t v false
and_cond true u v e = e
and_cond false u v e = refl

-- `==` on lists of bytes is that test
pub same_listed : (a b : List ℕ) → pointwise eqb a b ≡ same_bytes a b
unfolding same_bytes
same_listed [] [] = refl
same_listed [] (y ∷ ys) = refl
same_listed (x ∷ xs) [] = refl
same_listed (x ∷ xs) (y ∷ ys) = and_cond (eqb x y) (pointwise eqb xs ys) (same_bytes xs ys) (same_listed xs ys)

-- ---- the test says what it should

pub same_equal : (a b : List ℕ) → same_bytes a b ≡ true → a ≡ b
same_equal a b e = (bytes_decides a b).0 (same_listed a b ∙ e)

pub same_self : (a : List ℕ) → same_bytes a a ≡ true
same_self a = sym (same_listed a a) ∙ (bytes_decides a a).1 refl

-- ---- every word is told by its number

word_at : ℕ → Word
word_at n = get_or (map (λ row. row.1) words) n W.Unreadable

known : (w : Word) → word_at (tag_of w) ≡ w
unfolding word_at words
known W.Game = refl
known W.Pay = refl
known W.Move = refl
known W.Go = refl
known W.Add = refl
known W.Cut = refl
known W.Mark = refl
known W.Unmark = refl
known W.Begin = refl
known W.End = refl
known W.Ways = refl
known W.Kinds = refl
known W.Short = refl
known W.Unreadable = refl

pub same_word : (v w : Word) → is_word v w ≡ true → v ≡ w
unfolding is_word
same_word v w e = sym (known v) ∙ ap word_at (eqb-true (tag_of v) (tag_of w) e) ∙ known w

-- a test that the words of the table pass, and that of a line that cannot be read, every word passes
module _ (p : Word → Bool) (u : p W.Unreadable ≡ true) where
  each_of : (rows : List (List ℕ × Word)) (n : ℕ) → all (λ row. p row.1) rows ≡ true → p (get_or (map (λ row. row.1) rows) n W.Unreadable) ≡ true
  unfolding all
  each_of [] n e = u
  each_of (row ∷ rows) zero e = (and_parts (p row.1) (all (λ row. p row.1) rows) e).0
  each_of (row ∷ rows) (suc n) e = each_of rows n (and_parts (p row.1) (all (λ row. p row.1) rows) e).1

  pub each_word : all (λ row. p row.1) words ≡ true → (w : Word) → p w ≡ true
  unfolding word_at
  each_word e w = ap p (sym (known w)) ∙ each_of words (tag_of w) e

declared_tag : (w : Word) → Declared·tag_of the_type w ≡ tag_of w
unfolding words all
declared_tag w = eqb-true _ _ (each_word (λ v. eqb (Declared·tag_of the_type v) (tag_of v)) refl refl w)

-- `==` on words is `is_word`
pub same_is_word : (v w : Word) → sameb the_type v w ≡ is_word v w
unfolding is_word
same_is_word v w = ap₂ eqb (declared_tag v) (declared_tag w)

-- ---- the table of words, row by row

-- the row that a field finds among some, behind those that gave `found`
unfoldable pub row_from : Row → List (List ℕ × Word) → List ℕ → Row
row_from found [] l = found
row_from found (row ∷ rows) l = row_from (or_row found l row.0 (row_of row.1)) rows l

stays : (w : Word) (rows : List (List ℕ × Word)) (l : List ℕ) → is_word w W.Unreadable ≡ false → row_from (row_of w) rows l ≡ row_of w
unfolding row_from or_row
stays w [] l e = refl
stays w (row ∷ rows) l e = rw e (stays w rows l e)

-- does a row have a word that can be read?
unfoldable readable : List ℕ × Word → Bool
readable row = not (is_word row.1 W.Unreadable)

first_found : (rows : List (List ℕ × Word)) (l : List ℕ) → all readable rows ≡ true → row_from (row_of W.Unreadable) rows l ≡ row_of (word_in rows l)
unfolding row_from word_in or_row all readable is_word
first_found [] l e = refl
first_found (row ∷ rows) l e =
    let k = and_parts (readable row) (all readable rows) e in
    by_row (is_word row.1 W.Unreadable) (same_bytes l row.0) (stays row.1 rows l) k.0 (first_found rows l k.1)
  where
    by_row : (u t : Bool) → (u ≡ false → row_from (row_of row.1) rows l ≡ row_of row.1) → not u ≡ true
        → row_from (row_of W.Unreadable) rows l ≡ row_of (word_in rows l)
        → row_from (cond t (row_of row.1) (row_of W.Unreadable)) rows l ≡ row_of (cond t row.1 (word_in rows l))
    by_row true t s e h = absurd (true≢false (sym e))
    by_row false true s e h = s refl
    by_row false false s e h = h

pub row_found : (l : List ℕ) {r : Row} → row_from (row_of W.Unreadable) words l ≡ r → r ≡ row_of (word_of l)
unfolding words word_of readable is_word all
row_found l e = sym e ∙ first_found words l refl

readable_at : (rows : List (List ℕ × Word)) (i : ℕ) (d : List ℕ × Word) → all readable rows ≡ true → i < length rows → readable (get_or rows i d) ≡ true
unfolding all
readable_at [] i d e h = absurd (omega arith)
readable_at (row ∷ rows) zero d e h = (and_parts (readable row) (all readable rows) e).0
readable_at (row ∷ rows) (suc i) d e h = readable_at rows i d (and_parts (readable row) (all readable rows) e).1 (omega arith)

-- ---- the table as the code holds it: the spelling of each word, and its row

abbrev Held : Type 0
Held = Bor (List ℕ) × Word × ℕ × ℕ × ℕ

abbrev held_row : Held → Row
held_row h = row_with h.1 h.2 h.3 h.4

abbrev shown : Held → List ℕ × Row
shown h = (h.0.now, held_row h)

abbrev asked : List ℕ × Word → List ℕ × Row
asked row = (row.0, row_of row.1)

-- t is the table, and its rows from i on find for the field l what all of them find
pub record Finds (t : List Held) (l : List ℕ) (i : ℕ) : Type 0 where
  pub table : map shown t ≡ map asked words
  pub rest : row_from (row_of W.Unreadable) (drop i words) l ≡ row_of (word_of l)

-- the row of a word that can be read, where its spelling is the field
or_row_spelt : (l spelling : List ℕ) (row : Row) → same_bytes l spelling ≡ true → or_row (row_of W.Unreadable) l spelling row ≡ row
unfolding or_row is_word
or_row_spelt l spelling row e = rw e

or_row_passed : (l spelling : List ℕ) (row : Row) → same_bytes l spelling ≡ false → or_row (row_of W.Unreadable) l spelling row ≡ row_of W.Unreadable
unfolding or_row is_word
or_row_passed l spelling row e = rw e

-- the row at a place below the table's length
module _ (t : List Held) (l : List ℕ) (i : ℕ) (f : Finds t l i) (h : i < length words) (d : Held) where
  asked_at : List ℕ × Word
  asked_at = get_or words i ([], W.Unreadable)

  shown_at : shown (get_or t i d) ≡ asked asked_at
  unfolding asked_at
  shown_at =
      let k : length t ≡ length words = sym (length-map t shown) ∙ ap length f.table ∙ length-map words asked in
      sym (get_or-map shown t i d ([], row_of W.Unreadable) (omega arith))
      ∙ ap (λ (x : List (List ℕ × Row)). get_or x i ([], row_of W.Unreadable)) f.table
      ∙ get_or-map asked words i ([], W.Unreadable) ([], row_of W.Unreadable) h

  same_at : pointwise eqb l (get_or t i d).0.now ≡ same_bytes l asked_at.0
  same_at = same_listed _ _ ∙ ap (λ (x : List ℕ × Row). same_bytes l x.0) shown_at

  found_at : row_from (or_row (row_of W.Unreadable) l asked_at.0 (row_of asked_at.1)) (drop (i + 1) words) l ≡ row_of (word_of l)
  unfolding row_from asked_at
  found_at =
      let e : drop i words ≡ asked_at ∷ drop (i + 1) words = rw (drop-cons words i ([], W.Unreadable) h, add-one) in
      subst (λ (x : List (List ℕ × Word)). row_from (row_of W.Unreadable) x l ≡ row_of (word_of l)) e f.rest

  pub row_spelt : pointwise eqb l (get_or t i d).0.now ≡ true → held_row (get_or t i d) ≡ row_of (word_of l)
  unfolding readable words all is_word asked_at
  row_spelt p =
      let n : is_word asked_at.1 W.Unreadable ≡ false = not-true _ (readable_at words i ([], W.Unreadable) refl h) in
      ap (λ (x : List ℕ × Row). x.1) shown_at
      ∙ sym (stays asked_at.1 (drop (i + 1) words) l n)
      ∙ sym (ap (λ (x : Row). row_from x (drop (i + 1) words) l) (or_row_spelt l asked_at.0 (row_of asked_at.1) (sym same_at ∙ p)))
      ∙ found_at

  pub row_passed : pointwise eqb l (get_or t i d).0.now ≡ false → Finds t l (i + 1)
  row_passed p = record {
    table = f.table;
    rest = sym (ap (λ (x : Row). row_from x (drop (i + 1) words) l) (or_row_passed l asked_at.0 (row_of asked_at.1) (sym same_at ∙ p))) ∙ found_at;
  }

pub rows_end : (t : List Held) (l : List ℕ) (i : ℕ) → Finds t l i → length words ≤ i → row_of W.Unreadable ≡ row_of (word_of l)
unfolding row_from
rows_end t l i f h = sym (ap (λ (x : List (List ℕ × Word)). row_from (row_of W.Unreadable) x l) (drop_of_length-le words h)) ∙ f.rest
