-- A line `pay` names a state below 512 and one of four kinds. Assumes nothing.
use mathlib.Core.Path.{◌≡◌, refl, sym, ap, subst, ◌∙◌}
use mathlib.Core.List.{List, [], ◌∷◌, map}
use mathlib.Core.Bool.{Bool, true, false, ◌&&◌, ◌||◌, not, cond, and-false, true≢false}
use Prim.Native.Nat.{ℕ, ◌≤◌, ◌<◌}
use native.Mathlib.Omega.{arith}
use borrow.Author.Tests.{ne_eqb, leb-true, ltb-true, eqb-true}
use lib.Dec.{eqb, ltb, leb}
use lib.ListN.{length, get_or}
use Rattle.std.proofs.lemmas.Bool.{and_parts}
use Rattle.line.specs.Fields.{fields_of}
use Rattle.line.specs.Numbers.{all, is_digit, value, leading_zero, is_number}
use Rattle.line.specs.Words.{tag_of, kind_of, is_word}
use Rattle.line.specs.Records.{unreadable, word_of, is_kind, fields_fit, worded, from_fields, record_of}
use Rattle.line.specs.declared.Word.{Word}
use Rattle.line.specs.declared.Word.TheVariants.{Pay, Unreadable}
use Rattle.line.specs.declared.Record.{Record}
use Rattle.line.proofs.Words.{same_word}

-- a line that has one word has no other
pub other_word : (w v u : Word) → is_word w v ≡ true → is_word v u ≡ false → is_word w u ≡ false
unfolding is_word
other_word w v u e f = ap (λ (n : ℕ). eqb n (tag_of u)) (eqb-true (tag_of w) (tag_of v) e) ∙ f

number_most : (limit : ℕ) (f : List ℕ) → is_number limit f ≡ true → value f ≤ limit
unfolding is_number
number_most limit f e = leb-true (value f) limit (and_parts (ltb 0 (length f) && leb (length f) 5 && not (leading_zero f) && all is_digit f) (leb (value f) limit) e).1

kind_few : (f : List ℕ) → is_kind f ≡ true → (0 < value f) × (value f ≤ 4)
unfolding is_kind
kind_few f e = let w = and_parts (is_number 4 f) (ltb 0 (value f)) e in (ltb-true 0 (value f) w.1, number_most 4 f w.0)

-- what the numbers behind the word are
abbrev Named : ℕ → ℕ → Type 0
Named state kind = (state < 512) × (0 < kind) × (kind ≤ 4)

fields_named : (fs : List (List ℕ)) → fields_fit Pay fs ≡ true → Named (get_or (map value fs) 0 0) (get_or (map value fs) 1 1)
unfolding fields_fit all
fields_named [] e = absurd (true≢false (sym e))
fields_named (f ∷ []) e = (omega (arith, number_most 511 f (and_parts (is_number 511 f) true (and_parts (is_number 511 f && true) true e).0).0), omega arith, omega arith)
fields_named (f ∷ g ∷ []) e =
    let w = and_parts (is_number 511 f && true) (is_kind g && true) e in
    let kind = kind_few g (and_parts (is_kind g) true w.1).0 in
    (omega (arith, number_most 511 f (and_parts (is_number 511 f) true w.0).0), kind.0, kind.1)
fields_named (f ∷ g ∷ h ∷ rest) e = absurd (true≢false (sym e ∙ none))
  where
    many : List (List ℕ)
    many = f ∷ g ∷ h ∷ rest

    none : fields_fit Pay (f ∷ g ∷ h ∷ rest) ≡ false
    none =
        (λ i. (is_number 511 f && true) && (ne_eqb (length many) 1 (λ z. omega arith) i || (ne_eqb (length many) 2 (λ z. omega arith) i && all is_kind (g ∷ h ∷ rest))))
        ∙ and-false (is_number 511 f && true)

-- of any line that is a `pay`
abbrev pub PayFits : Record → Type 0
PayFits r = is_word r.word Pay ≡ true → Named r.first r.second

not_pay : (w : Word) (state kind : ℕ) → is_word w Pay ≡ false → PayFits (record { word = w; first = state; second = kind })
not_pay w state kind f e = absurd (true≢false (sym e ∙ f))

worded_fits : (w : Word) (fs : List (List ℕ)) → PayFits (worded w fs)
unfolding worded is_word
worded_fits w fs = by_fit (fields_fit w fs) refl
  where
    by_word : (w : Word) → fields_fit w fs ≡ true → PayFits (record { word = w; first = get_or (map value fs) 0 0; second = get_or (map value fs) 1 (kind_of w) })
    by_word w e k =
        subst (λ (v : Word). fields_fit v fs ≡ true → Named (get_or (map value fs) 0 0) (get_or (map value fs) 1 (kind_of v))) (sym (same_word w Pay k)) (fields_named fs) e

    by_fit : (b : Bool) → fields_fit w fs ≡ b
        → PayFits (cond b (record { word = w; first = get_or (map value fs) 0 0; second = get_or (map value fs) 1 (kind_of w) }) unreadable)
    by_fit true e = by_word w e
    by_fit false e = not_pay Unreadable 0 0 refl

fields_fit_lem : (fs : List (List ℕ)) → PayFits (from_fields fs)
unfolding from_fields is_word
fields_fit_lem [] = not_pay Unreadable 0 0 refl
fields_fit_lem (w ∷ fs) = worded_fits (word_of w) fs

pub record_pay : (l : List ℕ) → PayFits (record_of l)
unfolding record_of is_word
record_pay l = by_length (ltb 32 (length l))
  where
    by_length : (b : Bool) → PayFits (cond b unreadable (from_fields (fields_of l)))
    by_length true = not_pay Unreadable 0 0 refl
    by_length false = fields_fit_lem (fields_of l)
