-- The lines that a program hands on are, for the reader of records, the lines of the text as document 01 counts them. Assumes nothing.
use Prim.Native.Nat.{ℕ, zero, suc, ◌≤◌, ◌<◌}
use mathlib.Core.Path.{◌≡◌, refl, sym, ap, ap₂, ◌∙◌}
use mathlib.Core.Bool.{Bool, true, false, cond}
use mathlib.Core.List.{List, [], ◌∷◌, ◌++◌, map, append-nil}
use native.Mathlib.Decide.{dec_lt}
use native.Mathlib.Omega.{arith}
use borrow.Author.Tests.{eqb-true, eqb-false, leb-true, leb-false, eq-eqb, ne_eqb, lt-ltb, le-ltb}
use lib.Dec.{eqb, leb}
use lib.ListN.{length, take, length-append, length-take}
use lib.Seq.{take_all, take-append-le, append_snoc}
use Rattle.plain.specs.Lists.{any}
use Rattle.plain.proofs.Tests.{any_head, any_nil}
use Rattle.line.specs.Fields.{newline, on_first, parted, lines_of}
use Rattle.line.specs.Records.{record_of}
use Rattle.line.proofs.Records.{record_held}
use Rattle.watch.specs.Text.{limit, whole_lines, counted}
use Rattle.console.specs.Lines.{pushed, last, handed}

-- ---- whole lines: what is held of each is its first 33 bytes

unfoldable wholes : List ℕ → ℕ → List ℕ → List (List ℕ)
wholes held left [] = last held
wholes held zero (b ∷ bs) = []
wholes held (suc left) (b ∷ bs) = cond (eqb b newline) (held ∷ wholes [] left bs) (wholes (held ++ (b ∷ [])) left bs)

abbrev cut : List ℕ → List ℕ
cut l = take 33 l

cut_last : (l : List ℕ) → last (cut l) ≡ map cut (last l)
cut_last [] = refl
cut_last (x ∷ xs) = refl

cut_pushed : (l : List ℕ) (b : ℕ) → pushed (cut l) b ≡ cut (l ++ (b ∷ []))
unfolding pushed
cut_pushed l b = elim (dec_lt (length l) 33) [
  | yes h ↦ rw (take_all 33 l (omega arith), lt-ltb (length l) 33 h) (sym (take_all 33 (l ++ (b ∷ [])) (omega (arith, length-append l (b ∷ [])))))
  | no h ↦ rw (le-ltb (length (cut l)) 33 (omega (arith, length-take 33 l))) (sym (take-append-le 33 l (b ∷ []) (omega arith)))
]

cut_cond : (t : Bool) (l : List ℕ) (ls ms ls' ms' : List (List ℕ)) → ls ≡ map cut ls' → ms ≡ map cut ms'
    → cond t (cut l ∷ ls) ms ≡ map cut (cond t (l ∷ ls') ms')
cut_cond true l ls ms ls' ms' p q = ap (λ (m : List (List ℕ)). cut l ∷ m) p
cut_cond false l ls ms ls' ms' p q = q

handed_cut : (held : List ℕ) (left : ℕ) (text : List ℕ) → handed (cut held) left text ≡ map cut (wholes held left text)
unfolding handed wholes
handed_cut held left [] = cut_last held
handed_cut held zero (b ∷ bs) = refl
handed_cut held (suc left) (b ∷ bs) = cut_cond (eqb b newline) held _ _ _ _ (handed_cut [] left bs)
    (ap (λ (h : List ℕ). handed h left bs) (cut_pushed held b) ∙ handed_cut (held ++ (b ∷ [])) left bs)

-- ---- a text of no more bytes than may come

-- what is held stands in front of the first line, and is the last where no line follows
unfoldable prefixed : List ℕ → List (List ℕ) → List (List ℕ)
prefixed held [] = last held
prefixed held (l ∷ ls) = (held ++ l) ∷ ls

prefixed_none : (ls : List (List ℕ)) → prefixed [] ls ≡ ls
unfolding prefixed
prefixed_none [] = refl
prefixed_none (l ∷ ls) = refl

last_snoc : (l : List ℕ) (b : ℕ) → last (l ++ (b ∷ [])) ≡ (l ++ (b ∷ [])) ∷ []
last_snoc [] b = refl
last_snoc (x ∷ xs) b = refl

prefixed_byte : (held : List ℕ) (b : ℕ) (ls : List (List ℕ)) → prefixed (held ++ (b ∷ [])) ls ≡ prefixed held (on_first b ls)
unfolding prefixed on_first
prefixed_byte held b [] = last_snoc held b
prefixed_byte held b (l ∷ ls) = ap (λ (f : List ℕ). f ∷ ls) (append_snoc held b l)

prefixed_cond : (t : Bool) (held : List ℕ) (b : ℕ) (ls : List (List ℕ))
    → cond t (held ∷ prefixed [] ls) (prefixed (held ++ (b ∷ [])) ls) ≡ prefixed held (cond t ([] ∷ ls) (on_first b ls))
unfolding prefixed
prefixed_cond true held b ls = ap₂ (λ (l : List ℕ) (m : List (List ℕ)). l ∷ m) (sym (append-nil held)) (prefixed_none ls)
prefixed_cond false held b ls = prefixed_byte held b ls

wholes_lines : (held : List ℕ) (left : ℕ) (text : List ℕ) → length text ≤ left → wholes held left text ≡ prefixed held (lines_of text)
unfolding wholes prefixed lines_of parted
wholes_lines held left [] h = refl
wholes_lines held zero (b ∷ bs) h = absurd (omega arith)
wholes_lines held (suc left) (b ∷ bs) h =
    rw (wholes_lines [] left bs (omega arith), wholes_lines (held ++ (b ∷ [])) left bs (omega arith)) (prefixed_cond (eqb b newline) held b (lines_of bs))

-- ---- a text of more bytes: it ends behind the last newline among those that may come

-- what is held stands in front of the first line, and is dropped where no line follows
unfoldable fronted : List ℕ → List (List ℕ) → List (List ℕ)
fronted held [] = []
fronted held (l ∷ ls) = (held ++ l) ∷ ls

fronted_none : (ls : List (List ℕ)) → fronted [] ls ≡ ls
unfolding fronted
fronted_none [] = refl
fronted_none (l ∷ ls) = refl

fronted_byte : (held : List ℕ) (b : ℕ) (ls : List (List ℕ)) → 0 < length ls → fronted (held ++ (b ∷ [])) ls ≡ fronted held (on_first b ls)
unfolding fronted on_first
fronted_byte held b [] h = absurd (omega arith)
fronted_byte held b (l ∷ ls) h = ap (λ (f : List ℕ). f ∷ ls) (append_snoc held b l)

some_lines : (t : Bool) (b : ℕ) (ls : List (List ℕ)) → 0 < length (cond t ([] ∷ ls) (on_first b ls))
unfolding on_first
some_lines true b ls = omega arith
some_lines false b [] = omega arith
some_lines false b (l ∷ ls) = omega arith

-- a text with a newline has a line
whole_some : (text : List ℕ) → any (eqb newline) text ≡ true → 0 < length (lines_of (whole_lines text))
unfolding lines_of parted whole_lines
whole_some [] e = any_nil (eqb newline) e
whole_some (b ∷ bs) e = rw e (some_lines (eqb b newline) b (lines_of (whole_lines bs)))

whole_none : (text : List ℕ) → any (eqb newline) text ≡ false → whole_lines text ≡ []
unfolding whole_lines
whole_none [] e = refl
whole_none (b ∷ bs) e = rw e

whole_byte : (held : List ℕ) (b : ℕ) (bs : List ℕ) (t : Bool) → any (eqb newline) bs ≡ t
    → fronted (held ++ (b ∷ [])) (lines_of (whole_lines bs)) ≡ fronted held (cond t (on_first b (lines_of (whole_lines bs))) [])
unfolding fronted lines_of parted
whole_byte held b bs true e = fronted_byte held b (lines_of (whole_lines bs)) (whole_some bs e)
whole_byte held b bs false e = rw (whole_none bs e)

-- the lines by the first byte
whole_newline : (b : ℕ) (bs : List ℕ) → eqb b newline ≡ true → lines_of (whole_lines (b ∷ bs)) ≡ [] ∷ lines_of (whole_lines bs)
unfolding lines_of parted whole_lines
whole_newline b bs e = rw (any_head (eqb newline) b bs (eq-eqb newline b (sym (eqb-true b newline e))), e)

lines_cond : (t : Bool) (b : ℕ) (bs : List ℕ) → eqb b newline ≡ false → lines_of (cond t (b ∷ bs) []) ≡ cond t (on_first b (lines_of bs)) []
unfolding lines_of parted
lines_cond true b bs e = rw e
lines_cond false b bs e = refl

whole_other : (b : ℕ) (bs : List ℕ) → eqb b newline ≡ false → lines_of (whole_lines (b ∷ bs)) ≡ cond (any (eqb newline) bs) (on_first b (lines_of (whole_lines bs))) []
unfolding whole_lines any
whole_other b bs e =
    rw (ne_eqb newline b (λ p. eqb-false b newline e (sym p))) (lines_cond (any (eqb newline) bs) b (whole_lines bs) e)

whole_step : (held : List ℕ) (b : ℕ) (bs : List ℕ) (t : Bool) → eqb b newline ≡ t
    → cond t (held ∷ fronted [] (lines_of (whole_lines bs))) (fronted (held ++ (b ∷ [])) (lines_of (whole_lines bs))) ≡ fronted held (lines_of (whole_lines (b ∷ bs)))
unfolding fronted
whole_step held b bs true e = rw (whole_newline b bs e, append-nil held, fronted_none (lines_of (whole_lines bs)))
whole_step held b bs false e = whole_byte held b bs (any (eqb newline) bs) refl ∙ ap (fronted held) (sym (whole_other b bs e))

wholes_counted : (held : List ℕ) (left : ℕ) (text : List ℕ) → left < length text → wholes held left text ≡ fronted held (lines_of (whole_lines (take left text)))
unfolding wholes fronted lines_of parted whole_lines
wholes_counted held left [] h = absurd (omega arith)
wholes_counted held zero (b ∷ bs) h = refl
wholes_counted held (suc left) (b ∷ bs) h =
    rw (wholes_counted [] left bs (omega arith), wholes_counted (held ++ (b ∷ [])) left bs (omega arith)) (whole_step held b (take left bs) (eqb b newline) refl)

-- ---- the records

wholes_all : (left : ℕ) (text : List ℕ) (t : Bool) → leb (length text) left ≡ t → wholes [] left text ≡ lines_of (cond t text (whole_lines (take left text)))
wholes_all left text true e = wholes_lines [] left text (leb-true (length text) left e) ∙ prefixed_none (lines_of text)
wholes_all left text false e = wholes_counted [] left text (leb-false (length text) left e) ∙ fronted_none (lines_of (whole_lines (take left text)))

records_cut : (ls : List (List ℕ)) → map record_of (map cut ls) ≡ map record_of ls
records_cut [] = refl
records_cut (l ∷ ls) = ap₂ (λ r rs. r ∷ rs) (record_held l) (records_cut ls)

handed_lines : (left : ℕ) (text : List ℕ) → map record_of (handed [] left text) ≡ map record_of (lines_of (cond (leb (length text) left) text (whole_lines (take left text))))
handed_lines left text =
    ap (map record_of) (handed_cut [] left text) ∙ records_cut (wholes [] left text) ∙ ap (map record_of) (wholes_all left text (leb (length text) left) refl)

pub handed_records : (text : List ℕ) → map record_of (handed [] limit text) ≡ map record_of (lines_of (counted text))
unfolding counted
handed_records text = handed_lines limit text
