-- Lines put into an output as far as they fit whole. Assumes nothing.
use Prim.Native.Nat.{ℕ, ◌+◌, ◌*◌, ◌-◌, ◌≤◌, ◌<◌}
use mathlib.Core.Path.{◌≡◌, refl, sym, ap, subst, ◌∙◌}
use mathlib.Core.List.{List, [], ◌∷◌, ◌++◌, map, append-nil}
use native.Mathlib.Decide.{dec_le}
use native.Mathlib.Omega.{arith}
use borrow.Author.Tests.{le-leb, lt-leb}
use lib.ListN.{length, take, drop, length-append, length-take}
use lib.Seq.{take-take, take-append_seam}
use Rattle.plain.specs.Machine.{Line}
use Rattle.answer.specs.Bytes.{overwritten, Put}
use Rattle.answer.specs.Rendering.{render, rendered}
use Rattle.answer.proofs.Laws.{overwritten_append, length_overwritten, put_none, take_put}
use Rattle.watch.specs.Text.{fitted, stopped, Fitted}
use Rattle.watch.specs.Model.{fits, first_of, Laid}

-- ---- how much of two lines fits

module _ (space first len : ℕ) where
  fits_both : len ≤ space → len ≡ fits space first len
  unfolding fits
  fits_both h = rw (le-leb len space h)

  fits_first : space < len → first ≤ space → first ≡ fits space first len
  unfolding fits
  fits_first h k = rw (lt-leb len space h, le-leb first space k)

  fits_none : space < len → space < first → 0 ≡ fits space first len
  unfolding fits
  fits_none h k = rw (lt-leb len space h, lt-leb first space k)

  pub fits_within : first ≤ len → (fits space first len ≤ space) × (fits space first len ≤ len)
  fits_within h = elim (dec_le len space) [
    | yes k ↦ (omega (arith, fits_both k), omega (arith, fits_both k))
    | no k ↦ elim (dec_le first space) [
      | yes m ↦ (omega (arith, fits_first (omega arith) m), omega (arith, fits_first (omega arith) m))
      | no m ↦ (omega (arith, fits_none (omega arith) (omega arith)), omega (arith, fits_none (omega arith) (omega arith)))
    ]
  ]

-- ---- one line more

module _ (space : ℕ) (a : List ℕ) (left : List (List ℕ)) where
  fitted_more : length a ≤ space → fitted space (a ∷ left) ≡ a ++ fitted (space - length a) left
  unfolding fitted
  fitted_more h = rw (le-leb (length a) space h)

  fitted_cut : space < length a → fitted space (a ∷ left) ≡ []
  unfolding fitted
  fitted_cut h = rw (lt-leb (length a) space h)

  stopped_more : length a ≤ space → stopped space (a ∷ left) ≡ stopped (space - length a) left
  unfolding stopped
  stopped_more h = rw (le-leb (length a) space h)

  stopped_cut : space < length a → stopped space (a ∷ left) ≡ 1
  unfolding stopped
  stopped_cut h = rw (lt-leb (length a) space h)

-- ---- what is left to be written behind `at`, where d holds the lines before

pub record Rest (d₀ : List ℕ) (space : ℕ) (all : List (List ℕ)) (d : List ℕ) (at : ℕ) (left : List (List ℕ)) : Type 0 where
  pub made : overwritten d at (fitted (space - at) left) ≡ overwritten d₀ 0 (fitted space all)
  pub told : at + length (fitted (space - at) left) ≡ length (fitted space all)
  pub same : stopped (space - at) left ≡ stopped space all

module _ (d₀ : List ℕ) (space : ℕ) (all : List (List ℕ)) where
  pub rest_start : Rest d₀ space all d₀ 0 all
  rest_start =
      let e : space - 0 ≡ space = omega arith in
      record { made = rw e; told = rw e (omega arith); same = rw e }

  -- a line that fits
  rest_more : (d : List ℕ) (at : ℕ) (a : List ℕ) (left : List (List ℕ)) (d' : List ℕ) (r : ℕ) → at ≤ length d → length a ≤ space - at
      → Rest d₀ space all d at (a ∷ left) → Put d at a d' r → Rest d₀ space all d' r left
  rest_more d at a left d' r h k s p =
      let e : space - at - length a ≡ space - r = omega (arith, p.next) in
      let f : fitted (space - at) (a ∷ left) ≡ a ++ fitted (space - r) left = fitted_more (space - at) a left k ∙ rw e in
      let m : overwritten d' r (fitted (space - r) left) ≡ overwritten d at (a ++ fitted (space - r) left) =
      rw (p.made, p.next) (overwritten_append d at a (fitted (space - (at + length a)) left) h) in
      record {
        made = m ∙ rw (← f) s.made;
        told = omega (arith, p.next, s.told, ap length f, length-append a (fitted (space - r) left));
        same = rw (← e) (sym (stopped_more (space - at) a left k)) ∙ s.same;
      }

  -- the end: so many bytes were written, and 1 where a line did not fit
  pub done : (d : List ℕ) (at n : ℕ) → d ≡ overwritten d₀ 0 (fitted space all) → at ≡ length (fitted space all) → n ≡ stopped space all → Fitted all space d₀ d (2 * at + n)
  done d at n m t s = record { made = m; told = rw (← t, ← s) }

  over_none : (d : List ℕ) (at : ℕ) → d ≡ overwritten d at []
  over_none d at = (put_none d at).made

  pub rest_end : (d : List ℕ) (at : ℕ) (left : List (List ℕ)) → left ≡ [] → Rest d₀ space all d at left → Fitted all space d₀ d (2 * at)
  unfolding fitted stopped
  rest_end d at left e r =
      let s : Rest d₀ space all d at [] = subst (Rest d₀ space all d at) e r in
      let z : 2 * at + 0 ≡ 2 * at = omega arith in
      rw (← z) (done d at 0 (over_none d at ∙ s.made) (omega (arith, s.told)) s.same)

  rest_cut : (d : List ℕ) (at : ℕ) (a : List ℕ) (left : List (List ℕ)) → space - at < length a → Rest d₀ space all d at (a ∷ left) → Fitted all space d₀ d (2 * at + 1)
  rest_cut d at a left h s =
      let f = fitted_cut (space - at) a left h in
      done d at 1 (over_none d at ∙ rw (← f) s.made) (omega (arith, s.told, ap length f)) (sym (stopped_cut (space - at) a left h) ∙ s.same)

-- ---- lines at the head of a buffer

-- the bytes of all lines but the first
abbrev rest_of : List Line → List ℕ
rest_of [] = []
rest_of (l ∷ ls) = rendered ls

in_two : (ls : List Line) → rendered ls ≡ first_of ls ++ rest_of ls
unfolding rendered
in_two [] = refl
in_two (l ∷ ls) = refl

module _ (ls : List Line) (d d' : List ℕ) (first len : ℕ) (laid : Laid ls d d' first len) where
  pub laid_bytes : take len d' ≡ rendered ls
  laid_bytes = take_put d (rendered ls) d' len (record { next = omega (arith, laid.ends); made = laid.made })

  pub laid_within : len ≤ length d'
  unfolding overwritten
  laid_within = omega (arith, laid.ends, ap length laid.made, length-append (rendered ls) (drop (0 + length (rendered ls)) d))

  pub laid_first : first ≤ len
  laid_first = omega (arith, laid.split, laid.ends, ap length (in_two ls), length-append (first_of ls) (rest_of ls))

-- ---- at most two lines

-- a list of at most two lines
abbrev pub AtMostTwo : List Line → Type 0
AtMostTwo [] = Unit {0}
AtMostTwo (a ∷ []) = Unit {0}
AtMostTwo (a ∷ b ∷ []) = Unit {0}
AtMostTwo (a ∷ b ∷ c ∷ ls) = ⊥

skip_fitted : (space : ℕ) (left : List (List ℕ)) → fitted space ([] ∷ left) ≡ fitted space left
skip_fitted space left =
    let e : space - 0 ≡ space = omega arith in
    fitted_more space [] left (omega arith) ∙ ap (λ (n : ℕ). fitted n left) e

skip_stopped : (space : ℕ) (left : List (List ℕ)) → stopped space ([] ∷ left) ≡ stopped space left
skip_stopped space left =
    let e : space - 0 ≡ space = omega arith in
    stopped_more space [] left (omega arith) ∙ ap (λ (n : ℕ). stopped n left) e

-- an empty line more is no line
same_rest : (d₀ : List ℕ) (space : ℕ) (all : List (List ℕ)) (d : List ℕ) (at : ℕ) (xs ys : List (List ℕ)) → fitted (space - at) xs ≡ fitted (space - at) ys
    → stopped (space - at) xs ≡ stopped (space - at) ys → Rest d₀ space all d at xs → Rest d₀ space all d at ys
same_rest d₀ space all d at xs ys e f s = record { made = rw (← e) s.made; told = rw (← e) s.told; same = rw (← f) s.same }

fitted_same : (space : ℕ) (a : List ℕ) (xs ys : List (List ℕ)) → ((n : ℕ) → fitted n xs ≡ fitted n ys) → fitted space (a ∷ xs) ≡ fitted space (a ∷ ys)
unfolding fitted
fitted_same space a xs ys h = rw (h (space - length a))

stopped_same : (space : ℕ) (a : List ℕ) (xs ys : List (List ℕ)) → ((n : ℕ) → stopped n xs ≡ stopped n ys) → stopped space (a ∷ xs) ≡ stopped space (a ∷ ys)
unfolding stopped
stopped_same space a xs ys h = rw (h (space - length a))

module _ (d₀ : List ℕ) (space : ℕ) (all : List (List ℕ)) (d : List ℕ) (at : ℕ) where
  padded : (ls : List Line) (left : List (List ℕ)) → AtMostTwo ls → Rest d₀ space all d at (map render ls ++ left) → Rest d₀ space all d at (first_of ls ∷ rest_of ls ∷ left)
  unfolding rendered
  padded [] left s r = same_rest d₀ space all d at left ([] ∷ [] ∷ left) (sym (skip_fitted (space - at) ([] ∷ left) ∙ skip_fitted (space - at) left))
      (sym (skip_stopped (space - at) ([] ∷ left) ∙ skip_stopped (space - at) left)) r
  padded (a ∷ []) left s r = same_rest d₀ space all d at (render a ∷ left) (render a ∷ [] ∷ left)
      (fitted_same (space - at) (render a) left ([] ∷ left) (λ n. sym (skip_fitted n left)))
      (stopped_same (space - at) (render a) left ([] ∷ left) (λ n. sym (skip_stopped n left))) r
  padded (a ∷ b ∷ []) left s r = rw (append-nil (render b)) r
  padded (a ∷ b ∷ c ∷ ls) left s r = absurd s

  -- Lines at the head of a buffer, and so many of its bytes put behind `at`.
  module _ (ls : List Line) (left : List (List ℕ)) (short : AtMostTwo ls) (buf : List ℕ) (first len : ℕ) (buf₀ : List ℕ) (laid : Laid ls buf₀ buf first len) (h : at ≤ space) (k : space ≤ length d)
      (rest : Rest d₀ space all d at (map render ls ++ left)) where
    ends : len ≡ length (first_of ls) + length (rest_of ls)
    ends = laid.ends ∙ ap length (in_two ls) ∙ length-append (first_of ls) (rest_of ls)

    both : Rest d₀ space all d at (first_of ls ∷ rest_of ls ∷ left)
    both = padded ls left short rest

    -- both lines fit
    put_both : (d' : List ℕ) (r : ℕ) → len ≤ space - at → Put d at (take len buf) d' r → Rest d₀ space all d' r left
    put_both d' r f p =
        let one = first_of ls in
        let two = rest_of ls in
        let b : take len buf ≡ one ++ two = laid_bytes ls buf₀ buf first len laid ∙ in_two ls in
        let m = at + length one in
        let w = length_overwritten d at one (omega (arith, ends)) in
        let s = rest_more d₀ space all d at one (two ∷ left) (overwritten d at one) m (omega arith) (omega (arith, ends)) both (record { next = refl; made = refl }) in
        rest_more d₀ space all (overwritten d at one) m two left d' r (omega (arith, w, ends)) (omega (arith, ends)) s (record {
          next = p.next ∙ ap (λ (xs : List ℕ). at + length xs) b ∙ omega (arith, length-append one two);
          made = p.made ∙ ap (overwritten d at) b ∙ sym (overwritten_append d at one two (omega arith));
        })

    -- the first fits, and the second does not
    put_first : (d' : List ℕ) (r : ℕ) → space - at < len → first ≤ space - at → Put d at (take first buf) d' r → Fitted all space d₀ d' (2 * r + 1)
    put_first d' r f g p =
        let one = first_of ls in
        let b : take first buf ≡ one =
        sym (take-take first len buf (omega (arith, laid.split, ends))) ∙ ap (take first) (laid_bytes ls buf₀ buf first len laid ∙ in_two ls) ∙ ap (λ (n : ℕ). take n (one ++ rest_of ls)) laid.split ∙ take-append_seam one (rest_of ls) in
        let q : Put d at one d' r = rw b at p in
        rest_cut d₀ space all d' r (rest_of ls) left (omega (arith, q.next, laid.split, ends)) (rest_more d₀ space all d at one (rest_of ls ∷ left) d' r (omega arith) (omega (arith, laid.split)) both q)

    -- the first does not
    put_neither : (d' : List ℕ) (r : ℕ) → space - at < first → Put d at (take 0 buf) d' r → Fitted all space d₀ d' (2 * r + 1)
    put_neither d' r f p =
        let e : r ≡ at = omega (arith, p.next) in
        let q : d' ≡ d = p.made ∙ sym (over_none d₀ space all d at) in
        rw (e, q) (rest_cut d₀ space all d at (first_of ls) (rest_of ls ∷ left) (omega (arith, laid.split)) both)

    -- what is put is as much as fits whole
    pub all_put : (d' : List ℕ) (n r : ℕ) → n ≡ fits (space - at) first len → len ≤ n → Put d at (take n buf) d' r → (r ≤ space) × Rest d₀ space all d' r left
    all_put d' n r e f p = elim (dec_le len (space - at)) [
      | yes g ↦
          let m : n ≡ len = e ∙ sym (fits_both (space - at) first len g) in
          let q : Put d at (take len buf) d' r = rw m at p in
          (omega (arith, q.next, length-take len buf), put_both d' r g q)
      | no g ↦ elim (dec_le first (space - at)) [
        | yes i ↦ absurd (omega (arith, fits_first (space - at) first len (omega arith) i, laid.split, ends))
        | no i ↦ absurd (omega (arith, fits_none (space - at) first len (omega arith) (omega arith), laid.split, ends))
      ]
    ]

    pub not_put : (d' : List ℕ) (n r : ℕ) → n ≡ fits (space - at) first len → n < len → Put d at (take n buf) d' r → Fitted all space d₀ d' (2 * r + 1)
    not_put d' n r e f p = elim (dec_le len (space - at)) [
      | yes g ↦ absurd (omega (arith, fits_both (space - at) first len g))
      | no g ↦ elim (dec_le first (space - at)) [
        | yes i ↦
            let m : n ≡ first = e ∙ sym (fits_first (space - at) first len (omega arith) i) in
            put_first d' r (omega arith) i (rw m at p)
        | no i ↦
            let m : n ≡ 0 = e ∙ sym (fits_none (space - at) first len (omega arith) (omega arith)) in
            put_neither d' r (omega arith) (rw m at p)
      ]
    ]
