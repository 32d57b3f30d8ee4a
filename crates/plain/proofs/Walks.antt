-- A list that begins with the states of a path: pushed, popped, read. Assumes nothing.
use mathlib.Core.Path.{◌≡◌, refl, sym, ap, ◌∙◌}
use mathlib.Core.List.{List, [], ◌∷◌, ◌++◌, append_assoc}
use Prim.Native.Nat.{ℕ, ◌<◌}
use native.Mathlib.Omega.{arith}
use lib.ListN.{length, get_or, set, length-append, get_or-append}
use lib.Seq.{get_or-append_seam, set-append_seam}
use Rattle.plain.specs.Lists.{Begins}
use Rattle.plain.specs.Search.{Frame, frame, states_of}

nonempty : (L rest : List ℕ) (n : ℕ) → length (L ++ rest) ≡ n → length L < n → (y : ℕ) × (ys : List ℕ) × (rest ≡ y ∷ ys)
nonempty L [] n e h = absurd (omega (arith, length-append L []))
nonempty L (y ∷ ys) n e h = (y, ys, refl)

-- one more entry behind those in use
pub begins_push : (L walk : List ℕ) (t i : ℕ) → i ≡ length L → length walk ≡ 512 → length L < 512 → Begins L walk → Begins (L ++ (t ∷ [])) (set walk i t)
begins_push L walk t i e n h (rest, w) =
    let y = nonempty L rest 512 (sym (ap length w) ∙ n) h in
    (y.1, push)
  where
    push : set walk i t ≡ (L ++ (t ∷ [])) ++ (nonempty L rest 512 (sym (ap length w) ∙ n) h).1
    push =
        let y = nonempty L rest 512 (sym (ap length w) ∙ n) h in
        ap (λ (j : ℕ). set walk j t) e ∙ ap (λ (l : List ℕ). set l (length L) t) (w ∙ ap (λ (r : List ℕ). L ++ r) y.2) ∙ set-append_seam L y.0 y.1 t
        ∙ sym (append_assoc L (t ∷ []) y.1)

-- one less
pub begins_pop : (L M walk : List ℕ) → Begins (L ++ M) walk → Begins L walk
begins_pop L M walk (rest, w) = (M ++ rest, w ∙ append_assoc L M rest)

-- what stands at the place of y
pub begins_at : (L : List ℕ) (y : ℕ) (M walk : List ℕ) → Begins (L ++ (y ∷ M)) walk → get_or walk (length L) 0 ≡ y
begins_at L y M walk (rest, w) =
    ap (λ (l : List ℕ). get_or l (length L) 0) (w ∙ append_assoc L (y ∷ M) rest) ∙ get_or-append_seam L y (M ++ rest) 0

pub begins_get_or : (L walk : List ℕ) (i : ℕ) → i < length L → Begins L walk → get_or walk i 0 ≡ get_or L i 0
begins_get_or L walk i h (rest, w) = ap (λ (l : List ℕ). get_or l i 0) w ∙ get_or-append L rest 0 i h

-- as many states as frames
pub states_length : (p : List Frame) → length (states_of p) ≡ length p
unfolding states_of
states_length [] = refl
states_length (frame s ts ∷ p) = omega (arith, length-append (states_of p) (s ∷ []), states_length p)
