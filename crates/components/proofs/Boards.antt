-- The arrays of the component search stand for its groups: stacks, places and numbers. Assumes nothing.
use mathlib.Core.Path.{◌≡◌, refl, ap, subst, ◌∙◌}
use mathlib.Core.Logic.{◌≢◌, ⊎_elim}
use mathlib.Core.Bool.{false, cond}
use mathlib.Core.List.{List, [], ◌∷◌, ◌++◌}
use Prim.Native.Nat.{ℕ, suc, ◌+◌, ◌≤◌, ◌<◌}
use native.Mathlib.Omega.{arith}
use lib.Dec.{eqb}
use lib.ListN.{length, get_or, set, length-append, length-set}
use lib.Seq.{get_or-set_same, get_or-set_other}
use borrow.Author.Tests.{eqb-false, ne_eqb}
use Rattle.plain.specs.Lists.{elem, In}
use Rattle.plain.proofs.Tests.{contra, either, not-true, self, same, in_nil, in_head, in_tail, in_cases, in_one, in_append, in_left, in_right}
use Rattle.rows.specs.Rows.{entries}
use Rattle.rows.proofs.Entries.{entries_add}
use Rattle.look.specs.Numbers.{no_number, blanks}
use Rattle.look.proofs.Counting.{blanks_set}
use Rattle.components.specs.Model.{closed, on_round, renumbered}

-- ---- a stack in an array

-- the array begins with the states of the list, the oldest first: the newest stands behind all others
abbrev pub Piled : List ℕ → List ℕ → Type 0
Piled a [] = Unit {0}
Piled a (x ∷ xs) = (get_or a (length xs) 0 ≡ x) × Piled a xs

-- what stands behind them is free
piled_set : (a xs : List ℕ) (i x : ℕ) → length xs ≤ i → Piled a xs → Piled (set a i x) xs
piled_set a [] i x h p = tt
piled_set a (y ∷ xs) i x h p = (get_or-set_other a i (length xs) x 0 (λ e. omega arith) ∙ p.0, piled_set a xs i x (omega arith) p.1)

pub piled_push : (a xs : List ℕ) (i x : ℕ) → i ≡ length xs → i < length a → Piled a xs → Piled (set a i x) (x ∷ xs)
piled_push a xs i x e h p = (subst (λ (j : ℕ). get_or (set a i x) j 0 ≡ x) e (get_or-set_same a i x 0 h), piled_set a xs i x (omega arith) p)

pub piled_below : (a xs ys : List ℕ) → Piled a (xs ++ ys) → Piled a ys
piled_below a [] ys p = p
piled_below a (x ∷ xs) ys p = piled_below a xs ys p.1

-- the entries behind those of ys are the states of xs, the oldest first
entries_pile : (a : List ℕ) (x : ℕ) (xs ys : List ℕ) → Piled a ((x ∷ xs) ++ ys) → entries (length (x ∷ xs)) (length ys) a ≡ entries (length xs) (length ys) a ++ (x ∷ [])
unfolding entries
entries_pile a x xs ys p =
    ap (λ (n : ℕ). entries n (length ys) a) one_more ∙ entries_add (length xs) 1 (length ys) a
    ∙ ap (λ (y : ℕ). entries (length xs) (length ys) a ++ (y ∷ [])) (ap (λ (i : ℕ). get_or a i 0) there ∙ p.0)
  where
    one_more : length (x ∷ xs) ≡ length xs + 1
    one_more = omega arith

    there : length ys + length xs ≡ length (xs ++ ys)
    there = omega (arith, length-append xs ys)

module _ (a : List ℕ) where
  pub pile_entry : (xs ys : List ℕ) (s : ℕ) → Piled a (xs ++ ys) → In s xs → In s (entries (length xs) (length ys) a)
  pile_entry [] ys s p i = absurd (in_nil s i)
  pile_entry (x ∷ xs) ys s p i = rw (entries_pile a x xs ys p) (⊎_elim
      (λ e. in_right s (entries (length xs) (length ys) a) (x ∷ []) (rw e (in_head x [])))
      (λ j. in_left s (entries (length xs) (length ys) a) (x ∷ []) (pile_entry xs ys s p.1 j)) (in_cases s x xs i))

  pub entry_pile : (xs ys : List ℕ) (s : ℕ) → Piled a (xs ++ ys) → In s (entries (length xs) (length ys) a) → In s xs
  unfolding entries
  entry_pile [] ys s p i = absurd (in_nil s i)
  entry_pile (x ∷ xs) ys s p i = ⊎_elim
      (λ j. in_tail s x xs (entry_pile xs ys s p.1 j))
      (λ j. rw (in_one s x j) (in_head x xs)) (in_append s (entries (length xs) (length ys) a) (x ∷ []) (rw (entries_pile a x xs ys p) at i))

  -- the first of them
  pub first_entry : (xs ys : List ℕ) → Piled a (xs ++ ys) → (s : ℕ) × In s xs → In (get_or a (length ys) 0) xs
  unfolding entries
  first_entry [] ys p (s, i) = absurd (in_nil s i)
  first_entry (x ∷ xs) ys p some = entry_pile (x ∷ xs) ys (get_or a (length ys) 0) p (head (length xs))
    where
      head : (n : ℕ) → In (get_or a (length ys) 0) (entries (suc n) (length ys) a)
      head n = in_head (get_or a (length ys) 0) (entries n (suc (length ys)) a)

-- ---- places

-- the place of x among the open states, which are newest first; "no number" where it is not among them
unfoldable pub placed : ℕ → List ℕ → ℕ
placed x [] = no_number
placed x (y ∷ ys) = cond (eqb x y) (length ys) (placed x ys)

pub placed_here : (x : ℕ) (ys : List ℕ) → placed x (x ∷ ys) ≡ length ys
unfolding placed
placed_here x ys = rw (self x, placed)

pub placed_other : (x y : ℕ) (ys : List ℕ) → x ≢ y → placed x (y ∷ ys) ≡ placed x ys
unfolding placed
placed_other x y ys n = rw (ne_eqb x y n, placed)

pub placed_low : (x : ℕ) (xs : List ℕ) → In x xs → placed x xs < length xs
placed_low x [] i = absurd (in_nil x i)
placed_low x (y ∷ ys) i = ⊎_elim
    (λ e. let z : x ≡ y = same e in subst (λ (w : ℕ). placed x (w ∷ ys) < length (w ∷ ys)) z (omega (arith, placed_here x ys)))
    (λ f.
    let n = eqb-false x y f in
    omega (arith, placed_other x y ys n, placed_low x ys (⊎_elim (λ z. absurd (n z)) (λ j. j) (in_cases x y ys i)))) (either (eqb x y))

pub placed_none : (x : ℕ) (xs : List ℕ) → elem x xs ≡ false → placed x xs ≡ no_number
unfolding placed
placed_none x [] o = refl
placed_none x (y ∷ ys) o =
    let n : x ≢ y = λ z. contra (subst (λ (w : ℕ). In x (w ∷ ys)) z (in_head x ys)) o in
    placed_other x y ys n ∙ placed_none x ys (not-true (elem x ys) (λ i. contra (in_tail x y ys i) o))

-- a state of the newer ones is placed behind all older ones
pub placed_newer : (x : ℕ) (xs ys : List ℕ) → In x xs → length ys ≤ placed x (xs ++ ys)
placed_newer x [] ys i = absurd (in_nil x i)
placed_newer x (y ∷ xs) ys i = ⊎_elim
    (λ e. let z : x ≡ y = same e in subst (λ (w : ℕ). length ys ≤ placed x (w ∷ (xs ++ ys))) z (omega (arith, placed_here x (xs ++ ys), length-append xs ys)))
    (λ f.
    let n = eqb-false x y f in
    omega (arith, placed_other x y (xs ++ ys) n, placed_newer x xs ys (⊎_elim (λ z. absurd (n z)) (λ j. j) (in_cases x y xs i)))) (either (eqb x y))

-- the newer ones do not change the place of another
pub placed_older : (x : ℕ) (xs ys : List ℕ) → elem x xs ≡ false → placed x (xs ++ ys) ≡ placed x ys
placed_older x [] ys o = refl
placed_older x (y ∷ xs) ys o =
    let n : x ≢ y = λ z. contra (subst (λ (w : ℕ). In x (w ∷ xs)) z (in_head x xs)) o in
    placed_other x y (xs ++ ys) n ∙ placed_older x xs ys (not-true (elem x xs) (λ i. contra (in_tail x y xs i) o))

-- ---- numbers

-- the number of x: its place where it is open; ms are the open states, f the closed ones, k those of them that are found
unfoldable pub number_of : ℕ → List ℕ → List ℕ → List ℕ → ℕ
number_of x ms f k = cond (elem x k) on_round (cond (elem x f) closed (placed x ms))

module _ (x : ℕ) (ms f k : List ℕ) where
  pub number_found : In x k → number_of x ms f k ≡ on_round
  unfolding number_of
  number_found i = rw (i, number_of)

  pub number_closed : elem x k ≡ false → In x f → number_of x ms f k ≡ closed
  unfolding number_of
  number_closed o i = rw (o, i, number_of)

  pub number_open : elem x k ≡ false → elem x f ≡ false → number_of x ms f k ≡ placed x ms
  unfolding number_of
  number_open o c = rw (o, c, number_of)

  -- a state has no number exactly where it is not discovered
  pub number_none : length ms ≤ 512 → number_of x ms f k ≡ no_number → (elem x k ≡ false) × (elem x f ≡ false) × (elem x ms ≡ false)
  number_none few e = (not_found, not_closed, not-true (elem x ms) (λ i. omega (arith, number_open not_found not_closed, placed_low x ms i)))
    where
      not_found : elem x k ≡ false
      not_found = not-true (elem x k) (λ i. omega (arith, number_found i))

      not_closed : elem x f ≡ false
      not_closed = not-true (elem x f) (λ i. omega (arith, number_closed not_found i))

-- the number of a state whose place among the open ones is the same
pub same_number : (x : ℕ) (ms ns f k : List ℕ) → placed x ms ≡ placed x ns → number_of x ms f k ≡ number_of x ns f k
unfolding number_of
same_number x ms ns f k e = ap (λ (i : ℕ). cond (elem x k) on_round (cond (elem x f) closed i)) e

-- states that get a number have it then, and others keep theirs
module _ (n x : ℕ) where
  pub renumbered_out : (xs number : List ℕ) → elem x xs ≡ false → get_or (renumbered n xs number) x 0 ≡ get_or number x 0
  unfolding renumbered
  renumbered_out [] number o = refl
  renumbered_out (y ∷ xs) number o =
      renumbered_out xs (set number y n) (not-true (elem x xs) (λ i. contra (in_tail x y xs i) o))
      ∙ get_or-set_other number y x n 0 (λ z. contra (subst (λ (w : ℕ). In x (w ∷ xs)) z (in_head x xs)) o)

  pub renumbered_in : (xs number : List ℕ) → x < length number → In x xs → get_or (renumbered n xs number) x 0 ≡ n
  unfolding renumbered
  renumbered_in [] number h i = absurd (in_nil x i)
  renumbered_in (y ∷ xs) number h i = ⊎_elim
      (renumbered_in xs (set number y n) (omega (arith, length-set number y n)))
      (λ o.
      let e : x ≡ y = ⊎_elim (λ z. z) (λ j. absurd (contra j o)) (in_cases x y xs i) in
      renumbered_out xs (set number y n) o ∙ subst (λ (w : ℕ). get_or (set number w n) x 0 ≡ n) e (get_or-set_same number x n 0 h)) (either (elem x xs))

pub renumbered_length : (n : ℕ) (xs number : List ℕ) → length (renumbered n xs number) ≡ length number
unfolding renumbered
renumbered_length n [] number = refl
renumbered_length n (y ∷ xs) number = renumbered_length n xs (set number y n) ∙ length-set number y n

pub renumbered_blanks : (n : ℕ) (xs number : List ℕ) → n ≢ no_number → blanks (renumbered n xs number) ≤ blanks number
unfolding renumbered
renumbered_blanks n [] number z = omega arith
renumbered_blanks n (y ∷ xs) number z = omega (arith, renumbered_blanks n xs (set number y n) z, blanks_set number y n z)
