-- What stands where after a part of a list moved by one place, or starts did. Assumes nothing.
use Prim.Native.Nat.{ℕ, suc, ◌+◌, ◌-◌, ◌≤◌, ◌<◌}
use native.Mathlib.Omega.{arith}
use mathlib.Core.Path.{◌≡◌, ap, ◌∙◌}
use mathlib.Core.Bool.{Bool}
use mathlib.Core.List.{List, ◌∷◌, map}
use lib.ListN.{length, get_or, drop, length-drop, length-map}
use lib.Seq.{get_or-drop}
use Rattle.rows.specs.Shift.{opened, shut, moved_one, moved_starts}
use Rattle.rows.proofs.Paste.{same_place, get_d_map, paste_length, paste_before, paste_within, paste_behind}

-- t came in at a place
module _ (xs : List ℕ) (at count t : ℕ) (ordered : at ≤ count) (room : count < length xs) (ys : List ℕ) (new : ys ≡ opened xs at count t) where
  abbrev coming : List ℕ
  coming = t ∷ drop at xs

  enough : suc count - at ≤ length coming
  enough = omega (arith, length-drop at xs)

  pub opened_length : length ys ≡ length xs
  unfolding opened
  opened_length = paste_length xs at coming (suc count - at) ys new (omega arith) enough

  pub opened_before : (i : ℕ) → i < at → get_or ys i 0 ≡ get_or xs i 0
  unfolding opened
  opened_before = paste_before xs at coming (suc count - at) ys new (omega arith) enough

  opened_within : (i : ℕ) → at ≤ i → i ≤ count → get_or ys i 0 ≡ get_or coming (i - at) 0
  unfolding opened
  opened_within i l h = paste_within xs at coming (suc count - at) ys new (omega arith) enough i l (omega arith)

  pub opened_at : get_or ys at 0 ≡ t
  opened_at =
      let e : at - at ≡ 0 = omega arith in
      opened_within at (omega arith) ordered ∙ same_place coming e

  pub opened_behind : (i : ℕ) → at ≤ i → i < count → get_or ys (suc i) 0 ≡ get_or xs i 0
  opened_behind i l h =
      let e : suc i - at ≡ suc (i - at) = omega arith in
      let f : at + (i - at) ≡ i = omega arith in
      opened_within (suc i) (omega arith) h ∙ same_place coming e ∙ get_or-drop at xs (i - at) 0 ∙ same_place xs f

-- the entry at a place went out
module _ (xs : List ℕ) (at count : ℕ) (ordered : at < count) (room : count ≤ length xs) (ys : List ℕ) (new : ys ≡ shut xs at count) where
  enough_left : count - suc at ≤ length (drop (suc at) xs)
  enough_left = omega (arith, length-drop (suc at) xs)

  pub shut_length : length ys ≡ length xs
  unfolding shut
  shut_length = paste_length xs at (drop (suc at) xs) (count - suc at) ys new (omega arith) enough_left

  pub shut_before : (i : ℕ) → i < at → get_or ys i 0 ≡ get_or xs i 0
  unfolding shut
  shut_before = paste_before xs at (drop (suc at) xs) (count - suc at) ys new (omega arith) enough_left

  pub shut_behind : (i : ℕ) → at ≤ i → suc i < count → get_or ys i 0 ≡ get_or xs (suc i) 0
  unfolding shut
  shut_behind i l h =
      let e : suc at + (i - at) ≡ suc i = omega arith in
      paste_within xs at (drop (suc at) xs) (count - suc at) ys new (omega arith) enough_left i l (omega arith)
      ∙ get_or-drop (suc at) xs (i - at) 0
      ∙ same_place xs e

-- the starts from one to another are all one place further up, or down
module _ (up : Bool) (ss : List ℕ) (from last : ℕ) (ordered : from ≤ last) (inside : last < length ss) (ys : List ℕ) (new : ys ≡ moved_starts up ss from last) where
  abbrev changing : List ℕ
  changing = map (moved_one up) (drop from ss)

  all : suc last - from ≤ length changing
  all = omega (arith, length-map (drop from ss) (moved_one up), length-drop from ss)

  pub moved_length : length ys ≡ length ss
  unfolding moved_starts
  moved_length = paste_length ss from changing (suc last - from) ys new (omega arith) all

  pub moved_before : (u : ℕ) → u < from → get_or ys u 0 ≡ get_or ss u 0
  unfolding moved_starts
  moved_before = paste_before ss from changing (suc last - from) ys new (omega arith) all

  pub moved_within : (u : ℕ) → from ≤ u → u ≤ last → get_or ys u 0 ≡ moved_one up (get_or ss u 0)
  unfolding moved_starts
  moved_within u l h =
      let e : from + (u - from) ≡ u = omega arith in
      paste_within ss from changing (suc last - from) ys new (omega arith) all u l (omega arith)
      ∙ get_d_map (moved_one up) (drop from ss) (u - from) (omega (arith, length-drop from ss))
      ∙ ap (moved_one up) (get_or-drop from ss (u - from) 0 ∙ same_place ss e)

  pub moved_behind : (u : ℕ) → last < u → get_or ys u 0 ≡ get_or ss u 0
  unfolding moved_starts
  moved_behind u h = paste_behind ss from changing (suc last - from) ys new (omega arith) all u (omega arith)
