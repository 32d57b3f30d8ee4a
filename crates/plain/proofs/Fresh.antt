-- A fresh load of a table as it stands is accepted, and sets that table. Assumes nothing.
use mathlib.Core.Path.{◌≡◌, refl, sym, ap, subst, ◌∙◌}
use mathlib.Core.Bool.{Bool, true, false}
use mathlib.Core.List.{List, [], ◌∷◌}
use Prim.Native.Nat.{ℕ, ◌*◌, ◌≤◌}
use native.Mathlib.Omega.{arith}
use lib.ListN.{length}
use borrow.Author.Tests.{le-ltb}
use Rattle.plain.specs.Lists.{any}
use Rattle.plain.specs.Search.{Edge}
use Rattle.plain.specs.Table.{Table}
use Rattle.plain.specs.Refusals.{accepted, first_held, pairs, flat, bad_size, bad_start, bad_marks, bad_count, bad_kinds, outside, repeated, short_room, room_condition, load_trial}
use Rattle.plain.specs.Machine.{table_of, load_answer}
use Rattle.plain.specs.Claims.{Arises, loaded, load_from}
use Rattle.plain.proofs.Trials.{held_first, held_later, accepted_when}
use Rattle.plain.proofs.Tables.{Valid, valid_fits, edges_most, fit_kinds, count_fine}

-- ---- the numbers of moves

pairs_flat : (es : List Edge) → pairs (flat es) ≡ es
unfolding pairs flat
pairs_flat [] = refl
pairs_flat (e ∷ es) = ap (λ (l : List Edge). e ∷ l) (pairs_flat es)

length_flat : (es : List Edge) → length (flat es) ≡ 2 * length es
unfolding flat
length_flat [] = refl
length_flat (e ∷ es) = omega (arith, length_flat es)

flat_fine : (es : List Edge) → length es ≤ 2048 → bad_count (flat es) ≡ false
flat_fine es h = count_fine (flat es) (λ e. omega (arith, length_flat es)) (omega (arith, length_flat es))

-- ---- a table as it stands

pub fresh_table : (t : Table) → table_of (load_from t) ≡ t
unfolding table_of load_from
fresh_table t = λ i. record { size = t.size; start = t.start; kinds = t.kinds; marks = t.marks; edges = pairs_flat t.edges i }

-- a table but for its count of kinds: none of the conditions for a refusal holds that do not ask for it
pub record Loadable (t : Table) : Type 0 where
  pub size_ok : bad_size t.size ≡ false
  pub start_ok : bad_start t.size t.start ≡ false
  pub marks_ok : bad_marks t.size t.kinds t.marks ≡ false
  pub few : length t.edges ≤ 2048
  pub inside : any (outside t.size) t.edges ≡ false
  pub once : repeated t.edges ≡ false

pub valid_loadable : (t : Table) → Valid t → Loadable t
valid_loadable t v = record { size_ok = v.size_ok; start_ok = v.start_ok; marks_ok = v.marks_ok; few = edges_most t v; inside = v.inside; once = v.once }

-- only its count of kinds and the room can be refused
pub fresh_trial : (t : Table) → Loadable t → (room : ℕ)
    → load_trial (load_from t) room ≡ first_held ((16, bad_kinds t.kinds t.size (length t.edges)) ∷ room_condition t.size t.kinds room)
unfolding load_trial load_from
fresh_trial t v room =
    held_later _ _ v.size_ok ∙ held_later _ _ v.start_ok ∙ held_later _ _ v.marks_ok ∙ held_later _ _ (flat_fine t.edges v.few)
    ∙ ap (λ (es : List Edge). first_held ((16, bad_kinds t.kinds t.size (length es)) ∷ (6, any (outside t.size) es) ∷ (8, repeated es) ∷ room_condition t.size t.kinds room)) (pairs_flat t.edges)
    ∙ by_kinds (bad_kinds t.kinds t.size (length t.edges))
  where
    by_kinds : (b : Bool) → first_held ((16, b) ∷ (6, any (outside t.size) t.edges) ∷ (8, repeated t.edges) ∷ room_condition t.size t.kinds room)
        ≡ first_held ((16, b) ∷ room_condition t.size t.kinds room)
    by_kinds true = held_first _ _ refl ∙ sym (held_first _ _ refl)
    by_kinds false = held_later _ _ refl ∙ held_later _ _ v.inside ∙ held_later _ _ v.once ∙ sym (held_later _ _ refl)

pub fresh_accepted : (t : Table) → Valid t → (room : ℕ) → t.size * t.kinds ≤ room → load_trial (load_from t) room ≡ accepted
unfolding any short_room
fresh_accepted t v room h =
    fresh_trial t (valid_loadable t v) room ∙ held_later _ _ (fit_kinds t.kinds t.size (length t.edges) (valid_fits t v)) ∙ held_later _ _ (le-ltb _ _ h) ∙ accepted_when [] refl

-- so every table that keeps the limits is one that a session can hold
pub fresh_arises : (t : Table) → Valid t → Arises t
fresh_arises t v = subst Arises (fresh_table t) (loaded (load_from t) (t.size * t.kinds) (fresh_accepted t v (t.size * t.kinds) (omega arith)))

-- it answers with the verdict of the search on that table, and all its looks
pub fresh_answer : (t : Table) → Valid t → (room : ℕ) → t.size * t.kinds ≤ room → load_answer (load_trial (load_from t) room) (table_of (load_from t)) ≡ load_answer accepted t
fresh_answer t v room h = (λ i. load_answer (fresh_accepted t v room h i) (fresh_table t i))
