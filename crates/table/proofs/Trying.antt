-- Trials: the number of the first condition that holds; what the early trial of a load tells of the whole one. Assumes nothing.
use mathlib.Core.Path.{◌≡◌, refl, sym, ap, ◌∙◌}
use mathlib.Core.Logic.{◌⊎◌, ⊎_elim}
use mathlib.Core.Bool.{Bool, true, false}
use mathlib.Core.List.{List, [], ◌∷◌, ◌++◌}
use Prim.Native.Nat.{ℕ, ◌%◌, ◌≤◌, ◌<◌}
use native.Mathlib.Omega.{arith}
use lib.Dec.{eqb, ltb}
use lib.ListN.{length}
use borrow.Author.Tests.{ne_eqb, lt-ltb, le-ltb}
use Rattle.std.proofs.lemmas.Bool.Decides.{nat_tests}
use Rattle.plain.specs.Lists.{any}
use Rattle.plain.specs.Table.{by_kind}
use Rattle.plain.specs.Refusals.{Trial as PlainTrial, accepted, refused, first_held, bad_size, bad_count, outside, short_room, room_condition, pairs, repeated, load_trial}
use Rattle.plain.proofs.Tests.{either, or_neither}
use Rattle.plain.proofs.Trials.{unheld}
use Rattle.table.specs.declared.Trial.{Trial}
use Rattle.table.specs.declared.Trial.TheVariants.{Accepted, Refused}
use Rattle.table.specs.Trials.{tried, early_trial}

abbrev Condition : Type 0
Condition = ℕ × Bool

-- ---- the code's trial is that of the plain table

pub tried_accepted : (x : PlainTrial) → tried x ≡ Accepted → x ≡ accepted
tried_accepted accepted e = refl
tried_accepted (refused n) e = let z : ◌≡◌ {A = ℕ} 0 1 = cc in absurd (omega arith)

number_in : Trial → ℕ
number_in Accepted = 0
number_in (Refused n) = n

pub tried_refused : (x : PlainTrial) (n : ℕ) → Refused n ≡ tried x → x ≡ refused n
unfolding number_in
tried_refused accepted n e = let z : ◌≡◌ {A = ℕ} 0 1 = cc in absurd (omega arith)
tried_refused (refused m) n e = ap refused (sym (ap number_in e))

-- ---- the first condition that holds

pub stop : (n : ℕ) (b : Bool) (cs : List Condition) → b ≡ true → Refused n ≡ tried (first_held ((n, b) ∷ cs))
unfolding first_held
stop n b cs e = rw (e, first_held)

pub skip : (k : Trial) (n : ℕ) (b : Bool) (cs : List Condition) → b ≡ false → k ≡ tried (first_held cs) → k ≡ tried (first_held ((n, b) ∷ cs))
unfolding first_held
skip k n b cs e h = rw (e, first_held) h

pub none_held : Accepted ≡ tried (first_held [])
unfolding first_held
none_held = refl

-- where nothing is refused, no condition holds
free : (n : ℕ) (b : Bool) (cs : List Condition) → Accepted ≡ tried (first_held ((n, b) ∷ cs)) → (b ≡ false) × (Accepted ≡ tried (first_held cs))
unfolding first_held
free n true cs h = let z : ◌≡◌ {A = ℕ} 0 1 = cc in absurd (omega arith)
free n false cs h = (refl, h)

-- further conditions alter nothing once one holds
pub held_before : (cs ds : List Condition) → (tried (first_held cs) ≡ Accepted → ⊥) → tried (first_held cs) ≡ tried (first_held (cs ++ ds))
unfolding first_held
held_before [] ds n = absurd (n refl)
held_before (c ∷ cs) ds n = ⊎_elim
    (λ e. sym (stop c.0 c.1 cs e) ∙ stop c.0 c.1 (cs ++ ds) e)
    (λ e.
    let here : tried (first_held cs) ≡ tried (first_held (c ∷ cs)) = skip (tried (first_held cs)) c.0 c.1 cs e refl in
    sym here ∙ skip (tried (first_held cs)) c.0 c.1 (cs ++ ds) e (held_before cs ds (λ z. n (sym here ∙ z)))) (either c.1)

-- where none of the first conditions holds, the others decide
pub free_before : (cs ds : List Condition) → tried (first_held cs) ≡ Accepted → tried (first_held ds) ≡ tried (first_held (cs ++ ds))
free_before [] ds e = refl
free_before (c ∷ cs) ds e =
    let p = free c.0 c.1 cs (sym e) in
    skip (tried (first_held ds)) c.0 c.1 (cs ++ ds) p.0 (free_before cs ds (sym p.1))

-- ---- conditions of a load

module _ (n : ℕ) where
  pub size_outside : (n ≡ 0) ⊎ ((n ≡ 0 → ⊥) × (512 < n)) → bad_size n ≡ true
  unfolding bad_size
  size_outside h = grind (arith, nat_tests)

  pub size_fine : (n ≡ 0 → ⊥) → n ≤ 512 → bad_size n ≡ false
  unfolding bad_size
  size_fine e h = or_neither (eqb n 0) (ltb 512 n) (ne_eqb n 0 e) (le-ltb 512 n h)

  pub room_short : (room : ℕ) → room < n → short_room n room ≡ true
  unfolding short_room
  room_short room h = lt-ltb room n h

  pub room_enough : (room : ℕ) → n ≤ room → short_room n room ≡ false
  unfolding short_room
  room_enough room h = le-ltb room n h

pub count_wrong : (ns : List ℕ) → (length ns % 2 ≡ 1) ⊎ ((length ns % 2 ≡ 1 → ⊥) × (4096 < length ns)) → bad_count ns ≡ true
unfolding bad_count
count_wrong ns h = grind (arith, nat_tests)

-- ---- the early trial of a load

module _ (size start kinds : ℕ) (marks numbers : List ℕ) (room : ℕ) where
  abbrev whole : Trial
  whole = tried (load_trial (record { size = size; start = start; kinds = kinds; marks = by_kind marks; numbers = numbers }) room)

  -- it stands where it hands a number back
  pub early_held : (tried (early_trial size start kinds marks numbers) ≡ Accepted → ⊥) → tried (early_trial size start kinds marks numbers) ≡ whole
  unfolding early_trial load_trial
  early_held n = held_before _ ((8, repeated (pairs numbers)) ∷ room_condition size kinds room) n

  -- else the rest of the trial decides
  pub record Early : Type 0 where
    pub size_ok : bad_size size ≡ false
    pub count_ok : bad_count numbers ≡ false
    pub inside_ok : any (outside size) (pairs numbers) ≡ false
    pub rest : (k : Trial) → k ≡ tried (first_held ((8, repeated (pairs numbers)) ∷ room_condition size kinds room)) → k ≡ whole

  pub early_free : tried (early_trial size start kinds marks numbers) ≡ Accepted → Early
  unfolding early_trial load_trial
  early_free e =
      let a = tried_accepted _ e in
      record {
        size_ok = unheld 2 _ a;
        count_ok = unheld 5 _ a;
        inside_ok = unheld 6 _ a;
        rest = λ k h. h ∙ free_before _ ((8, repeated (pairs numbers)) ∷ room_condition size kinds room) e;
      }
