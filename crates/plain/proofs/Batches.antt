-- Ticket 5: a batch that is accepted makes its changes one by one, and what holds of each holds of all. Then the same for every call, be it one change or a batch.
-- Assumes nothing.
use mathlib.Core.Path.{◌≡◌, refl, sym, ap, ◌∙◌}
use mathlib.Core.Logic.{◌≢◌, ◌⊎◌, inl, inr, ⊎_elim}
use mathlib.Core.Bool.{Bool, true, false, ◌&&◌, not}
use mathlib.Core.List.{List, [], ◌∷◌, ◌++◌, append-nil, map}
use Prim.Native.Nat.{ℕ, suc, ◌+◌, ◌*◌, ◌-◌, ◌≤◌}
use native.Mathlib.Omega.{arith}
use lib.Dec.{ltb}
use lib.ListN.{length}
use borrow.Author.Tests.{ltb-false, not-false, not-true as untrue}
use Rattle.plain.specs.Lists.{all, elem}
use Rattle.plain.specs.Search.{Config, discovered_of, meets, run}
use Rattle.plain.specs.Unexplored.{Shared}
use Rattle.plain.specs.Layers.{copies_of, state_at}
use Rattle.plain.specs.Table.{Table, game_of, searched, copies_in, budget, final}
use Rattle.plain.specs.Refusals.{Trial, accepted, refused, first_held, short_room, room_condition}
use Rattle.plain.specs.Machine.{Change, add, cut, mark, unmark, named, apply, conditions, misnamed, change_trial, BatchLine, makes, other, line_conditions, BatchTrial, changes_in, apply_all, named_all, lines_trial, batch_trial, Update, single, batch, changes_of, applied, named_by, update_trial, unexplored, passed_over, keeps_all}
use Rattle.plain.specs.Claims.{Arises, changed, AllAccepted}
use Rattle.plain.proofs.Tests.{contra, either, or_true, or-false, and-true, not_in, in_left, in_right, any_in, any_some}
use Rattle.plain.proofs.Trials.{passed, held_later, last_free, unheld, never_handed, change_never_7}
use Rattle.plain.proofs.Prefix.{Agree}
use Rattle.plain.proofs.Copies.{copies_join}
use Rattle.plain.proofs.Rows.{agree}
use Rattle.plain.proofs.Tables.{Valid, valid_change, room_enough, changed_size, changed_start, changed_kinds, Within, change_within}
use Rattle.plain.proofs.SameRun.{shared_equal, shared_unmet}
use Rattle.plain.proofs.Unexplored.{Alike, home_named, unexplored_step, unexplored_shared, other_step}

-- ---- the lines of a batch

-- what a line's trial comes to decides the rest
pub line_accepted : (i : ℕ) (x : BatchLine) (xs : List BatchLine) (t : Table) → first_held (line_conditions i x t) ≡ accepted
    → lines_trial i (x ∷ xs) t ≡ lines_trial (suc i) xs (apply_all (changes_in (x ∷ [])) t)
unfolding lines_trial
line_accepted i x xs t e = rw (e, lines_trial)

pub line_refused : (i : ℕ) (x : BatchLine) (xs : List BatchLine) (t : Table) (n : ℕ) → first_held (line_conditions i x t) ≡ refused n
    → lines_trial i (x ∷ xs) t ≡ record { trial = refused n; position = i }
unfolding lines_trial
line_refused i x xs t n e = rw (e, lines_trial)

pub accepted_not : (n : ℕ) → refused n ≡ accepted → ⊥
accepted_not n e = let z : ◌≡◌ {A = ℕ} 0 1 = cc in omega arith

-- the trial of one line, either way
line_cases : (i : ℕ) (x : BatchLine) (xs : List BatchLine) (t : Table) → (lines_trial i (x ∷ xs) t).trial ≡ accepted
    → (first_held (line_conditions i x t) ≡ accepted) × ((lines_trial (suc i) xs (apply_all (changes_in (x ∷ [])) t)).trial ≡ accepted)
line_cases i x xs t e = by_trial (first_held (line_conditions i x t)) refl
  where
    by_trial : (w : Trial) → first_held (line_conditions i x t) ≡ w → (first_held (line_conditions i x t) ≡ accepted) × ((lines_trial (suc i) xs (apply_all (changes_in (x ∷ [])) t)).trial ≡ accepted)
    by_trial accepted k = (k, ap (λ (b : BatchTrial). b.trial) (sym (line_accepted i x xs t k)) ∙ e)
    by_trial (refused n) k = absurd (accepted_not n (ap (λ (b : BatchTrial). b.trial) (sym (line_refused i x xs t n k)) ∙ e))

-- a line that makes no change is not accepted
not_other : (i : ℕ) (t : Table) → first_held (line_conditions i other t) ≡ accepted → ⊥
unfolding line_conditions
not_other i t e = contra refl (unheld 1 ((1, true) ∷ []) e)

-- all that is tried ahead of the lines
abbrev Roomy : ℕ → Table → Type 0
Roomy room t = first_held (room_condition t.size t.kinds room) ≡ accepted

-- the lines of an accepted batch are changes, each accepted as it is made
lines_made : (room i : ℕ) (xs : List BatchLine) (t : Table) → Roomy room t → (lines_trial i xs t).trial ≡ accepted → (map makes (changes_in xs) ≡ xs) × AllAccepted room (changes_in xs) t
unfolding changes_in apply_all line_conditions change_trial
lines_made room i [] t f e = (refl, tt)
lines_made room i (other ∷ xs) t f e = absurd (not_other i t (line_cases i other xs t e).0)
lines_made room i (makes c ∷ xs) t f e =
    let k = line_cases i (makes c) xs t e in
    let w = lines_made room (suc i) xs (apply c t) (rw (changed_size c t, changed_kinds c t) f) k.1 in
    let one = passed 1 (misnamed c) ((15, ltb 64 i) ∷ conditions c t) k.0 in
    let own : first_held (conditions c t ++ room_condition t.size t.kinds room) ≡ accepted = last_free (conditions c t) (room_condition t.size t.kinds room) f ∙ (passed 15 (ltb 64 i) (conditions c t) one.1).1 in
    (ap (λ (l : List BatchLine). makes c ∷ l) w.0, (held_later (1, misnamed c) (conditions c t ++ room_condition t.size t.kinds room) one.0 ∙ own, w.1))

pub batch_tried : (xs : List BatchLine) (t : Table) (room : ℕ) → Roomy room t → batch_trial xs t room ≡ lines_trial 1 xs t
unfolding batch_trial
batch_tried xs t room e = rw (e, batch_trial)

pub batch_short : (xs : List BatchLine) (t : Table) (room n : ℕ) → first_held (room_condition t.size t.kinds room) ≡ refused n → batch_trial xs t room ≡ record { trial = refused n; position = 0 }
unfolding batch_trial
batch_short xs t room n e = rw (e, batch_trial)

batch_roomy : (xs : List BatchLine) (t : Table) (room : ℕ) → (batch_trial xs t room).trial ≡ accepted → Roomy room t × ((lines_trial 1 xs t).trial ≡ accepted)
batch_roomy xs t room e = by_trial (first_held (room_condition t.size t.kinds room)) refl
  where
    by_trial : (w : Trial) → first_held (room_condition t.size t.kinds room) ≡ w → Roomy room t × ((lines_trial 1 xs t).trial ≡ accepted)
    by_trial accepted k = (k, ap (λ (b : BatchTrial). b.trial) (sym (batch_tried xs t room k)) ∙ e)
    by_trial (refused n) k = absurd (accepted_not n (ap (λ (b : BatchTrial). b.trial) (sym (batch_short xs t room n k)) ∙ e))

pub batch_made : (xs : List BatchLine) (t : Table) (room : ℕ) → (batch_trial xs t room).trial ≡ accepted → (map makes (changes_in xs) ≡ xs) × AllAccepted room (changes_in xs) t
batch_made xs t room e = let w = batch_roomy xs t room e in lines_made room 1 xs t w.0 w.1

-- no line behind the 64th is accepted
pub line_few : (i : ℕ) (x : BatchLine) (t : Table) → first_held (line_conditions i x t) ≡ accepted → i ≤ 64
unfolding line_conditions
line_few i (makes c) t e = ltb-false 64 i (passed 15 (ltb 64 i) (conditions c t) (passed 1 (misnamed c) ((15, ltb 64 i) ∷ conditions c t) e).1).0
line_few i other t e = absurd (not_other i t e)

-- so an accepted batch has at most 64 changes
lines_few : (i : ℕ) (xs : List BatchLine) (t : Table) → i ≤ 65 → (lines_trial i xs t).trial ≡ accepted → i + length (changes_in xs) ≤ 65
unfolding changes_in apply_all
lines_few i [] t h e = omega arith
lines_few i (other ∷ xs) t h e = absurd (not_other i t (line_cases i other xs t e).0)
lines_few i (makes c ∷ xs) t h e =
    let k = line_cases i (makes c) xs t e in
    omega (arith, line_few i (makes c) t k.0, lines_few (suc i) xs (apply c t) (omega (arith, line_few i (makes c) t k.0)) k.1)

pub batch_few : (xs : List BatchLine) (t : Table) (room : ℕ) → (batch_trial xs t room).trial ≡ accepted → length (changes_in xs) ≤ 64
batch_few xs t room e = omega (arith, lines_few 1 xs t (omega arith) (batch_roomy xs t room e).1)

-- ---- states that are met

meets_left : (xs ys : List ℕ) (c : Config) → meets xs c ≡ true → meets (xs ++ ys) c ≡ true
meets_left xs ys c m =
    let s = any_some (λ s. elem s (discovered_of c)) xs m in
    any_in (λ s. elem s (discovered_of c)) s.0 (xs ++ ys) (in_left s.0 xs ys s.1) s.2

meets_right : (xs ys : List ℕ) (c : Config) → meets ys c ≡ true → meets (xs ++ ys) c ≡ true
meets_right xs ys c m =
    let s = any_some (λ s. elem s (discovered_of c)) ys m in
    any_in (λ s. elem s (discovered_of c)) s.0 (xs ++ ys) (in_right s.0 xs ys s.1) s.2

-- ---- what holds of each change holds of all

pub valid_all : (room : ℕ) (cs : List Change) (t : Table) → Valid t → AllAccepted room cs t → Valid (apply_all cs t)
unfolding apply_all
valid_all room [] t v a = v
valid_all room (c ∷ cs) t v a = valid_all room cs (apply c t) (valid_change c t room v a.0) a.1

arises_all : (room : ℕ) (cs : List Change) (t : Table) → Arises t → AllAccepted room cs t → Arises (apply_all cs t)
unfolding apply_all
arises_all room [] t v a = v
arises_all room (c ∷ cs) t v a = arises_all room cs (apply c t) (changed t c room v a.0) a.1

size_all : (cs : List Change) (t : Table) → (apply_all cs t).size ≡ t.size
unfolding apply_all
size_all [] t = refl
size_all (c ∷ cs) t = size_all cs (apply c t) ∙ changed_size c t

start_all : (cs : List Change) (t : Table) → (apply_all cs t).start ≡ t.start
unfolding apply_all
start_all [] t = refl
start_all (c ∷ cs) t = start_all cs (apply c t) ∙ changed_start c t

kinds_all : (cs : List Change) (t : Table) → (apply_all cs t).kinds ≡ t.kinds
unfolding apply_all
kinds_all [] t = refl
kinds_all (c ∷ cs) t = kinds_all cs (apply c t) ∙ changed_kinds c t

-- the copies of states are the same in a table of as many states and kinds
same_copies : (t u : Table) → u.size ≡ t.size → u.kinds ≡ t.kinds → (xs : List ℕ) → copies_in u xs ≡ copies_in t xs
same_copies t u p q xs = λ i. copies_of (p i) (q i - 1) xs

agree_all : (cs : List Change) (t : Table) → Agree (copies_in t (named_all cs)) (searched t) (searched (apply_all cs t))
unfolding apply_all named_all
agree_all [] t = record { start = refl; edges = λ x o. refl; acceptance = λ x o. refl }
agree_all (c ∷ cs) t =
    let a = agree c t in
    let b = agree_all cs (apply c t) in
    record {
      start = a.start ∙ b.start;
      edges = λ x o. a.edges x (first x o) ∙ b.edges x (second x o);
      acceptance = λ x o. a.acceptance x (first x o) ∙ b.acceptance x (second x o);
    }
  where
    joined : copies_in t (named c ++ named_all cs) ≡ copies_in t (named c) ++ copies_in t (named_all cs)
    joined = copies_join t.size (t.kinds - 1) (named c) (named_all cs)

    first : (x : ℕ) → elem x (copies_in t (named c ++ named_all cs)) ≡ false → elem x (copies_in t (named c)) ≡ false
    first x o = not_in x (copies_in t (named c)) (λ i. contra (in_left x (copies_in t (named c)) (copies_in t (named_all cs)) i) (ap (elem x) (sym joined) ∙ o))

    second : (x : ℕ) → elem x (copies_in t (named c ++ named_all cs)) ≡ false → elem x (copies_in (apply c t) (named_all cs)) ≡ false
    second x o = ap (elem x) (same_copies t (apply c t) (changed_size c t) (changed_kinds c t) (named_all cs))
        ∙ not_in x (copies_in t (named_all cs)) (λ i. contra (in_right x (copies_in t (named c)) (copies_in t (named_all cs)) i) (ap (elem x) (sym joined) ∙ o))

-- a change that is passed over: ticket 4, or its state was never met
passed_cases : (c : Change) (t : Table) → passed_over c t ≡ true → (unexplored c t ≡ true) ⊎ (not (meets (copies_in t (named c)) (final t)) ≡ true)
unfolding passed_over
passed_cases c t e = or_true (unexplored c t) (not (meets (copies_in t (named c)) (final t))) e

-- one that is not: neither
reached_one : (c : Change) (t : Table) → passed_over c t ≡ false → (unexplored c t ≡ false) × (meets (copies_in t (named c)) (final t) ≡ true)
unfolding passed_over
reached_one c t e =
    let z = or-false (unexplored c t) (not (meets (copies_in t (named c)) (final t))) e in
    (z.0, not-false (meets (copies_in t (named c)) (final t)) z.1)

-- the moves of changes lie inside the game
abbrev pub AllWithin : List Change → ℕ → Type 0
AllWithin [] n = Unit {0}
AllWithin (c ∷ cs) n = Within c n × AllWithin cs n

pub all_within : (room : ℕ) (cs : List Change) (t : Table) → AllAccepted room cs t → AllWithin cs t.size
all_within room [] t a = tt
all_within room (c ∷ cs) t a = (change_within c t room a.0, rw (← changed_size c t) (all_within room cs (apply c t) a.1))

-- A change that is passed over leaves the rows as far as the run on t has taken them, whatever table it is made on.
module _ (t : Table) (v : Valid t) where
  abbrev pub Taken : Table → Type 0
  Taken u = (x : ℕ) → Shared (searched t) (searched u) (run (searched t) (budget t)) x

  -- the table itself
  pub taken_here : Taken t
  taken_here x = shared_equal (searched t) (searched t) (run (searched t) (budget t)) x refl refl

  pub passed_step : (b : Change) (u : Table) → Alike t v u → Within b t.size → passed_over b t ≡ true → Taken u → Taken (apply b u)
  unfolding final
  passed_step b u a w e s x = ⊎_elim (λ k. unexplored_step t v b u a w k s x) (λ k. unmet (untrue (meets (copies_in t (named b)) (final t)) k)) (passed_cases b t e)
    where
      unmet : meets (copies_in t (named b)) (run (searched t) (budget t)) ≡ false → Shared (searched t) (searched (apply b u)) (run (searched t) (budget t)) x
      unmet f = ⊎_elim
          (λ i. shared_unmet (searched t) (searched (apply b u)) (run (searched t) (budget t)) x
          (not_in x (discovered_of (run (searched t) (budget t))) (λ j. contra (any_in (λ s. elem s (discovered_of (run (searched t) (budget t)))) x (copies_in t (named b)) (home_named t v u a (named b) x i) j) f)))
          (λ o. other_step t v b u x o (s x)) (either (elem (state_at (game_of u) x) (named b)))

  pub alike_step : (b : Change) (u : Table) → Alike t v u → Alike t v (apply b u)
  alike_step b u (p, q) = (changed_size b u ∙ p, changed_kinds b u ∙ q)

  passed_all : (cs : List Change) (u : Table) → Alike t v u → AllWithin cs t.size → all (λ c. passed_over c t) cs ≡ true → Taken u → Taken (apply_all cs u)
  unfolding all apply_all
  passed_all [] u a w e s = s
  passed_all (c ∷ cs) u a w e s =
      let k = and-true (passed_over c t) (all (λ c. passed_over c t) cs) e in
      passed_all cs (apply c u) (alike_step c u a) w.1 k.1 (passed_step c u a w.0 k.0 s)

and-false : (a : Bool) → (a && true) ≡ false → a ≡ false
and-false true e = e
and-false false e = refl

-- where one of some is not, the run has met a state that one names
reached_met : (t : Table) (cs : List Change) → all (λ c. passed_over c t) cs ≡ false → meets (copies_in t (named_all cs)) (final t) ≡ true
unfolding all named_all
reached_met t [] e = absurd (contra refl e)
reached_met t (c ∷ cs) e =
    ap (λ (l : List ℕ). meets l (final t)) (copies_join t.size (t.kinds - 1) (named c) (named_all cs)) ∙ ⊎_elim
    (λ k. meets_right (copies_in t (named c)) (copies_in t (named_all cs)) (final t) (reached_met t cs (rw k at e)))
    (λ k. meets_left (copies_in t (named c)) (copies_in t (named_all cs)) (final t) (reached_one c t k).1) (either (passed_over c t))

-- ---- of every call

-- an accepted call, as its changes
pub record Made (u : Update) (t : Table) (room : ℕ) : Type 0 where
  pub each_accepted : AllAccepted room (changes_of u) t
  pub few : length (changes_of u) ≤ 64
  pub named_are : named_by u ≡ named_all (changes_of u)
  -- all of them are passed over, or one is not
  pub passed : all (λ c. passed_over c t) (changes_of u) ≡ true → (keeps_all u t ≡ true) ⊎ (meets (copies_in t (named_by u)) (final t) ≡ false)
  pub reached : all (λ c. passed_over c t) (changes_of u) ≡ false → (keeps_all u t ≡ false) × (meets (copies_in t (named_by u)) (final t) ≡ true)

pub update_made : (u : Update) (t : Table) (room : ℕ) → update_trial u t room ≡ accepted → Made u t room
unfolding update_trial changes_of named_by named_all keeps_all all
update_made (single c) t room e = record {
  each_accepted = (e, tt);
  few = omega arith;
  named_are = sym (append-nil (named c));
  passed = λ k. ⊎_elim inl (λ m. inr (untrue (meets (copies_in t (named c)) (final t)) m)) (passed_cases c t (and-true (passed_over c t) true k).0);
  reached = λ k. let z = reached_one c t (and-false (passed_over c t) k) in (z.0, z.1);
}
update_made (batch xs) t room e = record {
  each_accepted = (batch_made xs t room e).1;
  few = batch_few xs t room e;
  named_are = refl;
  passed = inl;
  reached = λ k. (k, reached_met t (changes_in xs) k);
}

pub update_valid : (u : Update) (t : Table) (room : ℕ) → Valid t → update_trial u t room ≡ accepted → Valid (applied u t)
unfolding update_trial applied
update_valid (single c) t room v e = valid_change c t room v e
update_valid (batch xs) t room v e = valid_all room (changes_in xs) t v (batch_made xs t room e).1

pub update_arises : (u : Update) (t : Table) (room : ℕ) → Arises t → update_trial u t room ≡ accepted → Arises (applied u t)
unfolding update_trial applied
update_arises (single c) t room a e = changed t c room a e
update_arises (batch xs) t room a e = arises_all room (changes_in xs) t a (batch_made xs t room e).1

pub update_size : (u : Update) (t : Table) → (applied u t).size ≡ t.size
unfolding applied
update_size (single c) t = changed_size c t
update_size (batch xs) t = size_all (changes_in xs) t

pub update_start : (u : Update) (t : Table) → (applied u t).start ≡ t.start
unfolding applied
update_start (single c) t = changed_start c t
update_start (batch xs) t = start_all (changes_in xs) t

pub update_kinds : (u : Update) (t : Table) → (applied u t).kinds ≡ t.kinds
unfolding applied
update_kinds (single c) t = changed_kinds c t
update_kinds (batch xs) t = kinds_all (changes_in xs) t

pub update_copies : (u : Update) (t : Table) (xs : List ℕ) → copies_in (applied u t) xs ≡ copies_in t xs
update_copies u t xs = same_copies t (applied u t) (update_size u t) (update_kinds u t) xs

pub update_agree : (u : Update) (t : Table) → Agree (copies_in t (named_by u)) (searched t) (searched (applied u t))
unfolding applied named_by
update_agree (single c) t = agree c t
update_agree (batch xs) t = agree_all (changes_in xs) t

-- an accepted call's list has room for the walk
pub update_room : (u : Update) (t : Table) (room : ℕ) → update_trial u t room ≡ accepted → t.size * t.kinds ≤ room
unfolding update_trial short_room
update_room (single c) t room e = room_enough c t room e
update_room (batch xs) t room e = ltb-false room (t.size * t.kinds) (unheld 11 _ (batch_roomy xs t room e).0)

-- where a call keeps every look by ticket 4 or 5, the rows are the same as far as they were taken
pub keeps_shared : (u : Update) (t : Table) → Valid t → AllWithin (changes_of u) t.size → keeps_all u t ≡ true → (x : ℕ) → Shared (searched t) (searched (applied u t)) (run (searched t) (budget t)) x
unfolding keeps_all applied changes_of
keeps_shared (single c) t v w e = unexplored_shared t v c w.0 e
keeps_shared (batch xs) t v w e = passed_all t v (changes_in xs) t (refl, refl) w e (taken_here t v)

-- ---- "refusal 7 no longer occurs"

line_never_7 : (i : ℕ) (x : BatchLine) (t : Table) → first_held (line_conditions i x t) ≢ refused 7
unfolding line_conditions conditions elem
line_never_7 i (makes (add e)) t = never_handed 7 _ refl
line_never_7 i (makes (cut e)) t = never_handed 7 _ refl
line_never_7 i (makes (mark s kind)) t = never_handed 7 _ refl
line_never_7 i (makes (unmark s kind)) t = never_handed 7 _ refl
line_never_7 i other t = never_handed 7 _ refl

lines_never_7 : (i : ℕ) (xs : List BatchLine) (t : Table) → (lines_trial i xs t).trial ≢ refused 7
unfolding lines_trial
lines_never_7 i [] t e = accepted_not 7 (sym e)
lines_never_7 i (x ∷ xs) t e = by_trial (first_held (line_conditions i x t)) refl (lines_never_7 (suc i) xs (apply_all (changes_in (x ∷ [])) t))
  where
    by_trial : (w : Trial) → first_held (line_conditions i x t) ≡ w → (lines_trial (suc i) xs (apply_all (changes_in (x ∷ [])) t)).trial ≢ refused 7 → ⊥
    by_trial accepted k below = below (ap (λ (b : BatchTrial). b.trial) (sym (line_accepted i x xs t k)) ∙ e)
    by_trial (refused n) k below = line_never_7 i x t (k ∙ ap (λ (b : BatchTrial). b.trial) (sym (line_refused i x xs t n k)) ∙ e)

batch_never_7 : (xs : List BatchLine) (t : Table) (room : ℕ) → (batch_trial xs t room).trial ≢ refused 7
unfolding elem
batch_never_7 xs t room e = by_trial (first_held (room_condition t.size t.kinds room)) refl
  where
    by_trial : (w : Trial) → first_held (room_condition t.size t.kinds room) ≡ w → ⊥
    by_trial accepted k = lines_never_7 1 xs t (ap (λ (b : BatchTrial). b.trial) (sym (batch_tried xs t room k)) ∙ e)
    by_trial (refused n) k = never_handed 7 (room_condition t.size t.kinds room) refl (k ∙ ap (λ (b : BatchTrial). b.trial) (sym (batch_short xs t room n k)) ∙ e)

pub update_never_7 : (u : Update) (t : Table) (room : ℕ) → update_trial u t room ≢ refused 7
unfolding update_trial
update_never_7 (single c) t room = change_never_7 c t room
update_never_7 (batch xs) t room = batch_never_7 xs t room
