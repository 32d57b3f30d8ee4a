-- The lines of a call: each as three numbers, tried one after the other on the arrays; of arrays that hold a table the trial is the plain table's. Assumes nothing.
use mathlib.Core.Path.{◌≡◌, refl, sym, ap, subst, subst⁻¹, ◌∙◌}
use mathlib.Core.Logic.{⊎_elim}
use mathlib.Core.Bool.{Bool, true, false, ◌&&◌, not, true≢false}
use mathlib.Core.List.{List, [], ◌∷◌, ◌++◌, map}
use Prim.Native.Nat.{ℕ, suc, ◌+◌, ◌-◌, ◌*◌, ◌≤◌, ◌<◌}
use native.Mathlib.Numerals.{add-one}
use native.Mathlib.Omega.{arith}
use lib.Dec.{eqb, ltb, leb}
use lib.ListN.{length, drop, length-drop, drop_of_length-le}
use lib.Seq.{drop-drop}
use borrow.Author.Tests.{eqb-true, eqb-false, ne_eqb, leb-true, lt-ltb, le-ltb, ltb-false, not-true, not-false}
use Rattle.std.specs.Prelude.{Option, None, Some, is_some}
use Rattle.plain.specs.Table.{Table}
use Rattle.plain.specs.Refusals.{Trial as PlainTrial, accepted, refused, first_held, bad_size, room_condition}
use Rattle.plain.specs.Machine.{Change, add, cut, mark, unmark, named, named_all, apply, apply_all, changes_in, conditions, misnamed, change_trial, line_conditions, lines_trial, batch_trial, BatchTrial, BatchLine as PlainLine, makes, other}
use Rattle.plain.proofs.Tests.{contra, either, or-false, and-true}
use Rattle.plain.proofs.Trials.{held_later, passed, last_free}
use Rattle.plain.proofs.Tables.{Valid, valid_change, changed_size, changed_kinds}
use Rattle.plain.proofs.Batches.{batch_tried, batch_short, line_accepted, line_refused}
use Rattle.table.specs.declared.Op.{Op}
use Rattle.table.specs.declared.Op.TheVariants.{Add, Cut, Mark, Unmark}
use Rattle.table.specs.declared.Switch.{Switch}
use Rattle.table.specs.declared.Trial.{Trial}
use Rattle.table.specs.declared.Trial.TheVariants.{Accepted, Refused}
use Rattle.batch.specs.declared.Attempt.{Attempt}
use Rattle.batch.specs.declared.BatchLine.{BatchLine}
use Rattle.table.specs.Trials.{Sized, op_of, tried, change_of, conditions_in, trial_in}
use Rattle.table.specs.declared.Arrays.{Arrays}
use Rattle.table.specs.Filing.{filed_in, Attempted, Stored}
use Rattle.batch.specs.Batches.{line_for, line_to, line_in, is_change, misnamed_in, is_valid, subject_in, switch_in, lines_in, states_in, head_line, numbers_in, end_in, op_for, line_trial_in, filed_line, TriedIn, tried_in, ahead_trial, call_tried_in, is_refused, position_at, AttemptedLine, AttemptedLines, AttemptedCall}
use Rattle.table.proofs.Trying.{tried_accepted, tried_refused, stop, skip}
use Rattle.table.proofs.Filing.{not_accepted}
use Rattle.table.proofs.Changing.{filed_sized, conditions_same, restored}

-- ---- one line

-- one that makes a change: the change, that it is the one switched, the state that it names, and whether its kind is none
pub record Making (l : BatchLine) : Type 0 where
  pub change : Change
  pub is : line_in l ≡ makes change
  pub switches : op_of (switch_in l) ≡ op_for change
  pub names : named change ≡ l.first ∷ []
  pub kind_none : misnamed_in l ≡ misnamed change

-- by the four numbers
module _ (first second : ℕ) where
  adds : Making (line_for 1 first second)
  unfolding line_in subject_in named misnamed_in misnamed
  adds = record { change = add (first, second); is = refl; switches = refl; names = refl; kind_none = refl }

  cuts : Making (line_for 2 first second)
  unfolding line_in subject_in named misnamed_in misnamed
  cuts = record { change = cut (first, second); is = refl; switches = refl; names = refl; kind_none = refl }

  marks : Making (line_for 3 first second)
  unfolding line_in subject_in named misnamed_in misnamed
  marks = record { change = mark first second; is = refl; switches = refl; names = refl; kind_none = refl }

  unmarks : Making (line_for 4 first second)
  unfolding line_in subject_in named misnamed_in misnamed
  unmarks = record { change = unmark first second; is = refl; switches = refl; names = refl; kind_none = refl }

pub change_line : (l : BatchLine) → is_change l ≡ true → Making l
unfolding is_change
change_line l e =
    let w = and-true (not (eqb l.what 0)) (leb l.what 4) e in
    by_number (eqb-false l.what 0 (not-true (eqb l.what 0) w.0)) (leb-true l.what 4 w.1)
  where
    numbered : (n : ℕ) → Making (line_for n l.first l.second) → l.what ≡ n → Making l
    numbered n m z = subst⁻¹ (λ (k : ℕ). Making (line_for k l.first l.second)) z m

    by_number : (l.what ≡ 0 → ⊥) → l.what ≤ 4 → Making l
    by_number n h =
        ⊎_elim (λ z. numbered 1 (adds l.first l.second) (eqb-true l.what 1 z)) (λ a.
        ⊎_elim (λ z. numbered 2 (cuts l.first l.second) (eqb-true l.what 2 z)) (λ b.
        ⊎_elim (λ z. numbered 3 (marks l.first l.second) (eqb-true l.what 3 z)) (λ c.
        numbered 4 (unmarks l.first l.second) (left n h (eqb-false l.what 1 a) (eqb-false l.what 2 b) (eqb-false l.what 3 c)))
        (either (eqb l.what 3))) (either (eqb l.what 2))) (either (eqb l.what 1))
      where
        left : (l.what ≡ 0 → ⊥) → l.what ≤ 4 → (l.what ≡ 1 → ⊥) → (l.what ≡ 2 → ⊥) → (l.what ≡ 3 → ⊥) → l.what ≡ 4
        left n h a b c = omega arith

-- one that makes none has none of these numbers
not_numbered : (l : BatchLine) → is_change l ≡ false → (k : ℕ) → is_change (line_for k l.first l.second) ≡ true → eqb l.what k ≡ false
not_numbered l e k h = ne_eqb l.what k (λ z. contra (ap (λ (n : ℕ). is_change (line_for n l.first l.second)) z ∙ h) e)

pub other_line : (l : BatchLine) → is_change l ≡ false → line_in l ≡ other
unfolding is_change line_in
other_line l e = rw (not_numbered l e 1 refl, not_numbered l e 2 refl, not_numbered l e 3 refl, not_numbered l e 4 refl)

-- a change, its line and the code's enum
pub line_makes : (op : Op) → line_in (line_to op) ≡ makes (change_of op)
unfolding line_in
line_makes (Add from to) = refl
line_makes (Cut from to) = refl
line_makes (Mark state kind) = refl
line_makes (Unmark state kind) = refl

pub change_back : (c : Change) → change_of (op_for c) ≡ c
change_back (add e) = refl
change_back (cut e) = refl
change_back (mark s kind) = refl
change_back (unmark s kind) = refl

-- ---- the lines of a list of numbers

first_line : (ns : List ℕ) → 0 < length ns → lines_in ns ≡ line_in (head_line ns) ∷ lines_in (drop 3 ns)
unfolding lines_in line_in
first_line [] h = absurd (omega arith)
first_line (a ∷ []) h = refl
first_line (a ∷ b ∷ []) h = refl
first_line (a ∷ b ∷ c ∷ ns) h = refl

pub lines_next : (ns : List ℕ) (at : ℕ) → at < length ns → lines_in (drop at ns) ≡ line_in (head_line (drop at ns)) ∷ lines_in (drop (at + 3) ns)
lines_next ns at h =
    first_line (drop at ns) (omega (arith, length-drop at ns))
    ∙ ap (λ (l : List ℕ). line_in (head_line (drop at ns)) ∷ lines_in l) (drop-drop 3 at ns)

pub lines_end : (ns : List ℕ) (at : ℕ) → length ns ≤ at → lines_in (drop at ns) ≡ []
unfolding lines_in
lines_end ns at h = ap lines_in (drop_of_length-le ns h)

-- the line at a place, where too few numbers are left
few_none : (ns : List ℕ) → length ns < 3 → head_line ns ≡ line_for 0 0 0
few_none [] h = refl
few_none (a ∷ []) h = refl
few_none (a ∷ b ∷ []) h = refl
few_none (a ∷ b ∷ c ∷ ns) h = absurd (omega arith)

pub head_few : (ns : List ℕ) (at : ℕ) → length ns - at < 3 → head_line (drop at ns) ≡ line_for 0 0 0
head_few ns at h = few_none (drop at ns) (omega (arith, length-drop at ns))

pub numbers_length : (alone : Option BatchLine) (ns : List ℕ) (b : Bool) → b ≡ is_some alone → length (numbers_in alone ns) ≡ end_in b ns
numbers_length (Some only) ns b e = rw e refl
numbers_length None ns b e = rw e refl

-- a change alone is one line
pub end_alone : (alone : Option BatchLine) (ns : List ℕ) (b : Bool) → b ≡ is_some alone → is_some alone ≡ true → end_in b ns ≡ 3
end_alone (Some only) ns b e h = rw e refl
end_alone None ns b e h = absurd (true≢false (sym h))

-- a batch's are those of the lent list
pub head_lent : (alone : Option BatchLine) (ns : List ℕ) (at : ℕ) → alone ≡ None → head_line (drop at (numbers_in alone ns)) ≡ head_line (drop at ns)
head_lent alone ns at e = ap (λ (x : Option BatchLine). head_line (drop at (numbers_in x ns))) e

-- where all lines make changes, the states that they name
line_names : (l : BatchLine) (c : Change) → line_in l ≡ makes c → named c ≡ l.first ∷ []
line_names l c e = ⊎_elim made (λ f. absurd (makes_not (sym e ∙ other_line l f))) (either (is_change l))
  where
    makes_not : makes c ≡ other → ⊥
    makes_not z = let y : ◌≡◌ {A = ℕ} 0 1 = cc in omega arith

    made : is_change l ≡ true → named c ≡ l.first ∷ []
    made f =
        let m = change_line l f in
        let z : makes c ≡ makes m.change = sym e ∙ m.is in
        let y : c ≡ m.change = cc in
        ap named y ∙ m.names

other_not : (xs : List PlainLine) (cs : List Change) → other ∷ xs ≡ map makes cs → ⊥
other_not xs [] e = let z : ◌≡◌ {A = ℕ} 0 1 = cc in omega arith
other_not xs (c ∷ cs) e = let z : ◌≡◌ {A = ℕ} 0 1 = cc in omega arith

pub lines_other : (ns : List ℕ) (cs : List Change) → lines_in ns ≡ map makes cs → states_in ns ≡ named_all cs
unfolding lines_in states_in named_all
lines_other [] [] e = refl
lines_other [] (c ∷ cs) e = let z : ◌≡◌ {A = ℕ} 0 1 = cc in absurd (omega arith)
lines_other (a ∷ []) cs e = absurd (other_not [] cs e)
lines_other (a ∷ b ∷ []) cs e = absurd (other_not [] cs e)
lines_other (a ∷ b ∷ d ∷ ns) [] e = let z : ◌≡◌ {A = ℕ} 0 1 = cc in absurd (omega arith)
lines_other (a ∷ b ∷ d ∷ ns) (c ∷ cs) e =
    let head : line_in (line_for a b d) ≡ makes c = cc in
    let tail : lines_in ns ≡ map makes cs = cc in
    λ i. sym (line_names (line_for a b d) c head) i ++ lines_other ns cs tail i

-- ---- trying lines

-- the trial of a change, as its conditions
opened : (op : Op) (size kinds room : ℕ) (a : Arrays) (r : Trial) → r ≡ tried (trial_in op size kinds a.rows a.words room)
    → r ≡ tried (first_held (conditions_in op size kinds a.rows a.words ++ room_condition size kinds room))
unfolding trial_in
opened op size kinds room a r e = e

module _ (i : ℕ) (x : PlainLine) (xs : List PlainLine) (size kinds : ℕ) (a : Arrays) (room : ℕ) where
  -- what a line's trial comes to decides the rest
  pub tried_on : line_trial_in i x size kinds a room ≡ accepted → tried_in i (x ∷ xs) size kinds a room ≡ tried_in (suc i) xs size kinds (filed_line x size a) room
  unfolding tried_in
  tried_on e = rw (e, tried_in)

  pub tried_stop : (n : ℕ) → line_trial_in i x size kinds a room ≡ refused n → tried_in i (x ∷ xs) size kinds a room ≡ record { trial = refused n; position = i; arrays = a }
  unfolding tried_in
  tried_stop n e = rw (e, tried_in)

-- the trial of a line, as the code makes it
module _ (l : BatchLine) (i size kinds room : ℕ) (a : Arrays) where
  -- it makes no change
  attempt_other : is_change l ≡ false → AttemptedLine (line_in l) i size kinds room a (Refused 1) a
  attempt_other e = subst⁻¹ (λ (x : PlainLine). AttemptedLine x i size kinds room a (Refused 1) a) (other_line l e)
      (record { trial_is = refl; filed = λ z. absurd (not_accepted z); unfiled = λ n z. refl })

  module _ (e : is_change l ≡ true) where
    made : (r : Trial) (a' : Arrays) → AttemptedLine (makes (change_line l e).change) i size kinds room a r a' → AttemptedLine (line_in l) i size kinds room a r a'
    made r a' w = subst⁻¹ (λ (x : PlainLine). AttemptedLine x i size kinds room a r a') (change_line l e).is w

    -- its kind is none
    attempt_misnamed : misnamed_in l ≡ true → AttemptedLine (line_in l) i size kinds room a (Refused 1) a
    attempt_misnamed h = made (Refused 1) a (record {
      trial_is = stop 1 _ _ (sym (change_line l e).kind_none ∙ h);
      filed = λ z. absurd (not_accepted z);
      unfiled = λ n z. refl;
    })

    -- a 65th change
    pub attempt_late : misnamed_in l ≡ false → 64 < i → AttemptedLine (line_in l) i size kinds room a (Refused 15) a
    attempt_late k h = made (Refused 15) a (record {
      trial_is = skip (Refused 15) 1 _ _ (sym (change_line l e).kind_none ∙ k) (stop 15 _ _ (lt-ltb 64 i h));
      filed = λ z. absurd (not_accepted z);
      unfiled = λ n z. refl;
    })

    -- the change itself decides
    pub attempt_made : (s : Switch) → s ≡ switch_in l → misnamed_in l ≡ false → i ≤ 64 → (r : Trial) (a' : Arrays) → Attempted (op_of s) size kinds room a r a' → AttemptedLine (line_in l) i size kinds room a r a'
    attempt_made s z k h r a' w =
        let same : op_of s ≡ op_for (change_line l e).change = ap op_of z ∙ (change_line l e).switches in
        made r a' (as_line (change_line l e).change (sym (change_line l e).kind_none ∙ k) (subst (λ (op : Op). Attempted op size kinds room a r a') same w))
      where
        as_line : (c : Change) → misnamed c ≡ false → Attempted (op_for c) size kinds room a r a' → AttemptedLine (makes c) i size kinds room a r a'
        as_line c k w = record {
          trial_is = skip r 1 _ _ k (skip r 15 _ _ (le-ltb 64 i h) (opened (op_for c) size kinds room a r w.trial_is));
          filed = w.filed;
          unfiled = w.unfiled;
        }

  -- it makes none, or its kind is none
  pub attempt_invalid : is_valid l ≡ false → AttemptedLine (line_in l) i size kinds room a (Refused 1) a
  unfolding is_valid
  attempt_invalid f = ⊎_elim
      (λ e. attempt_misnamed e (not-false (misnamed_in l) (ap (λ (b : Bool). b && not (misnamed_in l)) (sym e) ∙ f)))
      attempt_other (either (is_change l))

-- ---- the walk along the lines of a call

refused_is : (r : Trial) → is_refused r ≡ true → (n : ℕ) × (r ≡ Refused n)
refused_is Accepted e = absurd (true≢false (sym e))
refused_is (Refused n) e = (n, refl)

accepted_is : (r : Trial) → is_refused r ≡ false → r ≡ Accepted
accepted_is Accepted e = refl
accepted_is (Refused n) e = absurd (true≢false e)

refused_not : (n : ℕ) → refused n ≡ accepted → ⊥
refused_not n e = let z : ◌≡◌ {A = ℕ} 0 1 = cc in omega arith

line_sized : (x : PlainLine) (size : ℕ) (a a' : Arrays) → a' ≡ filed_line x size a → Sized a → Sized a'
line_sized (makes c) size a a' e l = filed_sized (op_for c) size a a' e l
line_sized other size a a' e l = subst⁻¹ Sized e l

-- an accepted line is one of the first 64
early : (i : ℕ) (x : PlainLine) (size kinds : ℕ) (a : Arrays) (room : ℕ) → line_trial_in i x size kinds a room ≡ accepted → i ≤ 64
early i (makes c) size kinds a room e = ltb-false 64 i (passed 15 _ _ (passed 1 _ _ e).1).0
early i other size kinds a room e = absurd (refused_not 1 e)

-- what is left of the lines, tried on the arrays as they are, comes to what all of them come to
pub record Walked (ns : List ℕ) (size kinds room : ℕ) (a₀ : Arrays) (at position : ℕ) (a : Arrays) : Type 0 where
  pub rest : tried_in position (lines_in (drop at ns)) size kinds a room ≡ tried_in 1 (lines_in ns) size kinds a₀ room
  pub place : at + 3 ≡ 3 * position
  pub few : position ≤ 65

-- an attempt that ended so
ended_so : (alone : Bool) (x : Attempt) (k : Trial) (i : ℕ) → x ≡ record { trial = k; position = position_at alone i } → (n : PlainTrial) → k ≡ tried n → (a a' : Arrays) → a' ≡ a
    → (w : TriedIn) → record { trial = n; position = i; arrays = a } ≡ w → AttemptedLines alone w x a'
ended_so alone x k i is n trial a a' same w e = record {
  trial_is = ap (λ (y : Attempt). y.trial) is ∙ trial ∙ ap (λ (v : TriedIn). tried v.trial) e;
  position_is = ap (λ (y : Attempt). y.position) is ∙ ap (λ (v : TriedIn). position_at alone v.position) e;
  arrays_are = same ∙ ap (λ (v : TriedIn). v.arrays) e;
}

module _ (ns : List ℕ) (size kinds room : ℕ) (a₀ : Arrays) (at position : ℕ) (a : Arrays) (w : Walked ns size kinds room a₀ at position a) where
  abbrev whole : TriedIn
  whole = tried_in 1 (lines_in ns) size kinds a₀ room

  -- no line is left
  pub walk_ended : (alone : Bool) (x : Attempt) → x ≡ record { trial = Accepted; position = position_at alone position } → length ns ≤ at → AttemptedLines alone whole x a
  unfolding tried_in
  walk_ended alone x is h = ended_so alone x Accepted position is accepted refl a a refl whole
      (sym (ap (λ (xs : List PlainLine). tried_in position xs size kinds a room) (lines_end ns at h)) ∙ w.rest)

  -- the line at the place is tried
  module _ (more : at < length ns) (l : BatchLine) (here : l ≡ head_line (drop at ns)) (r : Trial) (a' : Arrays) (e : AttemptedLine (line_in l) position size kinds room a r a') where
    next : tried_in position (line_in l ∷ lines_in (drop (at + 3) ns)) size kinds a room ≡ whole
    next = sym (ap (λ (xs : List PlainLine). tried_in position xs size kinds a room)
        (lines_next ns at more ∙ ap (λ (k : BatchLine). line_in k ∷ lines_in (drop (at + 3) ns)) (sym here))) ∙ w.rest

    pub walk_stopped : (alone : Bool) (x : Attempt) → x ≡ record { trial = r; position = position_at alone position } → is_refused r ≡ true → AttemptedLines alone whole x a'
    walk_stopped alone x is z =
        let n = refused_is r z in
        let trial : line_trial_in position (line_in l) size kinds a room ≡ refused n.0 = tried_refused _ n.0 (sym n.1 ∙ e.trial_is) in
        ended_so alone x r position is (refused n.0) n.1 a a' (e.unfiled n.0 n.1) whole
        (sym (tried_stop position (line_in l) (lines_in (drop (at + 3) ns)) size kinds a room n.0 trial) ∙ next)

    pub walk_on : is_refused r ≡ false → Walked ns size kinds room a₀ (at + 3) (position + 1) a'
    walk_on z =
        let fine : r ≡ Accepted = accepted_is r z in
        let trial : line_trial_in position (line_in l) size kinds a room ≡ accepted = tried_accepted _ (sym e.trial_is ∙ fine) in
        let small : position ≤ 64 = early position (line_in l) size kinds a room trial in
        record {
          rest =
              (λ j. tried_in (add-one position j) (lines_in (drop (at + 3) ns)) size kinds (e.filed fine j) room)
              ∙ sym (tried_on position (line_in l) (lines_in (drop (at + 3) ns)) size kinds a room trial) ∙ next;
          place = omega (arith, w.place);
          few = omega arith;
        }

-- ---- trying a call

module _ (alone : Bool) (xs : List PlainLine) (size kinds : ℕ) (a : Arrays) (room : ℕ) where
  pub call_on_lem : ahead_trial alone size kinds room ≡ accepted → call_tried_in alone xs size kinds a room ≡ tried_in 1 xs size kinds a room
  unfolding call_tried_in
  call_on_lem e = rw (e, call_tried_in)

  pub call_stop : (n : ℕ) → ahead_trial alone size kinds room ≡ refused n → call_tried_in alone xs size kinds a room ≡ record { trial = refused n; position = 0; arrays = a }
  unfolding call_tried_in
  call_stop n e = rw (e, call_tried_in)

  module _ (r : Trial) (e : r ≡ tried (ahead_trial alone size kinds room)) where
    pub call_stopped : (x : Attempt) → x ≡ record { trial = r; position = position_at alone 0 } → is_refused r ≡ true → AttemptedLines alone (call_tried_in alone xs size kinds a room) x a
    call_stopped x is z =
        let n = refused_is r z in
        ended_so alone x r 0 is (refused n.0) n.1 a a refl (call_tried_in alone xs size kinds a room) (sym (call_stop n.0 (tried_refused _ n.0 (sym n.1 ∙ e))))

    pub call_tried : is_refused r ≡ false → (x : Attempt) (a' : Arrays) → AttemptedLines alone (tried_in 1 xs size kinds a room) x a' → AttemptedLines alone (call_tried_in alone xs size kinds a room) x a'
    call_tried z x a' w = subst⁻¹ (λ (t : TriedIn). AttemptedLines alone t x a') (call_on_lem (tried_accepted _ (sym e ∙ accepted_is r z))) w

-- a call that was tried: where a line was refused the arrays are those of before, else those that the lines leave
pub call_made : (alone : Bool) (w : TriedIn) (a a' a'' : Arrays) (x : Attempt) → AttemptedLines alone w x a' → (is_refused x.trial ≡ false → a'' ≡ a') → (is_refused x.trial ≡ true → a'' ≡ a)
    → AttemptedCall alone w a x a''
call_made alone w a a' a'' x l made back = record {
  trial_is = l.trial_is;
  position_is = l.position_is;
  filed = λ e. made (ap is_refused e) ∙ l.arrays_are;
  unfiled = λ n e. back (ap is_refused e);
}

-- of a change alone nothing is made where it is refused
alone_unfiled : (x : PlainLine) (size kinds : ℕ) (a : Arrays) (room : ℕ) → is_refused (tried (tried_in 1 (x ∷ []) size kinds a room).trial) ≡ true → (tried_in 1 (x ∷ []) size kinds a room).arrays ≡ a
unfolding tried_in
alone_unfiled x size kinds a room e = by_trial (line_trial_in 1 x size kinds a room) refl
  where
    by_trial : (w : PlainTrial) → line_trial_in 1 x size kinds a room ≡ w → (tried_in 1 (x ∷ []) size kinds a room).arrays ≡ a
    by_trial accepted k = absurd (contra (ap (λ (t : TriedIn). is_refused (tried t.trial)) (sym (tried_on 1 x [] size kinds a room k)) ∙ e) refl)
    by_trial (refused n) k = ap (λ (t : TriedIn). t.arrays) (tried_stop 1 x [] size kinds a room n k)

pub call_alone : (alone : Option BatchLine) (ns : List ℕ) (size kinds : ℕ) (a : Arrays) (room : ℕ) (x : Attempt) (a' : Arrays) → is_some alone ≡ true
    → AttemptedLines (is_some alone) (tried_in 1 (lines_in (numbers_in alone ns)) size kinds a room) x a' → is_refused x.trial ≡ true → a' ≡ a
unfolding lines_in
call_alone (Some only) ns size kinds a room x a' z w e = w.arrays_are ∙ alone_unfiled (line_in only) size kinds a room (ap is_refused (sym w.trial_is) ∙ e)
call_alone None ns size kinds a room x a' z w e = absurd (true≢false (sym z))

-- the arrays of the rows keep their lengths
lines_sized : (i : ℕ) (xs : List PlainLine) (size kinds : ℕ) (a : Arrays) (room : ℕ) → Sized a → Sized (tried_in i xs size kinds a room).arrays
unfolding tried_in
lines_sized i [] size kinds a room l = l
lines_sized i (x ∷ xs) size kinds a room l =
    by_trial (line_trial_in i x size kinds a room) refl (lines_sized (suc i) xs size kinds (filed_line x size a) room (line_sized x size a (filed_line x size a) refl l))
  where
    by_trial : (w : PlainTrial) → line_trial_in i x size kinds a room ≡ w → Sized (tried_in (suc i) xs size kinds (filed_line x size a) room).arrays → Sized (tried_in i (x ∷ xs) size kinds a room).arrays
    by_trial accepted k below = subst⁻¹ (λ (t : TriedIn). Sized t.arrays) (tried_on i x xs size kinds a room k) below
    by_trial (refused n) k below = subst⁻¹ (λ (t : TriedIn). Sized t.arrays) (tried_stop i x xs size kinds a room n k) l

pub tried_sized : (alone : Bool) (xs : List PlainLine) (size kinds : ℕ) (a : Arrays) (room : ℕ) → Sized a → Sized (call_tried_in alone xs size kinds a room).arrays
tried_sized alone xs size kinds a room l = by_trial (ahead_trial alone size kinds room) refl
  where
    by_trial : (w : PlainTrial) → ahead_trial alone size kinds room ≡ w → Sized (call_tried_in alone xs size kinds a room).arrays
    by_trial accepted k = subst⁻¹ (λ (t : TriedIn). Sized t.arrays) (call_on_lem alone xs size kinds a room k) (lines_sized 1 xs size kinds a room l)
    by_trial (refused n) k = subst⁻¹ (λ (t : TriedIn). Sized t.arrays) (call_stop alone xs size kinds a room n k) l

-- ---- arrays that hold a table

-- what comes behind a condition decides alike
behind : (n : ℕ) (b : Bool) (cs ds : List (ℕ × Bool)) → first_held cs ≡ first_held ds → first_held ((n, b) ∷ cs) ≡ first_held ((n, b) ∷ ds)
unfolding first_held
behind n true cs ds e = refl
behind n false cs ds e = e

-- trying lines comes to the same, and where they are accepted the arrays hold the table that they leave
record Agrees (t : Table) (w : TriedIn) (b : BatchTrial) : Type 0 where
  trial : w.trial ≡ b.trial
  position : w.position ≡ b.position
  stored : b.trial ≡ accepted → Stored t w.arrays

stopped : (t : Table) (a : Arrays) (n i : ℕ) → Agrees t (record { trial = refused n; position = i; arrays = a }) (record { trial = refused n; position = i })
stopped t a n i = record { trial = refl; position = refl; stored = λ e. absurd (refused_not n e) }

module _ (t : Table) (v : Valid t) (a : Arrays) (f : Stored t a) (c : Change) (room : ℕ) where
  stored_change : change_trial c t room ≡ accepted → Stored (apply c t) (filed_in (op_for c) t.size a)
  stored_change = subst (λ (d : Change). change_trial d t room ≡ accepted → Stored (apply d t) (filed_in (op_for c) t.size a)) (change_back c)
      (λ e. restored t v a f (filed_in (op_for c) t.size a) (op_for c) room e refl)

  -- a line of a batch: 11 does not strike where the room is enough
  module _ (i : ℕ) (roomy : first_held (room_condition t.size t.kinds room) ≡ accepted) where
    line_same : line_trial_in i (makes c) t.size t.kinds a room ≡ first_held (line_conditions i (makes c) t)
    unfolding line_conditions
    line_same =
        behind 1 (misnamed c) _ _ (behind 15 (ltb 64 i) _ _ own)
        ∙ last_free ((1, misnamed c) ∷ (15, ltb 64 i) ∷ conditions c t) (room_condition t.size t.kinds room) roomy
      where
        own : first_held (conditions_in (op_for c) t.size t.kinds a.rows a.words ++ room_condition t.size t.kinds room) ≡ first_held (conditions c t ++ room_condition t.size t.kinds room)
        own = conditions_same t v a f (op_for c) (room_condition t.size t.kinds room) ∙ ap (λ (d : Change). first_held (conditions d t ++ room_condition t.size t.kinds room)) (change_back c)

    line_change : first_held (line_conditions i (makes c) t) ≡ accepted → change_trial c t room ≡ accepted
    unfolding line_conditions change_trial
    line_change e =
        let p = passed 1 _ ((15, ltb 64 i) ∷ conditions c t) e in
        held_later _ _ p.0 ∙ last_free (conditions c t) (room_condition t.size t.kinds room) roomy ∙ (passed 15 _ (conditions c t) p.1).1

    agree_line : (xs : List PlainLine)
        → (change_trial c t room ≡ accepted → Agrees (apply_all (changes_in xs) (apply c t)) (tried_in (suc i) xs t.size t.kinds (filed_in (op_for c) t.size a) room) (lines_trial (suc i) xs (apply c t)))
        → Agrees (apply_all (changes_in (makes c ∷ xs)) t) (tried_in i (makes c ∷ xs) t.size t.kinds a room) (lines_trial i (makes c ∷ xs) t)
    unfolding changes_in apply_all
    agree_line xs below = by_trial (first_held (line_conditions i (makes c) t)) refl
      where
        by_trial : (w : PlainTrial) → first_held (line_conditions i (makes c) t) ≡ w
            → Agrees (apply_all (changes_in xs) (apply c t)) (tried_in i (makes c ∷ xs) t.size t.kinds a room) (lines_trial i (makes c ∷ xs) t)
        by_trial accepted k =
            subst⁻¹ (λ (w : TriedIn). Agrees (apply_all (changes_in xs) (apply c t)) w (lines_trial i (makes c ∷ xs) t)) (tried_on i (makes c) xs t.size t.kinds a room (line_same ∙ k))
            (subst⁻¹ (λ (b : BatchTrial). Agrees (apply_all (changes_in xs) (apply c t)) (tried_in (suc i) xs t.size t.kinds (filed_in (op_for c) t.size a) room) b)
            (line_accepted i (makes c) xs t k) (below (line_change k)))
        by_trial (refused n) k =
            subst⁻¹ (λ (w : TriedIn). Agrees (apply_all (changes_in xs) (apply c t)) w (lines_trial i (makes c ∷ xs) t)) (tried_stop i (makes c) xs t.size t.kinds a room n (line_same ∙ k))
            (subst⁻¹ (λ (b : BatchTrial). Agrees (apply_all (changes_in xs) (apply c t)) (record { trial = refused n; position = i; arrays = a }) b)
            (line_refused i (makes c) xs t n k) (stopped (apply_all (changes_in xs) (apply c t)) a n i))

lines_agree : (room i : ℕ) (xs : List PlainLine) (t : Table) → Valid t → (a : Arrays) → Stored t a → first_held (room_condition t.size t.kinds room) ≡ accepted
    → Agrees (apply_all (changes_in xs) t) (tried_in i xs t.size t.kinds a room) (lines_trial i xs t)
unfolding tried_in lines_trial line_conditions first_held changes_in apply_all
lines_agree room i [] t v a f roomy = record { trial = refl; position = refl; stored = λ e. f }
lines_agree room i (other ∷ xs) t v a f roomy = stopped (apply_all (changes_in xs) t) a 1 i
lines_agree room i (makes c ∷ xs) t v a f roomy = agree_line t v a f c room i roomy xs (λ e.
    subst (λ (k : ℕ). Agrees (apply_all (changes_in xs) (apply c t)) (tried_in (suc i) xs t.size k (filed_in (op_for c) t.size a) room) (lines_trial (suc i) xs (apply c t))) (changed_kinds c t)
    (subst (λ (s : ℕ). Agrees (apply_all (changes_in xs) (apply c t)) (tried_in (suc i) xs s (apply c t).kinds (filed_in (op_for c) t.size a) room) (lines_trial (suc i) xs (apply c t))) (changed_size c t)
    (lines_agree room (suc i) xs (apply c t) (valid_change c t room v e) (filed_in (op_for c) t.size a) (stored_change t v a f c room e) (rw (changed_size c t, changed_kinds c t) roomy))))

module _ (t : Table) (v : Valid t) (a : Arrays) (f : Stored t a) where
  -- a valid table has a state: 2 does not strike
  ahead_same : (room : ℕ) → ahead_trial false t.size t.kinds room ≡ first_held (room_condition t.size t.kinds room)
  unfolding ahead_trial bad_size
  ahead_same room = held_later (2, eqb t.size 0) (room_condition t.size t.kinds room) (or-false (eqb t.size 0) (ltb 512 t.size) v.size_ok).0

  batch_agree : (xs : List PlainLine) (room : ℕ) → Agrees (apply_all (changes_in xs) t) (call_tried_in false xs t.size t.kinds a room) (batch_trial xs t room)
  batch_agree xs room = by_trial (first_held (room_condition t.size t.kinds room)) refl
    where
      by_trial : (w : PlainTrial) → first_held (room_condition t.size t.kinds room) ≡ w → Agrees (apply_all (changes_in xs) t) (call_tried_in false xs t.size t.kinds a room) (batch_trial xs t room)
      by_trial accepted k =
          subst⁻¹ (λ (w : TriedIn). Agrees (apply_all (changes_in xs) t) w (batch_trial xs t room)) (call_on_lem false xs t.size t.kinds a room (ahead_same room ∙ k))
          (subst⁻¹ (λ (b : BatchTrial). Agrees (apply_all (changes_in xs) t) (tried_in 1 xs t.size t.kinds a room) b) (batch_tried xs t room k) (lines_agree room 1 xs t v a f k))
      by_trial (refused n) k =
          subst⁻¹ (λ (w : TriedIn). Agrees (apply_all (changes_in xs) t) w (batch_trial xs t room)) (call_stop false xs t.size t.kinds a room n (ahead_same room ∙ k))
          (subst⁻¹ (λ (b : BatchTrial). Agrees (apply_all (changes_in xs) t) (record { trial = refused n; position = 0; arrays = a }) b) (batch_short xs t room n k)
          (stopped (apply_all (changes_in xs) t) a n 0))

  pub batch_same : (xs : List PlainLine) (room : ℕ)
      → ((call_tried_in false xs t.size t.kinds a room).trial ≡ (batch_trial xs t room).trial) × ((call_tried_in false xs t.size t.kinds a room).position ≡ (batch_trial xs t room).position)
  batch_same xs room = ((batch_agree xs room).trial, (batch_agree xs room).position)

  pub batch_stored : (xs : List PlainLine) (room : ℕ) → (batch_trial xs t room).trial ≡ accepted → Stored (apply_all (changes_in xs) t) (call_tried_in false xs t.size t.kinds a room).arrays
  batch_stored xs room e = (batch_agree xs room).stored e

  -- a change alone is the only line
  module _ (c : Change) (room : ℕ) where
    only_same : line_trial_in 1 (makes c) t.size t.kinds a room ≡ change_trial c t room
    unfolding change_trial
    only_same =
        behind 1 (misnamed c) _ _ (held_later (15, ltb 64 1) (conditions_in (op_for c) t.size t.kinds a.rows a.words ++ room_condition t.size t.kinds room) refl
        ∙ conditions_same t v a f (op_for c) (room_condition t.size t.kinds room)
        ∙ ap (λ (d : Change). first_held (conditions d t ++ room_condition t.size t.kinds room)) (change_back c))

    only_made : change_trial c t room ≡ accepted → call_tried_in true (makes c ∷ []) t.size t.kinds a room ≡ record { trial = accepted; position = 2; arrays = filed_in (op_for c) t.size a }
    unfolding ahead_trial tried_in
    only_made e = call_on_lem true (makes c ∷ []) t.size t.kinds a room refl ∙ tried_on 1 (makes c) [] t.size t.kinds a room (only_same ∙ e)

    only_refused : (n : ℕ) → change_trial c t room ≡ refused n → call_tried_in true (makes c ∷ []) t.size t.kinds a room ≡ record { trial = refused n; position = 1; arrays = a }
    unfolding ahead_trial
    only_refused n e = call_on_lem true (makes c ∷ []) t.size t.kinds a room refl ∙ tried_stop 1 (makes c) [] t.size t.kinds a room n (only_same ∙ e)

    pub single_same : (call_tried_in true (makes c ∷ []) t.size t.kinds a room).trial ≡ change_trial c t room
    single_same = by_trial (change_trial c t room) refl
      where
        by_trial : (w : PlainTrial) → change_trial c t room ≡ w → (call_tried_in true (makes c ∷ []) t.size t.kinds a room).trial ≡ change_trial c t room
        by_trial accepted k = ap (λ (w : TriedIn). w.trial) (only_made k) ∙ sym k
        by_trial (refused n) k = ap (λ (w : TriedIn). w.trial) (only_refused n k) ∙ sym k

    pub single_stored : change_trial c t room ≡ accepted → Stored (apply c t) (call_tried_in true (makes c ∷ []) t.size t.kinds a room).arrays
    single_stored e = subst⁻¹ (λ (w : TriedIn). Stored (apply c t) w.arrays) (only_made e) (stored_change t v a f c room e)
