-- The search of the arrays is the plain search: from its beginning, and from where it is resumed after a change. Assumes nothing.
use mathlib.Core.Path.{◌≡◌, refl, sym, ap, subst, ◌∙◌}
use mathlib.Core.Logic.{⊎_elim}
use mathlib.Core.Bool.{Bool, true, false}
use mathlib.Core.List.{List, [], ◌∷◌}
use Prim.Native.Nat.{ℕ, zero, suc, ◌+◌, ◌≤◌, ◌<◌}
use native.Mathlib.Nat.{add-zero, add-suc, suc-add}
use native.Mathlib.Omega.{arith}
use lib.Dec.{leb}
use lib.ListN.{length, get_or, set, replicate, length-set, length-replicate, get_or-replicate}
use lib.Seq.{get_or-set_same, get_or-set_other}
use borrow.Author.Tests.{leb-true, leb-false}
use Rattle.plain.specs.Lists.{filter, elem, In}
use Rattle.plain.specs.Search.{Graph, Config, discovered_of, marked_of, steps, run}
use Rattle.plain.specs.Notes.{Note, Notes, notes, Faithful}
use Rattle.plain.proofs.Tests.{contra, either, not-true, in_nil, in_head, in_tail, in_cases, in_one, filter_yes, filter_no}
use Rattle.plain.proofs.Invariant.{Inv, inv_run}
use Rattle.plain.proofs.Prefix.{discovery, Agree, FirstMeeting}
use Rattle.plain.proofs.Restore.{Restored, noted_run}
use Rattle.plain.proofs.Resume.{resumed, resumed_from}
use Rattle.plain.specs.Limits.{Limits}
use Rattle.plain.proofs.Limits.{Small, within, limits, marked_known}
use Rattle.look.specs.Numbers.{no_number}
use Rattle.search.specs.Core.{Game, Core, run_for, step, rewound}
use Rattle.search.specs.Archive.{root_of, stamp_in, notes_of, Archived}
use Rattle.search.proofs.Represents.{Matches}
use Rattle.search.proofs.OneStep.{Fits, one_step, stamp_there, stamp_root}
use Rattle.search.proofs.Rewound.{chain_same, Resumable, rewound_fits}

module _ (g : Graph) (size : ℕ) (b : Small g size) (game : Game) (m : Matches g game) where
  -- n steps of the plain search are behind the arrays
  abbrev pub At : ℕ → Core → Type 0
  At n s = Fits g s (notes g n) (run g n)

  at_next : (n : ℕ) (s : Core) → At n s → At (suc n) (step game s)
  unfolding notes steps
  at_next n s a =
      let w = noted_run g n in
      one_step g game m s (notes g n) (run g n) (inv_run g n) w.shape w.counted (limits g size b n) (limits g size b (suc n)) a.0 a.1

  -- THE SEARCH of the arrays is the plain search: j steps more
  pub at_run : (j n : ℕ) (s : Core) → At n s → At (n + j) (run_for game j s)
  unfolding run_for
  at_run zero n s a = rw add-zero a
  at_run (suc j) n s a = subst (λ (i : ℕ). At i (run_for game j (step game s))) (suc-add n j ∙ sym (add-suc n j)) (at_run j (suc n) (step game s) (at_next n s a))

-- ---- what outlives a search

pub archived : (g : Graph) (n : ℕ) (s : Core) → Fits g s (notes g n) (run g n) → Archived g n s.number s.parent s.index s.probes s.stamp s.walk
archived g n s (h, a) = record {
  sizes = record {
    number_size = h.sized.number_size;
    parent_size = h.sized.parent_size;
    index_size = h.sized.index_size;
    probes_size = h.sized.probes_size;
    stamp_size = h.sized.stamp_size;
    walk_size = h.sized.walk_size;
  };
  holds = record { notes_right = h.notes_right; stamps_right = h.stamps_right };
  undiscovered = h.undiscovered;
  unmarked = h.unmarked;
  root_unmarked = h.root_unmarked;
}

-- ---- the part of a list that is numbered up to m

filter_in : (p : ℕ → Bool) (x : ℕ) (xs : List ℕ) → In x (filter p xs) → p x ≡ true
unfolding filter
filter_in p x [] i = absurd (in_nil x i)
filter_in p x (y ∷ xs) i = ⊎_elim
    (λ e. ⊎_elim (λ z. rw z e) (filter_in p x xs) (in_cases x y (filter p xs) (rw (filter_yes p y xs e) at i)))
    (λ e. filter_in p x xs (rw (filter_no p y xs e) at i)) (either (p y))

in_filter : (p : ℕ → Bool) (x : ℕ) (xs : List ℕ) → In x xs → p x ≡ true → In x (filter p xs)
in_filter p x [] i e = absurd (in_nil x i)
in_filter p x (y ∷ xs) i e = ⊎_elim
    (λ f. rw (filter_yes p y xs f) (⊎_elim (λ z. rw z (in_head y (filter p xs))) (λ j. in_tail x y (filter p xs) (in_filter p x xs j e)) (in_cases x y xs i)))
    (λ f. rw (filter_no p y xs f) (⊎_elim (λ z. absurd (contra (rw z at e) f)) (λ j. in_filter p x xs j e) (in_cases x y xs i))) (either (p y))

-- xs is what is numbered up to m in ys: its members are, and what is not in it is numbered higher
numbered_in : (f : ℕ → ℕ) (m : ℕ) (xs ys : List ℕ) → xs ≡ filter (λ x. leb (f x) m) ys → (x : ℕ) → In x xs → f x ≤ m
numbered_in f m xs ys e x i = leb-true (f x) m (filter_in (λ y. leb (f y) m) x ys (rw e at i))

numbered_out : (f : ℕ → ℕ) (m : ℕ) (xs ys : List ℕ) → xs ≡ filter (λ x. leb (f x) m) ys → (x : ℕ) → elem x xs ≡ false → (elem x ys ≡ false → m < f x) → m < f x
numbered_out f m xs ys e x o other = ⊎_elim
    (λ i. leb-false (f x) m (not-true (leb (f x) m) (λ t. contra (rw e (in_filter (λ y. leb (f y) m) x ys i t)) o)))
    other (either (elem x ys))

filter_nil : (p : ℕ → Bool) → filter p [] ≡ []
unfolding filter
filter_nil p = refl

filter_short : (p : ℕ → Bool) (xs : List ℕ) → length (filter p xs) ≤ length xs
filter_short p [] = omega (arith, ap length (filter_nil p))
filter_short p (x ∷ xs) = ⊎_elim
    (λ e. omega (arith, ap length (filter_yes p x xs e), filter_short p xs))
    (λ e. omega (arith, ap length (filter_no p x xs e), filter_short p xs)) (either (p x))

-- ---- a search is resumed

module _ (size : ℕ) (named : List ℕ) (g h : Graph) (a : Agree named g h) (small : Small g size) (b : Small h size) (n : ℕ)
    (number parent index probes stamp walk : List ℕ) (f : Archived g n number parent index probes stamp walk) (w : FirstMeeting named g h a n) where
  abbrev r : Notes
  r = notes_of (run g n) number parent index probes stamp

  abbrev s : ℕ
  s = w.meeting.state

  -- a state that is in the archive's place of a nested search's first state was not marked before s was discovered: its stamp is above the limit
  module _ (q : Restored h r s (run h w.at) (run g n)) where
    earlier_few : suc (length q.earlier) ≤ length (discovered_of (run g n))
    earlier_few = omega (arith, ap length q.earlier_are, filter_short (λ x. leb (get_or number x 0) (length q.earlier)) (discovered_of (run g n)))

    not_root : (x : ℕ) → In x q.marked → elem x (root_of (run g n)) ≡ false
    not_root x i = not-true (elem x (root_of (run g n))) (λ j. absurd (late j))
      where
        late : In x (root_of (run g n)) → ⊥
        late j = omega (
          arith,
          numbered_in (stamp_in (run g n) stamp) (length q.earlier) q.marked (marked_of (run g n)) q.marked_are x i,
          stamp_root (run g n) stamp x j,
          earlier_few,
        )

    marked_stamp : (x : ℕ) → In x q.marked → stamp_in (run g n) stamp x ≡ get_or stamp x 0
    marked_stamp x i = stamp_there (run g n) stamp x (not_root x i)

    stamped_late : (x : ℕ) → x < 512 → length q.earlier < 512 → elem x q.marked ≡ false → length q.earlier < get_or stamp x 0
    stamped_late x l few o = ⊎_elim
        (λ j. omega (arith, f.root_unmarked x j))
        (λ j. omega (
          arith,
          stamp_there (run g n) stamp x j,
          numbered_out (stamp_in (run g n) stamp) (length q.earlier) q.marked (marked_of (run g n)) q.marked_are x o
              (λ z. omega (arith, stamp_there (run g n) stamp x j, f.unmarked x l z)),
        ))
        (either (elem x (root_of (run g n))))

  resumable : (q : Restored h r s (run h w.at) (run g n)) → Limits h (discovery h s q.path q.earlier q.marked q.probes)
      → Resumable h (notes h w.at) size s q.path q.earlier q.marked q.probes number parent index probes stamp walk
  resumable q u =
      let t : Faithful h r w.at = resumed named g h a r n f.holds w in
      record {
        sizes = f.sizes;
        below = chain_same h (run g n) number parent index probes stamp s q.path q.below;
        number_is = q.number;
        probes_are = q.probe_count;
        numbered = numbered_in (λ x. get_or number x 0) (length q.earlier) (s ∷ q.earlier) (discovered_of (run g n)) q.earlier_are;
        numbered_later = λ x l o. numbered_out (λ x. get_or number x 0) (length q.earlier) (s ∷ q.earlier) (discovered_of (run g n)) q.earlier_are x o
            (λ z. omega (arith, f.undiscovered x l z, u.few));
        stamped = λ x i. omega (
          arith,
          marked_stamp q x i,
          numbered_in (stamp_in (run g n) stamp) (length q.earlier) q.marked (marked_of (run g n)) q.marked_are x i,
        );
        stamped_later = λ x l o. stamped_late q x l (omega (arith, u.few)) o;
        notes_right = λ x i. t.notes_right x (rw q.is i);
        stamps_right = λ x i. sym (marked_stamp q x i) ∙ t.stamps_right x (rw q.is i);
        beyond = λ x l z. (f.undiscovered x l (unmet x z), f.unmarked x l (not-true (elem x (marked_of (run g n))) (λ i. contra (known x i) (unmet x z))));
      }
    where
      unmet : (x : ℕ) → size ≤ x → elem x (discovered_of (run g n)) ≡ false
      unmet x z = not-true (elem x (discovered_of (run g n))) (λ i. omega (arith, within g size small n x i))

      known : (x : ℕ) → In x (marked_of (run g n)) → In x (discovered_of (run g n))
      known x i = marked_known g n x i

  -- the rewound arrays stand where the new search first meets a named state
  pub resume_fits : Fits h (rewound size h.start s 0 number parent index probes stamp walk) (notes h w.at) (run h w.at)
  resume_fits =
      let q = resumed_from named g h a r n f.holds w in
      let u : Limits h (discovery h s q.path q.earlier q.marked q.probes) = rw q.is at (limits h size b w.at) in
      let v : Inv h (discovery h s q.path q.earlier q.marked q.probes) = rw q.is at (inv_run h w.at) in
      subst (λ (c : Config). Fits h (rewound size h.start s 0 number parent index probes stamp walk) (notes h w.at) c) (sym q.is)
      (rewound_fits h (notes h w.at) size s q.path q.earlier q.marked q.probes number parent index probes stamp walk (resumable q u) v u)

-- ---- a search is begun

module _ (size : ℕ) (g : Graph) (b : Small g size) (walk : List ℕ) (walk-long : length walk ≡ 512) where
  start_small : g.start < size
  start_small = b.below g.start b.start_in

  start_below : g.start < 512
  start_below = omega (arith, start_small, b.size_few)

  abbrev blank : List ℕ
  blank = set (replicate 512 no_number) g.start 0

  blank_size : length blank ≡ 512
  blank_size = length-set (replicate 512 no_number) g.start 0 ∙ length-replicate 512 no_number

  blank_start : get_or blank g.start 0 ≡ 0
  blank_start = get_or-set_same (replicate 512 no_number) g.start 0 0 (omega (arith, start_below, length-replicate 512 no_number))

  begins : Resumable g (notes g 0) size g.start [] [] [] [] blank (replicate 512 g.start) (replicate 512 0) (replicate 512 0) (replicate 512 no_number) walk
  unfolding notes
  begins = record {
    sizes = record {
      number_size = blank_size;
      parent_size = length-replicate 512 g.start;
      index_size = length-replicate 512 zero;
      probes_size = length-replicate 512 zero;
      stamp_size = length-replicate 512 no_number;
      walk_size = walk-long;
    };
    below = refl;
    number_is = blank_start;
    probes_are = get_or-replicate 512 g.start zero zero start_below;
    numbered = λ x i. let e : x ≡ g.start = in_one x g.start i in rw e (omega (arith, blank_start));
    numbered_later = λ x l o. omega (arith, get_or-set_other (replicate 512 no_number) g.start x 0 0 (λ e. contra (rw e (in_head g.start [])) o), get_or-replicate 512 x no_number 0 l);
    stamped = λ x i. absurd (in_nil x i);
    stamped_later = λ x l o. omega (arith, get_or-replicate 512 x no_number 0 l);
    notes_right = λ x i. let e : x ≡ g.start = in_one x g.start i in rw e (same blank_start (get_or-replicate 512 g.start g.start 0 start_below) (get_or-replicate 512 g.start zero zero start_below));
    stamps_right = λ x i. absurd (in_nil x i);
    beyond = λ x l z. (get_or-set_other (replicate 512 no_number) g.start x 0 0 (λ e. omega (arith, start_small)) ∙ get_or-replicate 512 x no_number 0 l, get_or-replicate 512 x no_number 0 l);
  }
    where
      same : {a c d : ℕ} → a ≡ 0 → c ≡ g.start → d ≡ 0 → ◌≡◌ {A = Note} (record { number = a; parent = c; index = d; probes = d }) (record { number = 0; parent = g.start; index = 0; probes = 0 })
      same p q t = λ i. record { number = p i; parent = q i; index = t i; probes = t i }

  -- blank arrays, with the start state numbered 0, stand for the beginning of the search
  pub begin_fits : Fits g (rewound size g.start g.start 0 blank (replicate 512 g.start) (replicate 512 0) (replicate 512 0) (replicate 512 no_number) walk) (notes g 0) (run g 0)
  unfolding steps
  begin_fits = rewound_fits g (notes g 0) size g.start [] [] [] [] blank (replicate 512 g.start) (replicate 512 0) (replicate 512 0) (replicate 512 no_number) walk begins (inv_run g 0) (limits g size b 0)
