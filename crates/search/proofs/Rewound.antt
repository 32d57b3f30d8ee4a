-- The arrays rewound to a discovery stand for the configuration of that discovery. Assumes nothing.
use mathlib.Core.Path.{◌≡◌, refl, sym, ap, subst, ◌∙◌}
use mathlib.Core.Logic.{⊎_elim}
use mathlib.Core.Bool.{false}
use mathlib.Core.List.{List, [], ◌∷◌, ◌++◌, append_assoc}
use Prim.Native.Nat.{ℕ, zero, suc, ◌≤◌, ◌<◌, ◌%◌}
use native.Mathlib.Nat.{add-zero}
use native.Mathlib.Omega.{arith}
use lib.Dec.{eqb, ltb}
use lib.ListN.{length, get_or, set, drop, replicate, length-set, length-replicate}
use lib.Seq.{drop-cons, drop-set-add, get_or-set_same, get_or-set_other}
use borrow.Author.Tests.{eq-eqb, ne_eqb, le-leb, lt-leb, eqb-false, ltb-true, ltb-false}
use Rattle.plain.specs.Lists.{elem, In}
use Rattle.plain.specs.Search.{Graph, Edge, Frame, frame, on_path, Config, states_of}
use Rattle.plain.specs.Notes.{Note, Notes, Below}
use Rattle.plain.proofs.Tests.{contra, either, in_nil, or-false}
use Rattle.plain.proofs.Paths.{On, Off, Distinct, on_head, on_tail}
use Rattle.plain.proofs.Invariant.{Inv}
use Rattle.plain.specs.Limits.{Limits}
use Rattle.plain.proofs.Prefix.{discovery}
use Rattle.look.specs.Numbers.{no_number, up}
use Rattle.look.proofs.Counting.{up_more}
use Rattle.search.specs.declared.Phase.TheVariants.{Outer}
use Rattle.search.specs.Core.{Core, core_of, up_to, forget_above, climb, retrace_walk, retrace_depth, rewound, Lengths}
use Rattle.search.specs.Archive.{notes_of}
use Rattle.search.proofs.Represents.{Placed}
use Rattle.search.proofs.Ways.{forget_length, forget_below, forget_behind, walk_size, depth_size}
use Rattle.search.proofs.OneStep.{Fits, stamp_all}

-- ---- what is numbered up to a limit

up_to_kept : (limit x : ℕ) → x ≤ limit → up_to limit x ≡ x
unfolding up_to
up_to_kept limit x h = rw (le-leb x limit h)

up_to_lost : (limit x : ℕ) → limit < x → up_to limit x ≡ no_number
unfolding up_to
up_to_lost limit x h = rw (lt-leb x limit h)

-- an entry up to the limit stays, any other is lost; the entries from the size on have no number
module _ (limit size : ℕ) (xs : List ℕ) (x : ℕ) (there : x < length xs) where
  stays : get_or xs x 0 ≤ limit → get_or (forget_above limit size xs) x 0 ≡ get_or xs x 0
  stays h = ⊎_elim
      (λ t. forget_below limit xs size x (ltb-true x size t) there ∙ up_to_kept limit (get_or xs x 0) h)
      (λ t. forget_behind limit xs size x (ltb-false x size t)) (either (ltb x size))

  lost : limit < get_or xs x 0 → (size ≤ x → get_or xs x 0 ≡ no_number) → get_or (forget_above limit size xs) x 0 ≡ no_number
  lost h beyond = ⊎_elim
      (λ t. forget_below limit xs size x (ltb-true x size t) there ∙ up_to_lost limit (get_or xs x 0) h)
      (λ t. forget_behind limit xs size x (ltb-false x size t) ∙ beyond (ltb-false x size t)) (either (ltb x size))

-- ---- the chain of parents

-- the parents and edges in the arrays, as notes
abbrev chain_of : List ℕ → List ℕ → Notes
chain_of parent index = record { of = λ x. record { number = 0; parent = get_or parent x 0; index = get_or index x 0; probes = 0 }; stamp = λ x. 0 }

-- a chain of parents asks for these alone
pub chain_same : (g : Graph) (c : Config) (number parent index probes stamp : List ℕ) (x : ℕ) (q : List Frame) → Below g (notes_of c number parent index probes stamp) x q
    → Below g (chain_of parent index) x q
chain_same g c number parent index probes stamp x [] b = b
chain_same g c number parent index probes stamp x (frame y us ∷ q) b = (b.0, b.1, chain_same g c number parent index probes stamp y q b.2)

-- it ends at the start state
chain_start : (g : Graph) (r : Notes) (x : ℕ) (ts : List ℕ) (p : List Frame) → Below g r x p → On g.start (frame x ts ∷ p)
chain_start g r x ts [] b = rw b (on_head g.start ts [])
chain_start g r x ts (frame y us ∷ p) b = on_tail g.start x ts (frame y us ∷ p) (chain_start g r y us p b.2)

-- so a state with others below it is not the start state
chain_not_start : (g : Graph) (r : Notes) (x y : ℕ) (us : List ℕ) (p : List Frame) → Below g r x (frame y us ∷ p) → Off x (frame y us ∷ p) → x ≡ g.start → ⊥
chain_not_start g r x y us p b o e = contra (chain_start g r y us p b.2) (rw e at o)

module _ (g : Graph) (parent index : List ℕ) where
  -- the climb counts the path
  climb_path : (n : ℕ) (x : ℕ) (p : List Frame) → length p < n → Below g (chain_of parent index) x p → Off x p × Distinct p → climb parent g.start n x ≡ suc (length p)
  unfolding climb
  climb_path zero x p h b d = absurd (omega arith)
  climb_path (suc n) x [] h b d = rw (eq-eqb x g.start b)
  climb_path (suc n) x (frame y us ∷ p) h b d =
      rw (ne_eqb x g.start (chain_not_start g (chain_of parent index) x y us p b d.0))
      (ap suc (ap (climb parent g.start n) b.0 ∙ climb_path n y p (omega arith) b.2 d.1))

drop_set : (walk : List ℕ) (n x : ℕ) → n < length walk → drop n (set walk n x) ≡ x ∷ drop (suc n) walk
drop_set walk n x h =
    ap (λ (i : ℕ). drop n (set walk i x)) (sym (add-zero n)) ∙ drop-set-add n walk 0 x ∙ ap (λ (l : List ℕ). set l 0 x) (drop-cons walk n 0 h)

module _ (g : Graph) (parent index : List ℕ) where
  -- the walk then begins with the path
  retrace_walk_lem : (p : List Frame) (x : ℕ) (ts walk : List ℕ) → Below g (chain_of parent index) x p → length p < length walk
      → retrace_walk parent (suc (length p)) x walk ≡ states_of (frame x ts ∷ p) ++ drop (suc (length p)) walk
  unfolding retrace_walk states_of
  retrace_walk_lem [] x ts walk b h = drop_set walk 0 x h
  retrace_walk_lem (frame y us ∷ p) x ts walk b h =
      ap (λ (v : ℕ). retrace_walk parent (suc (length p)) v (set walk (suc (length p)) x)) b.0
      ∙ retrace_walk_lem p y us (set walk (suc (length p)) x) b.2 (omega (arith, length-set walk (suc (length p)) x))
      ∙ ap (λ (l : List ℕ). states_of (frame y us ∷ p) ++ l) (drop_set walk (suc (length p)) x h)
      ∙ sym (append_assoc (states_of (frame y us ∷ p)) (x ∷ []) (drop (suc (suc (length p))) walk))

  -- only states of the path get another place
  retrace_other : (p : List Frame) (x : ℕ) (ts depth : List ℕ) (z : ℕ) → Below g (chain_of parent index) x p → Off z (frame x ts ∷ p)
      → get_or (retrace_depth parent (suc (length p)) x depth) z 0 ≡ get_or depth z 0
  unfolding retrace_depth on_path
  retrace_other [] x ts depth z b o = get_or-set_other depth x z 0 0 (eqb-false z x (or-false (eqb z x) (on_path z []) o).0)
  retrace_other (frame y us ∷ p) x ts depth z b o =
      let w = or-false (eqb z x) (on_path z (frame y us ∷ p)) o in
      ap (λ (v : ℕ). get_or (retrace_depth parent (suc (length p)) v (set depth x (suc (length p)))) z 0) b.0
      ∙ retrace_other p y us (set depth x (suc (length p))) z b.2 w.1
      ∙ get_or-set_other depth x z (suc (length p)) 0 (eqb-false z x w.0)

  retrace_placed : (p : List Frame) (x : ℕ) (ts depth : List ℕ) → Below g (chain_of parent index) x p → Off x p × Distinct p → ((z : ℕ) → On z (frame x ts ∷ p) → z < length depth)
      → Placed (retrace_depth parent (suc (length p)) x depth) (frame x ts ∷ p)
  unfolding retrace_depth
  retrace_placed [] x ts depth b d h = (get_or-set_same depth x 0 0 (h x (on_head x ts [])), tt)
  retrace_placed (frame y us ∷ p) x ts depth b d h = shifted (sym b.0) (
    retrace_other p y us (set depth x (suc (length p))) x b.2 d.0 ∙ get_or-set_same depth x (suc (length p)) 0 (h x (on_head x ts (frame y us ∷ p))),
    retrace_placed p y us (set depth x (suc (length p))) b.2 d.1 (λ z o. omega (arith, length-set depth x (suc (length p)), h z (on_tail z x ts (frame y us ∷ p) o))),
  )
    where
      shifted : y ≡ get_or parent x 0 → Placed (retrace_depth parent (suc (length p)) y (set depth x (suc (length p)))) (frame x ts ∷ frame y us ∷ p)
          → Placed (retrace_depth parent (suc (length p)) (get_or parent x 0) (set depth x (suc (length p)))) (frame x ts ∷ frame y us ∷ p)
      shifted e w = subst (λ (v : ℕ). Placed (retrace_depth parent (suc (length p)) v (set depth x (suc (length p)))) (frame x ts ∷ frame y us ∷ p)) e w

zeros_size : length (replicate 512 zero) ≡ 512
zeros_size = length-replicate 512 zero

abbrev note_at : List ℕ → List ℕ → List ℕ → List ℕ → ℕ → Note
note_at number parent index probes x = record { number = get_or number x 0; parent = get_or parent x 0; index = get_or index x 0; probes = get_or probes x 0 }

-- What has to be known of the arrays to resume at the discovery of s: which numbers and stamps are those of that configuration.
pub record Resumable (g : Graph) (r : Notes) (size s : ℕ) (p : List Frame) (d k : List ℕ) (l : List Edge) (number parent index probes stamp walk : List ℕ) : Type 0 where
  pub sizes : Lengths number parent index probes stamp walk
  pub below : Below g (chain_of parent index) s p
  pub number_is : get_or number s 0 ≡ length d
  pub probes_are : get_or probes s 0 ≡ length l
  pub numbered : (x : ℕ) → In x (s ∷ d) → get_or number x 0 ≤ length d
  pub numbered_later : (x : ℕ) → x < 512 → elem x (s ∷ d) ≡ false → length d < get_or number x 0
  pub stamped : (x : ℕ) → In x k → get_or stamp x 0 ≤ length d
  pub stamped_later : (x : ℕ) → x < 512 → elem x k ≡ false → length d < get_or stamp x 0
  pub notes_right : (x : ℕ) → In x (s ∷ d) → note_at number parent index probes x ≡ r.of x
  pub stamps_right : (x : ℕ) → In x k → get_or stamp x 0 ≡ r.stamp x
  -- no state is `size` or more
  pub beyond : (x : ℕ) → x < 512 → size ≤ x → (get_or number x 0 ≡ no_number) × (get_or stamp x 0 ≡ no_number)

module _ (g : Graph) (r : Notes) (size s : ℕ) (p : List Frame) (d k : List ℕ) (l : List Edge) (number parent index probes stamp walk : List ℕ)
    (a : Resumable g r size s p d k l number parent index probes stamp walk) (v : Inv g (discovery g s p d k l)) (u : Limits g (discovery g s p d k l)) where
  abbrev c : Config
  c = discovery g s p d k l

  abbrev core : Core
  core = core_of (record { phase = Outer; cur = s; next = 0; height = suc (length p); top = suc (length p); stem = 0; met = suc (length d); kept = length l }) 0
      (forget_above (length d) size number) parent index probes (forget_above (length d) size stamp)
      (retrace_walk parent (suc (length p)) s walk) (retrace_depth parent (suc (length p)) s (replicate 512 0)) (replicate 512 0)

  numbers : (x : ℕ) → In x (s ∷ d) → get_or (forget_above (length d) size number) x 0 ≡ get_or number x 0
  numbers x i = stays (length d) size number x (omega (arith, a.sizes.number_size, u.below x i)) (a.numbered x i)

  marked_below : (x : ℕ) → In x k → x < 512
  marked_below x i = u.below x (v.1.done x i).0

  stamps : (x : ℕ) → In x k → get_or (forget_above (length d) size stamp) x 0 ≡ get_or stamp x 0
  stamps x i = stays (length d) size stamp x (omega (arith, a.sizes.stamp_size, marked_below x i)) (a.stamped x i)

  core_fits : Fits g core r c
  core_fits = (
    record {
      sized = record {
        number_size = forget_length (length d) number size ∙ a.sizes.number_size;
        parent_size = a.sizes.parent_size;
        index_size = a.sizes.index_size;
        probes_size = a.sizes.probes_size;
        stamp_size = forget_length (length d) stamp size ∙ a.sizes.stamp_size;
        walk_size = walk_size parent (suc (length p)) s walk ∙ a.sizes.walk_size;
        depth_size = depth_size parent (suc (length p)) s (replicate 512 0) ∙ zeros_size;
        cursor_size = zeros_size;
      };
      notes_right = λ x i. ap (λ (n : ℕ). note n x) (numbers x i) ∙ a.notes_right x i;
      stamps_right = λ x i. stamp_all c (forget_above (length d) size stamp) x refl ∙ stamps x i ∙ a.stamps_right x i;
      undiscovered = λ x b o. lost (length d) size number x (omega (arith, a.sizes.number_size)) (a.numbered_later x b o) (λ z. (a.beyond x b z).0);
      unmarked = λ x b o. lost (length d) size stamp x (omega (arith, a.sizes.stamp_size)) (a.stamped_later x b o) (λ z. (a.beyond x b z).1);
      root_unmarked = λ x i. absurd (in_nil x i);
      met_right = refl;
      probes_right = add-zero (length l);
    },
    record {
      phase_is = refl;
      cur_is = refl;
      pending_is = refl;
      height_is = refl;
      walk_is = (drop (suc (length p)) walk, retrace_walk_lem g parent index p s (g.successors s) walk a.below (omega (arith, u.walk_few, a.sizes.walk_size)));
      places = retrace_placed g parent index p s (g.successors s) (replicate 512 0) a.below v.0.distinct
          (λ z o. omega (arith, zeros_size, u.below z (v.0.known z o)));
    },
  )
    where
      note : ℕ → ℕ → Note
      note n x = record { number = n; parent = get_or parent x 0; index = get_or index x 0; probes = get_or probes x 0 }

  -- REWOUND arrays stand for the configuration in which s was discovered
  pub rewound_fits : Fits g (rewound size g.start s 0 number parent index probes stamp walk) r c
  unfolding rewound
  rewound_fits =
      let h : climb parent g.start 512 s ≡ suc (length p) = climb_path g parent index 512 s p (omega (arith, u.walk_few)) a.below v.0.distinct in
      let l : get_or number s 0 % 512 ≡ length d = omega (arith, a.number_is, u.few) in
      let m : up (get_or number s 0 % 512) ≡ suc (length d) = ap up l ∙ up_more (length d) (omega (arith, u.few)) in
      subst (λ (y : Core). Fits g y r c) (sym (same_core h l m)) core_fits
    where
      same_core : climb parent g.start 512 s ≡ suc (length p) → get_or number s 0 % 512 ≡ length d → up (get_or number s 0 % 512) ≡ suc (length d)
          → rewound size g.start s 0 number parent index probes stamp walk ≡ core
      same_core h n m = λ i. core_of (record { phase = Outer; cur = s; next = 0; height = h i; top = h i; stem = 0; met = m i; kept = a.probes_are i }) 0
          (forget_above (n i) size number) parent index probes (forget_above (n i) size stamp)
          (retrace_walk parent (h i) s walk) (retrace_depth parent (h i) s (replicate 512 0)) (replicate 512 0)
