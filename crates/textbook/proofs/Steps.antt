-- What each part of the two functions does to a configuration of the plain search that the board shows. Assumes nothing.
use mathlib.Core.Path.{◌≡◌, refl, sym, ap, subst, subst⁻¹, ◌∙◌}
use mathlib.Core.Logic.{⊎_elim}
use mathlib.Core.Bool.{Bool, true, false, cond}
use mathlib.Core.List.{List, [], ◌∷◌, ◌++◌, append_assoc}
use Prim.Native.Nat.{ℕ, suc, ◌+◌, ◌≤◌, ◌<◌}
use native.Mathlib.Omega.{arith}
use lib.Dec.{eqb, ltb}
use lib.ListN.{length, get_or, set, drop, length-append}
use borrow.Author.Tests.{lt-ltb, le-ltb}
use Rattle.std.specs.Prelude.{Option, None, Some}
use Rattle.plain.specs.Lists.{elem, In, before, from, Begins}
use Rattle.plain.specs.Search.{Graph, Edge, Frame, frame, on_path, Config, outer, nested, marked_of, discovered_of, count, steps, step, visit, finish, probe, states_of, stem_of, cycle_of}
use Rattle.plain.specs.Limits.{Limits}
use Rattle.plain.proofs.Tests.{either, in_head}
use Rattle.plain.proofs.Paths.{On, Off, on_head}
use Rattle.plain.proofs.Invariant.{Inv, inv_run}
use Rattle.plain.proofs.Lassos.{before_from, on_states, states_on, before_hit, before_miss, path_run}
use Rattle.plain.proofs.Walks.{begins_push, begins_pop, states_length}
use Rattle.plain.proofs.Limits.{marked_known}
use Rattle.rows.specs.Rows.{entries, place_of}
use Rattle.rows.proofs.Entries.{entries_front}
use Rattle.table.proofs.Places.{place_hit, place_miss, has_place_lem, same_test}
use Rattle.look.specs.Numbers.{up}
use Rattle.look.specs.declared.Layout.{Layout}
use Rattle.look.proofs.Counting.{up_more}
use Rattle.textbook.specs.declared.Walk.{Walk}
use Rattle.textbook.specs.Search.{board_of, Reads, conf, under, Reached, Shows, Going, Stopped, Ends}
use Rattle.textbook.specs.declared.Board.{Board}
use Rattle.look.specs.Sets.{Members}
use Rattle.look.proofs.Sets.{members_insert}

-- the search's own set, and the states that are in it
abbrev pub own : Bool → Board → List Bool
own nesting B = cond nesting B.marked B.met

abbrev seen : Bool → List ℕ → List ℕ → List ℕ
seen nesting d k = cond nesting k d

-- the board, with the count of looks one higher
abbrev pub looked_at : Board → ℕ → Board
looked_at B spent = board_of B.met B.marked B.walk spent

-- ---- the walk

push_walk : (P : List ℕ) (q : List Frame) (v place : ℕ) (ts walk walk' : List ℕ) → place ≡ length P + length q → length walk ≡ 512 → length P + length q < 512 → walk' ≡ set walk place v
    → Begins (P ++ states_of q) walk → Begins (P ++ states_of (frame v ts ∷ q)) walk'
unfolding states_of
push_walk P q v place ts walk walk' e z h f b =
    let n : length (P ++ states_of q) ≡ length P + length q = omega (arith, length-append P (states_of q), states_length q) in
    let r = begins_push (P ++ states_of q) walk v place (omega arith) z (omega arith) b in
    (r.0, f ∙ r.1 ∙ simp append_assoc)

pop_walk : (P : List ℕ) (q : List Frame) (v : ℕ) (ts walk : List ℕ) → Begins (P ++ states_of (frame v ts ∷ q)) walk → Begins (P ++ states_of q) walk
unfolding states_of
pop_walk P q v ts walk (rest, f) = (v ∷ rest, f ∙ simp append_assoc)

-- the walk begins with the open path: the nested search's path begins with the state from which it was started
open_walk : (s : ℕ) (p q : List Frame) (w walk : List ℕ) → states_of q ≡ s ∷ w → Begins (states_of p ++ states_of q) walk → Begins (states_of (frame s [] ∷ p)) walk
unfolding states_of
open_walk s p q w walk e (rest, f) = (w ++ rest, f ∙ ap (λ (l : List ℕ). (states_of p ++ l) ++ rest) e ∙ simp append_assoc)

-- ---- the place on the open path

module _ (walk : List ℕ) (p : List Frame) (height t at : ℕ) (high : height ≡ length p) (b : Begins (states_of p) walk) (is : at ≡ place_of t (entries height 0 walk)) where
  at_place : at ≡ place_of t (states_of p)
  at_place = is ∙ ap (place_of t) ((λ i. entries ((high ∙ sym (states_length p)) i) 0 (b.1 i)) ∙ entries_front (states_of p) b.0)

  below_on : ltb at height ≡ on_path t p
  below_on = (λ i. ltb (at_place i) ((high ∙ sym (states_length p)) i)) ∙ has_place_lem t (states_of p) ∙ same_test (elem t (states_of p)) (on_path t p) (states_on t p) (on_states t p)

place_before : (t : ℕ) (xs : List ℕ) → place_of t xs ≡ length (before t xs)
unfolding place_of before
place_before t [] = refl
place_before t (x ∷ xs) = ⊎_elim
    (λ e. place_hit t x xs e ∙ sym (ap length (before_hit t x xs e)))
    (λ e. place_miss t x xs e ∙ ap suc (place_before t xs) ∙ sym (ap length (before_miss t x xs e))) (either (eqb t x))

-- v was put on the path: at its place on the walk, and into the search's own set
pub record Entered (nesting : Bool) (v place : ℕ) (B B' : Board) : Type 0 where
  pub met_is : B'.met ≡ cond nesting B.met (set B.met v true)
  pub marked_is : B'.marked ≡ cond nesting (set B.marked v true) B.marked
  pub walk_is : B'.walk ≡ set B.walk place v
  pub spent_is : B'.spent ≡ B.spent

module _ (g : Graph) where
  -- ---- one step more

  onward : (c : Config) → Reached g c → Reached g (step g c)
  unfolding steps
  onward c (n, e) = (suc n, ap (step g) e)

  module _ {targets : List ℕ} {layout : Layout} (f : Reads targets layout g) where
    within : (c : Config) → Reached g c → Limits g c
    within c (n, e) = subst (Limits g) e (f.limits n)

    known : (c : Config) → Reached g c → (x : ℕ) → In x (marked_of c) → x < 512
    known c (n, e) x i = (within c (n, e)).below x (subst (λ (y : Config). In x (marked_of y) → In x (discovered_of y)) e (marked_known g n x) i)

    -- the path of a nested search begins with the state from which it was started
    bottom : (s : ℕ) (p : List Frame) (x : ℕ) (ts : List ℕ) (q : List Frame) (d k : List ℕ) (l : List Edge) → Reached g (nested s p (frame x ts ∷ q) d k l)
        → (w : List ℕ) × (states_of (frame x ts ∷ q) ≡ s ∷ w)
    bottom s p x ts q d k l (n, e) =
        let i : Inv g (nested s p (frame x ts ∷ q) d k l) = subst (Inv g) e (inv_run g n) in
        let w = path_run g q s x ts i.1.1.chain in
        (w.0, w.1)

    -- the newest state of the path that is worked on is one below 512
    pub top_below : (nesting : Bool) (s : ℕ) (p : List Frame) (x : ℕ) (ts : List ℕ) (q : List Frame) (d k : List ℕ) (l : List Edge) → Reached g (conf nesting s p (frame x ts ∷ q) d k l) → x < 512
    top_below false s p x ts q d k l (n, e) =
        let i : Inv g (outer (frame x ts ∷ q) d k l) = subst (Inv g) e (inv_run g n) in
        (within _ (n, e)).below x (i.0.known x (on_head x ts q))
    top_below true s p x ts q d k l (n, e) =
        let i : Inv g (nested s p (frame x ts ∷ q) d k l) = subst (Inv g) e (inv_run g n) in
        known _ (n, e) x (i.1.1.known x (on_head x ts q))

    -- one look more
    counted : (c : Config) → Reached g c → (spent spent' : ℕ) → spent' ≡ up spent → spent ≡ count c → spent' ≡ suc (count c)
    counted c r spent spent' e h = e ∙ up_more spent (omega (arith, (within c r).probes_few)) ∙ ap suc h

    -- ---- v is put on the path

    module _ (s v place : ℕ) (p q : List Frame) (d k : List ℕ) (l : List Edge) where
      -- there is room for it
      pub enter_room : (nesting : Bool) (ts : List ℕ) → Reached g (conf nesting s p (frame v ts ∷ q) d k l) → place ≡ length (under nesting p) + length q → place < 512
      enter_room true ts r e = omega (arith, (within _ r).walk_few)
      enter_room false ts r e = omega (arith, (within _ r).walk_few)

      module _ {B B' : Board} (walk_size : length B.walk ≡ 512) where
        pub entered : (nesting : Bool) → Entered nesting v place B B' → length (own nesting B) ≡ 512
            → Reached g (conf nesting s p (frame v (g.successors v) ∷ q) (cond nesting d (v ∷ d)) (cond nesting (v ∷ k) k) l) → Shows nesting B p q d k l → place ≡ length (under nesting p) + length q
            → Shows nesting B' p (frame v (g.successors v) ∷ q) (cond nesting d (v ∷ d)) (cond nesting (v ∷ k) k) l
        unfolding states_of
        entered true y z r h e = record {
          met_right = subst⁻¹ (λ (m : List Bool). Members m d) y.met_is h.met_right;
          marked_right = members_insert B.marked B'.marked k v z (known _ r v (in_head v k)) y.marked_is h.marked_right;
          walk_right = push_walk (states_of p) q v place (g.successors v) B.walk B'.walk (omega (arith, states_length p)) walk_size (omega (arith, states_length p, (within _ r).walk_few)) y.walk_is h.walk_right;
          spent_right = y.spent_is ∙ h.spent_right;
        }
        entered false y z r h e = record {
          met_right = members_insert B.met B'.met d v z ((within _ r).below v (in_head v d)) y.met_is h.met_right;
          marked_right = subst⁻¹ (λ (m : List Bool). Members m k) y.marked_is h.marked_right;
          walk_right = push_walk [] q v place (g.successors v) B.walk B'.walk e walk_size (omega (arith, (within _ r).walk_few)) y.walk_is h.walk_right;
          spent_right = y.spent_is ∙ h.spent_right;
        }

    -- ---- a look at the edge from x to t

    module _ (B : Board) (s : ℕ) (p : List Frame) (x t : ℕ) (ts : List ℕ) (q : List Frame) (d k : List ℕ) (l : List Edge) (spent' : ℕ) (raises : spent' ≡ up B.spent) where
      abbrev E : Board
      E = looked_at B spent'

      shown : (nesting : Bool) → Reached g (conf nesting s p (frame x (t ∷ ts) ∷ q) d k l) → Shows nesting B p (frame x (t ∷ ts) ∷ q) d k l → Shows nesting E p (frame x ts ∷ q) d k ((x, t) ∷ l)
      unfolding states_of
      shown nesting r h = record {
        met_right = h.met_right;
        marked_right = h.marked_right;
        walk_right = h.walk_right;
        spent_right = by_search nesting r h.spent_right;
      }
        where
          by_search : (b : Bool) → Reached g (conf b s p (frame x (t ∷ ts) ∷ q) d k l) → B.spent ≡ length l → spent' ≡ suc (length l)
          by_search true r h = counted _ r B.spent spent' raises h
          by_search false r h = counted _ r B.spent spent' raises h

      -- the target is not on the open path, which the nested search looks for
      abbrev pub Apart : Bool → Type 0
      Apart nesting = nesting ≡ true → Off t (frame s [] ∷ p)

      -- where the step comes to: is the target in the set?
      abbrev after : Bool → Bool → Config
      after nesting true = conf nesting s p (frame x ts ∷ q) d k ((x, t) ∷ l)
      after nesting false = conf nesting s p (frame t (g.successors t) ∷ frame x ts ∷ q) (cond nesting d (t ∷ d)) (cond nesting (t ∷ k) k) ((x, t) ∷ l)

      -- "If the target has not been discovered, it is discovered"; "If the target is unmarked, it is searched in the same way"
      stepped : (nesting b : Bool) → Apart nesting → elem t (seen nesting d k) ≡ b → Reached g (conf nesting s p (frame x (t ∷ ts) ∷ q) d k l) → Reached g (after nesting b)
      unfolding step
      stepped false true o e r = subst (λ (y : Bool). Reached g (visit g y x t ts q d k ((x, t) ∷ l))) e (onward (outer (frame x (t ∷ ts) ∷ q) d k l) r)
      stepped false false o e r = subst (λ (y : Bool). Reached g (visit g y x t ts q d k ((x, t) ∷ l))) e (onward (outer (frame x (t ∷ ts) ∷ q) d k l) r)
      stepped true true o e r =
          subst (λ (y : Bool × Bool). Reached g (probe g y.0 y.1 s p x t ts q d k ((x, t) ∷ l))) (λ i. (o refl i, e i)) (onward (nested s p (frame x (t ∷ ts) ∷ q) d k l) r)
      stepped true false o e r =
          subst (λ (y : Bool × Bool). Reached g (probe g y.0 y.1 s p x t ts q d k ((x, t) ∷ l))) (λ i. (o refl i, e i)) (onward (nested s p (frame x (t ∷ ts) ∷ q) d k l) r)

      target_below : (nesting b : Bool) → Apart nesting → elem t (seen nesting d k) ≡ b → Reached g (conf nesting s p (frame x (t ∷ ts) ∷ q) d k l) → t < 512
      target_below false true o e r = (within _ r).below t e
      target_below false false o e r = (within _ (stepped false false o e r)).below t (in_head t d)
      target_below true true o e r = known _ r t e
      target_below true false o e r = known _ (stepped true false o e r) t (in_head t k)

      own_is : (nesting : Bool) → Apart nesting → Reached g (conf nesting s p (frame x (t ∷ ts) ∷ q) d k l) → Shows nesting B p (frame x (t ∷ ts) ∷ q) d k l → get_or (own nesting B) t true ≡ elem t (seen nesting d k)
      own_is true o r h = h.marked_right t (target_below true (elem t k) o refl r)
      own_is false o r h = h.met_right t (target_below false (elem t d) o refl r)

      module _ (nesting : Bool) (o : Apart nesting) (r : Reached g (conf nesting s p (frame x (t ∷ ts) ∷ q) d k l)) (h : Shows nesting B p (frame x (t ∷ ts) ∷ q) d k l) where
        pub passes : get_or (own nesting B) t true ≡ true → Going g nesting s p (frame x ts ∷ q) E
        passes e = record { d = d; k = k; l = (x, t) ∷ l; reached = stepped nesting true o (sym (own_is nesting o r h) ∙ e) r; shows = shown nesting r h }

        pub enters : get_or (own nesting B) t true ≡ false
            → Reached g (conf nesting s p (frame t (g.successors t) ∷ frame x ts ∷ q) (cond nesting d (t ∷ d)) (cond nesting (t ∷ k) k) ((x, t) ∷ l)) × Shows nesting E p (frame x ts ∷ q) d k ((x, t) ∷ l)
        enters e = (stepped nesting false o (sym (own_is nesting o r h) ∙ e) r, shown nesting r h)

      -- "If the target is on the open path, a free round is found and everything stops": its place on it
      module _ (height at : ℕ) (high : height ≡ suc (length p)) (is : at ≡ place_of t (entries height 0 B.walk))
          (r : Reached g (nested s p (frame x (t ∷ ts) ∷ q) d k l)) (h : Shows true B p (frame x (t ∷ ts) ∷ q) d k l) where
        abbrev path : List Frame
        path = frame s [] ∷ p

        opened : Begins (states_of path) B.walk
        opened = let w = bottom s p x (t ∷ ts) q d k l r in open_walk s p (frame x (t ∷ ts) ∷ q) w.0 B.walk w.1 h.walk_right

        pub apart : height ≤ at → Off t path
        apart e = sym (below_on B.walk path height t at high opened is) ∙ le-ltb at height e

        -- stem and round are the open path, and what is behind its last state on the nested search's path
        whole : stem_of t path ++ cycle_of t path (frame x ts ∷ q) ≡ states_of p ++ states_of (frame x ts ∷ q)
        unfolding stem_of cycle_of states_of
        whole =
            let w = bottom s p x (t ∷ ts) q d k l r in
            let e : states_of (frame x ts ∷ q) ≡ s ∷ w.0 = w.1 in
            sym (append_assoc (before t (states_of path)) (from t (states_of path)) (drop 1 (states_of (frame x ts ∷ q))))
            ∙ ap (λ (y : List ℕ). y ++ drop 1 (states_of (frame x ts ∷ q))) (before_from t (states_of path))
            ∙ ap (λ (y : List ℕ). states_of path ++ drop 1 y) e
            ∙ append_assoc (states_of p) (s ∷ []) w.0
            ∙ ap (λ (y : List ℕ). states_of p ++ y) (sym e)

        pub closes : (place : ℕ) → place ≡ length p + suc (length q) → at < height → Stopped g E at place
        unfolding step stem_of states_of
        closes place topped low =
            let o : On t path = sym (below_on B.walk path height t at high opened is) ∙ lt-ltb at height low in
            let n : length (states_of p ++ states_of (frame x ts ∷ q)) ≡ length p + suc (length q) =
            omega (arith, length-append (states_of p) (states_of q ++ (x ∷ [])), length-append (states_of q) (x ∷ []), states_length p, states_length q) in
            record {
              h = t;
              p = path;
              q = frame x ts ∷ q;
              d = d;
              k = k;
              l = (x, t) ∷ l;
              reached = subst (λ (y : Bool). Reached g (probe g y (elem t k) s p x t ts q d k ((x, t) ∷ l))) o (onward (nested s p (frame x (t ∷ ts) ∷ q) d k l) r);
              stem_is = at_place B.walk path height t at high opened is ∙ place_before t (states_of path);
              length_is = omega (arith, ap length whole, length-append (stem_of t path) (cycle_of t path (frame x ts ∷ q)));
              walk_is = (h.walk_right.0, h.walk_right.1 ∙ ap (λ (y : List ℕ). y ++ h.walk_right.0) (sym whole));
              spent_is = counted _ r B.spent spent' raises h.spent_right;
            }

    -- ---- the edges of v are all taken

    module _ (B : Board) (s v : ℕ) (p q : List Frame) where
      -- v leaves the nested search's path
      pub leaves_nested : Going g true s p (frame v [] ∷ q) B → Going g true s p q B
      unfolding step
      leaves_nested w = record {
        d = w.d;
        k = w.k;
        l = w.l;
        reached = onward (nested s p (frame v [] ∷ q) w.d w.k w.l) w.reached;
        shows = record {
          met_right = w.shows.met_right;
          marked_right = w.shows.marked_right;
          walk_right = pop_walk (states_of p) q v [] B.walk w.shows.walk_right;
          spent_right = w.shows.spent_right;
        };
      }

      finished : (a : Bool) → g.accepting v ≡ a → (w : Going g false s p (frame v [] ∷ q) B) → Reached g (finish g a v q w.d w.k w.l)
      unfolding step
      finished a e w = subst (λ (y : Bool). Reached g (finish g y v q w.d w.k w.l)) e (onward (outer (frame v [] ∷ q) w.d w.k w.l) w.reached)

      -- v leaves the open path
      pub leaves_outer : g.accepting v ≡ false → Going g false s p (frame v [] ∷ q) B → Going g false s p q B
      unfolding states_of
      leaves_outer e w = record {
        d = w.d;
        k = w.k;
        l = w.l;
        reached = finished false e w;
        shows = record {
          met_right = w.shows.met_right;
          marked_right = w.shows.marked_right;
          walk_right = pop_walk [] q v [] B.walk w.shows.walk_right;
          spent_right = w.shows.spent_right;
        };
      }

      -- "After its last move, if the state pays, a nested search starts from it."
      pub record Starts : Type 0 where
        pub d : List ℕ
        pub k : List ℕ
        pub l : List Edge
        pub reached : Reached g (nested v q (frame v (g.successors v) ∷ []) d (v ∷ k) l)
        pub shows : Shows true B q [] d k l

      pub starts_nested : g.accepting v ≡ true → Going g false s p (frame v [] ∷ q) B → Starts
      unfolding states_of
      starts_nested e w = record {
        d = w.d;
        k = w.k;
        l = w.l;
        reached = finished true e w;
        shows = record {
          met_right = w.shows.met_right;
          marked_right = w.shows.marked_right;
          walk_right = pop_walk (states_of q) [] v [] B.walk w.shows.walk_right;
          spent_right = w.shows.spent_right;
        };
      }

      -- "when the nested search ends without success, the state leaves the open path"
      pub returns_outer : (r : Option Walk) → Ends g true v q [] B r → Ends g false s p q B r
      unfolding step states_of
      returns_outer (Some walk) w = w
      returns_outer None w = record {
        d = w.d;
        k = w.k;
        l = w.l;
        reached = onward (nested v q [] w.d w.k w.l) w.reached;
        shows = record {
          met_right = w.shows.met_right;
          marked_right = w.shows.marked_right;
          walk_right = begins_pop (states_of q) [] B.walk w.shows.walk_right;
          spent_right = w.shows.spent_right;
        };
      }
