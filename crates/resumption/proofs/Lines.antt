-- Going through the lines of a call: which are passed over, and which states they name. Assumes nothing.
use mathlib.Core.Path.{◌≡◌, refl, sym, ap, ◌∙◌}
use mathlib.Core.Bool.{Bool, true, false, cond, ◌&&◌, ◌||◌}
use mathlib.Core.List.{List, [], ◌∷◌, ◌++◌}
use Prim.Native.Nat.{ℕ, zero, suc, ◌+◌, ◌*◌, ◌-◌, ◌≤◌, ◌<◌}
use native.Mathlib.Omega.{arith}
use lib.ListN.{length, get_or, take, drop, set, length-drop, length-set, drop_of_length-le}
use lib.Seq.{take_all, take-suc, take-suc-set, drop-cons, drop-drop}
use borrow.Author.Tests.{eq-eqb, ne_eqb}
use Rattle.plain.specs.Lists.{all}
use Rattle.plain.specs.Machine.{BatchLine as PlainLine}
use Rattle.rows.specs.declared.Rows.{Rows}
use Rattle.look.specs.Numbers.{no_number, plus}
use Rattle.batch.specs.declared.BatchLine.{BatchLine}
use Rattle.table.specs.declared.Subject.{Subject}
use Rattle.table.specs.declared.Switch.{Switch}
use Rattle.table.specs.Trials.{op_of}
use Rattle.table.specs.Filing.{named_by}
use Rattle.batch.specs.Batches.{line_in, is_change, switch_in, lines_in, states_in, head_line, op_for}
use Rattle.batch.proofs.Batches.{Making, change_line, other_line, lines_next, lines_end}
use Rattle.std.specs.Prelude.{None}
use Rattle.resumption.specs.Model.{copies_up, copies_up_all, unexplored_edge, unexplored_in, copy_passed_over, passed_over_in, all_passed_over, named_most, earliest_of, resumption_of}
use Rattle.resumption.proofs.Edges.{named_one, switched_edge, switched_mark}

-- ---- one line

abbrev first : List ℕ → ℕ
first [] = 0
first (x ∷ xs) = x

module _ (l : BatchLine) (rows : Rows) (number index walk : List ℕ) (height : ℕ) where
  -- in the layer of one copy
  abbrev here : ℕ → Bool
  here copy = copy_passed_over (op_of (switch_in l)) copy rows number index walk height

  module _ (copy : ℕ) where
    -- the copy was never met
    pub copy_unmet : get_or number copy 0 ≡ no_number → here copy ≡ true
    copy_unmet e = ap (λ (b : Bool). b || unexplored_in (op_of (switch_in l)) copy rows index walk (height - 1)) (eq-eqb (get_or number copy 0) no_number e)

    module _ (n : get_or number copy 0 ≡ no_number → ⊥) (x : Switch) (e : x ≡ switch_in l) where
      copy_met : here copy ≡ unexplored_in (op_of x) copy rows index walk (height - 1)
      copy_met =
          ap (λ (b : Bool). b || unexplored_in (op_of (switch_in l)) copy rows index walk (height - 1)) (ne_eqb (get_or number copy 0) no_number n)
          ∙ ap (λ (y : Switch). unexplored_in (op_of y) copy rows index walk (height - 1)) (sym e)

      -- an edge, or a mark
      pub copy_edge : (from to : ℕ) → x.subject ≡ Subject.Edge from to → here copy ≡ unexplored_edge x.on copy from to rows index walk (height - 1)
      copy_edge from to f = copy_met ∙ switched_edge x.on x.subject copy from to rows index walk (height - 1) f

      pub copy_mark : (state kind : ℕ) → x.subject ≡ Subject.Mark state kind → here copy ≡ false
      copy_mark state kind f = copy_met ∙ switched_mark x.on x.subject copy state kind rows index walk (height - 1) f

  module _ (size kinds : ℕ) where
    -- a line that makes no change
    pub passed_other : is_change l ≡ false → passed_over_in (line_in l) size kinds rows number index walk height ≡ true
    passed_other e = ap (λ (x : PlainLine). passed_over_in x size kinds rows number index walk height) (other_line l e)

    -- one that makes a change names its first number
    pub passed_copies : is_change l ≡ true → passed_over_in (line_in l) size kinds rows number index walk height ≡ all here (copies_up size kinds l.first)
    passed_copies c =
        ap (λ (x : PlainLine). passed_over_in x size kinds rows number index walk height) m.is
        ∙ (λ i. all (λ copy. copy_passed_over (sym m.switches i) copy rows number index walk height) (copies_up size kinds (names i)))
      where
        m : Making l
        m = change_line l c

        names : named_by (op_for m.change) ≡ l.first
        names = ap first (sym (named_one m.change) ∙ m.names)

-- going through the copies, from the one at hand on
pub copies_next : (size copy left : ℕ) → 0 < left → copies_up size left copy ≡ copy ∷ copies_up size (left - 1) (plus copy size)
unfolding copies_up
copies_next size copy left h = let e : left ≡ suc (left - 1) = omega arith in ap (λ (n : ℕ). copies_up size n copy) e

module _ (p : ℕ → Bool) (size copy left : ℕ) (h : 0 < left) where
  pub copies_stop : p copy ≡ false → all p (copies_up size left copy) ≡ false
  unfolding all
  copies_stop e = ap (all p) (copies_next size copy left h) ∙ ap (λ (b : Bool). b && all p (copies_up size (left - 1) (plus copy size))) e

  pub copies_on : p copy ≡ true → all p (copies_up size (left - 1) (plus copy size)) ≡ all p (copies_up size left copy)
  unfolding all
  copies_on e = sym (ap (all p) (copies_next size copy left h) ∙ ap (λ (b : Bool). b && all p (copies_up size (left - 1) (plus copy size))) e)

pub copies_end : (p : ℕ → Bool) (size copy left : ℕ) → left ≤ 0 → all p (copies_up size left copy) ≡ true
unfolding all copies_up
copies_end p size copy zero h = refl
copies_end p size copy (suc left) h = absurd (omega arith)

-- ---- all lines

module _ (ns : List ℕ) (at size kinds : ℕ) (rows : Rows) (number index walk : List ℕ) (height : ℕ) where
  abbrev passed : ℕ → Bool
  passed n = all_passed_over (lines_in (drop n ns)) size kinds rows number index walk height

  passed_next : at < length ns → passed at ≡ (passed_over_in (line_in (head_line (drop at ns))) size kinds rows number index walk height && passed (at + 3))
  unfolding all
  passed_next h = ap (λ (xs : List PlainLine). all_passed_over xs size kinds rows number index walk height) (lines_next ns at h)

  -- the line there is passed over, or it is not
  module _ (h : at < length ns) (l : BatchLine) (e : l ≡ head_line (drop at ns)) (r : Bool) (f : r ≡ passed_over_in (line_in l) size kinds rows number index walk height) where
    told : passed at ≡ (r && passed (at + 3))
    told = passed_next h ∙ ap (λ (b : Bool). b && passed (at + 3)) (ap (λ (x : BatchLine). passed_over_in (line_in x) size kinds rows number index walk height) (sym e) ∙ sym f)

    pub passed_stop : r ≡ false → passed at ≡ false
    passed_stop z = told ∙ ap (λ (b : Bool). b && passed (at + 3)) z

    pub passed_on : r ≡ true → passed (at + 3) ≡ passed at
    passed_on z = sym (told ∙ ap (λ (b : Bool). b && passed (at + 3)) z)

  pub passed_end : length ns ≤ at → passed at ≡ true
  unfolding all
  passed_end h = ap (λ (xs : List PlainLine). all_passed_over xs size kinds rows number index walk height) (lines_end ns at h)

-- ---- the states that they name

states_head : (l : List ℕ) → 0 < length l → states_in l ≡ (head_line l).first ∷ states_in (drop 3 l)
unfolding states_in
states_head [] k = absurd (omega arith)
states_head (a ∷ []) k = refl
states_head (a ∷ b ∷ []) k = refl
states_head (a ∷ b ∷ c ∷ l) k = refl

states_next : (ns : List ℕ) (at : ℕ) → at < length ns → states_in (drop at ns) ≡ (head_line (drop at ns)).first ∷ states_in (drop (at + 3) ns)
states_next ns at h = states_head (drop at ns) (omega (arith, length-drop at ns)) ∙ ap (λ (l : List ℕ). (head_line (drop at ns)).first ∷ states_in l) (drop-drop 3 at ns)

states_end : (ns : List ℕ) (at : ℕ) → length ns ≤ at → states_in (drop at ns) ≡ []
unfolding states_in
states_end ns at h = ap states_in (drop_of_length-le ns h)

-- the first n of them stand in a list, and the others are those of the numbers from a place on
pub record Named (ns states : List ℕ) (at n : ℕ) : Type 0 where
  pub place : at ≡ 3 * n
  pub few : n ≤ named_most
  pub size : length states ≡ named_most
  pub first_are : take n states ≡ take n (states_in ns)
  pub rest_are : drop n (states_in ns) ≡ states_in (drop at ns)

pub named_begun : (ns states : List ℕ) → length states ≡ named_most → Named ns states 0 0
named_begun ns states e = record { place = refl; few = omega arith; size = e; first_are = refl; rest_are = refl }

module _ (ns states : List ℕ) (at n : ℕ) (w : Named ns states at n) where
  -- one more
  pub named_on : at < length ns → n < named_most → (l : BatchLine) → l ≡ head_line (drop at ns) → (s : ℕ) → s ≡ l.first → Named ns (set states n s) (at + 3) (n + 1)
  named_on h k l e s f =
      let all = states_in ns in
      let next : drop n all ≡ s ∷ states_in (drop (at + 3) ns) = w.rest_are ∙ states_next ns at h ∙ ap (λ (x : ℕ). x ∷ states_in (drop (at + 3) ns)) (sym (f ∙ ap (λ (x : BatchLine). x.first) e)) in
      let some : n < length all = omega (arith, ap length next, length-drop n all) in
      let both : get_or all n 0 ∷ drop (suc n) all ≡ s ∷ states_in (drop (at + 3) ns) = sym (drop-cons all n 0 some) ∙ next in
      let here : get_or all n 0 ≡ s = cc in
      let rest : drop (suc n) all ≡ states_in (drop (at + 3) ns) = cc in
      let up : n + 1 ≡ suc n = omega arith in
      record {
        place = omega (arith, w.place);
        few = omega arith;
        size = length-set states n s ∙ w.size;
        first_are = ap (λ (i : ℕ). take i (set states n s)) up ∙ take-suc-set states n s (omega (arith, w.size))
            ∙ (λ i. w.first_are i ++ (sym here i ∷ [])) ∙ sym (take-suc all n 0 some) ∙ ap (λ (i : ℕ). take i all) (sym up);
        rest_are = ap (λ (i : ℕ). drop i all) up ∙ rest;
      }

  -- all of them, or as many as a batch may name
  pub named_all_lem : length ns ≤ at → take n states ≡ take named_most (states_in ns)
  named_all_lem h =
      let all = states_in ns in
      let short : length all ≤ n = omega (arith, ap length (w.rest_are ∙ states_end ns at h), length-drop n all) in
      w.first_are ∙ take_all n all short ∙ sym (take_all named_most all (omega (arith, w.few)))

  pub named_full : n ≡ named_most → take n states ≡ take named_most (states_in ns)
  named_full e = w.first_are ∙ ap (λ (i : ℕ). take i (states_in ns)) e

-- ---- where the search is taken up

module _ (size kinds : ℕ) (ns : List ℕ) (rows : Rows) (number index walk : List ℕ) (height : ℕ) where
  abbrev copies : List ℕ
  copies = copies_up_all size kinds (take named_most (states_in ns))

  pub resumption_nowhere : all_passed_over (lines_in ns) size kinds rows number index walk height ≡ true → resumption_of size kinds ns rows number index walk height ≡ None
  unfolding resumption_of
  resumption_nowhere e = ap (λ (b : Bool). cond b None (earliest_of copies number)) e

  pub resumption_earliest : all_passed_over (lines_in ns) size kinds rows number index walk height ≡ false → resumption_of size kinds ns rows number index walk height ≡ earliest_of copies number
  unfolding resumption_of
  resumption_earliest e = ap (λ (b : Bool). cond b None (earliest_of copies number)) e
