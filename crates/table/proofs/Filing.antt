-- The moves of a list, filed one by one into empty rows. Assumes nothing.
use mathlib.Core.Path.{◌≡◌, refl, sym, ap, subst, ◌∙◌}
use mathlib.Core.Logic.{⊎_elim}
use mathlib.Core.Bool.{Bool, true, false, true≢false}
use mathlib.Core.List.{List, [], ◌∷◌, ◌++◌, append-nil, append_assoc}
use Prim.Native.Nat.{ℕ, ◌%◌, ◌≤◌, ◌<◌}
use native.Mathlib.Decide.{ℕ_discrete}
use native.Mathlib.Omega.{arith}
use lib.Dec.{eqb, ltb}
use lib.ListN.{length, replicate, length-append}
use borrow.Author.Tests.{ltb-false, ne_eqb}
use Rattle.plain.specs.Lists.{any, elem}
use Rattle.plain.specs.Search.{Edge}
use Rattle.plain.specs.Table.{row, by_kind}
use Rattle.plain.specs.Refusals.{first_held, bad_size, bad_count, outside, room_condition, pairs, present, repeated, Load}
use Rattle.plain.proofs.Tests.{or_first, or_second, or-false, none_cons}
use Rattle.plain.proofs.Edges.{Has, has_head, has_tail, has_cases, has_nil}
use Rattle.plain.proofs.Rows.{row_nil, row_has, has_row, row_add, row_add_other}
use Rattle.plain.proofs.Tables.{length_pairs, repeated_add, inside_both}
use Rattle.rows.specs.Rows.{row_at, edge_count, place_of}
use Rattle.rows.specs.declared.Rows.{Rows}
use Rattle.rows.specs.Change.{rows_of, inserted}
use Rattle.rows.proofs.Entries.{row_length}
use Rattle.rows.proofs.Empty.{empty_row, empty_count, empty_compressed}
use Rattle.rows.proofs.Change.{inserts_edge}
use Rattle.table.specs.declared.Trial.{Trial}
use Rattle.table.specs.declared.Trial.TheVariants.{Accepted, Refused}
use Rattle.table.specs.Trials.{tried, early_trial, there}
use Rattle.table.specs.Filing.{Filed, Empty, Limits, FiledAll, Tried}
use Rattle.table.proofs.Places.{has_place_lem, same_test}
use Rattle.table.proofs.Pairs.{move_of, pairs_next, pairs_end}
use Rattle.table.proofs.Trying.{stop, skip, early_held, Early, early_free}

-- ---- an edge is present exactly when its target has a place in its row

pub there_present : (targets starts : List ℕ) (es : List Edge) (v t : ℕ) → row_at targets starts v ≡ row es v → there targets starts v t ≡ present es (v, t)
there_present targets starts es v t e =
    ap (ltb (place_of t (row_at targets starts v))) (sym (row_length targets starts v))
    ∙ has_place_lem t (row_at targets starts v)
    ∙ ap (elem t) e
    ∙ same_test (elem t (row es v)) (present es (v, t)) (row_has es v t) (has_row es v t)

-- ---- lists of edges, one behind the other

none_within : (p : Edge → Bool) (es : List Edge) (e : Edge) (rest : List Edge) → any p (es ++ (e ∷ rest)) ≡ false → p e ≡ false
none_within p [] e rest h = (none_cons p e rest h).0
none_within p (x ∷ es) e rest h = none_within p es e rest (none_cons p x (es ++ (e ∷ rest)) h).1

has_within : (es : List Edge) (e : Edge) (rest : List Edge) → Has (es ++ (e ∷ rest)) e
has_within [] e rest = has_head e rest
has_within (x ∷ es) e rest = has_tail e x (es ++ (e ∷ rest)) (has_within es e rest)

twice : (es : List Edge) (e : Edge) (rest : List Edge) → Has es e → repeated (es ++ (e ∷ rest)) ≡ true
unfolding repeated
twice [] e rest h = has_nil e h
twice (x ∷ es) e rest h = ⊎_elim
    (λ z. or_first (present (es ++ (e ∷ rest)) x) (repeated (es ++ (e ∷ rest))) (subst (λ (y : Edge). present (es ++ (e ∷ rest)) y ≡ true) z (has_within es e rest)))
    (λ k. or_second (present (es ++ (e ∷ rest)) x) (repeated (es ++ (e ∷ rest))) (twice es e rest k)) (has_cases e x es h)

-- ---- an edge more

pub filed_insert : (size : ℕ) (edges : List Edge) (e : Edge) (r r' : Rows) → Filed size edges r → e.0 < size → edge_count r.starts size < 2048 → r' ≡ inserted size e.0 e.1 r
    → Filed size (edges ++ (e ∷ [])) r'
filed_insert size edges e r r' f small free new =
    let s = inserts_edge size e.0 e.1 r r' new f.compressed small free in
    record {
      compressed = s.rows.compressed;
      rows_are = λ v. elim (ℕ_discrete v e.0) [
        | yes z ↦ subst (λ (u : ℕ). row_at r'.targets r'.starts u ≡ row (edges ++ (e ∷ [])) u) (sym z)
            (s.rows.here ∙ ap (λ (l : List ℕ). l ++ (e.1 ∷ [])) (f.rows_are e.0) ∙ sym (row_add edges e))
        | no n ↦ s.rows.others v n ∙ f.rows_are v ∙ sym (row_add_other edges e v (ne_eqb e.0 v (λ z. n (sym z))))
      ];
      count_is = s.count ∙ omega (arith, f.count_is, length-append edges (e ∷ []));
    }

-- ---- what is filed of a list of numbers, with the rest that is left of it

module _ (size : ℕ) where
  pub record FiledTo (numbers left : List ℕ) (rows : Rows) : Type 0 where
    pub edges : List Edge
    pub filed : Filed size edges rows
    pub once : repeated edges ≡ false
    pub split : pairs numbers ≡ edges ++ pairs left

  none_filed : (numbers : List ℕ) → size ≤ 512 → FiledTo numbers numbers (rows_of (replicate 2048 0) (replicate 513 0))
  unfolding repeated
  none_filed numbers h = record {
    edges = [];
    filed = record {
      compressed = empty_compressed size h;
      rows_are = λ v. empty_row v ∙ sym (row_nil v);
      count_is = empty_count size;
    };
    once = refl;
    split = refl;
  }

  pub filed_none : (numbers : List ℕ) (rows : Rows) → Limits size numbers rows.targets rows.starts → (left : List ℕ) → left ≡ numbers → FiledTo numbers left rows
  filed_none numbers rows l left e =
      subst (λ (r : Rows). FiledTo numbers left r) (λ i. rows_of (sym l.empty.no_targets i) (sym l.empty.no_starts i))
      (subst (λ (ns : List ℕ). FiledTo numbers ns (rows_of (replicate 2048 0) (replicate 513 0))) (sym e) (none_filed numbers l.states))

  module _ (numbers left : List ℕ) (rows : Rows) (f : FiledTo numbers left rows) where
    -- ---- nothing is left

    module _ (n : ℕ) (short : length left < n) (e : n ≡ 2) where
      whole : f.edges ≡ pairs numbers
      whole = sym (f.split ∙ ap (λ (es : List Edge). f.edges ++ es) (pairs_end left n short e) ∙ append-nil f.edges)

      pub ended : FiledAll size numbers false rows.targets rows.starts
      ended = record {
        repeats = sym f.once ∙ ap repeated whole;
        filed = λ z. subst (λ (es : List Edge). Filed size es rows) whole f.filed;
      }

    -- ---- the next move, and whether it is there

    module _ (two rest : List ℕ) (n : ℕ) (next : (left ≡ two ++ rest) × (length two ≡ n)) (e : n ≡ 2) (b : Bool) (asked : b ≡ there rows.targets rows.starts (move_of two).0 (move_of two).1) where
      abbrev move : Edge
      move = move_of two

      parts : pairs numbers ≡ f.edges ++ (move ∷ pairs rest)
      parts = f.split ∙ ap (λ (es : List Edge). f.edges ++ es) (pairs_next left two rest n next e)

      test : b ≡ present f.edges move
      test = asked ∙ there_present rows.targets rows.starts f.edges move.0 move.1 (f.filed.rows_are move.0)

      pub refused : b ≡ true → FiledAll size numbers true rows.targets rows.starts
      refused h = record {
        repeats = sym (ap repeated parts ∙ twice f.edges move (pairs rest) (sym test ∙ h));
        filed = λ z. absurd (true≢false z);
      }

      module _ (targets₀ starts₀ : List ℕ) (l : Limits size numbers targets₀ starts₀) where
        source : move.0 < size
        source =
            let o : outside size move ≡ false = none_within (outside size) f.edges move (pairs rest) (ap (any (outside size)) (sym parts) ∙ l.within) in
            (inside_both size move o).0

        room : edge_count rows.starts size < 2048
        room = omega (arith, l.few, ap length parts, length-append f.edges (move ∷ pairs rest), f.filed.count_is)

        pub went_on : b ≡ false → (rows' : Rows) → rows' ≡ inserted size move.0 move.1 rows → FiledTo numbers rest rows'
        went_on h rows' new = record {
          edges = f.edges ++ (move ∷ []);
          filed = filed_insert size f.edges move rows rows' f.filed source room new;
          once = repeated_add f.edges move f.once (sym test ∙ h);
          split = parts ∙ sym (append_assoc f.edges (move ∷ []) (pairs rest));
        }

-- ---- the trial of a load

pub not_accepted : {n : ℕ} → Refused n ≡ Accepted → ⊥
not_accepted e = let z : ◌≡◌ {A = ℕ} 0 1 = cc in omega arith

module _ (size start kinds : ℕ) (marks numbers : List ℕ) (room : ℕ) (early : Trial) (e : early ≡ tried (early_trial size start kinds marks numbers)) where
  abbrev l : Load
  l = record { size = size; start = start; kinds = kinds; marks = by_kind marks; numbers = numbers }

  pub tried_early : (targets starts : List ℕ) → (early ≡ Accepted → ⊥) → Tried l room early targets starts
  tried_early targets starts n = record {
    trial_is = e ∙ early_held size start kinds marks numbers room (λ z. n (e ∙ z));
    filed = λ z. absurd (n z);
  }

  module _ (z : early ≡ Accepted) where
    passed : Early size start kinds marks numbers room
    passed = early_free size start kinds marks numbers room (sym e ∙ z)

    states : l.size ≤ 512
    unfolding bad_size
    states = ltb-false 512 l.size (or-false (eqb l.size 0) (ltb 512 l.size) passed.size_ok).1

    few : length (pairs l.numbers) ≤ 2048
    unfolding bad_count
    few = omega (arith, length_pairs l.numbers, ltb-false 4096 (length l.numbers) (or-false (eqb (length l.numbers % 2) 1) (ltb 4096 (length l.numbers)) passed.count_ok).1)

    -- a list that passes the early trial may be filed
    pub may_be_filed : (targets starts : List ℕ) → Empty targets starts → Limits l.size l.numbers targets starts
    may_be_filed targets starts x = record { empty = x; states = states; within = passed.inside_ok; few = few }

    module _ (b : Bool) (targets starts : List ℕ) (f : FiledAll l.size l.numbers b targets starts) where
      pub tried_twice : b ≡ true → Tried l room (Refused 8) targets starts
      tried_twice t = record {
        trial_is = passed.rest (Refused 8) (stop 8 _ _ (sym f.repeats ∙ t));
        filed = λ n. absurd (not_accepted n);
      }

      module _ (t : b ≡ false) where
        -- nothing stands twice: 11 decides
        pub tried_filed : (r : Trial) → r ≡ tried (first_held (room_condition l.size l.kinds room)) → Tried l room r targets starts
        tried_filed r h = record {
          trial_is = passed.rest r (skip r 8 _ _ (sym f.repeats ∙ t) h);
          filed = λ n. f.filed t;
        }
