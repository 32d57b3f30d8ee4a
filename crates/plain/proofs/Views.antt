-- Ticket 7: the search and the calls see of a table its rows and its marks, not the order of its list of moves. Assumes nothing.
use mathlib.Core.Path.{◌≡◌, refl, sym, ap, ◌∙◌}
use mathlib.Core.Logic.{⊎_elim}
use mathlib.Core.Bool.{Bool, true, false, ◌||◌, not}
use mathlib.Core.List.{List, [], ◌∷◌, ◌++◌, map}
use Prim.Native.Nat.{ℕ, suc, ◌+◌, ◌*◌, ◌-◌, ◌/◌, ◌≤◌, ◌<◌}
use native.Mathlib.Decide.{dec_lt}
use native.Mathlib.Omega.{arith}
use lib.Dec.{eqb, ltb}
use lib.ListN.{length, get_or, set, length-append, length-set, get_or-eq_default}
use lib.Seq.{set_out, get_or-set_same, get_or-set_other}
use borrow.Author.Tests.{eqb-false}
use Rattle.plain.specs.Lists.{any, all}
use Rattle.plain.specs.Search.{Edge, Config, begin, probes_of, meets, finished, run, until, Verdict, none, lasso, unfinished, verdict, count}
use Rattle.plain.specs.Cycles.{Kinded}
use Rattle.plain.specs.Table.{Table, accepts, with_mark, without_mark, carried_by, row, game_of, searched, copies_in, printed_verdict, budget, final, first_meeting}
use Rattle.plain.specs.Layers.{copies_of, state_at, layers}
use Rattle.plain.specs.Refusals.{Trial, accepted, refused, first_held, present, outside, beyond, bad_kinds, full, room_condition}
use Rattle.plain.specs.Machine.{Change, add, cut, mark, unmark, named, in_kind, apply, conditions, misnamed, change_trial, BatchLine, makes, other, line_conditions, BatchTrial, changes_in, apply_all, lines_trial, batch_trial, Update, single, batch, applied, named_by, update_trial, at_line, position_in, unexplored, passed_over, keeps_all, kept, up_to_kind, to_kinds, kinds_trial, Command, update, set_kinds, command_trial, position_for, commanded, kept_by, refusal, answer, Call, trial_of, answer_to, table_after, answers}
use Rattle.plain.specs.Claims.{table_behind}
use Rattle.plain.specs.Shortest.{roots, hunt}
use Rattle.plain.specs.Questions.{Question, ways, short, degrees, question_trial, hunt_in, lengths_for, short_reply, question_reply, reply_to}
use Rattle.plain.specs.Orders.{SameView, OnlyRows}
use Rattle.plain.proofs.Tests.{contra, either, not-true, same, self, filter_short}
use Rattle.plain.proofs.Words.{accepts_marked, accepts_marked_other, accepts_unmarked, accepts_unmarked_other}
use Rattle.plain.proofs.Rows.{but, row_has, has_row, row_short, row_add, row_add_other, row_cut, row_cut_other, cut_count}
use Rattle.plain.proofs.Tables.{changed_size, changed_start, changed_kinds}
use Rattle.plain.proofs.NewKinds.{carried_kept, carried_dropped, kept_words}
use Rattle.plain.proofs.Batches.{line_accepted, line_refused, batch_tried, batch_short}
use Rattle.plain.proofs.Demands.{printed_alike, kept_all, kept_meeting}
use Rattle.plain.proofs.Degrees.{same_in, same_out}
use Rattle.plain.proofs.Calls.{answer_accepted, table_accepted, answer_refused, table_refused}

-- ---- two tables with the same view: what is read of them

module _ (t u : Table) (w : SameView t u) where
  same_game : game_of t ≡ game_of u
  same_game = λ i. record {
    graph = record { start = w.same_start i; successors = λ s. w.same_row s i; accepting = λ s. w.same_marks 0 s i };
    size = w.same_size i;
    kinds = w.same_kinds i;
    carries = λ kind s. w.same_marks kind s i;
  }

  same_graph : searched t ≡ searched u
  same_graph = ap layers same_game

  same_budget : budget t ≡ budget u
  unfolding budget
  same_budget = λ i. 2 * (w.same_kinds i * w.same_count i) + 3 * (w.same_kinds i * w.same_size i) + 2

  same_copies : (ns : List ℕ) → copies_in t ns ≡ copies_in u ns
  same_copies ns = λ i. copies_of (w.same_size i) (w.same_kinds i - 1) ns

  pub same_final : final t ≡ final u
  unfolding final
  same_final = λ i. run (same_graph i) (same_budget i)

  same_meeting : (ns : List ℕ) → first_meeting ns t ≡ first_meeting ns u
  unfolding first_meeting
  same_meeting ns = λ i. until (same_graph i) (same_copies ns i) (same_budget i) (begin (same_graph i))

  same_present : (e : Edge) → present t.edges e ≡ present u.edges e
  same_present e = ⊎_elim
      (λ h. h ∙ sym (row_has u.edges e.0 e.1 (rw (sym (w.same_row e.0)) (has_row t.edges e.0 e.1 h))))
      (λ f. f ∙ sym (not-true (present u.edges e) (λ h. contra (row_has t.edges e.0 e.1 (rw (w.same_row e.0) (has_row u.edges e.0 e.1 h))) f)))
      (either (present t.edges e))

  same_conditions : (c : Change) → conditions c t ≡ conditions c u
  unfolding conditions full
  same_conditions (add e) = λ i. (6, outside (w.same_size i) e) ∷ (8, same_present e i) ∷ (9, ltb 2048 ((w.same_count i + 1) * w.same_kinds i)) ∷ []
  same_conditions (cut e) = λ i. (6, outside (w.same_size i) e) ∷ (10, not (same_present e i)) ∷ []
  same_conditions (mark s kind) = λ i. (4, ltb (w.same_kinds i) kind) ∷ (6, beyond (w.same_size i) s) ∷ (13, w.same_marks (kind - 1) s i) ∷ []
  same_conditions (unmark s kind) = λ i. (4, ltb (w.same_kinds i) kind) ∷ (6, beyond (w.same_size i) s) ∷ (14, not (w.same_marks (kind - 1) s i)) ∷ []

  same_unexplored : (c : Change) → unexplored c t ≡ unexplored c u
  unfolding unexplored
  same_unexplored (add e) = λ i. not (any (finished (same_graph i) (same_budget i)) (same_copies (e.0 ∷ []) i))
  same_unexplored (cut e) = λ i. not (present (map (λ (f : Edge). (state_at (same_game i) f.0, state_at (same_game i) f.1)) (probes_of (same_final i))) e)
  same_unexplored (mark s kind) = refl
  same_unexplored (unmark s kind) = refl

  same_passed : (c : Change) → passed_over c t ≡ passed_over c u
  unfolding passed_over
  same_passed c = λ i. same_unexplored c i || not (meets (same_copies (named c) i) (same_final i))

  same_keeps : (x : Update) → keeps_all x t ≡ keeps_all x u
  unfolding keeps_all
  same_keeps (single c) = same_unexplored c
  same_keeps (batch xs) = λ i. all (λ c. same_passed c i) (changes_in xs)

-- ---- what a change makes of a row, of the count of moves and of a mark: each only by what it finds there

-- the state that it names
unfoldable pub state_named : Change → ℕ
state_named (add e) = e.0
state_named (cut e) = e.0
state_named (mark s kind) = s
state_named (unmark s kind) = s

pub named_is : (c : Change) → named c ≡ state_named c ∷ []
unfolding named state_named
named_is (add e) = refl
named_is (cut e) = refl
named_is (mark s kind) = refl
named_is (unmark s kind) = refl

-- the row of that state
unfoldable row_made : Change → List ℕ → List ℕ
row_made (add e) r = r ++ (e.1 ∷ [])
row_made (cut e) r = but e.1 r
row_made (mark s kind) r = r
row_made (unmark s kind) r = r

-- the moves that come, and those that go where that row is r
unfoldable comes : Change → ℕ
comes (add e) = 1
comes (cut e) = 0
comes (mark s kind) = 0
comes (unmark s kind) = 0

unfoldable goes : Change → List ℕ → ℕ
goes (add e) r = 0
goes (cut e) r = length r - length (but e.1 r)
goes (mark s kind) r = 0
goes (unmark s kind) r = 0

-- the kind of pay that it names, from 0 on (of a move any), the words of that kind, and its state's mark in them
unfoldable kind_named : Change → ℕ
kind_named (add e) = 0
kind_named (cut e) = 0
kind_named (mark s kind) = kind - 1
kind_named (unmark s kind) = kind - 1

unfoldable words_made : Change → List ℕ → List ℕ
words_made (add e) words = words
words_made (cut e) words = words
words_made (mark s kind) words = with_mark words s
words_made (unmark s kind) words = without_mark words s

unfoldable mark_made : Change → Bool → Bool
mark_made (add e) b = b
mark_made (cut e) b = b
mark_made (mark s kind) b = true
mark_made (unmark s kind) b = false

row_here : (c : Change) (t : Table) → row (apply c t).edges (state_named c) ≡ row_made c (row t.edges (state_named c))
unfolding apply state_named row_made
row_here (add e) t = row_add t.edges e
row_here (cut e) t = row_cut t.edges e
row_here (mark s kind) t = refl
row_here (unmark s kind) t = refl

row_elsewhere : (c : Change) (t : Table) (x : ℕ) → eqb (state_named c) x ≡ false → row (apply c t).edges x ≡ row t.edges x
unfolding apply state_named
row_elsewhere (add e) t x n = row_add_other t.edges e x n
row_elsewhere (cut e) t x n = row_cut_other t.edges e x n
row_elsewhere (mark s kind) t x n = refl
row_elsewhere (unmark s kind) t x n = refl

count_made : (c : Change) (t : Table) → length (apply c t).edges ≡ length t.edges + comes c - goes c (row t.edges (state_named c))
unfolding apply state_named comes goes
count_made (add e) t = omega (arith, length-append t.edges (e ∷ []))
count_made (cut e) t =
    let shorter = filter_short (λ x. not (eqb e.1 x)) (row t.edges e.0) in
    omega (arith, ap length (row_cut t.edges e), cut_count t.edges e, row_short t.edges e.0, shorter)
count_made (mark s kind) t = omega arith
count_made (unmark s kind) t = omega arith

goes_few : (c : Change) (r : List ℕ) → goes c r ≤ length r
unfolding goes
goes_few (add e) r = omega arith
goes_few (cut e) r = omega arith
goes_few (mark s kind) r = omega arith
goes_few (unmark s kind) r = omega arith

-- the entry that is set, where what is set for no words is none
set_here : (f : List ℕ → List ℕ) → f [] ≡ [] → (marks : List (List ℕ)) (kind : ℕ) → get_or (set marks kind (f (get_or marks kind []))) kind [] ≡ f (get_or marks kind [])
set_here f e marks kind = by_length (dec_lt kind (length marks))
  where
    by_length : Dec (kind < length marks) → get_or (set marks kind (f (get_or marks kind []))) kind [] ≡ f (get_or marks kind [])
    by_length (yes h) = get_or-set_same marks kind (f (get_or marks kind [])) [] h
    by_length (no h) =
        let none = get_or-eq_default marks [] {n = kind} (omega arith) in
        ap (λ (ms : List (List ℕ)). get_or ms kind []) (set_out marks kind (f (get_or marks kind [])) (omega arith)) ∙ none ∙ sym (ap f none ∙ e)

-- a change leaves as many words
words_kept : (c : Change) (ws : List ℕ) → length (words_made c ws) ≡ length ws
unfolding words_made with_mark without_mark
words_kept (add e) ws = refl
words_kept (cut e) ws = refl
words_kept (mark s kind) ws = length-set ws (s / 64) _
words_kept (unmark s kind) ws = length-set ws (s / 64) _

mark_elsewhere : (c : Change) (ws : List ℕ) (x : ℕ) → eqb (state_named c) x ≡ false → accepts (words_made c ws) x ≡ accepts ws x
unfolding words_made state_named
mark_elsewhere (add e) ws x n = refl
mark_elsewhere (cut e) ws x n = refl
mark_elsewhere (mark s kind) ws x n = accepts_marked_other ws s x (λ z. contra (rw z (self s)) n)
mark_elsewhere (unmark s kind) ws x n = accepts_unmarked_other ws s x (λ z. contra (rw z (self s)) n)

-- where the state has a word
mark_here : (c : Change) (ws : List ℕ) → state_named c / 64 < length ws → accepts (words_made c ws) (state_named c) ≡ mark_made c (accepts ws (state_named c))
unfolding words_made state_named mark_made
mark_here (add e) ws h = refl
mark_here (cut e) ws h = refl
mark_here (mark s kind) ws h = accepts_marked ws s h s ∙ rw (self s)
mark_here (unmark s kind) ws h = accepts_unmarked ws s h

-- where it has none, nothing is changed
mark_nowhere : (c : Change) (ws : List ℕ) → length ws ≤ state_named c / 64 → words_made c ws ≡ ws
unfolding words_made state_named with_mark without_mark
mark_nowhere (add e) ws h = refl
mark_nowhere (cut e) ws h = refl
mark_nowhere (mark s kind) ws h = set_out ws (s / 64) _ h
mark_nowhere (unmark s kind) ws h = set_out ws (s / 64) _ h

-- the words of a kind, behind a change: that of the kind that it names, and of the others
abbrev words_of : Table → ℕ → List ℕ
words_of t kind = get_or t.marks kind []

kind_here : (c : Change) (t : Table) (kind : ℕ) → eqb kind (kind_named c) ≡ true → words_of (apply c t) kind ≡ words_made c (words_of t kind)
unfolding apply in_kind kind_named words_made with_mark without_mark
kind_here (add e) t kind h = refl
kind_here (cut e) t kind h = refl
kind_here (mark s k) t kind h = let z : kind ≡ k - 1 = same h in rw z (set_here (λ (ws : List ℕ). with_mark ws s) refl t.marks (k - 1))
kind_here (unmark s k) t kind h = let z : kind ≡ k - 1 = same h in rw z (set_here (λ (ws : List ℕ). without_mark ws s) refl t.marks (k - 1))

kind_elsewhere : (c : Change) (t : Table) (kind : ℕ) → eqb kind (kind_named c) ≡ false → words_of (apply c t) kind ≡ words_of t kind
unfolding apply in_kind kind_named
kind_elsewhere (add e) t kind f = refl
kind_elsewhere (cut e) t kind f = refl
kind_elsewhere (mark s k) t kind f = get_or-set_other t.marks (k - 1) kind _ [] (eqb-false kind (k - 1) f)
kind_elsewhere (unmark s k) t kind f = get_or-set_other t.marks (k - 1) kind _ [] (eqb-false kind (k - 1) f)

-- so a row that is the same in two tables is the same behind the change, and so is a mark, where the tables have as many words
row_alike : (c : Change) (t u : Table) (x : ℕ) → row t.edges x ≡ row u.edges x → row (apply c t).edges x ≡ row (apply c u).edges x
row_alike c t u x e = ⊎_elim here (λ f. row_elsewhere c t x f ∙ e ∙ sym (row_elsewhere c u x f)) (either (eqb (state_named c) x))
  where
    here : eqb (state_named c) x ≡ true → row (apply c t).edges x ≡ row (apply c u).edges x
    here h =
        let z : x ≡ state_named c = sym (same h) in
        let at : row t.edges (state_named c) ≡ row u.edges (state_named c) = rw z at e in
        rw z (row_here c t ∙ ap (row_made c) at ∙ sym (row_here c u))

mark_alike : (c : Change) (ws vs : List ℕ) (x : ℕ) → length ws ≡ length vs → accepts ws x ≡ accepts vs x → accepts (words_made c ws) x ≡ accepts (words_made c vs) x
mark_alike c ws vs x n e = ⊎_elim here (λ f. mark_elsewhere c ws x f ∙ e ∙ sym (mark_elsewhere c vs x f)) (either (eqb (state_named c) x))
  where
    by_word : Dec (state_named c / 64 < length ws) → accepts ws (state_named c) ≡ accepts vs (state_named c) → accepts (words_made c ws) (state_named c) ≡ accepts (words_made c vs) (state_named c)
    by_word (yes h) at = mark_here c ws h ∙ ap (mark_made c) at ∙ sym (mark_here c vs (omega (arith, n)))
    by_word (no h) at = rw (mark_nowhere c ws (omega arith), mark_nowhere c vs (omega (arith, n))) at

    here : eqb (state_named c) x ≡ true → accepts (words_made c ws) x ≡ accepts (words_made c vs) x
    here h =
        let z : x ≡ state_named c = sym (same h) in
        rw z (by_word (dec_lt (state_named c / 64) (length ws)) (rw z at e))

-- the same of each kind
kind_kept : (c : Change) (t : Table) (kind : ℕ) → length (words_of (apply c t) kind) ≡ length (words_of t kind)
kind_kept c t kind = ⊎_elim
    (λ h. ap length (kind_here c t kind h) ∙ words_kept c (words_of t kind))
    (λ f. ap length (kind_elsewhere c t kind f)) (either (eqb kind (kind_named c)))

carried_elsewhere : (c : Change) (t : Table) (kind x : ℕ) → eqb (state_named c) x ≡ false → carried_by (apply c t).marks kind x ≡ carried_by t.marks kind x
unfolding carried_by
carried_elsewhere c t kind x n = ⊎_elim
    (λ h. ap (λ (ws : List ℕ). accepts ws x) (kind_here c t kind h) ∙ mark_elsewhere c (words_of t kind) x n)
    (λ f. ap (λ (ws : List ℕ). accepts ws x) (kind_elsewhere c t kind f)) (either (eqb kind (kind_named c)))

carried_alike : (c : Change) (t u : Table) (kind x : ℕ) → length (words_of t kind) ≡ length (words_of u kind) → carried_by t.marks kind x ≡ carried_by u.marks kind x
    → carried_by (apply c t).marks kind x ≡ carried_by (apply c u).marks kind x
unfolding carried_by
carried_alike c t u kind x n e = ⊎_elim
    (λ h. rw (kind_here c t kind h, kind_here c u kind h) (mark_alike c (words_of t kind) (words_of u kind) x n e))
    (λ f. rw (kind_elsewhere c t kind f, kind_elsewhere c u kind f) e) (either (eqb kind (kind_named c)))

pub view_refl : (t : Table) → SameView t t
view_refl t = record { same_size = refl; same_start = refl; same_kinds = refl; same_count = refl; same_row = λ s. refl; same_words = λ kind. refl; same_marks = λ kind s. refl }

pub view_trans : {t u v : Table} → SameView t u → SameView u v → SameView t v
view_trans w x = record {
  same_size = w.same_size ∙ x.same_size;
  same_start = w.same_start ∙ x.same_start;
  same_kinds = w.same_kinds ∙ x.same_kinds;
  same_count = w.same_count ∙ x.same_count;
  same_row = λ s. w.same_row s ∙ x.same_row s;
  same_words = λ kind. w.same_words kind ∙ x.same_words kind;
  same_marks = λ kind s. w.same_marks kind s ∙ x.same_marks kind s;
}

-- a change keeps a view
pub same_apply : (c : Change) {t u : Table} → SameView t u → SameView (apply c t) (apply c u)
same_apply c {t} {u} w = record {
  same_size = changed_size c t ∙ w.same_size ∙ sym (changed_size c u);
  same_start = changed_start c t ∙ w.same_start ∙ sym (changed_start c u);
  same_kinds = changed_kinds c t ∙ w.same_kinds ∙ sym (changed_kinds c u);
  same_count = count_made c t ∙ (λ i. w.same_count i + comes c - goes c (w.same_row (state_named c) i)) ∙ sym (count_made c u);
  same_row = λ s. row_alike c t u s (w.same_row s);
  same_words = λ kind. kind_kept c t kind ∙ w.same_words kind ∙ sym (kind_kept c u kind);
  same_marks = λ kind s. carried_alike c t u kind s (w.same_words kind) (w.same_marks kind s);
}

pub same_apply_all : (cs : List Change) {t u : Table} → SameView t u → SameView (apply_all cs t) (apply_all cs u)
unfolding apply_all
same_apply_all [] w = w
same_apply_all (c ∷ cs) w = same_apply_all cs (same_apply c w)

-- TWO CHANGES that name different states, in both orders
pub commute : (c d : Change) (t : Table) → eqb (state_named c) (state_named d) ≡ false → SameView (apply d (apply c t)) (apply c (apply d t))
commute c d t n = record {
  same_size = changed_size d (apply c t) ∙ changed_size c t ∙ sym (changed_size c (apply d t) ∙ changed_size d t);
  same_start = changed_start d (apply c t) ∙ changed_start c t ∙ sym (changed_start c (apply d t) ∙ changed_start d t);
  same_kinds = changed_kinds d (apply c t) ∙ changed_kinds c t ∙ sym (changed_kinds c (apply d t) ∙ changed_kinds d t);
  same_count = counts;
  same_row = λ s. ⊎_elim
      (λ h. row_elsewhere d (apply c t) s (apart s h) ∙ row_alike c t (apply d t) s (sym (row_elsewhere d t s (apart s h))))
      (λ f. row_alike d (apply c t) t s (row_elsewhere c t s f) ∙ sym (row_elsewhere c (apply d t) s f)) (either (eqb (state_named c) s));
  same_words = λ kind. kind_kept d (apply c t) kind ∙ kind_kept c t kind ∙ sym (kind_kept c (apply d t) kind ∙ kind_kept d t kind);
  same_marks = λ kind s. ⊎_elim
      (λ h. carried_elsewhere d (apply c t) kind s (apart s h) ∙ carried_alike c t (apply d t) kind s (sym (kind_kept d t kind)) (sym (carried_elsewhere d t kind s (apart s h))))
      (λ f. carried_alike d (apply c t) t kind s (kind_kept c t kind) (carried_elsewhere c t kind s f) ∙ sym (carried_elsewhere c (apply d t) kind s f)) (either (eqb (state_named c) s));
}
  where
    -- what the one names is not what the other names
    turned : eqb (state_named d) (state_named c) ≡ false
    turned = not-true (eqb (state_named d) (state_named c)) (λ h. let z : state_named d ≡ state_named c = same h in contra (rw z (self (state_named c))) n)

    apart : (s : ℕ) → eqb (state_named c) s ≡ true → eqb (state_named d) s ≡ false
    apart s h = let z : s ≡ state_named c = sym (same h) in rw z turned

    counts : length (apply d (apply c t)).edges ≡ length (apply c (apply d t)).edges
    counts =
        let es = t.edges in
        omega (
          arith,
          count_made c t,
          count_made d t,
          count_made d (apply c t) ∙ ap (λ (r : List ℕ). length (apply c t).edges + comes d - goes d r) (row_elsewhere c t (state_named d) n),
          count_made c (apply d t) ∙ ap (λ (r : List ℕ). length (apply d t).edges + comes c - goes c r) (row_elsewhere d t (state_named c) turned),
          goes_few c (row es (state_named c)),
          goes_few d (row es (state_named d)),
          row_short es (state_named c),
          row_short es (state_named d),
        )

-- ---- so every call is answered alike, and leaves the same view

same_change : (c : Change) {t u : Table} → SameView t u → (room : ℕ) → change_trial c t room ≡ change_trial c u room
unfolding change_trial
same_change c {t} {u} w room = λ i. first_held ((1, misnamed c) ∷ (same_conditions t u w c i ++ room_condition (w.same_size i) (w.same_kinds i) room))

same_line : (n : ℕ) (x : BatchLine) {t u : Table} → SameView t u → line_conditions n x t ≡ line_conditions n x u
unfolding line_conditions
same_line n (makes c) {t} {u} w = ap (λ (cs : List (ℕ × Bool)). (1, misnamed c) ∷ (15, ltb 64 n) ∷ cs) (same_conditions t u w c)
same_line n other w = refl

same_lines : (n : ℕ) (xs : List BatchLine) {t u : Table} → SameView t u → lines_trial n xs t ≡ lines_trial n xs u
unfolding lines_trial
same_lines n [] w = refl
same_lines n (x ∷ xs) {t} {u} w = by_trial (first_held (line_conditions n x t)) refl (same_lines (suc n) xs (same_apply_all (changes_in (x ∷ [])) w))
  where
    by_trial : (y : Trial) → first_held (line_conditions n x t) ≡ y → lines_trial (suc n) xs (apply_all (changes_in (x ∷ [])) t) ≡ lines_trial (suc n) xs (apply_all (changes_in (x ∷ [])) u)
        → lines_trial n (x ∷ xs) t ≡ lines_trial n (x ∷ xs) u
    by_trial accepted e rest = line_accepted n x xs t e ∙ rest ∙ sym (line_accepted n x xs u (ap first_held (sym (same_line n x w)) ∙ e))
    by_trial (refused m) e rest = line_refused n x xs t m e ∙ sym (line_refused n x xs u m (ap first_held (sym (same_line n x w)) ∙ e))

same_batch : (xs : List BatchLine) {t u : Table} → SameView t u → (room : ℕ) → batch_trial xs t room ≡ batch_trial xs u room
same_batch xs {t} {u} w room = by_trial (first_held (room_condition t.size t.kinds room)) refl
  where
    here : first_held (room_condition u.size u.kinds room) ≡ first_held (room_condition t.size t.kinds room)
    here = λ i. first_held (room_condition (sym w.same_size i) (sym w.same_kinds i) room)

    by_trial : (y : Trial) → first_held (room_condition t.size t.kinds room) ≡ y → batch_trial xs t room ≡ batch_trial xs u room
    by_trial accepted e = batch_tried xs t room e ∙ same_lines 1 xs w ∙ sym (batch_tried xs u room (here ∙ e))
    by_trial (refused m) e = batch_short xs t room m e ∙ sym (batch_short xs u room m (here ∙ e))

same_update : (x : Update) (room : ℕ) {t u : Table} → SameView t u → update_trial x t room ≡ update_trial x u room
unfolding update_trial
same_update (single d) room w = same_change d w room
same_update (batch xs) room w = ap (λ (b : BatchTrial). b.trial) (same_batch xs w room)

same_position : (x : Update) (room : ℕ) {t u : Table} → SameView t u → position_in x t room ≡ position_in x u room
unfolding position_in
same_position (single d) room w = refl
same_position (batch xs) room w = ap (λ (b : BatchTrial). at_line b.position) (same_batch xs w room)

same_applied : (x : Update) {t u : Table} → SameView t u → SameView (applied x t) (applied x u)
unfolding applied
same_applied (single d) w = same_apply d w
same_applied (batch xs) w = same_apply_all (changes_in xs) w

same_kept : (x : Update) {t u : Table} → SameView t u → kept x t ≡ kept x u
unfolding kept
same_kept x {t} {u} w = ap count (⊎_elim
    (λ k. kept_all x t k ∙ same_final (applied x t) (applied x u) (same_applied x w) ∙ sym (kept_all x u (sym (same_keeps t u w x) ∙ k)))
    (λ k. kept_meeting x t k ∙ same_meeting (applied x t) (applied x u) (same_applied x w) (named_by x) ∙ sym (kept_meeting x u (sym (same_keeps t u w x) ∙ k)))
    (either (keeps_all x t)))

-- another count of kinds
same_kinds : (k : ℕ) {t u : Table} → SameView t u → SameView (to_kinds k t) (to_kinds k u)
unfolding to_kinds
same_kinds k {t} {u} w = record {
  same_size = w.same_size;
  same_start = w.same_start;
  same_kinds = refl;
  same_count = w.same_count;
  same_row = w.same_row;
  same_words = λ kind. kept_words k t.marks kind ∙ w.same_words kind ∙ sym (kept_words k u.marks kind);
  same_marks = λ kind s. by_kind kind s (dec_lt kind k);
}
  where
    by_kind : (kind s : ℕ) → Dec (kind < k) → carried_by (up_to_kind k t.marks) kind s ≡ carried_by (up_to_kind k u.marks) kind s
    by_kind kind s (yes h) = carried_kept k t.marks kind s h ∙ w.same_marks kind s ∙ sym (carried_kept k u.marks kind s h)
    by_kind kind s (no h) = carried_dropped k t.marks kind s (omega arith) ∙ sym (carried_dropped k u.marks kind s (omega arith))

-- what a call asks for: it is tried alike, stands at the same place where it is refused, leaves the same view, and keeps as many looks
record SameCommand (c : Command) (room : ℕ) (t u : Table) : Type 0 where
  same_trial : command_trial c t room ≡ command_trial c u room
  same_place : position_for c t room ≡ position_for c u room
  same_left : SameView (commanded c t) (commanded c u)
  same_looks : kept_by c t ≡ kept_by c u

same_command : (c : Command) (room : ℕ) {t u : Table} → SameView t u → SameCommand c room t u
unfolding kinds_trial
same_command (update x) room w = record { same_trial = same_update x room w; same_place = same_position x room w; same_left = same_applied x w; same_looks = same_kept x w }
same_command (set_kinds k) room w = record {
  same_trial = λ i. first_held ((16, bad_kinds k (w.same_size i) (w.same_count i)) ∷ room_condition (w.same_size i) k room);
  same_place = refl;
  same_left = same_kinds k w;
  same_looks = refl;
}

-- the verdict, as it is printed
pub same_shown : (t u : Table) → SameView t u → printed_verdict t (verdict (final t)) ≡ printed_verdict u (verdict (final u))
same_shown t u w = ap (λ (c : Config). printed_verdict t (verdict c)) (same_final t u w) ∙ printed_alike t u w.same_size w.same_kinds (verdict (final u))

-- one call
pub record OneCall (c : Call) (t u : Table) : Type 0 where
  pub same_answer : answer_to c t ≡ answer_to c u
  pub same_view : SameView (table_after c t) (table_after c u)

pub same_call : (c : Call) {t u : Table} → SameView t u → OneCall c t u
unfolding trial_of
same_call c {t} {u} w = by_trial (trial_of c t) refl (same_command c.command c.room w)
  where
    by_trial : (y : Trial) → trial_of c t ≡ y → SameCommand c.command c.room t u → OneCall c t u
    by_trial accepted e x =
        let f : trial_of c u ≡ accepted = sym x.same_trial ∙ e in
        let end = same_final (commanded c.command t) (commanded c.command u) x.same_left in
        let shown = same_shown (commanded c.command t) (commanded c.command u) x.same_left in
        record {
          same_answer = answer_accepted c t e ∙ (λ i. answer (shown i) (count (end i) - x.same_looks i) (x.same_looks i)) ∙ sym (answer_accepted c u f);
          same_view = rw (table_accepted c t e, table_accepted c u f) x.same_left;
        }
    by_trial (refused n) e x =
        let f : trial_of c u ≡ refused n = sym x.same_trial ∙ e in
        record {
          same_answer = answer_refused c t n e ∙ (λ i. refusal (record { number = n; position = x.same_place i })) ∙ sym (answer_refused c u n f);
          same_view = rw (table_refused c t n e, table_refused c u n f) w;
        }

-- a list of calls
same_calls : (cs : List Call) {t u : Table} → SameView t u → answers cs t ≡ answers cs u
unfolding answers
same_calls [] w = refl
same_calls (c ∷ cs) w = let k = same_call c w in (λ i. k.same_answer i ∷ same_calls cs k.same_view i)

-- the tables behind it
pub same_behind : (cs : List Call) {t u : Table} → SameView t u → SameView (table_behind cs t) (table_behind cs u)
unfolding table_behind
same_behind [] w = w
same_behind (c ∷ cs) w = same_behind cs (same_call c w).same_view

-- a question
pub same_reply : (q : Question) {t u : Table} → SameView t u → reply_to q t ≡ reply_to q u
unfolding reply_to question_trial question_reply hunt_in short_reply
same_reply q {t} {u} w = ap (λ (x : Trial). question_reply x q t) (trials q) ∙ replies (question_trial q u) q
  where
    trials : (q : Question) → question_trial q t ≡ question_trial q u
    trials (ways s) = ap (λ (n : ℕ). first_held ((6, beyond n s) ∷ [])) w.same_size
    trials (short b) = ap (λ (k : ℕ). first_held ((17, ltb 1 k) ∷ [])) w.same_kinds

    hunts : (b present : ℕ) → hunt_in t b present ≡ hunt_in u b present
    hunts b present = ap (λ (a : Kinded). hunt a.graph b (roots a.graph a.size) present 1 0) (same_game t u w)

    shorts : (v : Verdict) (b : ℕ) → short_reply v b t ≡ short_reply v b u
    shorts none b = refl
    shorts (lasso stem cycle) b = ap (lengths_for (length cycle)) (hunts b (length cycle))
    shorts unfinished b = refl

    replies : (x : Trial) (q : Question) → question_reply x q t ≡ question_reply x q u
    replies accepted (ways s) = λ i. degrees s (same_out t.edges u.edges s (w.same_row s) i) (same_in t.edges u.edges s w.same_row i)
    replies accepted (short b) = shorts (verdict (final t)) b ∙ ap (λ (c : Config). short_reply (verdict c) b u) (same_final t u w)
    replies (refused n) q = refl

-- THE LEMMA
pub only_rows : OnlyRows
only_rows t u w = record {
  same_search = same_final t u w;
  same_after = record { same_answers = λ cs. same_calls cs w; same_replies = λ cs q. same_reply q (same_behind cs w) };
}
