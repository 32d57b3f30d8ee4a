-- TICKETS 7 AND 10 for the lines of a text: what is held behind them has the same view, so the same verdict was told last, and the same is printed for what follows. Assumes nothing.
use mathlib.Core.Path.{◌≡◌, refl, sym, ap, subst, subst⁻¹, ◌∙◌}
use mathlib.Core.Logic.{◌≢◌}
use mathlib.Core.Bool.{Bool, true, false, ◌&&◌, cond}
use mathlib.Core.List.{List, [], ◌∷◌, ◌++◌, append-nil, append_assoc, map, map-append, nil≢cons, cons≢nil, head-eq_of_cons-eq, tail-eq_of_cons-eq}
use Prim.Native.Nat.{ℕ, ◌-◌}
use native.Mathlib.Omega.{arith}
use lib.ListN.{length}
use Rattle.plain.specs.Search.{Verdict, none, lasso, unfinished, verdict, count}
use Rattle.plain.specs.Table.{Table, accepting_count, printed_verdict, final}
use Rattle.plain.specs.Refusals.{Trial, accepted, refused, Load, load_trial}
use Rattle.plain.specs.Machine.{Change, add, cut, BatchLine, makes, other, changes_in, Update, single, batch, changes_of, to_kinds, Command, update, set_kinds, commanded, Refusal, Answer, answer, answer_line, load_answer, table_of, Call, call_for, trial_of, answer_to, table_after, Line, game_line, no_line, numbered}
use Rattle.plain.specs.Questions.{Reply, no_reply, degrees, shortest, no_round, reply_to, reply_line}
use Rattle.plain.specs.Claims.{Arises, loaded, totalled, load_from, AsLoaded, table_behind}
use Rattle.plain.specs.Orders.{SameView, Apart, changes_asked, Switching, EachAccepted, total_line}
use Rattle.plain.proofs.Demands.{demand_2}
use Rattle.plain.proofs.Calls.{answer_accepted, table_accepted, answer_refused, table_refused, after_arises, after_reports, as_loaded, fresh_reports}
use Rattle.plain.proofs.Views.{view_refl, same_call, same_reply}
use Rattle.plain.proofs.Orders.{told_alike, same_views, brings_back, cut_follows}
use Rattle.line.specs.Records.{record_of}
use Rattle.line.specs.Words.{is_word}
use Rattle.line.specs.declared.Word.TheVariants.{Game, Pay, Move, Go, Kinds}
use Rattle.line.specs.declared.Record.{Record}
use Rattle.watch.specs.Text.{Draft, Play, play_of, Held, waiting, opened, gathering, playing, batching, ended, Step, quiet, empty, room, load_step, load_of, call_on, call_step, Request, changing, beginning, ending, setting_kinds, questioning, unknown, request_of, play_step, batch_step, at_first, move_most, before_go, behind_game, after_go, in_batch, step, printed, held_behind}
use Rattle.watch.specs.Truth.{All}
use Rattle.watch.proofs.Records.{held_append, printed_append}
use Rattle.watch.proofs.Truth.{Sound, right}
use Rattle.orders.specs.Texts.{NotNo, requested, Asking, nothing, one, some, held_after, printed_behind, newer, last_verdict, told_by, SameEnding, AnyOrders, BringsBack, Gathered, SameAsGo, AsGo}

-- ---- the last verdict that was told is that of the table that is held

abbrev Tells : Held → List Line → Type 0
Tells waiting v = Unit {0}
Tells (opened d) v = Unit {0}
Tells (gathering d) v = Unit {0}
Tells (playing p) v = v ≡ answer_line (load_answer accepted p.table)
Tells (batching p xs) v = v ≡ answer_line (load_answer accepted p.table)
Tells ended v = Unit {0}

-- what a step leaves, where v was told before it
abbrev Telling : List Line → Step → Type 0
Telling v u = Tells u.next (last_verdict v u.lines)

cond_telling : (b : Bool) (v : List Line) (u w : Step) → Telling v u → Telling v w → Telling v (cond b u w)
cond_telling true v u w h k = h
cond_telling false v u w h k = k

-- an answer that has a verdict, as it is printed
verdict_last : (before : List Line) (t : Table) (v : Verdict) (spent kept : ℕ) → v ≢ unfinished
    → last_verdict before (answer_line (answer (printed_verdict t v) spent kept)) ≡ answer_line (totalled (answer (printed_verdict t v) spent kept))
unfolding last_verdict answer_line totalled total_line printed_verdict
verdict_last before t none spent kept n = refl
verdict_last before t (lasso stem cycle) spent kept n = refl
verdict_last before t unfinished spent kept n = absurd (n refl)

load_telling : (x : Trial) (d : Draft) (v : List Line) → load_trial (load_of d) room ≡ x → Telling v (load_step x d)
unfolding last_verdict load_answer
load_telling accepted d v e =
    let t = table_of (load_of d) in
    verdict_last v t (verdict (final t)) (count (final t)) 0 (demand_2 t (loaded (load_of d) room e)).ends ∙ ap answer_line (fresh_reports t)
load_telling (refused n) d v e = tt

call_telling : (c : Call) (t : Table) (v : List Line) → Arises t → v ≡ answer_line (load_answer accepted t)
    → last_verdict v (answer_line (answer_to c t)) ≡ answer_line (load_answer accepted (table_after c t))
unfolding last_verdict answer_line
call_telling c t v a e = by_trial (trial_of c t) refl
  where
    by_trial : (x : Trial) → trial_of c t ≡ x → last_verdict v (answer_line (answer_to c t)) ≡ answer_line (load_answer accepted (table_after c t))
    by_trial accepted k =
        let b : Arises (commanded c.command t) = subst Arises (table_accepted c t k) (after_arises c t a k) in
        ap (λ (w : Answer). last_verdict v (answer_line w)) (answer_accepted c t k) ∙ verdict_last v (commanded c.command t) _ _ _ (demand_2 (commanded c.command t) b).ends
        ∙ ap (λ (w : Answer). answer_line (totalled w)) (sym (answer_accepted c t k)) ∙ ap answer_line (after_reports c t a k)
    by_trial (refused n) k =
        ap (λ (w : Answer). last_verdict v (answer_line w)) (answer_refused c t n k) ∙ e ∙ ap (λ (u : Table). answer_line (load_answer accepted u)) (sym (table_refused c t n k))

step_telling : (c : Command) (p : Play) (v : List Line) → Arises p.table → Tells (playing p) v → Telling v (call_step c p)
step_telling c p v a e = call_telling (call_on c) p.table v a e

-- a reply tells no verdict
reply_last : (v : List Line) (r : Reply) → newer v (reply_line r) ≡ v
unfolding reply_line
reply_last v (no_reply n) = refl
reply_last v (degrees s leaving entering) = refl
reply_last v (shortest best least) = refl
reply_last v no_round = refl

play_telling : (q : Request) (p : Play) (v : List Line) → Arises p.table → Tells (playing p) v → Telling v (play_step q p)
unfolding last_verdict
play_telling (changing c) p v a e = step_telling (update (single c)) p v a e
play_telling beginning p v a e = e
play_telling ending p v a e = e
play_telling (setting_kinds k) p v a e = step_telling (set_kinds k) p v a e
play_telling (questioning q) p v a e = reply_last v (reply_to q p.table) ∙ e
play_telling unknown p v a e = e

batch_telling : (q : Request) (p : Play) (xs : List BatchLine) (v : List Line) → Arises p.table → Tells (playing p) v → Telling v (batch_step q p xs)
unfolding last_verdict
batch_telling (changing c) p xs v a e = e
batch_telling beginning p xs v a e = e
batch_telling ending p xs v a e = step_telling (update (batch xs)) p v a e
batch_telling (setting_kinds k) p xs v a e = e
batch_telling (questioning q) p xs v a e = e
batch_telling unknown p xs v a e = e

before_telling : (d : Draft) (r : Record) (v : List Line) → Telling v (before_go d r)
unfolding before_go
before_telling d r v =
    cond_telling (is_word r.word Pay && empty d.moves) v _ _ tt
    (cond_telling (is_word r.word Move) v _ _ (cond_telling (move_most d.moves) v _ _ tt tt)
    (cond_telling (is_word r.word Go) v _ _ (load_telling (load_trial (load_of d) room) d v refl) tt))

telling : (p : Held) (r : Record) (v : List Line) → Sound p → Tells p v → Telling v (step p r)
unfolding step at_first behind_game after_go in_batch
telling waiting r v s e = cond_telling (is_word r.word Game) v _ _ tt tt
telling (opened d) r v s e = cond_telling (is_word r.word Kinds) v _ _ tt (before_telling d r v)
telling (gathering d) r v s e = before_telling d r v
telling (playing p) r v s e = play_telling (request_of r) p v s e
telling (batching p xs) r v s e = batch_telling (request_of r) p xs v s e
telling ended r v s e = tt

last_append : (before ls ms : List Line) → last_verdict before (ls ++ ms) ≡ last_verdict (last_verdict before ls) ms
unfolding last_verdict
last_append before [] ms = refl
last_append before (l ∷ ls) ms = last_append (newer before l) ls ms

-- what is held behind some lines, and what was told
record Behind (p : Held) (v : List Line) : Type 0 where
  pub sound : Sound p
  pub tells : Tells p v

behind : (p : Held) (rs : List Record) (v : List Line) → Behind p v → Behind (held_behind p rs) (last_verdict v (printed p rs))
unfolding held_behind printed last_verdict
behind p [] v b = b
behind p (r ∷ rs) v b =
    subst⁻¹ (Behind (held_behind (step p r).next rs)) (last_append v (step p r).lines (printed (step p r).next rs))
    (behind (step p r).next rs (last_verdict v (step p r).lines) (record { sound = (right p r b.sound).1; tells = telling p r v b.sound b.tells }))

text_behind : (ls : List (List ℕ)) → Behind (held_after ls) (told_by ls)
unfolding last_verdict held_behind
text_behind ls = behind waiting (map record_of ls) [] (record { sound = tt; tells = tt })

-- ---- two tables with the same view: the same is printed

-- whether a batch is open, and its lines so far
data Open : Type 0 where
  closed : Open
  collecting : List BatchLine → Open

abbrev holding : Open → Table → Held
holding closed t = playing (play_of t)
holding (collecting xs) t = batching (play_of t) xs

-- two steps that print the same and hold the same view
record Together (v w : Step) : Type 0 where
  pub lines : v.lines ≡ w.lines
  pub batch : Open
  pub table : Table
  pub table₂ : Table
  pub next_is : v.next ≡ holding batch table
  pub next_is₂ : w.next ≡ holding batch table₂
  pub view : SameView table table₂

-- a step that leaves the table
still : (o : Open) (ls : List Line) (t u : Table) → SameView t u → Together (record { lines = ls; next = holding o t }) (record { lines = ls; next = holding o u })
still o ls t u w = record { lines = refl; batch = o; table = t; table₂ = u; next_is = refl; next_is₂ = refl; view = w }

call_together : (x : Command) (t u : Table) → SameView t u → Together (call_step x (play_of t)) (call_step x (play_of u))
call_together x t u w =
    let k = same_call (call_on x) w in
    record { lines = ap answer_line k.same_answer; batch = closed; table = table_after (call_on x) t; table₂ = table_after (call_on x) u; next_is = refl; next_is₂ = refl; view = k.same_view }

play_together : (q : Request) (t u : Table) → SameView t u → Together (play_step q (play_of t)) (play_step q (play_of u))
play_together (changing c) t u w = call_together (update (single c)) t u w
play_together beginning t u w = still (collecting []) [] t u w
play_together ending t u w = still closed (no_line (numbered 1) ∷ []) t u w
play_together (setting_kinds k) t u w = call_together (set_kinds k) t u w
play_together (questioning q) t u w = record {
  lines = ap (λ (r : Reply). reply_line r ∷ []) (same_reply q w);
  batch = closed;
  table = t;
  table₂ = u;
  next_is = refl;
  next_is₂ = refl;
  view = w;
}
play_together unknown t u w = still closed (no_line (numbered 1) ∷ []) t u w

batch_together : (q : Request) (xs : List BatchLine) (t u : Table) → SameView t u → Together (batch_step q (play_of t) xs) (batch_step q (play_of u) xs)
batch_together (changing c) xs t u w = still (collecting (xs ++ (makes c ∷ []))) [] t u w
batch_together beginning xs t u w = still (collecting (xs ++ (other ∷ []))) [] t u w
batch_together ending xs t u w = call_together (update (batch xs)) t u w
batch_together (setting_kinds k) xs t u w = still (collecting (xs ++ (other ∷ []))) [] t u w
batch_together (questioning q) xs t u w = still (collecting (xs ++ (other ∷ []))) [] t u w
batch_together unknown xs t u w = still (collecting (xs ++ (other ∷ []))) [] t u w

together : (o : Open) (r : Record) (t u : Table) → SameView t u → Together (step (holding o t) r) (step (holding o u) r)
unfolding step after_go in_batch
together closed r t u w = play_together (request_of r) t u w
together (collecting xs) r t u w = batch_together (request_of r) xs t u w

same_printed : (rs : List Record) (o : Open) (t u : Table) → SameView t u → printed (holding o t) rs ≡ printed (holding o u) rs
unfolding printed
same_printed [] o t u w = refl
same_printed (r ∷ rs) o t u w =
    let k = together o r t u w in
    let later : printed (step (holding o t) r).next rs ≡ printed (step (holding o u) r).next rs =
    ap (λ (h : Held). printed h rs) k.next_is ∙ same_printed rs k.batch k.table k.table₂ k.view ∙ ap (λ (h : Held). printed h rs) (sym k.next_is₂) in
    λ i. k.lines i ++ later i

-- so two texts behind which such tables are held end alike
same_ending : (ls ms : List (List ℕ)) (t u : Table) → held_after ls ≡ playing (play_of t) → held_after ms ≡ playing (play_of u) → SameView t u → SameEnding ls ms
same_ending ls ms t u e f w = record {
  same_told = told ls t e ∙ ap answer_line (told_alike t u w) ∙ sym (told ms u f);
  same_after = λ later. ap (λ (h : Held). printed h (map record_of later)) e ∙ same_printed (map record_of later) closed t u w ∙ ap (λ (h : Held). printed h (map record_of later)) (sym f);
}
  where
    told : (xs : List (List ℕ)) (v : Table) → held_after xs ≡ playing (play_of v) → told_by xs ≡ answer_line (load_answer accepted v)
    told xs v k = subst (λ (h : Held). Tells h (told_by xs)) k (text_behind xs).tells

-- ---- lines that ask for changes

-- one line: what it prints and holds
asked_step : (r : Record) (c : Change) (t : Table) → request_of r ≡ changing c → step (playing (play_of t)) r ≡ call_step (update (single c)) (play_of t)
unfolding step after_go
asked_step r c t e = ap (λ (q : Request). play_step q (play_of t)) e

inside_step : (r : Record) (c : Change) (t : Table) (xs : List BatchLine) → request_of r ≡ changing c → step (batching (play_of t) xs) r ≡ quiet (batching (play_of t) (xs ++ (makes c ∷ [])))
unfolding step in_batch
inside_step r c t xs e = ap (λ (q : Request). batch_step q (play_of t) xs) e

all_left : (P : Line → Type 0) (xs ys : List Line) → All P (xs ++ ys) → All P xs
all_left P [] ys a = tt
all_left P (x ∷ xs) ys a = (a.0, all_left P xs ys a.1)

all_right : (P : Line → Type 0) (xs ys : List Line) → All P (xs ++ ys) → All P ys
all_right P [] ys a = a
all_right P (x ∷ xs) ys a = all_right P xs ys a.1

-- a call that is not answered by a `no` line is accepted
not_refused : (c : Call) (t : Table) → All NotNo (answer_line (answer_to c t)) → trial_of c t ≡ accepted
unfolding answer_line
not_refused c t n = by_trial (trial_of c t) refl
  where
    by_trial : (x : Trial) → trial_of c t ≡ x → trial_of c t ≡ accepted
    by_trial accepted k = k
    by_trial (refused m) k = absurd (subst (λ (w : Answer). All NotNo (answer_line w)) (answer_refused c t m k) n).0

-- lines inside a batch: they are held, and nothing is printed
inside_held : (t : Table) (xs : List BatchLine) (ls : List (List ℕ)) (cs : List Change) → map requested ls ≡ map changing cs
    → (held_behind (batching (play_of t) xs) (map record_of ls) ≡ batching (play_of t) (xs ++ map makes cs)) × (printed (batching (play_of t) xs) (map record_of ls) ≡ [])
unfolding held_behind printed
inside_held t xs [] [] e = (ap (batching (play_of t)) (sym (append-nil xs)), refl)
inside_held t xs [] (c ∷ cs) e = absurd (nil≢cons e)
inside_held t xs (l ∷ ls) [] e = absurd (cons≢nil e)
inside_held t xs (l ∷ ls) (c ∷ cs) e =
    let k = inside_step (record_of l) c t xs (head-eq_of_cons-eq e) in
    let w = inside_held t (xs ++ (makes c ∷ [])) ls cs (tail-eq_of_cons-eq e) in (
      ap (λ (s : Step). held_behind s.next (map record_of ls)) k ∙ w.0 ∙ ap (batching (play_of t)) (append_assoc xs (makes c ∷ []) (map makes cs)),
      ap (λ (s : Step). s.lines ++ printed s.next (map record_of ls)) k ∙ w.1,
    )

changes_back : (cs : List Change) → changes_in (map makes cs) ≡ cs
unfolding changes_in
changes_back [] = refl
changes_back (c ∷ cs) = ap (λ (ds : List Change). c ∷ ds) (changes_back cs)

-- ---- lines that ask for changes, as calls: none is answered by a `no` line only where all are accepted, and then the table behind them is held

record Does (ls : List (List ℕ)) (cs : List Change) (t : Table) : Type 0 where
  pub calls : List Call
  pub asked : changes_asked calls ≡ cs
  pub switching : Switching calls
  pub each_accepted : All NotNo (printed (playing (play_of t)) (map record_of ls)) → EachAccepted calls t
  pub held : held_behind (playing (play_of t)) (map record_of ls) ≡ playing (play_of (table_behind calls t))

-- a call that some lines make, and the lines behind it
then : (ls ms : List (List ℕ)) (u : Update) (cs : List Change) (t : Table)
    → held_behind (playing (play_of t)) (map record_of ls) ≡ playing (play_of (table_after (call_on (update u)) t)) → printed (playing (play_of t)) (map record_of ls) ≡ answer_line (answer_to (call_on (update u)) t)
    → Does ms cs (table_after (call_on (update u)) t) → Does (ls ++ ms) (changes_of u ++ cs) t
unfolding changes_asked table_behind
then ls ms u cs t held lines d = record {
  calls = call_on (update u) ∷ d.calls;
  asked = ap (λ (ds : List Change). changes_of u ++ ds) d.asked;
  switching = (tt, d.switching);
  each_accepted = λ n. let k = subst (All NotNo) (both ∙ (λ i. lines i ++ printed (held i) (map record_of ms))) n in
      (not_refused (call_on (update u)) t (all_left NotNo (answer_line (answer_to (call_on (update u)) t)) _ k), d.each_accepted (all_right NotNo (answer_line (answer_to (call_on (update u)) t)) _ k));
  held = ap (held_behind (playing (play_of t))) (map-append record_of ls ms) ∙ held_append (playing (play_of t)) (map record_of ls) (map record_of ms)
      ∙ ap (λ (h : Held). held_behind h (map record_of ms)) held ∙ d.held;
}
  where
    both : printed (playing (play_of t)) (map record_of (ls ++ ms)) ≡ printed (playing (play_of t)) (map record_of ls) ++ printed (held_behind (playing (play_of t)) (map record_of ls)) (map record_of ms)
    both = ap (printed (playing (play_of t))) (map-append record_of ls ms) ∙ printed_append (playing (play_of t)) (map record_of ls) (map record_of ms)

-- one change
line_held : (l : List ℕ) (c : Change) (t : Table) → requested l ≡ changing c → held_behind (playing (play_of t)) (record_of l ∷ []) ≡ playing (play_of (table_after (call_on (update (single c))) t))
unfolding held_behind
line_held l c t e = ap (λ (s : Step). s.next) (asked_step (record_of l) c t e)

line_printed : (l : List ℕ) (c : Change) (t : Table) → requested l ≡ changing c → printed (playing (play_of t)) (record_of l ∷ []) ≡ answer_line (answer_to (call_on (update (single c))) t)
unfolding printed
line_printed l c t e = ap (λ (s : Step). s.lines ++ []) (asked_step (record_of l) c t e) ∙ append-nil (answer_line (answer_to (call_on (update (single c))) t))

-- a batch
module _ (b : List ℕ) (inside : List (List ℕ)) (e : List ℕ) (cs : List Change) (t : Table) (begins : requested b ≡ beginning) (asks : map requested inside ≡ map changing cs) (ends : requested e ≡ ending) where
  batch_lines : map record_of (b ∷ (inside ++ (e ∷ []))) ≡ record_of b ∷ (map record_of inside ++ (record_of e ∷ []))
  batch_lines = ap (λ (rs : List Record). record_of b ∷ rs) (map-append record_of inside (e ∷ []))

  begun : step (playing (play_of t)) (record_of b) ≡ quiet (batching (play_of t) [])
  unfolding step after_go
  begun = ap (λ (q : Request). play_step q (play_of t)) begins

  ended_step : step (batching (play_of t) (map makes cs)) (record_of e) ≡ call_step (update (batch (map makes cs))) (play_of t)
  unfolding step in_batch
  ended_step = ap (λ (q : Request). batch_step q (play_of t) (map makes cs)) ends

  whole_held : held_behind (playing (play_of t)) (map record_of (b ∷ (inside ++ (e ∷ [])))) ≡ playing (play_of (table_after (call_on (update (batch (map makes cs)))) t))
  unfolding held_behind
  whole_held =
      ap (held_behind (playing (play_of t))) batch_lines ∙ ap (λ (s : Step). held_behind s.next (map record_of inside ++ (record_of e ∷ []))) begun
      ∙ held_append (batching (play_of t) []) (map record_of inside) (record_of e ∷ []) ∙ ap (λ (h : Held). held_behind h (record_of e ∷ [])) (inside_held t [] inside cs asks).0
      ∙ ap (λ (s : Step). s.next) ended_step

  whole_printed : printed (playing (play_of t)) (map record_of (b ∷ (inside ++ (e ∷ [])))) ≡ answer_line (answer_to (call_on (update (batch (map makes cs)))) t)
  unfolding printed
  whole_printed =
      let w = inside_held t [] inside cs asks in
      ap (printed (playing (play_of t))) batch_lines ∙ ap (λ (s : Step). s.lines ++ printed s.next (map record_of inside ++ (record_of e ∷ []))) begun
      ∙ printed_append (batching (play_of t) []) (map record_of inside) (record_of e ∷ []) ∙ (λ i. w.1 i ++ printed (w.0 i) (record_of e ∷ []))
      ∙ ap (λ (s : Step). s.lines ++ []) ended_step ∙ append-nil (answer_line (answer_to (call_on (update (batch (map makes cs)))) t))

does : (ls : List (List ℕ)) (cs : List Change) (t : Table) → Asking ls cs → Does ls cs t
unfolding changes_of changes_asked held_behind table_behind
does ls cs t nothing = record { calls = []; asked = refl; switching = tt; each_accepted = λ n. tt; held = refl }
does ls cs t (one l c ms ds e rest) = then (l ∷ []) ms (single c) ds t (line_held l c t e) (line_printed l c t e) (does ms ds (table_after (call_on (update (single c))) t) rest)
does ls cs t (some b inside e changes ms ds begins asks ends rest) =
    let u = batch (map makes changes) in
    let d = then (b ∷ (inside ++ (e ∷ []))) ms u ds t (whole_held b inside e changes t begins asks ends) (whole_printed b inside e changes t begins asks ends) (does ms ds (table_after (call_on (update u)) t) rest) in
    subst (λ (xs : List (List ℕ)). Does (b ∷ xs) (changes ++ ds) t) (append_assoc inside (e ∷ []) ms) (subst (λ (xs : List Change). Does ((b ∷ (inside ++ (e ∷ []))) ++ ms) (xs ++ ds) t) (changes_back changes) d)

-- behind a text after which a game is played
module _ (earlier : List (List ℕ)) (p : Play) (at : held_after earlier ≡ playing p) (ls : List (List ℕ)) (cs : List Change) (asking : Asking ls cs) where
  abbrev doing : Does ls cs p.table
  doing = does ls cs p.table asking

  held_asked : held_after (earlier ++ ls) ≡ playing (play_of (table_behind doing.calls p.table))
  held_asked =
      ap (held_behind waiting) (map-append record_of earlier ls) ∙ held_append waiting (map record_of earlier) (map record_of ls)
      ∙ ap (λ (h : Held). held_behind h (map record_of ls)) at ∙ doing.held

  all_accepted : All NotNo (printed_behind earlier ls) → EachAccepted doing.calls p.table
  all_accepted n = doing.each_accepted (subst (λ (h : Held). All NotNo (printed h (map record_of ls))) at n)

-- ANY ORDERS
pub texts_any_orders : AnyOrders
texts_any_orders earlier ls ms p cs ds at apart order e n f k =
    let a = does ls cs p.table e in
    let b = does ms ds p.table f in
    same_ending (earlier ++ ls) (earlier ++ ms) _ _ (held_asked earlier p at ls cs e) (held_asked earlier p at ms ds f)
    (same_views p.table a.calls b.calls a.switching b.switching (subst⁻¹ Apart a.asked apart) (rw (a.asked, b.asked) order)
    (all_accepted earlier p at ls cs e n) (all_accepted earlier p at ms ds f k))

-- THERE AND BACK
pub texts_bring_back : BringsBack
unfolding does then
texts_bring_back earlier p e l m at adds cuts n =
    let t = p.table in
    let added = not_refused (call_for room (add e)) t (subst (All NotNo) (ap (λ (h : Held). printed h (record_of l ∷ [])) at ∙ line_printed l (add e) t adds) n) in
    let back = (brings_back t e room room (subst Sound at (text_behind earlier).sound) (cut_follows t e room room (omega arith) added)).same_table in
    same_ending (earlier ++ (l ∷ m ∷ [])) earlier t t
    (held_asked earlier p at (l ∷ m ∷ []) (add e ∷ cut e ∷ []) (one l (add e) (m ∷ []) (cut e ∷ []) adds (one m (cut e) [] [] cuts nothing)) ∙ ap (λ (u : Table). playing (play_of u)) back) at (view_refl t)

-- ---- ANOTHER COUNT OF KINDS

-- one line behind what is held
one_printed : (h : Held) (r : Record) (u : Step) → step h r ≡ u → printed h (r ∷ []) ≡ u.lines
unfolding printed
one_printed h r u e = ap (λ (s : Step). s.lines ++ []) e ∙ append-nil u.lines

behind_one : (earlier : List (List ℕ)) (l : List ℕ) (u : Step) → step (held_after earlier) (record_of l) ≡ u → held_after (earlier ++ (l ∷ [])) ≡ u.next
unfolding held_behind
behind_one earlier l u e =
    ap (held_behind waiting) (map-append record_of earlier (l ∷ [])) ∙ held_append waiting (map record_of earlier) (record_of l ∷ []) ∙ ap (λ (s : Step). s.next) e

go_step : (h : Held) (d : Draft) (r : Record) → Gathered h d → r.word ≡ Go → step h r ≡ load_step (load_trial (load_of d) room) d
unfolding step behind_game before_go is_word
go_step waiting d r g w = absurd g
go_step (opened e) d r g w = rw (w, g)
go_step (gathering e) d r g w = rw (w, g)
go_step (playing p) d r g w = absurd g
go_step (batching p xs) d r g w = absurd g
go_step ended d r g w = absurd g

kinds_step : (r : Record) (k : ℕ) (p : Play) → request_of r ≡ setting_kinds k → step (playing p) r ≡ call_step (set_kinds k) p
unfolding step after_go
kinds_step r k p e = ap (λ (q : Request). play_step q p) e

-- a verdict's line is no `no` line
verdict_not_no : (v : Verdict) (spent kept : ℕ) → All NotNo (answer_line (answer v spent kept))
unfolding answer_line
verdict_not_no none spent kept = (tt, tt)
verdict_not_no (lasso stem cycle) spent kept = (tt, tt)
verdict_not_no unfinished spent kept = tt

module _ (earlier : List (List ℕ)) (p : Play) (k : ℕ) (l : List ℕ) (at : held_after earlier ≡ playing p) (asks : requested l ≡ setting_kinds k)
    (others : List (List ℕ)) (d : Draft) (go : List ℕ) (gathered : Gathered (held_after others) d) (goes : (record_of go).word ≡ Go) (is : load_of d ≡ load_from (to_kinds k p.table)) where
  abbrev t : Table
  t = p.table

  abbrev c : Call
  c = call_on (set_kinds k)

  loads : AsLoaded k t room
  loads = as_loaded k t room (subst Sound at (text_behind earlier).sound)

  trial_is : (x : Trial) → trial_of c t ≡ x → load_trial (load_of d) room ≡ x
  trial_is x e = ap (λ (y : Load). load_trial y room) is ∙ sym loads.same_trial ∙ e

  here : step (held_after earlier) (record_of l) ≡ call_step (set_kinds k) p
  here = ap (λ (h : Held). step h (record_of l)) at ∙ kinds_step (record_of l) k p asks

  there : (x : Trial) → trial_of c t ≡ x → step (held_after others) (record_of go) ≡ load_step x d
  there x e = go_step (held_after others) d (record_of go) gathered goes ∙ ap (λ (y : Trial). load_step y d) (trial_is x e)

  printed_here : printed_behind earlier (l ∷ []) ≡ answer_line (answer_to c t)
  printed_here = one_printed (held_after earlier) (record_of l) (call_step (set_kinds k) p) here

  printed_there : (x : Trial) → trial_of c t ≡ x → printed_behind others (go ∷ []) ≡ (load_step x d).lines
  printed_there x e = one_printed (held_after others) (record_of go) (load_step x d) (there x e)

  answers_are : (x : Trial) → trial_of c t ≡ x → load_answer x (table_of (load_of d)) ≡ answer_to c t
  answers_are x e = ap (λ (y : Trial). load_answer y (table_of (load_of d))) (sym (trial_is x e)) ∙ (λ i. load_answer (load_trial (is i) room) (table_of (is i))) ∙ sym loads.same_answer

  accepted_here : All NotNo (printed_behind earlier (l ∷ [])) → trial_of c t ≡ accepted
  accepted_here n = not_refused c t (subst (All NotNo) printed_here n)

  tables_are : trial_of c t ≡ accepted → table_after c t ≡ table_of (load_of d)
  tables_are e = loads.same_table e ∙ ap table_of (sym is)

  refused_alike : (r : Refusal) → printed_behind earlier (l ∷ []) ≡ no_line r ∷ [] → printed_behind others (go ∷ []) ≡ no_line r ∷ []
  unfolding answer_line load_answer
  refused_alike r e = by_trial (trial_of c t) refl
    where
      by_trial : (x : Trial) → trial_of c t ≡ x → printed_behind others (go ∷ []) ≡ no_line r ∷ []
      by_trial accepted f =
          let u = to_kinds k t in
          absurd (subst (All NotNo) (sym (ap answer_line (answer_accepted c t f)) ∙ sym printed_here ∙ e) (verdict_not_no (printed_verdict u (verdict (final u))) (count (final u) - 0) 0)).0
      by_trial (refused n) f = printed_there (refused n) f ∙ ap answer_line (answers_are (refused n) f) ∙ sym printed_here ∙ e

  as_go : SameAsGo earlier l others go d
  as_go = record {
    same_answer = λ n. let e = accepted_here n in
        printed_there accepted e ∙ ap (λ (ls : List Line). game_line d.size (length d.moves) (accepting_count d.marks) ∷ ls) (ap answer_line (answers_are accepted e) ∙ sym printed_here);
    same_refusal = refused_alike;
    same_after = λ n later. let e = accepted_here n in
        ap (λ (h : Held). printed h (map record_of later))
        (behind_one earlier l (call_step (set_kinds k) p) here ∙ ap (λ (u : Table). playing (play_of u)) (tables_are e) ∙ sym (behind_one others go (load_step accepted d) (there accepted e)));
  }

pub texts_as_go : AsGo
texts_as_go earlier p k l at asks others d go gathered goes is = as_go earlier p k l at asks others d go gathered goes is
