-- DEMAND 2 for texts: every line that is printed is true of the table that is then present. Assumes nothing.
use Prim.Native.Nat.{ℕ, ◌<◌}
use mathlib.Core.Path.{◌≡◌, refl, ap, ◌∙◌}
use mathlib.Core.Logic.{◌≢◌}
use mathlib.Core.Bool.{Bool, true, false, ◌&&◌, cond}
use mathlib.Core.List.{List, [], ◌∷◌, map}
use native.Mathlib.Omega.{arith}
use Rattle.plain.specs.Search.{none, lasso, unfinished}
use Rattle.plain.specs.Table.{Table}
use Rattle.plain.specs.Refusals.{Trial, accepted, refused, load_trial}
use Rattle.plain.specs.Machine.{BatchLine, single, batch, Command, update, set_kinds, commanded, Answer, refusal, answer, answer_line, load_answer, table_of, Call, trial_of, answer_to, table_after, after, Line, game_line, round_line, none_line, no_line, ways_line, short_line, no_round_line}
use Rattle.plain.specs.Claims.{Arises, loaded, LineTrue, NotNone}
use Rattle.plain.proofs.Trials.{load_never_7}
use Rattle.plain.proofs.Calls.{command_arises}
use Rattle.plain.proofs.Answers.{load_told, call_told, reply_told}
use Rattle.plain.proofs.Loops.{loop_told}
use Rattle.line.specs.Fields.{lines_of}
use Rattle.line.specs.Records.{record_of}
use Rattle.line.specs.Words.{is_word}
use Rattle.line.specs.declared.Word.TheVariants.{Game, Pay, Move, Go, Kinds}
use Rattle.line.specs.declared.Record.{Record}
use Rattle.watch.specs.Text.{Draft, Play, play_of, Held, waiting, opened, gathering, playing, batching, ended, Step, stop, empty, room, load_step, load_of, call_on, call_step, Request, changing, beginning, ending, setting_kinds, questioning, unknown, request_of, play_step, batch_step, at_first, move_most, before_go, behind_game, after_go, in_batch, step, counted}
use Rattle.watch.specs.Truth.{Verdictless, Says, SaysLoop, All, EachLine, True}

-- the table that is held is one that a session can hold
abbrev pub Sound : Held → Type 0
Sound waiting = Unit {0}
Sound (opened d) = Unit {0}
Sound (gathering d) = Unit {0}
Sound (playing p) = Arises p.table
Sound (batching p xs) = Arises p.table
Sound ended = Unit {0}

-- a step that says what is true, and holds such a table
abbrev pub Right : Step → Type 0
Right u = All (λ l. Says l u.next) u.lines × Sound u.next

cond_right : (b : Bool) (u v : Step) → Right u → Right v → Right (cond b u v)
cond_right true u v h k = h
cond_right false u v h k = k

-- ---- answers

-- an answer is told by at most one line
lines_true : (t : Table) (a : Answer) → ((l : Line) → answer_line a ≡ l ∷ [] → LineTrue l t) → All (λ l. Says l (playing (play_of t))) (answer_line a)
unfolding answer_line
lines_true t (refusal r) h = (h _ refl, tt)
lines_true t (answer none spent kept) h = (h _ refl, tt)
lines_true t (answer (lasso stem cycle) spent kept) h = (h _ refl, tt)
lines_true t (answer unfinished spent kept) h = tt

-- a number of document 01 that comes before 7
early : (n : ℕ) → n < 7 → n ≢ 7
early n h e = omega (arith, h, e)

-- a refusal that ends the run
stop_right : (n : ℕ) → n ≢ 7 → Right (stop n)
stop_right n h = ((h, tt), tt)

load_right : (x : Trial) (d : Draft) → load_trial (load_of d) room ≡ x → Right (load_step x d)
load_right accepted d e = ((tt, lines_true (table_of (load_of d)) (load_answer accepted (table_of (load_of d))) (λ l f. load_told (load_of d) room l e f)), loaded (load_of d) room e)
load_right (refused n) d e = stop_right n (λ z. load_never_7 (load_of d) room (e ∙ ap refused z))

arises_after : (c : Call) (t : Table) (x : Trial) → trial_of c t ≡ x → Arises t → Arises (after x (commanded c.command t) t)
unfolding trial_of
arises_after c t accepted e a = command_arises c.command t c.room a e
arises_after c t (refused n) e a = a

call_right : (c : Command) (p : Play) → Arises p.table → Right (call_step c p)
unfolding table_after
call_right c p a =
    (lines_true (table_after (call_on c) p.table) (answer_to (call_on c) p.table) (λ l f. (call_told (call_on c) p.table l a f).truth), arises_after (call_on c) p.table (trial_of (call_on c) p.table) refl a)

play_right : (q : Request) (p : Play) → Arises p.table → Right (play_step q p)
play_right (changing c) p a = call_right (update (single c)) p a
play_right beginning p a = (tt, a)
play_right ending p a = ((early 1 (omega arith), tt), a)
play_right (setting_kinds k) p a = call_right (set_kinds k) p a
play_right (questioning q) p a = ((reply_told q p.table a, tt), a)
play_right unknown p a = ((early 1 (omega arith), tt), a)

batch_right : (q : Request) (p : Play) (xs : List BatchLine) → Arises p.table → Right (batch_step q p xs)
batch_right (changing c) p xs a = (tt, a)
batch_right beginning p xs a = (tt, a)
batch_right ending p xs a = call_right (update (batch xs)) p a
batch_right (setting_kinds k) p xs a = (tt, a)
batch_right (questioning q) p xs a = (tt, a)
batch_right unknown p xs a = (tt, a)

-- ---- one line

before_right : (d : Draft) (r : Record) → Right (before_go d r)
unfolding before_go
before_right d r =
    cond_right (is_word r.word Pay && empty d.moves) _ _ (tt, tt)
    (cond_right (is_word r.word Move) _ _ (cond_right (move_most d.moves) _ _ (stop_right 5 (early 5 (omega arith))) (tt, tt))
    (cond_right (is_word r.word Go) _ _ (load_right (load_trial (load_of d) room) d refl) (stop_right 1 (early 1 (omega arith)))))

pub right : (p : Held) (r : Record) → Sound p → Right (step p r)
unfolding step at_first behind_game after_go in_batch
right waiting r s = cond_right (is_word r.word Game) _ _ (tt, tt) (stop_right 1 (early 1 (omega arith)))
right (opened d) r s = cond_right (is_word r.word Kinds) _ _ (tt, tt) (before_right d r)
right (gathering d) r s = before_right d r
right (playing p) r s = play_right (request_of r) p s
right (batching p xs) r s = batch_right (request_of r) p xs s
right ended r s = (tt, tt)

all_true : (p : Held) (rs : List Record) → Sound p → True p rs
all_true p [] s = tt
all_true p (r ∷ rs) s =
    let u = right p r s in
    (u.0, all_true (step p r).next rs u.1)

-- DEMAND 2, for every text
pub text_true : (text : List ℕ) → True waiting (map record_of (lines_of (counted text)))
text_true text = all_true waiting (map record_of (lines_of (counted text))) tt

-- ---- ticket 1, for every text

no_verdict_lem : (l : Line) → Verdictless l → NotNone l
no_verdict_lem (game_line size moves paying) h = tt
no_verdict_lem (round_line spent kept stem cycle walk) h = tt
no_verdict_lem (none_line spent kept) h = h
no_verdict_lem (no_line r) h = tt
no_verdict_lem (ways_line s leaving entering) h = tt
no_verdict_lem (short_line best least) h = tt
no_verdict_lem no_round_line h = h

says_loop : (l : Line) (p : Held) → Says l p → SaysLoop l p
says_loop l waiting h = no_verdict_lem l h
says_loop l (opened d) h = no_verdict_lem l h
says_loop l (gathering d) h = no_verdict_lem l h
says_loop l (playing p) h = loop_told l p.table h
says_loop l (batching p xs) h = no_verdict_lem l h
says_loop l ended h = no_verdict_lem l h

-- what follows for one line follows for each
all_lines : (P Q : Line → Type 0) → ((l : Line) → P l → Q l) → (ls : List Line) → All P ls → All Q ls
all_lines P Q f [] h = tt
all_lines P Q f (l ∷ ls) h = (f l h.0, all_lines P Q f ls h.1)

each_line : (P Q : Line → Held → Type 0) → ((l : Line) (p : Held) → P l p → Q l p) → (p : Held) (rs : List Record) → EachLine P p rs → EachLine Q p rs
each_line P Q f p [] h = tt
each_line P Q f p (r ∷ rs) h =
    let q = (step p r).next in
    (all_lines (λ l. P l q) (λ l. Q l q) (λ l. f l q) (step p r).lines h.0, each_line P Q f q rs h.1)

-- where a paying state with a move to itself can be reached, `none` is not printed
pub text_loops : (text : List ℕ) → EachLine SaysLoop waiting (map record_of (lines_of (counted text)))
text_loops text = each_line Says SaysLoop says_loop waiting (map record_of (lines_of (counted text))) (text_true text)
