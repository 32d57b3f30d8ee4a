-- Document 02, tickets 7 and 10, for the lines of a text. proofs/Texts.antt proves it. Assumes nothing.
use Rattle.std.specs.Prelude.{ℕ, ◌≡◌, List, [], ◌∷◌, ◌++◌, map, length}
use Rattle.plain.specs.Search.{Edge}
use Rattle.plain.specs.Table.{accepting_count}
use Rattle.plain.specs.Machine.{Change, add, cut, to_kinds, Refusal, Line, game_line, round_line, none_line, no_line, ways_line, short_line, no_round_line}
use Rattle.plain.specs.Claims.{load_from}
use Rattle.plain.specs.Orders.{Apart, Permutation, total_line}
use Rattle.line.specs.declared.Word.TheVariants.{Go}
use Rattle.line.specs.Records.{record_of}
use Rattle.watch.specs.Text.{Draft, Play, Held, waiting, opened, gathering, playing, batching, ended, load_of, Request, changing, beginning, ending, setting_kinds, request_of, printed, held_behind}
use Rattle.watch.specs.Truth.{All}

-- a line that is no refusal
abbrev pub NotNo : Line → Type 0
NotNo (game_line size moves paying) = Unit {0}
NotNo (round_line spent kept stem cycle walk) = Unit {0}
NotNo (none_line spent kept) = Unit {0}
NotNo (no_line r) = ⊥
NotNo (ways_line s leaving entering) = Unit {0}
NotNo (short_line best least) = Unit {0}
NotNo no_round_line = Unit {0}

-- what a line requests behind `go`
abbrev pub requested : List ℕ → Request
requested l = request_of (record_of l)

-- The lines ask for these changes, in this order: a line asks for one, or lines from a `begin` to its `end` ask for some.
pub data Asking : List (List ℕ) → List Change → Type 0 where
  nothing : Asking [] []
  one : (l : List ℕ) (c : Change) (ls : List (List ℕ)) (cs : List Change) → requested l ≡ changing c → Asking ls cs → Asking (l ∷ ls) (c ∷ cs)
  some : (b : List ℕ) (inside : List (List ℕ)) (e : List ℕ) (changes : List Change) (ls : List (List ℕ)) (cs : List Change)
      → requested b ≡ beginning → map requested inside ≡ map changing changes → requested e ≡ ending → Asking ls cs
      → Asking (b ∷ (inside ++ (e ∷ ls))) (changes ++ cs)

-- what is held behind the lines of a text, and what is printed for lines that follow
abbrev pub held_after : List (List ℕ) → Held
held_after ls = held_behind waiting (map record_of ls)

abbrev pub printed_behind : List (List ℕ) → List (List ℕ) → List Line
printed_behind earlier ls = printed (held_after earlier) (map record_of ls)

-- the last `round` or `none` line of some, "counts aside": its looks are taken together. Where there is none it is the one before.
abbrev pub newer : List Line → Line → List Line
newer before (game_line size moves paying) = before
newer before (round_line spent kept stem cycle walk) = total_line (round_line spent kept stem cycle walk) ∷ []
newer before (none_line spent kept) = total_line (none_line spent kept) ∷ []
newer before (no_line r) = before
newer before (ways_line s leaving entering) = before
newer before (short_line best least) = before
newer before no_round_line = before

unfoldable pub last_verdict : List Line → List Line → List Line
last_verdict before [] = before
last_verdict before (l ∷ ls) = last_verdict (newer before l) ls

-- of what is printed for the lines of a text
abbrev pub told_by : List (List ℕ) → List Line
told_by ls = last_verdict [] (printed_behind [] ls)

-- Two texts end alike: in the same verdict, walk and total; and what is printed for lines behind them is the same, counts and all.
pub record SameEnding (ls ms : List (List ℕ)) : Type 0 where
  pub same_told : told_by ls ≡ told_by ms
  pub same_after : (later : List (List ℕ)) → printed_behind ls later ≡ printed_behind ms later

-- Behind lines of a text after which a game is played: lines that ask for changes, which name pairwise different states, and lines that ask for the same changes in another order, none
-- answered by a `no` line.
abbrev pub AnyOrders : Type 0
AnyOrders = (earlier ls ms : List (List ℕ)) (p : Play) (cs ds : List Change) → held_after earlier ≡ playing p → Apart cs → Permutation cs ds
    → Asking ls cs → All NotNo (printed_behind earlier ls) → Asking ms ds → All NotNo (printed_behind earlier ms)
    → SameEnding (earlier ++ ls) (earlier ++ ms)

-- a line that adds a move, not answered by a `no` line, and a line that cuts it straight away: all is as if neither had been there
abbrev pub BringsBack : Type 0
BringsBack = (earlier : List (List ℕ)) (p : Play) (e : Edge) (l m : List ℕ) → held_after earlier ≡ playing p → requested l ≡ changing (add e) → requested m ≡ changing (cut e)
    → All NotNo (printed_behind earlier (l ∷ [])) → SameEnding (earlier ++ (l ∷ m ∷ [])) earlier

-- ---- ticket 10: another count of kinds

-- what was gathered up to here is to be loaded by a `go`
abbrev pub Gathered : Held → Draft → Type 0
Gathered waiting d = ⊥
Gathered (opened e) d = e ≡ d
Gathered (gathering e) d = e ≡ d
Gathered (playing p) d = ⊥
Gathered (batching p xs) d = ⊥
Gathered ended d = ⊥

-- A line `kinds`, and the `go` of another text that loads the table with that count of kinds: the `go` prints the line `game`, and both print the same answer; or both the same refusal. What is
-- printed for lines behind them is the same, counts and all, unless they are refused: then the second text is over.
pub record SameAsGo (earlier : List (List ℕ)) (l : List ℕ) (other : List (List ℕ)) (go : List ℕ) (d : Draft) : Type 0 where
  pub same_answer : All NotNo (printed_behind earlier (l ∷ []))
      → printed_behind other (go ∷ []) ≡ game_line d.size (length d.moves) (accepting_count d.marks) ∷ printed_behind earlier (l ∷ [])
  pub same_refusal : (r : Refusal) → printed_behind earlier (l ∷ []) ≡ no_line r ∷ [] → printed_behind other (go ∷ []) ≡ no_line r ∷ []
  pub same_after : All NotNo (printed_behind earlier (l ∷ [])) → (later : List (List ℕ)) → printed_behind (earlier ++ (l ∷ [])) later ≡ printed_behind (other ++ (go ∷ [])) later

-- "That answer and what follows are the same as after a load of that table".
abbrev pub AsGo : Type 0
AsGo = (earlier : List (List ℕ)) (p : Play) (k : ℕ) (l : List ℕ) → held_after earlier ≡ playing p → requested l ≡ setting_kinds k
    → (other : List (List ℕ)) (d : Draft) (go : List ℕ) → Gathered (held_after other) d → (record_of go).word ≡ Go → load_of d ≡ load_from (to_kinds k p.table)
    → SameAsGo earlier l other go d
