-- Demand 2 for texts: what is printed is true of the table that is then present. proofs/Truth.antt proves it. Assumes nothing.
use Rattle.std.specs.Prelude.{◌≢◌, List, [], ◌∷◌}
use Rattle.plain.specs.Machine.{Line, game_line, round_line, none_line, no_line, ways_line, short_line, no_round_line}
use Rattle.plain.specs.Claims.{LineTrue, NotNone, LoopTold}
use Rattle.line.specs.declared.Record.{Record}
use Rattle.watch.specs.Text.{Held, waiting, opened, gathering, playing, batching, ended, step}

-- a line that tells no verdict, no count of moves and no length; of a `no` line: "refusal 7 no longer occurs" (document 02, ticket 1)
abbrev pub Verdictless : Line → Type 0
Verdictless (game_line size moves paying) = Unit {0}
Verdictless (round_line spent kept stem cycle walk) = ⊥
Verdictless (none_line spent kept) = ⊥
Verdictless (no_line r) = r.number ≢ 7
Verdictless (ways_line s leaving entering) = ⊥
Verdictless (short_line best least) = ⊥
Verdictless no_round_line = ⊥

-- A line written is true of what is held behind its record: ""None" exactly when no free round can be reached from the start state; otherwise a walk that
-- the present table really has", of the lengths printed; counts that "equal a count over the present moves" (document 02, ticket 8); and lengths of rounds that it has, or none
-- where it has no round (ticket 11). Where no table is held, or a batch is open, it tells none of these.
abbrev pub Says : Line → Held → Type 0
Says l waiting = Verdictless l
Says l (opened d) = Verdictless l
Says l (gathering d) = Verdictless l
Says l (playing p) = LineTrue l p.table
Says l (batching p xs) = Verdictless l
Says l ended = Verdictless l

-- Document 02, ticket 1: a line is not `none` where a paying state with a move to itself can be reached, nor where no table is held
abbrev pub SaysLoop : Line → Held → Type 0
SaysLoop l waiting = NotNone l
SaysLoop l (opened d) = NotNone l
SaysLoop l (gathering d) = NotNone l
SaysLoop l (playing p) = LoopTold l p.table
SaysLoop l (batching p xs) = NotNone l
SaysLoop l ended = NotNone l

-- something of each line
abbrev pub All : (Line → Type 0) → List Line → Type 0
All P [] = Unit {0}
All P (l ∷ ls) = P l × All P ls

-- something of each line written, with what is held behind its record
abbrev pub EachLine : (Line → Held → Type 0) → Held → List Record → Type 0
EachLine P held [] = Unit {0}
EachLine P held (r ∷ rs) = All (λ l. P l (step held r).next) (step held r).lines × EachLine P (step held r).next rs

-- the lines written for each record are true of what is held behind it
abbrev pub True : Held → List Record → Type 0
True = EachLine Says
