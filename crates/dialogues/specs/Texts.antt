-- The known games as texts: what is sent, and what the box writes. Tabs and newlines as the lead has them. A to I are document 01's, "Games with known
-- results"; those behind them come with tickets of document 02. Assumes nothing.
use Prim.Native.String.{String}
use Rattle.std.specs.Prelude.{List, [], ◌∷◌}

-- a text that is sent, and the lines written for it
pub record Dialogue : Type 0 where
  pub sent : String
  pub written : List String

unfoldable pub dialogue : String → List String → Dialogue
dialogue sent written = record { sent = sent; written = written }

unfoldable pub games : List Dialogue
games =
    -- A
    dialogue "game\t4\t0\npay\t2\nmove\t0\t1\nmove\t1\t2\ngo\nadd\t2\t1\nadd\t2\t3\ncut\t1\t2\ncut\t1\t2\nadd\t2\t0\n"
    ("game\t4\t2\t1\n" ∷ "none\t2\t0\n" ∷ "round\t2\t2\t1\t2\t0\t1\t2\n" ∷ "round\t3\t2\t1\t2\t0\t1\t2\n" ∷ "none\t0\t1\n" ∷ "no\t10\n" ∷ "none\t0\t1\n" ∷ [])
    -- B
    ∷ dialogue "game\t1\t0\ngo\n" ("game\t1\t0\t0\n" ∷ "none\t0\t0\n" ∷ [])
    -- C
    ∷ dialogue "game\t2\t0\npay\t1\nmove\t0\t1\nmove\t1\t0\ngo\n" ("game\t2\t2\t1\n" ∷ "round\t3\t0\t0\t2\t0\t1\n" ∷ [])
    -- D
    ∷ dialogue "game\t2\t0\npay\t0\nmove\t0\t1\nmove\t1\t0\ngo\n" ("game\t2\t2\t1\n" ∷ "round\t4\t0\t0\t2\t0\t1\n" ∷ [])
    -- E
    ∷ dialogue "game\t2\t0\nmove\t0\t1\nmove\t1\t0\ngo\n" ("game\t2\t2\t0\n" ∷ "none\t2\t0\n" ∷ [])
    -- F
    ∷ dialogue "game\t3\t0\npay\t0\nmove\t0\t1\nmove\t1\t2\nmove\t2\t1\ngo\n" ("game\t3\t3\t1\n" ∷ "none\t6\t0\n" ∷ [])
    -- G
    ∷ dialogue "game\t3\t0\npay\t1\nmove\t1\t2\nmove\t2\t1\ngo\n" ("game\t3\t2\t1\n" ∷ "none\t0\t0\n" ∷ [])
    -- H, its last line as ticket 4 has it
    ∷ dialogue "game\t3\t0\npay\t1\npay\t2\nmove\t0\t1\nmove\t0\t2\nmove\t1\t0\nmove\t2\t0\ngo\ncut\t0\t1\nadd\t0\t1\n"
    ("game\t3\t4\t2\n" ∷ "round\t3\t0\t0\t2\t0\t1\n" ∷ "round\t3\t0\t0\t2\t0\t2\n" ∷ "round\t0\t3\t0\t2\t0\t2\n" ∷ [])
    -- I
    ∷ dialogue "game\t3\t0\npay\t0\npay\t1\nmove\t0\t1\nmove\t1\t2\nmove\t2\t1\ngo\n" ("game\t3\t3\t2\n" ∷ "round\t5\t0\t1\t2\t0\t1\t2\n" ∷ [])
    -- Ticket 1: a paying state that returns to itself
    ∷ dialogue "game\t1\t0\npay\t0\nmove\t0\t0\ngo\n" ("game\t1\t1\t1\n" ∷ "round\t2\t0\t0\t1\t0\n" ∷ [])
    -- one that does not pay
    ∷ dialogue "game\t1\t0\nmove\t0\t0\ngo\n" ("game\t1\t1\t0\n" ∷ "none\t1\t0\n" ∷ [])
    -- a move to itself on a state of the stem
    ∷ dialogue "game\t3\t0\npay\t2\nmove\t0\t0\nmove\t0\t1\nmove\t1\t2\nmove\t2\t1\ngo\n" ("game\t3\t4\t1\n" ∷ "round\t5\t0\t1\t2\t0\t1\t2\n" ∷ [])
    -- on a state of the round
    ∷ dialogue "game\t2\t0\npay\t0\nmove\t0\t1\nmove\t1\t1\nmove\t1\t0\ngo\n" ("game\t2\t3\t1\n" ∷ "round\t6\t0\t0\t2\t0\t1\n" ∷ [])
    -- cut, added, added once more, cut where it is not, and outside
    ∷ dialogue "game\t2\t0\npay\t1\nmove\t0\t1\nmove\t1\t1\ngo\ncut\t1\t1\nadd\t1\t1\nadd\t1\t1\ncut\t0\t0\nadd\t0\t0\ncut\t0\t1\nadd\t2\t2\ncut\t0\t0\n"
    ("game\t2\t2\t1\n"
    ∷ "round\t3\t0\t1\t1\t0\t1\n"
    ∷ "none\t0\t1\n"
    ∷ "round\t2\t1\t1\t1\t0\t1\n"
    ∷ "no\t8\n"
    ∷ "no\t10\n"
    ∷ "round\t0\t3\t1\t1\t0\t1\n"
    ∷ "none\t1\t0\n"
    ∷ "no\t6\n"
    ∷ "none\t0\t0\n"
    ∷ [])
    -- a move to itself on the paying state, beside a longer round that is found first
    ∷ dialogue "game\t2\t0\npay\t1\nmove\t0\t1\nmove\t1\t0\nmove\t1\t1\ngo\n" ("game\t2\t3\t1\n" ∷ "round\t4\t0\t0\t2\t0\t1\n" ∷ [])
    -- Ticket 2: game A with its round; the paying state is unmarked, and marked again; then the start state
    ∷ dialogue "game\t4\t0\npay\t2\nmove\t0\t1\nmove\t1\t2\ngo\nadd\t2\t1\nunmark\t2\nunmark\t2\nmark\t2\nmark\t2\nmark\t0\nunmark\t0\n"
    ("game\t4\t2\t1\n"
    ∷ "none\t2\t0\n"
    ∷ "round\t2\t2\t1\t2\t0\t1\t2\n"
    ∷ "none\t1\t2\n"
    ∷ "no\t14\n"
    ∷ "round\t2\t2\t1\t2\t0\t1\t2\n"
    ∷ "no\t13\n"
    ∷ "round\t4\t0\t1\t2\t0\t1\t2\n"
    ∷ "round\t4\t0\t1\t2\t0\t1\t2\n"
    ∷ [])
    -- a state never met, one on the stem, the payer, one on the round, the start state, states outside
    ∷ dialogue "game\t5\t0\npay\t3\nmove\t0\t1\nmove\t1\t2\nmove\t2\t3\nmove\t3\t2\ngo\nmark\t4\nmark\t4\nmark\t1\nunmark\t3\nunmark\t3\nmark\t2\nmark\t0\nmark\t5\nunmark\t512\nunmark\t1\n"
    ("game\t5\t4\t1\n"
    ∷ "round\t5\t0\t2\t2\t0\t1\t2\t3\n"
    ∷ "round\t0\t5\t2\t2\t0\t1\t2\t3\n"
    ∷ "no\t13\n"
    ∷ "round\t4\t1\t2\t2\t0\t1\t2\t3\n"
    ∷ "none\t4\t3\n"
    ∷ "no\t14\n"
    ∷ "round\t4\t2\t2\t2\t0\t1\t2\t3\n"
    ∷ "round\t6\t0\t2\t2\t0\t1\t2\t3\n"
    ∷ "no\t6\n"
    ∷ "no\t6\n"
    ∷ "round\t5\t1\t2\t2\t0\t1\t2\t3\n"
    ∷ [])
    -- a mark by which another round is found first, and without it the old one
    ∷ dialogue "game\t3\t0\npay\t2\nmove\t0\t1\nmove\t0\t2\nmove\t1\t0\nmove\t2\t0\ngo\nmark\t1\nunmark\t1\nunmark\t2\nmark\t1\n"
    ("game\t3\t4\t1\n"
    ∷ "round\t5\t0\t0\t2\t0\t2\n"
    ∷ "round\t2\t1\t0\t2\t0\t1\n"
    ∷ "round\t4\t1\t0\t2\t0\t2\n"
    ∷ "none\t1\t3\n"
    ∷ "round\t2\t1\t0\t2\t0\t1\n"
    ∷ [])
    -- Ticket 4: moves behind the one along the stem go and come, one at a state whose last move leads along it, one at a state never met; then moves of a state
    -- that has finished, behind the stem again, a mark, a move of the tip, the move along the stem, a move after "none", and one that was looked at first
    ∷ dialogue "game\t5\t0\npay\t3\nmove\t0\t1\nmove\t0\t2\nmove\t0\t4\nmove\t2\t3\nmove\t3\t2\ngo\ncut\t0\t4\nadd\t0\t3\nadd\t2\t4\nadd\t4\t0\nadd\t1\t4\ncut\t2\t4\ncut\t0\t3\nmark\t2\nadd\t3\t0\ncut\t2\t3\nadd\t2\t0\ncut\t0\t1\n"
    ("game\t5\t5\t1\n"
    ∷ "round\t5\t0\t1\t2\t0\t2\t3\n"
    ∷ "round\t0\t5\t1\t2\t0\t2\t3\n"
    ∷ "round\t0\t5\t1\t2\t0\t2\t3\n"
    ∷ "round\t0\t5\t1\t2\t0\t2\t3\n"
    ∷ "round\t0\t5\t1\t2\t0\t2\t3\n"
    ∷ "round\t6\t1\t1\t2\t0\t2\t3\n"
    ∷ "round\t0\t7\t1\t2\t0\t2\t3\n"
    ∷ "round\t0\t7\t1\t2\t0\t2\t3\n"
    ∷ "round\t3\t4\t1\t2\t0\t2\t3\n"
    ∷ "round\t3\t5\t1\t2\t0\t2\t3\n"
    ∷ "none\t0\t4\n"
    ∷ "round\t2\t4\t0\t2\t0\t2\n"
    ∷ "round\t3\t0\t0\t2\t0\t2\n"
    ∷ [])
    -- the tip and a state behind it, which the inner search passes: moves of both; then moves never come to, and the only move of the start state
    ∷ dialogue "game\t3\t0\npay\t1\nmove\t0\t1\nmove\t1\t2\nmove\t2\t0\ngo\nadd\t1\t0\ncut\t1\t2\nadd\t2\t2\nadd\t0\t2\ncut\t0\t1\ncut\t2\t2\n"
    ("game\t3\t3\t1\n"
    ∷ "round\t5\t0\t0\t3\t0\t1\t2\n"
    ∷ "round\t5\t1\t0\t3\t0\t1\t2\n"
    ∷ "round\t2\t1\t0\t2\t0\t1\n"
    ∷ "round\t0\t3\t0\t2\t0\t1\n"
    ∷ "round\t0\t3\t0\t2\t0\t1\n"
    ∷ "none\t3\t0\n"
    ∷ "none\t1\t1\n"
    ∷ [])
    -- Ticket 5: a batch without changes keeps every look, with none and with a round
    ∷ dialogue "game\t4\t0\npay\t2\nmove\t0\t1\nmove\t1\t2\ngo\nbegin\nend\nadd\t2\t1\nbegin\nend\n"
    ("game\t4\t2\t1\n" ∷ "none\t2\t0\n" ∷ "none\t0\t2\n" ∷ "round\t2\t2\t1\t2\t0\t1\t2\n" ∷ "round\t0\t4\t1\t2\t0\t1\t2\n" ∷ [])
    -- one whose every change is of a move not come to, or marks a state never met; then such a move goes and comes in one batch
    ∷ dialogue "game\t4\t0\npay\t2\nmove\t0\t1\nmove\t1\t2\nmove\t2\t1\nmove\t0\t3\ngo\nbegin\ncut\t0\t3\nadd\t1\t3\nadd\t3\t0\nmark\t3\nend\nbegin\ncut\t1\t3\nadd\t1\t3\nend\n"
    ("game\t4\t4\t1\n" ∷ "round\t4\t0\t1\t2\t0\t1\t2\n" ∷ "round\t0\t4\t1\t2\t0\t1\t2\n" ∷ "round\t0\t4\t1\t2\t0\t1\t2\n" ∷ [])
    -- mixed ones: a move that was looked at beside a move not come to of a state met earlier, and a mark of a state never met: nothing is kept; then a move of the
    -- tip beside one of a state of the stem; then the tip's mark goes to the state before it
    ∷ dialogue "game\t5\t0\npay\t3\nmove\t0\t4\nmove\t0\t1\nmove\t1\t4\nmove\t1\t3\nmove\t3\t1\ngo\nbegin\nadd\t0\t3\ncut\t1\t4\nmark\t2\nend\nbegin\nadd\t1\t2\nadd\t3\t3\nend\nbegin\nunmark\t3\nmark\t1\nend\n"
    ("game\t5\t5\t1\n"
    ∷ "round\t6\t0\t1\t2\t0\t1\t3\n"
    ∷ "round\t5\t0\t1\t2\t0\t1\t3\n"
    ∷ "round\t4\t2\t1\t2\t0\t1\t3\n"
    ∷ "round\t6\t2\t1\t2\t0\t1\t3\n"
    ∷ [])
    -- refused at the third line: the move and the mark that its first two took are still there for the next lines; then refused for a line that is no change
    ∷ dialogue "game\t4\t0\npay\t3\nmove\t0\t1\nmove\t1\t2\nmove\t2\t3\nmove\t3\t2\ngo\nbegin\ncut\t2\t3\nunmark\t3\ncut\t2\t3\nadd\t0\t0\nend\ncut\t2\t3\nmark\t3\nbegin\nadd\t2\t3\nx\nend\nadd\t2\t3\n"
    ("game\t4\t4\t1\n"
    ∷ "round\t5\t0\t2\t2\t0\t1\t2\t3\n"
    ∷ "no\t10\t3\n"
    ∷ "none\t0\t2\n"
    ∷ "no\t13\n"
    ∷ "no\t1\t2\n"
    ∷ "round\t3\t2\t2\t2\t0\t1\t2\t3\n"
    ∷ [])
    -- one move comes and goes, or goes and comes, in one batch: at the stem not come to, twice; at the stem looked at, where it is newest then; at the tip, twice
    ∷ dialogue "game\t4\t0\npay\t2\nmove\t0\t1\nmove\t1\t2\nmove\t2\t1\nmove\t0\t3\ngo\nbegin\nadd\t0\t2\ncut\t0\t2\nend\nbegin\ncut\t0\t3\nadd\t0\t3\nend\nbegin\ncut\t0\t1\nadd\t0\t1\nend\nbegin\nadd\t2\t3\ncut\t2\t3\nend\nbegin\ncut\t2\t1\nadd\t2\t1\nend\n"
    ("game\t4\t4\t1\n"
    ∷ "round\t4\t0\t1\t2\t0\t1\t2\n"
    ∷ "round\t0\t4\t1\t2\t0\t1\t2\n"
    ∷ "round\t0\t4\t1\t2\t0\t1\t2\n"
    ∷ "round\t5\t0\t1\t2\t0\t1\t2\n"
    ∷ "round\t2\t3\t1\t2\t0\t1\t2\n"
    ∷ "round\t2\t3\t1\t2\t0\t1\t2\n"
    ∷ [])
    -- `end` outside a batch, `begin` inside one, and an input that ends inside one
    ∷ dialogue "game\t2\t0\npay\t1\nmove\t0\t1\nmove\t1\t0\ngo\nend\nbegin\nmark\t0\nbegin\nend\nend\nmark\t0\nbegin\nunmark\t0\n"
    ("game\t2\t2\t1\n" ∷ "round\t3\t0\t0\t2\t0\t1\n" ∷ "no\t1\n" ∷ "no\t1\t2\n" ∷ "no\t1\n" ∷ "round\t3\t0\t0\t2\t0\t1\n" ∷ [])
    -- a refused batch leaves the order of the moves; an accepted one with the same first two lines changes it, and the round found
    ∷ dialogue "game\t3\t0\npay\t1\npay\t2\nmove\t0\t1\nmove\t0\t2\nmove\t1\t0\nmove\t2\t0\ngo\nbegin\ncut\t0\t1\nadd\t0\t1\nadd\t0\t1\nend\nmark\t0\nbegin\ncut\t0\t1\nadd\t0\t1\nend\n"
    ("game\t3\t4\t2\n" ∷ "round\t3\t0\t0\t2\t0\t1\n" ∷ "no\t8\t3\n" ∷ "round\t3\t0\t0\t2\t0\t1\n" ∷ "round\t3\t0\t0\t2\t0\t2\n" ∷ [])
    -- Ticket 8: game A with questions: behind the load, a move that closes the round and one from a state to itself; a state outside; inside a batch; behind a refused batch and a cut
    ∷ dialogue "game\t4\t0\npay\t2\nmove\t0\t1\nmove\t1\t2\ngo\nways\t1\nways\t2\nadd\t2\t1\nways\t1\nways\t2\nadd\t2\t2\nways\t2\nways\t4\nbegin\nways\t2\nend\nbegin\ncut\t1\t2\ncut\t1\t2\nend\nways\t2\ncut\t1\t2\nways\t2\nways\t1\nways\t3\n"
    ("game\t4\t2\t1\n"
    ∷ "none\t2\t0\n"
    ∷ "ways\t1\t1\t1\n"
    ∷ "ways\t2\t0\t1\n"
    ∷ "round\t2\t2\t1\t2\t0\t1\t2\n"
    ∷ "ways\t1\t1\t2\n"
    ∷ "ways\t2\t1\t1\n"
    ∷ "round\t3\t2\t1\t2\t0\t1\t2\n"
    ∷ "ways\t2\t2\t2\n"
    ∷ "no\t6\n"
    ∷ "no\t1\t1\n"
    ∷ "no\t10\t2\n"
    ∷ "ways\t2\t2\t2\n"
    ∷ "none\t0\t1\n"
    ∷ "ways\t2\t2\t1\n"
    ∷ "ways\t1\t0\t2\n"
    ∷ "ways\t3\t0\t0\n"
    ∷ [])
    -- Ticket 9: two kinds; the round goes, comes shorter, and comes another way; a state is marked with the other kind, and with one above K
    ∷ dialogue "game\t3\t0\nkinds\t2\npay\t0\npay\t1\t2\npay\t2\t1\nmove\t0\t1\nmove\t1\t2\nmove\t2\t0\ngo\ncut\t2\t0\nadd\t2\t1\nadd\t1\t0\nmark\t2\t2\nmark\t9\t3\nmark\t0\t5\n"
    ("game\t3\t3\t3\n"
    ∷ "round\t6\t0\t1\t3\t0\t1\t2\t0\n"
    ∷ "none\t2\t2\n"
    ∷ "round\t2\t2\t1\t2\t0\t1\t2\n"
    ∷ "round\t0\t4\t1\t2\t0\t1\t2\n"
    ∷ "round\t2\t2\t1\t2\t0\t1\t2\n"
    ∷ "no\t4\n"
    ∷ "no\t1\n"
    ∷ [])
    -- three kinds: a round that passes state 0 three times
    ∷ dialogue "game\t4\t0\nkinds\t3\npay\t1\npay\t2\t2\npay\t3\t3\nmove\t0\t1\nmove\t1\t0\nmove\t0\t2\nmove\t2\t0\nmove\t0\t3\ngo\nadd\t3\t0\ncut\t0\t2\n"
    ("game\t4\t5\t3\n" ∷ "none\t26\t0\n" ∷ "round\t14\t11\t0\t6\t0\t1\t0\t2\t0\t3\n" ∷ "none\t13\t0\n" ∷ [])
    -- game C with its one kind written
    ∷ dialogue "game\t2\t0\nkinds\t1\npay\t1\t1\nmove\t0\t1\nmove\t1\t0\ngo\n" ("game\t2\t2\t1\n" ∷ "round\t3\t0\t0\t2\t0\t1\n" ∷ [])
    -- Ticket 10: of two kinds one goes, and comes back carried by no state until one is marked; too few kinds, inside a batch, and unreadable
    ∷ dialogue "game\t2\t0\nkinds\t2\npay\t0\npay\t1\t2\nmove\t0\t1\nmove\t1\t0\ngo\nkinds\t1\nmark\t1\t2\nkinds\t2\nmark\t1\t2\nkinds\t0\nbegin\nkinds\t1\nend\nkinds\t01\nways\t0\n"
    ("game\t2\t2\t2\n"
    ∷ "round\t4\t0\t0\t2\t0\t1\n"
    ∷ "round\t4\t0\t0\t2\t0\t1\n"
    ∷ "no\t4\n"
    ∷ "none\t6\t0\n"
    ∷ "round\t3\t1\t0\t2\t0\t1\n"
    ∷ "no\t16\n"
    ∷ "no\t1\t1\n"
    ∷ "no\t1\n"
    ∷ "ways\t0\t1\t1\n"
    ∷ [])
    -- `kinds` elsewhere than directly after `game` or after `go`, too many kinds, and a kind above K
    ∷ dialogue "game\t2\t0\npay\t0\nkinds\t2\n" ("no\t1\n" ∷ [])
    ∷ dialogue "game\t2\t0\nkinds\t5\ngo\n" ("no\t16\n" ∷ [])
    ∷ dialogue "game\t2\t0\nkinds\t2\npay\t0\t3\ngo\n" ("no\t4\n" ∷ [])
    -- Ticket 11: a paying state with a move to itself, beside a longer round that is found first: the second look at its moves comes back; lines that cannot be read, and inside a batch; the round of two
    -- moves alone, length 1 ruled out with the first look; no round; several kinds
    ∷ dialogue "game\t2\t0\npay\t1\nmove\t0\t1\nmove\t1\t0\nmove\t1\t1\ngo\nshort\t0\nshort\t1\nshort\t2\nshort\t65535\nshort\nshort\t65536\nbegin\nshort\t1\nend\ncut\t1\t1\nshort\t0\nshort\t1\nshort\t2\nshort\t3\nunmark\t1\nshort\t3\nkinds\t2\nshort\t3\n"
    ("game\t2\t3\t1\n"
    ∷ "round\t4\t0\t0\t2\t0\t1\n"
    ∷ "short\t2\t1\n"
    ∷ "short\t2\t1\n"
    ∷ "short\t1\t1\n"
    ∷ "short\t1\t1\n"
    ∷ "no\t1\n"
    ∷ "no\t1\n"
    ∷ "no\t1\t1\n"
    ∷ "round\t2\t1\t0\t2\t0\t1\n"
    ∷ "short\t2\t1\n"
    ∷ "short\t2\t2\n"
    ∷ "short\t2\t2\n"
    ∷ "short\t2\t2\n"
    ∷ "none\t1\t1\n"
    ∷ "none\n"
    ∷ "none\t2\t0\n"
    ∷ "no\t17\n"
    ∷ [])
    -- a paying state that cannot be reached, with a move to itself: it is not searched from
    ∷ dialogue "game\t4\t0\npay\t1\npay\t3\nmove\t0\t1\nmove\t1\t2\nmove\t2\t0\nmove\t3\t3\ngo\nshort\t0\nshort\t1\nshort\t2\nshort\t3\nshort\t6\n"
    ("game\t4\t4\t2\n" ∷ "round\t5\t0\t0\t3\t0\t1\t2\n" ∷ "short\t3\t1\n" ∷ "short\t3\t2\n" ∷ "short\t3\t2\n" ∷ "short\t3\t3\n" ∷ "short\t3\t3\n" ∷ [])
    ∷ []
