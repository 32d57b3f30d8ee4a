-- Document 01, "Lines on the lead", its second paragraph: the output lines as bytes. Assumes nothing.
use Rattle.std.specs.Prelude.{ℕ, zero, suc, ◌+◌, ◌/◌, ◌%◌, cond, List, [], ◌∷◌, ◌++◌, ltb}
use Rattle.plain.specs.Machine.{Position, alone, at_line, Line, game_line, round_line, none_line, no_line, ways_line, short_line, no_round_line}
use Rattle.line.specs.Fields.{bytes, tab, newline}

-- the decimal digits of n, the most significant first; the first argument is above n
unfoldable pub digits_in : ℕ → ℕ → List ℕ
digits_in zero n = []
digits_in (suc k) n = cond (ltb n 10) ((48 + n % 10) ∷ []) (digits_in k (n / 10) ++ ((48 + n % 10) ∷ []))

unfoldable pub decimal : ℕ → List ℕ
decimal n = digits_in (suc n) n

-- a tab and a number
unfoldable pub field_of : ℕ → List ℕ
field_of n = tab ∷ decimal n

unfoldable pub fields_of : List ℕ → List ℕ
fields_of [] = []
fields_of (n ∷ ns) = field_of n ++ fields_of ns

-- "Output fields too are parted by one tab, and every output line ends with a newline."
unfoldable pub line_of : List ℕ → List ℕ → List ℕ
line_of word ns = word ++ (fields_of ns ++ (newline ∷ []))

-- what a refusal's position adds to its line: nothing, or, of a batch, "the line's position from 1"
abbrev pub position_fields : Position → List ℕ
position_fields alone = []
position_fields (at_line i) = i ∷ []

-- "`game`, N, the count of moves and the count of paying states"; "`round`, spent, kept, stem length, round length and the walk; or `none`, spent,
-- kept; or `no` and the refusal number"; of a batch "one `no` line gives the number and the line's position"; of `ways` "the word, the
-- state, the count of moves that leave it and the count that enter it"; of `short` "The line printed gives `short`, the length of the best round known, and the smallest
-- length not ruled out", and "With no round the line is `none` alone"
unfoldable pub render : Line → List ℕ
render (game_line size moves paying) = line_of (bytes "game") (size ∷ moves ∷ paying ∷ [])
render (round_line spent kept stem cycle walk) = line_of (bytes "round") (spent ∷ kept ∷ stem ∷ cycle ∷ walk)
render (none_line spent kept) = line_of (bytes "none") (spent ∷ kept ∷ [])
render (no_line r) = line_of (bytes "no") (r.number ∷ position_fields r.position)
render (ways_line s leaving entering) = line_of (bytes "ways") (s ∷ leaving ∷ entering ∷ [])
render (short_line best least) = line_of (bytes "short") (best ∷ least ∷ [])
render no_round_line = line_of (bytes "none") []

-- the bytes of some lines, one behind the other
unfoldable pub rendered : List Line → List ℕ
rendered [] = []
rendered (l ∷ ls) = render l ++ rendered ls
