-- Document 01, "Lines on the lead": the words, and a line as a record. Assumes nothing.
use Rattle.std.specs.Prelude.{ℕ, suc, Bool, true, false, cond, ◌&&◌, ◌||◌, List, [], ◌∷◌, map, eqb, ltb, length, get_or, take, drop}
use Rattle.line.specs.declared.Word.{Word}
use Rattle.line.specs.declared.Word.TheVariants.{Game, Pay, Move, Go, Add, Cut, Mark, Unmark, Begin, End, Ways, Kinds, Short, Unreadable}
use Rattle.line.specs.declared.Record.{Record}
use Rattle.line.specs.Fields.{bytes, fields_of}
use Rattle.line.specs.Numbers.{all, value, is_number}
use Rattle.line.specs.Words.{count_of, limit_of, kind_of, takes_kind}

-- equality of lists of bytes, as a test
unfoldable pub same_bytes : List ℕ → List ℕ → Bool
same_bytes [] [] = true
same_bytes [] (y ∷ ys) = false
same_bytes (x ∷ xs) [] = false
same_bytes (x ∷ xs) (y ∷ ys) = cond (eqb x y) (same_bytes xs ys) false

-- "The words are": each with its bytes. Tickets of document 02 add rows.
unfoldable pub words : List (List ℕ × Word)
words =
    (bytes "game", Game)
    ∷ (bytes "pay", Pay)
    ∷ (bytes "move", Move)
    ∷ (bytes "go", Go)
    ∷ (bytes "add", Add)
    ∷ (bytes "cut", Cut)
    ∷ (bytes "mark", Mark)
    ∷ (bytes "unmark", Unmark)
    ∷ (bytes "begin", Begin)
    ∷ (bytes "end", End)
    ∷ (bytes "ways", Ways)
    ∷ (bytes "kinds", Kinds)
    ∷ (bytes "short", Short)
    ∷ []

-- the word that a field spells, by the table; an unknown one makes the line unreadable
unfoldable pub word_in : List (List ℕ × Word) → List ℕ → Word
word_in [] field = Unreadable
word_in (row ∷ rows) field = cond (same_bytes field row.0) row.1 (word_in rows field)

unfoldable pub word_of : List ℕ → Word
word_of field = word_in words field

abbrev pub unreadable : Record
unreadable = record { word = Unreadable; first = 0; second = 0 }

-- Ticket 9: "A kind outside 1 to 4 gets 1."
unfoldable pub is_kind : List ℕ → Bool
is_kind field = is_number 4 field && ltb 0 (value field)

-- The fields behind a word: its numbers, and behind them a kind where it takes one and one is written. "a wrong count of fields and a bad number" do not fit.
unfoldable pub fields_fit : Word → List (List ℕ) → Bool
fields_fit w fields =
    all (is_number (limit_of w)) (take (count_of w) fields)
    && (eqb (length fields) (count_of w) || (takes_kind w && eqb (length fields) (suc (count_of w)) && all is_kind (drop (count_of w) fields)))

-- a word with the fields behind it; a number that the word does not take is 0, and a kind "1 if left out"
unfoldable pub worded : Word → List (List ℕ) → Record
worded w fields = cond (fields_fit w fields)
    (record { word = w; first = get_or (map value fields) 0 0; second = get_or (map value fields) 1 (kind_of w) })
    unreadable

unfoldable pub from_fields : List (List ℕ) → Record
from_fields [] = unreadable
from_fields (w ∷ fields) = worded (word_of w) fields

-- "Refusal 1 covers an empty line, one above 32 bytes without its newline, an unknown or misplaced word, a wrong count of fields and a bad
-- number": all of these but the misplaced word, which is seen by what came before the line
unfoldable pub record_of : List ℕ → Record
record_of line = cond (ltb 32 (length line)) unreadable (from_fields (fields_of line))
