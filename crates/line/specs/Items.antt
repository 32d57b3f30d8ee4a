-- The steps of reading a record: the row of a word, what stands behind a field, and the record of a word with so many numbers. Cited by internal
-- contracts alone. Assumes nothing.
use Rattle.std.specs.Prelude.{ℕ, suc, ◌+◌, cond, ◌&&◌, ◌||◌, List, eqb, ltb, length, Option, Some, None, Result, Ok, Err}
use Rattle.line.specs.declared.NoRecord.{NoRecord}
use Rattle.line.specs.declared.Word.{Word}
use Rattle.line.specs.declared.Word.TheVariants.{Unreadable}
use Rattle.line.specs.declared.Row.{Row}
use Rattle.line.specs.declared.Record.{Record}
use Rattle.line.specs.Fields.{field_at}
use Rattle.line.specs.Numbers.{number_of}
use Rattle.line.specs.Words.{count_of, limit_of, kind_of, is_word}
use Rattle.line.specs.Records.{same_bytes}

-- a row of the table of words: a word, and what it asks for
abbrev pub row_with : Word → ℕ → ℕ → ℕ → Row
row_with w count limit kind = record { word = w; count = count; limit = limit; kind = kind }

abbrev pub row_of : Word → Row
row_of w = row_with w (count_of w) (limit_of w) (kind_of w)

-- the row that was found before, or another where there is none and the field spells its word
unfoldable pub or_row : Row → List ℕ → List ℕ → Row → Row
or_row found field spelling row = cond (is_word found.word Unreadable && same_bytes field spelling) row found

-- the field that starts behind `at`, as a number, and where it ends
abbrev pub as_item : Option ℕ → ℕ → Result (Option (ℕ × ℕ)) NoRecord
as_item (Some v) end = Ok (Some (v, end))
as_item None end = Err (record {})

unfoldable pub item_at : ℕ → List ℕ → ℕ → Result (Option (ℕ × ℕ)) NoRecord
item_at limit line at = cond (eqb at (length line)) (Ok None)
    (as_item (number_of limit (field_at line (at + 1))) (at + 1 + length (field_at line (at + 1))))

-- the largest that the number behind the first may be: of a word that takes a kind it is the kind
unfoldable pub second_limit : Row → ℕ
second_limit row = cond (ltb 0 row.kind) 4 row.limit

-- a word behind which so many numbers stand: as many as it takes, or a kind behind them
unfoldable pub filled_with : Row → ℕ → ℕ → ℕ → Result Record NoRecord
filled_with row count first second =
    cond (eqb count row.count || (ltb 0 row.kind && eqb count (suc row.count) && ltb 0 second))
    (Ok (record { word = row.word; first = first; second = second }))
    (Err (record {}))
