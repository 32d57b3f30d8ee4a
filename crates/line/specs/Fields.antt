-- Document 01, "Lines on the lead": a text as lines, a line as fields. Assumes nothing.
use Rattle.std.specs.Prelude.{ℕ, suc, cond, List, [], ◌∷◌, eqb, take, drop}
use Prim.Native.Char.{code}
use Prim.Native.String.{String, [] as empty, ◌∷◌ as ◌then◌}

-- the bytes of a text of ASCII
unfoldable pub bytes : String → List ℕ
bytes empty = []
bytes (c then s) = code c ∷ bytes s

unfoldable pub tab : ℕ
tab = 9

unfoldable pub newline : ℕ
newline = 10

-- x at the front of the first part
unfoldable pub on_first : ℕ → List (List ℕ) → List (List ℕ)
on_first x [] = (x ∷ []) ∷ []
on_first x (p ∷ ps) = (x ∷ p) ∷ ps

-- the parts of a list between the bytes b; `last` is what is left at its end
unfoldable pub parted : ℕ → List (List ℕ) → List ℕ → List (List ℕ)
parted b last [] = last
parted b last (x ∷ xs) = cond (eqb x b) ([] ∷ parted b last xs) (on_first x (parted b last xs))

-- "one record a line, ended by a newline (the last may lack it)": behind the last newline there is no line
unfoldable pub lines_of : List ℕ → List (List ℕ)
lines_of text = parted newline [] text

-- "fields parted by one tab": one more field than tabs
unfoldable pub fields_of : List ℕ → List (List ℕ)
fields_of line = parted tab ([] ∷ []) line

-- how many bytes stand before the first b, or all of them
unfoldable pub up_to : ℕ → List ℕ → ℕ
up_to b [] = 0
up_to b (x ∷ xs) = cond (eqb x b) 0 (suc (up_to b xs))

-- "A field is handed on as a part of the line": the part that starts at a place and ends before the next tab
unfoldable pub field_at : List ℕ → ℕ → List ℕ
field_at line from = take (up_to tab (drop from line)) (drop from line)
