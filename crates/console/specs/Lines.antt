-- The lines that a program puts together from the bytes of its reads. Assumes nothing.
use Rattle.std.specs.Prelude.{ℕ, zero, suc, ◌+◌, ◌-◌, ◌≤◌, ◌<◌, ◌≡◌, Bool, true, false, cond, List, [], ◌∷◌, ◌++◌, map, eqb, ltb, length, take, drop}
use Rattle.line.specs.Fields.{newline}
use Rattle.line.specs.Records.{record_of}
use Rattle.answer.specs.Rendering.{rendered}
use Rattle.verdict.specs.declared.Answer.{Answer}
use Rattle.question.specs.declared.Reply.{Reply}
use Rattle.lead.specs.declared.Lead.{Lead}
use Rattle.lead.specs.Asked.{asked}
use Rattle.watch.specs.Model.{lines_most, lines_told}
use Rattle.watch.specs.Text.{waiting, step, held_behind, limit}
use Rattle.console.specs.declared.Status.{Status}
use Rattle.console.specs.declared.Status.TheVariants.{More, Line, Last, Over}
use Rattle.console.specs.declared.Reader.{Reader}

-- a read brings at most so many bytes
abbrev pub chunk : ℕ
chunk = 512

-- of a line above 32 bytes the 33rd is enough to see that
abbrev pub held_most : ℕ
held_most = 33

-- a byte behind what is held of a line
unfoldable pub pushed : List ℕ → ℕ → List ℕ
pushed held b = cond (ltb (length held) held_most) (held ++ (b ∷ [])) held

abbrev pub last : List ℕ → List (List ℕ)
last [] = []
last (b ∷ bs) = (b ∷ bs) ∷ []

-- the lines handed on where some bytes of a line are held, so many may still come, and these do come
unfoldable pub handed : List ℕ → ℕ → List ℕ → List (List ℕ)
handed held left [] = last held
handed held zero (b ∷ bs) = []
handed held (suc left) (b ∷ bs) = cond (eqb b newline) (held ∷ handed [] left bs) (handed (pushed held b) left bs)

-- what is held of the line, and what is left of the bytes of the last read
abbrev pub held_in : Reader → List ℕ → List ℕ
held_in r held = take r.len held

abbrev pub bytes_in : Reader → List ℕ → List ℕ
bytes_in r buf = drop r.at (take r.end buf)

-- what taking bytes comes to, whatever bytes follow: the line goes on, a line is complete, or the limit is passed
abbrev pub Goes : Status → List ℕ → ℕ → List ℕ → List ℕ → ℕ → List ℕ → Type 0
Goes More held left bytes held' left' bytes' = (bytes' ≡ []) × ((more : List ℕ) → handed held left (bytes ++ more) ≡ handed held' left' more)
Goes Line held left bytes held' left' bytes' = (more : List ℕ) → handed held left (bytes ++ more) ≡ held' ∷ handed [] left' (bytes' ++ more)
Goes Last held left bytes held' left' bytes' = ⊥
Goes Over held left bytes held' left' bytes' = (more : List ℕ) → handed held left (bytes ++ more) ≡ []

-- the bounds of a reader over a buffer of so many bytes
pub record Within (r : Reader) (size : ℕ) : Type 0 where
  pub at : r.at ≤ r.end
  pub end : r.end ≤ size
  pub len : r.len ≤ held_most

-- the bytes that a reader has taken between two of its states count off what may still come
pub record Took (r : Reader) (held buf : List ℕ) (r' : Reader) (held' : List ℕ) : Type 0 where
  pub within : Within r' (length buf)
  pub size : length held' ≡ held_most
  pub end : r'.end ≡ r.end
  pub falls : r'.left + (r'.at - r.at) ≡ r.left
  pub moved : r'.status ≡ Line → r.at < r'.at
  pub goes : Goes r'.status (held_in r held) r.left (bytes_in r buf) (held_in r' held') r'.left (bytes_in r' buf)

abbrev pub is_more : Status → Bool
is_more More = true
is_more Line = false
is_more Last = false
is_more Over = false

abbrev pub has_line : Status → Bool
has_line More = false
has_line Line = true
has_line Last = true
has_line Over = false

abbrev pub is_line : Status → Bool
is_line More = false
is_line Line = true
is_line Last = false
is_line Over = false

-- before the first byte
abbrev pub first_reader : Reader
first_reader = record { at = 0; end = 0; len = 0; left = limit; status = More }

-- behind a line: no byte of the next is held
abbrev pub reader_behind : Reader → Reader
reader_behind r = record { at = r.at; end = r.end; len = 0; left = r.left; status = More }

-- where the input ends
unfoldable pub end_of : Reader → Reader
end_of r = cond (eqb r.len 0)
    (record { at = 0; end = 0; len = r.len; left = r.left; status = Over })
    (record { at = 0; end = 0; len = r.len; left = r.left; status = Last })

-- ---- what is written

-- the bytes of the lines told for what a line asks of a lead, with the marks behind the line, an answer, a reply and the list of the walk, in the box's buffer
unfoldable pub bytes_told : List ℕ → Lead → List ℕ → Answer → Reply → List ℕ → List ℕ
bytes_told line lead marks answer reply walk = rendered (lines_told (asked lead (record_of line)) marks answer reply walk lines_most)

-- The bytes are what the plain definition prints for this line of what was read, behind some earlier lines: only the history of the reads holds these.
pub record Printed (line bytes : List ℕ) : Type 0 where
  pub seen : List ℕ
  pub earlier : List (List ℕ)
  pub later : List (List ℕ)
  pub read : handed [] limit seen ≡ earlier ++ (line ∷ later)
  pub lines : bytes ≡ rendered (step (held_behind waiting (map record_of earlier)) (record_of line)).lines

-- ---- the next line

-- what the next line comes to, where the reads brought some bytes: a line, whatever bytes follow; the last line, or none, where the input ends
-- there or the limit is passed
abbrev pub Found : Status → List ℕ → ℕ → List ℕ → List ℕ → List ℕ → ℕ → List ℕ → Type 0
Found More held left bytes brought held' left' bytes' = ⊥
Found Line held left bytes brought held' left' bytes' = (more : List ℕ) → handed held left (bytes ++ (brought ++ more)) ≡ held' ∷ handed [] left' (bytes' ++ more)
Found Last held left bytes brought held' left' bytes' = handed held left (bytes ++ brought) ≡ held' ∷ []
Found Over held left bytes brought held' left' bytes' = handed held left (bytes ++ brought) ≡ []

pub record Next (r : Reader) (held buf : List ℕ) (r' : Reader) (held' buf' : List ℕ) : Type 0 where
  pub within : Within r' chunk
  pub size : length held' ≡ held_most
  pub space : length buf' ≡ chunk
  pub falls : r'.status ≡ Line → r'.left < r.left
  pub brought : List ℕ
  pub goes : Found r'.status (held_in r held) r.left (bytes_in r buf) brought (held_in r' held') r'.left (bytes_in r' buf')
