-- The lines of a step, as the buffer holds them, and what is held behind one record more. Assumes nothing.
use Prim.Native.Nat.{ℕ, ◌<◌}
use native.Mathlib.Omega.{arith}
use mathlib.Core.Path.{◌≡◌, refl, sym, ap, subst, subst⁻¹, ◌∙◌}
use mathlib.Core.Bool.{true, true≢false}
use mathlib.Core.List.{List, [], ◌∷◌, ◌++◌, map, map-append, append-nil, append_assoc}
use lib.ListN.{length, take}
use Rattle.line.specs.Records.{record_of}
use Rattle.verdict.specs.declared.Answer.{Answer}
use Rattle.question.specs.declared.Reply.{Reply}
use Rattle.lead.specs.declared.Lead.{Lead}
use Rattle.lead.specs.declared.Plan.{Plan}
use Rattle.lead.specs.Asked.{asked}
use Rattle.watch.specs.declared.Written.{Written}
use Rattle.watch.specs.Text.{Held, Step, waiting, step, limit, held_behind}
use Rattle.watch.specs.Model.{lines_most, Laid, Writes}
use Rattle.watch.proofs.Records.{held_append}
use Rattle.watch.proofs.Output.{laid_bytes}
use Rattle.console.specs.declared.Status.{Status}
use Rattle.console.specs.declared.Status.TheVariants.{More, Line, Last, Over}
use Rattle.console.specs.declared.Reader.{Reader}
use Rattle.console.specs.Lines.{chunk, held_most, handed, first_reader, reader_behind, Within, held_in, bytes_in, has_line, is_line, bytes_told, Printed, Found, Next}
use Rattle.console.proofs.Reading.{line_status, within_first, within_behind}

-- What was read so far: its lines up to here, and those that the bytes left of the last read begin, whatever bytes follow.
pub record Read (r : Reader) (held buf seen : List ℕ) (ls : List (List ℕ)) : Type 0 where
  pub goes : (more : List ℕ) → handed [] limit (seen ++ more) ≡ ls ++ handed (held_in r held) r.left (bytes_in r buf ++ more)

pub read_first : (q : Reader) (held buf : List ℕ) → q ≡ first_reader → Read q held buf [] []
read_first q held buf e = subst⁻¹ (λ (r : Reader). Read r held buf [] []) e (record { goes = λ more. refl })

-- one line more
pub record Come (r' : Reader) (held' buf' seen : List ℕ) (ls : List (List ℕ)) : Type 0 where
  pub later : List (List ℕ)
  pub read : handed [] limit seen ≡ ls ++ (held_in r' held' ∷ later)

module _ (r : Reader) (held buf : List ℕ) (r' : Reader) (held' buf' seen : List ℕ) (ls : List (List ℕ)) where
  further : (brought more : List ℕ) → Read r held buf seen ls
      → handed [] limit ((seen ++ brought) ++ more) ≡ ls ++ handed (held_in r held) r.left (bytes_in r buf ++ (brought ++ more))
  further brought more h = ap (handed [] limit) (append_assoc seen brought more) ∙ h.goes (brought ++ more)

  come_by : (st : Status) (brought : List ℕ) → Found st (held_in r held) r.left (bytes_in r buf) brought (held_in r' held') r'.left (bytes_in r' buf') → has_line st ≡ true
      → Read r held buf seen ls → Come r' held' buf' (seen ++ brought) ls
  come_by More brought f e h = absurd f
  come_by Line brought f e h = record {
    later = handed [] r'.left (bytes_in r' buf' ++ []);
    read = sym (ap (handed [] limit) (append-nil (seen ++ brought))) ∙ further brought [] h ∙ ap (λ (xs : List (List ℕ)). ls ++ xs) (f []);
  }
  come_by Last brought f e h = record {
    later = [];
    read = sym (ap (handed [] limit) (append-nil (seen ++ brought))) ∙ further brought [] h
        ∙ ap (λ (xs : List ℕ). ls ++ handed (held_in r held) r.left (bytes_in r buf ++ xs)) (append-nil brought)
        ∙ ap (λ (xs : List (List ℕ)). ls ++ xs) f;
  }
  come_by Over brought f e h = absurd (true≢false (sym e))

  pub come : (n : Next r held buf r' held' buf') → has_line r'.status ≡ true → Read r held buf seen ls → Come r' held' buf' (seen ++ n.brought) ls
  come n e h = come_by r'.status n.brought n.goes e h

  -- behind that line: what was read so far, and fewer bytes that may still come
  pub record Onward (q : Reader) (brought : List ℕ) : Type 0 where
    pub read : Read q held' buf' (seen ++ brought) (ls ++ (held_in r' held' ∷ []))
    pub within : Within q chunk
    pub fewer : q.left < r.left

  read_behind : (brought : List ℕ) → Found Line (held_in r held) r.left (bytes_in r buf) brought (held_in r' held') r'.left (bytes_in r' buf') → Read r held buf seen ls
      → Read (reader_behind r') held' buf' (seen ++ brought) (ls ++ (held_in r' held' ∷ []))
  read_behind brought f h = record {
    goes = λ more. further brought more h ∙ ap (λ (xs : List (List ℕ)). ls ++ xs) (f more) ∙ sym (append_assoc ls (held_in r' held' ∷ []) (handed [] r'.left (bytes_in r' buf' ++ more)));
  }

  pub goes_onward : (n : Next r held buf r' held' buf') (q : Reader) → q ≡ reader_behind r' → is_line r'.status ≡ true → Read r held buf seen ls → Onward q n.brought
  goes_onward n q b e h =
      let is : r'.status ≡ Line = line_status r'.status e in
      record {
        read = subst⁻¹ (λ (x : Reader). Read x held' buf' (seen ++ n.brought) (ls ++ (held_in r' held' ∷ []))) b
            (read_behind n.brought (subst (λ (x : Status). Found x (held_in r held) r.left (bytes_in r buf) n.brought (held_in r' held') r'.left (bytes_in r' buf')) is n.goes) h);
        within = within_behind q r' b n.within;
        fewer = omega (arith, ap (λ (x : Reader). x.left) b, n.falls is);
      }

-- the bytes at the head of the buffer, as the plain definition prints them and as the plan tells them
pub printed : (r' : Reader) (held' buf' seen : List ℕ) (ls : List (List ℕ)) (d d' : List ℕ) (first len : ℕ) → Come r' held' buf' seen ls
    → Laid (step (held_behind waiting (map record_of ls)) (record_of (held_in r' held'))).lines d d' first len → Printed (held_in r' held') (take len d')
printed r' held' buf' seen ls d d' first len c l = record {
  seen = seen;
  earlier = ls;
  later = c.later;
  read = c.read;
  lines = laid_bytes _ d d' first len l;
}

pub told_bytes : (line : List ℕ) (lead : Lead) (plan : Plan) (marks : List ℕ) (answer : Answer) (reply : Reply) (walk d d' : List ℕ) (w : Written) → length d ≡ lines_most → plan ≡ asked lead (record_of line)
    → Writes plan marks answer reply walk d d' w → take w.len d' ≡ bytes_told line lead marks answer reply walk
unfolding bytes_told
told_bytes line lead plan marks answer reply walk d d' w e f t =
    laid_bytes _ d d' w.first w.len t.laid ∙ rw (e, f)

pub one_behind : (ls : List (List ℕ)) (l : List ℕ) → (step (held_behind waiting (map record_of ls)) (record_of l)).next ≡ held_behind waiting (map record_of (ls ++ (l ∷ [])))
unfolding held_behind
one_behind ls l = sym (held_append waiting (map record_of ls) (record_of l ∷ [])) ∙ ap (held_behind waiting) (sym (map-append record_of ls (l ∷ [])))

-- Between two lines: what was read so far, and what is held behind its records, of which a program says what its variables are.
pub record Between (r : Reader) (held buf : List ℕ) (Stands : Held → Type 0) : Type 0 where
  pub within : Within r chunk
  pub space : length buf ≡ chunk
  pub size : length held ≡ held_most
  pub ls : List (List ℕ)
  pub seen : List ℕ
  pub read : Read r held buf seen ls
  pub stands : Stands (held_behind waiting (map record_of ls))

pub between_first : (q : Reader) (held buf : List ℕ) (Stands : Held → Type 0) → q ≡ first_reader → length buf ≡ chunk → length held ≡ held_most → Stands waiting → Between q held buf Stands
unfolding held_behind
between_first q held buf Stands e k m h = record { within = within_first q e; space = k; size = m; ls = []; seen = []; read = read_first q held buf e; stands = h }

module _ (r : Reader) (held buf : List ℕ) (Stands : Held → Type 0) (b : Between r held buf Stands) (r' : Reader) (held' buf' : List ℕ) (n : Next r held buf r' held' buf') where
  -- the step that the next line makes
  abbrev pub next_step : Step
  next_step = step (held_behind waiting (map record_of b.ls)) (record_of (held_in r' held'))

  pub prints : (d d' : List ℕ) (first len : ℕ) → has_line r'.status ≡ true → Laid next_step.lines d d' first len → Printed (held_in r' held') (take len d')
  prints d d' first len e l = printed r' held' buf' _ b.ls d d' first len (come r held buf r' held' buf' b.seen b.ls n e b.read) l

  pub between_next : (q : Reader) (Stands' : Held → Type 0) → q ≡ reader_behind r' → is_line r'.status ≡ true → Stands' next_step.next → Between q held' buf' Stands'
  between_next q Stands' e f h =
      let g = goes_onward r held buf r' held' buf' b.seen b.ls n q e f b.read in
      record {
        within = g.within;
        space = n.space;
        size = n.size;
        ls = b.ls ++ (held_in r' held' ∷ []);
        seen = b.seen ++ n.brought;
        read = g.read;
        stands = subst Stands' (one_behind b.ls (held_in r' held')) h;
      }
