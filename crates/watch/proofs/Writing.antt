-- Laws of the lines that tell an answer: how long they are, and where they lie in the buffer. Assumes nothing.
use mathlib.Core.Path.{◌≡◌, refl, sym, ap, ◌∙◌}
use mathlib.Core.Bool.{and-false}
use mathlib.Core.List.{List, [], ◌∷◌, ◌++◌, append-nil}
use Prim.Native.Nat.{ℕ, zero, suc, ◌≤◌, ◌<◌}
use native.Mathlib.Nat.{min-le_right}
use native.Mathlib.Omega.{arith}
use borrow.Author.Tests.{le-leb, lt-leb}
use lib.Dec.{leb}
use lib.ListN.{length, get_or, take, length-take}
use Rattle.plain.specs.Lists.{any}
use Rattle.plain.specs.Table.{accepts, accepting_count}
use Rattle.plain.specs.Machine.{Line as OutputLine, round_line}
use Rattle.marks.proofs.Counts.{count_le}
use Rattle.answer.specs.Bytes.{overwritten, Put}
use Rattle.answer.specs.Rendering.{render, rendered}
use Rattle.answer.proofs.Laws.{put_then, put_none, length_round, length_game, length_none, length_no, length_no_at, length_ways, length_short, length_no_round}
use Rattle.verdict.specs.declared.Answer.{Answer}
use Rattle.question.specs.declared.Reply.{Reply}
use Rattle.lead.specs.declared.Plan.{Plan}
use Rattle.watch.specs.Text.{room}
use Rattle.watch.specs.Model.{lines_most, lines_for, lines_told, Laid}

-- ---- the walk, as far as it goes

-- what is taken of numbers of 16 bits are such numbers
below_take : (n : ℕ) (l : List ℕ) → ((i : ℕ) → get_or l i 0 < 65536) → (i : ℕ) → get_or (take n l) i 0 < 65536
below_take zero l h i = omega arith
below_take (suc n) [] h i = omega arith
below_take (suc n) (x ∷ l) h zero = h 0
below_take (suc n) (x ∷ l) h (suc i) = below_take n l (λ j. h (suc j)) i

-- ---- how long a line is

pub round_short : (s k st c n : ℕ) (walk : List ℕ) → s < 65536 → k < 65536 → st < 65536 → c < 65536
    → ((i : ℕ) → get_or walk i 0 < 65536) → length walk ≤ 512 → length (render (round_line s k st c (take n walk))) ≤ 3102
round_short s k st c n walk p q r t h w = omega (arith, length_round s k st c (take n walk) p q r t (below_take n walk h), length-take n walk, min-le_right n (length walk), w)

-- ---- the paying states are at most 512

pub few_paying : (marks : List (List ℕ)) → accepting_count marks ≤ 512
unfolding accepting_count
few_paying marks = count_le 512 (λ s. any (λ words. accepts words s) marks)

-- how long each line is, at most
pub ruleset line_lengths = (length_game, length_none, length_no, length_no_at, length_ways, length_short, length_no_round, round_short, few_paying)

-- ---- the line of an answer

-- the same line by another name
pub put_as : (d : List ℕ) (at : ℕ) (l l' : OutputLine) (d' : List ℕ) (r : ℕ) → l ≡ l' → Put d at (render l) d' r → Put d at (render l') d' r
put_as d at l l' d' r e p = rw e at p

-- ---- where the lines lie

pub no_lines : (d : List ℕ) → Laid [] d d 0 0
unfolding rendered
no_lines d = record { made = (put_none d 0).made; split = refl; ends = refl }

pub one_line : (l : OutputLine) (d d' : List ℕ) (r : ℕ) → Put d 0 (render l) d' r → Laid (l ∷ []) d d' r r
unfolding rendered
one_line l d d' r p =
    let e : rendered (l ∷ []) ≡ render l = append-nil (render l) in
    record { made = p.made ∙ ap (overwritten d 0) (sym e); split = omega (arith, p.next); ends = omega (arith, p.next, ap length e) }

pub two_lines : (l m : OutputLine) (d d1 d2 : List ℕ) (r s : ℕ) → Put d 0 (render l) d1 r → Put d1 r (render m) d2 s → Laid (l ∷ m ∷ []) d d2 r s
unfolding rendered
two_lines l m d d1 d2 r s p q =
    let both = put_then d 0 (render l) d1 r (render m) d2 s (omega arith) p q in
    let e : rendered (l ∷ m ∷ []) ≡ render l ++ render m = ap (λ (bs : List ℕ). render l ++ bs) (append-nil (render m)) in
    record { made = both.made ∙ ap (overwritten d 0) (sym e); split = omega (arith, p.next); ends = omega (arith, both.next, ap length e) }

-- ---- by whether there is room

module _ (p : Plan) (marks : List ℕ) (answer : Answer) (reply : Reply) (walk : List ℕ) (size : ℕ) where
  pub told_lines : length walk ≤ room → lines_most ≤ size → lines_for p.task p.lead marks answer reply walk ≡ lines_told p marks answer reply walk size
  unfolding lines_told
  told_lines h k = rw (le-leb (length walk) room h, le-leb lines_most size k)

  pub long_walk : room < length walk → [] ≡ lines_told p marks answer reply walk size
  unfolding lines_told
  long_walk h = rw (lt-leb (length walk) room h)

  pub short_buffer : size < lines_most → [] ≡ lines_told p marks answer reply walk size
  unfolding lines_told
  short_buffer h = rw (lt-leb lines_most size h, and-false (leb (length walk) room))
