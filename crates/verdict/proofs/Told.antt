-- The answer and the written walk are those of the verdict; an answer that is told is the only one told so. Assumes nothing.
use mathlib.Core.Path.{◌≡◌, refl, sym, ap, ◌∙◌}
use mathlib.Core.List.{List, [], ◌∷◌, ◌++◌, append_assoc, map, map-append}
use Prim.Native.Nat.{ℕ, ◌+◌, ◌*◌, ◌-◌, ◌≤◌, ◌<◌}
use native.Mathlib.Nat.{mul_comm}
use native.Mathlib.Omega.{arith}
use lib.ListN.{length, take, drop, length-append, length-map}
use lib.Seq.{take_at, take-append_seam}
use Rattle.std.proofs.lemmas.Grind.{common_steps}
use Rattle.plain.specs.Search.{Verdict, none, lasso, unfinished, verdict}
use Rattle.plain.specs.Table.{Table, printed, printed_verdict, final}
use Rattle.plain.specs.Layers.{state_of}
use Rattle.plain.specs.Machine.{Refusal as PlainRefusal, Answer as PlainAnswer, answer, numbered, written, round_line, no_line, answer_line}
use Rattle.plain.proofs.Tables.{Valid}
use Rattle.plain.proofs.Demands.{verdict_right}
use Rattle.table.specs.declared.Refusal.{Refusal}
use Rattle.table.specs.declared.Position.{Position}
use Rattle.verdict.specs.declared.Answer.{Answer}
use Rattle.verdict.specs.declared.Answer.TheVariants.{Refused, Clear, Round}
use Rattle.verdict.specs.Answers.{answer_is, refusing, shown_walk, position_of, refusal_of, shown, NoRefusal, lowered, WalkOf, Tells, Answered}

two_parts : (stem cycle rest : List ℕ) → take (length stem + length cycle) (stem ++ (cycle ++ rest)) ≡ stem ++ cycle
two_parts stem cycle rest = rw (← length-append stem cycle, ← append_assoc stem cycle rest) (take-append_seam (stem ++ cycle) rest)

-- the walk fits
walk_fits : (stem len : ℕ) (w : Verdict) (walk : List ℕ) (size : ℕ) → WalkOf stem len walk w
    → ((first round : List ℕ) → w ≡ lasso first round → length first + length round ≤ size) → (stem ≤ len) × (len ≤ size)
walk_fits stem len none walk size t short = (omega (arith, t.0), omega (arith, t.1))
walk_fits stem len (lasso first round) walk size t short = (omega (arith, t.0, t.1), omega (arith, t.1, short first round refl))
walk_fits stem len unfinished walk size t short = absurd t

-- a walk that is that of a verdict is, in plain states, that of the verdict as it is printed
walk_printed : (t : Table) (stem len : ℕ) (walk : List ℕ) (w : Verdict) → WalkOf stem len walk w → WalkOf stem len (lowered t.size (t.kinds - 1) walk) (printed_verdict t w)
unfolding lowered printed printed_verdict
walk_printed t stem len walk none k = k
walk_printed t stem len walk (lasso first round) k =
    let f = state_of t.size (t.kinds - 1) in (
      k.0 ∙ sym (length-map first f),
      omega (arith, k.1, length-map first f, length-map round f),
      (map f k.2.0, ap (map f) k.2.1 ∙ map-append f (first ++ round) k.2.0 ∙ ap (λ (l : List ℕ). l ++ map f k.2.0) (map-append f first round)),
      omega (arith, k.3, length-map round f),
    )
walk_printed t stem len walk unfinished k = k

-- a search has come to the lengths of stem and walk, with so many looks
module _ (spent kept stem len : ℕ) where
  answer_clear : len ≡ 0 → answer_is spent kept stem len ≡ Clear spent kept
  unfolding answer_is
  answer_clear e = grind (arith, common_steps)

  answer_round : 0 < len → answer_is spent kept stem len ≡ Round spent kept stem (len - stem)
  unfolding answer_is
  answer_round h = grind (arith, common_steps)

  -- the answer, with the list as it was written
  tells_answer : (w : Verdict) (walk lent : List ℕ) → WalkOf stem len walk w → answer_line (answer w spent kept) ≡ shown (answer_is spent kept stem len) (written (answer w spent kept) lent) ∷ []
  unfolding shown written answer_line
  tells_answer none walk lent t = ap (λ (a : Answer). shown a lent ∷ []) (sym (answer_clear t.1))
  tells_answer (lasso first round) walk lent t =
      let list = first ++ (round ++ drop (length first + length round) lent) in
      let c : len - stem ≡ length round = omega (arith, t.0, t.1) in
      let n : stem + (len - stem) ≡ length first + length round = omega (arith, t.0, t.1) in
      let p : take (stem + (len - stem)) list ≡ first ++ round = ap (λ (k : ℕ). take k list) n ∙ two_parts first round (drop (length first + length round) lent) in
      (λ i. round_line spent kept (sym t.0 i) (sym c i) (sym p i) ∷ []) ∙ ap (λ (a : Answer). shown a list ∷ []) (sym (answer_round (omega (arith, t.1, t.3))))
  tells_answer unfinished walk lent t = absurd t

  -- the list lent for the walk
  tells_written : (w : Verdict) (walk lent : List ℕ) → WalkOf stem len walk w → shown_walk len walk lent ≡ written (answer w spent kept) lent
  unfolding shown_walk written
  tells_written none walk lent t = ap (λ (n : ℕ). take n walk ++ drop n lent) t.1
  tells_written (lasso first round) walk lent t =
      let n : length (first ++ round) ≡ len = length-append first round ∙ sym t.1 in
      let head : take len walk ≡ first ++ round = ap (λ (l : List ℕ). take len l) t.2.1 ∙ take_at (first ++ round) t.2.0 len n in
      ap (λ (l : List ℕ). l ++ drop len lent) head ∙ append_assoc first round (drop len lent) ∙ ap (λ (i : ℕ). first ++ (round ++ drop i lent)) t.1
  tells_written unfinished walk lent t = absurd t

  -- what was told of the walk to which the search on a table has come, in plain states, is the plain table's answer
  pub told : (t : Table) → Valid t → (walk lent lent' : List ℕ) (r : Answer) → WalkOf stem len walk (verdict (final t)) → Tells spent kept stem len (lowered t.size (t.kinds - 1) walk) lent r lent'
      → t.size * t.kinds ≤ length lent → Answered (answer (printed_verdict t (verdict (final t))) spent kept) lent r lent'
  told t ok walk lent lent' r k s room =
      let fit = walk_fits stem len (verdict (final t)) walk (t.size * t.kinds) k (verdict_right t ok).short in
      let w = printed_verdict t (verdict (final t)) in
      let p : WalkOf stem len (lowered t.size (t.kinds - 1) walk) w = walk_printed t stem len walk (verdict (final t)) k in
      let few : len ≤ 512 = omega (arith, fit.1, mul_comm t.size t.kinds, ok.states_few) in
      let list : lent' ≡ written (answer w spent kept) lent = s.wrote fit.0 few (omega (arith, fit.1)) ∙ tells_written w (lowered t.size (t.kinds - 1) walk) lent p in
      record {
        line = tells_answer w (lowered t.size (t.kinds - 1) walk) lent p ∙ (λ i. shown (sym s.answer_is i) (sym list i) ∷ []);
        list = list;
      }

  -- an answer that tells what a search has come to is no refusal
  pub never_refused : (n : Refusal) → answer_is spent kept stem len ≡ Refused n → ⊥
  unfolding answer_is
  never_refused n e = grind (arith, common_steps)

-- an answer that is told by a `no` line is a refusal
pub told_refused : (a : Answer) (list : List ℕ) (r : PlainRefusal) → no_line r ∷ [] ≡ shown a list ∷ [] → NoRefusal a → ⊥
unfolding shown
told_refused (Refused n) list r e y = y
told_refused (Clear spent kept) list r e y = cc
told_refused (Round spent kept stem cycle) list r e y = cc

-- ---- one answer alone is told by a line

same_position : (p q : Position) → position_of p ≡ position_of q → p ≡ q
same_position Position.Alone Position.Alone e = refl
same_position Position.Alone (Position.Line j) e = cc
same_position (Position.Line i) Position.Alone e = cc
same_position (Position.Line i) (Position.Line j) e = cc

same_told : (a b : Answer) (list : List ℕ) → shown a list ∷ [] ≡ shown b list ∷ [] → a ≡ b
unfolding shown
same_told (Refused r) (Refused q) list e =
    let z : refusal_of r ≡ refusal_of q = cc in
    let p = same_position r.position q.position (ap (λ (x : PlainRefusal). x.position) z) in
    λ i. Refused (record { number = ap (λ (x : PlainRefusal). x.number) z i; position = p i })
same_told (Refused r) (Clear spent kept) list e = cc
same_told (Refused r) (Round spent kept stem cycle) list e = cc
same_told (Clear spent kept) (Refused r) list e = cc
same_told (Clear s k) (Clear spent kept) list e = cc
same_told (Clear s k) (Round spent kept stem cycle) list e = cc
same_told (Round s k t c) (Refused r) list e = cc
same_told (Round s k t c) (Clear spent kept) list e = cc
same_told (Round s k t c) (Round spent kept stem cycle) list e = cc

-- an answer that is told as the refusal of a call is that refusal
pub shown_refused : (a : Answer) (list : List ℕ) (n : ℕ) → no_line (numbered n) ∷ [] ≡ shown a list ∷ [] → a ≡ refusing n Position.Alone
unfolding shown
shown_refused a list n e = same_told a (refusing n Position.Alone) list (sym e)

-- what is answered as the plain table answers is fixed: the answer and the list
pub answered_once : (a : PlainAnswer) (lent : List ℕ) (r q : Answer) (lent' lent₂ : List ℕ) → Answered a lent r lent' → Answered a lent q lent₂ → (r ≡ q) × (lent' ≡ lent₂)
answered_once a lent r q lent' lent₂ v w =
    let list : lent' ≡ lent₂ = v.list ∙ sym w.list in
    (same_told r q lent₂ (ap (λ (x : List ℕ). shown r x ∷ []) (sym list) ∙ sym v.line ∙ w.line), list)
