-- `settle` meets its contract. Assumes nothing.
use mathlib.Core.Path.{◌≡◌, refl, subst}
use mathlib.Core.List.{List}
use Prim.Native.Nat.{ℕ}
use Rattle.verdict.specs.declared.Answer.{Answer}
use Rattle.verdict.specs.Answers.{lowered, Tells}
use Rattle.session.proofs.settle.Goals as goal

-- the layers above the first, counted two ways
above : (spent kept stem len size m n : ℕ) (walk lent : List ℕ) (r : Answer) (lent' : List ℕ) → m ≡ n → Tells spent kept stem len (lowered size m walk) lent r lent'
    → Tells spent kept stem len (lowered size n walk) lent r lent'
above spent kept stem len size m n walk lent r lent' e t = subst (λ (k : ℕ). Tells spent kept stem len (lowered size k walk) lent r lent') e t

pub returns : goal.returns
returns c = record {
  sought = c.seek-v.ensures;
  tells = above _ _ _ _ c.args.size _ _ c.seek-v.new.records.walk _ _ _ c.down-above.ensures c.tell-answer.ensures;
  kinds_is = refl;
}
