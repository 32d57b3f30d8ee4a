-- Document 02, ticket 6: the textbook search is "equal to the box's load in verdict, walk and looks". Assumes nothing.
use Rattle.std.specs.Prelude.{◌≡◌, List, ℕ}
use Rattle.verdict.specs.declared.Answer.{Answer}
use Rattle.session.specs.declared.Outcome.{Outcome}

-- What the box's load of a game returned and left in its list, and what the textbook search of that game did: the answers are the same, with the verdict and the looks, and of a
-- refused game with the number; and so are the lists, with the walk.
pub record AsLoad (r : Outcome) (lent' : List ℕ) (a : Answer) (lent₂ : List ℕ) : Type 0 where
  pub same_answer : a ≡ r.answer
  pub same_list : lent₂ ≡ lent'
