-- What is asked of the session reaches it as it stands in the lead and the list. Assumes nothing.
use Prim.Native.Nat.{ℕ, min}
use mathlib.Core.Path.{◌≡◌, ap, ◌∙◌}
use mathlib.Core.List.{List}
use lib.ListN.{length, take}
use Rattle.lead.specs.declared.Lead.{Lead}
use Rattle.watch.specs.Model.{numbers_held}
use Rattle.std.proofs.lemmas.List.{take_min}

-- as many numbers as there are
pub same_numbers : (l : Lead) (ns : List ℕ) (n k : ℕ) → n ≡ min k (length ns) → k ≡ l.count → take n ns ≡ numbers_held l ns
same_numbers l ns n k e f = ap (λ (m : ℕ). take m ns) (e ∙ ap (λ (m : ℕ). min m (length ns)) f) ∙ take_min l.count ns
