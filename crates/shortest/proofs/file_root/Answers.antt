-- `file_root` meets its contract. Assumes nothing.
use mathlib.Core.Path.{refl, sym, ◌∙◌}
use Rattle.plain.proofs.Tests.{contra}
use Rattle.shortest.proofs.file_root.Goals as goal

pub returns-then-not-is_root : goal.returns-then-not-is_root
returns-then-not-is_root c = let none = sym c.is_root.ensures ∙ c.if-not-is_root.true in
    record { filed = λ e. absurd (contra e none); unfiled = λ e. (refl, refl) }

pub returns : goal.returns
returns c = let some = sym c.is_root.ensures ∙ c.if-not-is_root.false in
    record { filed = λ e. (c.put.ensures, c.further.ensures); unfiled = λ e. absurd (contra some e) }
