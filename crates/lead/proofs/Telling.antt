-- Words are told apart by `==` as by their numbers. Assumes nothing.
use Rattle.std.proofs.Common.{◌≡◌, sym}
use denote.Enum.Bare.{sameb}
use Rattle.line.specs.Words.{is_word}
use Rattle.line.specs.declared.Word.{Word}
use Rattle.line.specs.contracts.Word.{the_type}
use Rattle.line.proofs.Words.{same_is_word}

-- the derived `==`
pub told : (v w : Word) → is_word v w ≡ sameb the_type v w
told v w = sym (same_is_word v w)
