-- `answer::put_fields` meets its contract: before each turn the fields of the first numbers, up to the index, are put in.
use lib.ListN.{take}
use Rattle.answer.specs.Bytes.{Put}
use Rattle.answer.specs.Rendering.{fields_of}
use Rattle.answer.proofs.put_fields.Given as goal

abbrev pub invariant-loop-n : goal.invariant-loop-n
invariant-loop-n l = Put l.initial.out l.at (fields_of (take l.n-index l.numbers)) l.out l.next
