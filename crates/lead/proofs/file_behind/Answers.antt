-- `lead::file_behind`: where there is room, the numbers stand between those before their place and those behind it.
use Rattle.std.proofs.Common.{arith}
use borrow.Rule.Slice.PartMut.{Post-is}
use Rattle.answer.specs.Bytes.{overwritten}
use Rattle.lead.proofs.file_behind.Goals as goal

pub returns-then-end-numbers : goal.returns-then-end-numbers
unfolding overwritten
returns-then-end-numbers c = grind (arith, Post-is)
