-- `answer::put_field` meets its contract: a tab, and the digits behind it.
use native.Mathlib.Omega.{arith}
use Rattle.line.specs.Fields.{tab}
use Rattle.answer.specs.Rendering.{field_of}
use Rattle.answer.proofs.Laws.{put_then}
use Rattle.answer.proofs.put_field.Goals as goal

pub returns : goal.returns
unfolding field_of tab
returns c = put_then _ _ _ _ _ _ _ _ (omega (arith, c.requires)) c.put_byte-next.ensures c.put_decimal.ensures
