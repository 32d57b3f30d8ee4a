-- `short` meets its contract, on each of its ways. Assumes nothing.
use Rattle.question.proofs.Replies.{short_kinds, short_gameless, short_roundless, short_lengths}
use Rattle.question.proofs.short.Goals as goal

pub returns-then-kinds-gt1 : goal.returns-then-kinds-gt1
returns-then-kinds-gt1 c = short_kinds _ _ _ _ _ _ _ _ c.if-kinds-gt1.true

pub returns-then-size-eq0 : goal.returns-then-size-eq0
returns-then-size-eq0 c = short_gameless _ _ _ _ _ _ _ _ c.if-kinds-gt1.false c.if-size-eq0.true

pub returns-then-present-eq0 : goal.returns-then-present-eq0
returns-then-present-eq0 c = short_roundless _ _ _ _ _ _ _ _ c.if-kinds-gt1.false c.if-size-eq0.false c.if-present-eq0.true

pub returns : goal.returns
returns c = let e = c in
    short_lengths _ _ _ _ _ _ _ _ e.if-kinds-gt1.false e.if-size-eq0.false e.if-present-eq0.false c.shorten-n.result c.shorten-n.ensures
