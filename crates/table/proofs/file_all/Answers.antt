-- `file_all` meets its contract: the moves ahead of the rest of the list are filed, none of them twice. Assumes nothing.
use mathlib.Core.Path.{◌∙◌}
use Rattle.table.proofs.Filing.{filed_none, ended, refused, went_on}
use Rattle.table.proofs.file_all.Goals as goal

pub loop-edge-init : goal.loop-edge-init
loop-edge-init c = let r = c.chunks_exact-edge-items.ensures in
    rw c.into_iter-edge-iterator.ensures.into_iter_gives (r.size, filed_none _ _ _ c.requires _ r.rest)

pub returns-then-is_there : goal.returns-then-is_there
returns-then-is_there c = let i = c.loop-edge.invariant in
    refused c.args.size c.args.numbers.now _ _ i.1 _ _ _ c.in-Some.ensures.steps.1 i.0 c.is_there.result c.is_there.ensures c.if-is_there.true

pub loop-edge-preserved : goal.loop-edge-preserved
loop-edge-preserved c = let i = c.loop-edge.invariant in
    let s = c.in-Some.ensures.steps in
    (s.0 ∙ i.0, went_on c.args.size c.args.numbers.now _ _ i.1 _ _ _ s.1 i.0 c.is_there.result c.is_there.ensures _ _ c.requires c.if-is_there.false _ c.insert.ensures)

pub returns : goal.returns
returns c = let i = c.loop-edge.invariant in
    ended c.args.size c.args.numbers.now _ _ i.1 _ c.in-None.ensures.steps.1.0 i.0
