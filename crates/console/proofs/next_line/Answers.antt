-- `next_line` meets its contract: whatever led to the first turn leads, with the bytes that the reads brought, to each further one; and it ends,
-- because each read takes off what may still come or ends the line. Assumes nothing.
use mathlib.Core.Path.{sym, ◌∙◌}
use native.Mathlib.Omega.{arith}
use Rattle.console.proofs.Reading.{reached_first, reached_again, took_fewer, next_found, next_end}
use Rattle.console.proofs.next_line.Goals as goal

-- in each answer x says what led to the turn, from the function's start on

pub returns-then-end-eq0 : goal.returns-then-end-eq0
returns-then-end-eq0 c = let x = c.loop-input.invariant _ _ _ (reached_first _ _ _ _ _ c.requires.1 c.take_bytes-s.ensures) in
    next_end _ _ _ _ _ _ _ x (sym c.is_more.ensures ∙ c.loop-input-test.true) (c.read_once-end.ensures.size ∙ x.space) _ c.at_end.ensures

pub take_bytes-s-requires-in-loop-input : goal.take_bytes-s-requires-in-loop-input
take_bytes-s-requires-in-loop-input c = let x = c.loop-input.invariant _ _ _ (reached_first _ _ _ _ _ c.requires.1 c.take_bytes-s.ensures) in (
  record { at = omega arith; end = c.read_once-end.ensures.within; len = x.within.len },
  x.size,
)

pub loop-input-smaller : goal.loop-input-smaller
loop-input-smaller c =
    took_fewer c.loop-input.s _ _ _ _ _ (sym c.is_more.ensures ∙ c.loop-input-test.true) c.if-end-eq0.false c.take_bytes-s-in-loop-input.ensures

pub loop-input-preserved : goal.loop-input-preserved
loop-input-preserved c = λ r h b x. let y = c.loop-input.invariant r h b x in
    reached_again r h b _ _ _ _ _ _ _ y (sym c.is_more.ensures ∙ c.loop-input-test.true) (c.read_once-end.ensures.size ∙ y.space) c.take_bytes-s-in-loop-input.ensures

pub returns : goal.returns
returns c = next_found c.args.r c.args.held.now c.args.buf.now c.loop-input.s c.loop-input.held c.loop-input.buf c.loop-input.buf (c.loop-input.invariant _ _ _ (reached_first _ _ _ _ _ c.requires.1 c.take_bytes-s.ensures)) (sym c.is_more.ensures ∙ c.loop-input-test.false)
