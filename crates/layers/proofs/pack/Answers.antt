-- `pack` meets its contract: the bits below v are packed, and v is the copy that the turn stands at. Assumes nothing.
use mathlib.Core.Path.{sym, ◌∙◌}
use Prim.Native.Nat.{◌+◌, ◌*◌, ◌<◌}
use native.Mathlib.Omega.{arith}
use Rattle.layers.proofs.Packing.{Copied, copied_first, copied_on, copied_up, layer_low, mark_read, PackedBelow, packed_none, packed_set, packed_kept, packed_all}
use Rattle.layers.proofs.pack.Goals as goal
use Rattle.layers.proofs.pack.Goals.{In-loop-v, Joined-accepts_in, then-accepts_in, else-accepts_in, Joined-s-wide, then-s-wide, else-s-wide}

pub loop-v-init : goal.loop-v-init
loop-v-init c = let a = c.args in (packed_none a.size a.kinds a.marks.now, copied_first a.size c.requires.2)

-- a turn: v is a state of the layers, and its layer is one of the kinds
there : (c : In-loop-v) → c.loop-v.v < c.args.kinds * c.args.size
there c = omega (arith, c.loop-v-test.true, c.times-end.ensures.0)

first_small : (c : In-loop-v) → c.loop-v.first < 2048
first_small c =
    let l = c.loop-v in
    omega (arith, c.requires.1, l.invariant.1.marks_from, layer_low c.args.size l.v l.s l.first l.invariant.1 c.args.kinds (there c))

pub overflow_add-first : goal.overflow_add-first
overflow_add-first c = omega (arith, first_small c.before, c.loop-v.invariant.1.inside)

-- once the bit of v is set or not, it is packed
packed : (c : Joined-accepts_in) → PackedBelow c.args.size c.args.kinds c.args.marks.now c.if-accepts_in.words (c.loop-v.v + 1)
packed c =
    let n = c.args.size in
    let k = c.args.kinds in
    let marks = c.args.marks.now in
    let l = c.loop-v in
    let low = there c.before.before.before in
    let read = sym (c.accepts_in.ensures ∙ mark_read n l.v l.s l.first l.invariant.1 k c.requires.1 c.requires.3 low marks) in
    elim c.if-accepts_in.branch [
      | then-accepts_in w ↦ rw (w.words-is ∙ w.set_mark.ensures) (packed_set n k marks l.words l.v l.invariant.0 low c.requires.3 (read ∙ w.if-accepts_in.true))
      | else-accepts_in w ↦ rw w.words-is (packed_kept n k marks l.words l.v l.invariant.0 low (read ∙ w.if-accepts_in.false))
    ]

pub overflow_add-first-then-s-wide : goal.overflow_add-first-then-s-wide
overflow_add-first-then-s-wide c = omega (arith, first_small c.before.before.before.before.before)

-- where the next turn stands
next : (c : Joined-s-wide) → Copied c.args.size (c.loop-v.v + 1) c.if-s-wide.s c.if-s-wide.first
next c = let l = c.loop-v in
    elim c.if-s-wide.branch [
      | then-s-wide w ↦ rw w.s-is (rw w.first-is (copied_up c.args.size l.v l.s l.first l.invariant.1 (w.if-s-wide.true ∙ c.wide.ensures.0)))
      | else-s-wide w ↦ rw w.s-is (rw w.first-is (copied_on c.args.size l.v l.s l.first l.invariant.1 (λ e. w.if-s-wide.false (e ∙ sym c.wide.ensures.0))))
    ]

pub loop-v-preserved : goal.loop-v-preserved
loop-v-preserved c = (packed c.before.before, next c)

pub returns : goal.returns
returns c =
    let a = c.args in
    packed_all a.size a.kinds a.marks.now c.loop-v.words c.loop-v.v c.loop-v.invariant.0 (omega (arith, c.loop-v-test.false, c.times-end.ensures.0))
