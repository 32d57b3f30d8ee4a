-- `lay_copies` meets its contract: the entries of the copies below v are written, and v is the copy that the turn stands at. Assumes nothing.
use Rattle.std.proofs.Common.{rules, ◌≡◌, ◌+◌, sym, ◌∙◌, arith, length}
use Rattle.layers.proofs.Standing.{Stands, stands_first, stands_on, stands_up}
use Rattle.layers.proofs.Laying.{laid_none, laid_more, laid_all}
use Rattle.layers.proofs.lay_copies.Goals as goal
use Rattle.layers.proofs.lay_copies.Goals.{Joined-s-wide, then-s-wide+then-left-gt0, then-s-wide+else-left-gt0, else-s-wide}

pub loop-v-init : goal.loop-v-init
loop-v-init c =
    let a = c.args in
    (laid_none a.size a.above a.starts.now a.words.now a.layout.now.begins a.layout.now.ends a.layout.now.bases, stands_first a.size a.above)

-- where the next turn stands
next : (c : Joined-s-wide) → Stands c.args.size c.args.above (c.loop-v.v + 1) c.if-s-wide.s c.if-s-wide.at c.if-s-wide.left
next c = let t = c.loop-v.invariant.1 in
    elim c.if-s-wide.branch [
      | then-s-wide+then-left-gt0 w ↦ rw w.s-is (rw w.at-is (rw w.left-is (stands_up _ _ _ _ _ _ t (w.if-s-wide.true ∙ c.wide.ensures.0) w.if-left-gt0.true _ w.wide-at.ensures.0)))
      | then-s-wide+else-left-gt0 w ↦ rw w.s-is (rw w.at-is (rw w.left-is (stands_on _ _ _ _ _ _ t (λ e. omega arith))))
      | else-s-wide w ↦ rw w.s-is (rw w.at-is (rw w.left-is (stands_on _ _ _ _ _ _ t (λ e. absurd (w.if-s-wide.false (e ∙ sym c.wide.ensures.0))))))
    ]

pub loop-v-preserved : goal.loop-v-preserved
loop-v-preserved c =
    let l = c.loop-v in
    let t = l.invariant.1 in
    let starts_size : length c.args.starts.now ≡ 513 = search rules in
    let ends_size : length c.args.layout.now.ends ≡ 512 = search rules in
    let bases_size : length c.args.layout.now.bases ≡ 512 = search rules in
    (laid_more _ _ _ _ _ _ _ c.requires starts_size ends_size bases_size _ _ _ _ l.invariant.0 c.loop-v-test.true _ _ _ t _ (c.base_of.ensures t.layer _ t.first t.above), next c)

pub returns : goal.returns
returns c =
    let a = c.args in
    let l = c.loop-v in
    let starts_size : length a.starts.now ≡ 513 = search rules in
    let ends_size : length a.layout.now.ends ≡ 512 = search rules in
    let bases_size : length a.layout.now.bases ≡ 512 = search rules in
    laid_all a.size a.above a.starts.now a.words.now a.layout.now.begins a.layout.now.ends a.layout.now.bases c.requires starts_size ends_size bases_size
    l.layout.begins l.layout.ends l.layout.bases l.v l.invariant.0 c.loop-v-test.false
