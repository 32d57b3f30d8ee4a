-- `is_root` meets its contract. Assumes nothing.
use Rattle.std.proofs.Common.{◌≡◌, sym, ap, ◌∙◌, ℕ, Bool, true, false, ◌&&◌, List, get_or}
use Rattle.plain.specs.Table.{accepts}
use Rattle.shortest.proofs.is_root.Goals as goal

-- what was read of the words
read : (words : List ℕ) (s w : ℕ) (bit b : Bool) → w ≡ s → bit ≡ accepts words w → bit ≡ b → b ≡ accepts words s
read words s w bit b e a h = sym h ∙ a ∙ ap (accepts words) e

pub returns-then-accepts_in : goal.returns-then-accepts_in
returns-then-accepts_in c =
    let e = read c.args.words.now c.args.s _ _ true c.wide.ensures.0 c.accepts_in.ensures c.if-accepts_in.true in
    c.contains.ensures ∙ ap (λ (b : Bool). b && get_or c.args.seen.now c.args.s true) e

pub returns : goal.returns
returns c =
    let e = read c.args.words.now c.args.s _ _ false c.wide.ensures.0 c.accepts_in.ensures c.if-accepts_in.false in
    ap (λ (b : Bool). b && get_or c.args.seen.now c.args.s true) e
