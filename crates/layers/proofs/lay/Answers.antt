-- `lay` meets its contract: with one kind the rows lie as they stand. Assumes nothing.
use Rattle.std.proofs.Common.{rules, ◌≡◌, sym, ap, ◌∙◌, ℕ, length, replicate}
use Rattle.look.specs.Scan.{layout_of}
use Rattle.layers.specs.Layout.{layered}
use Rattle.layers.proofs.Laying.{laid_one}
use Rattle.layers.proofs.lay.Goals as goal

pub returns-else-above-ne0 : goal.returns-else-above-ne0
returns-else-above-ne0 c = let a = c.args in
    let starts_size : length a.starts.now ≡ 513 = search rules in
    (λ i. layout_of a.starts.now (c.lay_ends.ensures i) (replicate 512 0))
    ∙ laid_one a.size a.starts.now a.words.now starts_size
    ∙ ap (λ (m : ℕ). layered a.size m a.starts.now a.words.now) (sym c.if-above-ne0.false)
