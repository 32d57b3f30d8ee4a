-- `stretch_of` meets its contract: what was read at the place of v. Assumes nothing.
use Rattle.std.proofs.Common.{◌≡◌, ℕ, ◌%◌, ap, ◌∙◌}
use Rattle.rows.proofs.Paste.{same_place}
use Rattle.look.specs.Scan.{spanned}
use Rattle.look.proofs.stretch_of.Goals as goal

pub returns : goal.returns
returns c = let a = c.args in
    let i : c.wide-i.result % 512 ≡ a.v % 512 = ap (λ (n : ℕ). n % 512) c.wide-i.ensures.0 in
    let from : c.wide-from.result ≡ _ = c.wide-from.ensures.0 ∙ same_place a.layout.now.begins i in
    let stop : c.wide-stop.result ≡ _ = c.wide-stop.ensures.0 ∙ same_place a.layout.now.ends i in
    record {
      from_is = from;
      count_is = c.span.ensures ∙ (λ j. spanned (from j) (stop j));
      base_is = c.wide.ensures.0 ∙ same_place a.layout.now.bases i;
      from_small = c.wide-from.ensures.1;
      base_small = c.wide.ensures.1;
    }
