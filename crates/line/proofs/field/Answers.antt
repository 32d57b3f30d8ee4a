-- `field` meets its contract: it ends at the tab that `end_of` finds, which is within the line. Assumes nothing.
use Rattle.line.specs.Fields.{tab}
use Rattle.line.proofs.Fields.{end_within, field_part}
use Rattle.line.proofs.field.Goals as goal

pub slice_bounds-result-end : goal.slice_bounds-result-end
slice_bounds-result-end c = end_within _ _ _ _ c.requires c.end_of-end.ensures

pub returns : goal.returns
unfolding tab
returns c = field_part _ _ _ c.end_of-end.ensures
