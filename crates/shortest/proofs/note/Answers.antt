-- `note` meets its contract: the state was seen, or comes to the end. Assumes nothing.
use Rattle.std.proofs.Common.{rules, sym, ◌∙◌}
use Rattle.shortest.specs.Model.{Sized}
use Rattle.shortest.proofs.Standing.{notes_again, notes_new}
use Rattle.shortest.proofs.note.Goals as goal

pub returns-then-contains-clause-noted : goal.returns-then-contains-clause-noted
returns-then-contains-clause-noted c = let b = c.args.board.now in
    let sized : Sized b.queue b.seen = record { queue_size = search rules; seen_size = search rules } in
    notes_again b.queue b.seen c.args.tail c.args.t sized (sym c.if-contains.true ∙ c.contains.ensures)

pub returns-clause-noted : goal.returns-clause-noted
returns-clause-noted c = let b = c.args.board.now in
    let sized : Sized b.queue b.seen = record { queue_size = search rules; seen_size = search rules } in
    notes_new b.queue b.seen c.args.tail c.args.t sized _ _ _ c.put.ensures c.insert.ensures c.further.ensures (sym c.if-contains.false ∙ c.contains.ensures)
