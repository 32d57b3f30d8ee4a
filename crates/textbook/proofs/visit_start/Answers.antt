-- `visit_start` meets its contract: the rows of the layers are laid, and the start state is visited. Assumes nothing.
use Rattle.std.proofs.Common.{subst, false, replicate}
use Rattle.look.specs.declared.Layout.{Layout}
use Rattle.textbook.specs.Search.{board_of, ReadsAll, Visits}
use Rattle.textbook.proofs.visit_start.Goals as goal

pub returns : goal.returns
returns c = let a = c.args in
    record {
      met = c.visit.new.board.met;
      marked = c.visit.new.board.marked;
      visits = subst
          (λ (y : Layout). Visits (ReadsAll a.rows.now.targets y a.size a.words.now) false a.start 0 0 (board_of (replicate 512 false) (replicate 512 false) a.board.now.walk a.board.now.spent) c.visit.new.board c.visit.result)
          c.lay-layout.ensures c.visit.ensures;
    }
