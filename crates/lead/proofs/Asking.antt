-- What a line asks for: laws on lines that are taken, by the word, and by the stage. Assumes nothing.
use Prim.Native.Nat.{◌+◌, ◌≤◌, ◌<◌}
use mathlib.Core.Path.{◌≡◌}
use mathlib.Core.Bool.{Bool, true, false, ◌&&◌, and-false}
use borrow.Author.Tests.{lt-ltb, le-ltb}
use native.Mathlib.Omega.{arith}
use lib.Dec.{eqb}
use Rattle.line.specs.Words.{is_word}
use Rattle.line.specs.declared.Word.TheVariants.{Pay, Move, Go, End}
use Rattle.line.specs.declared.Record.{Record}
use Rattle.table.specs.declared.Op.{Op}
use Rattle.batch.specs.Batches.{line_for}
use Rattle.lead.specs.declared.Stage.{Stage}
use Rattle.lead.specs.declared.Lead.{Lead}
use Rattle.lead.specs.declared.Request.{Request}
use Rattle.lead.specs.declared.Request.TheVariants as R
use Rattle.lead.specs.Asked.{no_task, loading, ending, batching, asked_before, held_most, holding, asked_inside, asked_at, asked, line_from}

-- ---- is a line taken? There has to be room, and it goes by the stage

module _ (by : Stage → Record → Bool) (r : Record) (room : Bool) (stage : Stage) where
  pub taken_at : (g : Stage) → room ≡ true → stage ≡ g → by g r ≡ room && by stage r
  taken_at g h e = rw (h, e)

  pub not_at : (g : Stage) → stage ≡ g → by g r ≡ false → room && by stage r ≡ false
  not_at g e h = rw (e, h, and-false room)

-- ---- by the word

module _ (l : Lead) (r : Record) where
  pub Unpaid : Type 0
  Unpaid = is_word r.word Pay && eqb l.count 0 ≡ false

  pub before_go_lem : Unpaid → is_word r.word Move ≡ false → is_word r.word Go ≡ true → loading l ≡ asked_before l r
  unfolding Unpaid asked_before
  before_go_lem d e f = rw (d, e, f)

-- a line that requests no change
pub no_change : (q : Request) → ((op : Op) → q ≡ R.Change op → ⊥) → line_for 0 0 0 ≡ line_from q
no_change q o = grind arith

-- ---- inside a batch

module _ (l : Lead) where
  pub held : l.count < held_most → no_task (batching l (l.count + 3)) ≡ holding l
  unfolding holding
  held h = rw (lt-ltb l.count held_most h)

  pub not_held : held_most ≤ l.count → no_task l ≡ holding l
  unfolding holding
  not_held h = rw (le-ltb l.count held_most h)

  pub inside_end : (r : Record) → is_word r.word End ≡ true → ending l ≡ asked_inside l r
  unfolding asked_inside
  inside_end r e = rw e

-- ---- by the stage

pub asked_at_lem : (g : Stage) (l : Lead) (r : Record) → l.stage ≡ g → asked_at g l r ≡ asked l r
unfolding asked
asked_at_lem g l r h = rw h
