-- `watch::whole_end`: up to and with the last newline, or nothing.
use mathlib.Core.Path.{sym}
use native.Mathlib.Omega.{arith}
use borrow.Author.Rules.{rules}
use Rattle.watch.proofs.Counting.{whole_at, whole_none}
use Rattle.watch.proofs.whole_end.Goals as goal

pub returns-in-Some : goal.returns-in-Some
returns-in-Some c = (search rules, whole_at c.args.text.now c.in-Some.last (search rules) (search rules) (search rules))

pub returns-in-None : goal.returns-in-None
returns-in-None c = (omega arith, sym (whole_none c.args.text.now (search rules)))
