-- `read_number` meets its contract: the digits from the index on, read behind v, give what the whole field gives; v has at most so many digits. Assumes nothing.
use Prim.Native.Nat.{◌≤◌, ◌<◌, ◌^◌}
use mathlib.Core.Path.{◌≡◌}
use lib.ListN.{length, drop}
use Rattle.line.specs.Numbers.{number_of}
use Rattle.line.proofs.Numbers.{read_from}
use Rattle.line.proofs.read_number.Given as goal

abbrev pub invariant-loop-b : goal.invariant-loop-b
invariant-loop-b l = record {
  short : length l.s ≤ 5;
  below : l.v < 10 ^ l.b-index;
  rest : read_from l.limit l.v (drop l.b-index l.s) ≡ number_of l.limit l.s;
}
