-- A block into which several reads bring bytes, one behind the other, holds these bytes in turn. Assumes nothing.
use Prim.Native.Nat.{ℕ, ◌+◌, ◌≤◌}
use native.Mathlib.Omega.{arith}
use mathlib.Core.Path.{◌≡◌, sym, ap, ◌∙◌}
use mathlib.Core.List.{List, ◌++◌, append_assoc}
use lib.ListN.{length, take}
use lib.Seq.{take-take, take-append-add, length-take-le}
use borrow.Rule.Slice.PartMut.{put_mid}
use Rattle.std.specs.declared.option.Option.{Option}
use Rattle.std.specs.declared.option.Option.TheVariants.{None, Some}
use Rattle.std.specs.Io.KnownBytes.{Consumes}
use Rattle.std.proofs.lemmas.Slice.{take-put_mid}

-- the bytes up to the end of a read, which stand behind those of the reads before
pub read_behind : (done k n : ℕ) (block new : List ℕ) → done ≤ length block → n ≤ length new → take (done + n) (put_mid done k block new) ≡ take done block ++ take n new
read_behind done k n block new h m =
    let e : length (take done block) ≡ done = length-take-le done block h in
    sym (take-take (done + n) (done + length new) (put_mid done k block new) (omega arith)) ∙ ap (take (done + n)) (take-put_mid done k block new (done + length new) (omega arith) h)
    ∙ ap (λ (i : ℕ). take (i + n) (take done block ++ new)) (sym e) ∙ take-append-add (take done block) new n

pub consumes_both : (u v w : Option (List ℕ)) (xs ys : List ℕ) → Consumes u v xs → Consumes v w ys → Consumes u w (xs ++ ys)
consumes_both None v w xs ys p q = tt
consumes_both (Some b) None w xs ys p q = absurd p
consumes_both (Some b) (Some d) None xs ys p q = absurd q
consumes_both (Some b) (Some d) (Some e) xs ys p q = p ∙ ap (λ (l : List ℕ). xs ++ l) q ∙ sym (append_assoc xs ys e)
