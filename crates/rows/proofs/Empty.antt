-- The table without edges. Assumes nothing.
use Prim.Native.Nat.{ℕ, zero, suc, ◌≤◌}
use native.Mathlib.Omega.{arith}
use mathlib.Core.Path.{◌≡◌, refl}
use mathlib.Core.List.{[]}
use lib.ListN.{get_or, replicate, length-replicate}
use Rattle.rows.specs.Rows.{row_at, edge_count, Compressed}
use Rattle.rows.proofs.Entries.{row_none}

pub reads_same : (n i a : ℕ) → get_or (replicate n a) i a ≡ a
reads_same zero i a = refl
reads_same (suc n) zero a = refl
reads_same (suc n) (suc i) a = reads_same n i a

pub empty_row : (v : ℕ) → row_at (replicate 2048 0) (replicate 513 0) v ≡ []
empty_row v = row_none (replicate 2048 0) (replicate 513 0) v (omega (arith, reads_same 513 v 0, reads_same 513 (suc v) 0))

pub empty_count : (size : ℕ) → edge_count (replicate 513 0) size ≡ 0
empty_count size = reads_same 513 size 0

pub empty_compressed : (size : ℕ) → size ≤ 512 → Compressed size (replicate 2048 0) (replicate 513 0)
empty_compressed size few = record {
  tabled = record { targets_size = length-replicate {A = ℕ} 2048 0; starts_size = length-replicate {A = ℕ} 513 0 };
  states = few;
  first = reads_same 513 0 0;
  rising = λ v h. omega (arith, reads_same 513 v 0);
  within = omega (arith, empty_count size);
  behind = λ v h. reads_same 513 v 0;
}
