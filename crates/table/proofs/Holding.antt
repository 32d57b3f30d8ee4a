-- Arrays that hold a table are those of its game, as a search reads it. Assumes nothing.
use mathlib.Core.Path.{◌≡◌, refl, sym, ap, ◌∙◌}
use mathlib.Core.List.{List, [], ◌∷◌}
use Prim.Native.Nat.{ℕ, zero, suc, ◌+◌, ◌*◌, ◌≤◌, ◌<◌}
use native.Mathlib.Omega.{arith}
use lib.ListN.{length, get_or, take, drop, length-take, length-drop}
use Rattle.plain.specs.Lists.{elem, In}
use Rattle.plain.specs.Table.{Table, row, game_of, by_kind}
use Rattle.plain.specs.Refusals.{Load, accepted, load_trial}
use Rattle.plain.specs.Machine.{table_of}
use Rattle.plain.specs.Claims.{loaded}
use Rattle.plain.proofs.Tests.{in_head}
use Rattle.plain.proofs.Tables.{Valid, valid}
use Rattle.plain.proofs.Limits.{size_few}
use Rattle.plain.proofs.Demands.{target_below, source_below, inside_game}
use Rattle.look.specs.Scan.{plain_layout, row_laid}
use Rattle.look.proofs.Scans.{laid_plain}
use Rattle.rows.specs.declared.Rows.{Rows}
use Rattle.layers.specs.Packed.{Packed}
use Rattle.layers.proofs.Rows.{GameHeld}
use Rattle.table.specs.Filing.{Filed, FourKinds}

-- a list without an entry
empty : (xs : List ℕ) → ((x : ℕ) → In x xs → ⊥) → xs ≡ []
empty [] n = refl
empty (x ∷ xs) n = absurd (n x (in_head x xs))

module _ (t : Table) (v : Valid t) (rows : Rows) (words : List ℕ) (f : Filed t.size t.edges rows) (p : Packed t.size t.kinds t.marks words) where
  rows_read : (s : ℕ) → s < 512 → row_laid rows.targets (plain_layout rows.starts) s ≡ row t.edges s
  rows_read s h =
      laid_plain t.size rows.targets rows.starts f.compressed s h (λ x i. omega (arith, target_below t v s x (ap (elem x) (sym (f.rows_are s)) ∙ i), size_few t.size v.size_ok))
      ∙ f.rows_are s

  pub game_held : GameHeld (game_of t) rows.targets rows.starts words
  game_held = record {
    some = v.some_kind;
    fits = v.states_few;
    rows_are = rows_read;
    behind = λ s h. empty (row t.edges s) (λ x i. omega (arith, source_below t v s x i));
    stays = target_below t v;
    bits_are = p.bits_are;
  }

-- ---- the marks of a load

-- of an accepted one they can be packed
pub packs : (l : Load) (room : ℕ) → load_trial l room ≡ accepted → (0 < l.kinds) × (l.kinds ≤ 4) × (0 < l.size) × (l.kinds * l.size ≤ 512)
unfolding table_of
packs l room e =
    let ok = valid (table_of l) (loaded l room e) in
    (ok.some_kind, ok.four_kinds, omega (arith, (inside_game (table_of l) ok).begins), ok.states_few)

-- 32 words are eight for each of four kinds
eight_from : (ws : List ℕ) (n : ℕ) → n + 8 ≤ length ws → length (take 8 (drop n ws)) ≡ 8
eight_from ws n h = omega (arith, length-take 8 (drop n ws), length-drop n ws)

pub four_kinds : (ws : List ℕ) → length ws ≡ 32 → FourKinds (by_kind ws)
unfolding by_kind
four_kinds ws e = record { four = refl; eight = each }
  where
    each : (kind : ℕ) → kind < 4 → length (get_or (by_kind ws) kind []) ≡ 8
    each zero h = omega (arith, length-take 8 ws)
    each (suc zero) h = eight_from ws 8 (omega arith)
    each (suc (suc zero)) h = eight_from ws 16 (omega arith)
    each (suc (suc (suc zero))) h = eight_from ws 24 (omega arith)
    each (suc (suc (suc (suc n)))) h = absurd (omega arith)
