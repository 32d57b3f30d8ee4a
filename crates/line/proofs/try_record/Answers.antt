-- `try_record` meets its contract: what the items tell of the fields behind the word, and the record that these make. Assumes nothing.
use Prim.Native.Nat.{ℕ, ◌≤◌}
use mathlib.Core.Path.{◌≡◌, refl, sym, ap, ◌∙◌}
use mathlib.Core.List.{List}
use mathlib.Core.Bool.{true≢false}
use native.Mathlib.Omega.{arith}
use lib.ListN.{length}
use Rattle.std.specs.Prelude.{Option, Some, None, Result, Ok, Err}
use Rattle.std.specs.Result.{IsErr}
use Rattle.line.specs.Words.{limit_of, kind_of}
use Rattle.line.specs.Fields.{field_at}
use Rattle.line.specs.Records.{unreadable, word_of, worded, record_of}
use Rattle.line.specs.Items.{row_of, item_at, second_limit, filled_with}
use Rattle.line.specs.declared.NoRecord.{NoRecord}
use Rattle.line.specs.declared.Record.{Record}
use Rattle.line.specs.declared.Row.{Row}
use Rattle.line.proofs.Fields.{fields_behind, field_within}
use Rattle.line.proofs.Records.{or_unreadable, Tells, item_tells, none_behind, bad_behind, one_behind, bad_second, two_behind, more_behind, record_long, record_is}
use Rattle.line.proofs.try_record.Goals as goal

abbrev Read : Type 0
Read = Result (Option (ℕ × ℕ)) NoRecord

err_unreadable : (r : Result Record NoRecord) → IsErr r → or_unreadable r ≡ unreadable
err_unreadable (Ok x) e = absurd (true≢false (sym e))
err_unreadable (Err n) e = refl

-- what a call gave, by the parts that the patterns took
seen : (i item : Read) (o p : Option (ℕ × ℕ)) → i ≡ Ok o → o ≡ p → i ≡ item → Ok p ≡ item
seen i item o p e f g = cc

-- the first field of a line and the row of the word that it spells
module _ (l name : List ℕ) (row : Row) (f : name ≡ field_at l 0) (r : row ≡ row_of (word_of name)) where
  name-within : length name ≤ length l
  name-within = omega (arith, ap length f, field_within l 0 (omega arith))

  -- the record that was filled, by the word's own row
  filled_row : (n first second : ℕ) → or_unreadable (filled_with row n first second) ≡ or_unreadable (filled_with (row_of (word_of name)) n first second)
  filled_row n first second = ap (λ (x : Row). or_unreadable (filled_with x n first second)) r

  -- the same where the second number is left out
  left_out : (n first : ℕ)
      → or_unreadable (filled_with row n first row.kind) ≡ or_unreadable (filled_with (row_of (word_of name)) n first (kind_of (word_of name)))
  left_out n first = ap (λ (x : Row). or_unreadable (filled_with x n first x.kind)) r

  -- what the item behind the word tells
  first-told : (i : Read) → i ≡ item_at row.limit l (length name) → Tells (limit_of (word_of name)) l (length name) i
  first-told i e = item_tells _ _ _ i name-within (e ∙ ap (λ (x : Row). item_at x.limit l (length name)) r)

  module _ (v end : ℕ) (a : Ok (Some (v, end)) ≡ item_at row.limit l (length name)) where
    first-within : end ≤ length l
    first-within = (first-told (Ok (Some (v, end))) a).4

    -- what the item behind the first number tells
    second-told : (limit : ℕ) (i : Read) → limit ≡ second_limit row → i ≡ item_at limit l end → Tells (second_limit (row_of (word_of name))) l end i
    second-told limit i m e = item_tells _ _ _ i first-within (e ∙ ap (λ (n : ℕ). item_at n l end) (m ∙ ap second_limit r))

  -- the records, by what stands behind the word
  module _ (short : length l ≤ 32) where
    begun : worded (word_of name) (fields_behind l (length name)) ≡ record_of l
    begun = record_is l name _ short f refl

    none : Ok None ≡ item_at row.limit l (length name) → or_unreadable (filled_with row 0 0 row.kind) ≡ record_of l
    none a = left_out _ _ ∙ none_behind _ _ _ (first-told (Ok None) a) ∙ begun

    bad : Err (record {}) ≡ item_at row.limit l (length name) → unreadable ≡ record_of l
    bad a = bad_behind _ _ _ (first-told (Err (record {})) a) ∙ begun

    module _ (v end : ℕ) (a : Ok (Some (v, end)) ≡ item_at row.limit l (length name)) (limit : ℕ) (m : limit ≡ second_limit row) where
      one : Ok None ≡ item_at limit l end → or_unreadable (filled_with row 1 v row.kind) ≡ record_of l
      one b = left_out _ _ ∙ one_behind _ _ _ _ _ (first-told (Ok (Some (v, end))) a) (second-told v end a limit (Ok None) m b) ∙ begun

      bad-after : Err (record {}) ≡ item_at limit l end → unreadable ≡ record_of l
      bad-after b = bad_second _ _ _ _ _ (first-told (Ok (Some (v, end))) a) (second-told v end a limit (Err (record {})) m b) ∙ begun

      module _ (u last : ℕ) (b : Ok (Some (u, last)) ≡ item_at limit l end) where
        two : last ≡ length l → or_unreadable (filled_with row 2 v u) ≡ record_of l
        two e = filled_row _ _ _ ∙ two_behind _ _ _ _ _ _ _ (first-told (Ok (Some (v, end))) a) (second-told v end a limit (Ok (Some (u, last))) m b) e ∙ begun

        more : (last ≡ length l → ⊥) → unreadable ≡ record_of l
        more d = more_behind _ _ _ _ _ _ _ (first-told (Ok (Some (v, end))) a) (second-told v end a limit (Ok (Some (u, last))) m b) d ∙ begun

pub returns-then-line-gt-LONGEST : goal.returns-then-line-gt-LONGEST
returns-then-line-gt-LONGEST c = record_long c.args.line.now c.if-line-gt-LONGEST.true

pub read_item-requires : goal.read_item-requires
read_item-requires c = name-within _ _ _ c.field-name.ensures c.read_row-row.ensures

pub returns-in_err-first : goal.returns-in_err-first
returns-in_err-first c =
    err_unreadable _ c.from_residual.ensures.0
    ∙ bad _ _ _ c.field-name.ensures c.read_row-row.ensures c.if-line-gt-LONGEST.false (sym c.in_err-first.was ∙ c.read_item.ensures)

pub returns-in_default : goal.returns-in_default
returns-in_default c =
    ap or_unreadable c.filled.ensures
    ∙ none _ _ _ c.field-name.ensures c.read_row-row.ensures c.if-line-gt-LONGEST.false (seen _ _ _ _ c.in_ok-first.was c.in_default.is c.read_item.ensures)

pub read_item-requires-2 : goal.read_item-requires-2
read_item-requires-2 c =
    first-within _ _ _ c.field-name.ensures c.read_row-row.ensures _ _ (seen _ _ _ _ c.in_ok-first.was c.in-Some.is c.read_item.ensures)

pub returns-in_err-second : goal.returns-in_err-second
returns-in_err-second c =
    err_unreadable _ c.from_residual-in_err-second.ensures.0
    ∙ bad-after _ _ _ c.field-name.ensures c.read_row-row.ensures c.if-line-gt-LONGEST.false _ _ (seen _ _ _ _ c.in_ok-first.was c.in-Some.is c.read_item.ensures) _ c.second_limit.ensures
    (sym c.in_err-second.was ∙ c.read_item-2.ensures)

pub returns-in_default-2 : goal.returns-in_default-2
returns-in_default-2 c =
    ap or_unreadable c.filled-in_default-2.ensures
    ∙ one _ _ _ c.field-name.ensures c.read_row-row.ensures c.if-line-gt-LONGEST.false _ _ (seen _ _ _ _ c.in_ok-first.was c.in-Some.is c.read_item.ensures) _ c.second_limit.ensures
    (seen _ _ _ _ c.in_ok-second.was c.in_default-2.is c.read_item-2.ensures)

pub returns-then-last-line : goal.returns-then-last-line
returns-then-last-line c =
    more _ _ _ c.field-name.ensures c.read_row-row.ensures c.if-line-gt-LONGEST.false _ _ (seen _ _ _ _ c.in_ok-first.was c.in-Some.is c.read_item.ensures) _ c.second_limit.ensures _ _
    (seen _ _ _ _ c.in_ok-second.was c.in-Some-2.is c.read_item-2.ensures) c.if-last-line.true

pub returns : goal.returns
returns c =
    ap or_unreadable c.filled-2.ensures
    ∙ two _ _ _ c.field-name.ensures c.read_row-row.ensures c.if-line-gt-LONGEST.false _ _ (seen _ _ _ _ c.in_ok-first.was c.in-Some.is c.read_item.ensures) _ c.second_limit.ensures _ _
    (seen _ _ _ _ c.in_ok-second.was c.in-Some-2.is c.read_item-2.ensures) c.if-last-line.false
