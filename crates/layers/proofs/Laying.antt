-- The lists of the layers, written copy by copy, and those of a game of one kind. Assumes nothing.
use mathlib.Core.Path.{◌≡◌, sym, ap, ◌∙◌}
use mathlib.Core.Bool.{Bool, true, false}
use mathlib.Core.List.{List}
use Prim.Native.Nat.{ℕ, suc, ◌+◌, ◌%◌, ◌≤◌, ◌<◌}
use native.Mathlib.Numerals.{add-one}
use native.Mathlib.Omega.{arith}
use lib.ListN.{length, get_or, set, replicate, length-replicate}
use Rattle.plain.specs.Table.{accepts}
use Rattle.plain.specs.Layers.{copy, state_of, layer_of, landing}
use Rattle.plain.proofs.Copies.{copy_first, state_one, layer_one, next_last}
use Rattle.rows.proofs.Paste.{same_place}
use Rattle.rows.proofs.Entries.{entries_length, entries_at}
use Rattle.rows.proofs.Empty.{reads_same}
use Rattle.look.specs.Scan.{layout_of, ends_of, plain_layout}
use Rattle.layers.specs.Layout.{base_at, layered}
use Rattle.layers.proofs.Listing.{listed_is, listed_front, written, written_none, written_all, writes}
use Rattle.layers.proofs.Standing.{Stands, state_is, layer_is}

-- where the row of a copy begins, and where it ends
module _ (n m : ℕ) (starts : List ℕ) where
  abbrev pub begin_at : ℕ → ℕ
  begin_at v = get_or starts (state_of n m v) 0

  abbrev pub end_at : ℕ → ℕ
  end_at v = get_or starts (suc (state_of n m v)) 0

-- ---- the lists of `starts` and of packed words, as they were lent and as they are

module _ (n m : ℕ) (starts words : List ℕ) where
  abbrev firsts : ℕ → ℕ
  firsts = begin_at n m starts

  abbrev lasts : ℕ → ℕ
  lasts = end_at n m starts

  module _ (begins₀ ends₀ bases₀ : List ℕ) where
    -- the entries of the copies below v are written
    pub record Laid (begins ends bases : List ℕ) (v : ℕ) : Type 0 where
      pub within : v ≤ 512
      pub begins_are : begins ≡ written v firsts begins₀
      pub ends_are : ends ≡ written v lasts ends₀
      pub bases_are : bases ≡ written v (base_at n m words) bases₀

    -- none is written
    pub laid_none : Laid begins₀ ends₀ bases₀ 0
    laid_none = record {
      within = omega arith;
      begins_are = written_none firsts begins₀;
      ends_are = written_none lasts ends₀;
      bases_are = written_none (base_at n m words) bases₀;
    }

    module _ (begins-lent : begins₀ ≡ starts) (starts_size : length starts ≡ 513) (ends_size : length ends₀ ≡ 512) (bases_size : length bases₀ ≡ 512) (begins ends bases : List ℕ) (v : ℕ) (r : Laid begins ends bases v) where
      -- the entries of v, a copy of s
      pub laid_more : v < 512 → (s at left : ℕ) → (t : Stands n m v s at left) → (base : ℕ) → base ≡ copy n (landing (suc m) (accepts words v) t.layer) 0 % 512
          → Laid (set begins v (get_or starts s 0)) (set ends v (get_or starts (s + 1) 0)) (set bases v base) (v + 1)
      unfolding base_at
      laid_more low s at left t base e =
          let state : s ≡ state_of n m v = sym (state_is n m v s at left t) in record {
            within = omega arith;
            begins_are = writes firsts begins₀ begins v r.begins_are (omega (arith, ap length begins-lent)) _ (same_place starts state);
            ends_are = writes lasts ends₀ ends v r.ends_are (omega arith) _ (same_place starts (add-one s ∙ ap suc state));
            bases_are = writes (base_at n m words) bases₀ bases v r.bases_are (omega arith) base
                (e ∙ ap (λ l. copy n (landing (suc m) (accepts words v) l) 0 % 512) (sym (layer_is n m v s at left t)));
          }

      -- all are written
      pub laid_all : 512 ≤ v → layout_of begins ends bases ≡ layered n m starts words
      unfolding layered
      laid_all high =
          let all : v ≡ 512 = omega (arith, r.within) in
          let begin : begins ≡ written 512 firsts starts = r.begins_are ∙ (λ i. written (all i) firsts (begins-lent i)) in
          let end : ends ≡ _ = r.ends_are ∙ ap (λ i. written i lasts ends₀) all ∙ written_all lasts ends₀ 512 (omega arith) in
          let base : bases ≡ _ = r.bases_are ∙ ap (λ i. written i (base_at n m words) bases₀) all ∙ written_all (base_at n m words) bases₀ 512 (omega arith) in
          (λ i. layout_of (begin i) (end i) (base i))

-- ---- a game of one kind

-- nothing is added to its targets
base_one : (n : ℕ) (words : List ℕ) (v : ℕ) → base_at n 0 words v ≡ 0
unfolding base_at
base_one n words v = ap (λ l. copy n l 0 % 512) (only (accepts words v) (layer_of n 0 v) (layer_one n v)) ∙ ap (λ k. k % 512) (copy_first n 0)
  where
    only : (b : Bool) (l : ℕ) → l ≡ 0 → landing 1 b l ≡ 0
    only false l e = e
    only true l e = next_last 1 l (ap suc e)

-- its rows lie as they are stored
pub laid_one : (n : ℕ) (starts words : List ℕ) → length starts ≡ 513 → plain_layout starts ≡ layered n 0 starts words
unfolding layered ends_of
laid_one n starts words size =
    let begins = listed_front starts 512 (begin_at n 0 starts) (omega arith) (λ i h. same_place starts (state_one n i)) in
    let ends = listed_is (ends_of starts) 512 (end_at n 0 starts) (entries_length 512 1 starts)
    (λ i h. same_place starts (ap suc (state_one n i) ∙ omega arith) ∙ sym (entries_at 512 1 starts i h)) in
    let bases = listed_is (replicate 512 0) 512 (base_at n 0 words) (length-replicate {A = ℕ} 512 0) (λ i h. base_one n words i ∙ sym (reads_same 512 i 0)) in
    sym (λ i. layout_of (begins i) (ends i) (bases i))
