-- The arrays stand for the states seen, and go on doing so where one more is noted. Assumes nothing.
use mathlib.Core.Path.{◌≡◌, refl, sym, ap, subst⁻¹, ◌∙◌}
use mathlib.Core.Logic.{⊎_elim}
use mathlib.Core.Bool.{Bool, true, false}
use mathlib.Core.List.{List, [], ◌∷◌, ◌++◌}
use Prim.Native.Nat.{ℕ, suc, ◌≤◌, ◌<◌}
use native.Mathlib.Omega.{arith}
use lib.ListN.{length, get_or, set, replicate, length-append, length-set}
use Rattle.plain.specs.Lists.{elem, In, Once}
use Rattle.plain.proofs.Tests.{contra, either, not-true, in_nil, in_head, in_cases, in_one, in_append, in_left, in_right, out_nil}
use Rattle.plain.proofs.Lassos.{once_append}
use Rattle.plain.proofs.Bounds.{once_few}
use Rattle.plain.proofs.Walks.{begins_push}
use Rattle.plain.proofs.Sweeps.{noted_again, noted_new}
use Rattle.look.specs.Numbers.{further}
use Rattle.look.proofs.Counting.{further_more}
use Rattle.look.proofs.Sets.{members_insert, members_none}
use Rattle.shortest.specs.Model.{Sized, Stands, Notes}

-- a state that is in one of two lists or in the other, whichever stands first
elem_swap : (x t : ℕ) (xs : List ℕ) → elem x (t ∷ xs) ≡ elem x (xs ++ (t ∷ []))
elem_swap x t xs = ⊎_elim yes no (either (elem x (xs ++ (t ∷ []))))
  where
    yes : elem x (xs ++ (t ∷ [])) ≡ true → elem x (t ∷ xs) ≡ elem x (xs ++ (t ∷ []))
    yes e = ⊎_elim (λ i. there (in_tail_of i)) (λ i. there (rw (in_one x t i) (in_head t xs))) (in_append x xs (t ∷ []) e)
      where
        in_tail_of : In x xs → In x (t ∷ xs)
        in_tail_of i = in_right x (t ∷ []) xs i

        there : In x (t ∷ xs) → elem x (t ∷ xs) ≡ elem x (xs ++ (t ∷ []))
        there i = i ∙ sym e

    no : elem x (xs ++ (t ∷ [])) ≡ false → elem x (t ∷ xs) ≡ elem x (xs ++ (t ∷ []))
    no e = not-true (elem x (t ∷ xs)) (λ i. ⊎_elim
        (λ z. contra (in_right x xs (t ∷ []) (rw z (in_head t []))) e)
        (λ j. contra (in_left x xs (t ∷ []) j) e) (in_cases x t xs i)) ∙ sym e

module _ (queue : List ℕ) (seen : List Bool) (tail t : ℕ) (sized : Sized queue seen) where
  -- t was seen
  pub notes_again : true ≡ get_or seen t true → Notes queue seen tail t queue seen tail
  notes_again e = record {
    sized = sized;
    stands = λ xs low h. subst⁻¹ (Stands queue seen tail) (noted_again t xs (sym (h.members t low) ∙ sym e)) h;
  }

  -- t is new
  module _ (queue' : List ℕ) (seen' : List Bool) (r : ℕ) (queue-is : queue' ≡ set queue tail t) (seen-is : seen' ≡ set seen t true) (r-is : r ≡ further tail) where
    stands_new : (xs : List ℕ) → t < 512 → elem t xs ≡ false → Stands queue seen tail xs → Stands queue' seen' r (xs ++ (t ∷ []))
    stands_new xs low o h =
        let different : Once (xs ++ (t ∷ [])) = once_append xs (t ∷ []) h.once (out_nil t, tt) (λ x i j. contra (rw (in_one x t j) at i) o) in
        let below : (x : ℕ) → In x (xs ++ (t ∷ [])) → x < 512 = λ x i. ⊎_elim (h.small x) (λ j. rw (in_one x t j) low) (in_append x xs (t ∷ []) i) in
        let room : suc (length xs) ≤ 512 = omega (arith, once_few 512 (xs ++ (t ∷ [])) different below, length-append xs (t ∷ [])) in
        record {
          tail_is = r-is ∙ further_more tail (omega (arith, h.tail_is)) ∙ omega (arith, h.tail_is, length-append xs (t ∷ []));
          in_order = rw queue-is (begins_push xs queue t tail h.tail_is sized.queue_size room h.in_order);
          members = λ x l. members_insert seen seen' xs t sized.seen_size low seen-is h.members x l ∙ elem_swap x t xs;
          once = different;
          small = below;
        }

    pub notes_new : false ≡ get_or seen t true → Notes queue seen tail t queue' seen' r
    notes_new e = record {
      sized = record {
        queue_size = ap length queue-is ∙ length-set queue tail t ∙ sized.queue_size;
        seen_size = ap length seen-is ∙ length-set seen t true ∙ sized.seen_size;
      };
      stands = λ xs low h.
          let o : elem t xs ≡ false = sym (h.members t low) ∙ sym e in
          subst⁻¹ (Stands queue' seen' r) (noted_new t xs o) (stands_new xs low o h);
    }

-- before the first state
pub stands_none : (queue : List ℕ) (seen : List Bool) → seen ≡ replicate 512 false → Stands queue seen 0 []
stands_none queue seen e = record {
  tail_is = refl;
  in_order = (queue, refl);
  members = rw e members_none;
  once = tt;
  small = λ x i. absurd (in_nil x i);
}
