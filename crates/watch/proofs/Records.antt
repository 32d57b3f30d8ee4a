-- Records one behind the other: what is held behind them, and what is printed for them. Assumes nothing.
use mathlib.Core.Path.{◌≡◌, refl, sym, ap, ◌∙◌}
use mathlib.Core.List.{List, [], ◌∷◌, ◌++◌, append_assoc}
use Rattle.plain.specs.Machine.{Line}
use Rattle.line.specs.declared.Record.{Record}
use Rattle.watch.specs.Text.{Held, step, printed, held_behind}

pub held_append : (p : Held) (rs qs : List Record) → held_behind p (rs ++ qs) ≡ held_behind (held_behind p rs) qs
unfolding held_behind
held_append p [] qs = refl
held_append p (r ∷ rs) qs = held_append (step p r).next rs qs

pub printed_append : (p : Held) (rs qs : List Record) → printed p (rs ++ qs) ≡ printed p rs ++ printed (held_behind p rs) qs
unfolding held_behind printed
printed_append p [] qs = refl
printed_append p (r ∷ rs) qs = ap (λ (ls : List Line). (step p r).lines ++ ls) (printed_append (step p r).next rs qs) ∙ sym (append_assoc (step p r).lines (printed (step p r).next rs) (printed (held_behind (step p r).next rs) qs))
