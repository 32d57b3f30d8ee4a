-- Document 02, ticket 12: every state on a free round. Assumes nothing.
use Rattle.std.specs.Prelude.{ℕ, Bool, ◌&&◌, List}
use Rattle.plain.specs.Lists.{any, all, filter, below}
use Rattle.plain.specs.Cycles.{Kinded}
use Rattle.plain.specs.Shortest.{leads, reached}

module _ (a : Kinded) where
  -- does a run of zero or more moves lead from s to x? In a game of so many states, so many moves are enough (proofs/Rounds.antt, `reaches_right`).
  unfoldable pub reaches : ℕ → ℕ → Bool
  reaches s x = leads a.graph a.size s x

  -- does s lie on a closed run, which "has one or more moves": does a move of it lead to where a run leads back from?
  unfoldable pub returns : ℕ → Bool
  returns s = any (λ x. reaches x s) (a.graph.successors s)

  -- do runs lead from s to a state that carries the kind, and from there back?
  unfoldable pub passes_kind : ℕ → ℕ → Bool
  passes_kind s kind = any (λ x. a.carries kind x && (reaches s x && reaches x s)) (below a.size)

  -- does s lie "on a closed run through every kind of pay in use"? Closed runs that pass s make one, one behind the other (proofs/Rounds.antt, `on_round_lem`).
  unfoldable pub lies_on_round : ℕ → Bool
  lies_on_round s = returns s && all (passes_kind s) (below a.kinds)

  -- "in rising order each reachable state that lies on a closed run through every kind of pay in use"
  unfoldable pub on_rounds : List ℕ
  on_rounds = filter (λ s. reached a.graph a.size s && lies_on_round s) (below a.size)
