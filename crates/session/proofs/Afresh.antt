-- A search from the start, begun by a load or by another count of kinds: the session holds the table, and the answer and the walk are those of a load of it. Assumes nothing.
use mathlib.Core.Path.{◌≡◌, refl, sym, ap, subst, ◌∙◌}
use mathlib.Core.List.{List}
use Prim.Native.Nat.{ℕ, ◌+◌, ◌*◌, ◌≤◌}
use native.Mathlib.Omega.{arith}
use lib.ListN.{length}
use Rattle.plain.specs.Search.{steps, verdict, count}
use Rattle.plain.specs.Table.{Table, searched, printed_verdict, final}
use Rattle.plain.specs.Refusals.{accepted}
use Rattle.plain.specs.Machine.{answer, load_answer}
use Rattle.plain.specs.Claims.{Arises}
use Rattle.plain.proofs.Tables.{Valid, valid}
use Rattle.plain.proofs.Limits.{small}
use Rattle.look.specs.Numbers.{plus}
use Rattle.search.specs.Core.{Game, Result, Ran, Fresh}
use Rattle.search.proofs.Ended.{rewound_spent}
use Rattle.search.proofs.Resumed.{begin_fits}
use Rattle.session.specs.declared.Verdict.{Verdict}
use Rattle.session.specs.declared.Settled.{Settled}
use Rattle.std.specs.Prelude.{Option}
use Rattle.table.specs.declared.Arrays.{Arrays}
use Rattle.table.specs.Filing.{Stored}
use Rattle.session.specs.Model.{records_of, game_in, records_in, back_at, verdict_of, no_verdict, bound, session_of, Settles, fresh_from, SettlesAfresh}
use Rattle.search.specs.declared.Records.{Records}
use Rattle.session.specs.Promises.{Holds}
use Rattle.verdict.proofs.Told.{told}
use Rattle.verdict.specs.Answers.{WalkOf, Answered}
use Rattle.session.proofs.Sought.{matches, states_are, starts_at, Reached, reached}

-- what settling leaves, from fresh records
pub settles_fresh : {size kinds : ℕ} {g : Game} {start : ℕ} {from : Option ℕ} {old : Verdict} {b : Records} {lent : List ℕ} {r : Settled} {a : Records} {lent' : List ℕ}
    → Fresh start b.number b.parent b.index b.probes b.stamp → old ≡ no_verdict
    → Settles size kinds g start from old b lent r a lent' → Settles size kinds g start from no_verdict (fresh_from start b.walk) lent r a lent'
settles_fresh {size = size} {kinds = kinds} {g = g} {start = start} {from = from} {b = b} {lent = lent} {r = r} {a = a} {lent' = lent'} f e w =
    subst (λ (x : Verdict × Records). Settles size kinds g start from x.0 x.1 lent r a lent')
    (λ i. (e i, records_of (f.number_is i) (f.parent_is i) (f.index_is i) (f.probes_is i) (f.stamp_is i) b.walk)) w

module _ (t : Table) (arises : Arises t) (b : Arrays) (stored : Stored t b) (walk lent lent' : List ℕ) (a : Records) (r : Settled) (walk_size : length walk ≡ 512)
    (roomy : t.size * t.kinds ≤ length lent) (settles : SettlesAfresh t.size t.kinds (game_in t.size t.kinds b) t.start walk lent r a lent') where
  abbrev v : Verdict
  v = r.verdict

  ok : Valid t
  ok = valid t arises

  -- what the search has come to
  begun : (c : Result) × Reached t 0 c × (v ≡ verdict_of c.walker c.spent) × (a ≡ records_in c)
  unfolding steps
  begun =
      let q = settles.sought in
      let g = game_in t.size t.kinds b in
      let states = t.kinds * t.size in
      let start = (searched t).start in
      let fresh = fresh_from start walk in
      let ran : Ran g bound (back_at states start start fresh) q.0 =
      subst (λ (x : ℕ × ℕ). Ran g bound (back_at x.0 x.1 x.1 (fresh_from x.1 walk)) q.0) (λ i. (states_are t ok i, sym (starts_at t) i)) q.1 in
      let come = reached t ok g (matches t b ok stored) 0 (back_at states start start fresh) q.0
      (rewound_spent states start start 0 fresh.number fresh.parent fresh.index fresh.probes fresh.stamp fresh.walk)
      (begin_fits states (searched t) (small t ok) walk walk_size) ran in
      (q.0, come, q.2, q.3)

  -- what the records of a core are, the records are
  made_as : (c : Result) → Reached t 0 c → v ≡ verdict_of c.walker c.spent → a ≡ records_in c
      → Holds (session_of t.size t.start t.kinds b a v (plus v.kept v.spent)) t × Answered (load_answer accepted t) lent r.answer lent'
  unfolding steps load_answer
  made_as c g e f =
      let none_kept : v.kept ≡ 0 = ap (λ (x : Verdict). x.kept) e ∙ g.kept_is in
      let tells : WalkOf v.stem v.length a.walk (verdict (final t)) = rw (e, f) g.tells in
      let sum : v.kept + v.spent ≡ count (final t) = rw e g.adds_up in
      let all : v.spent ≡ count (final t) = omega arith in (
        record {
          arises = arises;
          size_is = refl;
          start_is = refl;
          kinds_is = refl;
          stored = stored;
          steps = g.steps;
          ended = g.ended;
          archived = rw f g.archive;
          told = tells;
          height_is = ap (λ (x : Verdict). x.height) e ∙ g.height_is;
          total_is = rw e g.total_is;
        },
        subst (λ (x : ℕ × ℕ). Answered (answer (printed_verdict t (verdict (final t))) x.0 x.1) lent r.answer lent') (λ i. (all i, none_kept i))
            (told v.spent v.kept v.stem v.length t ok a.walk lent lent' r.answer tells settles.tells roomy),
      )

  pub afresh : Holds (session_of t.size t.start t.kinds b a v (plus v.kept v.spent)) t × Answered (load_answer accepted t) lent r.answer lent'
  afresh = let g = begun in made_as g.0 g.1 g.2 g.3
