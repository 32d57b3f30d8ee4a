-- What the inner functions of the session do, over the lists that its arrays hold. Cited by their contracts alone. Assumes nothing.
use Rattle.std.specs.Prelude.{ℕ, ◌*◌, ◌-◌, ◌%◌, min, ◌≡◌, Bool, true, false, cond, Option, None, Some, is_some, List, length, set, replicate}
use Rattle.plain.specs.Refusals.{accepted, refused}
use Rattle.rows.specs.declared.Rows.{Rows}
use Rattle.batch.specs.declared.Update.{Update}
use Rattle.batch.specs.declared.Command.{Command}
use Rattle.batch.specs.declared.BatchLine.{BatchLine}
use Rattle.table.specs.declared.Position.TheVariants as Position
use Rattle.table.specs.Trials.{arrays_of, kinds_trial_in}
use Rattle.table.specs.declared.Arrays.{Arrays}
use Rattle.batch.specs.Batches.{line_to, lines_in, numbers_in, position_at, call_tried_in}
use Rattle.look.specs.Numbers.{no_number, plus}
use Rattle.layers.specs.Layout.{layered}
use Rattle.layers.specs.Packed.{ClearedFrom}
use Rattle.search.specs.declared.Phase.{Phase}
use Rattle.search.specs.declared.Phase.TheVariants.{Outer, Nested, Exhausted, Found}
use Rattle.search.specs.declared.Walker.{Walker}
use Rattle.search.specs.declared.Records.{Records}
use Rattle.search.specs.Core.{Game, game_of, Core, Result, Ran, rewound}
use Rattle.resumption.specs.Model.{resumption_of}
use Rattle.session.specs.declared.Verdict.{Verdict}
use Rattle.session.specs.declared.Settled.{Settled}
use Rattle.session.specs.declared.Session.{Session}
use Rattle.verdict.specs.Answers.{refusing, lowered, Tells}

-- the records of lent lists
abbrev pub records_of : List ℕ → List ℕ → List ℕ → List ℕ → List ℕ → List ℕ → Records
records_of number parent index probes stamp walk = record { number = number; parent = parent; index = index; probes = probes; stamp = stamp; walk = walk }

-- the session that is made of the table, the records of a search, and what it has come to
abbrev pub session_of : ℕ → ℕ → ℕ → Arrays → Records → Verdict → ℕ → Session
session_of size start kinds b a v total = record {
  size = size;
  start = start;
  kinds = kinds;
  arrays = b;
  records = a;
  stem = v.stem;
  length = v.length;
  height = v.height;
  total = total;
}

-- the probes of the whole search
abbrev pub total_in : Verdict → ℕ
total_in v = plus v.kept v.spent

-- the arrays of the table that a session holds
abbrev pub arrays_held : Session → Arrays
arrays_held s = s.arrays

-- the game that is searched: the layers, of rows that are stored once
abbrev pub game_in : ℕ → ℕ → Arrays → Game
game_in size kinds b = game_of b.rows.targets (layered size (kinds - 1) b.rows.starts b.words) b.words size

-- how many states the layers have, within 16 bits
abbrev pub states_in : ℕ → ℕ → ℕ
states_in size kinds = size * kinds % 65536

-- arrays and records of which all is 0
abbrev pub no_arrays : Arrays
no_arrays = arrays_of (replicate 2048 0) (replicate 513 0) (replicate 8 0) (replicate 512 0)

abbrev pub no_records : Records
no_records = records_of (replicate 512 0) (replicate 512 0) (replicate 512 0) (replicate 512 0) (replicate 512 0) (replicate 512 0)

-- the session that has no game: all is 0
abbrev pub no_game : Session
no_game = record { size = 0; start = 0; kinds = 0; arrays = no_arrays; records = no_records; stem = 0; length = 0; height = 0; total = 0 }

-- what is asked for: the line of one change, and none where it is a batch
abbrev pub alone_line : Update → Option BatchLine
alone_line (Update.Change op) = Some (line_to op)
alone_line Update.Batch = None

-- has the search found a cycle?
abbrev pub is_found : Phase → Bool
is_found Outer = false
is_found Nested = false
is_found Exhausted = false
is_found Found = true

-- what a search that is over has come to: the lengths of stem and walk and the height of the open path, 0 where there is none
unfoldable pub verdict_of : Walker → ℕ → Verdict
verdict_of w spent = cond (is_found w.phase)
    (record { stem = w.stem; length = w.top; height = w.height; spent = spent; kept = w.kept })
    (record { stem = 0; length = 0; height = 0; spent = spent; kept = w.kept })

-- before the first search
abbrev pub no_verdict : Verdict
no_verdict = record { stem = 0; length = 0; height = 0; spent = 0; kept = 0 }

-- the largest table's bound on the steps of a search
abbrev pub bound : ℕ
bound = 5634

abbrev pub records_in : Result → Records
records_in c = records_of c.number c.parent c.index c.probes c.stamp c.walk

-- the search as it stood when s was discovered, with no probe spent
abbrev pub back_at : ℕ → ℕ → ℕ → Records → Core
back_at size start s a = rewound size start s 0 a.number a.parent a.index a.probes a.stamp a.walk

-- What a search leaves that is taken up: nowhere, and all is as it was; or where s was discovered, and it is run for `bound` phases.
abbrev pub Sought : Game → ℕ → ℕ → Option ℕ → Verdict → Records → Verdict → Records → Type 0
Sought g size start None old a r a' = (r ≡ old) × (a' ≡ a)
Sought g size start (Some s) old a r a' = (c : Result) × Ran g bound (back_at size start s a) c × (r ≡ verdict_of c.walker c.spent) × (a' ≡ records_in c)

-- What searching and answering leaves: the search, its answer, the walk at the head of the lent list, and the count of kinds.
pub record Settles (size kinds : ℕ) (g : Game) (start : ℕ) (from : Option ℕ) (old : Verdict) (a : Records) (lent : List ℕ) (r : Settled) (a' : Records) (lent' : List ℕ) : Type 0 where
  pub sought : Sought g (states_in size kinds) start from old a r.verdict a'
  pub tells : Tells r.verdict.spent r.verdict.kept r.verdict.stem r.verdict.length (lowered size (kinds - 1) a'.walk) lent r.answer lent'
  pub kinds_is : r.kinds ≡ kinds

-- the records of a search that has met the start state alone
abbrev pub fresh_from : ℕ → List ℕ → Records
fresh_from start walk = records_of (set (replicate 512 no_number) start 0) (replicate 512 start) (replicate 512 0) (replicate 512 0) (replicate 512 no_number) walk

-- what searching from the start and answering leaves
abbrev pub SettlesAfresh : ℕ → ℕ → Game → ℕ → List ℕ → List ℕ → Settled → Records → List ℕ → Type 0
SettlesAfresh size kinds g start walk lent r a' lent' = Settles size kinds g start (Some start) no_verdict (fresh_from start walk) lent r a' lent'

-- What a call leaves, whose lines are given as numbers: a refusal, and all is as it was; or the table's arrays changed, and what searching and answering leaves.
pub record UpdatedIn (alone : Bool) (ns : List ℕ) (size kinds start : ℕ) (old : Verdict) (b : Arrays) (a : Records) (lent : List ℕ) (r : Settled) (b' : Arrays) (a' : Records) (lent' : List ℕ) : Type 0 where
  pub on_refusal : (n : ℕ) → (call_tried_in alone (lines_in ns) size kinds b (length lent)).trial ≡ refused n
      → (r ≡ record { answer = refusing n (position_at alone (call_tried_in alone (lines_in ns) size kinds b (length lent)).position); verdict = old; kinds = kinds }) × (b' ≡ b) × (a' ≡ a) × (lent' ≡ lent)
  pub on_acceptance : (call_tried_in alone (lines_in ns) size kinds b (length lent)).trial ≡ accepted
      → (b' ≡ (call_tried_in alone (lines_in ns) size kinds b (length lent)).arrays)
      × Settles size kinds (game_in size kinds b') start (resumption_of size kinds ns b.rows a.number a.index a.walk old.height) old a lent r a' lent'

-- What another count of kinds leaves: a refusal, and all is as it was; or the marks of the kinds that stay, and what searching from the start and answering leaves.
pub record KindsSet (k size kinds start : ℕ) (old : Verdict) (rows : Rows) (words : List ℕ) (a : Records) (lent : List ℕ) (r : Settled) (words' : List ℕ) (a' : Records) (lent' : List ℕ) : Type 0 where
  pub on_refusal : (n : ℕ) → kinds_trial_in k size rows.starts (length lent) ≡ refused n
      → (r ≡ record { answer = refusing n Position.Alone; verdict = old; kinds = kinds }) × (words' ≡ words) × (a' ≡ a) × (lent' ≡ lent)
  pub on_acceptance : kinds_trial_in k size rows.starts (length lent) ≡ accepted
      → ClearedFrom (min kinds k * size) words words' × SettlesAfresh size k (game_of rows.targets (layered size (k - 1) rows.starts words') words' size) start a.walk lent r a' lent'

-- by what a call asks for
abbrev pub Performed : Command → List ℕ → ℕ → ℕ → ℕ → Verdict → Arrays → Records → List ℕ → Settled → Arrays → Records → List ℕ → Type 0
Performed (Command.Update u) ns size kinds start old b a lent r b' a' lent' = UpdatedIn (is_some (alone_line u)) (numbers_in (alone_line u) ns) size kinds start old b a lent r b' a' lent'
Performed (Command.Kinds k) ns size kinds start old b a lent r b' a' lent' =
    KindsSet k size kinds start old b.rows b.words a lent r b'.words a' lent' × (b'.rows ≡ b.rows) × (b'.indegree ≡ b.indegree)
