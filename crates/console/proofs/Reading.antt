-- One byte of a read leaves the lines handed on as they are, a line or the limit ends the taking of bytes, and a further read goes on with them. Assumes nothing.
use Prim.Native.Nat.{ℕ, zero, suc, ◌+◌, ◌-◌, ◌≤◌, ◌<◌, min}
use native.Mathlib.Nat.{min-eq_left, min-eq_right}
use native.Mathlib.Decide.{dec_le}
use mathlib.Core.Path.{◌≡◌, refl, sym, ap, ◌∙◌}
use mathlib.Core.Bool.{Bool, true, false, true≢false, cond}
use mathlib.Core.List.{List, [], ◌∷◌, ◌++◌, append-nil, append_assoc}
use native.Mathlib.Numerals.{add-one}
use native.Mathlib.Omega.{arith}
use borrow.Author.Tests.{eqb-true, eqb-false, eq-eqb, ne_eqb, lt-ltb, le-ltb}
use lib.Dec.{eqb}
use lib.ListN.{length, get_or, set, take, drop, length-take, length-drop, drop_of_length-le}
use lib.Seq.{drop-cons, get_or-take, take-suc-set, length-take-le}
use Rattle.line.specs.Fields.{newline}
use Rattle.console.specs.declared.Status.{Status}
use Rattle.console.specs.declared.Status.TheVariants.{More, Line, Last, Over}
use Rattle.console.specs.declared.Reader.{Reader}
use Rattle.console.specs.Lines.{first_reader, reader_behind, pushed, last, handed, held_in, bytes_in, Goes, Within, Took, is_more, is_line, end_of, Found, Next}

-- ---- the lines handed on, by the first byte

handed_over : (held : List ℕ) (left b : ℕ) (bs : List ℕ) → left ≡ 0 → handed held left (b ∷ bs) ≡ []
unfolding handed
handed_over held zero b bs e = refl
handed_over held (suc left) b bs e = absurd (omega arith)

handed_line : (held : List ℕ) (left b : ℕ) (bs : List ℕ) → 0 < left → b ≡ 10 → handed held left (b ∷ bs) ≡ held ∷ handed [] (left - 1) bs
unfolding handed newline
handed_line held zero b bs h e = absurd (omega arith)
handed_line held (suc left) b bs h e =
    let one : suc left - 1 ≡ left = omega arith in
    rw (eq-eqb b 10 e, one)

handed_byte : (held : List ℕ) (left b : ℕ) (bs : List ℕ) → 0 < left → (b ≡ 10 → ⊥) → handed held left (b ∷ bs) ≡ handed (pushed held b) (left - 1) bs
unfolding handed newline
handed_byte held zero b bs h e = absurd (omega arith)
handed_byte held (suc left) b bs h e =
    let one : suc left - 1 ≡ left = omega arith in
    rw (ne_eqb b 10 e, one)

-- a byte put behind what is held, and one that is passed over because enough is held
pub push_room : (held : List ℕ) (len b : ℕ) → len < 33 → length held ≡ 33 → take (len + 1) (set held len b) ≡ pushed (take len held) b
unfolding pushed
push_room held len b h k =
    let e : length (take len held) ≡ len = length-take-le len held (omega arith) in
    rw (add-one, e, lt-ltb len 33 h) (take-suc-set held len b (omega arith))

pub push_full : (held : List ℕ) (len b : ℕ) → 33 ≤ len → len ≤ 33 → length held ≡ 33 → take len held ≡ pushed (take len held) b
unfolding pushed
push_full held len b h m k =
    let e : length (take len held) ≡ len = length-take-le len held (omega arith) in
    rw (e, le-ltb len 33 h)

-- ---- taking the bytes of one read

-- where the taking of bytes stops: with the read, or earlier where fewer may still come
pub stops : (at left end n : ℕ) → at ≤ end → n ≡ min left (end - at) → (at + n ≤ end) × (at + n ≤ at + left) × (at + n < end → left ≤ n)
stops at left end n h e = elim (dec_le left (end - at)) [
  | yes k ↦ let z : n ≡ left = e ∙ min-eq_left k in (omega arith, omega arith, λ _. omega arith)
  | no k ↦
      let less : end - at ≤ left = omega arith in
      let z : n ≡ end - at = e ∙ min-eq_right less in
      (omega arith, omega arith, λ t. absurd (omega arith))
]

-- What holds at each byte: the lines to come are those of the bytes left with what is held now. How many may still come is counted from the first byte on.
pub record Going (held₀ buf : List ℕ) (r : Reader) (held : List ℕ) (at len : ℕ) : Type 0 where
  pub from : r.at ≤ at
  pub to : at ≤ r.end
  pub within : r.end ≤ length buf
  pub enough : at ≤ r.at + r.left
  pub len_most : len ≤ 33
  pub size : length held ≡ 33
  pub rest : (more : List ℕ) → handed (take r.len held₀) r.left (drop r.at (take r.end buf) ++ more) ≡ handed (take len held) (r.left - (at - r.at)) (drop at (take r.end buf) ++ more)

next_byte : (buf : List ℕ) (at end : ℕ) → at < end → end ≤ length buf → drop at (take end buf) ≡ get_or buf at 0 ∷ drop (at + 1) (take end buf)
next_byte buf at end h k =
    let e : get_or (take end buf) at 0 ≡ get_or buf at 0 = get_or-take end buf at 0 h in
    rw (add-one, sym e) (drop-cons (take end buf) at 0 (omega (arith, length-take end buf)))

pub going_start : (held buf : List ℕ) (r : Reader) → Within r (length buf) → length held ≡ 33 → Going held buf r held r.at r.len
going_start held buf r w k = record {
  from = omega arith;
  to = w.at;
  within = w.end;
  enough = omega arith;
  len_most = w.len;
  size = k;
  rest = λ more. let all : r.left ≡ r.left - (r.at - r.at) = omega arith in ap (λ (n : ℕ). handed (take r.len held) n (drop r.at (take r.end buf) ++ more)) all;
}

module _ (r : Reader) (held₀ buf held : List ℕ) (at len : ℕ) (g : Going held₀ buf r held at len) where
  -- how many may still come, here and behind one more byte
  abbrev left : ℕ
  left = r.left - (at - r.at)

  less : at < r.at + r.left → left - 1 ≡ r.left - (at + 1 - r.at)
  less h = omega (arith, g.from)

  pub going_byte : (held' : List ℕ) (len' : ℕ) → at < r.end → at < r.at + r.left → (get_or buf at 0 ≡ 10 → ⊥) → len' ≤ 33 → length held' ≡ 33 → take len' held' ≡ pushed (take len held) (get_or buf at 0)
      → Going held₀ buf r held' (at + 1) len'
  going_byte held' len' t z b k l p = record {
    from = omega (arith, g.from);
    to = omega arith;
    within = g.within;
    enough = omega arith;
    len_most = k;
    size = l;
    rest = λ more. g.rest more ∙ ap (λ (bs : List ℕ). handed (take len held) left (bs ++ more)) (next_byte buf at r.end t g.within)
        ∙ handed_byte (take len held) left (get_or buf at 0) (drop (at + 1) (take r.end buf) ++ more) (omega (arith, g.from)) b
        ∙ (λ i. handed (sym p i) (less z i) (drop (at + 1) (take r.end buf) ++ more));
  }

  pub took_line : at < r.end → at < r.at + r.left → get_or buf at 0 ≡ 10
      → Took r held₀ buf (record { at = at + 1; end = r.end; len = len; left = r.left - (at + 1 - r.at); status = Line }) held
  took_line t z b = record {
    within = record { at = omega arith; end = g.within; len = g.len_most };
    size = g.size;
    end = refl;
    falls = omega (arith, g.from);
    moved = λ l. omega (arith, g.from);
    goes = λ more. g.rest more ∙ ap (λ (bs : List ℕ). handed (take len held) left (bs ++ more)) (next_byte buf at r.end t g.within)
        ∙ handed_line (take len held) left (get_or buf at 0) (drop (at + 1) (take r.end buf) ++ more) (omega (arith, g.from)) b
        ∙ ap (λ (n : ℕ). take len held ∷ handed [] n (drop (at + 1) (take r.end buf) ++ more)) (less z);
  }

  module _ (stop : ℕ) (e : stop ≡ at) where
    pub took_over : at < r.end → r.at + r.left ≤ at → Took r held₀ buf (record { at = stop; end = r.end; len = len; left = r.left - (stop - r.at); status = Over }) held
    took_over t z = rw e (record {
      within = record { at = g.to; end = g.within; len = g.len_most };
      size = g.size;
      end = refl;
      falls = omega (arith, g.from, g.enough);
      moved = λ l. cc;
      goes = λ more. g.rest more ∙ ap (λ (bs : List ℕ). handed (take len held) left (bs ++ more)) (next_byte buf at r.end t g.within)
          ∙ handed_over (take len held) left (get_or buf at 0) (drop (at + 1) (take r.end buf) ++ more) (omega arith);
    })

    pub took_all : r.end ≤ at → Took r held₀ buf (record { at = stop; end = r.end; len = len; left = r.left - (stop - r.at); status = More }) held
    took_all t =
        let none : drop at (take r.end buf) ≡ [] = drop_of_length-le (take r.end buf) {i = at} (omega (arith, length-take r.end buf)) in
        rw e (record {
          within = record { at = g.to; end = g.within; len = g.len_most };
          size = g.size;
          end = refl;
          falls = omega (arith, g.from, g.enough);
          moved = λ l. cc;
          goes = (none, λ more. g.rest more ∙ ap (λ (bs : List ℕ). handed (take len held) left (bs ++ more)) none);
        })

-- ---- reading on

-- what the reads so far come to, whatever bytes follow, where they brought these
abbrev pub Way : Status → List ℕ → ℕ → List ℕ → List ℕ → List ℕ → ℕ → List ℕ → Type 0
Way More held left bytes brought held' left' bytes' = (bytes' ≡ []) × ((more : List ℕ) → handed held left (bytes ++ (brought ++ more)) ≡ handed held' left' more)
Way Line held left bytes brought held' left' bytes' = (more : List ℕ) → handed held left (bytes ++ (brought ++ more)) ≡ held' ∷ handed [] left' (bytes' ++ more)
Way Last held left bytes brought held' left' bytes' = ⊥
Way Over held left bytes brought held' left' bytes' = (more : List ℕ) → handed held left (bytes ++ (brought ++ more)) ≡ []

pub record Reached (r : Reader) (held buf : List ℕ) (s : Reader) (held' buf' : List ℕ) : Type 0 where
  pub within : Within s 512
  pub size : length held' ≡ 33
  pub space : length buf' ≡ 512
  pub falls : s.left ≤ r.left
  pub less : s.status ≡ Line → s.left < r.left
  pub brought : List ℕ
  pub goes : Way s.status (held_in r held) r.left (bytes_in r buf) brought (held_in s held') s.left (bytes_in s buf')

module _ (held : List ℕ) (left : ℕ) (bytes : List ℕ) (held' : List ℕ) (left' : ℕ) (bytes' : List ℕ) where
  first_way : (st : Status) → Goes st held left bytes held' left' bytes' → Way st held left bytes [] held' left' bytes'
  first_way More g = g
  first_way Line g = g
  first_way Last g = g
  first_way Over g = g

  way_found : (st : Status) (brought : List ℕ) → is_more st ≡ false → Way st held left bytes brought held' left' bytes'
      → Found st held left bytes brought held' left' bytes'
  way_found More brought e w = absurd (true≢false e)
  way_found Line brought e w = w
  way_found Last brought e w = absurd w
  way_found Over brought e w = rw (append-nil brought) at (w [])

  way_more : (st : Status) (brought : List ℕ) → is_more st ≡ true → Way st held left bytes brought held' left' bytes'
      → (more : List ℕ) → handed held left (bytes ++ (brought ++ more)) ≡ handed held' left' more
  way_more More brought e w = w.1
  way_more Line brought e w = absurd (true≢false (sym e))
  way_more Last brought e w = absurd (true≢false (sym e))
  way_more Over brought e w = absurd (true≢false (sym e))

  module _ (brought : List ℕ) (way : (more : List ℕ) → handed held left (bytes ++ (brought ++ more)) ≡ handed held' left' more) (new : List ℕ) where
    further : (more : List ℕ) → handed held left (bytes ++ ((brought ++ new) ++ more)) ≡ handed held' left' (new ++ more)
    further more = ap (λ (bs : List ℕ). handed held left (bytes ++ bs)) (append_assoc brought new more) ∙ way (new ++ more)

    next_way : (held'' : List ℕ) (left'' : ℕ) (bytes'' : List ℕ) (st : Status) → Goes st held' left' new held'' left'' bytes''
        → Way st held left bytes (brought ++ new) held'' left'' bytes''
    next_way held'' left'' bytes'' More g = (g.0, λ more. further more ∙ g.1 more)
    next_way held'' left'' bytes'' Line g = λ more. further more ∙ g more
    next_way held'' left'' bytes'' Last g = g
    next_way held'' left'' bytes'' Over g = λ more. further more ∙ g more

pub reached_first : (r : Reader) (held buf : List ℕ) (s : Reader) (held' : List ℕ) → length buf ≡ 512 → Took r held buf s held' → Reached r held buf s held' buf
reached_first r held buf s held' k t = record {
  within = record { at = t.within.at; end = omega (arith, t.within.end, k); len = t.within.len };
  size = t.size;
  space = k;
  falls = omega (arith, t.falls);
  less = λ e. omega (arith, t.falls, t.moved e);
  brought = [];
  goes = first_way (held_in r held) r.left (bytes_in r buf) (held_in s held') s.left (bytes_in s buf) s.status t.goes;
}

-- how the bytes of a further read are taken
abbrev pub afresh : Reader → ℕ → Reader
afresh s end = record { at = 0; end = end; len = s.len; left = s.left; status = More }

pub reached_again : (r : Reader) (held buf : List ℕ) (s : Reader) (held' buf' : List ℕ) (end : ℕ) (buf'' : List ℕ) (s' : Reader) (held'' : List ℕ)
    → Reached r held buf s held' buf' → is_more s.status ≡ true → length buf'' ≡ 512 → Took (afresh s end) held' buf'' s' held''
    → Reached r held buf s' held'' buf''
reached_again r held buf s held' buf' end buf'' s' held'' x e k t = record {
  within = record { at = t.within.at; end = omega (arith, t.within.end, k); len = t.within.len };
  size = t.size;
  space = k;
  falls = omega (arith, t.falls, x.falls);
  less = λ l. omega (arith, t.falls, t.moved l, x.falls);
  brought = x.brought ++ take end buf'';
  goes = next_way (held_in r held) r.left (bytes_in r buf) (held_in s held') s.left (bytes_in s buf') x.brought
      (way_more (held_in r held) r.left (bytes_in r buf) (held_in s held') s.left (bytes_in s buf') s.status x.brought e x.goes)
      (take end buf'') (held_in s' held'') s'.left (bytes_in s' buf'') s'.status t.goes;
}

-- a read that brings bytes takes off what may still come, or the line ends with it
abbrev pub goes_on : Status → ℕ
goes_on More = 1
goes_on Line = 0
goes_on Last = 0
goes_on Over = 0

fewer : (st : Status) (held : List ℕ) (left : ℕ) (bytes held' : List ℕ) (left' : ℕ) (bytes' : List ℕ)
    → Goes st held left bytes held' left' bytes' → left' ≤ left → (bytes' ≡ [] → left' < left) → left' + goes_on st < left + 1
fewer More held left bytes held' left' bytes' g k h = omega (arith, h g.0)
fewer Line held left bytes held' left' bytes' g k h = omega arith
fewer Last held left bytes held' left' bytes' g k h = omega arith
fewer Over held left bytes held' left' bytes' g k h = omega arith

goes_on_one : (st : Status) → is_more st ≡ true → goes_on st ≡ 1
goes_on_one More e = refl
goes_on_one Line e = absurd (true≢false (sym e))
goes_on_one Last e = absurd (true≢false (sym e))
goes_on_one Over e = absurd (true≢false (sym e))

pub took_fewer : (s : Reader) (end : ℕ) (held buf : List ℕ) (s' : Reader) (held' : List ℕ) → is_more s.status ≡ true → (end ≡ 0 → ⊥)
    → Took (afresh s end) held buf s' held' → s'.left + goes_on s'.status < s.left + goes_on s.status
took_fewer s end held buf s' held' e h t =
    rw (goes_on_one s.status e) (fewer s'.status (held_in s held) s.left (take end buf) (held_in s' held') s'.left (bytes_in s' buf) t.goes
    (omega (arith, t.falls))
    (λ z. omega (
      arith,
      h,
      t.falls,
      t.end,
      t.within.at,
      t.within.end,
      ap (λ (l : List ℕ). length l) z,
      length-drop s'.at (take s'.end buf),
      length-take s'.end buf,
    )))

-- ---- the end of the input

last_none : (l : List ℕ) → length l ≡ 0 → last l ≡ []
last_none [] e = refl
last_none (x ∷ xs) e = absurd (omega arith)

last_some : (l : List ℕ) → 0 < length l → last l ≡ l ∷ []
last_some [] h = absurd (omega arith)
last_some (x ∷ xs) h = refl

module _ (r : Reader) (held buf : List ℕ) (s : Reader) (held' buf' buf'' : List ℕ) (x : Reached r held buf s held' buf') where
  pub next_found : is_more s.status ≡ false → Next r held buf s held' buf'
  next_found e = record {
    within = x.within;
    size = x.size;
    space = x.space;
    falls = x.less;
    brought = x.brought;
    goes = way_found (held_in r held) r.left (bytes_in r buf) (held_in s held') s.left (bytes_in s buf') s.status x.brought e x.goes;
  }

  module _ (e : is_more s.status ≡ true) (k : length buf'' ≡ 512) where
    at_last : handed (held_in r held) r.left (bytes_in r buf ++ x.brought) ≡ last (held_in s held')
    unfolding handed
    at_last = rw (append-nil x.brought) at (way_more (held_in r held) r.left (bytes_in r buf) (held_in s held') s.left (bytes_in s buf') s.status x.brought e x.goes [])

    next_ended : (t : Bool) → eqb s.len 0 ≡ t → Next r held buf (cond t
        (record { at = 0; end = 0; len = s.len; left = s.left; status = Over })
        (record { at = 0; end = 0; len = s.len; left = s.left; status = Last })) held' buf''
    next_ended true t = record {
      within = record { at = omega arith; end = omega arith; len = x.within.len };
      size = x.size;
      space = k;
      falls = λ l. absurd (true≢false (sym (ap is_line l)));
      brought = x.brought;
      goes = at_last ∙ last_none (held_in s held') (omega (arith, length-take s.len held', eqb-true s.len 0 t));
    }
    next_ended false t = record {
      within = record { at = omega arith; end = omega arith; len = x.within.len };
      size = x.size;
      space = k;
      falls = λ l. absurd (true≢false (sym (ap is_line l)));
      brought = x.brought;
      goes = at_last ∙ last_some (held_in s held') (omega (arith, length-take s.len held', eqb-false s.len 0 t, x.size));
    }

    pub next_end : (s' : Reader) → s' ≡ end_of s → Next r held buf s' held' buf''
    unfolding end_of
    next_end s' e = rw e (next_ended (eqb s.len 0) refl)

-- ---- from line to line

pub line_status : (st : Status) → is_line st ≡ true → st ≡ Line
line_status More e = absurd (true≢false (sym e))
line_status Line e = refl
line_status Last e = absurd (true≢false (sym e))
line_status Over e = absurd (true≢false (sym e))

pub within_first : (q : Reader) → q ≡ first_reader → Within q 512
within_first q e = rw e (record { at = omega arith; end = omega arith; len = omega arith })

pub within_behind : (q r : Reader) → q ≡ reader_behind r → Within r 512 → Within q 512
within_behind q r e w = rw e (record { at = w.at; end = w.end; len = omega arith })
