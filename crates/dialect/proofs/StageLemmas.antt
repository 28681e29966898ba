-- What a step of a reader gives.
use Rattle.std.proofs.Common.{◌≡◌, ℕ, ◌+◌, ◌-◌, ◌<◌, ◌≤◌, true, false, List, [], ◌∷◌, ◌++◌, length, take, drop, Option, refl, sym, ap, ◌∙◌, subst, arith, min, if◌then◌else◌, Result, Ok, Err, OnOk}
use Rattle.std.specs.Result.{is_ok}
use Rattle.std.specs.Option.{option_to_list}
use Rattle.std.proofs.lemmas.List.{take_all, take_at, append_assoc, append-nil, length-append, length-take, take-append-drop}
use Rattle.std.proofs.lemmas.Bool.Decides.{nat_tests}
use Rattle.dialect.specs.declared.line.Opening.{Opening}
use Rattle.dialect.specs.Meaning.{meaning, block_turn}
use Rattle.dialect.specs.State.{State, state_at, to, start, read_bytes, Runs, IsReaderState}
use Rattle.proto.specs.Stage.{HasNoNewline}
use Rattle.dialect.specs.Stage.{starts_binary, EndsNothing, IsPartRead, CutsLine, IsBlockOf, IsUnreadOf}
use Rattle.dialect.specs.declared.line.TheConstants.{MOST_LINE_BYTES}
use Rattle.dialect.specs.declared.turn.Notice.TheVariants as notice
use Rattle.dialect.specs.declared.turn.Turn.{Turn}
use Rattle.dialect.specs.declared.turn.Turn.TheVariants.{Close}
use Rattle.dialect.specs.declared.part.Part.{Part}
use Rattle.dialect.specs.declared.part.Part.TheVariants as part
use Rattle.dialect.specs.declared.stage.Cut.TheVariants.{End, TooLong, Open}
use Rattle.dialect.proofs.MeaningLemmas.{meaning_within}
use Rattle.dialect.proofs.RunLemmas.{run_none, run_closed, run_line, run_end, run_long, run_binary, run_block, run_whole_block, run_unread, run_all_unread, runs_by, runs_on, starts_take, is_128}

take_whole : (xs : List ℕ) → take (length xs) xs ≡ xs
take_whole xs = take_all (length xs) xs (omega arith)

-- what follows if a call is Ok
pub on_ok : {T E : Type 0} (r : Result T E) (now more same : List ℕ) (Q : Type 0) → now ≡ (if is_ok r then more else same) → (now ≡ more → Q) → OnOk r Q
on_ok (Ok x) now more same Q e f = f e
on_ok (Err x) now more same Q e f = tt

-- A piece that ends nothing.

pub line_goes_on : (held piece : List ℕ) → EndsNothing part.Line held piece → read_bytes (state_at part.Line held) piece ≡ to [] (state_at part.Line (held ++ piece))
line_goes_on held piece g = run_line held piece g.0 g.1 g.2

pub block_goes_on : (h : Opening) (held piece : List ℕ) → EndsNothing (part.Block h) held piece → read_bytes (state_at (part.Block h) held) piece ≡ to [] (state_at (part.Block h) (held ++ piece))
block_goes_on h held piece g = run_block h held piece g

pub unread_goes_on : (left : ℕ) (turn : Option Turn) (held piece : List ℕ) → held ≡ [] → EndsNothing (part.Unread left turn) held piece
    → read_bytes (state_at (part.Unread left turn) held) piece ≡ to [] (state_at (part.Unread (left - length piece) turn) held)
unread_goes_on left turn held piece e g =
    ap (λ (ys : List ℕ). read_bytes (state_at (part.Unread left turn) ys) piece) e ∙ run_unread left turn piece g ∙ ap (λ (ys : List ℕ). to [] (state_at (part.Unread (left - length piece) turn) ys)) (sym e)

pub closed_goes_on : (held piece : List ℕ) → held ≡ [] → read_bytes (state_at part.Closed held) piece ≡ to [] (state_at part.Closed held)
closed_goes_on held piece e =
    ap (λ (ys : List ℕ). read_bytes (state_at part.Closed ys) piece) e ∙ run_closed piece ∙ ap (λ (ys : List ℕ). to [] (state_at part.Closed ys)) (sym e)

-- the same, if the part is known by an equation
pub line_extends : (p : Part) (held piece now : List ℕ) → p ≡ part.Line → EndsNothing p held piece → now ≡ held ++ piece → read_bytes (state_at p held) piece ≡ to [] (state_at p now)
line_extends p held piece now is g e =
    subst (λ (q : Part). read_bytes (state_at q held) piece ≡ to [] (state_at q now)) (sym is)
    (line_goes_on held piece (subst (λ (q : Part). EndsNothing q held piece) is g) ∙ ap (λ (ys : List ℕ). to [] (state_at part.Line ys)) (sym e))

pub block_extends : (p : Part) (h : Opening) (held piece now : List ℕ) → p ≡ part.Block h → EndsNothing p held piece → now ≡ held ++ piece → read_bytes (state_at p held) piece ≡ to [] (state_at p now)
block_extends p h held piece now is g e =
    subst (λ (q : Part). read_bytes (state_at q held) piece ≡ to [] (state_at q now)) (sym is)
    (block_goes_on h held piece (subst (λ (q : Part). EndsNothing q held piece) is g) ∙ ap (λ (ys : List ℕ). to [] (state_at (part.Block h) ys)) (sym e))

pub unread_short : (p : Part) (left : ℕ) (turn : Option Turn) (held piece : List ℕ) → p ≡ part.Unread left turn → EndsNothing p held piece → length piece < left
unread_short p left turn held piece is g = subst (λ (q : Part). EndsNothing q held piece) is g

pub unread_extends : (p : Part) (left now : ℕ) (turn : Option Turn) (held piece : List ℕ) → p ≡ part.Unread left turn → IsReaderState (state_at p held) → EndsNothing p held piece → now ≡ left - length piece
    → read_bytes (state_at p held) piece ≡ to [] (state_at (part.Unread now turn) held)
unread_extends p left now turn held piece is within g e =
    let in_unread : IsReaderState (state_at (part.Unread left turn) held) = subst (λ (q : Part). IsReaderState (state_at q held)) is within in
    subst (λ (q : Part). read_bytes (state_at q held) piece ≡ to [] (state_at (part.Unread now turn) held)) (sym is)
    (unread_goes_on left turn held piece in_unread.1 (unread_short p left turn held piece is g) ∙ ap (λ (n : ℕ). to [] (state_at (part.Unread n turn) held)) (sym e))

pub closed_extends : (p : Part) (held piece : List ℕ) → p ≡ part.Closed → IsReaderState (state_at p held) → read_bytes (state_at p held) piece ≡ to [] (state_at p held)
closed_extends p held piece is within =
    let none : held ≡ [] = subst (λ (q : Part). IsReaderState (state_at q held)) is within in
    subst (λ (q : Part). read_bytes (state_at q held) piece ≡ to [] (state_at q held)) (sym is) (closed_goes_on held piece none)

-- the first byte of the binary protocol
pub binary_held : (held piece : List ℕ) → starts_binary held piece ≡ true → held ≡ []
binary_held held [] e = absurd (let f : false ≡ true = e in cc)
binary_held [] (b ∷ piece) e = refl
binary_held (c ∷ held) (b ∷ piece) e = absurd (let f : false ≡ true = e in cc)

binary_first : (held piece : List ℕ) → starts_binary held piece ≡ true → read_bytes (state_at part.Line held) (take 1 piece) ≡ to (Close notice.Binary ∷ []) (state_at part.Closed [])
binary_first held [] e = absurd (let f : false ≡ true = e in cc)
binary_first [] (b ∷ piece) e =
    let is : 128 ≡ b = is_128 b e in
    subst (λ (c : ℕ). read_bytes start (c ∷ []) ≡ to (Close notice.Binary ∷ []) (state_at part.Closed [])) is (run_binary [])
binary_first (c ∷ held) (b ∷ piece) e = absurd (let f : false ≡ true = e in cc)

module _ (held piece : List ℕ) (before after : List Turn) where
  pub binary_runs : starts_binary held piece ≡ true → after ≡ before ++ Close notice.Binary ∷ [] → Runs (state_at part.Line held) (take 1 piece) before after (state_at part.Closed held)
  binary_runs q t = runs_by _ _ before after _ (to (Close notice.Binary ∷ []) (state_at part.Closed [])) (binary_first held piece q) t (ap (λ (ys : List ℕ). state_at part.Closed ys) (binary_held held piece q))

  -- all of the piece is on the line
  pub open_runs : starts_binary held piece ≡ false → HasNoNewline piece → length held + length piece < MOST_LINE_BYTES → after ≡ before
      → Runs (state_at part.Line held) (take (length piece) piece) before after (state_at part.Line (held ++ piece))
  open_runs q h l t = subst (λ (ys : List ℕ). Runs (state_at part.Line held) ys before after (state_at part.Line (held ++ piece))) (sym (take_whole piece))
      (runs_by _ _ before after _ _ (run_line held piece q h l) (t ∙ sym (append-nil before)) refl)

  pub long_runs : (n : ℕ) → starts_binary held piece ≡ false → 0 < n → n ≤ length piece → HasNoNewline (take n piece) → length held + n ≡ MOST_LINE_BYTES → after ≡ before ++ Close notice.LineTooLong ∷ []
      → Runs (state_at part.Line held) (take n piece) before after (state_at part.Closed [])
  long_runs n q some m h l t =
      let count : length (take n piece) ≡ n = rw (length-take n piece) (grind (arith, nat_tests)) in
      runs_by _ _ before after _ _ (run_long held (take n piece) (starts_take held piece n q) h (omega (arith, count, some)) (omega (arith, count, l))) t refl

  -- the line and its end
  pub end_runs : (k : ℕ) (new : State) → starts_binary held piece ≡ false → k < length piece → HasNoNewline (take k piece) → length held + k < MOST_LINE_BYTES → piece ≡ take k piece ++ 10 ∷ drop (k + 1) piece
      → after ≡ before ++ (meaning (held ++ take k piece)).turns → new ≡ state_at (meaning (held ++ take k piece)).part []
      → Runs (state_at part.Line held) (take (k + 1) piece) before after new
  end_runs k new q m h l e t n =
      let count : length (take k piece) ≡ k = rw (length-take k piece) (grind (arith, nat_tests)) in
      let front : take (k + 1) piece ≡ take k piece ++ 10 ∷ [] =
      ap (take (k + 1)) (e ∙ sym (append_assoc (take k piece) (10 ∷ []) (drop (k + 1) piece)))
      ∙ take_at (take k piece ++ 10 ∷ []) (drop (k + 1) piece) (k + 1) (length-append (take k piece) (10 ∷ []) ∙ ap (λ i. i + 1) count) in
      subst (λ (ys : List ℕ). Runs (state_at part.Line held) ys before after new) (sym front)
      (runs_by _ _ before after new _ (run_end held (take k piece) (starts_take held piece k q) h (omega (arith, count, l))) t n)

  -- part of a block
  pub block_runs : (h : Opening) (n : ℕ) → n ≤ length piece → length held + n < h.header.size + 2 → after ≡ before
      → Runs (state_at (part.Block h) held) (take n piece) before after (state_at (part.Block h) (held ++ take n piece))
  block_runs h n m l t =
      let count : length (take n piece) ≡ n = rw (length-take n piece) (grind (arith, nat_tests)) in
      runs_by _ _ before after _ _ (run_block h held (take n piece) (omega (arith, count, l))) (t ∙ sym (append-nil before)) refl

  -- the rest of a block
  pub whole_runs : (h : Opening) (n : ℕ) (new : State) → 0 < n → n ≤ length piece → length held + n ≡ h.header.size + 2 → after ≡ before ++ option_to_list (block_turn h (held ++ take n piece)) → new ≡ start
      → Runs (state_at (part.Block h) held) (take n piece) before after new
  whole_runs h n new some m l t e =
      let count : length (take n piece) ≡ n = rw (length-take n piece) (grind (arith, nat_tests)) in
      runs_by _ _ before after new _ (run_whole_block h held (take n piece) (omega (arith, count, some)) (omega (arith, count, l))) t e

  -- all that is not kept
  pub unread_runs : (left : ℕ) (turn : Option Turn) (new : State) → held ≡ [] → 0 < left → left ≤ length piece → after ≡ before ++ option_to_list turn → new ≡ start
      → Runs (state_at (part.Unread left turn) held) (take left piece) before after new
  unread_runs left turn new e some m t n =
      let count : length (take left piece) ≡ left = rw (length-take left piece) (grind (arith, nat_tests)) in
      runs_by _ _ before after new _ (ap (λ (ys : List ℕ). read_bytes (state_at (part.Unread left turn) ys) (take left piece)) e ∙ run_all_unread left turn (take left piece) (omega (arith, count, some)) count) t n

  -- all of a piece that ends nothing
  pub none_runs : (old new : State) → read_bytes old piece ≡ to [] new → after ≡ before → Runs old (take (length piece) piece) before after new
  none_runs old new e t = subst (λ (ys : List ℕ). Runs old ys before after new) (sym (take_whole piece)) (runs_by old piece before after new (to [] new) e (t ∙ sym (append-nil before)) refl)

-- Steps of code: the part is known by an equation.

min_first : (n a b : ℕ) → n ≡ min a b → n ≤ a
min_first n a b e = grind (arith, nat_tests)

min_last : (n a b : ℕ) → n ≡ min a b → n ≤ b
min_last n a b e = grind (arith, nat_tests)

below_all : (held n size : ℕ) → held < size → n ≤ size - held → ¬ (held + n ≡ size) → held + n < size
below_all held n size l m more = omega (arith, l, m, more)

module _ (p : Part) (held piece : List ℕ) (before after : List Turn) where
  pub binary_step : p ≡ part.Line → starts_binary held piece ≡ true → after ≡ before ++ Close notice.Binary ∷ [] → Runs (state_at p held) (take 1 piece) before after (state_at part.Closed held)
  binary_step is q t = subst (λ (q : Part). Runs (state_at q held) (take 1 piece) before after (state_at part.Closed held)) (sym is) (binary_runs held piece before after q t)

  pub open_step : (now : List ℕ) → p ≡ part.Line → starts_binary held piece ≡ false → CutsLine (length held) piece Open → now ≡ held ++ piece → after ≡ before
      → Runs (state_at p held) (take (length piece) piece) before after (state_at p now)
  open_step now is q cut e t =
      subst (λ (q : Part). Runs (state_at q held) (take (length piece) piece) before after (state_at q now)) (sym is)
      (subst (λ (ys : List ℕ). Runs (state_at part.Line held) (take (length piece) piece) before after (state_at part.Line ys)) (sym e) (open_runs held piece before after q cut.0 cut.1 t))

  pub long_step : (n : ℕ) (now : List ℕ) → p ≡ part.Line → starts_binary held piece ≡ false → CutsLine (length held) piece (TooLong n) → now ≡ [] → after ≡ before ++ Close notice.LineTooLong ∷ []
      → Runs (state_at p held) (take n piece) before after (state_at part.Closed now)
  long_step n now is q cut e t =
      subst (λ (q : Part). Runs (state_at q held) (take n piece) before after (state_at part.Closed now)) (sym is)
      (subst (λ (ys : List ℕ). Runs (state_at part.Line held) (take n piece) before after (state_at part.Closed ys)) (sym e) (long_runs held piece before after n q cut.0 cut.1 cut.2 cut.3 t))

  pub end_step : (k : ℕ) (line : List ℕ) (new : State) → p ≡ part.Line → starts_binary held piece ≡ false → CutsLine (length held) piece (End k) → line ≡ held ++ take k piece
      → after ≡ before ++ (meaning line).turns → new ≡ state_at (meaning line).part [] → Runs (state_at p held) (take (k + 1) piece) before after new
  end_step k line new is q cut e t n =
      subst (λ (q : Part). Runs (state_at q held) (take (k + 1) piece) before after new) (sym is)
      (end_runs held piece before after k new q cut.0 cut.1 cut.2 cut.3 (t ∙ ap (λ (ys : List ℕ). before ++ (meaning ys).turns) e) (n ∙ ap (λ (ys : List ℕ). state_at (meaning ys).part []) e))

  -- a block takes no more than its bytes and those of the piece
  now_length : (n : ℕ) (now : List ℕ) → n ≤ length piece → now ≡ held ++ take n piece → length now ≡ length held + n
  now_length n now m e =
      let count : length (take n piece) ≡ n = rw (length-take n piece) (grind (arith, nat_tests)) in
      ap (λ (ys : List ℕ). length ys) e ∙ length-append held (take n piece) ∙ ap (λ (k : ℕ). length held + k) count

  pub block_step_runs : (size n : ℕ) (now : List ℕ) → IsBlockOf size p → IsReaderState (state_at p held) → n ≡ min (size + 2 - length held) (length piece) → now ≡ held ++ take n piece
      → ¬ (length now ≡ size + 2) → after ≡ before → Runs (state_at p held) (take n piece) before after (state_at p now)
  block_step_runs size n now is within least e more t = by p is within
    where
      by : (q : Part) → IsBlockOf size q → IsReaderState (state_at q held) → Runs (state_at q held) (take n piece) before after (state_at q now)
      by part.Line is within = absurd is
      by (part.Block h) is within =
          let short : length held < size + 2 = subst (λ (s : ℕ). length held < s + 2) is within.0 in
          let m : n ≤ length piece = min_last n (size + 2 - length held) (length piece) least in
          let room : n ≤ size + 2 - length held = min_first n (size + 2 - length held) (length piece) least in
          let not_all : ¬ (length held + n ≡ size + 2) = λ same. more (now_length n now m e ∙ same) in
          let l : length held + n < size + 2 = below_all (length held) n (size + 2) short room not_all in
          subst (λ (ys : List ℕ). Runs (state_at (part.Block h) held) (take n piece) before after (state_at (part.Block h) ys)) (sym e)
          (block_runs held piece before after h n m (subst (λ (s : ℕ). length held + n < s + 2) (sym is) l) t)
      by (part.Unread left turn) is within = absurd is
      by part.Closed is within = absurd is

  pub whole_step_runs : (size n : ℕ) (now : List ℕ) (new : State) → IsBlockOf size p → IsReaderState (state_at p held) → n ≡ min (size + 2 - length held) (length piece) → now ≡ held ++ take n piece
      → length now ≡ size + 2 → ((h : Opening) → p ≡ part.Block h → after ≡ before ++ option_to_list (block_turn h now)) → new ≡ start → Runs (state_at p held) (take n piece) before after new
  whole_step_runs size n now new is within least e all t begins = by p is within t
    where
      by : (q : Part) → IsBlockOf size q → IsReaderState (state_at q held) → ((h : Opening) → q ≡ part.Block h → after ≡ before ++ option_to_list (block_turn h now))
          → Runs (state_at q held) (take n piece) before after new
      by part.Line is within t = absurd is
      by (part.Block h) is within t =
          let short : length held < size + 2 = subst (λ (s : ℕ). length held < s + 2) is within.0 in
          let m : n ≤ length piece = min_last n (size + 2 - length held) (length piece) least in
          let l : length held + n ≡ size + 2 = sym (now_length n now m e) ∙ all in
          let some : 0 < n = omega (arith, l, short) in
          whole_runs held piece before after h n new some m (subst (λ (s : ℕ). length held + n ≡ s + 2) (sym is) l)
          (t h refl ∙ ap (λ (ys : List ℕ). before ++ option_to_list (block_turn h ys)) e) begins
      by (part.Unread left turn) is within t = absurd is
      by part.Closed is within t = absurd is

  pub unread_step_runs : (left n : ℕ) (turn : Option Turn) (now : Part) → p ≡ part.Unread n turn → IsUnreadOf left p → IsReaderState (state_at p held) → left ≤ length piece
      → after ≡ before ++ option_to_list turn → now ≡ part.Line → Runs (state_at p held) (take left piece) before after (state_at now held)
  unread_step_runs left n turn now is of within m t e =
      let same : n ≡ left = subst (λ (q : Part). IsUnreadOf left q) is of in
      let state : IsReaderState (state_at (part.Unread n turn) held) = subst (λ (q : Part). IsReaderState (state_at q held)) is within in
      let some : 0 < left = subst (λ (k : ℕ). 0 < k) same state.0 in
      let begins : state_at now held ≡ start = ap (λ (q : Part). state_at q held) e ∙ ap (λ (ys : List ℕ). state_at part.Line ys) state.1 in
      subst (λ (q : Part). Runs (state_at q held) (take left piece) before after (state_at now held)) (sym (is ∙ ap (λ (k : ℕ). part.Unread k turn) same))
      (unread_runs held piece before after left turn (state_at now held) state.1 some m t begins)

  pub closed_step : p ≡ part.Closed → IsReaderState (state_at p held) → after ≡ before → Runs (state_at p held) (take (length piece) piece) before after (state_at p held)
  closed_step is within t = none_runs held piece before after (state_at p held) (state_at p held) (closed_extends p held piece is within) t

-- a line that ended leaves a reader within its limits
pub after_line : (line : List ℕ) (new : State) → new ≡ state_at (meaning line).part [] → IsReaderState new
after_line line new e = subst (λ (s : State). IsReaderState s) (sym e) (meaning_within line)

-- Pieces.

pub reading_begins : (old : State) (piece : List ℕ) (turns : List Turn) → IsReaderState old → turns ≡ [] → IsPartRead old piece turns old piece
reading_begins old piece turns i e = record { front = []; split = refl; runs = runs_by old [] [] turns old (to [] old) (run_none old) e refl; state = i }

pub reading_goes : (old now new : State) (piece left : List ℕ) (before after : List Turn) (n : ℕ) → IsPartRead old piece before now left → Runs now (take n left) before after new → IsReaderState new
    → IsPartRead old piece after new (drop n left)
reading_goes old now new piece left before after n r s i = record {
  front = r.front ++ take n left;
  split = r.split ∙ ap (λ (ys : List ℕ). r.front ++ ys) (sym (take-append-drop n left)) ∙ sym (append_assoc r.front (take n left) (drop n left));
  runs = runs_on old now new r.front (take n left) [] before after r.runs s;
  state = i;
}

pub reading_ends : (old new : State) (piece left : List ℕ) (turns : List Turn) → IsPartRead old piece turns new left → left ≡ [] → Runs old piece [] turns new
reading_ends old new piece left turns r e =
    subst (λ (ys : List ℕ). Runs old ys [] turns new) (sym (r.split ∙ ap (λ (ys : List ℕ). r.front ++ ys) e ∙ append-nil r.front)) r.runs
