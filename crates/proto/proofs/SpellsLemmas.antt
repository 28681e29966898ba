-- What bytes spell is one list of turns, and more bytes only add to it.
use Rattle.std.proofs.Common.{◌≡◌, ℕ, zero, suc, ◌+◌, ◌-◌, ◌<◌, ◌≤◌, Bool, true, false, List, [], ◌∷◌, ◌++◌, length, take, drop, min, Some, None, Option, refl, sym, ap, ◌∙◌, arith, if◌then◌else◌, unwrap_or, inl, inr, subst, ◌⊎◌, ⊎_elim}
use Rattle.std.specs.Prelude.{nat_lt, slice_range, bytes_eq, Contains}
use Rattle.std.specs.List.{list_any, before_first, after_first, position_or_len}
use Rattle.std.proofs.lemmas.List.{append_assoc, append-nil, drop_all, length-append, length-drop, length-take-le, take-append-drop, take-append-le, take_all, drop-append-le, drop-drop}
use Rattle.std.proofs.lemmas.Bool.Decides.{nat_tests}
use Rattle.std.proofs.lemmas.Bool.{cases_lt}
use Rattle.proto.specs.Line.{meaning}
use Rattle.proto.specs.declared.block.TheConstants.{MOST_BLOCK_BYTES}
use Rattle.proto.specs.declared.command.Command.{Command}
use Rattle.proto.specs.Grammar.{next_turn, first_line, is_newline, turn_of_line, block_turn, filled, Spells}
use Rattle.proto.specs.declared.line.TheConstants.{MOST_LINE_BYTES}
use Rattle.proto.specs.Reader.{kept_of, blanked, Reading, ReadsTurns}
use Rattle.proto.specs.Stage.{HasNoNewline}
use Rattle.proto.specs.declared.turn.Turn.{Turn}
use Rattle.proto.specs.declared.turn.Turn.TheVariants.{Ask, Say, Close}
use Rattle.proto.specs.declared.turn.Notice.TheVariants.{LineTooLong, TooLarge, BadChunk}
use Rattle.proto.specs.declared.line.Header.{Header}
use Rattle.proto.specs.declared.line.Line.{Line}
use Rattle.proto.specs.declared.line.Line.TheVariants.{Whole, Opens}
use Rattle.proto.proofs.GrammarLemmas.{next_line, kept_line, kept_plain, next_long, next_none, drop_past}
use Rattle.proto.proofs.BlockLemmas.{zeros, drop_zeros, length_zeros}
use Rattle.proto.proofs.NewlineLemmas.{is_ten}

-- a first line with its end, and what stands after it
pub record Splits (bytes text after : List ℕ) : Type 0 where
  pub is : bytes ≡ text ++ 10 ∷ after
  pub one_line : HasNoNewline text
  pub short : length text < MOST_LINE_BYTES

record SplitsAt (n : ℕ) (bytes : List ℕ) : Type 0 where
  is : bytes ≡ before_first is_newline bytes ++ 10 ∷ after_first is_newline bytes
  one_line : HasNoNewline (before_first is_newline bytes)
  short : length (before_first is_newline bytes) < n

splits_at : (n : ℕ) (bytes : List ℕ) → list_any is_newline (take n bytes) ≡ true → SplitsAt n bytes
splits_at zero bytes h = absurd (let f : false ≡ true = h in cc)
splits_at (suc n) [] h = absurd (let f : false ≡ true = h in cc)
splits_at (suc n) (x ∷ bytes) h = by (λ (k : list_any is_newline (take n bytes) ≡ true). splits_at n bytes k) (is_newline x) refl
  where
    by : (list_any is_newline (take n bytes) ≡ true → SplitsAt n bytes) → (b : Bool) → is_newline x ≡ b → SplitsAt (suc n) (x ∷ bytes)
    by again true e =
        let none : position_or_len is_newline (x ∷ bytes) ≡ 0 = rw e refl in
        let front : before_first is_newline (x ∷ bytes) ≡ [] = ap (λ k. take k (x ∷ bytes)) none in
        let back : after_first is_newline (x ∷ bytes) ≡ bytes = ap (λ k. drop (k + 1) (x ∷ bytes)) none in
        record { is = rw (front, back, is_ten x e) refl; one_line = rw front refl; short = rw front (omega arith) }
    by again false e =
        let rest = again (rw e at h) in
        let more : position_or_len is_newline (x ∷ bytes) ≡ suc (position_or_len is_newline bytes) = rw e (one_more (position_or_len is_newline bytes)) in
        let front : before_first is_newline (x ∷ bytes) ≡ x ∷ before_first is_newline bytes = ap (λ k. take k (x ∷ bytes)) more in
        let back : after_first is_newline (x ∷ bytes) ≡ after_first is_newline bytes = ap (λ k. drop (k + 1) (x ∷ bytes)) more ∙ ap (λ k. drop k (x ∷ bytes)) (suc_more (position_or_len is_newline bytes)) in
        record { is = rw (front, back) (ap (λ xs. x ∷ xs) rest.is); one_line = rw (front, e) rest.one_line; short = rw front (omega (arith, rest.short)) }
      where
        one_more : (k : ℕ) → 1 + k ≡ suc k
        one_more k = omega arith

        suc_more : (k : ℕ) → suc k + 1 ≡ suc (k + 1)
        suc_more k = omega arith

-- a first line, or none
FirstLine : List ℕ → Option (List ℕ × List ℕ) → Type 0
FirstLine bytes None = HasNoNewline (take MOST_LINE_BYTES bytes)
FirstLine bytes (Some line) = Splits bytes line.0 line.1

first_line_is : (bytes : List ℕ) → FirstLine bytes (first_line bytes)
unfolding FirstLine
first_line_is bytes = by (list_any is_newline (take MOST_LINE_BYTES bytes)) refl
  where
    by : (b : Bool) → list_any is_newline (take MOST_LINE_BYTES bytes) ≡ b → FirstLine bytes (if b then Some (before_first is_newline bytes, after_first is_newline bytes) else None)
    by true e = let s = splits_at MOST_LINE_BYTES bytes e in record { is = s.is; one_line = s.one_line; short = s.short }
    by false e = e

-- Either the bytes begin with a line, or not.
pub by_first_line : (bytes : List ℕ) (P : Type 0) → ((text after : List ℕ) → Splits bytes text after → P) → (HasNoNewline (take MOST_LINE_BYTES bytes) → P) → P
unfolding FirstLine
by_first_line bytes P split none = by (first_line bytes) (first_line_is bytes)
  where
    by : (r : Option (List ℕ × List ℕ)) → FirstLine bytes r → P
    by None h = none h
    by (Some line) h = split line.0 line.1 h

abbrev turn_and_rest : Turn → List ℕ → Option (Turn × List ℕ)
turn_and_rest turn rest = Some (turn, rest)

abbrev some_turn : Option (Turn × List ℕ) → Turn × List ℕ
some_turn r = unwrap_or r (Close LineTooLong, [])

-- a whole turn stays one
turn_extends : (line : Line) (after more a : List ℕ) (turn : Turn) → turn_of_line line after ≡ Some (turn, a) → turn_of_line line (after ++ more) ≡ Some (turn, a ++ more)
turn_extends (Whole t) after more a turn e = ap (λ (r : Option (Turn × List ℕ)). let q = some_turn r in Some (q.0, q.1 ++ more)) e
turn_extends (Opens h) after more a turn e = by (nat_lt (length after) (h.size + 2)) refl e
  where
    by : (b : Bool) → nat_lt (length after) (h.size + 2) ≡ b
        → (if b then None else turn_and_rest (block_turn h (take h.size after) (slice_range after h.size (h.size + 2))) (drop (h.size + 2) after)) ≡ Some (turn, a)
        → turn_of_line (Opens h) (after ++ more) ≡ Some (turn, a ++ more)
    by true short is = absurd (let f : None ≡ Some (turn, a) = is in cc)
    by false long is =
        let there : h.size + 2 ≤ length after = grind (arith, nat_tests) in
        let still : nat_lt (length (after ++ more)) (h.size + 2) ≡ false = rw (length-append after more) (grind (arith, nat_tests)) in
        let block : take h.size (after ++ more) ≡ take h.size after = take-append-le h.size after more (omega (arith, there)) in
        let from : drop h.size (after ++ more) ≡ drop h.size after ++ more = drop-append-le h.size after more (omega (arith, there)) in
        let end : slice_range (after ++ more) h.size (h.size + 2) ≡ slice_range after h.size (h.size + 2) =
        ap (take (h.size + 2 - h.size)) from ∙ take-append-le (h.size + 2 - h.size) (drop h.size after) more (rw (length-drop h.size after) (omega (arith, there))) in
        let back : drop (h.size + 2) (after ++ more) ≡ drop (h.size + 2) after ++ more = drop-append-le (h.size + 2) after more there in
        rw (still, block, end, back) (ap (λ (r : Option (Turn × List ℕ)). let q = some_turn r in Some (q.0, q.1 ++ more)) is)

next_short : (bytes : List ℕ) → HasNoNewline (take MOST_LINE_BYTES bytes) → length bytes < MOST_LINE_BYTES → next_turn bytes ≡ None
unfolding next_turn
next_short bytes h l = rw h (grind (arith, nat_tests))

pub next_extends : (bytes more a : List ℕ) (turn : Turn) → next_turn bytes ≡ Some (turn, a) → next_turn (bytes ++ more) ≡ Some (turn, a ++ more)
next_extends bytes more a turn e = by_first_line bytes _
    (λ text after s.
    let here = sym (ap next_turn s.is ∙ next_line text after s.one_line s.short) ∙ e in
    ap next_turn (ap (λ xs. xs ++ more) s.is ∙ append_assoc text (10 ∷ after) more) ∙ next_line text (after ++ more) s.one_line s.short ∙ turn_extends (meaning text) after more a turn here)
    (λ none. elim (cases_lt (length bytes) MOST_LINE_BYTES) [
      | inl short ↦ absurd (let f : None ≡ Some (turn, a) = sym (next_short bytes none short) ∙ e in cc)
      | inr long ↦
          let first : take MOST_LINE_BYTES (bytes ++ more) ≡ take MOST_LINE_BYTES bytes = take-append-le MOST_LINE_BYTES bytes more long in
          next_long (bytes ++ more) (ap (list_any is_newline) first ∙ none) (rw (length-append bytes more) (omega (arith, long)))
          ∙ ap (λ xs. Some (Close LineTooLong, xs)) (drop-append-le MOST_LINE_BYTES bytes more long)
          ∙ ap (λ (r : Option (Turn × List ℕ)). let q = some_turn r in Some (q.0, q.1 ++ more)) (sym (next_long bytes none long) ∙ e)
    ])

-- the bytes of a block above the limit make no difference
same_rest : (size : ℕ) (after p : List ℕ) → drop size ((zeros (min size (length after)) ++ drop size after) ++ p) ≡ drop size (after ++ p)
same_rest size after p = elim (cases_lt size (length after)) [
  | inl more ↦
      let least : min size (length after) ≡ size = grind (arith, nat_tests) in
      let none : size - size ≡ 0 = omega arith in
      rw least (ap (drop size) (append_assoc (zeros size) (drop size after) p) ∙ drop_zeros size size (drop size after ++ p) (omega arith)
      ∙ ap (λ k. drop k (drop size after ++ p)) none ∙ sym (drop-append-le size after p (omega (arith, more))))
  | inr within ↦
      let least : min size (length after) ≡ length after = grind (arith, nat_tests) in
      let nothing : drop size after ≡ [] = drop_all size after within in
      rw (least, nothing, append-nil (zeros (length after))) (drop_zeros (length after) size p within ∙ sym (drop_over after p size within))
]
  where
    drop_over : (xs ys : List ℕ) (n : ℕ) → length xs ≤ n → drop n (xs ++ ys) ≡ drop (n - length xs) ys
    drop_over xs ys n l = ap (λ k. drop k (xs ++ ys)) (together (length xs) n l) ∙ drop_past xs ys (n - length xs)
      where
        together : (m n : ℕ) → m ≤ n → n ≡ m + (n - m)
        together m n l = omega arith

length_blank : (size : ℕ) (after p : List ℕ) → length ((zeros (min size (length after)) ++ drop size after) ++ p) ≡ length (after ++ p)
length_blank size after p = length-append (zeros (min size (length after)) ++ drop size after) p
    ∙ ap (λ k. k + length p) (length_zeros (min size (length after)) (drop size after) ∙ ap (λ k. min size (length after) + k) (length-drop size after) ∙ least size (length after))
    ∙ sym (length-append after p)
  where
    least : (m n : ℕ) → min m n + (n - m) ≡ n
    least m n = grind (arith, nat_tests)

-- A block above the limit is identified by its length and what is behind it.
same_big : (h : Header) (x y : List ℕ) → nat_lt MOST_BLOCK_BYTES h.size ≡ true → length x ≡ length y → drop h.size x ≡ drop h.size y → turn_of_line (Opens h) x ≡ turn_of_line (Opens h) y
same_big h x y big l e =
    let end : slice_range x h.size (h.size + 2) ≡ slice_range y h.size (h.size + 2) = ap (take (h.size + 2 - h.size)) e in
    let back : drop (h.size + 2) x ≡ drop (h.size + 2) y = sym (drop-drop 2 h.size x) ∙ ap (drop 2) e ∙ drop-drop 2 h.size y in
    rw (l, big, end, back) refl

ahead : (text after p : List ℕ) → HasNoNewline text → length text < MOST_LINE_BYTES → (line : Line) → meaning text ≡ line
    → (next_turn (blanked line text after ++ p) ≡ next_turn ((text ++ 10 ∷ after) ++ p)) × (kept_of (blanked line text after ++ p) ≡ kept_of ((text ++ 10 ∷ after) ++ p))
ahead text after p o l (Whole turn) e = (refl, refl)
ahead text after p o l (Opens h) e = by (nat_lt MOST_BLOCK_BYTES h.size) refl
  where
    blank : List ℕ
    blank = zeros (min h.size (length after)) ++ drop h.size after

    turn_at : (x : List ℕ) → next_turn ((text ++ 10 ∷ x) ++ p) ≡ turn_of_line (Opens h) (x ++ p)
    turn_at x = ap next_turn (append_assoc text (10 ∷ x) p) ∙ next_line text (x ++ p) o l ∙ ap (λ m. turn_of_line m (x ++ p)) e

    kept_at : (x : List ℕ) → kept_of ((text ++ 10 ∷ x) ++ p) ≡ blanked (Opens h) text (x ++ p)
    kept_at x = ap kept_of (append_assoc text (10 ∷ x) p) ∙ kept_line text (x ++ p) o l ∙ ap (λ m. blanked m text (x ++ p)) e

    by : (big : Bool) → nat_lt MOST_BLOCK_BYTES h.size ≡ big
        → (next_turn ((if big then text ++ 10 ∷ (zeros (min h.size (length after)) ++ drop h.size after) else text ++ 10 ∷ after) ++ p) ≡ next_turn ((text ++ 10 ∷ after) ++ p))
        × (kept_of ((if big then text ++ 10 ∷ (zeros (min h.size (length after)) ++ drop h.size after) else text ++ 10 ∷ after) ++ p) ≡ kept_of ((text ++ 10 ∷ after) ++ p))
    by false is = (refl, refl)
    by true is =
        let x = zeros (min h.size (length after)) ++ drop h.size after in (
          turn_at (zeros (min h.size (length after)) ++ drop h.size after)
              ∙ same_big h ((zeros (min h.size (length after)) ++ drop h.size after) ++ p) (after ++ p) is (length_blank h.size after p) (same_rest h.size after p) ∙ sym (turn_at after),
          kept_at (zeros (min h.size (length after)) ++ drop h.size after)
              ∙ rw (is, length_blank h.size after p, same_rest h.size after p) refl ∙ sym (kept_at after),
        )

no_line_kept : (bytes : List ℕ) → HasNoNewline (take MOST_LINE_BYTES bytes) → kept_of bytes ≡ bytes
unfolding kept_of
no_line_kept bytes h = rw h refl

-- what is kept of bytes goes on as the bytes do
pub kept_ahead : (bytes p : List ℕ) → (next_turn (kept_of bytes ++ p) ≡ next_turn (bytes ++ p)) × (kept_of (kept_of bytes ++ p) ≡ kept_of (bytes ++ p))
kept_ahead bytes p = by_first_line bytes _
    (λ text after s.
    let kept : kept_of bytes ≡ blanked (meaning text) text after = ap kept_of s.is ∙ kept_line text after s.one_line s.short in
    let both = ahead text after p s.one_line s.short (meaning text) refl in (
      ap (λ xs. next_turn (xs ++ p)) kept ∙ both.0 ∙ ap (λ xs. next_turn (xs ++ p)) (sym s.is),
      ap (λ xs. kept_of (xs ++ p)) kept ∙ both.1 ∙ ap (λ xs. kept_of (xs ++ p)) (sym s.is),
    ))
    (λ none. (ap (λ xs. next_turn (xs ++ p)) (no_line_kept bytes none), ap (λ xs. kept_of (xs ++ p)) (no_line_kept bytes none)))

reads_along : (x y : List ℕ) (turns : List Turn) (new : Reading) → next_turn x ≡ next_turn y → kept_of x ≡ kept_of y → ReadsTurns x turns new → ReadsTurns y turns new
reads_along x y [] new n k r = (sym n ∙ r.0, r.1 ∙ k, r.2)
reads_along x y (Close notice ∷ turns) new n k r = (r.0, sym n ∙ r.1, r.2, r.3, r.4)
reads_along x y (Say notice ∷ turns) new n k r = (r.0, sym n ∙ r.1, r.2)
reads_along x y (Ask command quiet ∷ turns) new n k r = (r.0, sym n ∙ r.1, r.2)

-- What is read of a stream so far, and then of a piece after what was kept, is what is read of the longer stream.
pub reads_on : (fed piece : List ℕ) (turns more : List Turn) (old new : Reading) → ReadsTurns fed turns old → old.closed ≡ false → ReadsTurns (old.kept ++ piece) more new → ReadsTurns (fed ++ piece) (turns ++ more) new
reads_on fed piece [] more old new r o n =
    let here = ap (λ xs. next_turn (xs ++ piece)) r.1 ∙ (kept_ahead fed piece).0 in
    let kept = ap (λ xs. kept_of (xs ++ piece)) r.1 ∙ (kept_ahead fed piece).1 in
    reads_along (old.kept ++ piece) (fed ++ piece) more new here kept n
reads_on fed piece (Close notice ∷ turns) more old new r o n = absurd (let f : true ≡ false = sym r.4 ∙ o in cc)
reads_on fed piece (Say notice ∷ turns) more old new r o n = (r.0 ++ piece, next_extends fed piece r.0 (Say notice) r.1, reads_on r.0 piece turns more old new r.2 o n)
reads_on fed piece (Ask command quiet ∷ turns) more old new r o n = (r.0 ++ piece, next_extends fed piece r.0 (Ask command quiet) r.1, reads_on r.0 piece turns more old new r.2 o n)

-- after a Close more bytes change nothing
pub reads_closed : (fed piece : List ℕ) (turns : List Turn) (old : Reading) → ReadsTurns fed turns old → old.closed ≡ true → ReadsTurns (fed ++ piece) turns old
reads_closed fed piece [] old r c = absurd (let f : false ≡ true = sym r.2 ∙ c in cc)
reads_closed fed piece (Close notice ∷ turns) old r c = (r.0 ++ piece, next_extends fed piece r.0 (Close notice) r.1, r.2, r.3, r.4)
reads_closed fed piece (Say notice ∷ turns) old r c = (r.0 ++ piece, next_extends fed piece r.0 (Say notice) r.1, reads_closed r.0 piece turns old r.2 c)
reads_closed fed piece (Ask command quiet ∷ turns) old r c = (r.0 ++ piece, next_extends fed piece r.0 (Ask command quiet) r.1, reads_closed r.0 piece turns old r.2 c)

-- what is read is what the bytes spell
pub reads_spells : (bytes : List ℕ) (turns : List Turn) (new : Reading) → ReadsTurns bytes turns new → (rest : List ℕ) × Spells bytes turns rest
reads_spells bytes [] new r = (bytes, (r.0, refl))
reads_spells bytes (Close notice ∷ turns) new r = (r.0, (r.1, r.2))
reads_spells bytes (Say notice ∷ turns) new r = let s = reads_spells r.0 turns new r.2 in (s.0, (r.0, r.1, s.1))
reads_spells bytes (Ask command quiet ∷ turns) new r = let s = reads_spells r.0 turns new r.2 in (s.0, (r.0, r.1, s.1))

pub same_turn_and_rest : (t u : Turn) (a b : List ℕ) → turn_and_rest t a ≡ Some (u, b) → (t ≡ u) × (a ≡ b)
same_turn_and_rest t u a b e = (ap (λ (r : Option (Turn × List ℕ)). (some_turn r).0) e, ap (λ (r : Option (Turn × List ℕ)). (some_turn r).1) e)

step_same : (t u : Turn) (a b : List ℕ) (ts us : List Turn) (r s : List ℕ) → turn_and_rest t a ≡ Some (u, b) → (Spells a us s → (ts ≡ us) × (r ≡ s)) → Spells b us s → (t ∷ ts ≡ u ∷ us) × (r ≡ s)
step_same t u a b ts us r s e again q =
    let both = same_turn_and_rest t u a b e in
    let P : List ℕ → Type 0 = λ xs. Spells xs us s in
    let rest = again (subst P (sym both.1) q) in
    (λ i. both.0 i ∷ rest.0 i, rest.1)

-- bytes spell one list of turns, and leave one rest
pub spells_one : (bytes : List ℕ) (ts us : List Turn) (r s : List ℕ) → Spells bytes ts r → Spells bytes us s → (ts ≡ us) × (r ≡ s)
spells_one bytes [] [] r s p q = (refl, p.1 ∙ sym q.1)
spells_one bytes [] (Close m ∷ us) r s p q = absurd (let f : None ≡ Some (Close m, s) = sym p.0 ∙ q.0 in cc)
spells_one bytes [] (Say m ∷ us) r s p q = absurd (let f : None ≡ Some (Say m, q.0) = sym p.0 ∙ q.1 in cc)
spells_one bytes [] (Ask d k ∷ us) r s p q = absurd (let f : None ≡ Some (Ask d k, q.0) = sym p.0 ∙ q.1 in cc)
spells_one bytes (Close n ∷ ts) [] r s p q = absurd (let f : None ≡ Some (Close n, r) = sym q.0 ∙ p.0 in cc)
spells_one bytes (Say n ∷ ts) [] r s p q = absurd (let f : None ≡ Some (Say n, p.0) = sym q.0 ∙ p.1 in cc)
spells_one bytes (Ask c j ∷ ts) [] r s p q = absurd (let f : None ≡ Some (Ask c j, p.0) = sym q.0 ∙ p.1 in cc)
spells_one bytes (Close n ∷ ts) (Close m ∷ us) r s p q =
    let both = same_turn_and_rest (Close n) (Close m) r s (sym p.0 ∙ q.0) in
    let none : ts ≡ us = p.1 ∙ sym q.1 in
    (λ i. both.0 i ∷ none i, both.1)
spells_one bytes (Close n ∷ ts) (Say m ∷ us) r s p q = absurd (let f : Close n ≡ Say m = (same_turn_and_rest (Close n) (Say m) r q.0 (sym p.0 ∙ q.1)).0 in cc)
spells_one bytes (Close n ∷ ts) (Ask d k ∷ us) r s p q = absurd (let f : Close n ≡ Ask d k = (same_turn_and_rest (Close n) (Ask d k) r q.0 (sym p.0 ∙ q.1)).0 in cc)
spells_one bytes (Say n ∷ ts) (Close m ∷ us) r s p q = absurd (let f : Say n ≡ Close m = (same_turn_and_rest (Say n) (Close m) p.0 s (sym p.1 ∙ q.0)).0 in cc)
spells_one bytes (Ask c j ∷ ts) (Close m ∷ us) r s p q = absurd (let f : Ask c j ≡ Close m = (same_turn_and_rest (Ask c j) (Close m) p.0 s (sym p.1 ∙ q.0)).0 in cc)
spells_one bytes (Say n ∷ ts) (Say m ∷ us) r s p q = step_same (Say n) (Say m) p.0 q.0 ts us r s (sym p.1 ∙ q.1) (λ x. spells_one p.0 ts us r s p.2 x) q.2
spells_one bytes (Say n ∷ ts) (Ask d k ∷ us) r s p q = step_same (Say n) (Ask d k) p.0 q.0 ts us r s (sym p.1 ∙ q.1) (λ x. spells_one p.0 ts us r s p.2 x) q.2
spells_one bytes (Ask c j ∷ ts) (Say m ∷ us) r s p q = step_same (Ask c j) (Say m) p.0 q.0 ts us r s (sym p.1 ∙ q.1) (λ x. spells_one p.0 ts us r s p.2 x) q.2
spells_one bytes (Ask c j ∷ ts) (Ask d k ∷ us) r s p q = step_same (Ask c j) (Ask d k) p.0 q.0 ts us r s (sym p.1 ∙ q.1) (λ x. spells_one p.0 ts us r s p.2 x) q.2

-- a turn takes some bytes
line_shorter : (line : Line) (after a : List ℕ) (turn : Turn) → turn_of_line line after ≡ Some (turn, a) → length a ≤ length after
line_shorter (Whole t) after a turn e = let both = same_turn_and_rest t turn after a e in rw both.1 (omega arith)
line_shorter (Opens h) after a turn e = by (nat_lt (length after) (h.size + 2)) e
  where
    by : (b : Bool) → (if b then None else turn_and_rest (block_turn h (take h.size after) (slice_range after h.size (h.size + 2))) (drop (h.size + 2) after)) ≡ Some (turn, a) → length a ≤ length after
    by true is = absurd (let f : None ≡ Some (turn, a) = is in cc)
    by false is =
        let both = same_turn_and_rest (block_turn h (take h.size after) (slice_range after h.size (h.size + 2))) turn (drop (h.size + 2) after) a is in
        rw (sym both.1, length-drop (h.size + 2) after) (omega arith)

pub next_shorter : (bytes a : List ℕ) (turn : Turn) → next_turn bytes ≡ Some (turn, a) → length a < length bytes
next_shorter bytes a turn e = by_first_line bytes _
    (λ text after s.
    let here = sym (ap next_turn s.is ∙ next_line text after s.one_line s.short) ∙ e in
    let less = line_shorter (meaning text) after a turn here in
    rw (s.is, length-append text (10 ∷ after)) (omega (arith, less)))
    (λ none. elim (cases_lt (length bytes) MOST_LINE_BYTES) [
      | inl short ↦ absurd (let f : None ≡ Some (turn, a) = sym (next_short bytes none short) ∙ e in cc)
      | inr long ↦
          let both = same_turn_and_rest (Close LineTooLong) turn (drop MOST_LINE_BYTES bytes) a (sym (next_long bytes none long) ∙ e) in
          rw (sym both.1, length-drop MOST_LINE_BYTES bytes) (omega (arith, long))
    ])

-- any bytes spell some turns
pub spells_some : (n : ℕ) (bytes : List ℕ) → length bytes < n → (turns : List Turn) × (rest : List ℕ) × Spells bytes turns rest
spells_some zero bytes l = absurd (omega arith)
spells_some (suc n) bytes l = by (λ (xs : List ℕ) (k : length xs < n). spells_some n xs k) (next_turn bytes) refl
  where
    by : ((xs : List ℕ) → length xs < n → (turns : List Turn) × (rest : List ℕ) × Spells xs turns rest) → (r : Option (Turn × List ℕ)) → next_turn bytes ≡ r → (turns : List Turn) × (rest : List ℕ) × Spells bytes turns rest
    by again None e = ([], bytes, (e, refl))
    by again (Some (Close m, a)) e = (Close m ∷ [], a, (e, refl))
    by again (Some (Say m, a)) e = let s = again a (omega (arith, next_shorter bytes a (Say m) e)) in (Say m ∷ s.0, s.1, (a, e, s.2))
    by again (Some (Ask c k, a)) e = let s = again a (omega (arith, next_shorter bytes a (Ask c k) e)) in (Ask c k ∷ s.0, s.1, (a, e, s.2))

-- longer bytes spell a list that begins with what the shorter ones spell
pub spells_longer : (bytes more : List ℕ) (ts us : List Turn) (r s : List ℕ) → Spells bytes ts r → Spells (bytes ++ more) us s → (added : List Turn) × (us ≡ ts ++ added)
spells_longer bytes more ts us r s p q =
    let all = spells_ahead bytes more ts r p in
    (all.0, (spells_one (bytes ++ more) us (ts ++ all.0) s all.1 q all.2).0)
  where
    spells_ahead : (bytes more : List ℕ) (ts : List Turn) (r : List ℕ) → Spells bytes ts r → (added : List Turn) × (left : List ℕ) × Spells (bytes ++ more) (ts ++ added) left
    spells_ahead bytes more [] r p = spells_some (suc (length (bytes ++ more))) (bytes ++ more) (omega arith)
    spells_ahead bytes more (Close n ∷ ts) r p = ([], r ++ more, (next_extends bytes more r (Close n) p.0, append-nil ts ∙ p.1))
    spells_ahead bytes more (Say n ∷ ts) r p = let s = spells_ahead p.0 more ts r p.2 in (s.0, s.1, (p.0 ++ more, next_extends bytes more p.0 (Say n) p.1, s.2))
    spells_ahead bytes more (Ask c k ∷ ts) r p = let s = spells_ahead p.0 more ts r p.2 in (s.0, s.1, (p.0 ++ more, next_extends bytes more p.0 (Ask c k) p.1, s.2))

-- ---- a turn at the front has bytes of its own, which spell just it

record LineAlone (line : Line) (rest a : List ℕ) (turn : Turn) : Type 0 where
  own : List ℕ
  is : rest ≡ own ++ a
  alone : turn_of_line line own ≡ Some (turn, [])

line_alone : (line : Line) (rest a : List ℕ) (turn : Turn) → turn_of_line line rest ≡ Some (turn, a) → LineAlone line rest a turn
line_alone (Whole t) rest a turn e =
    let both = same_turn_and_rest t turn rest a e in
    record { own = []; is = both.1; alone = ap (λ (x : Turn). turn_and_rest x []) both.0 }
line_alone (Opens h) rest a turn e = by (nat_lt (length rest) (h.size + 2)) refl e
  where
    by : (b : Bool) → nat_lt (length rest) (h.size + 2) ≡ b
        → (if b then None else turn_and_rest (block_turn h (take h.size rest) (slice_range rest h.size (h.size + 2))) (drop (h.size + 2) rest)) ≡ Some (turn, a)
        → LineAlone (Opens h) rest a turn
    by true short is = absurd (let f : None ≡ Some (turn, a) = is in cc)
    by false long is =
        let own = take (h.size + 2) rest in
        let back = drop (h.size + 2) rest in
        let there : h.size + 2 ≤ length rest = grind (arith, nat_tests) in
        let len : length (take (h.size + 2) rest) ≡ h.size + 2 = length-take-le (h.size + 2) rest there in
        let enough : nat_lt (length (take (h.size + 2) rest)) (h.size + 2) ≡ false = rw len (grind (arith, nat_tests)) in
        let none : drop (h.size + 2) (take (h.size + 2) rest) ≡ [] = drop_all (h.size + 2) (take (h.size + 2) rest) (rw len (omega arith)) in
        let mine : turn_of_line (Opens h) own ≡ Some (block_turn h (take h.size own) (slice_range own h.size (h.size + 2)), []) = rw (enough, none) refl in
        let whole : own ++ back ≡ rest = take-append-drop (h.size + 2) rest in
        let same = same_turn_and_rest (block_turn h (take h.size own) (slice_range own h.size (h.size + 2))) turn back a
        (sym (turn_extends (Opens h) own back [] (block_turn h (take h.size own) (slice_range own h.size (h.size + 2))) mine) ∙ ap (turn_of_line (Opens h)) whole ∙ e) in
        record { own = own; is = sym whole ∙ ap (λ (xs : List ℕ). own ++ xs) same.1; alone = mine ∙ ap (λ (x : Turn). turn_and_rest x []) same.0 }

pub record Alone (bytes a : List ℕ) (turn : Turn) : Type 0 where
  pub own : List ℕ
  pub is : bytes ≡ own ++ a
  pub alone : next_turn own ≡ Some (turn, [])

pub next_alone : (bytes a : List ℕ) (turn : Turn) → next_turn bytes ≡ Some (turn, a) → Alone bytes a turn
next_alone bytes a turn e = by_first_line bytes _
    (λ text after s.
    let here = sym (ap next_turn s.is ∙ next_line text after s.one_line s.short) ∙ e in
    let l = line_alone (meaning text) after a turn here in
    record {
      own = text ++ 10 ∷ l.own;
      is = s.is ∙ ap (λ (xs : List ℕ). text ++ 10 ∷ xs) l.is ∙ sym (append_assoc text (10 ∷ l.own) a);
      alone = next_line text l.own s.one_line s.short ∙ l.alone;
    })
    (λ none. elim (cases_lt (length bytes) MOST_LINE_BYTES) [
      | inl short ↦ absurd (let f : None ≡ Some (turn, a) = sym (next_short bytes none short) ∙ e in cc)
      | inr long ↦
          let both = same_turn_and_rest (Close LineTooLong) turn (drop MOST_LINE_BYTES bytes) a (sym (next_long bytes none long) ∙ e) in
          let front = take MOST_LINE_BYTES bytes in
          let len : length (take MOST_LINE_BYTES bytes) ≡ MOST_LINE_BYTES = length-take-le MOST_LINE_BYTES bytes long in
          let again : take MOST_LINE_BYTES (take MOST_LINE_BYTES bytes) ≡ take MOST_LINE_BYTES bytes = take_whole front MOST_LINE_BYTES (rw len (omega arith)) in
          let nothing : drop MOST_LINE_BYTES (take MOST_LINE_BYTES bytes) ≡ [] = drop_all MOST_LINE_BYTES front (rw len (omega arith)) in
          record {
            own = front;
            is = sym (take-append-drop MOST_LINE_BYTES bytes) ∙ ap (λ (xs : List ℕ). front ++ xs) both.1;
            alone = next_long front (ap (list_any is_newline) again ∙ none) (rw len (omega arith)) ∙ ap (λ (xs : List ℕ). turn_and_rest (Close LineTooLong) xs) nothing ∙ ap (λ (x : Turn). turn_and_rest x []) both.0;
          }
    ])
  where
    take_whole : (xs : List ℕ) (n : ℕ) → length xs ≤ n → take n xs ≡ xs
    take_whole xs n l = take_all n xs l

-- a turn alone is read to its end, and nothing is kept
pub alone_reads : (bytes : List ℕ) (command : Command) (quiet : Bool) → next_turn bytes ≡ Some (Ask command quiet, []) → ReadsTurns bytes (Ask command quiet ∷ []) (record { kept = []; closed = false; held = 0 })
alone_reads bytes command quiet e = ([], e, (next_none [] refl (omega arith), sym (kept_plain [] refl), refl))

-- the bytes of a command alone are no more than a line and a block
line_small : (line : Line) (own : List ℕ) (command : Command) (quiet : Bool) → turn_of_line line own ≡ Some (Ask command quiet, []) → length own ≤ MOST_BLOCK_BYTES + 2
line_small (Whole t) own command quiet e =
    let both = same_turn_and_rest t (Ask command quiet) own [] e in rw both.1 (omega arith)
line_small (Opens h) own command quiet e = by (nat_lt (length own) (h.size + 2)) refl e
  where
    sized : (b : Bool) → (big : Bool) → nat_lt MOST_BLOCK_BYTES h.size ≡ big
        → (if b then (if big then Say TooLarge else Ask (filled h (take h.size own)) h.quiet) else Close BadChunk) ≡ Ask command quiet → h.size ≤ MOST_BLOCK_BYTES
    sized true true is t = absurd (cc t)
    sized true false is t = grind (arith, nat_tests)
    sized false big is t = absurd (cc t)

    by : (b : Bool) → nat_lt (length own) (h.size + 2) ≡ b
        → (if b then None else turn_and_rest (block_turn h (take h.size own) (slice_range own h.size (h.size + 2))) (drop (h.size + 2) own)) ≡ Some (Ask command quiet, [])
        → length own ≤ MOST_BLOCK_BYTES + 2
    by true short is = absurd (let f : None ≡ Some (Ask command quiet, []) = is in cc)
    by false long is =
        let both = same_turn_and_rest (block_turn h (take h.size own) (slice_range own h.size (h.size + 2))) (Ask command quiet) (drop (h.size + 2) own) [] is in
        let small : h.size ≤ MOST_BLOCK_BYTES = sized (bytes_eq (slice_range own h.size (h.size + 2)) (13 ∷ 10 ∷ [])) (nat_lt MOST_BLOCK_BYTES h.size) refl both.0 in
        let none : length (drop (h.size + 2) own) ≡ 0 = ap length both.1 in
        let left : length own - (h.size + 2) ≡ 0 = sym (length-drop (h.size + 2) own) ∙ none in
        omega (arith, small, left)

pub alone_small : (bytes : List ℕ) (command : Command) (quiet : Bool) → next_turn bytes ≡ Some (Ask command quiet, []) → length bytes ≤ MOST_LINE_BYTES + MOST_BLOCK_BYTES + 2
alone_small bytes command quiet e = by_first_line bytes _
    (λ text after s.
    let here = sym (ap next_turn s.is ∙ next_line text after s.one_line s.short) ∙ e in
    let small = line_small (meaning text) after command quiet here in
    let short = s.short in
    rw (s.is, length-append text (10 ∷ after)) (omega (arith, small, short)))
    (λ none. elim (cases_lt (length bytes) MOST_LINE_BYTES) [
      | inl short ↦ absurd (let f : None ≡ Some (Ask command quiet, []) = sym (next_short bytes none short) ∙ e in cc)
      | inr long ↦
          let both = same_turn_and_rest (Close LineTooLong) (Ask command quiet) (drop MOST_LINE_BYTES bytes) [] (sym (next_long bytes none long) ∙ e) in
          absurd (let f : Close LineTooLong ≡ Ask command quiet = both.0 in cc)
    ])

in_front : (x y : Turn) (xs : List Turn) → Contains (x ∷ xs) y → (x ≡ y) ⊎ Contains xs y
in_front x y xs (zero, lt, e) = inl e
in_front x y xs (suc k, lt, e) = inr (k, omega (arith, lt), e)

-- each command that bytes spell has bytes of its own
pub spelled_alone : (bytes : List ℕ) (turns : List Turn) (rest : List ℕ) (command : Command) (quiet : Bool) → Spells bytes turns rest → Contains turns (Ask command quiet) → (own : List ℕ) × (next_turn own ≡ Some (Ask command quiet, []))
spelled_alone bytes [] rest command quiet s (k, lt, e) = absurd (omega (arith, lt))
spelled_alone bytes (Close notice ∷ turns) rest command quiet s c = ⊎_elim
    (λ (same : Close notice ≡ Ask command quiet). absurd (cc same))
    (λ later. absurd (let none = subst (λ (ts : List Turn). Contains ts (Ask command quiet)) s.1 later in omega (arith, none.1)))
    (in_front (Close notice) (Ask command quiet) turns c)
spelled_alone bytes (Say notice ∷ turns) rest command quiet s c = ⊎_elim
    (λ (same : Say notice ≡ Ask command quiet). absurd (cc same))
    (λ later. spelled_alone s.0 turns rest command quiet s.2 later)
    (in_front (Say notice) (Ask command quiet) turns c)
spelled_alone bytes (Ask d k ∷ turns) rest command quiet s c = ⊎_elim
    (λ (same : Ask d k ≡ Ask command quiet).
    let a = next_alone bytes s.0 (Ask command quiet) (s.1 ∙ ap (λ (t : Turn). turn_and_rest t s.0) same) in (a.own, a.alone))
    (λ later. spelled_alone s.0 turns rest command quiet s.2 later)
    (in_front (Ask d k) (Ask command quiet) turns c)
