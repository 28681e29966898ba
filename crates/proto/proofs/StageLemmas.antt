-- What a step of a reader gives.
use Rattle.std.proofs.Common.{◌≡◌, ℕ, ◌+◌, ◌-◌, ◌<◌, ◌≤◌, Bool, true, false, List, [], ◌∷◌, ◌++◌, length, take, drop, min, Some, None, Option, refl, sym, ap, ◌∙◌, subst, arith, if◌then◌else◌, Result, Ok, Err, OnOk}
use Rattle.std.specs.Prelude.{nat_lt, slice_range}
use Rattle.std.proofs.lemmas.List.{length-drop, drop-drop, take_all, append_assoc, append-nil, take_at, length-append, length-take, drop_all}
use Rattle.std.proofs.lemmas.Bool.Decides.{nat_tests}
use Rattle.proto.specs.Line.{meaning}
use Rattle.proto.specs.declared.block.TheConstants.{MOST_BLOCK_BYTES}
use Rattle.proto.specs.Grammar.{next_turn, turn_of_line, block_turn}
use Rattle.proto.specs.declared.line.TheConstants.{MOST_LINE_BYTES}
use Rattle.proto.specs.Reader.{kept_of, blanked}
use Rattle.proto.specs.Stage.{HasNoNewline, InLine, IsStageOf, IsTurnWithin, OpensBlock, StepGives, TakesPiece}
use Rattle.proto.specs.declared.stage.Stage.{Stage}
use Rattle.proto.specs.declared.turn.Turn.{Turn}
use Rattle.proto.specs.declared.line.Header.{Header}
use Rattle.proto.specs.declared.line.Line.TheVariants.{Whole, Opens}
use Rattle.proto.proofs.GrammarLemmas.{next_line, next_none, kept_plain, kept_line}
use Rattle.proto.proofs.BlockLemmas.{zeros, more_dropped, next_more, kept_more, next_done}

only_line : (line block : List ℕ) (d : ℕ) → InLine line block d → line ++ (zeros d ++ block) ≡ line
only_line line block d i = rw (i.none_dropped, i.no_block) (append-nil line)

abbrev stage : List ℕ → Option ℕ → List ℕ → ℕ → Stage
stage line size block d = record { line = line; block = block; size = size; dropped = d }

-- what follows from a call's Ok
pub on_ok : {T E : Type 0} (r : Result T E) (P Q : Type 0) → (P → Q) → OnOk r P → OnOk r Q
on_ok (Ok x) P Q f h = f h
on_ok (Err e) P Q f h = tt

-- a step that takes all of the piece
pub takes_gives : (bytes piece : List ℕ) (new : Stage) → 0 < length piece → TakesPiece bytes piece new → StepGives bytes piece None (length piece) new
takes_gives bytes piece new some t =
    let all : take (length piece) piece ≡ piece = take_all (length piece) piece (omega arith) in (
      some,
      omega arith,
      ap (λ p. next_turn (bytes ++ p)) all ∙ t.0,
      t.1 ∙ sym (ap (λ p. kept_of (bytes ++ p)) all),
      λ more. absurd (omega arith),
    )

module _ (line block : List ℕ) (d : ℕ) (i : InLine line block d) (piece : List ℕ) where
  pub open_takes : (size : Option ℕ) (new : List ℕ) → HasNoNewline (line ++ piece) → length (line ++ piece) < MOST_LINE_BYTES → new ≡ line ++ piece
      → TakesPiece (line ++ (zeros d ++ block)) piece (stage new size block d)
  open_takes size new h l e =
      let all : (line ++ (zeros d ++ block)) ++ piece ≡ line ++ piece = ap (λ ys. ys ++ piece) (only_line line block d i) in
      let kept : new ++ (zeros d ++ block) ≡ new = rw (i.none_dropped, i.no_block) (append-nil new) in
      (ap next_turn all ∙ next_none (line ++ piece) h l, kept ∙ e ∙ sym (ap kept_of all ∙ kept_plain (line ++ piece) h))

  pub open_gives : (size : Option ℕ) (new : List ℕ) → 0 < length piece → HasNoNewline (line ++ piece) → length (line ++ piece) < MOST_LINE_BYTES → new ≡ line ++ piece
      → StepGives (line ++ (zeros d ++ block)) piece None (length piece) (stage new size block d)
  open_gives size new some h l e = takes_gives (line ++ (zeros d ++ block)) piece (stage new size block d) some (open_takes size new h l e)

  -- the line with its end in the piece
  cut_line : (at : ℕ) → piece ≡ take at piece ++ 10 ∷ drop (at + 1) piece → (line ++ (zeros d ++ block)) ++ piece ≡ (line ++ take at piece) ++ 10 ∷ drop (at + 1) piece
  cut_line at e = ap (λ ys. ys ++ piece) (only_line line block d i) ∙ ap (λ ys. line ++ ys) e ∙ sym (append_assoc line (take at piece) (10 ∷ drop (at + 1) piece))

  pub whole_gives : (size : Option ℕ) (at : ℕ) (turn : Turn) → at < length piece → HasNoNewline (line ++ take at piece) → length (line ++ take at piece) < MOST_LINE_BYTES
      → piece ≡ take at piece ++ 10 ∷ drop (at + 1) piece → meaning (line ++ take at piece) ≡ Whole turn
      → StepGives (line ++ (zeros d ++ block)) piece (Some turn) (at + 1) (stage [] size block d)
  whole_gives size at turn there h l e is = (
    omega arith,
    omega arith,
    ap next_turn (cut_line at e) ∙ next_line (line ++ take at piece) (drop (at + 1) piece) h l ∙ ap (λ m. turn_of_line m (drop (at + 1) piece)) is,
    rw (i.none_dropped, i.no_block) refl,
  )

  pub within_gives : (size : Option ℕ) (at : ℕ) (header : Header) (turn : Turn) → at < length piece → HasNoNewline (line ++ take at piece) → length (line ++ take at piece) < MOST_LINE_BYTES
      → piece ≡ take at piece ++ 10 ∷ drop (at + 1) piece → meaning (line ++ take at piece) ≡ Opens header → IsTurnWithin header (drop (at + 1) piece) (Some turn)
      → StepGives (line ++ (zeros d ++ block)) piece (Some turn) (at + 1 + (header.size + 2)) (stage [] size block d)
  within_gives size at header turn there h l e is (enough, turned) =
      let all_there : at + 1 + (header.size + 2) ≤ length piece = omega (arith, subst (λ n. header.size + 2 ≤ n) (length-drop (at + 1) piece) enough) in (
        omega arith,
        all_there,
        ap next_turn (cut_line at e) ∙ next_line (line ++ take at piece) (drop (at + 1) piece) h l ∙ ap (λ m. turn_of_line m (drop (at + 1) piece)) is
            ∙ not_short (nat_lt (length (drop (at + 1) piece)) (header.size + 2)) (grind (arith, nat_tests, enough)),
        rw (i.none_dropped, i.no_block) refl,
      )
    where
      given : Option (Turn × List ℕ)
      given = Some (block_turn header (take header.size (drop (at + 1) piece)) (slice_range (drop (at + 1) piece) header.size (header.size + 2)), drop (header.size + 2) (drop (at + 1) piece))

      given_is : given ≡ Some (turn, drop (at + 1 + (header.size + 2)) piece)
      given_is = ap (λ t. Some (t, drop (header.size + 2) (drop (at + 1) piece))) (sym turned) ∙ ap (λ rest. Some (turn, rest)) (drop-drop (header.size + 2) (at + 1) piece)

      not_short : (short : Bool) → short ≡ false → (if short then None else given) ≡ Some (turn, drop (at + 1 + (header.size + 2)) piece)
      not_short true e = cc e
      not_short false e = given_is

  pub opens_gives : (at : ℕ) (header : Header) (new : List ℕ) → at < length piece → HasNoNewline (line ++ take at piece) → length (line ++ take at piece) < MOST_LINE_BYTES
      → piece ≡ take at piece ++ 10 ∷ drop (at + 1) piece → meaning (line ++ take at piece) ≡ Opens header → new ≡ (line ++ take at piece) ++ 10 ∷ []
      → StepGives (line ++ (zeros d ++ block)) piece None (at + 1) (stage new (Some header.size) block d)
  opens_gives at header new there h l e is made =
      let front : take (at + 1) piece ≡ take at piece ++ 10 ∷ [] = up_to at there e in
      let all : (line ++ (zeros d ++ block)) ++ take (at + 1) piece ≡ (line ++ take at piece) ++ 10 ∷ [] =
      ap (λ ys. ys ++ take (at + 1) piece) (only_line line block d i) ∙ ap (λ ys. line ++ ys) front ∙ sym (append_assoc line (take at piece) (10 ∷ [])) in
      let mine : new ++ (zeros d ++ block) ≡ (line ++ take at piece) ++ 10 ∷ [] = rw (i.none_dropped, i.no_block) (append-nil new ∙ made) in (
        omega arith,
        omega arith,
        ap next_turn all ∙ next_line (line ++ take at piece) [] h l ∙ ap (λ m. turn_of_line m []) is ∙ none_yet header.size,
        mine ∙ sym (ap kept_of all ∙ kept_line (line ++ take at piece) [] h l ∙ ap (λ m. blanked m (line ++ take at piece) []) is ∙ same_blank header.size),
        λ more. mine ∙ sym all,
      )
    where
      up_to : (at : ℕ) → at < length piece → piece ≡ take at piece ++ 10 ∷ drop (at + 1) piece → take (at + 1) piece ≡ take at piece ++ 10 ∷ []
      up_to at there e = ap (take (at + 1)) (e ∙ sym (append_assoc (take at piece) (10 ∷ []) (drop (at + 1) piece)))
          ∙ take_at (take at piece ++ 10 ∷ []) (drop (at + 1) piece) (at + 1) (length-append (take at piece) (10 ∷ []) ∙ rw (length-take at piece) (grind (arith, nat_tests)))

      none_yet : (size : ℕ) → turn_of_line (Opens header) [] ≡ None
      none_yet size = grind (arith, nat_tests)

      same_blank : (size : ℕ) → blanked (Opens header) (line ++ take at piece) [] ≡ (line ++ take at piece) ++ 10 ∷ []
      same_blank size = by (nat_lt MOST_BLOCK_BYTES header.size)
        where
          text : List ℕ
          text = line ++ take at piece

          least : min header.size 0 ≡ 0
          least = grind (arith, nat_tests)

          by : (big : Bool) → (if big then text ++ 10 ∷ (zeros (min header.size 0) ++ drop header.size []) else text ++ 10 ∷ []) ≡ text ++ 10 ∷ []
          by true = rw (least, drop_all {X = ℕ} header.size [] (omega arith)) refl
          by false = refl

opened : {h k : Header} → Opens h ≡ Opens k → h ≡ k
opened e = cc

-- so many bytes are only counted
abbrev pub skipped : ℕ → ℕ → ℕ → ℕ
skipped size d n = if nat_lt MOST_BLOCK_BYTES size then min (size - d) n else 0

module _ (size : ℕ) (line block : List ℕ) (d : ℕ) (i : IsStageOf (Some size) line block d) where
  abbrev h : Header
  h = i.0

  pub more_takes : (piece : List ℕ) → d + length block + length piece < size + 2
      → TakesPiece (line ++ (zeros d ++ block)) piece (stage line (Some size) (block ++ drop (skipped size d (length piece)) piece) (d + skipped size d (length piece)))
  more_takes piece l = subst
      (λ n. d + length block + length piece < n + 2 → TakesPiece (line ++ (zeros d ++ block)) piece (stage line (Some n) (block ++ drop (skipped n d (length piece)) piece) (d + skipped n d (length piece))))
      i.1 (λ less. (next_more h line block d i.2 piece less, sym (kept_more h line block d i.2 piece))) l

  -- the line without its newline
  text_is : take (length line - 1) line ≡ i.2.text
  text_is = rw (i.2.line_is, length-append i.2.text (10 ∷ [])) (take_at i.2.text (10 ∷ []) (length i.2.text + 1 - 1) (omega arith))

  pub opens : meaning (take (length line - 1) line) ≡ Opens h
  opens = ap meaning text_is ∙ i.2.opens

  pub opens_block : OpensBlock (meaning (take (length line - 1) line))
  opens_block = subst OpensBlock (sym opens) tt

  pub some_line : 0 < length line
  some_line = rw (i.2.line_is, length-append i.2.text (10 ∷ [])) (omega arith)

  module _ (piece : List ℕ) (n : ℕ) (within : n ≤ length piece) where
    counted : more_dropped h d (take n piece) ≡ skipped h.size d n
    counted = ap (λ k. if nat_lt MOST_BLOCK_BYTES h.size then min (h.size - d) k else 0) (length-take n piece ∙ grind (arith, nat_tests))

    pub done_gives : (header : Header) (turn : Turn) (held : List ℕ) → Opens header ≡ meaning (take (length line - 1) line) → 0 < n → d + length block + n ≡ size + 2
        → held ≡ block ++ drop (skipped size d n) (take n piece) → turn ≡ block_turn header (take (length held - 2) held) (drop (length held - 2) held)
        → StepGives (line ++ (zeros d ++ block)) piece (Some turn) n (stage [] None [] 0)
    done_gives header turn held read some exact same is =
        let mine : header ≡ h = opened (read ∙ opens) in
        let done : d + length block + n ≡ h.size + 2 = exact ∙ ap (λ k. k + 2) (sym i.1) in
        let kept : held ≡ block ++ drop (skipped h.size d n) (take n piece) = same ∙ ap (λ k. block ++ drop (skipped k d n) (take n piece)) (sym i.1) in
        let turned : turn ≡ block_turn h (take (length held - 2) held) (drop (length held - 2) held) = is ∙ ap (λ k. block_turn k (take (length held - 2) held) (drop (length held - 2) held)) mine in (
          some,
          within,
          next_done h line block d i.2 piece n done within ∙ rw (counted, sym kept, sym turned) refl,
          refl,
        )
