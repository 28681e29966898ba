-- A piece is read step by step.
use Rattle.std.proofs.Common.{◌≡◌, ℕ, ◌+◌, ◌-◌, ◌<◌, ◌≤◌, Bool, true, false, List, [], ◌∷◌, ◌++◌, length, take, drop, min, Some, None, Option, refl, sym, ap, ◌∙◌, arith, if◌then◌else◌}
use Rattle.std.specs.Prelude.{nat_lt}
use Rattle.std.proofs.lemmas.List.{append_assoc, append-nil, take-append-drop, length-append, length-drop}
use Rattle.std.proofs.lemmas.Bool.Decides.{nat_tests}
use Rattle.proto.specs.declared.block.TheConstants.{MOST_BLOCK_BYTES}
use Rattle.proto.specs.Grammar.{next_turn, is_close}
use Rattle.proto.specs.declared.line.TheConstants.{MOST_LINE_BYTES}
use Rattle.proto.specs.Reader.{kept_of, Reading, ReadsTurns}
use Rattle.proto.specs.Stage.{InBlock, IsStage, IsStageOf, StepGives, SoFar, IsReading, staged, reading}
use Rattle.proto.specs.declared.stage.Stage.{Stage}
use Rattle.proto.specs.declared.turn.Turn.{Turn}
use Rattle.proto.specs.declared.turn.Turn.TheVariants.{Ask, Say, Close}
use Rattle.proto.specs.declared.line.Header.{Header}
use Rattle.proto.proofs.GrammarLemmas.{next_none, kept_plain}
use Rattle.proto.proofs.BlockLemmas.{zeros, next_more, kept_more}

so_far_push : (bytes : List ℕ) (turns : List Turn) (left after : List ℕ) (turn : Turn) → SoFar bytes turns left → next_turn left ≡ Some (turn, after) → is_close turn ≡ false → SoFar bytes (turns ++ turn ∷ []) after
so_far_push bytes [] left after (Close notice) h e c = absurd (let f : true ≡ false = c in cc)
so_far_push bytes [] left after (Say notice) h e c = (after, ap next_turn h ∙ e, refl)
so_far_push bytes [] left after (Ask command quiet) h e c = (after, ap next_turn h ∙ e, refl)
so_far_push bytes (Close notice ∷ turns) left after turn h e c = absurd h
so_far_push bytes (Say notice ∷ turns) left after turn h e c = (h.0, h.1, so_far_push h.0 turns left after turn h.2 e c)
so_far_push bytes (Ask command quiet ∷ turns) left after turn h e c = (h.0, h.1, so_far_push h.0 turns left after turn h.2 e c)

reads_end : (bytes : List ℕ) (turns : List Turn) (left : List ℕ) (new : Reading) → SoFar bytes turns left → next_turn left ≡ None → new.kept ≡ kept_of left → new.closed ≡ false → ReadsTurns bytes turns new
reads_end bytes [] left new h n k c = (ap next_turn h ∙ n, k ∙ ap kept_of (sym h), c)
reads_end bytes (Close notice ∷ turns) left new h n k c = absurd h
reads_end bytes (Say notice ∷ turns) left new h n k c = (h.0, h.1, reads_end h.0 turns left new h.2 n k c)
reads_end bytes (Ask command quiet ∷ turns) left new h n k c = (h.0, h.1, reads_end h.0 turns left new h.2 n k c)

reads_close : (bytes : List ℕ) (turns : List Turn) (left rest : List ℕ) (turn : Turn) (new : Reading) → SoFar bytes turns left → next_turn left ≡ Some (turn, rest) → is_close turn ≡ true → new.kept ≡ [] → new.closed ≡ true
    → ReadsTurns bytes (turns ++ turn ∷ []) new
reads_close bytes [] left rest (Close notice) new h e c k d = (rest, ap next_turn h ∙ e, refl, k, d)
reads_close bytes [] left rest (Say notice) new h e c k d = absurd (let f : false ≡ true = c in cc)
reads_close bytes [] left rest (Ask command quiet) new h e c k d = absurd (let f : false ≡ true = c in cc)
reads_close bytes (Close notice ∷ turns) left rest turn new h e c k d = absurd h
reads_close bytes (Say notice ∷ turns) left rest turn new h e c k d = (h.0, h.1, reads_close h.0 turns left rest turn new h.2 e c k d)
reads_close bytes (Ask command quiet ∷ turns) left rest turn new h e c k d = (h.0, h.1, reads_close h.0 turns left rest turn new h.2 e c k d)

none_at_stage : (size : Option ℕ) (line block : List ℕ) (d : ℕ) → IsStageOf size line block d → next_turn (line ++ (zeros d ++ block)) ≡ None
none_at_stage None line block d i = ap next_turn (rw (i.none_dropped, i.no_block) (append-nil line)) ∙ next_none line i.one_line i.short
none_at_stage (Some size) line block d i = ap next_turn (sym (append-nil (line ++ (zeros d ++ block)))) ∙ next_more i.0 line block d i.2 [] (omega (arith, i.2.partial))

kept_at_stage : (size : Option ℕ) (line block : List ℕ) (d : ℕ) → IsStageOf size line block d → kept_of (line ++ (zeros d ++ block)) ≡ line ++ (zeros d ++ block)
kept_at_stage None line block d i =
    let only : line ++ (zeros d ++ block) ≡ line = rw (i.none_dropped, i.no_block) (append-nil line) in
    ap kept_of only ∙ kept_plain line i.one_line ∙ sym only
kept_at_stage (Some size) line block d i = ap kept_of (sym (append-nil (line ++ (zeros d ++ block)))) ∙ kept_more i.0 line block d i.2 [] ∙ none_more (nat_lt MOST_BLOCK_BYTES h.size)
  where
    h : Header
    h = i.0

    least : min (h.size - d) 0 ≡ 0
    least = grind (arith, nat_tests)

    same : d + 0 ≡ d
    same = omega arith

    none_more : (big : Bool) → line ++ (zeros (d + (if big then min (h.size - d) 0 else 0)) ++ (block ++ drop (if big then min (h.size - d) 0 else 0) [])) ≡ line ++ (zeros d ++ block)
    none_more true = rw (least, same, append-nil block) refl
    none_more false = rw (same, append-nil block) refl

pub begins : (s : Stage) (piece : List ℕ) → IsStage s → IsReading (staged s ++ piece) [] s piece
begins s piece i = record {
  left = staged s;
  so_far = refl;
  none = none_at_stage s.size s.line s.block s.dropped i;
  kept = sym (kept_at_stage s.size s.line s.block s.dropped i);
  same = λ more. refl;
  stage = i;
}

module _ (bytes : List ℕ) (turns : List Turn) (s new : Stage) (unread : List ℕ) (n : ℕ) (r : IsReading bytes turns s unread) (more : 0 < length unread) where
  pub goes_on : StepGives (staged s) unread None n new → IsStage new → IsReading bytes turns new (drop n unread)
  goes_on g i =
      let here : staged s ++ take n unread ≡ r.left ++ take n unread = ap (λ xs. xs ++ take n unread) (r.same more) in
      record {
        left = r.left ++ take n unread;
        so_far = rw (append_assoc r.left (take n unread) (drop n unread), take-append-drop n unread) r.so_far;
        none = ap next_turn (sym here) ∙ g.2;
        kept = g.3 ∙ ap kept_of here;
        same = λ after. g.4 (omega (arith, length-drop n unread)) ∙ here;
        stage = i;
      }

  pub turns_up : (turn : Turn) → StepGives (staged s) unread (Some turn) n new → IsStage new → is_close turn ≡ false → IsReading bytes (turns ++ turn ∷ []) new (drop n unread)
  unfolding next_turn kept_of
  turns_up turn g i stays = record {
    left = [];
    so_far = so_far_push bytes turns (r.left ++ unread) (drop n unread) turn r.so_far (ap (λ xs. next_turn (xs ++ unread)) (sym (r.same more)) ∙ g.2) stays;
    none = refl;
    kept = g.3;
    same = λ after. g.3;
    stage = i;
  }

  pub closes : (turn : Turn) → StepGives (staged s) unread (Some turn) n new → is_close turn ≡ true → ReadsTurns bytes (turns ++ turn ∷ []) (reading new true)
  closes turn g shut = reads_close bytes turns (r.left ++ unread) (drop n unread) turn (reading new true) r.so_far (ap (λ xs. next_turn (xs ++ unread)) (sym (r.same more)) ∙ g.2) shut g.3 refl

pub ends : (bytes : List ℕ) (turns : List Turn) (s : Stage) (unread : List ℕ) → IsReading bytes turns s unread → unread ≡ [] → ReadsTurns bytes turns (reading s false)
ends bytes turns s unread r e = reads_end bytes turns (r.left ++ unread) (reading s false) r.so_far
    (ap (λ xs. next_turn (r.left ++ xs)) e ∙ ap next_turn (append-nil r.left) ∙ r.none)
    (r.kept ∙ sym (ap (λ xs. kept_of (r.left ++ xs)) e ∙ ap kept_of (append-nil r.left))) refl

-- after a Close nothing is kept
pub closed_keeps : (bytes : List ℕ) (turns : List Turn) (new : Reading) → ReadsTurns bytes turns new → new.closed ≡ true → new.kept ≡ []
closed_keeps bytes [] new r c = absurd (let f : false ≡ true = sym r.2 ∙ c in cc)
closed_keeps bytes (Close notice ∷ turns) new r c = r.3
closed_keeps bytes (Say notice ∷ turns) new r c = closed_keeps r.0 turns new r.2 c
closed_keeps bytes (Ask command quiet ∷ turns) new r c = closed_keeps r.0 turns new r.2 c

-- what is kept is at most a line and a block at the limit, with their ends
pub held_within : (s : Stage) → IsStage s → length s.line + length s.block ≤ MOST_BLOCK_BYTES + (MOST_LINE_BYTES + 2)
held_within s i = by s.size s.line s.block s.dropped i
  where
    by : (size : Option ℕ) (line block : List ℕ) (d : ℕ) → IsStageOf size line block d → length line + length block ≤ MOST_BLOCK_BYTES + (MOST_LINE_BYTES + 2)
    by None line block d i = rw i.no_block (omega (arith, i.short))
    by (Some size) line block d i = rw (i.2.line_is, length-append i.2.text (10 ∷ [])) (in_block i.0 line block d i.2 (nat_lt MOST_BLOCK_BYTES i.0.size) refl)
      where
        in_block : (h : Header) (line block : List ℕ) (d : ℕ) (b : InBlock h line block d) (big : Bool) → nat_lt MOST_BLOCK_BYTES h.size ≡ big → length b.text + 1 + length block ≤ MOST_BLOCK_BYTES + (MOST_LINE_BYTES + 2)
        in_block h line block d b true is = some block d b.partial (b.blank is) b.short
          where
            some : (block : List ℕ) (d : ℕ) → d + length block < h.size + 2 → (0 < length block → d ≡ h.size) → length b.text < MOST_LINE_BYTES → length b.text + 1 + length block ≤ MOST_BLOCK_BYTES + (MOST_LINE_BYTES + 2)
            some [] d l f g = omega arith
            some (x ∷ xs) d l f g = omega (arith, f (omega arith))
        in_block h line block d b false is = grind (arith, nat_tests, b.kept is, b.partial, b.short)
