-- What bytes spell is what a reader gives of them, byte by byte.
use Rattle.std.proofs.Common.{◌≡◌, ℕ, ◌+◌, ◌-◌, ◌<◌, ◌≤◌, Bool, true, false, List, [], ◌∷◌, ◌++◌, length, Option, refl, sym, ap, ◌∙◌, subst, arith, lit<}
use Rattle.std.specs.Prelude.{nat_le}
use Rattle.std.specs.Option.{option_to_list}
use Rattle.std.proofs.lemmas.List.{append_assoc, append-nil, length-append}
use Rattle.std.proofs.lemmas.Bool.{or_parts, or_from}
use Rattle.std.proofs.lemmas.Bool.Decides.{nat_tests}
use Rattle.proto.specs.Grammar.{is_newline}
use Rattle.proto.specs.Stage.{HasNoNewline}
use Rattle.dialect.specs.declared.line.Opening.{Opening}
use Rattle.dialect.specs.Meaning.{meaning, block_turn}
use Rattle.dialect.specs.State.{State, ReaderStep, state_at, to, start, is_binary, and_then, read_bytes, Runs, HoldsWithin}
use Rattle.dialect.specs.Grammar.{IsText, IsOneLine, more_bytes, Spells, part_of_line, part_of_block, line, with_block, unread, closing, too_long, binary, HasRead}
use Rattle.dialect.specs.Stage.{starts_binary}
use Rattle.dialect.specs.declared.line.TheConstants.{MOST_LINE_BYTES}
use Rattle.dialect.specs.declared.turn.Notice.TheVariants as notice
use Rattle.dialect.specs.declared.turn.Turn.{Turn}
use Rattle.dialect.specs.declared.turn.Turn.TheVariants.{Close}
use Rattle.dialect.specs.declared.part.Part.{Part}
use Rattle.dialect.specs.declared.part.Part.TheVariants as part
use Rattle.dialect.proofs.MeaningLemmas.{meaning_within}
use Rattle.dialect.proofs.RunLemmas.{run-append, run_none, run_closed, run_first, run_line, run_end, run_long, run_binary, run_block, run_whole_block, run_unread, run_all_unread, line_goes, line_too_long, line_ends, is_128, is_10, le_yes, le_no}

-- One list is spelled.

not_binary : (text : List ℕ) → IsText text → starts_binary [] text ≡ false
not_binary [] t = refl
not_binary (b ∷ text) t = by (is_binary [] b) refl
  where
    by : (x : Bool) → is_binary [] b ≡ x → x ≡ false
    by true e = absurd (t (sym (is_128 b e)))
    by false e = refl

-- a line and its end, and then more
run_after_line : (text after : List ℕ) → IsOneLine text → read_bytes start (text ++ 10 ∷ after) ≡ and_then (meaning text).turns (read_bytes (state_at (meaning text).part []) after)
run_after_line text after l =
    ap (read_bytes start) (sym (append_assoc text (10 ∷ []) after))
    ∙ run-append start (text ++ 10 ∷ []) after
    ∙ ap (λ (s : ReaderStep). and_then s.turns (read_bytes s.state after)) (run_end [] text (not_binary text l.is_text) l.one_line (omega (arith, l.short)))

turns_after : (text after : List ℕ) → IsOneLine text → (p : Part) → (meaning text).part ≡ p → (s : ReaderStep) → read_bytes (state_at p []) after ≡ s
    → (meaning text).turns ++ s.turns ≡ (read_bytes start (text ++ 10 ∷ after)).turns
turns_after text after l p e s r =
    ap (λ (t : ReaderStep). (meaning text).turns ++ t.turns) (sym r) ∙ ap (λ (q : Part). (meaning text).turns ++ (read_bytes (state_at q []) after).turns) (sym e)
    ∙ sym (ap (λ (t : ReaderStep). t.turns) (run_after_line text after l))

-- a part of what belongs to a line gives nothing
part_gives : (p : Part) (block : List ℕ) → length block < more_bytes p → (read_bytes (state_at p []) block).turns ≡ []
part_gives part.Line block l = absurd (omega arith)
part_gives (part.Block h) block l = ap (λ (s : ReaderStep). s.turns) (run_block h [] block (omega arith))
part_gives (part.Unread n turn) block l = ap (λ (s : ReaderStep). s.turns) (run_unread n turn block l)
part_gives part.Closed block l = absurd (omega arith)

-- some bytes that end at a start, and then more
run_from_start : (s : State) (a b : List ℕ) (ts : List Turn) → read_bytes s a ≡ to ts start → read_bytes s (a ++ b) ≡ and_then ts (read_bytes start b)
run_from_start s a b ts e = run-append s a b ∙ ap (λ (t : ReaderStep). and_then t.turns (read_bytes t.state b)) e

pub spelled_is_run : (bytes : List ℕ) (turns : List Turn) → Spells bytes turns → turns ≡ (read_bytes start bytes).turns
spelled_is_run _ _ (part_of_line text l) = sym (ap (λ (s : ReaderStep). s.turns) (run_line [] text (not_binary text l.is_text) l.one_line (omega (arith, l.short))))
spelled_is_run _ _ (part_of_block text block l e) =
    sym (append-nil (meaning text).turns) ∙ ap (λ (ts : List Turn). (meaning text).turns ++ ts) (sym (part_gives (meaning text).part block e))
    ∙ turns_after text block l (meaning text).part refl (read_bytes (state_at (meaning text).part []) block) refl
spelled_is_run _ _ (line text after turns l e s) =
    ap (λ (ts : List Turn). (meaning text).turns ++ ts) (spelled_is_run after turns s) ∙ turns_after text after l part.Line e (read_bytes start after) refl
spelled_is_run _ _ (with_block text block after turns h l e n s) =
    ap (λ (ts : List Turn). (meaning text).turns ++ (option_to_list (block_turn h block) ++ ts)) (spelled_is_run after turns s)
    ∙ turns_after text (block ++ after) l (part.Block h) e (and_then (option_to_list (block_turn h block)) (read_bytes start after))
    (run_from_start (state_at (part.Block h) []) block after (option_to_list (block_turn h block)) (run_whole_block h [] block (omega arith) (omega arith)))
spelled_is_run _ _ (unread text block after turns n turn l e m s) =
    ap (λ (ts : List Turn). (meaning text).turns ++ (option_to_list turn ++ ts)) (spelled_is_run after turns s)
    ∙ turns_after text (block ++ after) l (part.Unread n turn) e (and_then (option_to_list turn) (read_bytes start after))
    (run_from_start (state_at (part.Unread n turn) []) block after (option_to_list turn) (run_all_unread n turn block (some_bytes text n turn e block m) m))
  where
    some_bytes : (text : List ℕ) (n : ℕ) (turn : Option Turn) → (meaning text).part ≡ part.Unread n turn → (block : List ℕ) → length block ≡ n → 0 < length block
    some_bytes text n turn e block m =
        let within = subst (λ (p : Part). HoldsWithin p []) e (meaning_within text) in
        let some : 0 < n = within.0 in
        omega (arith, some, m)
spelled_is_run _ _ (closing text after l e) =
    sym (append-nil (meaning text).turns) ∙ turns_after text after l part.Closed e (to [] (state_at part.Closed [])) (run_closed after)
spelled_is_run _ _ (too_long text after h n t) = sym (ap (λ (s : ReaderStep). s.turns)
    (run-append start text after
    ∙ ap (λ (s : ReaderStep). and_then s.turns (read_bytes s.state after)) (run_long [] text (not_binary text t) h (omega arith) (omega arith))
    ∙ ap (λ (s : ReaderStep). and_then (Close notice.LineTooLong ∷ []) s) (run_closed after)))
spelled_is_run _ _ (binary after) = sym (ap (λ (s : ReaderStep). s.turns) (run_binary after))

-- Some list is spelled.

no_push : (xs : List ℕ) (b : ℕ) → HasNoNewline xs → is_newline b ≡ false → HasNoNewline (xs ++ b ∷ [])
no_push [] b h e = or_from _ _ e refl
no_push (x ∷ xs) b h e =
    let parts = or_parts _ _ h in
    or_from _ _ parts.0 (no_push xs b parts.1 e)

text_push : (xs : List ℕ) (b : ℕ) → IsText xs → is_binary xs b ≡ false → IsText (xs ++ b ∷ [])
text_push [] b t e = λ same. absurd (let f : true ≡ false = sym (says_128 b same) ∙ e in cc)
  where
    says_128 : (b : ℕ) → b ≡ 128 → is_binary [] b ≡ true
    says_128 b same = grind (arith, nat_tests)
text_push (x ∷ xs) b t e = t

line_push : (text : List ℕ) (b : ℕ) → IsOneLine text → is_binary text b ≡ false → is_newline b ≡ false → length text + 1 < MOST_LINE_BYTES → IsOneLine (text ++ b ∷ [])
line_push text b l q e n = record {
  one_line = no_push text b l.one_line e;
  short = rw (length-append text (b ∷ [])) n;
  is_text = text_push text b l.is_text q;
}

empty_line : IsOneLine []
empty_line = record { one_line = refl; short = lit< tt; is_text = tt }

-- What is left of a stream is spelled, whatever is read of the first line.
record Sound (bytes : List ℕ) : Type 0 where
  in_line : (text : List ℕ) → IsOneLine text → Spells (text ++ bytes) (read_bytes (state_at part.Line text) bytes).turns
  in_block : (text : List ℕ) (h : Opening) (block : List ℕ) → IsOneLine text → (meaning text).part ≡ part.Block h → length block < h.header.size + 2
      → Spells (text ++ 10 ∷ (block ++ bytes)) ((meaning text).turns ++ (read_bytes (state_at (part.Block h) block) bytes).turns)
  in_unread : (text : List ℕ) (n : ℕ) (turn : Option Turn) (skipped : List ℕ) (left : ℕ) → IsOneLine text → (meaning text).part ≡ part.Unread n turn
      → length skipped + left ≡ n → 0 < left → Spells (text ++ 10 ∷ (skipped ++ bytes)) ((meaning text).turns ++ (read_bytes (state_at (part.Unread left turn) []) bytes).turns)

-- the same turns, of the same bytes
spells_as : (a b : List ℕ) (ts us : List Turn) → a ≡ b → ts ≡ us → Spells a ts → Spells b us
spells_as a b ts us e f s = subst (λ (us : List Turn). Spells b us) f (subst (λ (b : List ℕ). Spells b ts) e s)

push_front : (xs : List ℕ) (b : ℕ) (bytes : List ℕ) → (xs ++ b ∷ []) ++ bytes ≡ xs ++ b ∷ bytes
push_front xs b bytes = append_assoc xs (b ∷ []) bytes

module _ (b : ℕ) (bytes : List ℕ) (ih : Sound bytes) where
  -- the line ends
  line_end : (text : List ℕ) → IsOneLine text → (p : Part) → (meaning text).part ≡ p → Spells (text ++ 10 ∷ bytes) ((meaning text).turns ++ (read_bytes (state_at (meaning text).part []) bytes).turns)
  line_end text l part.Line e = subst (λ (p : Part). Spells (text ++ 10 ∷ bytes) ((meaning text).turns ++ (read_bytes (state_at p []) bytes).turns)) (sym e)
      (line text bytes (read_bytes start bytes).turns l e (ih.in_line [] empty_line))
  line_end text l (part.Block h) e = subst (λ (p : Part). Spells (text ++ 10 ∷ bytes) ((meaning text).turns ++ (read_bytes (state_at p []) bytes).turns)) (sym e)
      (ih.in_block text h [] l e (omega arith))
  line_end text l (part.Unread n turn) e = subst (λ (p : Part). Spells (text ++ 10 ∷ bytes) ((meaning text).turns ++ (read_bytes (state_at p []) bytes).turns)) (sym e)
      (let within = subst (λ (p : Part). HoldsWithin p []) e (meaning_within text) in ih.in_unread text n turn [] n l e (omega arith) within.0)
  line_end text l part.Closed e = subst (λ (p : Part). Spells (text ++ 10 ∷ bytes) ((meaning text).turns ++ (read_bytes (state_at p []) bytes).turns)) (sym e)
      (spells_as (text ++ 10 ∷ bytes) (text ++ 10 ∷ bytes) (meaning text).turns _ refl (sym (append-nil (meaning text).turns) ∙ ap (λ (s : ReaderStep). (meaning text).turns ++ s.turns) (sym (run_closed bytes)))
      (closing text bytes l e))

  in_line : (text : List ℕ) → IsOneLine text → (x y z : Bool) → is_binary text b ≡ x → is_newline b ≡ y → nat_le MOST_LINE_BYTES (length text + 1) ≡ z
      → Spells (text ++ b ∷ bytes) (read_bytes (state_at part.Line text) (b ∷ bytes)).turns
  in_line text l true y z q e n = of_binary text q
    where
      of_binary : (text : List ℕ) → is_binary text b ≡ true → Spells (text ++ b ∷ bytes) (read_bytes (state_at part.Line text) (b ∷ bytes)).turns
      of_binary [] q =
          let is : 128 ≡ b = is_128 b q in
          subst (λ (c : ℕ). Spells (c ∷ bytes) (read_bytes start (c ∷ bytes)).turns) is
          (spells_as (128 ∷ bytes) (128 ∷ bytes) (Close notice.Binary ∷ []) _ refl (sym (ap (λ (s : ReaderStep). s.turns) (run_binary bytes))) (binary bytes))
      of_binary (c ∷ text) q = absurd (let f : false ≡ true = q in cc)
  in_line text l false true z q e n =
      let is : 10 ≡ b = is_10 b e in
      subst (λ (c : ℕ). Spells (text ++ c ∷ bytes) (read_bytes (state_at part.Line text) (c ∷ bytes)).turns) is
      (spells_as (text ++ 10 ∷ bytes) (text ++ 10 ∷ bytes) _ _ refl (sym (ap (λ (s : ReaderStep). s.turns) (run_first (state_at part.Line text) 10 bytes _ (line_ends text)))) (line_end text l (meaning text).part refl))
  in_line text l false false true q e n =
      let long : MOST_LINE_BYTES ≤ length text + 1 = le_yes MOST_LINE_BYTES (length text + 1) n in
      let short : length text < MOST_LINE_BYTES = l.short in
      spells_as ((text ++ b ∷ []) ++ bytes) (text ++ b ∷ bytes) (Close notice.LineTooLong ∷ []) _ (push_front text b bytes)
      (sym (ap (λ (s : ReaderStep). s.turns) (run_first (state_at part.Line text) b bytes _ (line_too_long text b q e long) ∙ ap (λ (s : ReaderStep). and_then (Close notice.LineTooLong ∷ []) s) (run_closed bytes))))
      (too_long (text ++ b ∷ []) bytes (no_push text b l.one_line e) (rw (length-append text (b ∷ [])) (omega (arith, long, short))) (text_push text b l.is_text q))
  in_line text l false false false q e n =
      let short : length text + 1 < MOST_LINE_BYTES = le_no MOST_LINE_BYTES (length text + 1) n in
      spells_as ((text ++ b ∷ []) ++ bytes) (text ++ b ∷ bytes) _ _ (push_front text b bytes)
      (sym (ap (λ (s : ReaderStep). s.turns) (run_first (state_at part.Line text) b bytes _ (line_goes text b q e short))))
      (ih.in_line (text ++ b ∷ []) (line_push text b l q e short))

  in_block : (text : List ℕ) (h : Opening) (block : List ℕ) → IsOneLine text → (meaning text).part ≡ part.Block h → length block < h.header.size + 2
      → (x : Bool) → nat_le (h.header.size + 2) (length block + 1) ≡ x
      → Spells (text ++ 10 ∷ (block ++ b ∷ bytes)) ((meaning text).turns ++ (read_bytes (state_at (part.Block h) block) (b ∷ bytes)).turns)
  in_block text h block l e short true n =
      let enough : h.header.size + 2 ≤ length block + 1 = le_yes (h.header.size + 2) (length block + 1) n in
      let whole : length block + 1 ≡ h.header.size + 2 = omega (arith, enough, short) in
      spells_as (text ++ 10 ∷ ((block ++ b ∷ []) ++ bytes)) _ _ _ (ap (λ (ys : List ℕ). text ++ 10 ∷ ys) (push_front block b bytes))
      (ap (λ (s : ReaderStep). (meaning text).turns ++ s.turns) (sym (run_from_start (state_at (part.Block h) block) (b ∷ []) bytes _ (run_whole_block h block (b ∷ []) (lit< tt) whole))))
      (with_block text (block ++ b ∷ []) bytes (read_bytes start bytes).turns h l e (length-append block (b ∷ []) ∙ whole) (ih.in_line [] empty_line))
  in_block text h block l e short false n =
      let more : length block + 1 < h.header.size + 2 = le_no (h.header.size + 2) (length block + 1) n in
      spells_as (text ++ 10 ∷ ((block ++ b ∷ []) ++ bytes)) _ _ _ (ap (λ (ys : List ℕ). text ++ 10 ∷ ys) (push_front block b bytes))
      (ap (λ (s : ReaderStep). (meaning text).turns ++ s.turns) (sym (run-append (state_at (part.Block h) block) (b ∷ []) bytes ∙ ap (λ (s : ReaderStep). and_then s.turns (read_bytes s.state bytes)) (run_block h block (b ∷ []) more))))
      (ih.in_block text h (block ++ b ∷ []) l e (rw (length-append block (b ∷ [])) more))

  in_unread : (text : List ℕ) (n : ℕ) (turn : Option Turn) (skipped : List ℕ) (left : ℕ) → IsOneLine text → (meaning text).part ≡ part.Unread n turn
      → length skipped + left ≡ n → 0 < left → (x : Bool) → nat_le left 1 ≡ x
      → Spells (text ++ 10 ∷ (skipped ++ b ∷ bytes)) ((meaning text).turns ++ (read_bytes (state_at (part.Unread left turn) []) (b ∷ bytes)).turns)
  in_unread text n turn skipped left l e m some true is =
      let few : left ≤ 1 = le_yes left 1 is in
      let one : 1 ≡ left = omega (arith, few, some) in
      spells_as (text ++ 10 ∷ ((skipped ++ b ∷ []) ++ bytes)) _ _ _ (ap (λ (ys : List ℕ). text ++ 10 ∷ ys) (push_front skipped b bytes))
      (ap (λ (s : ReaderStep). (meaning text).turns ++ s.turns) (sym (run_from_start (state_at (part.Unread left turn) []) (b ∷ []) bytes _ (run_all_unread left turn (b ∷ []) (lit< tt) one))))
      (unread text (skipped ++ b ∷ []) bytes (read_bytes start bytes).turns n turn l e (rw (length-append skipped (b ∷ [])) (omega (arith, one, m))) (ih.in_line [] empty_line))
  in_unread text n turn skipped left l e m some false is =
      let more : 1 < left = le_no left 1 is in
      spells_as (text ++ 10 ∷ ((skipped ++ b ∷ []) ++ bytes)) _ _ _ (ap (λ (ys : List ℕ). text ++ 10 ∷ ys) (push_front skipped b bytes))
      (ap (λ (s : ReaderStep). (meaning text).turns ++ s.turns) (sym (run-append (state_at (part.Unread left turn) []) (b ∷ []) bytes ∙ ap (λ (s : ReaderStep). and_then s.turns (read_bytes s.state bytes)) (run_unread left turn (b ∷ []) more))))
      (ih.in_unread text n turn (skipped ++ b ∷ []) (left - 1) l e (rw (length-append skipped (b ∷ [])) (omega (arith, more, m))) (omega (arith, more)))

sound : (bytes : List ℕ) → Sound bytes
sound [] = record {
  in_line = λ text l. spells_as text (text ++ []) [] _ (sym (append-nil text)) (sym (ap (λ (s : ReaderStep). s.turns) (run_none (state_at part.Line text)))) (part_of_line text l);
  in_block = λ text h block l e short.
      spells_as (text ++ 10 ∷ block) _ (meaning text).turns _ (ap (λ (ys : List ℕ). text ++ 10 ∷ ys) (sym (append-nil block)))
      (sym (append-nil (meaning text).turns) ∙ ap (λ (s : ReaderStep). (meaning text).turns ++ s.turns) (sym (run_none (state_at (part.Block h) block))))
      (part_of_block text block l (subst (λ (p : Part). length block < more_bytes p) (sym e) short));
  in_unread = λ text n turn skipped left l e m some.
      spells_as (text ++ 10 ∷ skipped) _ (meaning text).turns _ (ap (λ (ys : List ℕ). text ++ 10 ∷ ys) (sym (append-nil skipped)))
      (sym (append-nil (meaning text).turns) ∙ ap (λ (s : ReaderStep). (meaning text).turns ++ s.turns) (sym (run_none (state_at (part.Unread left turn) []))))
      (part_of_block text skipped l (subst (λ (p : Part). length skipped < more_bytes p) (sym e) (let less : length skipped < n = omega (arith, m, some) in less)));
}
sound (b ∷ bytes) =
    let ih = sound bytes in
    record {
      in_line = λ text l. in_line b bytes ih text l (is_binary text b) (is_newline b) (nat_le MOST_LINE_BYTES (length text + 1)) refl refl refl;
      in_block = λ text h block l e short. in_block b bytes ih text h block l e short (nat_le (h.header.size + 2) (length block + 1)) refl;
      in_unread = λ text n turn skipped left l e m some. in_unread b bytes ih text n turn skipped left l e m some (nat_le left 1) refl;
    }

pub run_is_spelled : (bytes : List ℕ) → Spells bytes (read_bytes start bytes).turns
run_is_spelled bytes = (sound bytes).in_line [] empty_line

pub spells_one : (bytes : List ℕ) (turns others : List Turn) → Spells bytes turns → Spells bytes others → turns ≡ others
spells_one bytes turns others s t = spelled_is_run bytes turns s ∙ sym (spelled_is_run bytes others t)

pub spells_longer : (bytes more : List ℕ) (turns later : List Turn) → Spells bytes turns → Spells (bytes ++ more) later → (added : List Turn) × (later ≡ turns ++ added)
spells_longer bytes more turns later s t = (
  (read_bytes (read_bytes start bytes).state more).turns,
  spelled_is_run (bytes ++ more) later t ∙ ap (λ (r : ReaderStep). r.turns) (run-append start bytes more) ∙ ap (λ (ts : List Turn). ts ++ (read_bytes (read_bytes start bytes).state more).turns) (sym (spelled_is_run bytes turns s)),
)

-- nothing was read
pub none_read : HasRead [] [] start
none_read = record {
  spells = part_of_line [] empty_line;
  all = sym (ap (λ (r : ReaderStep). r.turns) (run_none start));
  stands = sym (ap (λ (r : ReaderStep). r.state) (run_none start));
}

-- a piece after what was read
pub read_on : (fed piece : List ℕ) (before turns : List Turn) (old new : State) → HasRead fed before old → Runs old piece [] turns new → HasRead (fed ++ piece) (before ++ turns) new
read_on fed piece before turns old new h r =
    let next : ReaderStep = read_bytes (read_bytes start fed).state piece in
    let same : read_bytes old piece ≡ next = ap (λ (s : State). read_bytes s piece) h.stands in
    let all : before ++ turns ≡ (read_bytes start (fed ++ piece)).turns =
    ap (λ (ts : List Turn). ts ++ turns) h.all ∙ ap (λ (ts : List Turn). (read_bytes start fed).turns ++ ts) (r.turns ∙ ap (λ (s : ReaderStep). s.turns) same) ∙ sym (ap (λ (s : ReaderStep). s.turns) (run-append start fed piece)) in
    record {
      spells = subst (λ (ts : List Turn). Spells (fed ++ piece) ts) (sym all) (run_is_spelled (fed ++ piece));
      all = all;
      stands = r.state ∙ ap (λ (s : ReaderStep). s.state) same ∙ sym (ap (λ (s : ReaderStep). s.state) (run-append start fed piece));
    }
