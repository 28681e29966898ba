-- What a reader does with many bytes at once.
use Rattle.std.proofs.Common.{◌≡◌, ℕ, zero, suc, ◌+◌, ◌-◌, ◌<◌, ◌≤◌, Bool, true, false, List, [], ◌∷◌, ◌++◌, length, take, Option, refl, sym, ap, ◌∙◌, arith, if◌then◌else◌}
use Rattle.std.specs.Prelude.{nat_lt, nat_le}
use Rattle.std.specs.Option.{option_to_list}
use Rattle.std.proofs.lemmas.List.{append_assoc, append-nil, length-append}
use Rattle.std.proofs.lemmas.Bool.{or_parts}
use Rattle.std.proofs.lemmas.Bool.Decides.{nat_tests}
use Rattle.proto.specs.Grammar.{is_newline}
use Rattle.dialect.specs.declared.line.Opening.{Opening}
use Rattle.dialect.specs.Meaning.{meaning, block_turn}
use Rattle.dialect.specs.State.{State, ReaderStep, state_at, to, start, is_binary, read_byte, and_then, read_bytes, Runs}
use Rattle.proto.specs.Stage.{HasNoNewline}
use Rattle.dialect.specs.Stage.{starts_binary}
use Rattle.dialect.specs.declared.line.TheConstants.{MOST_LINE_BYTES}
use Rattle.dialect.specs.declared.turn.Notice.TheVariants as notice
use Rattle.dialect.specs.declared.turn.Turn.{Turn}
use Rattle.dialect.specs.declared.turn.Turn.TheVariants.{Close}
use Rattle.dialect.specs.declared.part.Part.TheVariants as part

pub chosen : {A : Type 0} (c : Bool) (x y : A) → c ≡ false → (if c then x else y) ≡ y
chosen true x y e = absurd (let f : true ≡ false = e in cc)
chosen false x y e = refl

pub taken : {A : Type 0} (c : Bool) (x y : A) → c ≡ true → (if c then x else y) ≡ x
taken true x y e = refl
taken false x y e = absurd (let f : false ≡ true = e in cc)

-- what tests say
pub lt_yes : (m n : ℕ) → nat_lt m n ≡ true → m < n
lt_yes m n e = grind (arith, nat_tests)

pub lt_no : (m n : ℕ) → nat_lt m n ≡ false → n ≤ m
lt_no m n e = grind (arith, nat_tests)

pub le_yes : (m n : ℕ) → nat_le m n ≡ true → m ≤ n
le_yes m n e = grind (arith, nat_tests)

pub le_no : (m n : ℕ) → nat_le m n ≡ false → n < m
le_no m n e = grind (arith, nat_tests)

pub is_128 : (b : ℕ) → is_binary [] b ≡ true → 128 ≡ b
is_128 b e = grind (arith, nat_tests)

pub is_10 : (b : ℕ) → is_newline b ≡ true → 10 ≡ b
is_10 b e = grind (arith, nat_tests)

pub run-append : (s : State) (a b : List ℕ) → read_bytes s (a ++ b) ≡ and_then (read_bytes s a).turns (read_bytes (read_bytes s a).state b)
unfolding read_bytes
run-append s [] b = refl
run-append s (x ∷ a) b =
    let first : ReaderStep = read_byte s x in
    let front : ReaderStep = read_bytes first.state a in
    let back : ReaderStep = read_bytes front.state b in
    ap (and_then first.turns) (run-append first.state a b) ∙ ap (λ (ts : List Turn). to ts back.state) (sym (append_assoc first.turns front.turns back.turns))

pub run_none : (s : State) → read_bytes s [] ≡ to [] s
unfolding read_bytes
run_none s = refl

pub run_closed : (xs : List ℕ) → read_bytes (state_at part.Closed []) xs ≡ to [] (state_at part.Closed [])
unfolding read_bytes read_byte
run_closed [] = refl
run_closed (x ∷ xs) = run_closed xs

-- one byte, and then more
pub run_first : (s : State) (x : ℕ) (xs : List ℕ) (f : ReaderStep) → read_byte s x ≡ f → read_bytes s (x ∷ xs) ≡ and_then f.turns (read_bytes f.state xs)
unfolding read_bytes
run_first s x xs f e = ap (λ (g : ReaderStep). and_then g.turns (read_bytes g.state xs)) e

-- A line.

not_first : (text : List ℕ) (x : ℕ) (xs : List ℕ) → starts_binary (text ++ x ∷ []) xs ≡ false
not_first [] x [] = refl
not_first [] x (y ∷ xs) = refl
not_first (c ∷ text) x [] = refl
not_first (c ∷ text) x (y ∷ xs) = refl

pub starts_take : (text xs : List ℕ) (n : ℕ) → starts_binary text xs ≡ false → starts_binary text (take n xs) ≡ false
starts_take text [] zero e = refl
starts_take text [] (suc n) e = refl
starts_take text (x ∷ xs) zero e = refl
starts_take text (x ∷ xs) (suc n) e = e

pub line_goes : (text : List ℕ) (x : ℕ) → is_binary text x ≡ false → is_newline x ≡ false → length text + 1 < MOST_LINE_BYTES
    → read_byte (state_at part.Line text) x ≡ to [] (state_at part.Line (text ++ x ∷ []))
unfolding read_byte
line_goes text x q h l =
    chosen (is_binary text x) _ _ q ∙ chosen (is_newline x) _ _ h ∙ chosen (nat_le MOST_LINE_BYTES (length text + 1)) _ _ (grind (arith, nat_tests))

pub line_too_long : (text : List ℕ) (x : ℕ) → is_binary text x ≡ false → is_newline x ≡ false → MOST_LINE_BYTES ≤ length text + 1
    → read_byte (state_at part.Line text) x ≡ to (Close notice.LineTooLong ∷ []) (state_at part.Closed [])
unfolding read_byte
line_too_long text x q h l =
    chosen (is_binary text x) _ _ q ∙ chosen (is_newline x) _ _ h ∙ taken (nat_le MOST_LINE_BYTES (length text + 1)) _ _ (grind (arith, nat_tests))

pub line_ends : (text : List ℕ) → read_byte (state_at part.Line text) 10 ≡ to (meaning text).turns (state_at (meaning text).part [])
unfolding read_byte
line_ends [] = refl
line_ends (c ∷ text) = refl

pub line_binary : read_byte start 128 ≡ to (Close notice.Binary ∷ []) (state_at part.Closed [])
unfolding read_byte
line_binary = refl

-- more of a line
pub run_line : (text xs : List ℕ) → starts_binary text xs ≡ false → HasNoNewline xs → length text + length xs < MOST_LINE_BYTES
    → read_bytes (state_at part.Line text) xs ≡ to [] (state_at part.Line (text ++ xs))
run_line text [] q h l = run_none (state_at part.Line text) ∙ ap (λ (ys : List ℕ). to [] (state_at part.Line ys)) (sym (append-nil text))
run_line text (x ∷ xs) q h l =
    let parts = or_parts _ _ h in
    run_first (state_at part.Line text) x xs (to [] (state_at part.Line (text ++ x ∷ []))) (line_goes text x q parts.0 (omega arith))
    ∙ run_line (text ++ x ∷ []) xs (not_first text x xs) parts.1 (rw (length-append text (x ∷ [])) (omega arith))
    ∙ ap (λ (ys : List ℕ). to [] (state_at part.Line ys)) (append_assoc text (x ∷ []) xs)

-- the rest of a line, and its end
pub run_end : (text xs : List ℕ) → starts_binary text xs ≡ false → HasNoNewline xs → length text + length xs < MOST_LINE_BYTES
    → read_bytes (state_at part.Line text) (xs ++ 10 ∷ []) ≡ to (meaning (text ++ xs)).turns (state_at (meaning (text ++ xs)).part [])
run_end text xs q h l =
    run-append (state_at part.Line text) xs (10 ∷ [])
    ∙ ap (λ (s : ReaderStep). and_then s.turns (read_bytes s.state (10 ∷ []))) (run_line text xs q h l)
    ∙ run_first (state_at part.Line (text ++ xs)) 10 [] _ (line_ends (text ++ xs))
    ∙ ap (λ (s : ReaderStep). and_then (meaning (text ++ xs)).turns s) (run_none (state_at (meaning (text ++ xs)).part []))
    ∙ ap (λ (ts : List Turn). to ts (state_at (meaning (text ++ xs)).part [])) (append-nil (meaning (text ++ xs)).turns)

-- a line that is too long
pub run_long : (text xs : List ℕ) → starts_binary text xs ≡ false → HasNoNewline xs → 0 < length xs → length text + length xs ≡ MOST_LINE_BYTES
    → read_bytes (state_at part.Line text) xs ≡ to (Close notice.LineTooLong ∷ []) (state_at part.Closed [])
run_long text [] q h some l = absurd (omega arith)
run_long text (x ∷ []) q h some l =
    let parts = or_parts _ _ h in
    run_first (state_at part.Line text) x [] _ (line_too_long text x q parts.0 (omega arith))
    ∙ ap (λ (s : ReaderStep). and_then (Close notice.LineTooLong ∷ []) s) (run_none (state_at part.Closed []))
run_long text (x ∷ y ∷ xs) q h some l =
    let parts = or_parts _ _ h in
    run_first (state_at part.Line text) x (y ∷ xs) (to [] (state_at part.Line (text ++ x ∷ []))) (line_goes text x q parts.0 (omega arith))
    ∙ run_long (text ++ x ∷ []) (y ∷ xs) (not_first text x (y ∷ xs)) parts.1 (omega arith) (rw (length-append text (x ∷ [])) (omega arith))

-- the first byte of the binary protocol
pub run_binary : (xs : List ℕ) → read_bytes start (128 ∷ xs) ≡ to (Close notice.Binary ∷ []) (state_at part.Closed [])
run_binary xs = run_first start 128 xs _ line_binary ∙ ap (λ (s : ReaderStep). and_then (Close notice.Binary ∷ []) s) (run_closed xs)

-- A block.

block_goes : (h : Opening) (block : List ℕ) (x : ℕ) → length block + 1 < h.header.size + 2 → read_byte (state_at (part.Block h) block) x ≡ to [] (state_at (part.Block h) (block ++ x ∷ []))
unfolding read_byte
block_goes h block x l = taken (nat_lt (length (block ++ x ∷ [])) (h.header.size + 2)) _ _ (rw (length-append block (x ∷ [])) (grind (arith, nat_tests)))

block_ends : (h : Opening) (block : List ℕ) (x : ℕ) → length block + 1 ≡ h.header.size + 2 → read_byte (state_at (part.Block h) block) x ≡ to (option_to_list (block_turn h (block ++ x ∷ []))) start
unfolding read_byte
block_ends h block x l = chosen (nat_lt (length (block ++ x ∷ [])) (h.header.size + 2)) _ _ (rw (length-append block (x ∷ [])) (grind (arith, nat_tests)))

-- more of a block
pub run_block : (h : Opening) (block xs : List ℕ) → length block + length xs < h.header.size + 2 → read_bytes (state_at (part.Block h) block) xs ≡ to [] (state_at (part.Block h) (block ++ xs))
run_block h block [] l = run_none (state_at (part.Block h) block) ∙ ap (λ (ys : List ℕ). to [] (state_at (part.Block h) ys)) (sym (append-nil block))
run_block h block (x ∷ xs) l =
    run_first (state_at (part.Block h) block) x xs (to [] (state_at (part.Block h) (block ++ x ∷ []))) (block_goes h block x (omega arith))
    ∙ run_block h (block ++ x ∷ []) xs (rw (length-append block (x ∷ [])) (omega arith))
    ∙ ap (λ (ys : List ℕ). to [] (state_at (part.Block h) ys)) (append_assoc block (x ∷ []) xs)

-- the rest of a block
pub run_whole_block : (h : Opening) (block xs : List ℕ) → 0 < length xs → length block + length xs ≡ h.header.size + 2
    → read_bytes (state_at (part.Block h) block) xs ≡ to (option_to_list (block_turn h (block ++ xs))) start
run_whole_block h block [] some l = absurd (omega arith)
run_whole_block h block (x ∷ []) some l =
    run_first (state_at (part.Block h) block) x [] _ (block_ends h block x (omega arith))
    ∙ ap (λ (s : ReaderStep). and_then (option_to_list (block_turn h (block ++ x ∷ []))) s) (run_none start)
    ∙ ap (λ (ts : List Turn). to ts start) (append-nil (option_to_list (block_turn h (block ++ x ∷ []))))
run_whole_block h block (x ∷ y ∷ xs) some l =
    run_first (state_at (part.Block h) block) x (y ∷ xs) (to [] (state_at (part.Block h) (block ++ x ∷ []))) (block_goes h block x (omega arith))
    ∙ run_whole_block h (block ++ x ∷ []) (y ∷ xs) (omega arith) (rw (length-append block (x ∷ [])) (omega arith))
    ∙ ap (λ (ys : List ℕ). to (option_to_list (block_turn h ys)) start) (append_assoc block (x ∷ []) (y ∷ xs))

-- Bytes that are not kept.

unread_goes : (left : ℕ) (turn : Option Turn) (x : ℕ) → 1 < left → read_byte (state_at (part.Unread left turn) []) x ≡ to [] (state_at (part.Unread (left - 1) turn) [])
unfolding read_byte
unread_goes left turn x l = chosen (nat_le left 1) _ _ (grind (arith, nat_tests))

unread_ends : (turn : Option Turn) (x : ℕ) → read_byte (state_at (part.Unread 1 turn) []) x ≡ to (option_to_list turn) start
unfolding read_byte
unread_ends turn x = refl

-- some of them
pub run_unread : (left : ℕ) (turn : Option Turn) (xs : List ℕ) → length xs < left → read_bytes (state_at (part.Unread left turn) []) xs ≡ to [] (state_at (part.Unread (left - length xs) turn) [])
run_unread left turn [] l = run_none (state_at (part.Unread left turn) []) ∙ ap (λ (n : ℕ). to [] (state_at (part.Unread n turn) [])) (less_none left)
  where
    less_none : (n : ℕ) → n ≡ n - 0
    less_none n = omega arith
run_unread left turn (x ∷ xs) l =
    run_first (state_at (part.Unread left turn) []) x xs (to [] (state_at (part.Unread (left - 1) turn) [])) (unread_goes left turn x (omega arith))
    ∙ run_unread (left - 1) turn xs (omega arith)
    ∙ ap (λ (n : ℕ). to [] (state_at (part.Unread n turn) [])) (less_more left (length xs))
  where
    less_more : (n m : ℕ) → n - 1 - m ≡ n - suc m
    less_more n m = omega arith

-- all of them
pub run_all_unread : (left : ℕ) (turn : Option Turn) (xs : List ℕ) → 0 < length xs → length xs ≡ left → read_bytes (state_at (part.Unread left turn) []) xs ≡ to (option_to_list turn) start
run_all_unread left turn [] some l = absurd (omega arith)
run_all_unread left turn (x ∷ []) some l =
    ap (λ (n : ℕ). read_bytes (state_at (part.Unread n turn) []) (x ∷ [])) (sym l)
    ∙ run_first (state_at (part.Unread 1 turn) []) x [] _ (unread_ends turn x)
    ∙ ap (λ (s : ReaderStep). and_then (option_to_list turn) s) (run_none start)
    ∙ ap (λ (ts : List Turn). to ts start) (append-nil (option_to_list turn))
run_all_unread left turn (x ∷ y ∷ xs) some l =
    run_first (state_at (part.Unread left turn) []) x (y ∷ xs) (to [] (state_at (part.Unread (left - 1) turn) [])) (unread_goes left turn x (omega arith))
    ∙ run_all_unread (left - 1) turn (y ∷ xs) (omega arith) (omega arith)

-- Steps of code.

-- a reader's step, by what it comes to
pub runs_by : (old : State) (bytes : List ℕ) (before after : List Turn) (new : State) (s : ReaderStep) → read_bytes old bytes ≡ s → after ≡ before ++ s.turns → new ≡ s.state → Runs old bytes before after new
runs_by old bytes before after new s e t n = record {
  turns = t ∙ ap (λ (r : ReaderStep). before ++ r.turns) (sym e);
  state = n ∙ ap (λ (r : ReaderStep). r.state) (sym e);
}

-- two steps one after the other
pub runs_on : (old mid new : State) (a b : List ℕ) (before between after : List Turn) → Runs old a before between mid → Runs mid b between after new → Runs old (a ++ b) before after new
runs_on old mid new a b before between after r s =
    let same : read_bytes mid b ≡ read_bytes (read_bytes old a).state b = ap (λ (m : State). read_bytes m b) r.state in
    runs_by old (a ++ b) before after new (and_then (read_bytes old a).turns (read_bytes (read_bytes old a).state b)) (run-append old a b)
    (s.turns ∙ ap (λ (ts : List Turn). ts ++ (read_bytes mid b).turns) r.turns ∙ append_assoc before (read_bytes old a).turns (read_bytes mid b).turns ∙ ap (λ (t : ReaderStep). before ++ ((read_bytes old a).turns ++ t.turns)) same)
    (s.state ∙ ap (λ (t : ReaderStep). t.state) same)
