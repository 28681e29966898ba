-- The words of a line that is written of words.
use Rattle.std.proofs.Common.{◌≡◌, ℕ, zero, suc, ◌+◌, ◌-◌, ◌<◌, ◌≤◌, Bool, true, false, ◌||◌, ◌&&◌, List, [], ◌∷◌, ◌++◌, length, take, drop, Option, Some, None, refl, sym, ap, ◌∙◌, arith, if◌then◌else◌}
use Rattle.std.specs.Prelude.{◌==◌, nat_le, not, flat_map, filter, slice_index}
use Rattle.std.specs.List.{list_any, list_all, before_first, after_first, position_or_len, slice_split, onto_first}
use Rattle.std.proofs.lemmas.List.{append_assoc, append-nil, length-append, take_at, drop_at}
use Rattle.std.proofs.lemmas.List.Splits.{slice_split-cons_yes, slice_split-cons_no}
use Rattle.std.proofs.lemmas.Bool.{or_parts, or_from}
use Rattle.std.proofs.lemmas.Bool.Decides.{nat_tests}
use Rattle.proto.specs.Key.{is_key, is_key_byte}
use Rattle.proto.specs.Line.{is_space, is_empty, words, ends_in_return, line_of_words, meaning}
use Rattle.proto.specs.Grammar.{next_turn, first_line, is_newline, turn_of_line}
use Rattle.proto.specs.declared.key.TheConstants.{MOST_KEY_BYTES}
use Rattle.proto.specs.declared.line.TheConstants.{MOST_LINE_BYTES}
use Rattle.dialect.specs.Reading.{spaced_key}

pub both_true : (x y : Bool) → (x && y) ≡ true → (x ≡ true) × (y ≡ true)
both_true true y e = (refl, e)
both_true false y e = absurd (let f : false ≡ true = e in cc f)

pub all_true : (x y : Bool) → x ≡ true → y ≡ true → (x && y) ≡ true
all_true x y e f = (λ i. e i && f i)

-- ---- the bytes of a word

no_space : (b : ℕ) → is_key_byte b ≡ true → is_space b ≡ false
no_space b e = grind (arith, nat_tests)

no_newline : (b : ℕ) → is_key_byte b ≡ true → is_newline b ≡ false
no_newline b e = grind (arith, nat_tests)

pub key_bytes : (w : List ℕ) → is_key w ≡ true → list_all is_key_byte w ≡ true
key_bytes w e = (both_true (nat_le 1 (length w) && nat_le (length w) MOST_KEY_BYTES) (list_all is_key_byte w) e).1

pub key_short : (w : List ℕ) → is_key w ≡ true → length w ≤ 250
key_short w e =
    let front = (both_true (nat_le 1 (length w) && nat_le (length w) MOST_KEY_BYTES) (list_all is_key_byte w) e).0 in
    let short : nat_le (length w) MOST_KEY_BYTES ≡ true = (both_true (nat_le 1 (length w)) (nat_le (length w) MOST_KEY_BYTES) front).1 in
    at_most (length w) short
  where
    at_most : (n : ℕ) → nat_le n MOST_KEY_BYTES ≡ true → n ≤ 250
    at_most n e = grind (arith, nat_tests)

no_append : (a b : List ℕ) → list_any is_newline a ≡ false → list_any is_newline b ≡ false → list_any is_newline (a ++ b) ≡ false
no_append [] b p q = q
no_append (x ∷ a) b p q = or_from _ _ (or_parts _ _ p).0 (no_append a b (or_parts _ _ p).1 q)

no_newlines : (w : List ℕ) → list_all is_key_byte w ≡ true → list_any is_newline w ≡ false
no_newlines [] e = refl
no_newlines (b ∷ w) e =
    let parts = both_true (is_key_byte b) (list_all is_key_byte w) e in
    or_from _ _ (no_newline b parts.0) (no_newlines w parts.1)

-- ---- a line of words

-- the words, with one space between them
abbrev pub line_text : List ℕ → List (List ℕ) → List ℕ
line_text w ws = w ++ flat_map spaced_key ws

pub line_no_newline : (w : List ℕ) (ws : List (List ℕ)) → is_key w ≡ true → list_all is_key ws ≡ true → list_any is_newline (line_text w ws) ≡ false
line_no_newline w [] e h = no_append w [] (no_newlines w (key_bytes w e)) refl
line_no_newline w (v ∷ ws) e h =
    let parts = both_true (is_key v) (list_all is_key ws) h in
    no_append w (32 ∷ line_text v ws) (no_newlines w (key_bytes w e)) (line_no_newline v ws parts.0 parts.1)

split_word : (w ys : List ℕ) → list_all is_key_byte w ≡ true → slice_split is_space (w ++ 32 ∷ ys) ≡ w ∷ slice_split is_space ys
split_word [] ys e = slice_split-cons_yes is_space 32 ys refl
split_word (b ∷ w) ys e =
    let parts = both_true (is_key_byte b) (list_all is_key_byte w) e in
    slice_split-cons_no is_space b (w ++ 32 ∷ ys) (no_space b parts.0) ∙ ap (onto_first b) (split_word w ys parts.1)

split_last : (w : List ℕ) → list_all is_key_byte w ≡ true → slice_split is_space w ≡ w ∷ []
split_last [] e = refl
split_last (b ∷ w) e =
    let parts = both_true (is_key_byte b) (list_all is_key_byte w) e in
    slice_split-cons_no is_space b w (no_space b parts.0) ∙ ap (onto_first b) (split_last w parts.1)

split_line : (w : List ℕ) (ws : List (List ℕ)) → is_key w ≡ true → list_all is_key ws ≡ true → slice_split is_space (line_text w ws) ≡ w ∷ ws
split_line w [] e h = ap (slice_split is_space) (append-nil w) ∙ split_last w (key_bytes w e)
split_line w (v ∷ ws) e h =
    let parts = both_true (is_key v) (list_all is_key ws) h in
    split_word w (line_text v ws) (key_bytes w e) ∙ ap (λ (vs : List (List ℕ)). w ∷ vs) (split_line v ws parts.0 parts.1)

keep_words : (ws : List (List ℕ)) → list_all is_key ws ≡ true → filter (λ w. not (is_empty w)) ws ≡ ws
keep_words [] h = refl
keep_words ([] ∷ ws) h = absurd (let f : false ≡ true = h in cc f)
keep_words ((b ∷ w) ∷ ws) h = ap (λ (vs : List (List ℕ)). (b ∷ w) ∷ vs) (keep_words ws (both_true (is_key (b ∷ w)) (list_all is_key ws) h).1)

pub line_words : (w : List ℕ) (ws : List (List ℕ)) → is_key w ≡ true → list_all is_key ws ≡ true → words (line_text w ws) ≡ w ∷ ws
line_words w ws e h = ap (filter (λ v. not (is_empty v))) (split_line w ws e h) ∙ keep_words (w ∷ ws) (all_true (is_key w) (list_all is_key ws) e h)

-- ---- its end

index_end : (xs : List ℕ) → slice_index (xs ++ 13 ∷ []) (length xs) ≡ 13
index_end [] = refl
index_end (x ∷ xs) = index_end xs

less_one : (n : ℕ) → n + 1 - 1 ≡ n
less_one n = omega arith

length_end : (xs : List ℕ) → length (xs ++ 13 ∷ []) - 1 ≡ length xs
length_end xs = ap (λ n. n - 1) (length-append xs (13 ∷ [])) ∙ less_one (length xs)

ends_yes : (xs : List ℕ) → ends_in_return (xs ++ 13 ∷ []) ≡ true
ends_yes xs = all_true _ _ (ap (nat_le 1) (length-append xs (13 ∷ [])) ∙ some (length xs)) (ap (λ b. is_return b) (ap (slice_index (xs ++ 13 ∷ [])) (length_end xs) ∙ index_end xs))
  where
    is_return : ℕ → Bool
    is_return b = b == 13

    some : (n : ℕ) → nat_le 1 (n + 1) ≡ true
    some n = grind (arith, nat_tests)

meaning_end : (xs : List ℕ) → meaning (xs ++ 13 ∷ []) ≡ line_of_words (words xs)
unfolding meaning
meaning_end xs = rw (ends_yes xs) (ap (λ (ys : List ℕ). line_of_words (words ys)) (take_at xs (13 ∷ []) (length (xs ++ 13 ∷ []) - 1) (sym (length_end xs))))

-- ---- the first line of some bytes

or_true : (x y : Bool) → y ≡ true → (x || y) ≡ true
or_true true y h = refl
or_true false y h = h

within : (a b : List ℕ) (n : ℕ) → length a < n → list_any is_newline (take n (a ++ 10 ∷ b)) ≡ true
within [] b zero l = absurd (omega arith)
within [] b (suc n) l = refl
within (x ∷ a) b zero l = absurd (omega arith)
within (x ∷ a) b (suc n) l = or_true (is_newline x) _ (within a b n (omega arith))

one_more : (n : ℕ) → 1 + n ≡ suc n
one_more n = omega arith

place : (a b : List ℕ) → list_any is_newline a ≡ false → position_or_len is_newline (a ++ 10 ∷ b) ≡ length a
place [] b h = refl
place (x ∷ a) b h = rw ((or_parts (is_newline x) _ h).0) (ap (λ n. 1 + n) (place a b (or_parts (is_newline x) _ h).1) ∙ one_more (length a))

before : (a b : List ℕ) → list_any is_newline a ≡ false → before_first is_newline (a ++ 10 ∷ b) ≡ a
before a b h = rw (place a b h) (take_at a (10 ∷ b) (length a) refl)

after : (a b : List ℕ) → list_any is_newline a ≡ false → after_first is_newline (a ++ 10 ∷ b) ≡ b
after a b h = rw (place a b h, sym (append_assoc a (10 ∷ []) b)) (drop_at (a ++ 10 ∷ []) b (length a + 1) (length-append a (10 ∷ [])))

first_line_at : (a b : List ℕ) → list_any is_newline a ≡ false → length a < MOST_LINE_BYTES → first_line (a ++ 10 ∷ b) ≡ Some (a, b)
first_line_at a b h l = rw (within a b MOST_LINE_BYTES l, before a b h, after a b h) refl

next_line : (a b : List ℕ) → list_any is_newline a ≡ false → length a < MOST_LINE_BYTES → next_turn (a ++ 10 ∷ b) ≡ turn_of_line (meaning a) b
unfolding next_turn
next_line a b h l = rw (first_line_at a b h l) refl

-- a line of words and its end, and what stands after it
pub written_turn : (w : List ℕ) (ws : List (List ℕ)) (more : List ℕ) → is_key w ≡ true → list_all is_key ws ≡ true → length (line_text w ws) + 2 ≤ MOST_LINE_BYTES
    → next_turn ((line_text w ws ++ 13 ∷ []) ++ 10 ∷ more) ≡ turn_of_line (line_of_words (w ∷ ws)) more
written_turn w ws more e h short =
    let whole = length-append (line_text w ws) (13 ∷ []) in
    next_line (line_text w ws ++ 13 ∷ []) more (no_append (line_text w ws) (13 ∷ []) (line_no_newline w ws e h) refl) (omega (arith, whole, short))
    ∙ ap (λ l. turn_of_line l more) (meaning_end (line_text w ws) ∙ ap line_of_words (line_words w ws e h))
