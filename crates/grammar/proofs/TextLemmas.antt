-- Commands within the limits have a text in the profile.
use Rattle.std.proofs.Common.{◌≡◌, ℕ, ◌+◌, ◌-◌, ◌^◌, ◌<◌, ◌≤◌, Bool, true, false, ◌&&◌, List, [], ◌∷◌, ◌++◌, length, take, drop, Option, Some, None, refl, sym, ap, ◌∙◌, subst, arith, if◌then◌else◌}
use Rattle.std.specs.Prelude.{ℤ, nat_le, nat_lt, codes, decimal, flat_map, bytes_eq, slice_range}
use Rattle.std.specs.Fmt.{signed_decimal}
use Rattle.std.specs.List.{list_all}
use Rattle.std.specs.Option.{option_map_or}
use Rattle.std.proofs.lemmas.List.{append_assoc, append-nil, length-append, take_at, drop_at, drop_all, take_all}
use Rattle.std.proofs.lemmas.Bool.Decides.{nat_tests}
use Rattle.proto.specs.Key.{is_key}
use Rattle.proto.specs.Number.{number_below, exptime_of}
use Rattle.proto.specs.Line.{◌>>=◌, key_of, quiet_of, keys_of, timed_keys_of, storage_numbers, store_line, cas_line, delete_line, touch_line, delta_line, counting, whole_or_bad, opens_or_bad, line_of, line_of_words}
use Rattle.proto.specs.Grammar.{IsTurnText, next_turn, turn_of_line, filled}
use Rattle.proto.specs.Grammar as profile
use Rattle.proto.specs.declared.block.TheConstants.{MOST_BLOCK_BYTES}
use Rattle.proto.specs.declared.key.TheConstants.{MOST_KEYS}
use Rattle.proto.specs.declared.line.TheConstants.{MOST_LINE_BYTES}
use Rattle.proto.specs.declared.line.Header.{Header}
use Rattle.proto.specs.declared.line.Line.{Line}
use Rattle.proto.specs.declared.line.Line.TheVariants.{Whole, Opens}
use Rattle.proto.specs.declared.line.Kind.{Kind}
use Rattle.proto.specs.declared.line.Kind.TheVariants as kind
use Rattle.proto.specs.declared.command.Command.{Command}
use Rattle.proto.specs.declared.command.Command.TheVariants as command
use Rattle.proto.specs.declared.command.StoreVerb.{StoreVerb}
use Rattle.proto.specs.declared.command.StoreVerb.TheVariants as verb
use Rattle.proto.specs.declared.command.Update.{Update}
use Rattle.proto.specs.declared.command.Update.TheVariants as update
use Rattle.proto.specs.declared.turn.Turn.{Turn}
use Rattle.proto.specs.declared.turn.Notice.TheVariants.{BadDelta}
use Rattle.proto.specs.declared.turn.Turn.TheVariants.{Ask, Say}
use Rattle.dialect.specs.Reading.{spaced_key, head, read_text, read_command}
use Rattle.dialect.specs.declared.line.ReadVerb.{ReadVerb}
use Rattle.dialect.specs.declared.line.ReadVerb.TheVariants as reading
use Rattle.memcached_spec.specs.Asked.{HasText}
use Rattle.grammar.proofs.WordLemmas.{all_true, both_true, key_short, line_text, written_turn}
use Rattle.grammar.proofs.NumberTexts.{IsSigned32, decimal_word, signed_word, decimal_read, exptime_read}

-- ---- a command without a block

-- what a line of these words asks by itself
as_text : (w : List ℕ) (ws : List (List ℕ)) (c : Command) (quiet : Bool) → is_key w ≡ true → list_all is_key ws ≡ true → length (line_text w ws) + 2 ≤ MOST_LINE_BYTES → line_of_words (w ∷ ws) ≡ Whole (Ask c quiet) → HasText c quiet
as_text w ws c quiet e h short is = ((line_text w ws ++ 13 ∷ []) ++ 10 ∷ [], written_turn w ws [] e h short ∙ ap (λ l. turn_of_line l []) is)

-- ---- reading

abbrev pub IsFitVerb : ReadVerb → Type 0
IsFitVerb reading.Get = Unit {0}
IsFitVerb reading.Gets = Unit {0}
IsFitVerb (reading.Gat exptime) = IsSigned32 exptime
IsFitVerb (reading.Gats exptime) = IsSigned32 exptime

-- keys that the profile's line may have
pub record AreFitKeys (r : ReadVerb) (ks : List (List ℕ)) : Type 0 where
  pub valid : list_all is_key ks ≡ true
  pub some : 1 ≤ length ks
  pub few : length ks ≤ MOST_KEYS
  pub short : length (read_text r ks) ≤ MOST_LINE_BYTES

-- the name, and the words after it
name_word : ReadVerb → List ℕ
name_word reading.Get = codes "get"
name_word reading.Gets = codes "gets"
name_word (reading.Gat exptime) = codes "gat"
name_word (reading.Gats exptime) = codes "gats"

other_words : ReadVerb → List (List ℕ) → List (List ℕ)
other_words reading.Get ks = ks
other_words reading.Gets ks = ks
other_words (reading.Gat exptime) ks = signed_decimal exptime ∷ ks
other_words (reading.Gats exptime) ks = signed_decimal exptime ∷ ks

name_is_word : (r : ReadVerb) → is_key (name_word r) ≡ true
unfolding name_word
name_is_word reading.Get = refl
name_is_word reading.Gets = refl
name_is_word (reading.Gat exptime) = refl
name_is_word (reading.Gats exptime) = refl

others_are_words : (r : ReadVerb) (ks : List (List ℕ)) → IsFitVerb r → list_all is_key ks ≡ true → list_all is_key (other_words r ks) ≡ true
unfolding other_words
others_are_words reading.Get ks fit h = h
others_are_words reading.Gets ks fit h = h
others_are_words (reading.Gat exptime) ks fit h = all_true (is_key (signed_decimal exptime)) (list_all is_key ks) (signed_word exptime fit) h
others_are_words (reading.Gats exptime) ks fit h = all_true (is_key (signed_decimal exptime)) (list_all is_key ks) (signed_word exptime fit) h

text_is : (r : ReadVerb) (ks : List (List ℕ)) → read_text r ks ≡ line_text (name_word r) (other_words r ks) ++ codes "\r\n"
unfolding read_text name_word other_words
text_is reading.Get ks = sym (append_assoc (codes "get") (flat_map spaced_key ks) (codes "\r\n"))
text_is reading.Gets ks = sym (append_assoc (codes "gets") (flat_map spaced_key ks) (codes "\r\n"))
text_is (reading.Gat exptime) ks = sym (append_assoc (codes "gat " ++ signed_decimal exptime) (flat_map spaced_key ks) (codes "\r\n"))
text_is (reading.Gats exptime) ks = sym (append_assoc (codes "gats " ++ signed_decimal exptime) (flat_map spaced_key ks) (codes "\r\n"))

keys_are : (r : ReadVerb) (ks : List (List ℕ)) → AreFitKeys r ks → keys_of ks ≡ Some ks
keys_are r ks fit = chosen _ (all_true _ _ (all_true _ _ (one (length ks) fit.some) (few (length ks) fit.few)) fit.valid)
  where
    chosen : (b : Bool) → b ≡ true → (if b then Some ks else None) ≡ Some ks
    chosen b e = ap (λ (c : Bool). if c then Some ks else None) e

    one : (n : ℕ) → 1 ≤ n → nat_le 1 n ≡ true
    one n l = grind (arith, nat_tests)

    few : (n : ℕ) → n ≤ MOST_KEYS → nat_le n MOST_KEYS ≡ true
    few n l = grind (arith, nat_tests)

asks_keys : (r : ReadVerb) (ks : List (List ℕ)) → IsFitVerb r → AreFitKeys r ks → line_of_words (name_word r ∷ other_words r ks) ≡ Whole (Ask (read_command r ks) false)
unfolding name_word other_words
asks_keys reading.Get ks verb fit = λ i. whole_or_bad (keys_are reading.Get ks fit i >>= λ keys. Some (Ask (command.Get keys) false))
asks_keys reading.Gets ks verb fit = λ i. whole_or_bad (keys_are reading.Gets ks fit i >>= λ keys. Some (Ask (command.Gets keys) false))
asks_keys (reading.Gat e) ks verb fit = λ i. whole_or_bad ((exptime_read e verb i >>= λ exptime. keys_are (reading.Gat e) ks fit i >>= λ keys. Some (let timed : ℤ × List (List ℕ) = (exptime, keys) in timed)) >>= λ timed. Some (Ask (command.Gat timed.0 timed.1) false))
asks_keys (reading.Gats e) ks verb fit = λ i. whole_or_bad ((exptime_read e verb i >>= λ exptime. keys_are (reading.Gats e) ks fit i >>= λ keys. Some (let timed : ℤ × List (List ℕ) = (exptime, keys) in timed)) >>= λ timed. Some (Ask (command.Gats timed.0 timed.1) false))

pub read_has_text : (r : ReadVerb) (ks : List (List ℕ)) → IsFitVerb r → AreFitKeys r ks → HasText (read_command r ks) false
read_has_text r ks verb fit =
    let whole : length (read_text r ks) ≡ length (line_text (name_word r) (other_words r ks)) + 2 = ap (λ (xs : List ℕ). length xs) (text_is r ks) ∙ length-append (line_text (name_word r) (other_words r ks)) (codes "\r\n") in
    let short = fit.short in
    as_text (name_word r) (other_words r ks) (read_command r ks) false (name_is_word r) (others_are_words r ks verb fit.valid) (omega (arith, whole, short)) (asks_keys r ks verb fit)

-- ---- updates

abbrev pub IsFitUpdate : Update → Type 0
IsFitUpdate (update.Store verb key flags exptime block) = (is_key key ≡ true) × (flags < 2 ^ 32) × IsSigned32 exptime × (length block ≤ MOST_BLOCK_BYTES)
IsFitUpdate (update.Cas key flags exptime block unique) = (is_key key ≡ true) × (flags < 2 ^ 32) × IsSigned32 exptime × (length block ≤ MOST_BLOCK_BYTES) × (unique < 2 ^ 64)
IsFitUpdate (update.Delete key) = is_key key ≡ true
IsFitUpdate (update.Touch key exptime) = (is_key key ≡ true) × IsSigned32 exptime
IsFitUpdate (update.Incr key delta) = (is_key key ≡ true) × (delta < 2 ^ 64)
IsFitUpdate (update.Decr key delta) = (is_key key ≡ true) × (delta < 2 ^ 64)

-- what says noreply
abbrev last_word : Bool → List (List ℕ)
last_word true = codes "noreply" ∷ []
last_word false = []

last_is_word : (quiet : Bool) → list_all is_key (last_word quiet) ≡ true
last_is_word true = refl
last_is_word false = refl

last_read : (quiet : Bool) → quiet_of (last_word quiet) ≡ Some quiet
last_read true = refl
last_read false = refl

key_read : (k : List ℕ) → is_key k ≡ true → key_of k ≡ Some k
key_read k e = ap (λ (c : Bool). if c then Some k else None) e

-- the length of some words, each behind a space
words_long : List (List ℕ) → ℕ
words_long ws = length (flat_map spaced_key ws)

one_longer : (w : List ℕ) (ws : List (List ℕ)) (n : ℕ) → is_key w ≡ true → words_long ws ≤ n → words_long (w ∷ ws) ≤ n + 251
unfolding words_long
one_longer w ws n e l =
    let short = key_short w e in
    let whole = length-append (spaced_key w) (flat_map spaced_key ws) in
    omega (arith, short, l, whole)

last_long : (quiet : Bool) → words_long (last_word quiet) ≤ 8
unfolding words_long
last_long true = omega arith
last_long false = omega arith

line_short : (w : List ℕ) (ws : List (List ℕ)) → length w ≤ 8 → words_long ws ≤ 1263 → length (line_text w ws) + 2 ≤ MOST_LINE_BYTES
unfolding words_long
line_short w ws l m = let whole = length-append w (flat_map spaced_key ws) in omega (arith, whole, l, m)

delete_text : (key : List ℕ) (quiet : Bool) → is_key key ≡ true → HasText (command.Update (update.Delete key)) quiet
delete_text key quiet e =
    let long = one_longer key (last_word quiet) 8 e (last_long quiet) in
    as_text (codes "delete") (key ∷ last_word quiet) (command.Update (update.Delete key)) quiet refl (all_true (is_key key) (list_all is_key (last_word quiet)) e (last_is_word quiet))
    (line_short (codes "delete") (key ∷ last_word quiet) (omega arith) (omega (arith, long)))
    (λ i. whole_or_bad (last_read quiet i >>= λ q. key_read key e i >>= λ k. Some (Ask (command.Update (update.Delete k)) q)))

-- a key, a number, and what says noreply
number_words : (key number : List ℕ) (quiet : Bool) → is_key key ≡ true → is_key number ≡ true → list_all is_key (key ∷ number ∷ last_word quiet) ≡ true
number_words key number quiet e f = all_true (is_key key) _ e (all_true (is_key number) (list_all is_key (last_word quiet)) f (last_is_word quiet))

number_long : (key number : List ℕ) (quiet : Bool) → is_key key ≡ true → is_key number ≡ true → words_long (key ∷ number ∷ last_word quiet) ≤ 510
number_long key number quiet e f =
    let one = one_longer number (last_word quiet) 8 f (last_long quiet) in
    let two = one_longer key (number ∷ last_word quiet) (8 + 251) e one in
    omega (arith, two)

touch_text : (key : List ℕ) (exptime : ℤ) (quiet : Bool) → is_key key ≡ true → IsSigned32 exptime → HasText (command.Update (update.Touch key exptime)) quiet
touch_text key exptime quiet e l =
    let number = signed_word exptime l in
    let long = number_long key (signed_decimal exptime) quiet e number in
    as_text (codes "touch") (key ∷ signed_decimal exptime ∷ last_word quiet) (command.Update (update.Touch key exptime)) quiet refl (number_words key (signed_decimal exptime) quiet e number)
    (line_short (codes "touch") (key ∷ signed_decimal exptime ∷ last_word quiet) (omega arith) (omega (arith, long)))
    (λ i. whole_or_bad (exptime_read exptime l i >>= λ x. last_read quiet i >>= λ q. key_read key e i >>= λ k. Some (Ask (command.Update (update.Touch k x)) q)))

delta_read : (up : Bool) (key : List ℕ) (delta : ℕ) (quiet : Bool) → is_key key ≡ true → delta < 2 ^ 64 → whole_or_bad (delta_line (counting up) (key ∷ decimal delta ∷ last_word quiet)) ≡ Whole (Ask (command.Update (counting up key delta)) quiet)
delta_read up key delta quiet e l =
    λ i. whole_or_bad (last_read quiet i >>= λ q. key_read key e i >>= λ k. Some (option_map_or (λ d. Ask (command.Update (counting up k d)) q) (decimal_read (2 ^ 64) delta l l i) (Say BadDelta)))

incr_text : (key : List ℕ) (delta : ℕ) (quiet : Bool) → is_key key ≡ true → delta < 2 ^ 64 → HasText (command.Update (update.Incr key delta)) quiet
incr_text key delta quiet e l =
    let number = decimal_word delta l in
    let long = number_long key (decimal delta) quiet e number in
    as_text (codes "incr") (key ∷ decimal delta ∷ last_word quiet) (command.Update (update.Incr key delta)) quiet refl (number_words key (decimal delta) quiet e number)
    (line_short (codes "incr") (key ∷ decimal delta ∷ last_word quiet) (omega arith) (omega (arith, long)))
    (delta_read true key delta quiet e l)

decr_text : (key : List ℕ) (delta : ℕ) (quiet : Bool) → is_key key ≡ true → delta < 2 ^ 64 → HasText (command.Update (update.Decr key delta)) quiet
decr_text key delta quiet e l =
    let number = decimal_word delta l in
    let long = number_long key (decimal delta) quiet e number in
    as_text (codes "decr") (key ∷ decimal delta ∷ last_word quiet) (command.Update (update.Decr key delta)) quiet refl (number_words key (decimal delta) quiet e number)
    (line_short (codes "decr") (key ∷ decimal delta ∷ last_word quiet) (omega arith) (omega (arith, long)))
    (delta_read false key delta quiet e l)

-- ---- updates with a block

-- a storage line, its block and the end of that
block_text : (w : List ℕ) (ws : List (List ℕ)) (h : Header) (block : List ℕ) → is_key w ≡ true → list_all is_key ws ≡ true → length (line_text w ws) + 2 ≤ MOST_LINE_BYTES
    → line_of_words (w ∷ ws) ≡ Opens h → h.size ≡ length block → length block ≤ MOST_BLOCK_BYTES → HasText (filled h block) h.quiet
block_text w ws h block e k short is size few =
    ((line_text w ws ++ 13 ∷ []) ++ 10 ∷ (block ++ 13 ∷ 10 ∷ []), written_turn w ws (block ++ 13 ∷ 10 ∷ []) e k short ∙ (ap (λ l. turn_of_line l (block ++ 13 ∷ 10 ∷ [])) is ∙ whole))
  where
    all : List ℕ
    all = block ++ 13 ∷ 10 ∷ []

    count : length all ≡ h.size + 2
    count = length-append block (13 ∷ 10 ∷ []) ∙ ap (λ n. n + 2) (sym size)

    front : take h.size all ≡ block
    front = take_at block (13 ∷ 10 ∷ []) h.size (sym size)

    behind : drop h.size all ≡ 13 ∷ 10 ∷ []
    behind = drop_at block (13 ∷ 10 ∷ []) h.size (sym size)

    two : (n : ℕ) → n + 2 - n ≡ 2
    two n = omega arith

    end : slice_range all h.size (h.size + 2) ≡ 13 ∷ 10 ∷ []
    end = (λ i. take (two h.size i) (behind i))

    nothing : drop (h.size + 2) all ≡ []
    nothing = drop_all (h.size + 2) all (omega (arith, count))

    enough : nat_lt (length all) (h.size + 2) ≡ false
    enough = ap (λ n. nat_lt n (h.size + 2)) count ∙ not_less (h.size + 2)
      where
        not_less : (n : ℕ) → nat_lt n n ≡ false
        not_less n = grind (arith, nat_tests)

    within : nat_lt MOST_BLOCK_BYTES h.size ≡ false
    within = ap (nat_lt MOST_BLOCK_BYTES) size ∙ no_more (length block) few
      where
        no_more : (n : ℕ) → n ≤ MOST_BLOCK_BYTES → nat_lt MOST_BLOCK_BYTES n ≡ false
        no_more n l = grind (arith, nat_tests)

    whole : turn_of_line (Opens h) all ≡ Some (Ask (filled h block) h.quiet, [])
    whole = rw (enough, front, end, nothing, within) refl

-- a key, flags, an exptime and a size
storage_word_list : List ℕ → ℕ → ℤ → ℕ → List (List ℕ) → List (List ℕ)
storage_word_list key flags exptime size last = key ∷ decimal flags ∷ signed_decimal exptime ∷ decimal size ∷ last

storage_words : (key : List ℕ) (flags : ℕ) (exptime : ℤ) (size : ℕ) (last : List (List ℕ)) → is_key key ≡ true → flags < 2 ^ 32 → IsSigned32 exptime → size ≤ MOST_BLOCK_BYTES → list_all is_key last ≡ true
    → list_all is_key (storage_word_list key flags exptime size last) ≡ true
unfolding storage_word_list
storage_words key flags exptime size last e f x s h =
    all_true (is_key key) _ e (all_true (is_key (decimal flags)) _ (decimal_word flags (omega (arith, f))) (all_true (is_key (signed_decimal exptime)) _ (signed_word exptime x)
    (all_true (is_key (decimal size)) (list_all is_key last) (decimal_word size (omega (arith, s))) h)))

storage_long : (key : List ℕ) (flags : ℕ) (exptime : ℤ) (size : ℕ) (last : List (List ℕ)) → is_key key ≡ true → flags < 2 ^ 32 → IsSigned32 exptime → size ≤ MOST_BLOCK_BYTES → words_long last ≤ 259
    → words_long (storage_word_list key flags exptime size last) ≤ 1263
unfolding storage_word_list
storage_long key flags exptime size last e f x s l =
    let one = one_longer (decimal size) last 259 (decimal_word size (omega (arith, s))) l in
    let two = one_longer (signed_decimal exptime) (decimal size ∷ last) (259 + 251) (signed_word exptime x) one in
    let three = one_longer (decimal flags) (signed_decimal exptime ∷ decimal size ∷ last) (259 + 251 + 251) (decimal_word flags (omega (arith, f))) two in
    let four = one_longer key (decimal flags ∷ signed_decimal exptime ∷ decimal size ∷ last) (259 + 251 + 251 + 251) e three in
    omega (arith, four)

numbers_read : (flags : ℕ) (exptime : ℤ) (size : ℕ) → flags < 2 ^ 32 → IsSigned32 exptime → size ≤ MOST_BLOCK_BYTES → storage_numbers (decimal flags) (signed_decimal exptime) (decimal size) ≡ Some (flags, exptime, size)
numbers_read flags exptime size f x s =
    λ i. decimal_read (2 ^ 32) flags f (omega (arith, f)) i >>= λ a. exptime_read exptime x i >>= λ b. decimal_read (2 ^ 31) size (omega (arith, s)) (omega (arith, s)) i >>= λ c. Some (let numbers : ℕ × ℤ × ℕ = (a, b, c) in numbers)

verb_word : StoreVerb → List ℕ
verb_word verb.Set = codes "set"
verb_word verb.Add = codes "add"
verb_word verb.Replace = codes "replace"
verb_word verb.Append = codes "append"
verb_word verb.Prepend = codes "prepend"

verb_is_word : (v : StoreVerb) → (is_key (verb_word v) ≡ true) × (length (verb_word v) ≤ 8)
unfolding verb_word
verb_is_word verb.Set = (refl, omega arith)
verb_is_word verb.Add = (refl, omega arith)
verb_is_word verb.Replace = (refl, omega arith)
verb_is_word verb.Append = (refl, omega arith)
verb_is_word verb.Prepend = (refl, omega arith)

verb_opens : (v : StoreVerb) (ws : List (List ℕ)) → line_of_words (verb_word v ∷ ws) ≡ opens_or_bad (store_line v ws)
unfolding verb_word
verb_opens verb.Set ws = refl
verb_opens verb.Add ws = refl
verb_opens verb.Replace ws = refl
verb_opens verb.Append ws = refl
verb_opens verb.Prepend ws = refl

store_text : (v : StoreVerb) (key : List ℕ) (flags : ℕ) (exptime : ℤ) (block : List ℕ) (quiet : Bool) → is_key key ≡ true → flags < 2 ^ 32 → IsSigned32 exptime → length block ≤ MOST_BLOCK_BYTES
    → HasText (command.Update (update.Store v key flags exptime block)) quiet
unfolding storage_word_list
store_text v key flags exptime block quiet e f x s =
    let size = length block in
    let ws = storage_word_list key flags exptime size (last_word quiet) in
    let name = verb_is_word v in
    let long = last_long quiet in
    let h : Header = record { kind = kind.Plain v; key = key; flags = flags; exptime = exptime; size = size; quiet = quiet } in
    block_text (verb_word v) ws h block name.0 (storage_words key flags exptime size (last_word quiet) e f x s (last_is_word quiet))
    (line_short (verb_word v) ws name.1 (storage_long key flags exptime size (last_word quiet) e f x s (omega (arith, long))))
    (verb_opens v ws ∙ (λ i. opens_or_bad (numbers_read flags exptime size f x s i >>= λ numbers. last_read quiet i >>= λ q. key_read key e i >>= λ k.
    Some (record { kind = kind.Plain v; key = k; flags = numbers.0; exptime = numbers.1; size = numbers.2; quiet = q }))))
    refl s

cas_text : (key : List ℕ) (flags : ℕ) (exptime : ℤ) (block : List ℕ) (unique : ℕ) (quiet : Bool) → is_key key ≡ true → flags < 2 ^ 32 → IsSigned32 exptime → length block ≤ MOST_BLOCK_BYTES → unique < 2 ^ 64
    → HasText (command.Update (update.Cas key flags exptime block unique)) quiet
unfolding storage_word_list
cas_text key flags exptime block unique quiet e f x s u =
    let size = length block in
    let last = decimal unique ∷ last_word quiet in
    let ws = storage_word_list key flags exptime size last in
    let long = one_longer (decimal unique) (last_word quiet) 8 (decimal_word unique u) (last_long quiet) in
    let h : Header = record { kind = kind.Cas unique; key = key; flags = flags; exptime = exptime; size = size; quiet = quiet } in
    block_text (codes "cas") ws h block refl (storage_words key flags exptime size last e f x s (all_true (is_key (decimal unique)) (list_all is_key (last_word quiet)) (decimal_word unique u) (last_is_word quiet)))
    (line_short (codes "cas") ws (omega arith) (storage_long key flags exptime size last e f x s (omega (arith, long))))
    (λ i. opens_or_bad (numbers_read flags exptime size f x s i >>= λ numbers. decimal_read (2 ^ 64) unique u u i >>= λ n. last_read quiet i >>= λ q. key_read key e i >>= λ k.
    Some (record { kind = kind.Cas n; key = k; flags = numbers.0; exptime = numbers.1; size = numbers.2; quiet = q })))
    refl s

pub update_has_text : (u : Update) (quiet : Bool) → IsFitUpdate u → HasText (command.Update u) quiet
update_has_text (update.Store v key flags exptime block) quiet fit = store_text v key flags exptime block quiet fit.0 fit.1 fit.2 fit.3
update_has_text (update.Cas key flags exptime block unique) quiet fit = cas_text key flags exptime block unique quiet fit.0 fit.1 fit.2 fit.3 fit.4
update_has_text (update.Delete key) quiet fit = delete_text key quiet fit
update_has_text (update.Touch key exptime) quiet fit = touch_text key exptime quiet fit.0 fit.1
update_has_text (update.Incr key delta) quiet fit = incr_text key delta quiet fit.0 fit.1
update_has_text (update.Decr key delta) quiet fit = decr_text key delta quiet fit.0 fit.1
