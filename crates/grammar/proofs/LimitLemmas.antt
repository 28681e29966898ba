-- What bytes of memcached's dialect ask has a text in the profile.
use Rattle.std.proofs.Common.{◌≡◌, ℕ, zero, suc, ◌+◌, ◌-◌, ◌%◌, ◌^◌, ◌<◌, ◌≤◌, Bool, true, false, ◌&&◌, List, [], ◌∷◌, ◌++◌, length, take, drop, Option, Some, None, Ok, Err, IfSome, refl, subst, arith, lit≤, lit<, if◌then◌else◌}
use Rattle.std.specs.Prelude.{ℤ, pos, neg_ℤ, ◌==◌, nat_le, nat_lt, codes, bytes_eq, Contains}
use Rattle.std.specs.Fmt.{signed_decimal}
use Rattle.std.specs.List.{list_all, list_any}
use Rattle.std.specs.Option.{option_map, option_map_or, option_to_list, unwrap_or}
use Rattle.std.specs.Str.Parse.{digits_value}
use Rattle.std.proofs.lemmas.List.{length-append}
use Rattle.std.proofs.lemmas.Bool.Decides.{nat_tests}
use Rattle.proto.specs.Key.{is_key}
use Rattle.proto.specs.Line.{◌>>=◌, key_of, words, counting}
use Rattle.proto.specs.Number.{is_number, number_below}
use Rattle.proto.specs.Grammar.{filled}
use Rattle.proto.specs.declared.block.TheConstants.{MOST_BLOCK_BYTES}
use Rattle.proto.specs.declared.key.TheConstants.{MOST_KEYS}
use Rattle.proto.specs.declared.line.TheConstants as profile
use Rattle.proto.specs.declared.line.Header.{Header}
use Rattle.proto.specs.declared.line.Kind.{Kind}
use Rattle.proto.specs.declared.line.Kind.TheVariants as kind
use Rattle.proto.specs.declared.command.Command.{Command}
use Rattle.proto.specs.declared.command.Command.TheVariants as command
use Rattle.proto.specs.declared.command.StoreVerb.{StoreVerb}
use Rattle.proto.specs.declared.command.StoreVerb.TheVariants as verb
use Rattle.proto.specs.declared.command.Update.{Update}
use Rattle.proto.specs.declared.command.Update.TheVariants as update
use Rattle.dialect.specs.Name.{name_of}
use Rattle.dialect.specs.Number.{unsigned_of, flags_of, exptime_of, block_size_of, wrapped, wrapped_minus}
use Rattle.dialect.specs.Line.{says_noreply, said, says_notice, shown, is_end, is_delete_end, is_http_version, removes, too_large, opened_by, sized, storage, header_of, cas_kind, on_key, store_line, cas_line, delete_line, touch_line, delta_line, verbosity_line, timed_line, line_of}
use Rattle.dialect.specs.Meta.{token_behind, first_fault, checked, exptime_in, flags_in, unique_in, delta_in, verb_in, direction_in, get_command, delete_update, count_update, comparing, kind_in, says_one, on_checked, opening, opening_of, sized_set, set_line, key_line, meta_line}
use Rattle.dialect.specs.declared.meta.Meta.{Meta}
use Rattle.dialect.specs.declared.meta.Meta.TheVariants as meta
use Rattle.dialect.specs.Meaning.{meaning, meaning_of_words, meaning_of_line, unknown, without_return, block_turn}
use Rattle.dialect.specs.Reading.{head, read_text, read_command, keys_fit, piece_turns, read_turns, keys_in}
use Rattle.dialect.specs.Grammar.{Spells, part_of_line, part_of_block, line, with_block, unread, closing, too_long, binary}
use Rattle.dialect.specs.declared.turn.Notice.{Notice}
use Rattle.dialect.specs.declared.turn.Notice.TheVariants as notice
use Rattle.dialect.specs.declared.turn.Show.{Show}
use Rattle.dialect.specs.declared.turn.Show.TheVariants as show
use Rattle.dialect.specs.declared.turn.Turn.{Turn}
use Rattle.dialect.specs.declared.turn.Turn.TheVariants.{Ask, Say, Close}
use Rattle.dialect.specs.declared.line.Name.{Name}
use Rattle.dialect.specs.declared.line.Name.TheVariants as name
use Rattle.dialect.specs.declared.line.ReadVerb.{ReadVerb}
use Rattle.dialect.specs.declared.line.ReadVerb.TheVariants as reading
use Rattle.dialect.specs.declared.line.Opening.{Opening}
use Rattle.dialect.specs.declared.line.Line.{Line}
use Rattle.dialect.specs.declared.line.Line.TheVariants.{Gives, Closes, Reads, Opens, Skips}
use Rattle.dialect.specs.declared.part.Part.{Part}
use Rattle.dialect.specs.declared.part.Part.TheVariants as part
use Rattle.memcached_spec.specs.Asked.{HasText}
use Rattle.grammar.specs.Turns.{is_left_out}
use Rattle.grammar.proofs.WordLemmas.{both_true, all_true, key_short}
use Rattle.grammar.proofs.NumberTexts.{IsSigned32, signed_word}
use Rattle.grammar.proofs.TextLemmas.{IsFitVerb, AreFitKeys, read_has_text, IsFitUpdate, update_has_text}

-- ---- turns

-- a command that removes what a set would store has a text
abbrev pub IsRemovable : Command → Type 0
IsRemovable (command.Get ks) = Unit {0}
IsRemovable (command.Gets ks) = Unit {0}
IsRemovable (command.Gat e ks) = Unit {0}
IsRemovable (command.Gats e ks) = Unit {0}
IsRemovable (command.Update (update.Store v k f e block)) = (quiet : Bool) → HasText (command.Update (update.Delete k)) quiet
IsRemovable (command.Update (update.Cas k f e block unique)) = Unit {0}
IsRemovable (command.Update (update.Delete k)) = Unit {0}
IsRemovable (command.Update (update.Touch k e)) = Unit {0}
IsRemovable (command.Update (update.Incr k delta)) = Unit {0}
IsRemovable (command.Update (update.Decr k delta)) = Unit {0}

-- the command of the turn has a text
abbrev pub IsFitTurn : Turn → Type 0
IsFitTurn (Ask c s) = HasText c (is_left_out s) × IsRemovable c
IsFitTurn (Say n) = Unit {0}
IsFitTurn (Close n) = Unit {0}

abbrev pub AreFitTurns : List Turn → Type 0
AreFitTurns [] = Unit {0}
AreFitTurns (turn ∷ turns) = IsFitTurn turn × AreFitTurns turns

pub both_fit : (turns more : List Turn) → AreFitTurns turns → AreFitTurns more → AreFitTurns (turns ++ more)
both_fit [] more p q = q
both_fit (turn ∷ turns) more p q = (p.0, both_fit turns more p.1 q)

one_fits : (turn : Option Turn) → IfSome turn IsFitTurn → AreFitTurns (option_to_list turn)
one_fits None p = tt
one_fits (Some turn) p = (p, tt)

said_fits : (quiet : Bool) (n : Notice) → IfSome (said quiet n) IsFitTurn
said_fits true n = tt
said_fits false n = tt

shown_left_out : (quiet : Bool) → quiet ≡ is_left_out (shown quiet)
shown_left_out true = refl
shown_left_out false = refl

removable : (u : Update) → IsFitUpdate u → IsRemovable (command.Update u)
removable (update.Store v k f e block) fit = λ quiet. update_has_text (update.Delete k) quiet fit.0
removable (update.Cas k f e block unique) fit = tt
removable (update.Delete k) fit = tt
removable (update.Touch k e) fit = tt
removable (update.Incr k delta) fit = tt
removable (update.Decr k delta) fit = tt

-- a command that fits is a turn that fits, whatever is shown of its reply
shown_fits : (u : Update) (s : Show) → IsFitUpdate u → IsFitTurn (Ask (command.Update u) s)
shown_fits u s fit = (update_has_text u (is_left_out s) fit, removable u fit)

update_fits : (u : Update) (quiet : Bool) → IsFitUpdate u → IsFitTurn (Ask (command.Update u) (shown quiet))
update_fits u quiet fit = (subst (HasText (command.Update u)) (shown_left_out quiet) (update_has_text u quiet fit), removable u fit)

-- ---- numbers

below_limit : (limit : ℕ) (w : List ℕ) → IfSome (number_below limit w) (λ n. n < limit)
below_limit limit w = by (is_number w && nat_lt (digits_value 10 w) limit) refl
  where
    less : (m : ℕ) → nat_lt m limit ≡ true → m < limit
    less m e = grind (arith, nat_tests)

    by : (b : Bool) → (is_number w && nat_lt (digits_value 10 w) limit) ≡ b → IfSome (if b then Some (digits_value 10 w) else None) (λ n. n < limit)
    by true e = less (digits_value 10 w) (both_true (is_number w) (nat_lt (digits_value 10 w) limit) e).1
    by false e = tt

if_either : {A : Type 0} (P : A → Type 0) (b : Bool) (x y : Option A) → IfSome x P → IfSome y P → IfSome (if b then x else y) P
if_either P true x y p q = p
if_either P false x y p q = q

if_mapped : {A B : Type 0} (P : B → Type 0) (f : A → B) (o : Option A) → ((x : A) → P (f x)) → IfSome (option_map f o) P
if_mapped P f None p = tt
if_mapped P f (Some x) p = p x

unsigned_fits : (w : List ℕ) → IfSome (unsigned_of w) (λ n. n < 2 ^ 64)
unsigned_fits [] = tt
unsigned_fits (c ∷ cs) = if_either (λ n. n < 2 ^ 64) (c == 43) _ _ (below_limit (2 ^ 64) cs) (below_limit (2 ^ 64) (c ∷ cs))

flags_fit : (w : List ℕ) → IfSome (flags_of w) (λ n. n < 2 ^ 32)
flags_fit w = if_mapped (λ n. n < 2 ^ 32) (λ n. n % 2 ^ 32) (unsigned_of w) (λ n. omega arith)

negative_fits : (m : ℕ) → m ≤ 2 ^ 31 → IsSigned32 (neg_ℤ (pos m))
negative_fits zero l = omega arith
negative_fits (suc m) l = omega (arith, l)

wrapped_fits : (n : ℕ) → IsSigned32 (wrapped n)
wrapped_fits n = by (n % 2 ^ 32) (nat_lt (n % 2 ^ 32) (2 ^ 31)) (omega arith) refl
  where
    by : (m : ℕ) (b : Bool) → m < 2 ^ 32 → nat_lt m (2 ^ 31) ≡ b → IsSigned32 (if b then pos m else neg_ℤ (pos (2 ^ 32 - m)))
    by m true l e = grind (arith, nat_tests)
    by m false l e = negative_fits (2 ^ 32 - m) (grind (arith, nat_tests))

wrapped_minus_fits : (n : ℕ) → IsSigned32 (wrapped_minus n)
wrapped_minus_fits n = by (n % 2 ^ 32) (nat_le (n % 2 ^ 32) (2 ^ 31)) (omega arith) refl
  where
    by : (m : ℕ) (b : Bool) → m < 2 ^ 32 → nat_le m (2 ^ 31) ≡ b → IsSigned32 (if b then neg_ℤ (pos m) else pos (2 ^ 32 - m))
    by m true l e = negative_fits m (grind (arith, nat_tests))
    by m false l e = grind (arith, nat_tests)

exptime_fits : (w : List ℕ) → IfSome (exptime_of w) IsSigned32
exptime_fits [] = tt
exptime_fits (c ∷ cs) = if_either IsSigned32 (c == 45) _ _ (if_mapped IsSigned32 wrapped_minus (number_below (2 ^ 63 + 1) cs) wrapped_minus_fits)
    (if_either IsSigned32 (c == 43) _ _ (if_mapped IsSigned32 wrapped (number_below (2 ^ 63) cs) wrapped_fits) (if_mapped IsSigned32 wrapped (number_below (2 ^ 63) (c ∷ cs)) wrapped_fits))

key_fits : (w : List ℕ) → IfSome (key_of w) (λ k. is_key k ≡ true)
key_fits w = by (is_key w) refl
  where
    by : (b : Bool) → is_key w ≡ b → IfSome (if b then Some w else None) (λ k. is_key k ≡ true)
    by true e = e
    by false e = tt

-- ---- storage lines

abbrev IsFitKind : Kind → Type 0
IsFitKind (kind.Plain v) = Unit {0}
IsFitKind (kind.Cas unique) = unique < 2 ^ 64

record IsFitHeader (quiet : Bool) (size : ℕ) (h : Header) : Type 0 where
  kind_fits : IsFitKind h.kind
  key : is_key h.key ≡ true
  flags : h.flags < 2 ^ 32
  exptime : IsSigned32 h.exptime
  sized : h.size ≡ size

header_by : (quiet : Bool) (size : ℕ) (k : Option Kind) (f : Option ℕ) (e : Option ℤ) (w : Option (List ℕ)) → IfSome k IsFitKind → IfSome f (λ n. n < 2 ^ 32) → IfSome e IsSigned32 → IfSome w (λ x. is_key x ≡ true)
    → IfSome (k >>= λ kind. f >>= λ flags. e >>= λ exptime. w >>= λ key. Some (let h : Header = record { kind = kind; key = key; flags = flags; exptime = exptime; size = size; quiet = quiet } in h)) (IsFitHeader quiet size)
header_by quiet size None f e w p q r s = tt
header_by quiet size (Some k) None e w p q r s = tt
header_by quiet size (Some k) (Some f) None w p q r s = tt
header_by quiet size (Some k) (Some f) (Some e) None p q r s = tt
header_by quiet size (Some k) (Some f) (Some e) (Some w) p q r s = record { kind_fits = p; key = s; flags = q; exptime = r; sized = refl }

header_fits : (quiet : Bool) (k : Option Kind) (w f e : List ℕ) → IfSome k IsFitKind → (size : ℕ) → IfSome (header_of quiet k w f e size) (IsFitHeader quiet size)
header_fits quiet k w f e p size = header_by quiet size k (flags_of f) (exptime_of e) (key_of w) p (flags_fit f) (exptime_fits e) (key_fits w)

-- a header whose size is within the limit
record IsFitOpening (o : Opening) : Type 0 where
  head_fits : IsFitHeader o.header.quiet o.header.size o.header
  small : o.header.size ≤ MOST_BLOCK_BYTES

abbrev IsFitLine : Line → Type 0
IsFitLine (Gives turn) = IfSome turn IsFitTurn
IsFitLine (Closes n) = Unit {0}
IsFitLine (Reads r) = IsFitVerb r
IsFitLine (Opens o) = IsFitOpening o
IsFitLine (Skips n turn) = IfSome turn IsFitTurn

if_fits : (b : Bool) (x y : Line) → IsFitLine x → IsFitLine y → IsFitLine (if b then x else y)
if_fits true x y p q = p
if_fits false x y p q = q

-- what is made of something that may be missing
map_or_fits : {A : Type 0} (P : A → Type 0) (o : Option A) (f : A → Line) (d : Line) → IfSome o P → ((x : A) → P x → IsFitLine (f x)) → IsFitLine d → IsFitLine (option_map_or f o d)
map_or_fits P None f d o p q = q
map_or_fits P (Some x) f d o p q = p x o

too_large_fits : (quiet : Bool) (size : ℕ) (h : Header) → IsFitHeader quiet size h → IfSome (too_large h) IsFitTurn
too_large_fits quiet size h fit = by (removes h.kind) h.quiet
  where
    by : (b q : Bool) → IfSome (if b then Some (Ask (command.Update (update.Delete h.key)) (if q then show.Quiet else show.Instead notice.TooLarge)) else said q notice.TooLarge) IsFitTurn
    by true true = (update_has_text (update.Delete h.key) true fit.key, tt)
    by true false = (update_has_text (update.Delete h.key) false fit.key, tt)
    by false q = said_fits q notice.TooLarge

storage_fits : (quiet : Bool) (size : Option ℕ) (header : ℕ → Option Header) → ((n : ℕ) → IfSome (header n) (IsFitHeader quiet n)) → IsFitLine (storage quiet size header)
storage_fits quiet None header p = said_fits quiet notice.BadFormat
storage_fits quiet (Some size) header p = by (header size) (p size)
  where
    by : (h : Option Header) → IfSome h (IsFitHeader quiet size) → IsFitLine (sized quiet size h)
    by None q = said_fits quiet notice.BadFormat
    by (Some h) q = by_size (nat_lt MOST_BLOCK_BYTES size) refl
      where
        at_most : (n : ℕ) → nat_lt MOST_BLOCK_BYTES n ≡ false → n ≤ MOST_BLOCK_BYTES
        at_most n e = grind (arith, nat_tests)

        by_size : (b : Bool) → nat_lt MOST_BLOCK_BYTES size ≡ b → IsFitLine (if b then Skips (size + 2) (too_large h) else Opens (opened_by h))
        by_size true e = too_large_fits quiet size h q
        by_size false e = record {
          head_fits = record { kind_fits = q.kind_fits; key = q.key; flags = q.flags; exptime = q.exptime; sized = refl };
          small = let few = at_most size e in let is = q.sized in omega (arith, few, is);
        }

store_fits : (v : StoreVerb) (quiet : Bool) (ws : List (List ℕ)) → IsFitLine (store_line v quiet ws)
store_fits v quiet [] = said_fits quiet notice.UnknownName
store_fits v quiet (k ∷ []) = said_fits quiet notice.UnknownName
store_fits v quiet (k ∷ f ∷ []) = said_fits quiet notice.UnknownName
store_fits v quiet (k ∷ f ∷ e ∷ []) = said_fits quiet notice.UnknownName
store_fits v quiet (k ∷ f ∷ e ∷ n ∷ last) =
    if_fits (is_end last) _ _ (storage_fits quiet (block_size_of n) (header_of quiet (Some (kind.Plain v)) k f e) (header_fits quiet (Some (kind.Plain v)) k f e tt)) (said_fits quiet notice.UnknownName)

cas_kind_fits : (u : List ℕ) → IfSome (cas_kind u) IsFitKind
cas_kind_fits u = by (unsigned_of u) (unsigned_fits u)
  where
    by : (o : Option ℕ) → IfSome o (λ n. n < 2 ^ 64) → IfSome (o >>= λ unique. Some (kind.Cas unique)) IsFitKind
    by None p = tt
    by (Some n) p = p

cas_fits : (quiet : Bool) (ws : List (List ℕ)) → IsFitLine (cas_line quiet ws)
cas_fits quiet [] = said_fits quiet notice.UnknownName
cas_fits quiet (k ∷ []) = said_fits quiet notice.UnknownName
cas_fits quiet (k ∷ f ∷ []) = said_fits quiet notice.UnknownName
cas_fits quiet (k ∷ f ∷ e ∷ []) = said_fits quiet notice.UnknownName
cas_fits quiet (k ∷ f ∷ e ∷ n ∷ []) = said_fits quiet notice.UnknownName
cas_fits quiet (k ∷ f ∷ e ∷ n ∷ u ∷ last) =
    if_fits (is_end last) _ _ (storage_fits quiet (block_size_of n) (header_of quiet (cas_kind u) k f e) (header_fits quiet (cas_kind u) k f e (cas_kind_fits u))) (said_fits quiet notice.UnknownName)

-- ---- pieces of many keys

all_push : (ks : List (List ℕ)) (k : List ℕ) → list_all is_key ks ≡ true → is_key k ≡ true → list_all is_key (ks ++ k ∷ []) ≡ true
all_push [] k e f = all_true (is_key k) true f refl
all_push (x ∷ ks) k e f =
    let parts = both_true (is_key x) (list_all is_key ks) e in
    all_true (is_key x) (list_all is_key (ks ++ k ∷ [])) parts.0 (all_push ks k parts.1 f)

head_short : (r : ReadVerb) → IsFitVerb r → length (head r) ≤ 255
head_short reading.Get fit = lit≤ tt
head_short reading.Gets fit = lit≤ tt
head_short (reading.Gat exptime) fit =
    let long = key_short (signed_decimal exptime) (signed_word exptime fit) in
    let whole = length-append (codes "gat ") (signed_decimal exptime) in
    omega (arith, long, whole)
head_short (reading.Gats exptime) fit =
    let long = key_short (signed_decimal exptime) (signed_word exptime fit) in
    let whole = length-append (codes "gats ") (signed_decimal exptime) in
    omega (arith, long, whole)

text_one : (r : ReadVerb) (k : List ℕ) → length (read_text r (k ∷ [])) ≡ length (head r) + length k + 3
unfolding read_text
text_one r k = simp length-append (omega arith)

one_key : (r : ReadVerb) (k : List ℕ) → IsFitVerb r → is_key k ≡ true → AreFitKeys r (k ∷ [])
one_key r k fit e = record {
  valid = all_true (is_key k) true e refl;
  some = lit≤ tt;
  few = lit≤ tt;
  short = let small = key_short k e in let long = head_short r fit in let whole = text_one r k in omega (arith, small, long, whole);
}

one_more_key : (r : ReadVerb) (ks : List (List ℕ)) (k : List ℕ) → AreFitKeys r ks → is_key k ≡ true → keys_fit r (ks ++ k ∷ []) ≡ true → AreFitKeys r (ks ++ k ∷ [])
unfolding keys_fit
one_more_key r ks k fit e f =
    let parts = both_true (nat_le (length (ks ++ k ∷ [])) MOST_KEYS) (nat_le (length (read_text r (ks ++ k ∷ []))) profile.MOST_LINE_BYTES) f in
    let more = length-append ks (k ∷ []) in
    record {
      valid = all_push ks k fit.valid e;
      some = omega (arith, more);
      few = at_most (length (ks ++ k ∷ [])) MOST_KEYS parts.0;
      short = at_most (length (read_text r (ks ++ k ∷ []))) profile.MOST_LINE_BYTES parts.1;
    }
  where
    at_most : (m n : ℕ) → nat_le m n ≡ true → m ≤ n
    at_most m n e = grind (arith, nat_tests)

read_removable : (r : ReadVerb) (ks : List (List ℕ)) → IsRemovable (read_command r ks)
read_removable reading.Get ks = tt
read_removable reading.Gets ks = tt
read_removable (reading.Gat exptime) ks = tt
read_removable (reading.Gats exptime) ks = tt

pieces_fit : (r : ReadVerb) (ks more : List (List ℕ)) → IsFitVerb r → AreFitKeys r ks → list_all is_key more ≡ true → AreFitTurns (piece_turns r ks more)
pieces_fit r ks [] verb fit e = ((read_has_text r ks verb fit, read_removable r ks), tt)
pieces_fit r ks (k ∷ more) verb fit e =
    let parts = both_true (is_key k) (list_all is_key more) e in
    by (keys_fit r (ks ++ k ∷ [])) (λ f. pieces_fit r (ks ++ k ∷ []) more verb (one_more_key r ks k fit parts.0 f) parts.1) (pieces_fit r (k ∷ []) more verb (one_key r k verb parts.0) parts.1) refl
  where
    by : (b : Bool) → (keys_fit r (ks ++ k ∷ []) ≡ true → AreFitTurns (piece_turns r (ks ++ k ∷ []) more)) → AreFitTurns (piece_turns r (k ∷ []) more) → keys_fit r (ks ++ k ∷ []) ≡ b
        → AreFitTurns (if b then piece_turns r (ks ++ k ∷ []) more else Ask (read_command r ks) show.Items ∷ piece_turns r (k ∷ []) more)
    by true go begin f = go f
    by false go begin f = ((read_has_text r ks verb fit, read_removable r ks), begin)

reads_fit : (r : ReadVerb) (ks : List (List ℕ)) → IsFitVerb r → AreFitTurns (read_turns r ks)
reads_fit r [] verb = (tt, tt)
reads_fit r (k ∷ ks) verb = by (list_all is_key (k ∷ ks)) refl
  where
    by : (b : Bool) → list_all is_key (k ∷ ks) ≡ b → AreFitTurns (if b then piece_turns r (k ∷ []) ks else Say notice.BadFormat ∷ [])
    by true e = let parts = both_true (is_key k) (list_all is_key ks) e in pieces_fit r (k ∷ []) ks verb (one_key r k verb parts.0) parts.1
    by false e = (tt, tt)

-- ---- other lines

on_key_fits : (quiet : Bool) (w : List ℕ) (of_key : List ℕ → Line) → ((key : List ℕ) → is_key key ≡ true → IsFitLine (of_key key)) → IsFitLine (on_key quiet w of_key)
on_key_fits quiet w of_key p = map_or_fits (λ k. is_key k ≡ true) (key_of w) of_key (says_notice quiet notice.BadFormat) (key_fits w) p (said_fits quiet notice.BadFormat)

delete_fits : (ws : List (List ℕ)) → IsFitLine (delete_line ws)
delete_fits [] = tt
delete_fits (k ∷ last) =
    if_fits (is_delete_end last) _ _ (on_key_fits (says_noreply last) k _ (λ key e. update_fits (update.Delete key) (says_noreply last) e)) (said_fits (says_noreply last) notice.BadDelete)

touch_fits : (quiet : Bool) (ws : List (List ℕ)) → IsFitLine (touch_line quiet ws)
touch_fits quiet [] = said_fits quiet notice.UnknownName
touch_fits quiet (k ∷ []) = said_fits quiet notice.UnknownName
touch_fits quiet (k ∷ e ∷ last) = if_fits (is_end last) _ _
    (on_key_fits quiet k _ (λ key h. map_or_fits IsSigned32 (exptime_of e) _ _ (exptime_fits e) (λ exptime x. update_fits (update.Touch key exptime) quiet (h, x)) (said_fits quiet notice.BadExptime)))
    (said_fits quiet notice.UnknownName)

counting_fits : (up : Bool) (key : List ℕ) (delta : ℕ) → is_key key ≡ true → delta < 2 ^ 64 → IsFitUpdate (counting up key delta)
counting_fits true key delta e l = (e, l)
counting_fits false key delta e l = (e, l)

delta_fits : (up quiet : Bool) (ws : List (List ℕ)) → IsFitLine (delta_line up quiet ws)
delta_fits up quiet [] = said_fits quiet notice.UnknownName
delta_fits up quiet (k ∷ []) = said_fits quiet notice.UnknownName
delta_fits up quiet (k ∷ d ∷ last) = if_fits (is_end last) _ _
    (on_key_fits quiet k _ (λ key h. map_or_fits (λ n. n < 2 ^ 64) (unsigned_of d) _ _ (unsigned_fits d) (λ delta l. update_fits (counting up key delta) quiet (counting_fits up key delta h l)) (said_fits quiet notice.BadDelta)))
    (said_fits quiet notice.UnknownName)

verbosity_fits : (quiet : Bool) (ws : List (List ℕ)) → IsFitLine (verbosity_line quiet ws)
verbosity_fits quiet [] = said_fits quiet notice.UnknownName
verbosity_fits quiet (n ∷ last) = if_fits (is_end last) _ _ (said_fits quiet _) (said_fits quiet notice.UnknownName)

timed_fits : (read : ℤ → Line) (ws : List (List ℕ)) → ((exptime : ℤ) → IsSigned32 exptime → IsFitLine (read exptime)) → IsFitLine (timed_line read ws)
timed_fits read [] p = tt
timed_fits read (e ∷ ks) p = map_or_fits IsSigned32 (exptime_of e) read _ (exptime_fits e) p tt

-- ---- lines of meta commands

bound_fits : {A B : Type 0} (P : B → Type 0) (o : Option A) (f : A → Option B) → ((x : A) → IfSome (f x) P) → IfSome (o >>= f) P
bound_fits P None f p = tt
bound_fits P (Some x) f p = p x

or_fits : {A : Type 0} (P : A → Type 0) (o : Option A) (d : A) → IfSome o P → P d → P (unwrap_or o d)
or_fits P None d p q = q
or_fits P (Some x) d p q = p

token_exptime : (ws : List (List ℕ)) → IfSome (exptime_in ws) IsSigned32
token_exptime ws = bound_fits IsSigned32 (token_behind (codes "T") ws) exptime_of exptime_fits

token_unique : (ws : List (List ℕ)) → IfSome (unique_in ws) (λ n. n < 2 ^ 64)
token_unique ws = bound_fits (λ n. n < 2 ^ 64) (token_behind (codes "C") ws) unsigned_of unsigned_fits

-- a line that has a key if nothing is wrong
checked_fits : (m : Meta) (k : List ℕ) (ws : List (List ℕ)) (of_key : List ℕ → Line) → ((key : List ℕ) → is_key key ≡ true → IsFitLine (of_key key)) → IsFitLine (on_checked (checked m k ws) of_key)
unfolding checked
checked_fits m k ws of_key p = by (key_of k) (key_fits k) (first_fault m ws)
  where
    by : (key : Option (List ℕ)) → IfSome key (λ x. is_key x ≡ true) → (fault : Option Notice)
        → IsFitLine (on_checked (option_map_or (λ key. option_map_or (λ n. Err n) fault (Ok key)) key (Err notice.BadFormat)) of_key)
    by None e fault = tt
    by (Some key) e None = p key e
    by (Some key) e (Some n) = tt

get_fits : (key : List ℕ) (ws : List (List ℕ)) → is_key key ≡ true → HasText (get_command key ws) false × IsRemovable (get_command key ws)
get_fits key ws e = by (exptime_in ws) (token_exptime ws)
  where
    asked : Option ℤ → Command
    asked x = option_map_or (λ exptime. command.Gats exptime (key ∷ [])) x (command.Gets (key ∷ []))

    by : (x : Option ℤ) → IfSome x IsSigned32 → HasText (asked x) false × IsRemovable (asked x)
    by None p = (read_has_text reading.Gets (key ∷ []) tt (one_key reading.Gets key tt e), tt)
    by (Some x) p = (read_has_text (reading.Gats x) (key ∷ []) p (one_key (reading.Gats x) key p e), tt)

removal_fits : (key : List ℕ) (ws : List (List ℕ)) → is_key key ≡ true → IsFitUpdate (delete_update key ws)
removal_fits key ws e = by (unique_in ws) (token_unique ws)
  where
    by : (u : Option ℕ) → IfSome u (λ n. n < 2 ^ 64) → IsFitUpdate (option_map_or (λ unique. update.Cas key 0 (neg_ℤ (pos 1)) [] unique) u (update.Delete key))
    by None p = e
    by (Some u) p = (e, lit< tt, lit< tt, lit≤ tt, p)

count_fits : (key : List ℕ) (ws : List (List ℕ)) → is_key key ≡ true → IsFitUpdate (count_update key ws)
count_fits key ws e =
    counting_fits (unwrap_or (direction_in ws) true) key (unwrap_or (delta_in ws) 1) e
    (or_fits (λ n. n < 2 ^ 64) (delta_in ws) 1 (bound_fits (λ n. n < 2 ^ 64) (token_behind (codes "D") ws) unsigned_of unsigned_fits) (lit< tt))

comparing_fits : (v : StoreVerb) (unique : ℕ) → unique < 2 ^ 64 → IfSome (comparing v unique) IsFitKind
comparing_fits verb.Set unique l = l
comparing_fits verb.Add unique l = tt
comparing_fits verb.Replace unique l = l
comparing_fits verb.Append unique l = tt
comparing_fits verb.Prepend unique l = tt

kind_fits_in : (ws : List (List ℕ)) → IfSome (kind_in ws) IsFitKind
kind_fits_in ws = by (unique_in ws) (token_unique ws)
  where
    by : (u : Option ℕ) → IfSome u (λ n. n < 2 ^ 64) → IfSome (option_map_or (comparing (unwrap_or (verb_in ws) verb.Set)) u (Some (kind.Plain (unwrap_or (verb_in ws) verb.Set)))) IsFitKind
    by None p = tt
    by (Some u) p = comparing_fits (unwrap_or (verb_in ws) verb.Set) u p

module _ (size : ℕ) (key : List ℕ) (ws : List (List ℕ)) (valid : is_key key ≡ true) where
  opened_fits : (k : Kind) → IsFitKind k → size ≤ MOST_BLOCK_BYTES → IsFitOpening (opening size key ws k)
  opened_fits k p l = record {
    head_fits = record {
      kind_fits = p;
      key = valid;
      flags = or_fits (λ n. n < 2 ^ 32) (flags_in ws) 0 (bound_fits (λ n. n < 2 ^ 32) (token_behind (codes "F") ws) flags_of flags_fit) (lit< tt);
      exptime = or_fits IsSigned32 (exptime_in ws) (pos 0) (token_exptime ws) (lit< tt);
      sized = refl;
    };
    small = l;
  }

  sized_fits : (k : Kind) → IsFitKind k → (b : Bool) → nat_lt MOST_BLOCK_BYTES size ≡ b
      → IsFitLine (if b then Skips (size + 2) (Some (Ask (command.Update (update.Delete key)) (show.Instead notice.TooLarge))) else Opens (opening size key ws k))
  sized_fits k p true e = (update_has_text (update.Delete key) false valid, tt)
  sized_fits k p false e = opened_fits k p (at_most size e)
    where
      at_most : (n : ℕ) → nat_lt MOST_BLOCK_BYTES n ≡ false → n ≤ MOST_BLOCK_BYTES
      at_most n e = grind (arith, nat_tests)

  kinds_fit : (k : Option Kind) → IfSome k IsFitKind → IsFitLine (sized_set size (option_map_or (λ k. Ok (opening size key ws k)) k (Err notice.UnknownFlag)))
  kinds_fit None p = tt
  kinds_fit (Some k) p = sized_fits k p (nat_lt MOST_BLOCK_BYTES size) refl

set_key_fits : (k : List ℕ) (size : ℕ) (ws : List (List ℕ)) → IsFitLine (sized_set size (opening_of size ws (checked meta.Set k ws)))
unfolding checked
set_key_fits k size ws = by (key_of k) (key_fits k) (first_fault meta.Set ws)
  where
    by : (key : Option (List ℕ)) → IfSome key (λ x. is_key x ≡ true) → (fault : Option Notice)
        → IsFitLine (sized_set size (opening_of size ws (option_map_or (λ key. option_map_or (λ n. Err n) fault (Ok key)) key (Err notice.BadFormat))))
    by None e fault = tt
    by (Some key) e None = kinds_fit size key ws e (kind_in ws) (kind_fits_in ws)
    by (Some key) e (Some n) = tt

set_fits : (k : List ℕ) (ws : List (List ℕ)) → IsFitLine (set_line k ws)
set_fits k [] = tt
set_fits k (n ∷ ws) = by (block_size_of n)
  where
    by : (o : Option ℕ) → IsFitLine (option_map_or (λ size. sized_set size (opening_of size ws (checked meta.Set k ws))) o (says_one notice.BadFormat))
    by None = tt
    by (Some size) = set_key_fits k size ws

meta_fits : (m : Meta) (ws : List (List ℕ)) → IsFitLine (meta_line m ws)
unfolding key_line
meta_fits m [] = tt
meta_fits meta.Get (k ∷ ws) = checked_fits meta.Get k ws _ (λ key e. get_fits key ws e)
meta_fits meta.Set (k ∷ ws) = set_fits k ws
meta_fits meta.Delete (k ∷ ws) = checked_fits meta.Delete k ws _ (λ key e. (update_has_text (delete_update key ws) false (removal_fits key ws e), removable (delete_update key ws) (removal_fits key ws e)))
meta_fits meta.Count (k ∷ ws) = checked_fits meta.Count k ws _ (λ key e. (update_has_text (count_update key ws) false (count_fits key ws e), removable (count_update key ws) (count_fits key ws e)))

line_fits : (n : Name) (quiet : Bool) (ws : List (List ℕ)) → IsFitLine (line_of n quiet ws)
line_fits (name.Store v) quiet ws = store_fits v quiet ws
line_fits name.Cas quiet ws = cas_fits quiet ws
line_fits name.Get quiet ws = tt
line_fits name.Gets quiet ws = tt
line_fits name.Gat quiet ws = timed_fits (λ exptime. Reads (reading.Gat exptime)) ws (λ exptime x. x)
line_fits name.Gats quiet ws = timed_fits (λ exptime. Reads (reading.Gats exptime)) ws (λ exptime x. x)
line_fits name.Delete quiet ws = delete_fits ws
line_fits name.Touch quiet ws = touch_fits quiet ws
line_fits name.Incr quiet ws = delta_fits true quiet ws
line_fits name.Decr quiet ws = delta_fits false quiet ws
line_fits name.Version quiet ws = tt
line_fits name.Quit quiet ws = tt
line_fits name.Verbosity quiet ws = verbosity_fits quiet ws
line_fits name.FlushAll quiet ws = said_fits quiet notice.FlushRefused
line_fits name.Shutdown quiet ws = said_fits quiet notice.ShutdownRefused
line_fits name.MetaNoop quiet ws = tt
line_fits name.Stats quiet ws = tt
line_fits name.Crawler quiet ws = tt
line_fits (name.Meta m) quiet ws = meta_fits m ws
line_fits name.Http quiet ws = if_fits (list_any is_http_version ws) _ _ tt tt

-- ---- a line, and what belongs to it

abbrev IsFitPart : Part → Type 0
IsFitPart part.Line = Unit {0}
IsFitPart (part.Block o) = IsFitOpening o
IsFitPart (part.Unread n turn) = IfSome turn IsFitTurn
IsFitPart part.Closed = Unit {0}

line_turns_fit : (l : Line) (ws : List (List ℕ)) → IsFitLine l → AreFitTurns (meaning_of_line l ws).turns × IsFitPart (meaning_of_line l ws).part
line_turns_fit (Gives turn) ws p = (one_fits turn p, tt)
line_turns_fit (Closes n) ws p = ((tt, tt), tt)
line_turns_fit (Reads r) ws p = (reads_fit r (keys_in r ws) p, tt)
line_turns_fit (Opens h) ws p = (tt, p)
line_turns_fit (Skips n turn) ws p = (tt, p)

words_fit : (ws : List (List ℕ)) → AreFitTurns (meaning_of_words ws).turns × IsFitPart (meaning_of_words ws).part
words_fit [] = ((tt, tt), tt)
words_fit (w ∷ ws) = by (name_of w)
  where
    by : (n : Option Name) → AreFitTurns (option_map_or (λ (m : Name). meaning_of_line (line_of m (says_noreply ws) ws) ws) n unknown).turns × IsFitPart (option_map_or (λ (m : Name). meaning_of_line (line_of m (says_noreply ws) ws) ws) n unknown).part
    by None = ((tt, tt), tt)
    by (Some n) = line_turns_fit (line_of n (says_noreply ws) ws) ws (line_fits n (says_noreply ws) ws)

meaning_fits : (text : List ℕ) → AreFitTurns (meaning text).turns × IsFitPart (meaning text).part
unfolding meaning
meaning_fits text = words_fit (words (without_return text))

filled_fits : (o : Opening) (block : List ℕ) → IsFitOpening o → length block ≤ MOST_BLOCK_BYTES → IsFitTurn (Ask (filled o.header block) o.show)
filled_fits o block fit few = by o.header.kind fit.head_fits.kind_fits
  where
    by : (k : Kind) → IsFitKind k → IsFitTurn (Ask (filled (record o.header { kind = k }) block) o.show)
    by (kind.Plain v) p = shown_fits (update.Store v o.header.key o.header.flags o.header.exptime block) o.show (fit.head_fits.key, fit.head_fits.flags, fit.head_fits.exptime, few)
    by (kind.Cas unique) p = shown_fits (update.Cas o.header.key o.header.flags o.header.exptime block unique) o.show (fit.head_fits.key, fit.head_fits.flags, fit.head_fits.exptime, few, p)

take_few : (n : ℕ) (xs : List ℕ) → length (take n xs) ≤ n
take_few zero xs = omega arith
take_few (suc n) [] = omega arith
take_few (suc n) (x ∷ xs) = let l = take_few n xs in omega (arith, l)

block_fits : (o : Opening) (bytes : List ℕ) → IsFitOpening o → IfSome (block_turn o bytes) IsFitTurn
block_fits o bytes fit = by (bytes_eq (drop o.header.size bytes) (13 ∷ 10 ∷ []))
  where
    few : length (take o.header.size bytes) ≤ MOST_BLOCK_BYTES
    few = let l = take_few o.header.size bytes in let small = fit.small in omega (arith, l, small)

    by : (b : Bool) → IfSome (if b then Some (Ask (filled o.header (take o.header.size bytes)) o.show) else said o.header.quiet notice.BadChunk) IsFitTurn
    by true = filled_fits o (take o.header.size bytes) fit few
    by false = said_fits o.header.quiet notice.BadChunk

-- ---- all that bytes spell

pub spelled_fit : (bytes : List ℕ) (turns : List Turn) → Spells bytes turns → AreFitTurns turns
spelled_fit _ _ (part_of_line text l) = tt
spelled_fit _ _ (part_of_block text block l e) = (meaning_fits text).0
spelled_fit _ _ (line text after turns l e s) = both_fit (meaning text).turns turns (meaning_fits text).0 (spelled_fit after turns s)
spelled_fit _ _ (with_block text block after turns h l e n s) =
    let opens : IsFitOpening h = subst IsFitPart e (meaning_fits text).1 in
    both_fit (meaning text).turns (option_to_list (block_turn h block) ++ turns) (meaning_fits text).0
    (both_fit (option_to_list (block_turn h block)) turns (one_fits (block_turn h block) (block_fits h block opens)) (spelled_fit after turns s))
spelled_fit _ _ (unread text block after turns n turn l e m s) =
    let skips : IfSome turn IsFitTurn = subst IsFitPart e (meaning_fits text).1 in
    both_fit (meaning text).turns (option_to_list turn ++ turns) (meaning_fits text).0 (both_fit (option_to_list turn) turns (one_fits turn skips) (spelled_fit after turns s))
spelled_fit _ _ (closing text after l e) = (meaning_fits text).0
spelled_fit _ _ (too_long text after h n t) = (tt, tt)
spelled_fit _ _ (binary after) = (tt, tt)

pub one_has_text : (turns : List Turn) (c : Command) (s : Show) → AreFitTurns turns → Contains turns (Ask c s) → HasText c (is_left_out s)
one_has_text [] c s fit (i, lt, e) = absurd (omega (arith, lt))
one_has_text (turn ∷ turns) c s fit (zero, lt, e) = (subst IsFitTurn e fit.0).0
one_has_text (turn ∷ turns) c s fit (suc i, lt, e) = one_has_text turns c s fit.1 (i, omega (arith, lt), e)

pub memcached_has_text : (bytes : List ℕ) (turns : List Turn) (c : Command) (s : Show) → Spells bytes turns → Contains turns (Ask c s) → HasText c (is_left_out s)
memcached_has_text bytes turns c s spells there = one_has_text turns c s (spelled_fit bytes turns spells) there
