-- What comes after a line is within its limits.
use Rattle.std.proofs.Common.{◌≡◌, ℕ, ◌+◌, ◌<◌, ◌≤◌, Bool, true, false, List, [], ◌∷◌, Option, Some, None, IfSome, refl, arith, lit<, if◌then◌else◌}
use Rattle.std.specs.Prelude.{ℤ, nat_lt}
use Rattle.std.specs.Option.{option_map_or}
use Rattle.std.specs.List.{list_any}
use Rattle.proto.specs.Line.{◌>>=◌, key_of, words}
use Rattle.proto.specs.declared.block.TheConstants.{MOST_BLOCK_BYTES}
use Rattle.proto.specs.declared.command.StoreVerb.{StoreVerb}
use Rattle.proto.specs.declared.line.Header.{Header}
use Rattle.proto.specs.declared.line.Kind.{Kind}
use Rattle.proto.specs.declared.line.Kind.TheVariants as kind
use Rattle.dialect.specs.Number.{unsigned_of, flags_of, exptime_of, block_size_of}
use Rattle.dialect.specs.Name.{name_of}
use Rattle.dialect.specs.Line.{says_noreply, is_end, is_delete_end, is_http_version, too_large, opened_by, sized, storage, header_of, cas_kind, store_line, cas_line, delete_line, touch_line, delta_line, verbosity_line, timed_line, line_of}
use Rattle.dialect.specs.Meta.{meta_line}
use Rattle.dialect.specs.Meaning.{meaning, meaning_of_words, meaning_of_line, unknown, without_return}
use Rattle.dialect.specs.State.{HoldsWithin}
use Rattle.dialect.specs.declared.meta.Meta.{Meta}
use Rattle.dialect.specs.declared.line.Name.{Name}
use Rattle.dialect.specs.declared.line.Name.TheVariants as name
use Rattle.dialect.specs.declared.line.Line.{Line}
use Rattle.dialect.specs.declared.line.Line.TheVariants.{Gives, Closes, Reads, Opens, Skips}
use Rattle.dialect.proofs.RunLemmas.{lt_no}
use Rattle.dialect.proofs.MetaLemmas.{meta_by}

-- what belongs to the line has a size within the limits
abbrev IsSound : Line → Type 0
IsSound (Gives turn) = Unit {0}
IsSound (Closes notice) = Unit {0}
IsSound (Reads r) = Unit {0}
IsSound (Opens o) = o.header.size ≤ MOST_BLOCK_BYTES
IsSound (Skips n turn) = 0 < n

if_sound : (b : Bool) (x y : Line) → IsSound x → IsSound y → IsSound (if b then x else y)
if_sound true x y p q = p
if_sound false x y p q = q

map_or_sound : {A : Type 0} (o : Option A) (f : A → Line) (d : Line) → ((x : A) → IsSound (f x)) → IsSound d → IsSound (option_map_or f o d)
map_or_sound None f d p q = q
map_or_sound (Some x) f d p q = p x

-- a header has the size that was read
has_size : (quiet : Bool) (size : ℕ) (k : Option Kind) (f : Option ℕ) (e : Option ℤ) (w : Option (List ℕ))
    → IfSome (k >>= λ kind. f >>= λ flags. e >>= λ exptime. w >>= λ key. Some (let h : Header = record { kind = kind; key = key; flags = flags; exptime = exptime; size = size; quiet = quiet } in h)) (λ (h : Header). h.size ≡ size)
has_size quiet size None f e w = tt
has_size quiet size (Some k) None e w = tt
has_size quiet size (Some k) (Some f) None w = tt
has_size quiet size (Some k) (Some f) (Some e) None = tt
has_size quiet size (Some k) (Some f) (Some e) (Some w) = refl

pub header_size : (quiet : Bool) (k : Option Kind) (w f e : List ℕ) (size : ℕ) → IfSome (header_of quiet k w f e size) (λ h. h.size ≡ size)
header_size quiet k w f e size = has_size quiet size k (flags_of f) (exptime_of e) (key_of w)

sized_sound : (quiet : Bool) (size : ℕ) (header : Option Header) → IfSome header (λ h. h.size ≡ size) → IsSound (sized quiet size header)
sized_sound quiet size None e = omega arith
sized_sound quiet size (Some h) e = by (nat_lt MOST_BLOCK_BYTES size) refl
  where
    by : (big : Bool) → nat_lt MOST_BLOCK_BYTES size ≡ big → IsSound (if big then Skips (size + 2) (too_large h) else Opens (opened_by h))
    by true is = omega arith
    by false is = let small : size ≤ MOST_BLOCK_BYTES = lt_no MOST_BLOCK_BYTES size is in omega (arith, e)

storage_sound : (quiet : Bool) (size : Option ℕ) (header : ℕ → Option Header) → ((n : ℕ) → IfSome (header n) (λ h. h.size ≡ n)) → IsSound (storage quiet size header)
storage_sound quiet None header e = tt
storage_sound quiet (Some size) header e = sized_sound quiet size (header size) (e size)

store_sound : (v : StoreVerb) (quiet : Bool) (ws : List (List ℕ)) → IsSound (store_line v quiet ws)
store_sound v quiet [] = tt
store_sound v quiet (k ∷ []) = tt
store_sound v quiet (k ∷ f ∷ []) = tt
store_sound v quiet (k ∷ f ∷ e ∷ []) = tt
store_sound v quiet (k ∷ f ∷ e ∷ n ∷ last) =
    if_sound (is_end last) _ _ (storage_sound quiet (block_size_of n) (header_of quiet (Some (kind.Plain v)) k f e) (header_size quiet (Some (kind.Plain v)) k f e)) tt

cas_sound : (quiet : Bool) (ws : List (List ℕ)) → IsSound (cas_line quiet ws)
cas_sound quiet [] = tt
cas_sound quiet (k ∷ []) = tt
cas_sound quiet (k ∷ f ∷ []) = tt
cas_sound quiet (k ∷ f ∷ e ∷ []) = tt
cas_sound quiet (k ∷ f ∷ e ∷ n ∷ []) = tt
cas_sound quiet (k ∷ f ∷ e ∷ n ∷ u ∷ last) =
    if_sound (is_end last) _ _ (storage_sound quiet (block_size_of n) (header_of quiet (cas_kind u) k f e) (header_size quiet (cas_kind u) k f e)) tt

delete_sound : (ws : List (List ℕ)) → IsSound (delete_line ws)
delete_sound [] = tt
delete_sound (k ∷ last) = if_sound (is_delete_end last) _ _ (map_or_sound (key_of k) _ _ (λ key. tt) tt) tt

touch_sound : (quiet : Bool) (ws : List (List ℕ)) → IsSound (touch_line quiet ws)
touch_sound quiet [] = tt
touch_sound quiet (k ∷ []) = tt
touch_sound quiet (k ∷ e ∷ last) = if_sound (is_end last) _ _ (map_or_sound (key_of k) _ _ (λ key. map_or_sound (exptime_of e) _ _ (λ exptime. tt) tt) tt) tt

delta_sound : (up quiet : Bool) (ws : List (List ℕ)) → IsSound (delta_line up quiet ws)
delta_sound up quiet [] = tt
delta_sound up quiet (k ∷ []) = tt
delta_sound up quiet (k ∷ d ∷ last) = if_sound (is_end last) _ _ (map_or_sound (key_of k) _ _ (λ key. map_or_sound (unsigned_of d) _ _ (λ delta. tt) tt) tt) tt

verbosity_sound : (quiet : Bool) (ws : List (List ℕ)) → IsSound (verbosity_line quiet ws)
verbosity_sound quiet [] = tt
verbosity_sound quiet (n ∷ last) = if_sound (is_end last) _ _ tt tt

timed_sound : (read : ℤ → Line) (ws : List (List ℕ)) → ((exptime : ℤ) → IsSound (read exptime)) → IsSound (timed_line read ws)
timed_sound read [] p = tt
timed_sound read (e ∷ ks) p = map_or_sound (exptime_of e) read _ p tt

meta_sound : (m : Meta) (ws : List (List ℕ)) → IsSound (meta_line m ws)
meta_sound m ws = meta_by IsSound (λ turn. tt) (λ size n. omega arith) (λ size key. omega arith) (λ size key ws k e. lt_no MOST_BLOCK_BYTES size e) m ws

line_sound : (n : Name) (quiet : Bool) (ws : List (List ℕ)) → IsSound (line_of n quiet ws)
line_sound (name.Store v) quiet ws = store_sound v quiet ws
line_sound name.Cas quiet ws = cas_sound quiet ws
line_sound name.Get quiet ws = tt
line_sound name.Gets quiet ws = tt
line_sound name.Gat quiet ws = timed_sound _ ws (λ exptime. tt)
line_sound name.Gats quiet ws = timed_sound _ ws (λ exptime. tt)
line_sound name.Delete quiet ws = delete_sound ws
line_sound name.Touch quiet ws = touch_sound quiet ws
line_sound name.Incr quiet ws = delta_sound true quiet ws
line_sound name.Decr quiet ws = delta_sound false quiet ws
line_sound name.Version quiet ws = tt
line_sound name.Quit quiet ws = tt
line_sound name.Verbosity quiet ws = verbosity_sound quiet ws
line_sound name.FlushAll quiet ws = tt
line_sound name.Shutdown quiet ws = tt
line_sound name.MetaNoop quiet ws = tt
line_sound name.Stats quiet ws = tt
line_sound name.Crawler quiet ws = tt
line_sound (name.Meta m) quiet ws = meta_sound m ws
line_sound name.Http quiet ws = if_sound (list_any is_http_version ws) _ _ tt tt

given_within : (l : Line) (ws : List (List ℕ)) → IsSound l → HoldsWithin (meaning_of_line l ws).part []
given_within (Gives turn) ws s = lit< tt
given_within (Closes notice) ws s = refl
given_within (Reads r) ws s = lit< tt
given_within (Opens h) ws s = (omega arith, s)
given_within (Skips n turn) ws s = (s, refl)

words_within : (ws : List (List ℕ)) → HoldsWithin (meaning_of_words ws).part []
words_within [] = lit< tt
words_within (w ∷ ws) = by (name_of w)
  where
    by : (n : Option Name) → HoldsWithin (option_map_or (λ (m : Name). meaning_of_line (line_of m (says_noreply ws) ws) ws) n unknown).part []
    by None = lit< tt
    by (Some n) = given_within (line_of n (says_noreply ws) ws) ws (line_sound n (says_noreply ws) ws)

-- what comes after a line, if nothing of it is there yet
pub meaning_within : (line : List ℕ) → HoldsWithin (meaning line).part []
unfolding meaning
meaning_within line = words_within (words (without_return line))
