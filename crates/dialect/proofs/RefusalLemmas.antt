-- A line that is refused asks nothing, but for what a set that is too large removes.
use Rattle.std.proofs.Common.{◌≡◌, ℕ, ◌+◌, Bool, true, false, List, [], ◌∷◌, ◌++◌, Option, Some, None, IfSome, ◌⊎◌, inl, inr, refl, sym, ◌∙◌, if◌then◌else◌}
use Rattle.std.specs.Prelude.{ℤ, nat_lt}
use Rattle.std.specs.List.{list_all, list_any}
use Rattle.std.specs.Option.{option_map_or}
use Rattle.proto.specs.Key.{is_key}
use Rattle.proto.specs.Line.{key_of, words}
use Rattle.proto.specs.declared.block.TheConstants.{MOST_BLOCK_BYTES}
use Rattle.proto.specs.declared.command.StoreVerb.{StoreVerb}
use Rattle.proto.specs.declared.command.Command.TheVariants as command
use Rattle.proto.specs.declared.command.Update.TheVariants as update
use Rattle.proto.specs.declared.line.Header.{Header}
use Rattle.proto.specs.declared.line.Kind.TheVariants as kind
use Rattle.dialect.specs.Number.{unsigned_of, exptime_of, block_size_of}
use Rattle.dialect.specs.Name.{name_of}
use Rattle.dialect.specs.Reading.{piece_turns, read_turns, keys_in, keys_fit, read_command}
use Rattle.dialect.specs.Line.{says_noreply, is_end, is_delete_end, is_http_version, said, removes, too_large, opened_by, sized, storage, header_of, cas_kind, store_line, cas_line, delete_line, touch_line, delta_line, verbosity_line, timed_line, line_of}
use Rattle.dialect.specs.Meta.{meta_line}
use Rattle.dialect.specs.Meaning.{meaning, meaning_of_words, meaning_of_line, unknown, without_return}
use Rattle.dialect.specs.Laws.{commands, speaks, OnlyRemoves, UnreadOnlyRemoves}
use Rattle.dialect.proofs.MetaLemmas.{meta_by}
use Rattle.dialect.specs.declared.turn.Notice.{Notice}
use Rattle.dialect.specs.declared.turn.Notice.TheVariants as notice
use Rattle.dialect.specs.declared.turn.Show.TheVariants as show
use Rattle.dialect.specs.declared.turn.Turn.{Turn}
use Rattle.dialect.specs.declared.turn.Turn.TheVariants.{Ask, Say, Close}
use Rattle.dialect.specs.declared.meta.Meta.{Meta}
use Rattle.dialect.specs.declared.line.Name.{Name}
use Rattle.dialect.specs.declared.line.Name.TheVariants as name
use Rattle.dialect.specs.declared.line.ReadVerb.{ReadVerb}
use Rattle.dialect.specs.declared.line.Line.{Line}
use Rattle.dialect.specs.declared.line.Line.TheVariants.{Gives, Closes, Reads, Opens, Skips}

-- no text by itself, or no command
abbrev IsEither : List Turn → Type 0
IsEither turns = (speaks turns ≡ false) ⊎ (commands turns ≡ [])

ask_either : (r : ReadVerb) (ks : List (List ℕ)) (k : List ℕ) (more : List (List ℕ)) (b : Bool) → speaks (piece_turns r (ks ++ k ∷ []) more) ≡ false → speaks (piece_turns r (k ∷ []) more) ≡ false
    → speaks (if b then piece_turns r (ks ++ k ∷ []) more else Ask (read_command r ks) show.Items ∷ piece_turns r (k ∷ []) more) ≡ false
ask_either r ks k more true p q = p
ask_either r ks k more false p q = q

pieces_ask : (r : ReadVerb) (ks more : List (List ℕ)) → speaks (piece_turns r ks more) ≡ false
pieces_ask r ks [] = refl
pieces_ask r ks (k ∷ more) = ask_either r ks k more (keys_fit r (ks ++ k ∷ [])) (pieces_ask r (ks ++ k ∷ []) more) (pieces_ask r (k ∷ []) more)

reads_either : (r : ReadVerb) (ks : List (List ℕ)) → IsEither (read_turns r ks)
reads_either r [] = inr refl
reads_either r (k ∷ ks) = by (list_all is_key (k ∷ ks))
  where
    by : (b : Bool) → IsEither (if b then piece_turns r (k ∷ []) ks else Say notice.BadFormat ∷ [])
    by true = inl (pieces_ask r (k ∷ []) ks)
    by false = inr refl

given_either : (l : Line) (ws : List (List ℕ)) → IsEither (meaning_of_line l ws).turns
given_either (Gives None) ws = inl refl
given_either (Gives (Some (Ask c s))) ws = inl refl
given_either (Gives (Some (Say n))) ws = inr refl
given_either (Gives (Some (Close n))) ws = inr refl
given_either (Closes n) ws = inr refl
given_either (Reads r) ws = reads_either r (keys_in r ws)
given_either (Opens h) ws = inl refl
given_either (Skips n turn) ws = inl refl

words_either : (ws : List (List ℕ)) → IsEither (meaning_of_words ws).turns
words_either [] = inr refl
words_either (w ∷ ws) = by (name_of w)
  where
    by : (n : Option Name) → IsEither (option_map_or (λ (m : Name). meaning_of_line (line_of m (says_noreply ws) ws) ws) n unknown).turns
    by None = inr refl
    by (Some n) = given_either (line_of n (says_noreply ws) ws) ws

pub refused_asks_nothing : (line : List ℕ) → speaks (meaning line).turns ≡ true → commands (meaning line).turns ≡ []
unfolding meaning
refused_asks_nothing line e = by (words_either (words (without_return line)))
  where
    by : IsEither (meaning_of_words (words (without_return line))).turns → commands (meaning_of_words (words (without_return line))).turns ≡ []
    by (inl f) = absurd (let g : false ≡ true = sym f ∙ e in cc)
    by (inr f) = f

-- What is not kept.

abbrev IsRemoval : Line → Type 0
IsRemoval (Gives turn) = Unit {0}
IsRemoval (Closes n) = Unit {0}
IsRemoval (Reads r) = Unit {0}
IsRemoval (Opens h) = Unit {0}
IsRemoval (Skips n turn) = IfSome turn OnlyRemoves

if_removal : (b : Bool) (x y : Line) → IsRemoval x → IsRemoval y → IsRemoval (if b then x else y)
if_removal true x y p q = p
if_removal false x y p q = q

map_or_removal : {A : Type 0} (o : Option A) (f : A → Line) (d : Line) → ((x : A) → IsRemoval (f x)) → IsRemoval d → IsRemoval (option_map_or f o d)
map_or_removal None f d p q = q
map_or_removal (Some x) f d p q = p x

said_removes : (quiet : Bool) (n : Notice) → IfSome (said quiet n) OnlyRemoves
said_removes true n = tt
said_removes false n = tt

too_large_removes : (h : Header) → IfSome (too_large h) OnlyRemoves
too_large_removes h = by (removes h.kind)
  where
    by : (b : Bool) → IfSome (if b then Some (Ask (command.Update (update.Delete h.key)) (if h.quiet then show.Quiet else show.Instead notice.TooLarge)) else said h.quiet notice.TooLarge) OnlyRemoves
    by true = (h.key, refl)
    by false = said_removes h.quiet notice.TooLarge

storage_removes : (quiet : Bool) (size : Option ℕ) (header : ℕ → Option Header) → IsRemoval (storage quiet size header)
storage_removes quiet None header = tt
storage_removes quiet (Some size) header = by (header size)
  where
    by : (h : Option Header) → IsRemoval (sized quiet size h)
    by None = said_removes quiet notice.BadFormat
    by (Some h) = if_removal (nat_lt MOST_BLOCK_BYTES size) (Skips (size + 2) (too_large h)) (Opens (opened_by h)) (too_large_removes h) tt

store_removes : (v : StoreVerb) (quiet : Bool) (ws : List (List ℕ)) → IsRemoval (store_line v quiet ws)
store_removes v quiet [] = tt
store_removes v quiet (k ∷ []) = tt
store_removes v quiet (k ∷ f ∷ []) = tt
store_removes v quiet (k ∷ f ∷ e ∷ []) = tt
store_removes v quiet (k ∷ f ∷ e ∷ n ∷ last) = if_removal (is_end last) _ _ (storage_removes quiet (block_size_of n) (header_of quiet (Some (kind.Plain v)) k f e)) tt

cas_removes : (quiet : Bool) (ws : List (List ℕ)) → IsRemoval (cas_line quiet ws)
cas_removes quiet [] = tt
cas_removes quiet (k ∷ []) = tt
cas_removes quiet (k ∷ f ∷ []) = tt
cas_removes quiet (k ∷ f ∷ e ∷ []) = tt
cas_removes quiet (k ∷ f ∷ e ∷ n ∷ []) = tt
cas_removes quiet (k ∷ f ∷ e ∷ n ∷ u ∷ last) = if_removal (is_end last) _ _ (storage_removes quiet (block_size_of n) (header_of quiet (cas_kind u) k f e)) tt

delete_removes : (ws : List (List ℕ)) → IsRemoval (delete_line ws)
delete_removes [] = tt
delete_removes (k ∷ last) = if_removal (is_delete_end last) _ _ (map_or_removal (key_of k) _ _ (λ key. tt) tt) tt

touch_removes : (quiet : Bool) (ws : List (List ℕ)) → IsRemoval (touch_line quiet ws)
touch_removes quiet [] = tt
touch_removes quiet (k ∷ []) = tt
touch_removes quiet (k ∷ e ∷ last) = if_removal (is_end last) _ _ (map_or_removal (key_of k) _ _ (λ key. map_or_removal (exptime_of e) _ _ (λ exptime. tt) tt) tt) tt

delta_removes : (up quiet : Bool) (ws : List (List ℕ)) → IsRemoval (delta_line up quiet ws)
delta_removes up quiet [] = tt
delta_removes up quiet (k ∷ []) = tt
delta_removes up quiet (k ∷ d ∷ last) = if_removal (is_end last) _ _ (map_or_removal (key_of k) _ _ (λ key. map_or_removal (unsigned_of d) _ _ (λ delta. tt) tt) tt) tt

verbosity_removes : (quiet : Bool) (ws : List (List ℕ)) → IsRemoval (verbosity_line quiet ws)
verbosity_removes quiet [] = tt
verbosity_removes quiet (n ∷ last) = if_removal (is_end last) _ _ tt tt

timed_removes : (read : ℤ → Line) (ws : List (List ℕ)) → ((exptime : ℤ) → IsRemoval (read exptime)) → IsRemoval (timed_line read ws)
timed_removes read [] p = tt
timed_removes read (e ∷ ks) p = map_or_removal (exptime_of e) read _ p tt

meta_removes : (m : Meta) (ws : List (List ℕ)) → IsRemoval (meta_line m ws)
meta_removes m ws = meta_by IsRemoval (λ turn. tt) (λ size n. tt) (λ size key. (key, refl)) (λ size key ws k e. tt) m ws

line_removes : (n : Name) (quiet : Bool) (ws : List (List ℕ)) → IsRemoval (line_of n quiet ws)
line_removes (name.Store v) quiet ws = store_removes v quiet ws
line_removes name.Cas quiet ws = cas_removes quiet ws
line_removes name.Get quiet ws = tt
line_removes name.Gets quiet ws = tt
line_removes name.Gat quiet ws = timed_removes _ ws (λ exptime. tt)
line_removes name.Gats quiet ws = timed_removes _ ws (λ exptime. tt)
line_removes name.Delete quiet ws = delete_removes ws
line_removes name.Touch quiet ws = touch_removes quiet ws
line_removes name.Incr quiet ws = delta_removes true quiet ws
line_removes name.Decr quiet ws = delta_removes false quiet ws
line_removes name.Version quiet ws = tt
line_removes name.Quit quiet ws = tt
line_removes name.Verbosity quiet ws = verbosity_removes quiet ws
line_removes name.FlushAll quiet ws = tt
line_removes name.Shutdown quiet ws = tt
line_removes name.MetaNoop quiet ws = tt
line_removes name.Stats quiet ws = tt
line_removes name.Crawler quiet ws = tt
line_removes (name.Meta m) quiet ws = meta_removes m ws
line_removes name.Http quiet ws = if_removal (list_any is_http_version ws) _ _ tt tt

given_removes : (l : Line) (ws : List (List ℕ)) → IsRemoval l → UnreadOnlyRemoves (meaning_of_line l ws).part
given_removes (Gives turn) ws p = tt
given_removes (Closes n) ws p = tt
given_removes (Reads r) ws p = tt
given_removes (Opens h) ws p = tt
given_removes (Skips n turn) ws p = p

words_remove : (ws : List (List ℕ)) → UnreadOnlyRemoves (meaning_of_words ws).part
words_remove [] = tt
words_remove (w ∷ ws) = by (name_of w)
  where
    by : (n : Option Name) → UnreadOnlyRemoves (option_map_or (λ (m : Name). meaning_of_line (line_of m (says_noreply ws) ws) ws) n unknown).part
    by None = tt
    by (Some n) = given_removes (line_of n (says_noreply ws) ws) ws (line_removes n (says_noreply ws) ws)

pub unread_only_removes : (line : List ℕ) → UnreadOnlyRemoves (meaning line).part
unfolding meaning
unread_only_removes line = words_remove (words (without_return line))
