-- A line that says noreply gives no bytes.
use Rattle.std.proofs.Common.{◌≡◌, ℕ, ◌+◌, Bool, true, false, List, [], ◌∷◌, Option, Some, None, IfSome, refl, sym, subst, if◌then◌else◌}
use Rattle.std.specs.Prelude.{ℤ, nat_lt, bytes_eq, drop, take}
use Rattle.std.specs.Option.{option_map_or}
use Rattle.proto.specs.Line.{◌>>=◌, key_of}
use Rattle.proto.specs.Grammar.{filled}
use Rattle.proto.specs.declared.block.TheConstants.{MOST_BLOCK_BYTES}
use Rattle.proto.specs.declared.command.StoreVerb.{StoreVerb}
use Rattle.proto.specs.declared.command.Command.TheVariants as command
use Rattle.proto.specs.declared.command.Update.TheVariants as update
use Rattle.proto.specs.declared.line.Header.{Header}
use Rattle.proto.specs.declared.line.Kind.{Kind}
use Rattle.proto.specs.declared.line.Kind.TheVariants as kind
use Rattle.dialect.specs.Number.{unsigned_of, flags_of, exptime_of, block_size_of}
use Rattle.dialect.specs.Line.{says_noreply, is_end, is_delete_end, said, removes, too_large, opened_by, sized, storage, header_of, cas_kind, store_line, cas_line, delete_of, delete_line, touch_line, delta_line, verbosity_line, line_of}
use Rattle.dialect.specs.Meaning.{Meaning, meaning, meaning_of_words, meaning_of_line, unknown, block_turn}
use Rattle.dialect.specs.Text.{notice_text}
use Rattle.dialect.specs.Laws.{leaves_out, IsNoreply, ShowsNothing, AllShowNothing, PartShowsNothing}
use Rattle.dialect.specs.declared.turn.Notice.{Notice}
use Rattle.dialect.specs.declared.turn.Notice.TheVariants as notice
use Rattle.dialect.specs.declared.turn.Show.TheVariants as show
use Rattle.dialect.specs.declared.turn.Turn.TheVariants.{Ask}
use Rattle.dialect.specs.declared.line.Name.{Name}
use Rattle.dialect.specs.declared.line.Name.TheVariants as name
use Rattle.dialect.specs.declared.line.Opening.{Opening}
use Rattle.dialect.specs.declared.line.Line.{Line}
use Rattle.dialect.specs.declared.line.Line.TheVariants.{Gives, Closes, Reads, Opens, Skips}
use Rattle.dialect.proofs.RunLemmas.{taken}

-- the line gives no bytes
abbrev IsMute : Line → Type 0
IsMute (Gives turn) = IfSome turn ShowsNothing
IsMute (Closes n) = notice_text n ≡ []
IsMute (Reads r) = ⊥
IsMute (Opens o) = (o.header.quiet ≡ true) × (o.show ≡ show.Quiet)
IsMute (Skips n turn) = IfSome turn ShowsNothing

not_so : {P : Type 0} → false ≡ true → P
not_so e = absurd (let f : false ≡ true = e in cc)

if_mute : (b : Bool) (x y : Line) → IsMute x → IsMute y → IsMute (if b then x else y)
if_mute true x y p q = p
if_mute false x y p q = q

map_or_mute : {A : Type 0} (o : Option A) (f : A → Line) (d : Line) → ((x : A) → IsMute (f x)) → IsMute d → IsMute (option_map_or f o d)
map_or_mute None f d p q = q
map_or_mute (Some x) f d p q = p x

said_mute : (quiet : Bool) (n : Notice) → quiet ≡ true → IfSome (said quiet n) ShowsNothing
said_mute true n e = tt
said_mute false n e = absurd (let f : false ≡ true = e in cc)

too_large_mute : (h : Header) → h.quiet ≡ true → IfSome (too_large h) ShowsNothing
too_large_mute h e = by (removes h.kind)
  where
    by : (b : Bool) → IfSome (if b then Some (Ask (command.Update (update.Delete h.key)) (if h.quiet then show.Quiet else show.Instead notice.TooLarge)) else said h.quiet notice.TooLarge) ShowsNothing
    by true = taken h.quiet _ _ e
    by false = said_mute h.quiet notice.TooLarge e

block_mute : (o : Opening) (block : List ℕ) → o.header.quiet ≡ true → o.show ≡ show.Quiet → IfSome (block_turn o block) ShowsNothing
block_mute o block e s = by (bytes_eq (drop o.header.size block) (13 ∷ 10 ∷ []))
  where
    by : (b : Bool) → IfSome (if b then Some (Ask (filled o.header (take o.header.size block)) o.show) else said o.header.quiet notice.BadChunk) ShowsNothing
    by true = s
    by false = said_mute o.header.quiet notice.BadChunk e

-- a header has the noreply of its line
has_quiet : (quiet : Bool) (size : ℕ) (k : Option Kind) (f : Option ℕ) (e : Option ℤ) (w : Option (List ℕ))
    → IfSome (k >>= λ kind. f >>= λ flags. e >>= λ exptime. w >>= λ key. Some (let h : Header = record { kind = kind; key = key; flags = flags; exptime = exptime; size = size; quiet = quiet } in h)) (λ (h : Header). h.quiet ≡ quiet)
has_quiet quiet size None f e w = tt
has_quiet quiet size (Some k) None e w = tt
has_quiet quiet size (Some k) (Some f) None w = tt
has_quiet quiet size (Some k) (Some f) (Some e) None = tt
has_quiet quiet size (Some k) (Some f) (Some e) (Some w) = refl

header_quiet : (k : Option Kind) (w f e : List ℕ) (size : ℕ) → IfSome (header_of true k w f e size) (λ h. h.quiet ≡ true)
header_quiet k w f e size = has_quiet true size k (flags_of f) (exptime_of e) (key_of w)

sized_mute : (size : ℕ) (header : Option Header) → IfSome header (λ h. h.quiet ≡ true) → IsMute (sized true size header)
sized_mute size None e = tt
sized_mute size (Some h) e = if_mute (nat_lt MOST_BLOCK_BYTES size) (Skips (size + 2) (too_large h)) (Opens (opened_by h)) (too_large_mute h e) (e, taken h.quiet _ _ e)

storage_mute : (size : Option ℕ) (header : ℕ → Option Header) → ((n : ℕ) → IfSome (header n) (λ h. h.quiet ≡ true)) → IsMute (storage true size header)
storage_mute None header e = tt
storage_mute (Some size) header e = sized_mute size (header size) (e size)

store_mute : (v : StoreVerb) (ws : List (List ℕ)) → IsMute (store_line v true ws)
store_mute v [] = tt
store_mute v (k ∷ []) = tt
store_mute v (k ∷ f ∷ []) = tt
store_mute v (k ∷ f ∷ e ∷ []) = tt
store_mute v (k ∷ f ∷ e ∷ n ∷ last) = if_mute (is_end last) _ _ (storage_mute (block_size_of n) (header_of true (Some (kind.Plain v)) k f e) (header_quiet (Some (kind.Plain v)) k f e)) tt

cas_mute : (ws : List (List ℕ)) → IsMute (cas_line true ws)
cas_mute [] = tt
cas_mute (k ∷ []) = tt
cas_mute (k ∷ f ∷ []) = tt
cas_mute (k ∷ f ∷ e ∷ []) = tt
cas_mute (k ∷ f ∷ e ∷ n ∷ []) = tt
cas_mute (k ∷ f ∷ e ∷ n ∷ u ∷ last) = if_mute (is_end last) _ _ (storage_mute (block_size_of n) (header_of true (cas_kind u) k f e) (header_quiet (cas_kind u) k f e)) tt

delete_of_mute : (k : List ℕ) (last : List (List ℕ)) → IsMute (delete_of true k last)
delete_of_mute k last = if_mute (is_delete_end last) _ _ (map_or_mute (key_of k) _ _ (λ key. refl) tt) tt

delete_mute : (ws : List (List ℕ)) → says_noreply (drop 1 ws) ≡ true → IsMute (delete_line ws)
delete_mute [] e = not_so e
delete_mute (k ∷ last) e = subst (λ (quiet : Bool). IsMute (delete_of quiet k last)) (sym e) (delete_of_mute k last)

touch_mute : (ws : List (List ℕ)) → IsMute (touch_line true ws)
touch_mute [] = tt
touch_mute (k ∷ []) = tt
touch_mute (k ∷ e ∷ last) = if_mute (is_end last) _ _ (map_or_mute (key_of k) _ _ (λ key. map_or_mute (exptime_of e) _ _ (λ exptime. refl) tt) tt) tt

delta_mute : (up : Bool) (ws : List (List ℕ)) → IsMute (delta_line up true ws)
delta_mute up [] = tt
delta_mute up (k ∷ []) = tt
delta_mute up (k ∷ d ∷ last) = if_mute (is_end last) _ _ (map_or_mute (key_of k) _ _ (λ key. map_or_mute (unsigned_of d) _ _ (λ delta. refl) tt) tt) tt

verbosity_mute : (ws : List (List ℕ)) → IsMute (verbosity_line true ws)
verbosity_mute [] = tt
verbosity_mute (n ∷ last) = if_mute (is_end last) _ _ tt tt

-- the line gives no bytes if it says noreply
quietly : (line : Bool → Line) (quiet : Bool) → quiet ≡ true → IsMute (line true) → IsMute (line quiet)
quietly line quiet e m = subst (λ (q : Bool). IsMute (line q)) (sym e) m

line_mute : (n : Name) (ws : List (List ℕ)) → leaves_out n ws ≡ true → IsMute (line_of n (says_noreply ws) ws)
line_mute (name.Store v) ws e = quietly (λ quiet. store_line v quiet ws) (says_noreply ws) e (store_mute v ws)
line_mute name.Cas ws e = quietly (λ quiet. cas_line quiet ws) (says_noreply ws) e (cas_mute ws)
line_mute name.Get ws e = not_so e
line_mute name.Gets ws e = not_so e
line_mute name.Gat ws e = not_so e
line_mute name.Gats ws e = not_so e
line_mute name.Delete ws e = delete_mute ws e
line_mute name.Touch ws e = quietly (λ quiet. touch_line quiet ws) (says_noreply ws) e (touch_mute ws)
line_mute name.Incr ws e = quietly (λ quiet. delta_line true quiet ws) (says_noreply ws) e (delta_mute true ws)
line_mute name.Decr ws e = quietly (λ quiet. delta_line false quiet ws) (says_noreply ws) e (delta_mute false ws)
line_mute name.Version ws e = not_so e
line_mute name.Quit ws e = refl
line_mute name.Verbosity ws e = quietly (λ quiet. verbosity_line quiet ws) (says_noreply ws) e (verbosity_mute ws)
line_mute name.FlushAll ws e = said_mute (says_noreply ws) notice.FlushRefused e
line_mute name.Shutdown ws e = said_mute (says_noreply ws) notice.ShutdownRefused e
line_mute name.MetaNoop ws e = not_so e
line_mute name.Stats ws e = not_so e
line_mute name.Crawler ws e = not_so e
line_mute (name.Meta m) ws e = not_so e
line_mute name.Http ws e = not_so e

abbrev GivesNone : Meaning → Type 0
GivesNone m = AllShowNothing m.turns × PartShowsNothing m.part

given_mute : (l : Line) (ws : List (List ℕ)) → IsMute l → GivesNone (meaning_of_line l ws)
given_mute (Gives None) ws m = (tt, tt)
given_mute (Gives (Some turn)) ws m = ((m, tt), tt)
given_mute (Closes n) ws m = ((m, tt), tt)
given_mute (Reads r) ws m = absurd m
given_mute (Opens o) ws m = (tt, λ block. block_mute o block m.0 m.1)
given_mute (Skips n turn) ws m = (tt, m)

pub noreply_gives_nothing : (line : List ℕ) → IsNoreply line → AllShowNothing (meaning line).turns × PartShowsNothing (meaning line).part
unfolding meaning
noreply_gives_nothing bytes i =
    let line : GivesNone (meaning_of_line (line_of i.called (says_noreply i.others) i.others) i.others) =
    given_mute (line_of i.called (says_noreply i.others) i.others) i.others (line_mute i.called i.others i.quiet) in
    let named : GivesNone (meaning_of_words (i.first ∷ i.others)) =
    subst (λ (n : Option Name). GivesNone (option_map_or (λ (m : Name). meaning_of_line (line_of m (says_noreply i.others) i.others) i.others) n unknown)) (sym i.named) line in
    subst (λ (ws : List (List ℕ)). GivesNone (meaning_of_words ws)) (sym i.splits) named
