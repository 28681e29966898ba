-- What a line asks in the profile, it asks in the dialect too: the names of commands, and all of a line.
use Rattle.std.proofs.Common.{◌≡◌, ℕ, ◌-◌, ◌^◌, Bool, true, false, List, [], ◌∷◌, ◌++◌, length, take, Option, Some, None, refl, sym, ap, ◌∙◌, subst, ◌&&◌, if◌then◌else◌}
use Rattle.std.specs.Prelude.{ℤ, nat_lt, nat_le, codes, bytes_eq}
use Rattle.std.specs.List.{list_all}
use Rattle.std.specs.Option.{option_map_or, option_or}
use Rattle.std.proofs.lemmas.List.{take_at, drop_at}
use Rattle.proto.specs.Key.{is_key}
use Rattle.proto.specs.Line as profile
use Rattle.proto.specs.Line.{◌>>=◌, key_of, counting, verb_of, words, ends_in_return}
use Rattle.proto.specs.Number as profile_number
use Rattle.proto.specs.Number.{number_below}
use Rattle.proto.specs.Grammar as profile_grammar
use Rattle.proto.specs.Grammar.{filled}
use Rattle.proto.specs.declared.block.TheConstants.{MOST_BLOCK_BYTES}
use Rattle.proto.specs.declared.key.TheConstants.{MOST_KEYS}
use Rattle.proto.specs.declared.command.StoreVerb.{StoreVerb}
use Rattle.proto.specs.declared.command.StoreVerb.TheVariants as verb
use Rattle.proto.specs.declared.command.Command.TheVariants as command
use Rattle.proto.specs.declared.command.Update.TheVariants as update
use Rattle.proto.specs.declared.line.Header.{Header}
use Rattle.proto.specs.declared.line.Kind.TheVariants as kind
use Rattle.proto.specs.declared.line.Line.TheVariants as profile_line
use Rattle.proto.specs.declared.line.Name.{Name as ProfileName}
use Rattle.proto.specs.declared.line.Name.TheVariants as profile_name
use Rattle.proto.specs.declared.turn.Notice.{Notice as ProfileNotice}
use Rattle.proto.specs.declared.turn.Notice.TheVariants as profile_notice
use Rattle.proto.specs.declared.turn.Turn.TheVariants as profile_turn
use Rattle.dialect.specs.Name.{name_of}
use Rattle.dialect.specs.Line.{says_noreply, says_notice, shown, said, opened_by, store_line, cas_line, delete_line, touch_line, delta_line, line_of}
use Rattle.dialect.specs.Meaning.{Meaning, meaning, meaning_of_words, meaning_of_line, unknown, block_turn}
use Rattle.dialect.specs.Profile.{AsksTheSame, BlockAsksTheSame}
use Rattle.dialect.specs.declared.line.Name.{Name}
use Rattle.dialect.specs.declared.line.Name.TheVariants as name
use Rattle.dialect.specs.declared.line.Line.{Line}
use Rattle.dialect.specs.declared.line.Line.TheVariants.{Reads}
use Rattle.dialect.specs.declared.line.ReadVerb.TheVariants as reading
use Rattle.dialect.specs.declared.turn.Notice.TheVariants as notice
use Rattle.dialect.specs.declared.turn.Turn.TheVariants.{Ask}
use Rattle.dialect.proofs.ProfileLemmas.{some_is, word_is, time_as, delete_is, touch_is, delta_is, store_is, cas_is}

-- Names.

as_name : ProfileName → Name
as_name (profile_name.Store v) = name.Store v
as_name profile_name.Cas = name.Cas
as_name profile_name.Get = name.Get
as_name profile_name.Gets = name.Gets
as_name profile_name.Gat = name.Gat
as_name profile_name.Gats = name.Gats
as_name profile_name.Delete = name.Delete
as_name profile_name.Touch = name.Touch
as_name profile_name.Incr = name.Incr
as_name profile_name.Decr = name.Decr
as_name profile_name.Version = name.Version
as_name profile_name.Quit = name.Quit

-- a choice, by its test
either : {A P : Type 0} (b : Bool) (x n : A) (rest : Option A) → (if b then Some x else rest) ≡ Some n → (b ≡ true → x ≡ n → P) → (rest ≡ Some n → P) → P
either true x n rest e f g = f refl (some_is x n e)
either false x n rest e f g = g e

verb_as : (w t : List ℕ) (v x : StoreVerb) → name_of t ≡ Some (name.Store v) → bytes_eq w t ≡ true → v ≡ x → name_of w ≡ Some (name.Store x)
verb_as w t v x g e f = ap name_of (word_is w t e) ∙ g ∙ ap (λ (v : StoreVerb). Some (name.Store v)) f

verbs_as : (w : List ℕ) (x : StoreVerb) → verb_of w ≡ Some x → name_of w ≡ Some (name.Store x)
verbs_as w x e =
    either (bytes_eq w (codes "set")) verb.Set x _ e (verb_as w (codes "set") verb.Set x refl) (λ e.
    either (bytes_eq w (codes "add")) verb.Add x _ e (verb_as w (codes "add") verb.Add x refl) (λ e.
    either (bytes_eq w (codes "replace")) verb.Replace x _ e (verb_as w (codes "replace") verb.Replace x refl) (λ e.
    either (bytes_eq w (codes "append")) verb.Append x _ e (verb_as w (codes "append") verb.Append x refl) (λ e.
    either (bytes_eq w (codes "prepend")) verb.Prepend x _ e (verb_as w (codes "prepend") verb.Prepend x refl) (λ e. absurd (cc))))))

named_as : (w t : List ℕ) (n x : ProfileName) → name_of t ≡ Some (as_name n) → bytes_eq w t ≡ true → n ≡ x → name_of w ≡ Some (as_name x)
unfolding as_name
named_as w t n x g e f = ap name_of (word_is w t e) ∙ g ∙ ap (λ (n : ProfileName). Some (as_name n)) f

updates_as : (w : List ℕ) (x : ProfileName) → profile.update_name_of w ≡ Some x → name_of w ≡ Some (as_name x)
unfolding as_name
updates_as w x e =
    either (bytes_eq w (codes "delete")) profile_name.Delete x _ e (named_as w (codes "delete") profile_name.Delete x refl) (λ e.
    either (bytes_eq w (codes "touch")) profile_name.Touch x _ e (named_as w (codes "touch") profile_name.Touch x refl) (λ e.
    either (bytes_eq w (codes "incr")) profile_name.Incr x _ e (named_as w (codes "incr") profile_name.Incr x refl) (λ e.
    either (bytes_eq w (codes "decr")) profile_name.Decr x _ e (named_as w (codes "decr") profile_name.Decr x refl) (λ e. absurd (cc)))))

others_as : (w : List ℕ) (x : ProfileName) → profile.other_name_of w ≡ Some x → name_of w ≡ Some (as_name x)
unfolding as_name
others_as w x e =
    either (bytes_eq w (codes "cas")) profile_name.Cas x _ e (named_as w (codes "cas") profile_name.Cas x refl) (λ e.
    either (bytes_eq w (codes "get")) profile_name.Get x _ e (named_as w (codes "get") profile_name.Get x refl) (λ e.
    either (bytes_eq w (codes "gets")) profile_name.Gets x _ e (named_as w (codes "gets") profile_name.Gets x refl) (λ e.
    either (bytes_eq w (codes "gat")) profile_name.Gat x _ e (named_as w (codes "gat") profile_name.Gat x refl) (λ e.
    either (bytes_eq w (codes "gats")) profile_name.Gats x _ e (named_as w (codes "gats") profile_name.Gats x refl) (λ e.
    either (bytes_eq w (codes "version")) profile_name.Version x _ e (named_as w (codes "version") profile_name.Version x refl) (λ e.
    either (bytes_eq w (codes "quit")) profile_name.Quit x _ e (named_as w (codes "quit") profile_name.Quit x refl) (λ e. absurd (cc))))))))

names_agree : (w : List ℕ) (n : ProfileName) → profile.name_of w ≡ Some n → name_of w ≡ Some (as_name n)
unfolding as_name
names_agree w n e = by (verb_of w) refl e
  where
    other : (o : Option ProfileName) → profile.update_name_of w ≡ o → option_or o (profile.other_name_of w) ≡ Some n → name_of w ≡ Some (as_name n)
    other (Some m) is e = updates_as w m is ∙ ap (λ (m : ProfileName). Some (as_name m)) (some_is m n e)
    other None is e = others_as w n e

    by : (v : Option StoreVerb) → verb_of w ≡ v → option_map_or (λ verb. Some (profile_name.Store verb)) v (option_or (profile.update_name_of w) (profile.other_name_of w)) ≡ Some n → name_of w ≡ Some (as_name n)
    by (Some v) is e = verbs_as w v is ∙ ap (λ (m : ProfileName). Some (as_name m)) (some_is (profile_name.Store v) n e)
    by None is e = other (profile.update_name_of w) refl e

-- Lines, by the parts that the profile reads.

module _ (w : List ℕ) (last : List (List ℕ)) where
  delete_agrees : (q : Option Bool) → profile.quiet_of last ≡ q → (k : Option (List ℕ)) → key_of w ≡ k
      → AsksTheSame (profile.whole_or_bad (q >>= λ quiet. k >>= λ key. Some (profile_turn.Ask (command.Update (update.Delete key)) quiet))) (meaning_of_line (delete_line (w ∷ last)) (w ∷ last))
  delete_agrees None a k b = tt
  delete_agrees (Some q) a None b = tt
  delete_agrees (Some q) a (Some key) b = ap (λ (l : Line). meaning_of_line l (w ∷ last)) (delete_is w last q key a b)

module _ (w v : List ℕ) (last : List (List ℕ)) where
  touch_agrees : (x : Option ℤ) → profile_number.exptime_of v ≡ x → (q : Option Bool) → profile.quiet_of last ≡ q → (k : Option (List ℕ)) → key_of w ≡ k
      → AsksTheSame (profile.whole_or_bad (x >>= λ exptime. q >>= λ quiet. k >>= λ key. Some (profile_turn.Ask (command.Update (update.Touch key exptime)) quiet)))
      (meaning_of_line (touch_line (says_noreply (w ∷ v ∷ last)) (w ∷ v ∷ last)) (w ∷ v ∷ last))
  touch_agrees None a q b k d = tt
  touch_agrees (Some x) a None b k d = tt
  touch_agrees (Some x) a (Some q) b None d = tt
  touch_agrees (Some x) a (Some q) b (Some key) d = ap (λ (l : Line). meaning_of_line l (w ∷ v ∷ last)) (touch_is w v last q key x b d a)

  delta_agrees : (up : Bool) (q : Option Bool) → profile.quiet_of last ≡ q → (k : Option (List ℕ)) → key_of w ≡ k → (n : Option ℕ) → number_below (2 ^ 64) v ≡ n
      → AsksTheSame (profile.whole_or_bad (q >>= λ quiet. k >>= λ key. Some (option_map_or (λ delta. profile_turn.Ask (command.Update (counting up key delta)) quiet) n (profile_turn.Say profile_notice.BadDelta))))
      (meaning_of_line (delta_line up (says_noreply (w ∷ v ∷ last)) (w ∷ v ∷ last)) (w ∷ v ∷ last))
  delta_agrees up None a k b n d = tt
  delta_agrees up (Some q) a None b n d = tt
  delta_agrees up (Some q) a (Some key) b None d = tt
  delta_agrees up (Some q) a (Some key) b (Some n) d = ap (λ (l : Line). meaning_of_line l (w ∷ v ∷ last)) (delta_is up w v last q key n a b d)

module _ (w f e n : List ℕ) (last : List (List ℕ)) where
  store_agrees : (v : StoreVerb) (fs : Option ℕ) → number_below (2 ^ 32) f ≡ fs → (x : Option ℤ) → profile_number.exptime_of e ≡ x → (s : Option ℕ) → number_below (2 ^ 31) n ≡ s
      → (q : Option Bool) → profile.quiet_of last ≡ q → (k : Option (List ℕ)) → key_of w ≡ k
      → AsksTheSame (profile.opens_or_bad (((fs >>= λ flags. x >>= λ exptime. s >>= λ size. Some (let t : ℕ × ℤ × ℕ = (flags, exptime, size) in t)) >>= λ numbers. q >>= λ quiet. k >>= λ key.
      Some (let h : Header = record { kind = kind.Plain v; key = key; flags = numbers.0; exptime = numbers.1; size = numbers.2; quiet = quiet } in h))))
      (meaning_of_line (store_line v (says_noreply (w ∷ f ∷ e ∷ n ∷ last)) (w ∷ f ∷ e ∷ n ∷ last)) (w ∷ f ∷ e ∷ n ∷ last))
  store_agrees v None a x b s c q d k g = tt
  store_agrees v (Some fs) a None b s c q d k g = tt
  store_agrees v (Some fs) a (Some x) b None c q d k g = tt
  store_agrees v (Some fs) a (Some x) b (Some s) c None d k g = tt
  store_agrees v (Some fs) a (Some x) b (Some s) c (Some q) d None g = tt
  store_agrees v (Some fs) a (Some x) b (Some s) c (Some q) d (Some key) g =
      λ l. ap (λ (m : Line). meaning_of_line m (w ∷ f ∷ e ∷ n ∷ last)) (store_is w f e n last q key fs x s v a b c d g l)

  cas_agrees : (u : List ℕ) (fs : Option ℕ) → number_below (2 ^ 32) f ≡ fs → (x : Option ℤ) → profile_number.exptime_of e ≡ x → (s : Option ℕ) → number_below (2 ^ 31) n ≡ s
      → (i : Option ℕ) → number_below (2 ^ 64) u ≡ i → (q : Option Bool) → profile.quiet_of last ≡ q → (k : Option (List ℕ)) → key_of w ≡ k
      → AsksTheSame (profile.opens_or_bad (((fs >>= λ flags. x >>= λ exptime. s >>= λ size. Some (let t : ℕ × ℤ × ℕ = (flags, exptime, size) in t)) >>= λ numbers. i >>= λ unique. q >>= λ quiet. k >>= λ key.
      Some (let h : Header = record { kind = kind.Cas unique; key = key; flags = numbers.0; exptime = numbers.1; size = numbers.2; quiet = quiet } in h))))
      (meaning_of_line (cas_line (says_noreply (w ∷ f ∷ e ∷ n ∷ u ∷ last)) (w ∷ f ∷ e ∷ n ∷ u ∷ last)) (w ∷ f ∷ e ∷ n ∷ u ∷ last))
  cas_agrees u None a x b s c i j q d k g = tt
  cas_agrees u (Some fs) a None b s c i j q d k g = tt
  cas_agrees u (Some fs) a (Some x) b None c i j q d k g = tt
  cas_agrees u (Some fs) a (Some x) b (Some s) c None j q d k g = tt
  cas_agrees u (Some fs) a (Some x) b (Some s) c (Some i) j None d k g = tt
  cas_agrees u (Some fs) a (Some x) b (Some s) c (Some i) j (Some q) d None g = tt
  cas_agrees u (Some fs) a (Some x) b (Some s) c (Some i) j (Some q) d (Some key) g =
      λ l. ap (λ (m : Line). meaning_of_line m (w ∷ f ∷ e ∷ n ∷ u ∷ last)) (cas_is w f e n last q key fs x s u i a b c j d g l)

-- the words after the name of each command

of_store : (v : StoreVerb) (ws : List (List ℕ)) → AsksTheSame (profile.opens_or_bad (profile.store_line v ws)) (meaning_of_line (store_line v (says_noreply ws) ws) ws)
of_store v [] = tt
of_store v (w ∷ []) = tt
of_store v (w ∷ f ∷ []) = tt
of_store v (w ∷ f ∷ e ∷ []) = tt
of_store v (w ∷ f ∷ e ∷ n ∷ last) = store_agrees w f e n last v (number_below (2 ^ 32) f) refl (profile_number.exptime_of e) refl (number_below (2 ^ 31) n) refl (profile.quiet_of last) refl (key_of w) refl

of_cas : (ws : List (List ℕ)) → AsksTheSame (profile.opens_or_bad (profile.cas_line ws)) (meaning_of_line (cas_line (says_noreply ws) ws) ws)
of_cas [] = tt
of_cas (w ∷ []) = tt
of_cas (w ∷ f ∷ []) = tt
of_cas (w ∷ f ∷ e ∷ []) = tt
of_cas (w ∷ f ∷ e ∷ n ∷ []) = tt
of_cas (w ∷ f ∷ e ∷ n ∷ u ∷ last) =
    cas_agrees w f e n last u (number_below (2 ^ 32) f) refl (profile_number.exptime_of e) refl (number_below (2 ^ 31) n) refl (number_below (2 ^ 64) u) refl (profile.quiet_of last) refl (key_of w) refl

of_delete : (ws : List (List ℕ)) → AsksTheSame (profile.whole_or_bad (profile.delete_line ws)) (meaning_of_line (delete_line ws) ws)
of_delete [] = tt
of_delete (w ∷ last) = delete_agrees w last (profile.quiet_of last) refl (key_of w) refl

of_touch : (ws : List (List ℕ)) → AsksTheSame (profile.whole_or_bad (profile.touch_line ws)) (meaning_of_line (touch_line (says_noreply ws) ws) ws)
of_touch [] = tt
of_touch (w ∷ []) = tt
of_touch (w ∷ v ∷ last) = touch_agrees w v last (profile_number.exptime_of v) refl (profile.quiet_of last) refl (key_of w) refl

of_delta : (up : Bool) (ws : List (List ℕ)) → AsksTheSame (profile.whole_or_bad (profile.delta_line (counting up) ws)) (meaning_of_line (delta_line up (says_noreply ws) ws) ws)
of_delta up [] = tt
of_delta up (w ∷ []) = tt
of_delta up (w ∷ v ∷ last) = delta_agrees w v last up (profile.quiet_of last) refl (key_of w) refl (number_below (2 ^ 64) v) refl

of_said : (m : Meaning) (n : ProfileNotice) (ws : List (List ℕ)) → AsksTheSame (profile.whole_or_bad (profile.alone (profile_turn.Say n) ws)) m
of_said m n [] = tt
of_said m n (w ∷ ws) = tt

of_closed : (m : Meaning) (n : ProfileNotice) (ws : List (List ℕ)) → AsksTheSame (profile.whole_or_bad (profile.alone (profile_turn.Close n) ws)) m
of_closed m n [] = tt
of_closed m n (w ∷ ws) = tt

of_get : (ws : List (List ℕ)) → AsksTheSame (profile.line_of profile_name.Get ws) (meaning_of_line (Reads reading.Get) ws)
of_get ws = by (nat_le 1 (length ws) && nat_le (length ws) MOST_KEYS && list_all is_key ws)
  where
    by : (b : Bool) → AsksTheSame (profile.whole_or_bad ((if b then Some ws else None) >>= λ keys. Some (profile_turn.Ask (command.Get keys) false))) (meaning_of_line (Reads reading.Get) ws)
    by true = refl
    by false = tt

of_gets : (ws : List (List ℕ)) → AsksTheSame (profile.line_of profile_name.Gets ws) (meaning_of_line (Reads reading.Gets) ws)
of_gets ws = by (nat_le 1 (length ws) && nat_le (length ws) MOST_KEYS && list_all is_key ws)
  where
    by : (b : Bool) → AsksTheSame (profile.whole_or_bad ((if b then Some ws else None) >>= λ keys. Some (profile_turn.Ask (command.Gets keys) false))) (meaning_of_line (Reads reading.Gets) ws)
    by true = refl
    by false = tt

of_gat : (ws : List (List ℕ)) → AsksTheSame (profile.line_of profile_name.Gat ws) (meaning_of_line (line_of name.Gat false ws) ws)
of_gat [] = tt
of_gat (e ∷ ks) = by (profile_number.exptime_of e) refl (nat_le 1 (length ks) && nat_le (length ks) MOST_KEYS && list_all is_key ks)
  where
    by : (x : Option ℤ) → profile_number.exptime_of e ≡ x → (b : Bool)
        → AsksTheSame (profile.whole_or_bad ((x >>= λ exptime. (if b then Some ks else None) >>= λ keys. Some (let t : ℤ × List (List ℕ) = (exptime, keys) in t)) >>= λ timed. Some (profile_turn.Ask (command.Gat timed.0 timed.1) false)))
        (meaning_of_line (line_of name.Gat false (e ∷ ks)) (e ∷ ks))
    by None is b = tt
    by (Some x) is false = tt
    by (Some x) is true = ap (λ (o : Option ℤ). meaning_of_line (option_map_or (λ x. Reads (reading.Gat x)) o (says_notice false notice.BadExptime)) (e ∷ ks)) (time_as e x is)

of_gats : (ws : List (List ℕ)) → AsksTheSame (profile.line_of profile_name.Gats ws) (meaning_of_line (line_of name.Gats false ws) ws)
of_gats [] = tt
of_gats (e ∷ ks) = by (profile_number.exptime_of e) refl (nat_le 1 (length ks) && nat_le (length ks) MOST_KEYS && list_all is_key ks)
  where
    by : (x : Option ℤ) → profile_number.exptime_of e ≡ x → (b : Bool)
        → AsksTheSame (profile.whole_or_bad ((x >>= λ exptime. (if b then Some ks else None) >>= λ keys. Some (let t : ℤ × List (List ℕ) = (exptime, keys) in t)) >>= λ timed. Some (profile_turn.Ask (command.Gats timed.0 timed.1) false)))
        (meaning_of_line (line_of name.Gats false (e ∷ ks)) (e ∷ ks))
    by None is b = tt
    by (Some x) is false = tt
    by (Some x) is true = ap (λ (o : Option ℤ). meaning_of_line (option_map_or (λ x. Reads (reading.Gats x)) o (says_notice false notice.BadExptime)) (e ∷ ks)) (time_as e x is)

lines_agree : (n : ProfileName) (ws : List (List ℕ)) → AsksTheSame (profile.line_of n ws) (meaning_of_line (line_of (as_name n) (says_noreply ws) ws) ws)
unfolding as_name
lines_agree (profile_name.Store v) ws = of_store v ws
lines_agree profile_name.Cas ws = of_cas ws
lines_agree profile_name.Get ws = of_get ws
lines_agree profile_name.Gets ws = of_gets ws
lines_agree profile_name.Gat ws = of_gat ws
lines_agree profile_name.Gats ws = of_gats ws
lines_agree profile_name.Delete ws = of_delete ws
lines_agree profile_name.Touch ws = of_touch ws
lines_agree profile_name.Incr ws = of_delta true ws
lines_agree profile_name.Decr ws = of_delta false ws
lines_agree profile_name.Version ws = of_said _ profile_notice.Version ws
lines_agree profile_name.Quit ws = of_closed _ profile_notice.Silent ws

words_agree : (ws : List (List ℕ)) → AsksTheSame (profile.line_of_words ws) (meaning_of_words ws)
words_agree [] = tt
words_agree (w ∷ ws) = by (profile.name_of w) refl
  where
    by : (n : Option ProfileName) → profile.name_of w ≡ n → AsksTheSame (option_map_or (λ n. profile.line_of n ws) n (profile_line.Whole (profile_turn.Say profile_notice.UnknownName))) (meaning_of_words (w ∷ ws))
    by None is = tt
    by (Some n) is =
        subst (λ (m : Option Name). AsksTheSame (profile.line_of n ws) (option_map_or (λ name. meaning_of_line (line_of name (says_noreply ws) ws) ws) m unknown)) (sym (names_agree w n is)) (lines_agree n ws)

pub line_agrees : (line : List ℕ) → AsksTheSame (profile.meaning line) (meaning line)
unfolding profile.meaning meaning
line_agrees line = by (ends_in_return line)
  where
    by : (b : Bool) → AsksTheSame (if b then profile.line_of_words (words (take (length line - 1) line)) else profile_line.Whole (profile_turn.Say profile_notice.BadFormat))
        (meaning_of_words (words (if b then take (length line - 1) line else line)))
    by true = words_agree (words (take (length line - 1) line))
    by false = tt

pub block_agrees : (h : Header) (block end : List ℕ) → length block ≡ h.size → BlockAsksTheSame (profile_grammar.block_turn h block end) (block_turn (opened_by h) (block ++ end))
block_agrees h block end l = by (bytes_eq end (13 ∷ 10 ∷ [])) refl (nat_lt MOST_BLOCK_BYTES h.size)
  where
    same : (b : Bool) → bytes_eq end (13 ∷ 10 ∷ []) ≡ b → block_turn (opened_by h) (block ++ end) ≡ (if b then Some (Ask (filled h block) (shown h.quiet)) else said h.quiet notice.BadChunk)
    same b is =
        ap (λ (ys : List ℕ). if bytes_eq ys (13 ∷ 10 ∷ []) then Some (Ask (filled h (take h.size (block ++ end))) (shown h.quiet)) else said h.quiet notice.BadChunk) (drop_at block end h.size l)
        ∙ ap (λ (ys : List ℕ). if bytes_eq end (13 ∷ 10 ∷ []) then Some (Ask (filled h ys) (shown h.quiet)) else said h.quiet notice.BadChunk) (take_at block end h.size l)
        ∙ ap (λ (c : Bool). if c then Some (Ask (filled h block) (shown h.quiet)) else said h.quiet notice.BadChunk) is

    by : (b : Bool) → bytes_eq end (13 ∷ 10 ∷ []) ≡ b → (large : Bool)
        → BlockAsksTheSame (if b then (if large then profile_turn.Say profile_notice.TooLarge else profile_turn.Ask (filled h block) h.quiet) else profile_turn.Close profile_notice.BadChunk) (block_turn (opened_by h) (block ++ end))
    by true is true = tt
    by true is false = same true is
    by false is large = tt
