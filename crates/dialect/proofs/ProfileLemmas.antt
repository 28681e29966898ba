-- What a line asks in the profile, it asks in the dialect too.
use Rattle.std.proofs.Common.{◌≡◌, ℕ, ◌+◌, ◌-◌, ◌<◌, ◌≤◌, ◌^◌, ◌%◌, Bool, true, false, List, [], ◌∷◌, length, Option, Some, None, refl, sym, ap, ◌∙◌, subst, arith, ◌&&◌, if◌then◌else◌}
use Rattle.std.specs.Prelude.{ℤ, pos, neg_ℤ, ◌==◌, nat_lt, nat_le, codes, bytes_eq}
use Rattle.std.specs.Str.{all_ascii_digits}
use Rattle.std.specs.Str.Parse.{digits_value}
use Rattle.std.specs.Char.{is_ascii_digit}
use Rattle.std.specs.Option.{option_map, option_map_or}
use Rattle.std.proofs.lemmas.Bool.Decides.{nat_tests}
use Rattle.std.proofs.lemmas.Slice.Eq.{bytes_eq-Decides}
use Rattle.proto.specs.Line as profile
use Rattle.proto.specs.Line.{◌>>=◌, key_of, counting}
use Rattle.proto.specs.Number as profile_number
use Rattle.proto.specs.Number.{is_number, number_below}
use Rattle.proto.specs.declared.block.TheConstants.{MOST_BLOCK_BYTES}
use Rattle.proto.specs.declared.command.StoreVerb.{StoreVerb}
use Rattle.proto.specs.declared.command.Update.TheVariants as update
use Rattle.proto.specs.declared.line.Header.{Header}
use Rattle.proto.specs.declared.line.Kind.{Kind}
use Rattle.proto.specs.declared.line.Kind.TheVariants as kind
use Rattle.dialect.specs.Number.{unsigned_of, flags_of, exptime_of, block_size_of, wrapped, wrapped_minus}
use Rattle.dialect.specs.Line.{ends_quiet, is_end, says_notice, asks_update, opened_by, sized, storage, header_of, cas_kind, store_line, cas_line, delete_of, touch_line, delta_line}
use Rattle.dialect.specs.declared.turn.Notice.TheVariants as notice
use Rattle.dialect.specs.declared.line.Line.TheVariants.{Opens}
use Rattle.dialect.proofs.PieceLemmas.{and_parts}
use Rattle.dialect.proofs.RunLemmas.{chosen, taken, lt_yes, le_yes}

pub some_is : {A : Type 0} (x y : A) → Some x ≡ Some y → x ≡ y
some_is x y e = cc

-- a test that was passed
pub passed : {A : Type 0} (b : Bool) (x y : A) → (if b then Some x else None) ≡ Some y → (b ≡ true) × (x ≡ y)
passed true x y e = (refl, some_is x y e)
passed false x y e = absurd (cc)

-- Numbers.

below_parts : (limit : ℕ) (text : List ℕ) (n : ℕ) → number_below limit text ≡ Some n → (is_number text ≡ true) × (n < limit) × (digits_value 10 text ≡ n)
below_parts limit text n e =
    let p = passed (is_number text && nat_lt (digits_value 10 text) limit) (digits_value 10 text) n e in
    let parts = and_parts (is_number text) (nat_lt (digits_value 10 text) limit) p.0 in
    (parts.0, subst (λ (m : ℕ). m < limit) p.1 (lt_yes (digits_value 10 text) limit parts.1), p.1)

below_at : (limit : ℕ) (text : List ℕ) (n : ℕ) → is_number text ≡ true → digits_value 10 text ≡ n → n < limit → number_below limit text ≡ Some n
below_at limit text n e v l =
    taken (is_number text && nat_lt (digits_value 10 text) limit) _ _ (both (is_number text) (nat_lt (digits_value 10 text) limit) e (tested (digits_value 10 text) limit (subst (λ (m : ℕ). m < limit) (sym v) l)))
    ∙ ap Some v
  where
    both : (x y : Bool) → x ≡ true → y ≡ true → (x && y) ≡ true
    both true y e f = f
    both false y e f = e

    tested : (m limit : ℕ) → m < limit → nat_lt m limit ≡ true
    tested m limit l = grind (arith, nat_tests)

no_plus : (c : ℕ) (cs : List ℕ) → is_number (c ∷ cs) ≡ true → (c == 43) ≡ false
no_plus c cs e = digit_only c (and_parts (is_ascii_digit c) (all_ascii_digits cs) (and_parts (nat_lt 0 (length (c ∷ cs))) (all_ascii_digits (c ∷ cs)) e).1).0
  where
    digit_only : (c : ℕ) → is_ascii_digit c ≡ true → (c == 43) ≡ false
    digit_only c e = grind (arith, nat_tests)

unsigned_as : (limit : ℕ) (text : List ℕ) (n : ℕ) → number_below limit text ≡ Some n → n < 2 ^ 64 → unsigned_of text ≡ Some n
unsigned_as limit [] n e l = absurd (let f : false ≡ true = (below_parts limit [] n e).0 in cc)
unsigned_as limit (c ∷ cs) n e l =
    let p = below_parts limit (c ∷ cs) n e in
    chosen (c == 43) _ _ (no_plus c cs p.0) ∙ below_at (2 ^ 64) (c ∷ cs) n p.0 p.2 l

low : (n : ℕ) → n < 2 ^ 32 → n % 2 ^ 32 ≡ n
low n l = omega (arith, l)

flags_as : (text : List ℕ) (n : ℕ) → number_below (2 ^ 32) text ≡ Some n → flags_of text ≡ Some n
flags_as text n e =
    let l : n < 2 ^ 32 = (below_parts (2 ^ 32) text n e).1 in
    ap (option_map (λ n. n % 2 ^ 32)) (unsigned_as (2 ^ 32) text n e (omega (arith, l))) ∙ ap Some (low n l)

size_as : (text : List ℕ) (n : ℕ) → number_below (2 ^ 31) text ≡ Some n → n ≤ MOST_BLOCK_BYTES → block_size_of text ≡ Some n
size_as [] n e l = absurd (let f : false ≡ true = (below_parts (2 ^ 31) [] n e).0 in cc)
size_as (c ∷ cs) n e l =
    let p = below_parts (2 ^ 31) (c ∷ cs) n e in
    chosen (c == 43) _ _ (no_plus c cs p.0) ∙ below_at (2 ^ 31 - 2) (c ∷ cs) n p.0 p.2 (omega (arith, l))

pub time_as : (text : List ℕ) (x : ℤ) → profile_number.exptime_of text ≡ Some x → exptime_of text ≡ Some x
time_as [] x e = absurd (cc)
time_as (c ∷ cs) x e = by (c == 45) refl e
  where
    minus : (n : ℕ) → n ≤ 2 ^ 31 → wrapped_minus n ≡ neg_ℤ (pos n)
    minus n l = let same : n % 2 ^ 32 ≡ n = low n (omega (arith, l)) in
        ap (λ (m : ℕ). if nat_le m (2 ^ 31) then neg_ℤ (pos m) else pos (2 ^ 32 - m)) same ∙ taken (nat_le n (2 ^ 31)) _ _ (grind (arith, nat_tests))

    plain : (n : ℕ) → n < 2 ^ 31 → wrapped n ≡ pos n
    plain n l = let same : n % 2 ^ 32 ≡ n = low n (omega (arith, l)) in
        ap (λ (m : ℕ). if nat_lt m (2 ^ 31) then pos m else neg_ℤ (pos (2 ^ 32 - m))) same ∙ taken (nat_lt n (2 ^ 31)) _ _ (grind (arith, nat_tests))

    by : (b : Bool) → (c == 45) ≡ b
        → (if b then (if is_number cs && nat_le (digits_value 10 cs) (2 ^ 31) then Some (neg_ℤ (pos (digits_value 10 cs))) else None)
        else (if is_number (c ∷ cs) && nat_lt (digits_value 10 (c ∷ cs)) (2 ^ 31) then Some (pos (digits_value 10 (c ∷ cs))) else None)) ≡ Some x → exptime_of (c ∷ cs) ≡ Some x
    by true is e =
        let p = passed (is_number cs && nat_le (digits_value 10 cs) (2 ^ 31)) (neg_ℤ (pos (digits_value 10 cs))) x e in
        let parts = and_parts (is_number cs) (nat_le (digits_value 10 cs) (2 ^ 31)) p.0 in
        let l : digits_value 10 cs ≤ 2 ^ 31 = le_yes (digits_value 10 cs) (2 ^ 31) parts.1 in
        taken (c == 45) _ _ is
        ∙ ap (option_map wrapped_minus) (below_at (2 ^ 63 + 1) cs (digits_value 10 cs) parts.0 refl (omega (arith, l)))
        ∙ ap Some (minus (digits_value 10 cs) l ∙ p.1)
    by false is e =
        let p = passed (is_number (c ∷ cs) && nat_lt (digits_value 10 (c ∷ cs)) (2 ^ 31)) (pos (digits_value 10 (c ∷ cs))) x e in
        let parts = and_parts (is_number (c ∷ cs)) (nat_lt (digits_value 10 (c ∷ cs)) (2 ^ 31)) p.0 in
        let l : digits_value 10 (c ∷ cs) < 2 ^ 31 = lt_yes (digits_value 10 (c ∷ cs)) (2 ^ 31) parts.1 in
        chosen (c == 45) _ _ is ∙ chosen (c == 43) _ _ (no_plus c cs parts.0)
        ∙ ap (option_map wrapped) (below_at (2 ^ 63) (c ∷ cs) (digits_value 10 (c ∷ cs)) parts.0 refl (omega (arith, l)))
        ∙ ap Some (plain (digits_value 10 (c ∷ cs)) l ∙ p.1)

-- noreply.

-- a word that is another has its tests
pub word_is : (w t : List ℕ) → bytes_eq w t ≡ true → w ≡ t
word_is w t e = (bytes_eq-Decides w t).0 e

not_noreply : {A : Type 0} (read : List ℕ → Option A) (w : List ℕ) (x : A) → read (codes "noreply") ≡ None → read w ≡ Some x → bytes_eq w (codes "noreply") ≡ false
not_noreply read w x none some = by (bytes_eq w (codes "noreply")) refl
  where
    by : (b : Bool) → bytes_eq w (codes "noreply") ≡ b → b ≡ false
    by true e = absurd (let f : Some x ≡ None = sym some ∙ ap read (word_is w (codes "noreply") e) ∙ none in cc)
    by false e = refl

-- the words behind the last needed one
pub quiet_ends : (last : List (List ℕ)) (q : Bool) → profile.quiet_of last ≡ Some q → (is_end last ≡ true) × ((b : Bool) → b ≡ false → ends_quiet b last ≡ q)
quiet_ends [] q e = (refl, λ b f. f ∙ some_is false q e)
quiet_ends (w ∷ []) q e = let p = passed (bytes_eq w (codes "noreply")) true q e in (refl, λ b f. p.0 ∙ p.1)
quiet_ends (w ∷ v ∷ ws) q e = absurd (cc)

-- Lines with one key.

pub delete_is : (k : List ℕ) (last : List (List ℕ)) (q : Bool) (key : List ℕ) → profile.quiet_of last ≡ Some q → key_of k ≡ Some key → delete_of (ends_quiet false last) k last ≡ asks_update q (update.Delete key)
delete_is k [] q key e f =
    ap (λ (o : Option (List ℕ)). option_map_or (λ key. asks_update false (update.Delete key)) o (says_notice false notice.BadFormat)) f ∙ ap (λ (b : Bool). asks_update b (update.Delete key)) (some_is false q e)
delete_is k (w ∷ []) q key e f =
    let p = passed (bytes_eq w (codes "noreply")) true q e in
    ap (λ (v : List ℕ). delete_of (ends_quiet false (v ∷ [])) k (v ∷ [])) (word_is w (codes "noreply") p.0)
    ∙ ap (λ (o : Option (List ℕ)). option_map_or (λ key. asks_update true (update.Delete key)) o (says_notice true notice.BadFormat)) f ∙ ap (λ (b : Bool). asks_update b (update.Delete key)) p.1
delete_is k (w ∷ v ∷ ws) q key e f = absurd (cc)

pub touch_is : (k w : List ℕ) (last : List (List ℕ)) (q : Bool) (key : List ℕ) (x : ℤ) → profile.quiet_of last ≡ Some q → key_of k ≡ Some key → profile_number.exptime_of w ≡ Some x
    → touch_line (ends_quiet false (k ∷ w ∷ last)) (k ∷ w ∷ last) ≡ asks_update q (update.Touch key x)
touch_is k w last q key x e f g =
    let ends = quiet_ends last q e in
    ap (λ (quiet : Bool). touch_line quiet (k ∷ w ∷ last)) (ends.1 (bytes_eq w (codes "noreply")) (not_noreply profile_number.exptime_of w x refl g))
    ∙ taken (is_end last) _ _ ends.0
    ∙ ap (λ (o : Option (List ℕ)). option_map_or (λ key. option_map_or (λ x. asks_update q (update.Touch key x)) (exptime_of w) (says_notice q notice.BadExptime)) o (says_notice q notice.BadFormat)) f
    ∙ ap (λ (o : Option ℤ). option_map_or (λ x. asks_update q (update.Touch key x)) o (says_notice q notice.BadExptime)) (time_as w x g)

pub delta_is : (up : Bool) (k w : List ℕ) (last : List (List ℕ)) (q : Bool) (key : List ℕ) (n : ℕ) → profile.quiet_of last ≡ Some q → key_of k ≡ Some key → number_below (2 ^ 64) w ≡ Some n
    → delta_line up (ends_quiet false (k ∷ w ∷ last)) (k ∷ w ∷ last) ≡ asks_update q (counting up key n)
delta_is up k w last q key n e f g =
    let ends = quiet_ends last q e in
    let l : n < 2 ^ 64 = (below_parts (2 ^ 64) w n g).1 in
    ap (λ (quiet : Bool). delta_line up quiet (k ∷ w ∷ last)) (ends.1 (bytes_eq w (codes "noreply")) (not_noreply (number_below (2 ^ 64)) w n refl g))
    ∙ taken (is_end last) _ _ ends.0
    ∙ ap (λ (o : Option (List ℕ)). option_map_or (λ key. option_map_or (λ n. asks_update q (counting up key n)) (unsigned_of w) (says_notice q notice.BadDelta)) o (says_notice q notice.BadFormat)) f
    ∙ ap (λ (o : Option ℕ). option_map_or (λ n. asks_update q (counting up key n)) o (says_notice q notice.BadDelta)) (unsigned_as (2 ^ 64) w n g l)

-- Storage lines.

header_is : (quiet : Bool) (k : Kind) (w f e : List ℕ) (size : ℕ) (key : List ℕ) (flags : ℕ) (exptime : ℤ) → key_of w ≡ Some key → flags_of f ≡ Some flags → exptime_of e ≡ Some exptime
    → header_of quiet (Some k) w f e size ≡ Some (record { kind = k; key = key; flags = flags; exptime = exptime; size = size; quiet = quiet })
header_is quiet k w f e size key flags exptime a b c =
    ap (λ (o : Option ℕ). o >>= λ flags. exptime_of e >>= λ exptime. key_of w >>= λ key. Some (as_header flags exptime key)) b
    ∙ ap (λ (o : Option ℤ). o >>= λ exptime. key_of w >>= λ key. Some (as_header flags exptime key)) c
    ∙ ap (λ (o : Option (List ℕ)). o >>= λ key. Some (as_header flags exptime key)) a
  where
    as_header : ℕ → ℤ → List ℕ → Header
    as_header flags exptime key = record { kind = k; key = key; flags = flags; exptime = exptime; size = size; quiet = quiet }

stored_is : (quiet : Bool) (n : List ℕ) (header : ℕ → Option Header) (size : ℕ) (h : Header) → block_size_of n ≡ Some size → size ≤ MOST_BLOCK_BYTES → header size ≡ Some h → storage quiet (block_size_of n) header ≡ Opens (opened_by h)
stored_is quiet n header size h e l f =
    ap (λ (o : Option ℕ). storage quiet o header) e ∙ ap (λ (o : Option Header). sized quiet size o) f ∙ chosen (nat_lt MOST_BLOCK_BYTES size) _ _ (grind (arith, nat_tests))

module _ (w f e n : List ℕ) (last : List (List ℕ)) (q : Bool) (key : List ℕ) (flags : ℕ) (exptime : ℤ) (size : ℕ) where
  pub store_is : (v : StoreVerb) → number_below (2 ^ 32) f ≡ Some flags → profile_number.exptime_of e ≡ Some exptime → number_below (2 ^ 31) n ≡ Some size → profile.quiet_of last ≡ Some q → key_of w ≡ Some key
      → size ≤ MOST_BLOCK_BYTES → store_line v (ends_quiet false (w ∷ f ∷ e ∷ n ∷ last)) (w ∷ f ∷ e ∷ n ∷ last)
      ≡ Opens (opened_by (record { kind = kind.Plain v; key = key; flags = flags; exptime = exptime; size = size; quiet = q }))
  store_is v a b c d g l =
      let ends = quiet_ends last q d in
      ap (λ (quiet : Bool). store_line v quiet (w ∷ f ∷ e ∷ n ∷ last)) (ends.1 (bytes_eq n (codes "noreply")) (not_noreply (number_below (2 ^ 31)) n size refl c))
      ∙ taken (is_end last) _ _ ends.0
      ∙ stored_is q n (header_of q (Some (kind.Plain v)) w f e) size _ (size_as n size c l) l (header_is q (kind.Plain v) w f e size key flags exptime g (flags_as f flags a) (time_as e exptime b))

  pub cas_is : (u : List ℕ) (unique : ℕ) → number_below (2 ^ 32) f ≡ Some flags → profile_number.exptime_of e ≡ Some exptime → number_below (2 ^ 31) n ≡ Some size → number_below (2 ^ 64) u ≡ Some unique
      → profile.quiet_of last ≡ Some q → key_of w ≡ Some key → size ≤ MOST_BLOCK_BYTES → cas_line (ends_quiet false (w ∷ f ∷ e ∷ n ∷ u ∷ last)) (w ∷ f ∷ e ∷ n ∷ u ∷ last)
      ≡ Opens (opened_by (record { kind = kind.Cas unique; key = key; flags = flags; exptime = exptime; size = size; quiet = q }))
  cas_is u unique a b c i d g l =
      let ends = quiet_ends last q d in
      let small : unique < 2 ^ 64 = (below_parts (2 ^ 64) u unique i).1 in
      let asked : cas_kind u ≡ Some (kind.Cas unique) = ap (λ (o : Option ℕ). o >>= λ unique. Some (kind.Cas unique)) (unsigned_as (2 ^ 64) u unique i small) in
      ap (λ (quiet : Bool). cas_line quiet (w ∷ f ∷ e ∷ n ∷ u ∷ last)) (ends.1 (bytes_eq u (codes "noreply")) (not_noreply (number_below (2 ^ 64)) u unique refl i))
      ∙ taken (is_end last) _ _ ends.0
      ∙ ap (λ (k : Option Kind). storage q (block_size_of n) (header_of q k w f e)) asked
      ∙ stored_is q n (header_of q (Some (kind.Cas unique)) w f e) size _ (size_as n size c l) l (header_is q (kind.Cas unique) w f e size key flags exptime g (flags_as f flags a) (time_as e exptime b))
