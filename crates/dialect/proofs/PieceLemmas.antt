-- The lines of the profile that a line of many keys is read as.
use Rattle.std.proofs.Common.{◌≡◌, ℕ, ◌+◌, ◌<◌, ◌≤◌, Bool, true, false, List, [], ◌∷◌, ◌++◌, length, refl, sym, ap, ◌∙◌, arith, lit≤, ◌&&◌}
use Rattle.std.specs.Prelude.{nat_le, nat_lt}
use Rattle.std.proofs.lemmas.List.{length-append}
use Rattle.std.proofs.lemmas.Grind.{flat_map-append}
use Rattle.std.proofs.lemmas.Bool.Decides.{nat_tests}
use Rattle.proto.specs.Key.{is_key, is_key_byte}
use Rattle.std.specs.List.{list_all}
use Rattle.proto.specs.declared.key.TheConstants.{MOST_KEYS, MOST_KEY_BYTES}
use Rattle.proto.specs.declared.line.TheConstants as profile
use Rattle.dialect.specs.Reading.{head, read_text, keys_fit, piece_turns, has_room, IsPiece, read_command}
use Rattle.dialect.specs.declared.turn.Show.TheVariants as show
use Rattle.dialect.specs.declared.turn.Turn.TheVariants.{Ask}
use Rattle.dialect.specs.declared.line.ReadVerb.{ReadVerb}
use Rattle.dialect.proofs.RunLemmas.{chosen, taken, lt_yes, lt_no, le_yes, le_no}

pub and_parts : (x y : Bool) → (x && y) ≡ true → (x ≡ true) × (y ≡ true)
and_parts true y e = (refl, e)
and_parts false y e = absurd (let f : false ≡ true = e in cc)

and_last : (x y : Bool) → y ≡ false → (x && y) ≡ false
and_last true y e = e
and_last false y e = refl

pub text_one : (r : ReadVerb) (k : List ℕ) → length (read_text r (k ∷ [])) ≡ length (head r) + length k + 3
unfolding read_text
text_one r k = simp length-append (omega arith)

pub text_more : (r : ReadVerb) (ks : List (List ℕ)) (k : List ℕ) → length (read_text r (ks ++ k ∷ [])) ≡ length (read_text r ks) + length k + 1
unfolding read_text
text_more r ks k = simp (flat_map-append, length-append) (omega arith)

pub fits_yes : (r : ReadVerb) (ks : List (List ℕ)) → length ks ≤ MOST_KEYS → length (read_text r ks) ≤ profile.MOST_LINE_BYTES → keys_fit r ks ≡ true
unfolding keys_fit
fits_yes r ks l m = grind (arith, nat_tests)

pub fits_many : (r : ReadVerb) (ks : List (List ℕ)) → MOST_KEYS < length ks → keys_fit r ks ≡ false
unfolding keys_fit
fits_many r ks l = grind (arith, nat_tests)

pub fits_long : (r : ReadVerb) (ks : List (List ℕ)) → profile.MOST_LINE_BYTES < length (read_text r ks) → keys_fit r ks ≡ false
unfolding keys_fit
fits_long r ks l = and_last (nat_le (length ks) MOST_KEYS) (nat_le (length (read_text r ks)) profile.MOST_LINE_BYTES) (grind (arith, nat_tests))

module _ (r : ReadVerb) (ks : List (List ℕ)) (bytes : ℕ) (p : IsPiece r ks bytes) (k : List ℕ) where
  longer : length (ks ++ k ∷ []) ≡ length ks + 1
  longer = length-append ks (k ∷ [])

  pub longer_piece : has_room (length ks) (bytes + length k + 1) ≡ true → IsPiece r (ks ++ k ∷ []) (bytes + length k + 1)
  longer_piece e =
      let parts = and_parts (nat_lt (length ks) MOST_KEYS) (nat_le (bytes + length k + 1) profile.MOST_LINE_BYTES) e in
      let l : length ks < MOST_KEYS = lt_yes (length ks) MOST_KEYS parts.0 in
      let m : bytes + length k + 1 ≤ profile.MOST_LINE_BYTES = le_yes (bytes + length k + 1) profile.MOST_LINE_BYTES parts.1 in
      record {
        some = omega (arith, longer);
        few = omega (arith, longer, l);
        len = ap (λ n. n + length k + 1) p.len ∙ sym (text_more r ks k);
        short = m;
      }

  pub fits_as : keys_fit r (ks ++ k ∷ []) ≡ has_room (length ks) (bytes + length k + 1)
  fits_as = by (nat_lt (length ks) MOST_KEYS) (nat_le (bytes + length k + 1) profile.MOST_LINE_BYTES) refl refl
    where
      text_is : length (read_text r (ks ++ k ∷ [])) ≡ bytes + length k + 1
      text_is = text_more r ks k ∙ ap (λ n. n + length k + 1) (sym p.len)

      by : (x y : Bool) → nat_lt (length ks) MOST_KEYS ≡ x → nat_le (bytes + length k + 1) profile.MOST_LINE_BYTES ≡ y → keys_fit r (ks ++ k ∷ []) ≡ (x && y)
      by true true l m =
          let few : length ks < MOST_KEYS = lt_yes (length ks) MOST_KEYS l in
          let short : bytes + length k + 1 ≤ profile.MOST_LINE_BYTES = le_yes (bytes + length k + 1) profile.MOST_LINE_BYTES m in
          fits_yes r (ks ++ k ∷ []) (omega (arith, longer, few)) (omega (arith, text_is, short))
      by true false l m =
          let long : profile.MOST_LINE_BYTES < bytes + length k + 1 = le_no (bytes + length k + 1) profile.MOST_LINE_BYTES m in
          fits_long r (ks ++ k ∷ []) (omega (arith, text_is, long))
      by false y l m =
          let many : MOST_KEYS ≤ length ks = lt_no (length ks) MOST_KEYS l in
          fits_many r (ks ++ k ∷ []) (omega (arith, longer, many))

  -- the key goes on the piece
  pub goes_on : (more : List (List ℕ)) → has_room (length ks) (bytes + length k + 1) ≡ true → piece_turns r ks (k ∷ more) ≡ piece_turns r (ks ++ k ∷ []) more
  goes_on more e = taken (keys_fit r (ks ++ k ∷ [])) _ _ (fits_as ∙ e)

  -- the key begins the next piece
  pub begins : (more : List (List ℕ)) → has_room (length ks) (bytes + length k + 1) ≡ false → piece_turns r ks (k ∷ more) ≡ Ask (read_command r ks) show.Items ∷ piece_turns r (k ∷ []) more
  begins more e = chosen (keys_fit r (ks ++ k ∷ [])) _ _ (fits_as ∙ e)

-- a key has at most 250 bytes
pub key_short : (k : List ℕ) → is_key k ≡ true → length k ≤ 250
key_short k e =
    let front = (and_parts (nat_le 1 (length k) && nat_le (length k) MOST_KEY_BYTES) (list_all is_key_byte k) e).0 in
    le_yes (length k) MOST_KEY_BYTES (and_parts (nat_le 1 (length k)) (nat_le (length k) MOST_KEY_BYTES) front).1

-- a piece of one key
pub one_piece : (r : ReadVerb) (k : List ℕ) (n : ℕ) → n ≡ length (head r) → n ≤ 45 → is_key k ≡ true → IsPiece r (k ∷ []) (n + length k + 3)
one_piece r k n e l key =
    let small : length k ≤ 250 = key_short k key in
    record {
      some = omega arith;
      few = lit≤ tt;
      len = ap (λ m. m + length k + 3) e ∙ sym (text_one r k);
      short = omega (arith, small, l);
    }

pub fits_few : (r : ReadVerb) (ks : List (List ℕ)) → keys_fit r ks ≡ true → length ks ≤ MOST_KEYS
unfolding keys_fit
fits_few r ks e = le_yes (length ks) MOST_KEYS (and_parts (nat_le (length ks) MOST_KEYS) (nat_le (length (read_text r ks)) profile.MOST_LINE_BYTES) e).0

pub fits_short : (r : ReadVerb) (ks : List (List ℕ)) → keys_fit r ks ≡ true → length (read_text r ks) ≤ profile.MOST_LINE_BYTES
unfolding keys_fit
fits_short r ks e = le_yes (length (read_text r ks)) profile.MOST_LINE_BYTES (and_parts (nat_le (length ks) MOST_KEYS) (nat_le (length (read_text r ks)) profile.MOST_LINE_BYTES) e).1
