-- A line of many keys is as good as one command.
use Rattle.std.proofs.Common.{◌≡◌, ℕ, ◌≤◌, Bool, true, false, List, [], ◌∷◌, ◌++◌, length, refl, sym, ap, ◌∙◌, subst, arith, lit≤, ◌&&◌, if◌then◌else◌}
use Rattle.std.specs.Prelude.{flat_map, codes}
use Rattle.std.specs.List.{list_all}
use Rattle.std.proofs.lemmas.List.{append_assoc, append-nil, length-append}
use Rattle.std.proofs.lemmas.Grind.{flat_map-append}
use Rattle.proto.specs.Key.{is_key}
use Rattle.proto.specs.Text.{value_text, reply_text}
use Rattle.proto.specs.declared.key.TheConstants.{MOST_KEYS}
use Rattle.proto.specs.declared.line.TheConstants as profile
use Rattle.proto.specs.declared.reply.Found.{Found}
use Rattle.proto.specs.declared.reply.Reply.TheVariants as reply
use Rattle.dialect.specs.Reading.{head, read_text, keys_fit, piece_turns, read_command, read_turns}
use Rattle.dialect.specs.Laws.{keys_read, all_keys, IsPieceTurn, ArePieces, all_found, bytes_shown}
use Rattle.dialect.specs.declared.turn.Show.{Show}
use Rattle.dialect.specs.declared.turn.Show.TheVariants as show
use Rattle.dialect.specs.declared.turn.Turn.{Turn}
use Rattle.dialect.specs.declared.turn.Turn.TheVariants.{Ask}
use Rattle.dialect.specs.declared.line.ReadVerb.{ReadVerb}
use Rattle.dialect.specs.declared.line.ReadVerb.TheVariants.{Get, Gets, Gat, Gats}
use Rattle.dialect.proofs.PieceLemmas.{and_parts, text_one, key_short, fits_few, fits_short}
use Rattle.dialect.proofs.RunLemmas.{taken}

keys_asked : (r : ReadVerb) (ks : List (List ℕ)) → keys_read (read_command r ks) ≡ ks
keys_asked Get ks = refl
keys_asked Gets ks = refl
keys_asked (Gat exptime) ks = refl
keys_asked (Gats exptime) ks = refl

keys_either : (r : ReadVerb) (ks : List (List ℕ)) (k : List ℕ) (more : List (List ℕ)) (b : Bool) → all_keys (piece_turns r (ks ++ k ∷ []) more) ≡ (ks ++ k ∷ []) ++ more → all_keys (piece_turns r (k ∷ []) more) ≡ k ∷ more
    → all_keys (if b then piece_turns r (ks ++ k ∷ []) more else Ask (read_command r ks) show.Items ∷ piece_turns r (k ∷ []) more) ≡ ks ++ k ∷ more
keys_either r ks k more true p q = p ∙ append_assoc ks (k ∷ []) more
keys_either r ks k more false p q =
    ap (λ (ys : List (List ℕ)). ys ++ all_keys (piece_turns r (k ∷ []) more)) (keys_asked r ks) ∙ ap (λ (ys : List (List ℕ)). ks ++ ys) q

keys_kept : (r : ReadVerb) (ks more : List (List ℕ)) → all_keys (piece_turns r ks more) ≡ ks ++ more
keys_kept r ks [] = ap (λ (ys : List (List ℕ)). ys ++ []) (keys_asked r ks)
keys_kept r ks (k ∷ more) = keys_either r ks k more (keys_fit r (ks ++ k ∷ [])) (keys_kept r (ks ++ k ∷ []) more) (keys_kept r (k ∷ []) more)

all_push : (ks : List (List ℕ)) (k : List ℕ) → list_all is_key ks ≡ true → is_key k ≡ true → list_all is_key (ks ++ k ∷ []) ≡ true
all_push [] k e f = ap (λ (b : Bool). b && true) f
all_push (x ∷ ks) k e f =
    let parts = and_parts (is_key x) (list_all is_key ks) e in
    ap (λ (b : Bool). b && list_all is_key (ks ++ k ∷ [])) parts.0 ∙ all_push ks k parts.1 f

-- the piece so far may be asked
record Good (r : ReadVerb) (ks : List (List ℕ)) : Type 0 where
  valid : list_all is_key ks ≡ true
  some : 1 ≤ length ks
  few : length ks ≤ MOST_KEYS
  short : length (read_text r ks) ≤ profile.MOST_LINE_BYTES

as_turn : (r : ReadVerb) (ks : List (List ℕ)) (s : Show) → Good r ks → IsPieceTurn r (Ask (read_command r ks) s)
as_turn r ks s g = record { keys = ks; shows = s; is = refl; valid = g.valid; some = g.some; few = g.few; short = g.short }

one_good : (r : ReadVerb) (k : List ℕ) → length (head r) ≤ 45 → is_key k ≡ true → Good r (k ∷ [])
one_good r k h e = record {
  valid = ap (λ (b : Bool). b && true) e;
  some = lit≤ tt;
  few = lit≤ tt;
  short = let small : length k ≤ 250 = key_short k e in omega (arith, text_one r k, small, h);
}

longer_good : (r : ReadVerb) (ks : List (List ℕ)) (k : List ℕ) → Good r ks → is_key k ≡ true → keys_fit r (ks ++ k ∷ []) ≡ true → Good r (ks ++ k ∷ [])
longer_good r ks k g e f = record {
  valid = all_push ks k g.valid e;
  some = omega (arith, length-append ks (k ∷ []));
  few = fits_few r (ks ++ k ∷ []) f;
  short = fits_short r (ks ++ k ∷ []) f;
}

either_pieces : (r : ReadVerb) (ks : List (List ℕ)) (k : List ℕ) (more : List (List ℕ)) (b : Bool) → keys_fit r (ks ++ k ∷ []) ≡ b → Good r ks
    → (keys_fit r (ks ++ k ∷ []) ≡ true → ArePieces r (piece_turns r (ks ++ k ∷ []) more)) → ArePieces r (piece_turns r (k ∷ []) more)
    → ArePieces r (if b then piece_turns r (ks ++ k ∷ []) more else Ask (read_command r ks) show.Items ∷ piece_turns r (k ∷ []) more)
either_pieces r ks k more true f g p q = p f
either_pieces r ks k more false f g p q = (as_turn r ks show.Items g, q)

are_pieces : (r : ReadVerb) (ks more : List (List ℕ)) → length (head r) ≤ 45 → Good r ks → list_all is_key more ≡ true → ArePieces r (piece_turns r ks more)
are_pieces r ks [] h g e = (as_turn r ks show.Whole g, tt)
are_pieces r ks (k ∷ more) h g e =
    let parts = and_parts (is_key k) (list_all is_key more) e in
    either_pieces r ks k more (keys_fit r (ks ++ k ∷ [])) refl g (λ f. are_pieces r (ks ++ k ∷ []) more h (longer_good r ks k g parts.0 f) parts.1)
    (are_pieces r (k ∷ []) more h (one_good r k h parts.0) parts.1)

pieces_of_keys : (r : ReadVerb) (k : List ℕ) (ks : List (List ℕ)) → length (head r) ≤ 45 → list_all is_key (k ∷ ks) ≡ true → ArePieces r (piece_turns r (k ∷ []) ks)
pieces_of_keys r k ks h e =
    let parts = and_parts (is_key k) (list_all is_key ks) e in
    are_pieces r (k ∷ []) ks h (one_good r k h parts.0) parts.1

-- turns that find these items give what one command gives that finds all of them
abbrev ShowsAsOne : List Turn → Type 0
ShowsAsOne turns = (found : List (List Found)) → length found ≡ length turns → bytes_shown turns found ≡ reply_text (reply.Values (all_found found))

last_shown : (r : ReadVerb) (ks : List (List ℕ)) → ShowsAsOne (Ask (read_command r ks) show.Whole ∷ [])
last_shown r ks [] e = absurd (omega arith)
last_shown r ks (f ∷ []) e = append-nil (reply_text (reply.Values f)) ∙ ap (λ (fs : List Found). reply_text (reply.Values fs)) (sym (append-nil f))
last_shown r ks (f ∷ g ∷ found) e = absurd (omega arith)

more_shown : (r : ReadVerb) (ks : List (List ℕ)) (turns : List Turn) → ShowsAsOne turns → ShowsAsOne (Ask (read_command r ks) show.Items ∷ turns)
more_shown r ks turns p [] e = absurd (omega arith)
more_shown r ks turns p (f ∷ found) e =
    ap (λ (bytes : List ℕ). flat_map value_text f ++ bytes) (p found (omega arith))
    ∙ sym (append_assoc (flat_map value_text f) (flat_map value_text (all_found found)) (codes "END\r\n"))
    ∙ ap (λ (bytes : List ℕ). bytes ++ codes "END\r\n") (sym (flat_map-append value_text f (all_found found)))

either_shown : (r : ReadVerb) (ks : List (List ℕ)) (k : List ℕ) (more : List (List ℕ)) (b : Bool) → ShowsAsOne (piece_turns r (ks ++ k ∷ []) more) → ShowsAsOne (piece_turns r (k ∷ []) more)
    → ShowsAsOne (if b then piece_turns r (ks ++ k ∷ []) more else Ask (read_command r ks) show.Items ∷ piece_turns r (k ∷ []) more)
either_shown r ks k more true p q = p
either_shown r ks k more false p q = more_shown r ks (piece_turns r (k ∷ []) more) q

shown_as_one : (r : ReadVerb) (ks more : List (List ℕ)) → ShowsAsOne (piece_turns r ks more)
shown_as_one r ks [] = last_shown r ks
shown_as_one r ks (k ∷ more) = either_shown r ks k more (keys_fit r (ks ++ k ∷ [])) (shown_as_one r (ks ++ k ∷ []) more) (shown_as_one r (k ∷ []) more)

-- the turns of a line of keys are its pieces
turns_are : (r : ReadVerb) (k : List ℕ) (ks : List (List ℕ)) → list_all is_key (k ∷ ks) ≡ true → read_turns r (k ∷ ks) ≡ piece_turns r (k ∷ []) ks
turns_are r k ks e = taken (list_all is_key (k ∷ ks)) _ _ e

pub turns_keys : (r : ReadVerb) (k : List ℕ) (ks : List (List ℕ)) → list_all is_key (k ∷ ks) ≡ true → all_keys (read_turns r (k ∷ ks)) ≡ k ∷ ks
turns_keys r k ks e = ap all_keys (turns_are r k ks e) ∙ keys_kept r (k ∷ []) ks

pub turns_pieces : (r : ReadVerb) (k : List ℕ) (ks : List (List ℕ)) → length (head r) ≤ 45 → list_all is_key (k ∷ ks) ≡ true → ArePieces r (read_turns r (k ∷ ks))
turns_pieces r k ks h e = subst (ArePieces r) (sym (turns_are r k ks e)) (pieces_of_keys r k ks h e)

pub turns_shown : (r : ReadVerb) (k : List ℕ) (ks : List (List ℕ)) (found : List (List Found)) → list_all is_key (k ∷ ks) ≡ true
    → length found ≡ length (read_turns r (k ∷ ks)) → bytes_shown (read_turns r (k ∷ ks)) found ≡ reply_text (reply.Values (all_found found))
turns_shown r k ks found e l =
    ap (λ (turns : List Turn). bytes_shown turns found) (turns_are r k ks e)
    ∙ shown_as_one r (k ∷ []) ks found (l ∙ ap (λ (turns : List Turn). length turns) (turns_are r k ks e))
