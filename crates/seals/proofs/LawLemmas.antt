-- What comes decides what is taken, and what was sealed is what is taken.
use Rattle.std.proofs.Common.{◌≡◌, ◌≢◌, ℕ, suc, ◌+◌, ◌^◌, ◌<◌, ◌≤◌, List, [], ◌∷◌, ◌++◌, length, Option, Some, None, refl, sym, ap, ◌∙◌, subst, arith}
use Rattle.std.specs.Prelude.{All, slice_get}
use Rattle.std.specs.Int.{w32, w64, from_be_bytes, to_be_bytes}
use Rattle.std.proofs.lemmas.Nat.{from_be_bytes-to_be_bytes_4, from_be_bytes-to_be_bytes_8}
use Rattle.std.proofs.lemmas.List.{append_assoc, append-nil, append_cancel_left, length-append, nil_from_length}
use Rattle.std.proofs.lemmas.List.Elements.{All-head, All-tail}
use Rattle.std.proofs.lemmas.Option.{none-some}
use Rattle.seals.specs.declared.fault.SealFault.{SealFault}
use Rattle.seals.specs.declared.fault.SealFault.TheVariants.{TooLong, WrongTag, Stopped, NoMemory}
use Rattle.seals.specs.declared.frame.TheConstants.{MOST_PIECE_BYTES, LENGTH_BYTES, TAG_BYTES}
use Rattle.seals.specs.Frame.{with_length, tag_behind, frame, frames, said_length, IsPartOfFrame, IsEndFor}
use Rattle.seals.specs.Opening.{OpenerView, StandsBehind, HasOpened}
use Rattle.seals.specs.Laws.{AreFirstOf, HadMemory, TakenIsTold, IsUnforged, TakenIsSent, SentIsTaken, PieceIsTold, HandshakeIsTold}
use Rattle.seals.proofs.FrameLemmas.{same_fronts, length-tag_behind, length-with_length, length-frame, said_length-piece}

abbrev IsWithinLimit : List ℕ → Type 0
IsWithinLimit piece = length piece ≤ MOST_PIECE_BYTES

-- pieces behind their lengths at the front of one text are one piece
pieces_apart : (p q r s : List ℕ) → IsWithinLimit p → IsWithinLimit q → with_length p ++ r ≡ with_length q ++ s → (p ≡ q) × (r ≡ s)
unfolding with_length
pieces_apart p q r s short_p short_q e =
    let regrouped : to_be_bytes w32 (length p) ++ (p ++ r) ≡ to_be_bytes w32 (length q) ++ (q ++ s) =
    sym (append_assoc (to_be_bytes w32 (length p)) p r) ∙ (e ∙ append_assoc (to_be_bytes w32 (length q)) q s) in
    let fronts = same_fronts (to_be_bytes w32 (length p)) (to_be_bytes w32 (length q)) (p ++ r) (q ++ s) refl regrouped in
    let size : length p ≡ length q = sym (from_be_bytes-to_be_bytes_4 (length p) (omega (arith, short_p))) ∙ (ap (from_be_bytes w32) fronts.0 ∙ from_be_bytes-to_be_bytes_4 (length q) (omega (arith, short_q))) in
    same_fronts p q r s size fronts.1

-- frames of one number at the front of one text are one frame
frames_apart : (key : List ℕ) (number : ℕ) (p q r s : List ℕ) → IsWithinLimit p → IsWithinLimit q → frame key number p ++ r ≡ frame key number q ++ s → (p ≡ q) × (r ≡ s)
frames_apart key number p q r s short_p short_q e =
    let regrouped : with_length p ++ (tag_behind key number (with_length p) ++ r) ≡ with_length q ++ (tag_behind key number (with_length q) ++ s) =
    sym (append_assoc (with_length p) (tag_behind key number (with_length p)) r) ∙ (e ∙ append_assoc (with_length q) (tag_behind key number (with_length q)) s) in
    let pieces = pieces_apart p q (tag_behind key number (with_length p) ++ r) (tag_behind key number (with_length q) ++ s) short_p short_q regrouped in
    let sizes = length-tag_behind key number (with_length p) ∙ sym (length-tag_behind key number (with_length q)) in
    (pieces.0, (same_fronts (tag_behind key number (with_length p)) (tag_behind key number (with_length q)) r s sizes pieces.1).1)

-- the bytes begin with no frame of this number
abbrev HasNoFrame : List ℕ → ℕ → List ℕ → Type 0
HasNoFrame key number bytes = (piece after : List ℕ) → IsWithinLimit piece → number + 1 < 2 ^ 64 → bytes ≡ frame key number piece ++ after → ⊥

none_in_part : (key : List ℕ) (number : ℕ) (bytes : List ℕ) → IsPartOfFrame bytes → HasNoFrame key number bytes
none_in_part key number bytes part piece after within numbered e =
    let long : length bytes ≡ LENGTH_BYTES + length piece + TAG_BYTES + length after = ap length e ∙ (length-append (frame key number piece) after ∙ ap (λ n. n + length after) (length-frame key number piece)) in
    let regrouped : bytes ≡ with_length piece ++ (tag_behind key number (with_length piece) ++ after) = e ∙ append_assoc (with_length piece) (tag_behind key number (with_length piece)) after in
    let size : said_length bytes ≡ length piece = ap said_length regrouped ∙ said_length-piece piece (tag_behind key number (with_length piece) ++ after) within in
    let missing = part (omega (arith, long)) in
    absurd (omega (arith, missing.1, size, long))

none_at_end : (fault : SealFault) (key : List ℕ) (number : ℕ) (bytes : List ℕ) → (fault ≡ NoMemory → ⊥) → IsEndFor fault key number bytes → HasNoFrame key number bytes
none_at_end TooLong key number bytes ne h piece after within numbered e =
    let regrouped : bytes ≡ with_length piece ++ (tag_behind key number (with_length piece) ++ after) = e ∙ append_assoc (with_length piece) (tag_behind key number (with_length piece)) after in
    let size : said_length bytes ≡ length piece = ap said_length regrouped ∙ said_length-piece piece (tag_behind key number (with_length piece) ++ after) within in
    absurd (omega (arith, h.1, size, within))
none_at_end WrongTag key number bytes ne h piece after within numbered e =
    let regrouped : with_length h.piece ++ (h.tag ++ h.after) ≡ with_length piece ++ (tag_behind key number (with_length piece) ++ after) =
    sym h.split ∙ (e ∙ append_assoc (with_length piece) (tag_behind key number (with_length piece)) after) in
    let pieces = pieces_apart h.piece piece (h.tag ++ h.after) (tag_behind key number (with_length piece) ++ after) h.within within regrouped in
    let tags = same_fronts h.tag (tag_behind key number (with_length piece)) h.after after (h.whole ∙ sym (length-tag_behind key number (with_length piece))) pieces.1 in
    h.other (tags.0 ∙ ap (λ p. tag_behind key number (with_length p)) (sym pieces.0))
none_at_end Stopped key number bytes ne h piece after within numbered e = absurd (omega (arith, h, numbered))
none_at_end NoMemory key number bytes ne h piece after within numbered e = ne refl

none_behind : (end : Option SealFault) (key : List ℕ) (count : ℕ) (rest : List ℕ) (number : ℕ) (kept : List ℕ) → end ≢ Some NoMemory → StandsBehind end key count rest number kept → HasNoFrame key count rest
none_behind None key count rest number kept memory h = none_in_part key count rest h.2
none_behind (Some fault) key count rest number kept memory h = none_at_end fault key count rest (λ e. memory (ap Some e)) h

-- Two rows of frames begin one text. If no frame follows the first row, the pieces of the second are a beginning of those of the first.
first_of_row : (key : List ℕ) (number : ℕ) (ps qs : List (List ℕ)) (r s : List ℕ) → All IsWithinLimit ps → All IsWithinLimit qs → number + length qs < 2 ^ 64 → HasNoFrame key (number + length ps) r
    → frames key number ps ++ r ≡ frames key number qs ++ s → AreFirstOf qs ps
first_of_row key number ps [] r s short_p short_q numbered none e = (ps, refl)
first_of_row key number [] (q ∷ qs) r s short_p short_q numbered none e =
    let same : number + 0 ≡ number = omega arith in
    let here : HasNoFrame key number r = subst (λ n. HasNoFrame key n r) same none in
    absurd (here q (frames key (number + 1) qs ++ s) (All-head IsWithinLimit q qs short_q) (omega (arith, numbered)) (e ∙ append_assoc (frame key number q) (frames key (number + 1) qs) s))
first_of_row key number (p ∷ ps) (q ∷ qs) r s short_p short_q numbered none e =
    let regrouped : frame key number p ++ (frames key (number + 1) ps ++ r) ≡ frame key number q ++ (frames key (number + 1) qs ++ s) =
    sym (append_assoc (frame key number p) (frames key (number + 1) ps) r) ∙ (e ∙ append_assoc (frame key number q) (frames key (number + 1) qs) s) in
    let heads = frames_apart key number p q (frames key (number + 1) ps ++ r) (frames key (number + 1) qs ++ s) (All-head IsWithinLimit p ps short_p) (All-head IsWithinLimit q qs short_q) regrouped in
    let same : number + suc (length ps) ≡ (number + 1) + length ps = omega arith in
    let tails = first_of_row key (number + 1) ps qs r s (All-tail IsWithinLimit p ps short_p) (All-tail IsWithinLimit q qs short_q) (omega (arith, numbered)) (subst (λ n. HasNoFrame key n r) same none) heads.1 in
    (tails.0, (λ i. heads.0 i ∷ tails.1 i))

-- what one took is a beginning of what these bytes are the frames of, and of something behind
taken_first : (key all : List ℕ) (pieces others : List (List ℕ)) (rest : List ℕ) (o : OpenerView) → HasOpened key all pieces o → HadMemory o → All IsWithinLimit others → length others < 2 ^ 64 → all ≡ frames key 0 others ++ rest → AreFirstOf others pieces
taken_first key all pieces others rest o h memory short numbered e =
    let none = none_behind o.end key (length pieces) h.rest o.number o.kept memory h.stands in
    let same : length pieces ≡ 0 + length pieces = omega arith in
    first_of_row key 0 pieces others h.rest rest h.front.within short (omega (arith, numbered)) (subst (λ n. HasNoFrame key n h.rest) same none) (sym h.front.split ∙ e)

pub taken_is_told : TakenIsTold
taken_is_told key all pieces others o p h g memory = taken_first key all others pieces h.rest p g memory h.front.within h.numbered h.front.split

-- ---- no tag is forged

-- a list of which the element behind these is known
goes_on_with : (done left : List (List ℕ)) (piece : List ℕ) → slice_get (done ++ left) (length done) ≡ Some piece → (later : List (List ℕ)) × (left ≡ piece ∷ later)
goes_on_with [] [] piece e = absurd (none-some piece e)
goes_on_with [] (x ∷ xs) piece e = (xs, (let same : x ≡ piece = cc in ap (λ y. y ∷ xs) same))
goes_on_with (x ∷ done) left piece e = goes_on_with done left piece e

-- the pieces whose frames follow are those that were sealed behind the ones before
first_of_sent : (key all : List ℕ) (sent done left pieces : List (List ℕ)) (before rest : List ℕ) (number : ℕ) → IsUnforged key sent all → sent ≡ done ++ left → length done ≡ number → All IsWithinLimit pieces → number + length pieces < 2 ^ 64
    → all ≡ before ++ (frames key number pieces ++ rest) → AreFirstOf pieces left
first_of_sent key all sent done left [] before rest number unforged split count short numbered e = (left, refl)
first_of_sent key all sent done left (p ∷ ps) before rest number unforged split count short numbered e =
    let regrouped : all ≡ before ++ (frame key number p ++ (frames key (number + 1) ps ++ rest)) = e ∙ ap (λ xs. before ++ xs) (append_assoc (frame key number p) (frames key (number + 1) ps) rest) in
    let sealed : slice_get sent number ≡ Some p = unforged number p before (frames key (number + 1) ps ++ rest) (omega (arith, numbered)) (All-head IsWithinLimit p ps short) regrouped in
    let here : slice_get (done ++ left) (length done) ≡ Some p = ap (slice_get (done ++ left)) count ∙ (ap (λ xs. slice_get xs number) (sym split) ∙ sealed) in
    let next = goes_on_with done left p here in
    let resplit : sent ≡ (done ++ p ∷ []) ++ next.0 = split ∙ (ap (λ xs. done ++ xs) next.1 ∙ sym (append_assoc done (p ∷ []) next.0)) in
    let recount : length (done ++ p ∷ []) ≡ number + 1 = omega (arith, count, length-append done (p ∷ [])) in
    let onward : all ≡ (before ++ frame key number p) ++ (frames key (number + 1) ps ++ rest) = regrouped ∙ sym (append_assoc before (frame key number p) (frames key (number + 1) ps ++ rest)) in
    let tails = first_of_sent key all sent (done ++ p ∷ []) next.0 ps (before ++ frame key number p) rest (number + 1) unforged resplit recount (All-tail IsWithinLimit p ps short) (omega (arith, numbered)) onward in
    (tails.0, next.1 ∙ ap (λ xs. p ∷ xs) tails.1)

pub taken_is_sent : TakenIsSent
taken_is_sent key all pieces sent o h unforged = first_of_sent key all sent [] sent pieces [] h.rest 0 unforged refl refl h.front.within (omega (arith, h.numbered)) h.front.split

-- ---- all of it came

same_from_firsts : (ps qs : List (List ℕ)) → AreFirstOf ps qs → AreFirstOf qs ps → ps ≡ qs
same_from_firsts ps qs f g =
    let size : length ps ≡ length ps + length f.0 + length g.0 = ap length g.1 ∙ (length-append qs g.0 ∙ ap (λ n. n + length g.0) (ap length f.1 ∙ length-append ps f.0)) in
    let nothing : f.0 ≡ [] = nil_from_length f.0 (omega (arith, size)) in
    sym (f.1 ∙ (ap (λ xs. ps ++ xs) nothing ∙ append-nil ps))

-- no bytes are no reason to end
open_at_none : (end : Option SealFault) (key : List ℕ) (count : ℕ) (rest : List ℕ) (number : ℕ) (kept : List ℕ) → end ≢ Some NoMemory → count + 1 < 2 ^ 64 → StandsBehind end key count rest number kept → rest ≡ [] → end ≡ None
open_at_none None key count rest number kept memory numbered h e = refl
open_at_none (Some TooLong) key count rest number kept memory numbered h e = absurd (omega (arith, h.0, ap length e))
open_at_none (Some WrongTag) key count rest number kept memory numbered h e =
    absurd (omega (arith, ap length (sym e ∙ h.split), length-append (with_length h.piece) (h.tag ++ h.after), length-with_length h.piece))
open_at_none (Some Stopped) key count rest number kept memory numbered h e = absurd (omega (arith, h, numbered))
open_at_none (Some NoMemory) key count rest number kept memory numbered h e = absurd (memory refl)

pub sent_is_taken : SentIsTaken
sent_is_taken key pieces sent o short numbered h memory =
    let whole : frames key 0 sent ≡ frames key 0 sent ++ [] = sym (append-nil (frames key 0 sent)) in
    let sent_first = taken_first key (frames key 0 sent) pieces sent [] o h memory short (omega (arith, numbered)) whole in
    let none_left : HasNoFrame key (0 + length sent) [] = none_in_part key (0 + length sent) [] (λ there. absurd (omega (arith, there))) in
    let pieces_first = first_of_row key 0 sent pieces [] h.rest short h.front.within (omega (arith, h.numbered)) none_left (append-nil (frames key 0 sent) ∙ h.front.split) in
    let same : pieces ≡ sent = same_from_firsts pieces sent pieces_first sent_first in
    let nothing : h.rest ≡ [] =
    append_cancel_left (frames key 0 pieces) h.rest [] (sym h.front.split ∙ (ap (λ ps. frames key 0 ps) (sym same) ∙ sym (append-nil (frames key 0 pieces)))) in
    (same, open_at_none o.end key (length pieces) h.rest o.number o.kept memory (omega (arith, ap length same, numbered)) h.stands nothing)

-- ---- texts that tags are of

pub piece_is_told : PieceIsTold
piece_is_told number other_number piece other lt other_lt short other_short e =
    let fronts = same_fronts (to_be_bytes w64 number) (to_be_bytes w64 other_number) (with_length piece) (with_length other) refl e in
    let numbers : number ≡ other_number = sym (from_be_bytes-to_be_bytes_8 number lt) ∙ (ap (from_be_bytes w64) fronts.0 ∙ from_be_bytes-to_be_bytes_8 other_number other_lt) in
    let ends : with_length piece ++ [] ≡ with_length other ++ [] = ap (λ xs. xs ++ []) fronts.1 in
    (numbers, (pieces_apart piece other [] [] short other_short ends).0)

-- a text behind its length at the front
hello_apart : (p q r s : List ℕ) → length p < 2 ^ 64 → length q < 2 ^ 64 → to_be_bytes w64 (length p) ++ (p ++ r) ≡ to_be_bytes w64 (length q) ++ (q ++ s) → (p ≡ q) × (r ≡ s)
hello_apart p q r s lt_p lt_q e =
    let fronts = same_fronts (to_be_bytes w64 (length p)) (to_be_bytes w64 (length q)) (p ++ r) (q ++ s) refl e in
    let size : length p ≡ length q = sym (from_be_bytes-to_be_bytes_8 (length p) lt_p) ∙ (ap (from_be_bytes w64) fronts.0 ∙ from_be_bytes-to_be_bytes_8 (length q) lt_q) in
    same_fronts p q r s size fronts.1

regroup : (w a b c d : List ℕ) → w ++ a ++ b ++ c ++ d ≡ w ++ (a ++ (b ++ (c ++ d)))
regroup w a b c d = simp append_assoc

pub handshake_is_told : HandshakeIsTold
handshake_is_told word other i j r s size lt_i lt_j e =
    let regrouped : word ++ (to_be_bytes w64 (length i) ++ (i ++ (to_be_bytes w64 (length r) ++ r))) ≡ other ++ (to_be_bytes w64 (length j) ++ (j ++ (to_be_bytes w64 (length s) ++ s))) =
    sym (regroup word (to_be_bytes w64 (length i)) i (to_be_bytes w64 (length r)) r) ∙ (e ∙ regroup other (to_be_bytes w64 (length j)) j (to_be_bytes w64 (length s)) s) in
    let words = same_fronts word other (to_be_bytes w64 (length i) ++ (i ++ (to_be_bytes w64 (length r) ++ r))) (to_be_bytes w64 (length j) ++ (j ++ (to_be_bytes w64 (length s) ++ s))) size regrouped in
    let initiators = hello_apart i j (to_be_bytes w64 (length r) ++ r) (to_be_bytes w64 (length s) ++ s) lt_i lt_j words.1 in
    let responders = same_fronts (to_be_bytes w64 (length r)) (to_be_bytes w64 (length s)) r s refl initiators.1 in
    (words.0, initiators.0, responders.1)
