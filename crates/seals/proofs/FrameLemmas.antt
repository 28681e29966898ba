-- Frames at the front of bytes.
use Rattle.std.proofs.Common.{◌≡◌, ℕ, suc, ◌+◌, ◌-◌, ◌<◌, ◌≤◌, List, [], ◌∷◌, ◌++◌, length, get_or, take, drop, inl, inr, refl, sym, ap, ◌∙◌, arith}
use Rattle.std.specs.Int.{w32, w64, from_be_bytes, to_be_bytes}
use Rattle.std.proofs.lemmas.Bool.{cases_lt}
use Rattle.std.proofs.lemmas.Nat.{be_bytes_4, from_be_bytes-to_be_bytes_4}
use Rattle.std.proofs.lemmas.List.{append_assoc, append-nil, length-append, length-drop, length-take, length-take-le, get_or-take, get_or_past, take_at, take-take, take-append-le, drop_at, take-append-drop}
use Rattle.sha2.proofs.Facts256.{length-sha256}
use Rattle.sha2.specs.Sha256.{sha256}
use Rattle.mac.specs.Hmac.{hmac_sha256, inner_pad, outer_pad}
use Rattle.seals.specs.declared.fault.SealFault.{SealFault}
use Rattle.seals.specs.declared.fault.SealFault.TheVariants.{TooLong, WrongTag, Stopped, NoMemory}
use Rattle.seals.specs.declared.frame.TheConstants.{MOST_PIECE_BYTES, LENGTH_BYTES, TAG_BYTES}
use Rattle.seals.specs.Frame.{with_length, tag_behind, frame, frames, said_length, IsPartOfFrame, HasWholeFrame, HasWrongTag, IsEndFor}

-- lists of one length at the front of one text are one list
pub same_fronts : {X : Type 0} (xs ys r s : List X) → length xs ≡ length ys → xs ++ r ≡ ys ++ s → (xs ≡ ys) × (r ≡ s)
same_fronts xs ys r s l e = (
  sym (take_at xs r (length ys) l) ∙ (ap (take (length ys)) e ∙ take_at ys s (length ys) refl),
  sym (drop_at xs r (length ys) l) ∙ (ap (drop (length ys)) e ∙ drop_at ys s (length ys) refl),
)

-- ---- lengths

pub length-tag_behind : (key : List ℕ) (number : ℕ) (counted : List ℕ) → length (tag_behind key number counted) ≡ TAG_BYTES
unfolding tag_behind
length-tag_behind key number counted =
    let long : length (hmac_sha256 key (to_be_bytes w64 number ++ counted)) ≡ 32 = length-sha256 (outer_pad key ++ sha256 (inner_pad key ++ (to_be_bytes w64 number ++ counted))) in
    length-take-le TAG_BYTES (hmac_sha256 key (to_be_bytes w64 number ++ counted)) (omega (arith, long))

pub length-with_length : (piece : List ℕ) → length (with_length piece) ≡ LENGTH_BYTES + length piece
unfolding with_length
length-with_length piece = length-append (to_be_bytes w32 (length piece)) piece

pub length-frame : (key : List ℕ) (number : ℕ) (piece : List ℕ) → length (frame key number piece) ≡ LENGTH_BYTES + length piece + TAG_BYTES
length-frame key number piece =
    omega (arith, length-append (with_length piece) (tag_behind key number (with_length piece)), length-with_length piece, length-tag_behind key number (with_length piece))

-- a piece behind its length begins with its length
pub said_length-piece : (piece rest : List ℕ) → length piece ≤ MOST_PIECE_BYTES → said_length (with_length piece ++ rest) ≡ length piece
unfolding said_length with_length
said_length-piece piece rest within = from_be_bytes-to_be_bytes_4 (length piece) (omega (arith, within))

pub said_length-append : (bytes more : List ℕ) → LENGTH_BYTES ≤ length bytes → said_length (bytes ++ more) ≡ said_length bytes
unfolding said_length
said_length-append bytes more there = ap (from_be_bytes w32) (take-append-le LENGTH_BYTES bytes more there)

pub said_length-take : (n : ℕ) (bytes : List ℕ) → LENGTH_BYTES ≤ n → said_length (take n bytes) ≡ said_length bytes
unfolding said_length
said_length-take n bytes there = ap (from_be_bytes w32) (take-take LENGTH_BYTES n bytes there)

-- ---- bytes that a frame begins

are_bytes-take : (n : ℕ) (bytes : List ℕ) → ((i : ℕ) → get_or bytes i 0 < 256) → (i : ℕ) → get_or (take n bytes) i 0 < 256
are_bytes-take n bytes h i =
    elim (cases_lt i n) [
      | inl lt ↦ rw (get_or-take n bytes i 0 lt) (h i)
      | inr le ↦ rw (get_or_past (take n bytes) i 0 (omega (arith, length-take n bytes))) (omega arith)
    ]

-- bytes that begin with their own length are a piece behind its length
counted_is : (bytes : List ℕ) → ((i : ℕ) → get_or bytes i 0 < 256) → length bytes ≡ LENGTH_BYTES + said_length bytes → with_length (drop LENGTH_BYTES bytes) ≡ bytes
unfolding with_length said_length
counted_is bytes are_bytes whole =
    let long : LENGTH_BYTES ≤ length bytes = omega (arith, whole) in
    let size : length (drop LENGTH_BYTES bytes) ≡ said_length bytes = omega (arith, whole, length-drop LENGTH_BYTES bytes) in
    let front : to_be_bytes w32 (said_length bytes) ≡ take LENGTH_BYTES bytes =
    be_bytes_4 (take LENGTH_BYTES bytes) (said_length bytes) (length-take-le LENGTH_BYTES bytes long) (are_bytes-take LENGTH_BYTES bytes are_bytes) refl in
    ap (λ n. to_be_bytes w32 n ++ drop LENGTH_BYTES bytes) size ∙ (ap (λ xs. xs ++ drop LENGTH_BYTES bytes) front ∙ take-append-drop LENGTH_BYTES bytes)

module _ (bytes : List ℕ) (are_bytes : (i : ℕ) → get_or bytes i 0 < 256) (w : HasWholeFrame bytes) where
  pub front_of_whole : with_length (drop LENGTH_BYTES (take (length bytes - TAG_BYTES) bytes)) ≡ take (length bytes - TAG_BYTES) bytes
  front_of_whole =
      let n : LENGTH_BYTES ≤ length bytes - TAG_BYTES = omega (arith, w.whole) in
      counted_is (take (length bytes - TAG_BYTES) bytes) (are_bytes-take (length bytes - TAG_BYTES) bytes are_bytes)
      (omega (arith, w.whole, length-take (length bytes - TAG_BYTES) bytes, said_length-take (length bytes - TAG_BYTES) bytes n))

  pub piece_of_whole : length (drop LENGTH_BYTES (take (length bytes - TAG_BYTES) bytes)) ≤ MOST_PIECE_BYTES
  piece_of_whole = omega (arith, w.whole, w.within, length-take (length bytes - TAG_BYTES) bytes, length-drop LENGTH_BYTES (take (length bytes - TAG_BYTES) bytes))

  tag_of_whole : length (drop (length bytes - TAG_BYTES) bytes) ≡ TAG_BYTES
  tag_of_whole = omega (arith, w.whole, length-drop (length bytes - TAG_BYTES) bytes)

  -- its tag is right: it is the frame of its piece
  pub right_tag : (key : List ℕ) (number : ℕ) → tag_behind key number (take (length bytes - TAG_BYTES) bytes) ≡ drop (length bytes - TAG_BYTES) bytes
      → bytes ≡ frame key number (drop LENGTH_BYTES (take (length bytes - TAG_BYTES) bytes))
  right_tag key number e =
      sym (take-append-drop (length bytes - TAG_BYTES) bytes)
      ∙ (ap (λ tag. take (length bytes - TAG_BYTES) bytes ++ tag) (sym e)
      ∙ ap (λ xs. xs ++ tag_behind key number xs) (sym front_of_whole))

  pub wrong_tag : (key : List ℕ) (number : ℕ) → (tag_behind key number (take (length bytes - TAG_BYTES) bytes) ≡ drop (length bytes - TAG_BYTES) bytes → ⊥) → HasWrongTag key number bytes
  wrong_tag key number ne = record {
    piece = drop LENGTH_BYTES (take (length bytes - TAG_BYTES) bytes);
    tag = drop (length bytes - TAG_BYTES) bytes;
    after = [];
    split = sym (take-append-drop (length bytes - TAG_BYTES) bytes)
        ∙ (ap (λ xs. xs ++ drop (length bytes - TAG_BYTES) bytes) (sym front_of_whole)
        ∙ ap (λ xs. with_length (drop LENGTH_BYTES (take (length bytes - TAG_BYTES) bytes)) ++ xs) (sym (append-nil (drop (length bytes - TAG_BYTES) bytes))));
    within = piece_of_whole;
    whole = tag_of_whole;
    other = λ e. ne (sym (e ∙ ap (tag_behind key number) front_of_whole));
  }

-- ---- bytes that come behind a part of a frame

module _ (kept front : List ℕ) (missing : ℕ) (part : IsPartOfFrame kept) (to_length : length kept < LENGTH_BYTES → length kept + missing ≡ LENGTH_BYTES)
    (to_end : LENGTH_BYTES ≤ length kept → length kept + missing ≡ LENGTH_BYTES + said_length kept + TAG_BYTES) where
  -- some of those that are missing
  pub part_more : length front < missing → IsPartOfFrame (kept ++ front)
  part_more few = λ there.
      elim (cases_lt (length kept) LENGTH_BYTES) [
        | inl lt ↦ absurd (omega (arith, to_length lt, length-append kept front, there, few))
        | inr le ↦
            let same : said_length (kept ++ front) ≡ said_length kept = said_length-append kept front le in
            let inside = part le in
            (omega (arith, same, inside.0), omega (arith, same, to_end le, length-append kept front, few))
      ]

  -- all of those that are missing of the frame
  pub whole_more : length front ≡ missing → (length (kept ++ front) ≡ LENGTH_BYTES → ⊥) → HasWholeFrame (kept ++ front)
  whole_more all more =
      elim (cases_lt (length kept) LENGTH_BYTES) [
        | inl lt ↦ absurd (more (omega (arith, to_length lt, length-append kept front, all)))
        | inr le ↦
            let same : said_length (kept ++ front) ≡ said_length kept = said_length-append kept front le in
            let inside = part le in
            record {
              there = omega (arith, le, length-append kept front);
              within = omega (arith, same, inside.0);
              whole = omega (arith, same, to_end le, length-append kept front, all);
            }
      ]

-- ---- what ends

-- what ends with these bytes ends with more behind them
pub IsEndFor-append : (fault : SealFault) (key : List ℕ) (number : ℕ) (bytes more : List ℕ) → IsEndFor fault key number bytes → IsEndFor fault key number (bytes ++ more)
IsEndFor-append TooLong key number bytes more h =
    (omega (arith, h.0, length-append bytes more), rw (said_length-append bytes more h.0) h.1)
IsEndFor-append WrongTag key number bytes more h = record {
  piece = h.piece;
  tag = h.tag;
  after = h.after ++ more;
  split = ap (λ xs. xs ++ more) h.split
      ∙ (append_assoc (with_length h.piece) (h.tag ++ h.after) more ∙ ap (λ xs. with_length h.piece ++ xs) (append_assoc h.tag h.after more));
  within = h.within;
  whole = h.whole;
  other = h.other;
}
IsEndFor-append Stopped key number bytes more h = h
IsEndFor-append NoMemory key number bytes more h = h

-- ---- frames one after the other

pub frames-append : (key : List ℕ) (number : ℕ) (pieces more : List (List ℕ)) → frames key number (pieces ++ more) ≡ frames key number pieces ++ frames key (number + length pieces) more
frames-append key number [] more = ap (λ n. frames key n more) (let same : number ≡ number + 0 = omega arith in same)
frames-append key number (piece ∷ pieces) more =
    let same : (number + 1) + length pieces ≡ number + suc (length pieces) = omega arith in
    ap (λ xs. frame key number piece ++ xs) (frames-append key (number + 1) pieces more ∙ ap (λ n. frames key (number + 1) pieces ++ frames key n more) same)
    ∙ sym (append_assoc (frame key number piece) (frames key (number + 1) pieces) (frames key (number + suc (length pieces)) more))

pub frames-push : (key : List ℕ) (number : ℕ) (pieces : List (List ℕ)) (piece : List ℕ) → frames key number (pieces ++ piece ∷ []) ≡ frames key number pieces ++ frame key (number + length pieces) piece
frames-push key number pieces piece =
    frames-append key number pieces (piece ∷ []) ∙ ap (λ xs. frames key number pieces ++ xs) (append-nil (frame key (number + length pieces) piece))
