-- What is read is what was written.
use Rattle.std.proofs.Common.{◌≡◌, ◌≢◌, ℕ, ◌+◌, List, [], ◌∷◌, ◌++◌, length, Option, Some, None, All, refl, sym, ap, ◌∙◌, subst, arith}
use Rattle.std.specs.List.{flat_map}
use Rattle.std.specs.Int.{w32, w64, from_be_bytes, to_be_bytes}
use Rattle.std.proofs.lemmas.Nat.{from_be_bytes-to_be_bytes_4, from_be_bytes-to_be_bytes_8}
use Rattle.std.proofs.lemmas.List.{append_assoc, append-nil, append_cancel_left, length-append}
use Rattle.std.proofs.lemmas.List.Concat.{flat_map-append}
use Rattle.std.proofs.lemmas.List.Elements.{All-head, All-tail}
use Rattle.links.specs.declared.message_fault.MessageFault.{MessageFault}
use Rattle.links.specs.declared.message_fault.MessageFault.TheVariants.{TooLong, NoMemory}
use Rattle.links.specs.declared.message.TheConstants.{HEADER_BYTES}
use Rattle.links.specs.Numbered.{Numbered, IsBeginningOf}
use Rattle.links.specs.Message.{message_text, said_size, IsMessage}
use Rattle.links.specs.Reading.{MessageReaderView, IsKeptOrEnds}
use Rattle.links.specs.Pieces.{bytes_of_pieces}
use Rattle.links.specs.MessageLaws.{ReadIsWritten, WrittenIsRead, PiecesCarryMessages}
use Rattle.links.proofs.MessageLemmas.{same_fronts, length-message_text, said_size-message_text}

-- messages at the front of one text are one message
messages_apart : (most : ℕ) (p q : Numbered) (r s : List ℕ) → IsMessage most p → IsMessage most q → message_text p ++ r ≡ message_text q ++ s → (p ≡ q) × (r ≡ s)
unfolding message_text
messages_apart most p q r s is_p is_q e =
    let regroup = λ (m : Numbered) (rest : List ℕ).
    append_assoc (to_be_bytes w64 m.0) (to_be_bytes w32 (length m.1) ++ m.1) rest ∙ ap (λ xs. to_be_bytes w64 m.0 ++ xs) (append_assoc (to_be_bytes w32 (length m.1)) m.1 rest) in
    let numbers = same_fronts (to_be_bytes w64 p.0) (to_be_bytes w64 q.0) (to_be_bytes w32 (length p.1) ++ (p.1 ++ r)) (to_be_bytes w32 (length q.1) ++ (q.1 ++ s)) refl (sym (regroup p r) ∙ (e ∙ regroup q s)) in
    let number : p.0 ≡ q.0 = sym (from_be_bytes-to_be_bytes_8 p.0 is_p.number) ∙ (ap (from_be_bytes w64) numbers.0 ∙ from_be_bytes-to_be_bytes_8 q.0 is_q.number) in
    let sizes = same_fronts (to_be_bytes w32 (length p.1)) (to_be_bytes w32 (length q.1)) (p.1 ++ r) (q.1 ++ s) refl numbers.1 in
    let size : length p.1 ≡ length q.1 = sym (from_be_bytes-to_be_bytes_4 (length p.1) is_p.sized) ∙ (ap (from_be_bytes w32) sizes.0 ∙ from_be_bytes-to_be_bytes_4 (length q.1) is_q.sized) in
    let texts = same_fronts p.1 q.1 r s size sizes.1 in
    ((λ i. (number i, texts.0 i)), texts.1)

-- messages and a rest that are the text of others are the first of them
first_of_written : (most : ℕ) (ps qs : List Numbered) (r : List ℕ) → All (IsMessage most) ps → All (IsMessage most) qs → flat_map message_text ps ++ r ≡ flat_map message_text qs → IsBeginningOf ps qs
first_of_written most [] qs r each_p each_q e = (qs, refl)
first_of_written most (p ∷ ps) [] r each_p each_q e =
    absurd (omega (arith, ap length e, length-append (message_text p ++ flat_map message_text ps) r, length-append (message_text p) (flat_map message_text ps), length-message_text p))
first_of_written most (p ∷ ps) (q ∷ qs) r each_p each_q e =
    let regrouped : message_text p ++ (flat_map message_text ps ++ r) ≡ message_text q ++ flat_map message_text qs = sym (append_assoc (message_text p) (flat_map message_text ps) r) ∙ e in
    let heads = messages_apart most p q (flat_map message_text ps ++ r) (flat_map message_text qs) (All-head (IsMessage most) p ps each_p) (All-head (IsMessage most) q qs each_q) regrouped in
    let tails = first_of_written most ps qs r (All-tail (IsMessage most) p ps each_p) (All-tail (IsMessage most) q qs each_q) heads.1 in
    (tails.0, (λ i. sym heads.0 i ∷ tails.1 i))

pub read_is_written : ReadIsWritten
read_is_written most all messages written r h each begins =
    let rest : flat_map message_text messages ++ (h.rest ++ begins.0) ≡ flat_map message_text written =
    sym (append_assoc (flat_map message_text messages) h.rest begins.0) ∙ (ap (λ xs. xs ++ begins.0) (sym h.front.split) ∙ sym begins.1) in
    first_of_written most messages written (h.rest ++ begins.0) h.front.each each rest

-- ---- all of it came

-- a message is behind those that were read
none_left : (most : ℕ) (end : Option MessageFault) (rest kept : List ℕ) (m : Numbered) (after : List ℕ) → end ≢ Some NoMemory → IsKeptOrEnds end most rest kept → IsMessage most m → rest ≡ message_text m ++ after → ⊥
none_left most None rest kept m after memory h is_m e =
    let size : said_size rest ≡ length m.1 = ap said_size e ∙ said_size-message_text m after is_m.sized in
    let long : length rest ≡ HEADER_BYTES + length m.1 + length after = ap length e ∙ (length-append (message_text m) after ∙ ap (λ n. n + length after) (length-message_text m)) in
    let missing = h.1 (omega (arith, long)) in
    absurd (omega (arith, missing.1, size, long))
none_left most (Some TooLong) rest kept m after memory h is_m e =
    let size : said_size rest ≡ length m.1 = ap said_size e ∙ said_size-message_text m after is_m.sized in
    absurd (omega (arith, h.1, size, is_m.within))
none_left most (Some NoMemory) rest kept m after memory h is_m e = memory refl

-- no bytes are no reason to end
open_at_none : (most : ℕ) (end : Option MessageFault) (rest kept : List ℕ) → end ≢ Some NoMemory → IsKeptOrEnds end most rest kept → rest ≡ [] → end ≡ None
open_at_none most None rest kept memory h e = refl
open_at_none most (Some TooLong) rest kept memory h e = absurd (omega (arith, h.0, ap length e))
open_at_none most (Some NoMemory) rest kept memory h e = absurd (memory refl)

all_read : (most : ℕ) (messages written left : List Numbered) (r : MessageReaderView) (rest : List ℕ) → All (IsMessage most) written → written ≡ messages ++ left → rest ≡ flat_map message_text left → IsKeptOrEnds r.end most rest r.kept
    → r.end ≢ Some NoMemory → (messages ≡ written) × (r.end ≡ None)
all_read most messages written [] r rest each e bytes stands memory =
    (sym (e ∙ append-nil messages), open_at_none most r.end rest r.kept memory stands bytes)
all_read most messages written (m ∷ left) r rest each e bytes stands memory =
    absurd (none_left most r.end rest r.kept m (flat_map message_text left) memory stands (All-head (IsMessage most) m left (all_behind messages (m ∷ left) (subst (All (IsMessage most)) e each))) bytes)
  where
    all_behind : (xs ys : List Numbered) → All (IsMessage most) (xs ++ ys) → All (IsMessage most) ys
    all_behind [] ys h = h
    all_behind (x ∷ xs) ys h = all_behind xs ys (All-tail (IsMessage most) x (xs ++ ys) h)

pub written_is_read : WrittenIsRead
written_is_read most all messages written r h each whole memory =
    let first = read_is_written most all messages written r h each ([], sym (append-nil all ∙ whole)) in
    let same : flat_map message_text messages ++ h.rest ≡ flat_map message_text messages ++ flat_map message_text first.0 =
    sym h.front.split ∙ (whole ∙ (ap (λ ms. flat_map message_text ms) first.1 ∙ flat_map-append message_text messages first.0)) in
    all_read most messages written first.0 r h.rest each first.1 (append_cancel_left (flat_map message_text messages) h.rest (flat_map message_text first.0) same) h.stands memory

-- ---- in pieces

pub pieces_carry_messages : PiecesCarryMessages
pieces_carry_messages most sent taken messages written r bytes first h each =
    read_is_written most (bytes_of_pieces taken) messages written r h each (bytes_of_pieces first.0, sym bytes ∙ (ap bytes_of_pieces first.1 ∙ flat_map-append (λ (piece : List ℕ). piece) taken first.0))
