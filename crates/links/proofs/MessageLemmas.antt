-- Messages at the front of bytes.
use Rattle.std.proofs.Common.{◌≡◌, ℕ, ◌+◌, ◌-◌, ◌^◌, ◌<◌, ◌≤◌, List, [], ◌∷◌, ◌++◌, length, get_or, take, drop, inl, inr, refl, sym, ap, ◌∙◌, arith}
use Rattle.std.specs.Int.{w32, w64, from_be_bytes, to_be_bytes}
use Rattle.std.specs.List.{flat_map}
use Rattle.std.proofs.lemmas.Bool.{cases_lt}
use Rattle.std.proofs.lemmas.Nat.{be_bytes_4, be_bytes_8, from_be_bytes-to_be_bytes_4}
use Rattle.std.proofs.lemmas.List.Concat.{flat_map-append}
use Rattle.std.proofs.lemmas.List.{append-nil, length-append, length-drop, length-take, length-take-le, get_or-take, get_or-drop, get_or_past, take_at, take-append-le, drop_at, drop-append-le, drop-drop, take-append-drop}
use Rattle.links.specs.declared.message_fault.MessageFault.{MessageFault}
use Rattle.links.specs.declared.message_fault.MessageFault.TheVariants.{TooLong, NoMemory}
use Rattle.links.specs.declared.message.TheConstants.{NUMBER_BYTES, SIZE_BYTES, HEADER_BYTES}
use Rattle.links.specs.Numbered.{Numbered}
use Rattle.links.specs.Message.{message_text, said_number, said_size, EndsReading}

-- lists of one length at the front of one text are one list
pub same_fronts : {X : Type 0} (xs ys r s : List X) → length xs ≡ length ys → xs ++ r ≡ ys ++ s → (xs ≡ ys) × (r ≡ s)
same_fronts xs ys r s l e = (
  sym (take_at xs r (length ys) l) ∙ (ap (λ zs. take (length ys) zs) e ∙ take_at ys s (length ys) refl),
  sym (drop_at xs r (length ys) l) ∙ (ap (λ zs. drop (length ys) zs) e ∙ drop_at ys s (length ys) refl),
)

-- ---- the header

pub length-message_text : (m : Numbered) → length (message_text m) ≡ HEADER_BYTES + length m.1
unfolding message_text
length-message_text m =
    omega (arith, length-append (to_be_bytes w64 m.0) (to_be_bytes w32 (length m.1) ++ m.1), length-append (to_be_bytes w32 (length m.1)) m.1)

-- a message begins with the length of its text
pub said_size-message_text : (m : Numbered) (rest : List ℕ) → length m.1 < 2 ^ 32 → said_size (message_text m ++ rest) ≡ length m.1
unfolding message_text said_size
said_size-message_text m rest sized = from_be_bytes-to_be_bytes_4 (length m.1) sized

pub said_size-append : (bytes more : List ℕ) → HEADER_BYTES ≤ length bytes → said_size (bytes ++ more) ≡ said_size bytes
unfolding said_size
said_size-append bytes more there =
    let whole : SIZE_BYTES ≤ length (drop NUMBER_BYTES bytes) = omega (arith, there, length-drop NUMBER_BYTES bytes) in
    ap (λ xs. from_be_bytes w32 (take SIZE_BYTES xs)) (drop-append-le NUMBER_BYTES bytes more (omega (arith, there)))
    ∙ ap (from_be_bytes w32) (take-append-le SIZE_BYTES (drop NUMBER_BYTES bytes) more whole)

-- ---- bytes that are a message

are_bytes-take : (n : ℕ) (bytes : List ℕ) → ((i : ℕ) → get_or bytes i 0 < 256) → (i : ℕ) → get_or (take n bytes) i 0 < 256
are_bytes-take n bytes h i =
    elim (cases_lt i n) [
      | inl lt ↦ rw (get_or-take n bytes i 0 lt) (h i)
      | inr le ↦ rw (get_or_past (take n bytes) i 0 (omega (arith, length-take n bytes))) (omega arith)
    ]

are_bytes-drop : (n : ℕ) (bytes : List ℕ) → ((i : ℕ) → get_or bytes i 0 < 256) → (i : ℕ) → get_or (drop n bytes) i 0 < 256
are_bytes-drop n bytes h i = rw (get_or-drop n bytes i 0) (h (n + i))

-- bytes that are a header and just as much text as it says are the message that they say
module _ (bytes : List ℕ) (are_bytes : (i : ℕ) → get_or bytes i 0 < 256) (whole : length bytes ≡ HEADER_BYTES + said_size bytes) where
  pub text_of_whole : length (drop HEADER_BYTES bytes) ≡ said_size bytes
  text_of_whole = omega (arith, whole, length-drop HEADER_BYTES bytes)

  front_of_whole : to_be_bytes w64 (said_number bytes) ≡ take NUMBER_BYTES bytes
  unfolding said_number
  front_of_whole = be_bytes_8 (take NUMBER_BYTES bytes) (said_number bytes) (length-take-le NUMBER_BYTES bytes (omega (arith, whole))) (are_bytes-take NUMBER_BYTES bytes are_bytes) refl

  size_of_whole : to_be_bytes w32 (said_size bytes) ≡ take SIZE_BYTES (drop NUMBER_BYTES bytes)
  unfolding said_size
  size_of_whole =
      be_bytes_4 (take SIZE_BYTES (drop NUMBER_BYTES bytes)) (said_size bytes) (length-take-le SIZE_BYTES (drop NUMBER_BYTES bytes) (omega (arith, whole, length-drop NUMBER_BYTES bytes)))
      (are_bytes-take SIZE_BYTES (drop NUMBER_BYTES bytes) (are_bytes-drop NUMBER_BYTES bytes are_bytes)) refl

  pub whole_is : bytes ≡ message_text (said_number bytes, drop HEADER_BYTES bytes)
  unfolding message_text
  whole_is =
      let behind : drop SIZE_BYTES (drop NUMBER_BYTES bytes) ≡ drop HEADER_BYTES bytes = drop-drop SIZE_BYTES NUMBER_BYTES bytes in
      sym (take-append-drop NUMBER_BYTES bytes)
      ∙ (ap (λ xs. take NUMBER_BYTES bytes ++ xs) (sym (take-append-drop SIZE_BYTES (drop NUMBER_BYTES bytes)))
      ∙ (ap (λ xs. xs ++ (take SIZE_BYTES (drop NUMBER_BYTES bytes) ++ drop SIZE_BYTES (drop NUMBER_BYTES bytes))) (sym front_of_whole)
      ∙ (ap (λ xs. to_be_bytes w64 (said_number bytes) ++ (xs ++ drop SIZE_BYTES (drop NUMBER_BYTES bytes))) (sym size_of_whole)
      ∙ (ap (λ xs. to_be_bytes w64 (said_number bytes) ++ (to_be_bytes w32 (said_size bytes) ++ xs)) behind
      ∙ ap (λ n. to_be_bytes w64 (said_number bytes) ++ (to_be_bytes w32 n ++ drop HEADER_BYTES bytes)) (sym text_of_whole)))))

-- ---- bytes that come behind a part of a message

-- they are at most those that are missing
pub no_more : (kept front : List ℕ) (missing : ℕ) → (length kept < HEADER_BYTES → missing ≡ HEADER_BYTES - length kept) → (HEADER_BYTES ≤ length kept → missing ≡ HEADER_BYTES + said_size kept - length kept)
    → (HEADER_BYTES ≤ length kept → length kept < HEADER_BYTES + said_size kept) → length front ≤ missing → length (kept ++ front) ≤ HEADER_BYTES + said_size (kept ++ front)
no_more kept front missing to_header to_end part few =
    elim (cases_lt (length kept) HEADER_BYTES) [
      | inl lt ↦ omega (arith, to_header lt, length-append kept front, few)
      | inr le ↦ omega (arith, to_end le, part le, said_size-append kept front le, length-append kept front, few)
    ]

-- ---- what ends

-- what ends with these bytes ends with more behind them
pub EndsReading-append : (fault : MessageFault) (most : ℕ) (bytes more : List ℕ) → EndsReading fault most bytes → EndsReading fault most (bytes ++ more)
EndsReading-append TooLong most bytes more h = (omega (arith, h.0, length-append bytes more), rw (said_size-append bytes more h.0) h.1)
EndsReading-append NoMemory most bytes more h = h

-- ---- messages one after the other

pub texts-push : (messages : List Numbered) (m : Numbered) → flat_map message_text (messages ++ m ∷ []) ≡ flat_map message_text messages ++ message_text m
texts-push messages m = flat_map-append message_text messages (m ∷ []) ∙ ap (λ xs. flat_map message_text messages ++ xs) (append-nil (message_text m))
