-- No reply is a prefix of another.
use Rattle.std.proofs.Common.{◌≡◌, ℕ, ◌<◌, ◌≤◌, true, List, ◌++◌, length, get_or, refl, sym, ◌∙◌, ap}
use Rattle.std.proofs.lemmas.Bool.{leb-true, le-leb}
use Rattle.proto.specs.declared.key.TheConstants.{MOST_KEYS}
use Rattle.proto.specs.declared.reply.Found.{Found}
use Rattle.std.specs.Prelude.{nat_eq}
use Rattle.std.specs.Int.{w64}
use Rattle.proto.specs.declared.reply.Reply.{Reply}
use Rattle.proto.specs.declared.reply.Reply.TheVariants as reply
use Rattle.wire.specs.Record.{IsPrefixFree}
use Rattle.wire.specs.Number.{num}
use Rattle.wire.specs.Field.{list_text}
use Rattle.wire.specs.Reply.{found_text, values_text, are_few, reply_record}
use Rattle.wire.specs.LimitedLaws.{limited_prefix_free, limited_at_front}
use Rattle.wire.specs.FrontLaws.{tail_of, head_of, Passes, same_numbers}
use Rattle.wire.specs.FieldLaws.{option_prefix_free}
use Rattle.wire.specs.BlockLaws.{block_prefix_free}
use Rattle.wire.specs.KeyLaws.{key_prefix_free}
use Rattle.wire.specs.RowLaws.{u32_free, u64_free, followed, made_of}

pub found_prefix_free : IsPrefixFree found_text
found_prefix_free = made_of
    (followed (followed (followed key_prefix_free u32_free) block_prefix_free) (option_prefix_free (num w64) u64_free))
    found_text
    (λ f. (((f.key, f.flags), f.block), f.unique))
    (λ p. record { key = p.0.0.0; flags = p.0.0.1; block = p.0.1; unique = p.1 })
    (λ f. refl)
    (λ f. refl)

few_values : (found : List Found) → are_few found ≡ true → length found ≤ MOST_KEYS
few_values found h = leb-true (length found) MOST_KEYS h

values_apart : (xs ys : List Found) (r s : List ℕ) → values_text xs ++ r ≡ values_text ys ++ s → (xs ≡ ys) × (r ≡ s)
unfolding values_text
values_apart xs ys r s e = (limited_prefix_free are_few few_values found_text found_prefix_free).apart xs ys r s e

pub values_prefix_free : IsPrefixFree values_text
values_prefix_free = record { apart = values_apart }

-- at most MOST_KEYS items are at the front of bytes
pub values_at_front : (found : List Found) (bytes rest : List ℕ) → ((i : ℕ) → get_or bytes i 0 < 256) → bytes ≡ values_text found ++ rest
    → (length found ≤ MOST_KEYS) × (bytes ≡ list_text found_text found ++ rest)
unfolding values_text
values_at_front found bytes rest are_bytes e =
    let front = limited_at_front are_few found_text found bytes rest are_bytes e in
    (leb-true _ _ front.0, front.1)

pub values_text-is : (found : List Found) → length found ≤ MOST_KEYS → values_text found ≡ list_text found_text found
unfolding values_text
values_text-is found few = rw (le-leb _ _ few) refl

-- the mark of a reply
abbrev pub reply_mark : Reply → ℕ
reply_mark reply.Stored = 0
reply_mark reply.NotStored = 1
reply_mark reply.Exists = 2
reply_mark reply.NotFound = 3
reply_mark reply.Deleted = 4
reply_mark reply.Touched = 5
reply_mark (reply.Number _) = 6
reply_mark (reply.Values _) = 7
reply_mark reply.TooLarge = 8
reply_mark reply.NotNumber = 9

pub reply_head_is : (r : Reply) (rest : List ℕ) → head_of (reply_record r ++ rest) ≡ reply_mark r
reply_head_is reply.Stored rest = refl
reply_head_is reply.NotStored rest = refl
reply_head_is reply.Exists rest = refl
reply_head_is reply.NotFound rest = refl
reply_head_is reply.Deleted rest = refl
reply_head_is reply.Touched rest = refl
reply_head_is (reply.Number x) rest = refl
reply_head_is (reply.Values x) rest = refl
reply_head_is reply.TooLarge rest = refl
reply_head_is reply.NotNumber rest = refl

reply_alike : (v w : Reply) (r s : List ℕ) → Passes (nat_eq (reply_mark v) (reply_mark w)) → reply_record v ++ r ≡ reply_record w ++ s → (v ≡ w) × (r ≡ s)
reply_alike reply.Stored reply.Stored r s h e = (refl, tail_of 0 0 r s e)
reply_alike reply.NotStored reply.NotStored r s h e = (refl, tail_of 1 1 r s e)
reply_alike reply.Exists reply.Exists r s h e = (refl, tail_of 2 2 r s e)
reply_alike reply.NotFound reply.NotFound r s h e = (refl, tail_of 3 3 r s e)
reply_alike reply.Deleted reply.Deleted r s h e = (refl, tail_of 4 4 r s e)
reply_alike reply.Touched reply.Touched r s h e = (refl, tail_of 5 5 r s e)
reply_alike (reply.Number n) (reply.Number m) r s h e =
    let both = u64_free.apart n m r s (tail_of 6 6 (num w64 n ++ r) (num w64 m ++ s) e) in
    (ap reply.Number both.0, both.1)
reply_alike (reply.Values x) (reply.Values y) r s h e =
    let both = values_prefix_free.apart x y r s (tail_of 7 7 (values_text x ++ r) (values_text y ++ s) e) in
    (ap reply.Values both.0, both.1)
reply_alike reply.TooLarge reply.TooLarge r s h e = (refl, tail_of 8 8 r s e)
reply_alike reply.NotNumber reply.NotNumber r s h e = (refl, tail_of 9 9 r s e)
reply_alike _ _ r s h e = absurd h

pub reply_prefix_free : IsPrefixFree reply_record
reply_prefix_free = record {
  apart = λ v w r s e. reply_alike v w r s (same_numbers (reply_mark v) (reply_mark w) (sym (reply_head_is v r) ∙ (ap head_of e ∙ reply_head_is w s))) e;
}
