-- No row's text is a prefix of another one's.
use Rattle.std.proofs.Common.{◌≡◌, ℕ, List, ◌++◌, length, Bool, true, false, refl, sym, ◌∙◌, ap, append_assoc}
use Rattle.std.specs.Int.{w8, w64}
use Rattle.wire.specs.Record.{IsPrefixFree}
use Rattle.wire.specs.Number.{num}
use Rattle.wire.specs.NumberLaws.{num_prefix_free, wide8, wide64}
use Rattle.wire.specs.FrontLaws.{head_of, tail_of, split_at}
use Rattle.wire.specs.FieldLaws.{option_prefix_free}
use Rattle.wire.specs.CommandLaws.{request_prefix_free}
use Rattle.wire.specs.RowLaws.{u16_free, u64_free, followed, made_of}
use Rattle.decrees.specs.RecordProofs.{standing_prefix_free}
use Rattle.process_text.specs.declared.executor_row.StoredRecord.{StoredRecord}
use Rattle.process_text.specs.declared.executor_row.StoredRecord.TheVariants.{Nothing, Plain, Whole}
use Rattle.process_text.specs.Rows.{bool_text, flag_text, long_text, plain_text, stored_text, executor_row_text, verifier_row_text, outstanding_text, proxy_row_text}

bool_apart : (a b : Bool) (r s : List ℕ) → bool_text a ++ r ≡ bool_text b ++ s → (a ≡ b) × (r ≡ s)
bool_apart false false r s e = (refl, tail_of 0 0 r s e)
bool_apart true true r s e = (refl, tail_of 1 1 r s e)
bool_apart false true r s e = absurd (cc e)
bool_apart true false r s e = absurd (cc e)

pub bool_prefix_free : IsPrefixFree bool_text
bool_prefix_free = record { apart = bool_apart }

pub flag_prefix_free : IsPrefixFree flag_text
flag_prefix_free = made_of bool_prefix_free flag_text (λ flag. flag.is_set) (λ is_set. record { is_set = is_set }) (λ flag. refl) (λ flag. refl)

long_apart : (x y r s : List ℕ) → long_text x ++ r ≡ long_text y ++ s → (x ≡ y) × (r ≡ s)
long_apart x y r s e =
    let len = (num_prefix_free w64 wide64).apart (length x) (length y) (x ++ r) (y ++ s) (sym (append_assoc (num w64 (length x)) x r) ∙ (e ∙ append_assoc (num w64 (length y)) y s)) in
    split_at x y r s len.0 len.1

pub long_prefix_free : IsPrefixFree long_text
long_prefix_free = record { apart = long_apart }

pub plain_prefix_free : IsPrefixFree plain_text
plain_prefix_free = made_of
    (followed (followed (followed (num_prefix_free w8 wide8) (num_prefix_free w8 wide8)) u64_free) standing_prefix_free)
    plain_text
    (λ plain. (((plain.u, plain.id), plain.known), plain.standing))
    (λ row. record { u = row.0.0.0; id = row.0.0.1; known = row.0.1; standing = row.1 })
    (λ plain. refl)
    (λ plain. refl)

stored_apart : (a b : StoredRecord) (r s : List ℕ) → stored_text a ++ r ≡ stored_text b ++ s → (a ≡ b) × (r ≡ s)
stored_apart Nothing Nothing r s e = (refl, tail_of 0 0 r s e)
stored_apart (Plain x) (Plain y) r s e =
    let both = plain_prefix_free.apart x y r s (tail_of 1 1 _ _ e) in
    (ap Plain both.0, both.1)
stored_apart (Whole x) (Whole y) r s e =
    let both = long_prefix_free.apart x y r s (tail_of 2 2 _ _ e) in
    (ap Whole both.0, both.1)
stored_apart Nothing (Plain y) r s e = absurd (let marks : 0 ≡ 1 = ap head_of e in cc)
stored_apart Nothing (Whole y) r s e = absurd (let marks : 0 ≡ 2 = ap head_of e in cc)
stored_apart (Plain x) Nothing r s e = absurd (let marks : 1 ≡ 0 = ap head_of e in cc)
stored_apart (Plain x) (Whole y) r s e = absurd (let marks : 1 ≡ 2 = ap head_of e in cc)
stored_apart (Whole x) Nothing r s e = absurd (let marks : 2 ≡ 0 = ap head_of e in cc)
stored_apart (Whole x) (Plain y) r s e = absurd (let marks : 2 ≡ 1 = ap head_of e in cc)

pub stored_prefix_free : IsPrefixFree stored_text
stored_prefix_free = record { apart = stored_apart }

pub executor_row_prefix_free : IsPrefixFree executor_row_text
executor_row_prefix_free = made_of
    (followed (followed stored_prefix_free u64_free) bool_prefix_free)
    executor_row_text
    (λ row. ((row.stored, row.failures), row.fails_next))
    (λ row. record { stored = row.0.0; failures = row.0.1; fails_next = row.1 })
    (λ row. refl)
    (λ row. refl)

pub verifier_row_prefix_free : IsPrefixFree verifier_row_text
verifier_row_prefix_free = made_of
    (followed (followed (option_prefix_free long_text long_prefix_free) u64_free) bool_prefix_free)
    verifier_row_text
    (λ row. ((row.stored, row.failures), row.fails_next))
    (λ row. record { stored = row.0.0; failures = row.0.1; fails_next = row.1 })
    (λ row. refl)
    (λ row. refl)

pub outstanding_prefix_free : IsPrefixFree outstanding_text
outstanding_prefix_free = made_of
    (followed request_prefix_free bool_prefix_free)
    outstanding_text
    (λ asked. (asked.request, asked.quiet))
    (λ row. record { request = row.0; quiet = row.1 })
    (λ asked. refl)
    (λ asked. refl)

pub proxy_row_prefix_free : IsPrefixFree proxy_row_text
proxy_row_prefix_free = made_of
    (followed (followed u16_free u64_free) (option_prefix_free outstanding_text outstanding_prefix_free))
    proxy_row_text
    (λ row. ((row.client, row.last), row.asked))
    (λ row. record { client = row.0.0; last = row.0.1; asked = row.1 })
    (λ row. refl)
    (λ row. refl)
