-- No text of a token is a prefix of another.
use Rattle.std.proofs.Common.{refl}
use Rattle.wire.specs.Record.{IsPrefixFree}
use Rattle.wire.specs.Number.{fixed}
use Rattle.wire.specs.Token.{inner_text, token_text}
use Rattle.wire.specs.KeyLaws.{fixed_prefix_free}
use Rattle.wire.specs.RowLaws.{u32_free, u64_free, followed, made_of, marked}

digest_free : IsPrefixFree (fixed 32)
digest_free = fixed_prefix_free 31

pub inner_prefix_free : IsPrefixFree inner_text
unfolding inner_text
inner_prefix_free = made_of (marked 1 (followed digest_free digest_free)) inner_text
    (λ t. (t.left, t.right)) (λ p. record { left = p.0; right = p.1 }) (λ t. refl) (λ t. refl)

pub token_text_free : IsPrefixFree token_text
unfolding token_text
token_text_free = made_of
    (marked 2 (followed (followed (followed (followed (followed (followed digest_free u64_free) u64_free) u32_free) digest_free) digest_free) digest_free))
    token_text
    (λ t. ((((((t.previous, t.n), t.epoch), t.moment), t.batch), t.root), t.sessions))
    (λ p. record { previous = p.0.0.0.0.0.0; n = p.0.0.0.0.0.1; epoch = p.0.0.0.0.1; moment = p.0.0.0.1; batch = p.0.0.1; root = p.0.1; sessions = p.1 })
    (λ t. refl)
    (λ t. refl)
