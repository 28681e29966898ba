-- No encoding of an origin is a prefix of another, nor one of a head.
use Rattle.std.proofs.Common.{ℕ, List, ◌++◌, refl}
use Rattle.std.specs.Int.{w32, w64}
use Rattle.wire.specs.Record.{IsPrefixFree}
use Rattle.wire.specs.Number.{num, fixed}
use Rattle.wire.specs.KeyLaws.{fixed_prefix_free}
use Rattle.wire.specs.RowLaws.{u32_free, u64_free, followed, made_of}
use Rattle.token.specs.declared.Token.{Token}
use Rattle.token.specs.Token.{token_bytes}
use Rattle.token.specs.FormLaws.{form_prefix_free}
use Rattle.token.specs.TokenLaws.{token_prefix_free}
use Rattle.states.specs.Origin.{origin_text}
use Rattle.states.specs.StateRecord.{head_text}

-- all of an origin but its form
told_free : IsPrefixFree {X = (((ℕ × Token) × ℕ) × List ℕ) × ℕ} (λ t. num w64 t.0.0.0.0 ++ token_bytes t.0.0.0.1 ++ num w64 t.0.0.1 ++ fixed 32 t.0.1 ++ num w32 t.1)
told_free = followed (followed (followed (followed u64_free token_prefix_free) u64_free) (fixed_prefix_free 31)) u32_free

-- all of a head but its form
pub old_head_free : IsPrefixFree {X = ((((ℕ × Token) × ℕ) × List ℕ) × ℕ) × Token} (λ t. num w64 t.0.0.0.0.0 ++ token_bytes t.0.0.0.0.1 ++ num w64 t.0.0.0.1 ++ fixed 32 t.0.0.1 ++ num w32 t.0.1 ++ token_bytes t.1)
old_head_free = followed told_free token_prefix_free

pub origin_prefix_free : IsPrefixFree origin_text
origin_prefix_free = made_of
    (followed form_prefix_free told_free)
    origin_text
    (λ o. (o.form, ((((o.number, o.previous), o.epoch), o.batch), o.moment)))
    (λ p. record { form = p.0; number = p.1.0.0.0.0; previous = p.1.0.0.0.1; epoch = p.1.0.0.1; batch = p.1.0.1; moment = p.1.1 })
    (λ o. refl)
    (λ o. refl)

pub head_prefix_free : IsPrefixFree head_text
unfolding head_text
head_prefix_free = made_of
    (followed origin_prefix_free token_prefix_free)
    head_text
    (λ h. (h.origin, h.token))
    (λ p. record { origin = p.0; token = p.1 })
    (λ h. refl)
    (λ h. refl)
