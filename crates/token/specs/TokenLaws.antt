-- No token is a prefix of another.
use Rattle.std.proofs.Common.{refl}
use Rattle.wire.specs.Record.{IsPrefixFree}
use Rattle.wire.specs.KeyLaws.{fixed_prefix_free}
use Rattle.wire.specs.RowLaws.{made_of}
use Rattle.token.specs.Token.{token_bytes}

pub token_prefix_free : IsPrefixFree token_bytes
token_prefix_free = made_of (fixed_prefix_free 31) token_bytes (λ token. token.0) (λ bytes. record { 0 = bytes }) (λ token. refl) (λ token. refl)
