-- A token in a record.
use Rattle.std.specs.Prelude.{ℕ, List}
use Rattle.token.specs.declared.Token.{Token}
use Rattle.wire.specs.Number.{fixed}

abbrev pub token_bytes : Token → List ℕ
token_bytes token = fixed 32 token.0
