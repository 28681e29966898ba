-- Tokens that compare as equal are equal.
use Rattle.std.proofs.Common.{◌≡◌, true}
use Rattle.std.proofs.lemmas.Slice.Eq.{bytes_eq-Decides}
use Rattle.token.specs.declared.Token.{Token}
use Rattle.decrees.specs.Votes.{token_eq}

pub token_eq-true : (a b : Token) → token_eq a b ≡ true → a ≡ b
token_eq-true a b e = λ i. record { 0 = (bytes_eq-Decides a.0 b.0).0 e i }
