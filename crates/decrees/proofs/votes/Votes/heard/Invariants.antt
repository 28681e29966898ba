use Rattle.std.proofs.Common.{◌≡◌, ◌<◌, ℕ, Option, length, get_or}
use Rattle.token.specs.declared.Token.{Token}
use Rattle.decrees.specs.Votes.{heard}
use Rattle.decrees.proofs.votes.Votes.heard.Given as goal

abbrev pub invariant-loop-executor : goal.invariant-loop-executor
invariant-loop-executor l = record {
  all : length l.tokens ≡ 7;
  read : (e : ℕ) (d : Option Token) → e < l.executor → get_or l.tokens e d ≡ heard l.standing l.self e;
}
