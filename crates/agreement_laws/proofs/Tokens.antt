-- A verdict to commit a token has the letters of enough executors.
use Rattle.std.proofs.Common.{◌≡◌, ℕ, ◌+◌, true, false, ◌&&◌, List, Option, Some, None, refl, sym, subst, bytes_eq}
use Rattle.std.specs.Prelude.{◌==◌}
use Rattle.std.specs.Option.{option_map_or}
use Rattle.std.proofs.lemmas.Bool.{and_parts, eqb-true, false≢true}
use Rattle.std.proofs.lemmas.Slice.Eq.{bytes_eq-Decides}
use Rattle.token.specs.declared.Token as token
use Rattle.decrees.specs.declared.ballot.Ballot.TheVariants as ballot
use Rattle.decrees.specs.declared.node.Node.TheVariants.{Executor}
use Rattle.decrees.specs.declared.standing.Standing.{Standing}
use Rattle.decrees.specs.declared.votes.VoteKey.{VoteKey}
use Rattle.decrees.specs.declared.votes.Verdict.TheVariants.{Commit}
use Rattle.decrees.specs.Votes.{Vote, key_eq, token_eq, next_key, heard, has_token, verdict}
use Rattle.decrees.proofs.TokenLemmas.{token_eq-true}
use Rattle.decrees.proofs.VerdictLemmas.{commit_is_backed}
use Rattle.agreement_laws.specs.Letters.{Letters, Sent, HasTokens}
use Rattle.agreement_laws.proofs.Each.{Each, found_key}
use Rattle.agreement_laws.proofs.Stand.{Cast}

key_eq-true : (a b : VoteKey) → key_eq a b ≡ true → a ≡ b
key_eq-true a b e =
    let p = and_parts (a.epoch == b.epoch) ((a.n == b.n) && ((a.executor == b.executor) && bytes_eq a.previous b.previous)) e in
    let q = and_parts (a.n == b.n) ((a.executor == b.executor) && bytes_eq a.previous b.previous) p.1 in
    let r = and_parts (a.executor == b.executor) (bytes_eq a.previous b.previous) q.1 in
    λ i. record { epoch = eqb-true a.epoch b.epoch p.0 i; n = eqb-true a.n b.n q.0 i; executor = eqb-true a.executor b.executor r.0 i; previous = (bytes_eq-Decides a.previous b.previous).0 r.1 i }

-- who has the token has sent it
said : {ls : Letters} (s : Standing) (votes : List Vote) (t : token.Token) (e : ℕ) → Each (Cast ls) votes → (o : Option token.Token) → heard s votes e ≡ o → option_map_or (λ other. token_eq other t) o false ≡ true → Sent ls (Executor e) (ballot.Token s.epoch (s.n + 1) s.token t)
said s votes t e cast None is has = absurd (false≢true has)
said {ls} s votes t e cast (Some other) is has =
    let f = found_key (key_eq (next_key s e)) (Cast ls) votes other is cast in
    subst (λ (z : VoteKey × token.Token). Cast ls z) (λ i. (sym (key_eq-true (next_key s e) f.0 f.1) i, token_eq-true other t has i)) f.2

-- a token that the verdict commits was sent by enough executors
pub verdict_has_tokens : {u : ℕ} {ls : Letters} (s : Standing) (votes : List Vote) (t : token.Token) → Each (Cast ls) votes → verdict u s votes ≡ Commit t → HasTokens u ls s (s.n + 1) t
verdict_has_tokens {u} {ls} s votes t cast e = record {
  next = refl;
  sent = record {
    member = has_token s votes t;
    enough = commit_is_backed u s votes t e;
    each = λ x below has. said s votes t x cast (heard s votes x) refl has;
  };
}
