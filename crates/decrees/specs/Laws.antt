-- What a verdict says, and when a log may grow.
use Rattle.std.specs.Prelude.{◌≡◌, ℕ, ◌&&◌, IsTrue, List, [], ◌∷◌, ◌++◌}
use Rattle.token.specs.declared.Token.{Token}
use Rattle.decrees.specs.declared.decree.Decree.{Decree}
use Rattle.decrees.specs.declared.standing.Standing.{Standing}
use Rattle.decrees.specs.declared.votes.Verdict.TheVariants.{Commit}
use Rattle.decrees.specs.Count.{is_quorum}
use Rattle.decrees.specs.Standing.{standing, may_follow, is_log}
use Rattle.decrees.specs.Votes.{Vote, verdict, has_token}

-- if the verdict is to commit a token, more than u executors have that token for the next number
abbrev pub CommitIsBacked : Type 0
CommitIsBacked = (u : ℕ) (s : Standing) (votes : List Vote) (token : Token) → verdict u s votes ≡ Commit token → IsTrue (is_quorum u (has_token s votes token))

-- with one decree more it is a log exactly if it was one and the decree may come next
abbrev pub GrowsByOne : Type 0
GrowsByOne = (log : List Decree) (d : Decree) → is_log (log ++ d ∷ []) ≡ (is_log log && may_follow (standing log) d)
