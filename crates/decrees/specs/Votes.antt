-- What executors have said, and what may be decided by it.
use Rattle.std.specs.Prelude.{ℕ, zero, suc, ◌+◌, ◌==◌, ◌&&◌, Bool, false, List, [], ◌∷◌, ◌++◌, Option, None, if◌then◌else◌, nat_lt, nat_le, max, filter, is_none, is_some}
use Rattle.std.specs.Map.{lookup}
use Rattle.std.specs.Option.{option_map_or}
use Rattle.std.specs.Str.{bytes_eq}
use Rattle.token.specs.declared.Token.{Token}
use Rattle.decrees.specs.declared.standing.Standing.{Standing}
use Rattle.decrees.specs.declared.votes.VoteKey.{VoteKey}
use Rattle.decrees.specs.declared.votes.Verdict.{Verdict}
use Rattle.decrees.specs.declared.votes.Verdict.TheVariants.{Wait, Commit, Hopeless}
use Rattle.decrees.specs.Count.{count_below, member_count}

-- what names a vote, with its token
abbrev pub Vote : Type 0
Vote = VoteKey × Token

abbrev pub token_eq : Token → Token → Bool
token_eq a b = bytes_eq a.0 b.0

abbrev pub key_eq : VoteKey → VoteKey → Bool
key_eq a b = (a.epoch == b.epoch) && ((a.n == b.n) && ((a.executor == b.executor) && bytes_eq a.previous b.previous))

-- the first token of that name
abbrev pub vote_of : List Vote → VoteKey → Option Token
vote_of votes key = lookup (key_eq key) votes

-- one vote more, if there is none of its name
abbrev pub votes_with : List Vote → VoteKey → Token → List Vote
votes_with votes key token = if is_some (vote_of votes key) then votes else votes ++ (key, token) ∷ []

-- a vote of this name is of the standing epoch or a later one, for a number above the standing one
abbrev pub is_open : Standing → VoteKey → Bool
is_open s key = nat_le s.epoch key.epoch && nat_lt s.n key.n

-- the votes that are left if this stands
abbrev pub open_votes : Standing → List Vote → List Vote
open_votes s votes = filter (λ vote. is_open s vote.0) votes

-- a vote of the executor for the next number, in the standing epoch and over the standing token
abbrev pub next_key : Standing → ℕ → VoteKey
next_key s executor = record { epoch = s.epoch; n = s.n + 1; executor = executor; previous = s.token.0 }

-- the token that the executor has for the next number, if it was heard
abbrev pub heard : Standing → List Vote → ℕ → Option Token
heard s votes executor = vote_of votes (next_key s executor)

abbrev pub has_token : Standing → List Vote → Token → ℕ → Bool
has_token s votes token executor = option_map_or (λ other. token_eq other token) (heard s votes executor) false

-- how many executors have the token
abbrev pub support : ℕ → Standing → List Vote → Token → ℕ
support u s votes token = count_below (has_token s votes token) (member_count u)

-- how many executors have the token that this one has
abbrev pub support_of : ℕ → Standing → List Vote → ℕ → ℕ
support_of u s votes executor = option_map_or (support u s votes) (heard s votes executor) 0

-- the greatest number of executors that have one token
abbrev pub greatest_below : ℕ → Standing → List Vote → ℕ → ℕ
greatest_below u s votes zero = 0
greatest_below u s votes (suc e) = max (greatest_below u s votes e) (support_of u s votes e)

-- how many executors were not heard
abbrev pub silent : ℕ → Standing → List Vote → ℕ
silent u s votes = count_below (λ e. is_none (heard s votes e)) (member_count u)

-- the token of the first executor whose token more than u have
abbrev pub backed_below : ℕ → Standing → List Vote → ℕ → Option Token
backed_below u s votes zero = None
backed_below u s votes (suc e) =
    if is_some (backed_below u s votes e) then backed_below u s votes e
    else if nat_lt u (support_of u s votes e) then heard s votes e
    else None

-- a token that more than u executors have
abbrev pub backed : ℕ → Standing → List Vote → Option Token
backed u s votes = backed_below u s votes (member_count u)

-- no token can come to more than u executors any more
abbrev pub is_hopeless : ℕ → Standing → List Vote → Bool
is_hopeless u s votes = nat_le (greatest_below u s votes (member_count u) + silent u s votes) u

abbrev pub verdict : ℕ → Standing → List Vote → Verdict
verdict u s votes = option_map_or (λ token. Commit token) (backed u s votes) (if is_hopeless u s votes then Hopeless else Wait)
