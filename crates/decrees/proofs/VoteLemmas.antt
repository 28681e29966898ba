-- A vote of a new name in a map of votes.
use Rattle.std.proofs.Common.{◌≡◌, false, List, [], ◌∷◌, ◌++◌, Option, None, Some, is_some, refl, ap, sym, ◌∙◌, if◌then◌else◌}
use Rattle.token.specs.declared.Token.{Token}
use Rattle.decrees.specs.declared.votes.VoteKey.{VoteKey}
use Rattle.decrees.specs.Votes.{Vote, vote_of, votes_with, key_eq}
use Rattle.indexmap.proofs.MapLemmas.{insert_entry-absent, absent_from_lookup}
use Rattle.indexmap.specs.IndexMap.{insert_entry}

none_of : {A : Type 0} (o : Option A) → is_some o ≡ false → o ≡ None
none_of None e = refl
none_of (Some x) e = cc

-- a vote of a new name goes last
pub insert_entry-vote : (votes : List Vote) (key : VoteKey) (token : Token) → is_some (vote_of votes key) ≡ false → insert_entry key_eq votes key token ≡ votes_with votes key token
insert_entry-vote votes key token e =
    insert_entry-absent key_eq key token votes (absent_from_lookup (key_eq key) votes (none_of (vote_of votes key) e))
    ∙ sym (ap (λ b. if b then votes else votes ++ (key, token) ∷ []) e)
