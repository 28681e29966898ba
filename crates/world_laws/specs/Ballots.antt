-- The ballots among all letters.
use Rattle.std.specs.Prelude.{List, [], ◌∷◌, ◌++◌}
use Rattle.decrees.specs.declared.ballot.Ballot.{Ballot}
use Rattle.decrees.specs.declared.node.Letter.{Letter}
use Rattle.exec_lines.specs.declared.body.Body.{Body}
use Rattle.exec_lines.specs.declared.body.Body.TheVariants as body

abbrev pub ballot_of : Letter Body → Body → List (Letter Ballot)
ballot_of l (body.Ballot b) = record { from = l.from; to = l.to; body = b } ∷ []
ballot_of l (body.Want r) = []
ballot_of l (body.Order b) = []
ballot_of l (body.Reply number reply) = []
ballot_of l (body.Need q) = []
ballot_of l (body.Parcel p) = []

-- in the order in which they were sent
abbrev pub ballots : List (Letter Body) → List (Letter Ballot)
ballots [] = []
ballots (l ∷ ls) = ballot_of l l.body ++ ballots ls
