-- What verifiers send, among all letters.
use Rattle.decrees.specs.declared.ballot.Ballot.{Ballot}
use Rattle.decrees.specs.declared.node.Letter.{Letter}
use Rattle.exec_lines.specs.declared.body.Body.{Body}
use Rattle.exec_lines.specs.declared.body.Body.TheVariants as body

-- a ballot of a verifier, as a letter among all
abbrev pub as_sent : Letter Ballot → Letter Body
as_sent l = record { from = l.from; to = l.to; body = body.Ballot l.body }
