-- The text of a letter between members of a site.
use Rattle.std.specs.Prelude.{ℕ, List, ◌∷◌, ◌++◌}
use Rattle.std.specs.Int.{w8, w16, w64}
use Rattle.wire.specs.Number.{num}
use Rattle.wire.specs.Field.{option_text}
use Rattle.wire.specs.Command.{request_text}
use Rattle.wire.specs.Batch.{batch_text}
use Rattle.wire.specs.Reply.{reply_record}
use Rattle.token.specs.Token.{token_bytes}
use Rattle.decrees.specs.declared.node.Node.{Node}
use Rattle.decrees.specs.declared.node.Node.TheVariants as node
use Rattle.decrees.specs.declared.node.Letter.{Letter}
use Rattle.decrees.specs.declared.ballot.Ballot.{Ballot}
use Rattle.decrees.specs.declared.ballot.Ballot.TheVariants as ballot
use Rattle.decrees.specs.Record.{decree_text, start_text}
use Rattle.verifier.specs.Record.{accepted_text}
use Rattle.transfer.specs.Need.{IsNeed, need_text}
use Rattle.transfer.specs.Parcel.{IsParcel, parcel_text}
use Rattle.exec_lines.specs.declared.body.Body.{Body}
use Rattle.exec_lines.specs.declared.body.Body.TheVariants as body

-- a mark of the kind of node, and its number
abbrev pub node_text : Node → List ℕ
node_text (node.Client client) = 0 ∷ num w16 client
node_text (node.Executor executor) = 1 ∷ num w8 executor
node_text (node.Verifier verifier) = 2 ∷ num w8 verifier

-- a mark of the kind of ballot, and its fields in their order
abbrev pub ballot_text : Ballot → List ℕ
ballot_text (ballot.Token epoch n previous token) = 0 ∷ (num w64 epoch ++ num w64 n ++ token_bytes previous ++ token_bytes token)
ballot_text (ballot.Accept view place decree) = 1 ∷ (num w64 view ++ num w64 place ++ decree_text decree)
ballot_text (ballot.Accepted view place decree) = 2 ∷ (num w64 view ++ num w64 place ++ decree_text decree)
ballot_text (ballot.Decided place decree) = 3 ∷ (num w64 place ++ decree_text decree)
ballot_text (ballot.Ask place) = 4 ∷ num w64 place
ballot_text (ballot.Change view) = 5 ∷ num w64 view
ballot_text (ballot.Promise view known accepted) = 6 ∷ (num w64 view ++ num w64 known ++ option_text accepted_text accepted)
ballot_text (ballot.Stands place standing) = 7 ∷ start_text (record { place = place; standing = standing })

-- a mark of what is said, and that as records have it
abbrev pub letter_body_text : Body → List ℕ
letter_body_text (body.Want request) = 0 ∷ request_text request
letter_body_text (body.Order batch) = 1 ∷ batch_text batch
letter_body_text (body.Reply number reply) = 2 ∷ (num w64 number ++ reply_record reply)
letter_body_text (body.Need need) = 3 ∷ need_text need
letter_body_text (body.Parcel parcel) = 4 ∷ parcel_text parcel
letter_body_text (body.Ballot said) = 5 ∷ ballot_text said

-- from whom, to whom, and what
abbrev pub letter_text : Letter Body → List ℕ
letter_text letter = node_text letter.from ++ node_text letter.to ++ letter_body_text letter.body

-- what always holds of a need and of a parcel
abbrev pub BodyFits : Body → Type 0
BodyFits (body.Need need) = IsNeed need
BodyFits (body.Parcel parcel) = IsParcel parcel
BodyFits _ = Unit {0}

-- what always holds of a letter
abbrev pub LetterFits : Letter Body → Type 0
LetterFits letter = BodyFits letter.body
