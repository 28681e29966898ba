-- What clients asked, and what they were answered.
use Rattle.std.specs.Prelude.{◌≡◌, ℕ, List, Contains}
use Rattle.proto.specs.declared.reply.Reply as replies
use Rattle.proto.specs.declared.turn.Turn.{Turn}
use Rattle.sessions.specs.declared.request.Request.{Request}
use Rattle.batches.specs.declared.batch.Batch.{Batch}
use Rattle.decrees.specs.declared.node.Letter.{Letter}
use Rattle.decrees.specs.declared.node.Node.TheVariants.{Client}
use Rattle.exec_lines.specs.declared.body.Body.{Body}
use Rattle.exec_lines.specs.declared.body.Body.TheVariants as body
use Rattle.events.specs.declared.event.Event.{Event}
use Rattle.memcached_spec.specs.Asked.{TextsBy, Front, IsAsked}
use Rattle.memcached_spec.specs.Fed.{fed_to, IsMoment}

-- the client asked this, by the bytes that these events feed to it
abbrev pub IsAskedRequest : List Event → Request → Type 0
IsAskedRequest events r = IsAsked (fed_to r.client events) r.number r.command

-- each of its requests was asked, and its moment is that of a cut
pub record IsAskedBatch (events : List Event) (b : Batch) : Type 0 where
  pub requests : (r : Request) → Contains b.requests r → IsAskedRequest events r
  pub moment : IsMoment events b.moment

-- one of these letters, to this client, answers its request of this number so
abbrev pub WasSent : List (Letter Body) → ℕ → ℕ → replies.Reply → Type 0
WasSent letters client number reply = (l : Letter Body) × Contains letters l × (l.to ≡ Client client) × (l.body ≡ body.Reply number reply)

-- The bytes are the texts of the first turns that the events feed to this client, in order: each reply is one that a letter carried to it for the request of that number.
abbrev pub IsReplied : List Event → List (Letter Body) → ℕ → List ℕ → Type 0
IsReplied events letters client given = (taken : List Turn) × TextsBy (WasSent letters client) 1 taken given × Front (fed_to client events) taken
