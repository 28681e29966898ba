-- What a client was given, next to a run of one server.
use Rattle.std.specs.Prelude.{◌≡◌, ℕ, List}
use Rattle.proto.specs.declared.reply.Reply as replies
use Rattle.proto.specs.declared.turn.Turn.{Turn}
use Rattle.executor.specs.declared.answered.Answered.{Answered}
use Rattle.memcached_spec.specs.Asked.{TextsBy, Front}
use Rattle.run_laws.specs.Run.{Executed}
use Rattle.run_laws.specs.Replied.{GivenIn}

-- In the run this was answered to the client's request of this number.
pub record WasAnswered (run : List Executed) (client number : ℕ) (reply : replies.Reply) : Type 0 where
  pub place : ℕ
  pub answered : Answered
  pub given : GivenIn run place answered
  pub client_is : answered.client ≡ client
  pub number_is : answered.number ≡ number
  pub reply_is : answered.reply ≡ reply

-- These are the texts of the first turns that all bytes spell: the reply to each Ask among them, the first one being request 1, was given in the run.
pub record IsServed (run : List Executed) (client : ℕ) (all given : List ℕ) : Type 0 where
  pub taken : List Turn
  pub texts : TextsBy (WasAnswered run client) 1 taken given
  pub first : Front all taken
