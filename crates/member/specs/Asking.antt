-- What a request adds to what a member shows.
use Rattle.std.specs.Prelude.{◌≡◌, ℕ, Bool, List, [], ◌∷◌, ◌++◌}
use Rattle.proto.specs.declared.command.Command.{Command}
use Rattle.sessions.specs.declared.request.Request.{Request}
use Rattle.site_laws.specs.Site.{Shown, Asks}

-- one more request was asked: this one
pub record IsAskShown (shown : List Shown) (proxy number : ℕ) (command : Command) (quiet : Bool) (now : List Shown) : Type 0 where
  pub request : Request
  pub of_proxy : request.client ≡ proxy
  pub numbered : request.number ≡ number
  pub asks : request.command ≡ command
  pub after : now ≡ shown ++ Asks request quiet ∷ []
