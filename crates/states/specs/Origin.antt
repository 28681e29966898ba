-- What a state came from: all of it but its token, its sessions and its items.
use Rattle.std.specs.Prelude.{ℕ, List, ◌++◌}
use Rattle.std.specs.Int.{w32, w64}
use Rattle.items.specs.Map.{Items}
use Rattle.sessions.specs.Fresh.{Replies}
use Rattle.wire.specs.Number.{num, fixed}
use Rattle.token.specs.declared.Token.{Token}
use Rattle.token.specs.Form.{form_text}
use Rattle.token.specs.Token.{token_bytes}
use Rattle.states.specs.declared.origin.Origin.{Origin}
use Rattle.states.specs.State.{StateView}

abbrev pub origin_of : StateView → Origin
origin_of s = record { form = s.form; number = s.number; previous = s.previous; epoch = s.epoch; batch = s.batch; moment = s.moment }

-- the state of this origin, this token, these sessions and items
abbrev pub state_from : Origin → Token → Replies → Items → StateView
state_from o token sessions items = record { form = o.form; number = o.number; previous = o.previous; epoch = o.epoch; batch = o.batch; moment = o.moment; token = token; sessions = sessions; items = items }

-- all of it but its form
abbrev pub told_text : Origin → List ℕ
told_text o = num w64 o.number ++ token_bytes o.previous ++ num w64 o.epoch ++ fixed 32 o.batch ++ num w32 o.moment

abbrev pub origin_text : Origin → List ℕ
origin_text o = form_text o.form ++ told_text o
