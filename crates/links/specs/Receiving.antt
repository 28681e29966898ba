-- The letters of a lane that come from one peer.
use Rattle.std.specs.Prelude.{◌≡◌, ℕ, ◌+◌, ◌≤◌, true, Option, Some, None}
use Rattle.links.specs.declared.receiving.Receiving.{Receiving}
use Rattle.links.specs.Numbered.{Numbered}

-- a letter comes: it is let go if it came before, and given if it is the next one. An acknowledgement is due then
abbrev pub Receives : Receiving → Numbered → Option Numbered → Receiving → Type 0
Receives old x None new = (x.0 ≤ old.last) × (new ≡ record old { is_due = true })
Receives old x (Some given) new = (given ≡ x) × (x.0 ≡ old.last + 1) × (new ≡ record old { last = x.0; is_due = true })

-- a connection was made, and what came before is to be acknowledged
abbrev pub on_accepted_connection : Receiving → Receiving
on_accepted_connection r = record r { is_due = true }

-- a connection was made in a higher life of the peer, of which no letter came
abbrev pub from_new_life : ℕ → Receiving → Receiving
from_new_life life r = record r { life = life; last = 0; is_due = true }
