-- The host of an executor that stops.
use Rattle.std.specs.Prelude.{◌≡◌, List, []}
use Rattle.decrees.specs.declared.node.Letter.{Letter}
use Rattle.exec_lines.specs.declared.body.Body.{Body}
use Rattle.slots.specs.Slots.{executor_kept, crashed_slot}
use Rattle.hosts.specs.Host.{HostView}

-- its executor stopped, if it was up, and is down with what it kept
abbrev pub HostStops : HostView → HostView → List (Letter Body) → Type 0
HostStops h now new = (now ≡ record h { slot = crashed_slot executor_kept h.slot }) × (new ≡ [])
