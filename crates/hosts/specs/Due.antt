-- The order whose turn it is.
use Rattle.std.specs.Prelude.{◌≡◌, ℕ, List, [], Option, None, Some, find}
use Rattle.decrees.specs.declared.node.Letter.{Letter}
use Rattle.exec_lines.specs.declared.body.Body.{Body}
use Rattle.exec_lines.specs.declared.input.Input.TheVariants as executor_input
use Rattle.hosts.specs.Host.{HostView, HostSettles, HostForgets}
use Rattle.hosts.specs.Orders.{ordered_turn, is_for, awaited_of, StayHeld}

-- the first order of this turn that is held
abbrev pub order_for : Option (ℕ × ℕ) → List (Letter Body) → Option (Letter Body)
order_for None held = None
order_for (Some turn) held = find (λ l. is_for turn.0 turn.1 (ordered_turn l.body)) held

-- the order whose turn it is: the first one held that its executor waits for
abbrev pub due_order : HostView → Option (Letter Body)
due_order h = order_for (awaited_of h.slot) h.held

-- its executor got this order, if it is one, and no other
abbrev pub HostGetsOrder : Option (Letter Body) → HostView → HostView → List (Letter Body) → Type 0
HostGetsOrder None h now new = HostForgets h now × (new ≡ [])
HostGetsOrder (Some order) h now new = HostSettles (record h { held = now.held }) (executor_input.Letter order) now new

-- its executor got the order whose turn it is, if one is, and those that come later are still held
pub record HostTakesDue (h now : HostView) (new : List (Letter Body)) : Type 0 where
  pub gets : HostGetsOrder (due_order h) h now new
  pub later : StayHeld (awaited_of h.slot) h.held now.held
