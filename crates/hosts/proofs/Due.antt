-- The order that an executor gets is the one whose turn it is.
use Rattle.std.proofs.Common.{◌≡◌, List, [], Option, None, Some, refl, subst}
use Rattle.std.specs.Prelude.{MatchOption}
use Rattle.decrees.specs.declared.node.Letter.{Letter}
use Rattle.exec_lines.specs.declared.body.Body.{Body}
use Rattle.exec_lines.specs.declared.input.Input.TheVariants as input
use Rattle.exec_node.specs.Executor.{ExecutorView}
use Rattle.slots.specs.Slot.{Slot}
use Rattle.slots.specs.Slots.{ExecutorSettles}
use Rattle.hosts.specs.Host.{HostView, LettersAreAmong}
use Rattle.hosts.specs.Due.{due_order, HostGetsOrder, HostTakesDue}
use Rattle.hosts.specs.Orders.{awaited_of, StayHeld}

pub match_none : {T : Type 0} (o : Option T) (P : Type 0) (Q : T → Type 0) → o ≡ None → P → MatchOption o P Q
match_none None P Q none p = p
match_none (Some x) P Q none p = absurd (cc none)

module _ (h : HostView) (rest : List (Letter Body)) (later : StayHeld (awaited_of h.slot) h.held rest) where
  -- none is due
  pub takes_none : None ≡ due_order h → LettersAreAmong rest h.held → HostTakesDue h (record h { held = rest }) []
  takes_none none among = record {
    gets = subst (λ (o : Option (Letter Body)). HostGetsOrder o h (record h { held = rest }) []) none ((rest, among, refl), refl);
    later = later;
  }

  -- this one is
  pub takes_first : (order : Letter Body) (slot : Slot ExecutorView) (new : List (Letter Body)) → Some order ≡ due_order h → ExecutorSettles h.slot (input.Letter order) slot new → HostTakesDue h (record h { slot = slot; held = rest }) new
  takes_first order slot new first settles = record {
    gets = subst (λ (o : Option (Letter Body)). HostGetsOrder o h (record h { slot = slot; held = rest }) new) first (slot, settles, refl);
    later = later;
  }
