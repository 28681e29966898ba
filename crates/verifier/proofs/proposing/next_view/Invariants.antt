use Rattle.std.proofs.Common.{◌≡◌, ◌-◌, ◌*◌}
use Rattle.verifier.specs.State.{led_from, next_led}
use Rattle.verifier.proofs.proposing.next_view.Given as goal

abbrev pub invariant-loop : goal.invariant-loop
invariant-loop l = led_from l.u l.id l.next (2 * l.u - l.counter) ≡ next_led l.u l.id l.view
