use Rattle.std.proofs.Common.{◌≡◌, ◌+◌, ◌-◌, ◌*◌, ◌≤◌, ◌^◌, sym, ◌∙◌, ap, arith}
use Rattle.verifier.specs.State.{led_from, next_led}
use Rattle.verifier.proofs.ViewLemmas.{led_from-above, led_from-found, led_from-passed}
use Rattle.verifier.proofs.proposing.next_view.Goals as goal

pub returns-in_err-next-clause-none : goal.returns-in_err-next-clause-none
returns-in_err-next-clause-none c =
    let above = led_from-above c.args.u c.args.id (c.args.view + 1) (2 * c.args.u) in
    let all : 2 ^ 64 ≤ next_led c.args.u c.args.id c.args.view = omega (arith, c.in_err-next.ensures) in
    rw c.from_residual.ensures all

pub returns-then-is_led-clause-some : goal.returns-then-is_led-clause-some
returns-then-is_led-clause-some c =
    let found = led_from-found c.args.u c.args.id c.loop.next (2 * c.args.u - c.loop.counter) (sym c.is_led.ensures ∙ c.if-is_led.true) in
    sym found ∙ c.loop.invariant

pub loop-preserved : goal.loop-preserved
loop-preserved c =
    let passed = led_from-passed c.args.u c.args.id c.loop.next (2 * c.args.u - c.loop.counter) (omega arith) (sym c.is_led.ensures ∙ c.if-is_led.false) in
    let left : 2 * c.args.u - (c.loop.counter + 1) ≡ 2 * c.args.u - c.loop.counter - 1 = omega arith in
    rw (c.in_ok-next-2.ensures.1, left) (sym passed ∙ c.loop.invariant)

pub returns-in_err-next-2-clause-none : goal.returns-in_err-next-2-clause-none
returns-in_err-next-2-clause-none c =
    let passed = led_from-passed c.args.u c.args.id c.loop.next (2 * c.args.u - c.loop.counter) (omega arith) (sym c.is_led.ensures ∙ c.if-is_led.false) in
    let above = led_from-above c.args.u c.args.id (c.loop.next + 1) (2 * c.args.u - c.loop.counter - 1) in
    let same : next_led c.args.u c.args.id c.args.view ≡ led_from c.args.u c.args.id (c.loop.next + 1) (2 * c.args.u - c.loop.counter - 1) = sym c.loop.invariant ∙ passed in
    let all : 2 ^ 64 ≤ next_led c.args.u c.args.id c.args.view = omega (arith, c.in_err-next-2.ensures) in
    rw c.from_residual-in_err-next-2.ensures all

pub returns-clause-some : goal.returns-clause-some
returns-clause-some c =
    let none_left : 2 * c.args.u - c.loop.counter ≡ 0 = omega arith in
    sym (ap (led_from c.args.u c.args.id c.loop.next) none_left) ∙ c.loop.invariant
