use Rattle.std.proofs.Common.{rules, ◌≡◌, Option, None, Some, IfNone, refl, sym, ◌∙◌, subst, []}
use Rattle.decrees.specs.declared.node.Letter.{Letter}
use Rattle.exec_lines.specs.declared.body.Body.{Body}
use Rattle.hosts.specs.Host.{HostView, HostForgets, HostObeys}
use Rattle.hosts.specs.Due.{HostTakesDue}
use Rattle.hosts.proofs.Due.{match_none, takes_none, takes_first}
use Rattle.hosts.proofs.executor_host.ExecutorHost.take_held.Goals as goal

if_none : {T : Type 0} (o : Option T) (P : Type 0) → P → IfNone o P
if_none None P p = p
if_none (Some x) P p = tt

pub returns-in_err-order-clause-none : goal.returns-in_err-order-clause-none
returns-in_err-order-clause-none c =
    let left : HostView = record { slot = c.self.inside.slot; held = c.take_due.new.held.items; sent = c.self.inside.sent.items } in
    if_none c.from_residual.result (HostForgets c.args.self.now left)
    (subst (λ (h : HostView). HostForgets h left) c.self.view_is (c.take_due.new.held.items, c.take_due.ensures.among, refl))

pub returns-in_err-order-clause-turn : goal.returns-in_err-order-clause-turn
returns-in_err-order-clause-turn c =
    let old : HostView = record { slot = c.self.inside.slot; held = c.self.inside.held.items; sent = c.self.inside.sent.items } in
    let left : HostView = record { slot = c.self.inside.slot; held = c.take_due.new.held.items; sent = c.self.inside.sent.items } in
    let out : c.from_residual.result ≡ None = search rules in
    match_none c.from_residual.result (HostTakesDue c.args.self.now left []) _ out
    (subst (λ (h : HostView). HostTakesDue h left []) c.self.view_is
    (takes_none old c.take_due.new.held.items c.take_due.ensures.later (sym c.in_err-order.was ∙ c.take_due.ensures.first) c.take_due.ensures.among))

pub returns-clause-some : goal.returns-clause-some
returns-clause-some c =
    let left : HostView = record { slot = c.settle.new.self; held = c.take_due.new.held.items; sent = c.self.inside.sent.items } in
    subst (λ (h : HostView). HostObeys h left c.settle.result.items) c.self.view_is (record {
      order = c.in_ok-order.order;
      was_held = c.in_ok-order.ensures.taken;
      rest = c.take_due.new.held.items;
      among = c.take_due.ensures.among;
      settles = (c.settle.new.self, c.settle.ensures, refl);
    })

pub returns-clause-turn : goal.returns-clause-turn
returns-clause-turn c =
    let old : HostView = record { slot = c.self.inside.slot; held = c.self.inside.held.items; sent = c.self.inside.sent.items } in
    let left : HostView = record { slot = c.settle.new.self; held = c.take_due.new.held.items; sent = c.self.inside.sent.items } in
    subst (λ (h : HostView). HostTakesDue h left c.settle.result.items) c.self.view_is
    (takes_first old c.take_due.new.held.items c.take_due.ensures.later c.in_ok-order.order c.settle.new.self c.settle.result.items (sym c.in_ok-order.was ∙ c.take_due.ensures.first) c.settle.ensures)
