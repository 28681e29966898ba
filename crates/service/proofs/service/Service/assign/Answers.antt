use Rattle.std.proofs.Common.{rules, ◌≡◌, ◌<◌, ◌+◌, List, [], ◌∷◌, ◌++◌, Option, None, refl, sym, ap, ◌∙◌, subst, length}
use Rattle.std.specs.Prelude.{option_to_list}
use Rattle.std.proofs.lemmas.List.{append-nil}
use Rattle.service.specs.declared.note.Waiting.{Waiting}
use Rattle.service.specs.Service.{ServiceView, none_shown, assigned, Gives}
use Rattle.service.specs.Owed.{Remembers}
use Rattle.loop_messages.specs.declared.message.Said.{Said}
use Rattle.service.specs.Told.{TellsIn}
use Rattle.service.proofs.ToldLemmas.{assign_tells, shorter, tells_same}
use Rattle.service.proofs.MomentLemmas.{assigned_moments, given_handed, asked_moments, moment_now}
use Rattle.service.proofs.KeepLemmas.{assign_keeps, assign_gives, assign_size, requeued, asks_same}
use Rattle.service.proofs.NodeLemmas.{size_keeps}
use Rattle.service.proofs.OwedLemmas.{assign_remembers}
use Rattle.service.proofs.service.Service.assign.Goals as goal

-- nobody was in the queue
pub invariant_of-self-in_default-pop_front : goal.invariant_of-self-in_default-pop_front
invariant_of-self-in_default-pop_front c =
    let s = c.self.inside in
    let v : ServiceView = record { connections = s.connections; asked = s.ensemble.asked; answered = s.ensemble.answered; order = s.ensemble.order; assignments = assigned s.assignments.items; waiting = s.pool; queue = s.queue.items; replicas = none_shown } in
    let none : c.pop_front.result ≡ None = search rules in
    let same : s.queue.items ≡ c.pop_front.new.self.items = c.pop_front.ensures.items ∙ ap (λ (w : Option Waiting). option_to_list w ++ c.pop_front.new.self.items) none in
    (requeued v c.pop_front.new.self.items c.self.invariant.0, c.self.invariant.1, c.self.invariant.2, subst (λ (queue : List Waiting). Remembers queue s.pool s.connections.table) same c.self.invariant.3)

pub invariant_of-self-2 : goal.invariant_of-self-2
invariant_of-self-2 c =
    let s = c.self.inside in
    let v : ServiceView = record { connections = s.connections; asked = s.ensemble.asked; answered = s.ensemble.answered; order = s.ensemble.order; assignments = assigned s.assignments.items; waiting = s.pool; queue = s.queue.items; replicas = none_shown } in
    let next = c.ask-asking.new.connections in
    let f = c.ask-asking.new.ensemble in
    let w : Waiting = c.in-Some-pop_front.waiting in
    let queue = c.pop_front.new.self.items in
    let now : ServiceView = record { connections = next; asked = f.asked; answered = f.answered; order = f.order; assignments = assigned c.settle.new.assignments.items; waiting = c.settle.new.pool; queue = queue; replicas = none_shown } in
    let popped : s.queue.items ≡ w ∷ queue = c.in-Some-pop_front.ensures.items in
    let ok = assign_keeps v _ _ next s.ensemble f c.ask-asking.result s.pool c.settle.new.pool (assigned c.settle.new.assignments.items) _ _ w.at.key queue c.self.invariant.0 refl refl refl refl c.in-Some.ensures.pool c.ask-asking.ensures.asks c.settle.ensures in
    let remembers = assign_remembers queue w s.pool c.settle.new.pool s.connections next c.in-Some.proxy s.ensemble f c.ask-asking.result _ _ _ _ c.in-Some.ensures.pool c.ask-asking.ensures.asks c.settle.ensures (subst (λ (l : List Waiting). Remembers l s.pool s.connections.table) popped c.self.invariant.3) in
    (ok, assigned_moments v now _ _ s.ensemble f c.ask-asking.result s.pool _ _ w.at.key c.self.invariant.1 refl refl refl refl c.ask-asking.ensures.asks c.settle.ensures (moment_now now ok c.always.ensures.connections c.always.ensures.history (given_handed v f.order next _ _ c.self.invariant.1 (asked_moments _ _ _ next s.ensemble f c.ask-asking.result c.ask-asking.ensures.asks) (assign_gives _ _ s.connections next s.ensemble f c.ask-asking.result s.pool c.settle.new.pool _ (assigned c.settle.new.assignments.items) _ _ w.at.key c.ask-asking.ensures.asks c.settle.ensures))), size_keeps s.u s.nodes.members s.ensemble.nodes f.nodes s.nodes.pauses.items c.self.invariant.2 (assign_size w.at c.in-Some.proxy s.connections next s.ensemble f c.ask-asking.result c.ask-asking.ensures.asks), remembers)

pub returns-clause-tells : goal.returns-clause-tells
returns-clause-tells c =
    let s = c.self.inside in
    let next = c.ask-asking.new.connections in
    let f = c.ask-asking.new.ensemble in
    let w : Waiting = c.in-Some-pop_front.waiting in
    let kept : c.reserve.new.self.items ≡ c.args.said.now.items = search rules in
    subst (λ (x : ServiceView). TellsIn x.connections.table x.replicas.refused c.args.said.now.items next.table (c.free_proxy.new.refused + f.refused) c.settle.new.said.items) c.self.view_is
    (subst (λ (said : List Said). TellsIn s.connections.table (s.refused + s.ensemble.refused) said next.table (c.free_proxy.new.refused + f.refused) c.settle.new.said.items) kept
    (assign_tells w.at c.in-Some.proxy s.connections next s.ensemble f c.ask-asking.result s.pool c.settle.new.pool _ _ (s.refused + s.ensemble.refused) (c.free_proxy.new.refused + f.refused) c.reserve.new.self.items c.settle.new.said.items w.at.key c.ask-asking.ensures.asks c.ask-asking.ensures.told c.settle.ensures))

pub returns-clause-process : goal.returns-clause-process
returns-clause-process c =
    let s = c.self.inside in
    let same = asks_same c.in-Some-pop_front.waiting.at c.in-Some.proxy s.connections c.ask-asking.new.connections s.ensemble c.ask-asking.new.ensemble c.ask-asking.result c.ask-asking.ensures.asks in
    record {
      dialect = same.0 ∙ ap (λ (x : ServiceView). x.connections.dialect) c.self.view_is;
      first = same.1 ∙ ap (λ (x : ServiceView). x.connections.first) c.self.view_is;
      found = same.2 ∙ ap (λ (x : ServiceView). x.replicas.ensemble.found) c.self.view_is;
    }

pub returns-clause-goes_on : goal.returns-clause-goes_on
returns-clause-goes_on c = λ yes.
    let s = c.self.inside in
    subst (λ (x : ServiceView). length c.pop_front.new.self.items < length x.queue) c.self.view_is (shorter s.queue.items c.pop_front.new.self.items c.in-Some-pop_front.waiting c.in-Some-pop_front.ensures.items)

pub returns-then-is_err-clause-tells : goal.returns-then-is_err-clause-tells
returns-then-is_err-clause-tells c =
    let kept : c.reserve.new.self.items ≡ c.args.said.now.items = search rules in
    tells_same _ _ _ _ c.args.said.now.items c.reserve.new.self.items (ap (λ (x : ServiceView). x.connections.table) c.self.view_is) kept

pub returns-in_default-clause-tells : goal.returns-in_default-clause-tells
returns-in_default-clause-tells c =
    let kept : c.reserve.new.self.items ≡ c.args.said.now.items = search rules in
    tells_same _ _ _ _ c.args.said.now.items c.reserve.new.self.items (ap (λ (x : ServiceView). x.connections.table) c.self.view_is) kept

pub returns-in_default-pop_front-clause-tells : goal.returns-in_default-pop_front-clause-tells
returns-in_default-pop_front-clause-tells c =
    let kept : c.reserve.new.self.items ≡ c.args.said.now.items = search rules in
    tells_same _ _ _ _ c.args.said.now.items c.reserve.new.self.items (ap (λ (x : ServiceView). x.connections.table) c.self.view_is) kept

pub returns-then-is_err-clause-given : goal.returns-then-is_err-clause-given
returns-then-is_err-clause-given c =
    let kept : c.reserve.new.self.items ≡ c.args.said.now.items = search rules in (
      [],
      kept ∙ sym (append-nil c.args.said.now.items),
      ap (λ (x : ServiceView). x.connections.given) c.self.view_is ∙ sym (append-nil c.args.self.now.connections.given),
      ap (λ (x : ServiceView). x.connections.passed) c.self.view_is ∙ sym (append-nil c.args.self.now.connections.passed),
    )

pub returns-in_default-pop_front-clause-given : goal.returns-in_default-pop_front-clause-given
returns-in_default-pop_front-clause-given c =
    let kept : c.reserve.new.self.items ≡ c.args.said.now.items = search rules in (
      [],
      kept ∙ sym (append-nil c.args.said.now.items),
      ap (λ (x : ServiceView). x.connections.given) c.self.view_is ∙ sym (append-nil c.args.self.now.connections.given),
      ap (λ (x : ServiceView). x.connections.passed) c.self.view_is ∙ sym (append-nil c.args.self.now.connections.passed),
    )

pub returns-clause-given : goal.returns-clause-given
returns-clause-given c =
    let s = c.self.inside in
    let next = c.ask-asking.new.connections in
    let f = c.ask-asking.new.ensemble in
    let kept : c.reserve.new.self.items ≡ c.args.said.now.items = search rules in
    subst (λ (x : ServiceView). Gives x.connections c.args.said.now.items next c.settle.new.said.items) c.self.view_is
    (subst (λ (said : List Said). Gives s.connections said next c.settle.new.said.items) kept
    (assign_gives _ _ s.connections next s.ensemble f c.ask-asking.result s.pool c.settle.new.pool _ (assigned c.settle.new.assignments.items) c.reserve.new.self.items c.settle.new.said.items c.in-Some-pop_front.waiting.at.key c.ask-asking.ensures.asks c.settle.ensures))
