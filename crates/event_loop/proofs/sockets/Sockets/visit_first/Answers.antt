use Rattle.std.proofs.Common.{◌≡◌, ℕ, refl, sym, subst, ◌∙◌, ap}
use Rattle.std.specs.Prelude.{Some}
use Rattle.slab.specs.Slab.{get, with_value}
use Rattle.event_loop.specs.Socket.{SocketView, SocketRests}
use Rattle.event_loop.specs.Sockets.{VisitsView, SocketsView, IsEntry, IsVisitOfFirst}
use Rattle.event_loop.proofs.SocketsLemmas.{entry_none, entry_gone, entry_resting, entry_again, visit_stays, visit_gone}
use Rattle.event_loop.proofs.sockets.Sockets.visit_first.Goals as goal

pub invariant_of-self : goal.invariant_of-self
invariant_of-self g c = subst (λ (t : VisitsView). (k : ℕ) (x : SocketView) → get c.self.inside.all k ≡ Some x → IsEntry k t c.self.inside.next x) (sym c.in_err-key.ensures.first) c.self.invariant

pub invariant_of-self-in_err-socket : goal.invariant_of-self-in_err-socket
invariant_of-self-in_err-socket g c = entry_none c.self.inside.visits c.take_first.new.self c.in_ok-key.key c.in_ok-key.ensures.first c.self.inside.next c.self.inside.all c.self.invariant (sym c.in_err-socket.ensures.value)

pub invariant_of-self-in-Gone : goal.invariant_of-self-in-Gone
invariant_of-self-in-Gone g c =
    entry_gone c.self.inside.visits c.take_first.new.self c.in_ok-key.key c.in_ok-key.ensures.first c.self.inside.next c.self.inside.all c.self.invariant c.in_ok-socket.socket.now c.take_moved.new.self (sym c.in_ok-socket.ensures.value) c.try_remove.new.self
    c.try_remove.ensures.updates

pub invariant_of-self-in-Rest : goal.invariant_of-self-in-Rest
invariant_of-self-in-Rest g c =
    let tells = c.visit-after.ensures.stays (λ e. absurd (cc (sym c.in-Rest.is ∙ e))) in
    entry_resting c.self.inside.visits c.take_first.new.self c.in_ok-key.key c.in_ok-key.ensures.first c.self.inside.next c.self.inside.all c.self.invariant c.in_ok-socket.socket.now c.take_moved.new.self (sym c.in_ok-socket.ensures.value)
    (ap (λ (s : SocketView). s.number) c.take_moved.ensures ∙ tells.number ∙ ap (λ (s : SocketView). s.number) c.set_listed.ensures)
    (ap (λ (s : SocketView). s.is_listed) c.take_moved.ensures ∙ c.visit-after.ensures.listed ∙ ap (λ (s : SocketView). s.is_listed) c.set_listed.ensures)
    (subst (λ (s : SocketView). SocketRests s) (sym c.take_moved.ensures) (c.visit-after.ensures.rests c.in-Rest.is))

pub invariant_of-self-in_default : goal.invariant_of-self-in_default
invariant_of-self-in_default g c =
    let tells = c.visit-after.ensures.stays c.in_default.not-Gone in
    entry_again c.self.inside.visits c.take_first.new.self c.in_ok-key.key c.in_ok-key.ensures.first c.self.inside.next c.self.inside.all c.self.invariant c.in_ok-socket.socket.now c.list.new.socket (sym c.in_ok-socket.ensures.value) c.take_moved.new.self
    c.list.new.self (ap (λ (s : SocketView). s.number) c.take_moved.ensures ∙ tells.number ∙ ap (λ (s : SocketView). s.number) c.set_listed.ensures)
    (ap (λ (s : SocketView). s.is_listed) c.take_moved.ensures ∙ c.visit-after.ensures.listed ∙ ap (λ (s : SocketView). s.is_listed) c.set_listed.ensures) c.list.ensures

pub returns-in-Gone : goal.returns-in-Gone
returns-in-Gone g c =
    let gone = c.visit-after.ensures.gone c.in-Gone.is in
    let old : SocketsView = record { all = c.self.inside.all; visits = c.self.inside.visits; next = c.self.inside.next } in
    let now : SocketsView = record { all = c.try_remove.new.self; visits = c.take_first.new.self; next = c.self.inside.next } in
    subst (λ (o : SocketsView). IsVisitOfFirst c.args.reads o now c.args.heard.now.items c.visit-after.new.heard.items) c.self.view_is
    (visit_gone c.args.reads old now c.take_first.new.self c.in_ok-key.key c.in_ok-key.ensures.first c.in_ok-socket.socket.now c.set_listed.new.self c.visit-after.new.self (sym c.in_ok-socket.ensures.value) c.set_listed.ensures c.visit-after.ensures.visit refl c.args.heard.now.items c.visit-after.new.heard.items
    c.take_moved.new.self c.try_remove.ensures.updates gone.0 gone.1)

pub returns-in-Rest : goal.returns-in-Rest
returns-in-Rest g c =
    let old : SocketsView = record { all = c.self.inside.all; visits = c.self.inside.visits; next = c.self.inside.next } in
    let now : SocketsView = record { all = with_value c.self.inside.all c.in_ok-key.key c.take_moved.new.self; visits = c.take_first.new.self; next = c.self.inside.next } in
    subst (λ (o : SocketsView). IsVisitOfFirst c.args.reads o now c.args.heard.now.items c.visit-after.new.heard.items) c.self.view_is
    (visit_stays c.args.reads old now c.take_first.new.self c.in_ok-key.key c.in_ok-key.ensures.first c.in_ok-socket.socket.now c.set_listed.new.self c.visit-after.new.self (sym c.in_ok-socket.ensures.value) c.set_listed.ensures c.visit-after.ensures.visit refl c.args.heard.now.items c.visit-after.new.heard.items
    c.take_moved.new.self refl (c.take_moved.ensures ∙ ap (λ (v : SocketView). record c.visit-after.new.self { is_listed = v.is_listed }) (sym c.take_moved.ensures)) (c.visit-after.ensures.stays (λ e. absurd (cc (sym c.in-Rest.is ∙ e)))))

pub returns-in_default : goal.returns-in_default
returns-in_default g c =
    let old : SocketsView = record { all = c.self.inside.all; visits = c.self.inside.visits; next = c.self.inside.next } in
    let now : SocketsView = record { all = with_value c.self.inside.all c.in_ok-key.key c.list.new.socket; visits = c.list.new.self; next = c.self.inside.next } in
    subst (λ (o : SocketsView). IsVisitOfFirst c.args.reads o now c.args.heard.now.items c.visit-after.new.heard.items) c.self.view_is
    (visit_stays c.args.reads old now c.take_first.new.self c.in_ok-key.key c.in_ok-key.ensures.first c.in_ok-socket.socket.now c.set_listed.new.self c.visit-after.new.self (sym c.in_ok-socket.ensures.value) c.set_listed.ensures c.visit-after.ensures.visit refl c.args.heard.now.items c.visit-after.new.heard.items
    c.list.new.socket refl (c.list.ensures.others ∙ ap (λ (v : SocketView). record v { is_listed = c.list.new.socket.is_listed }) c.take_moved.ensures) (c.visit-after.ensures.stays c.in_default.not-Gone))
