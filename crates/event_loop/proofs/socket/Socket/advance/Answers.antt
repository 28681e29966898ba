use Rattle.std.proofs.Common.{rules, ◌≡◌, ◌≤◌, inl, inr, arith, sym, ◌∙◌, ap}
use Rattle.std.proofs.lemmas.Bool.{cases_order}
use Rattle.loop_messages.specs.declared.message.TheConstants.{MOST_UNWRITTEN}
use Rattle.event_loop.specs.Socket.{SocketView}
use Rattle.event_loop.proofs.SocketLemmas.{tells_then, writes_tells, visit_unread, visit_read}
use Rattle.event_loop.proofs.socket.Socket.advance.Goals as goal

pub returns-then-may_be_read-clause-tells : goal.returns-then-may_be_read-clause-tells
returns-then-may_be_read-clause-tells g c = tells_then _ _ _ _ _ _ _ (tells_then _ _ _ _ _ _ _ (writes_tells _ _ _ _ c.write.ensures.writes) c.tell_written.ensures.tells) c.read.ensures.tells

pub returns-then-may_be_read-clause-visit : goal.returns-then-may_be_read-clause-visit
returns-then-may_be_read-clause-visit g c =
    let may = c.may_be_read.ensures.0 (search rules) in
    visit_read c.args.reads c.args.self.now c.write.new.self c.write.ensures.writes c.write.ensures.one c.tell_written.new.self c.read.new.self c.tell_written.ensures.same may c.read.ensures.reads

pub returns-else-reads-clause-visit : goal.returns-else-reads-clause-visit
returns-else-reads-clause-visit g c =
    visit_unread c.args.reads c.args.self.now c.write.new.self c.write.ensures.writes c.write.ensures.one c.write.ensures.none c.tell_written.new.self c.tell_written.ensures.same
    (λ asks may. let no : ⊥ = search rules in absurd no)

pub returns-in_err-tell_written-clause-visit : goal.returns-in_err-tell_written-clause-visit
returns-in_err-tell_written-clause-visit g c =
    let same : c.tell_written.new.self ≡ c.write.new.self = search rules in
    visit_unread c.args.reads c.args.self.now c.write.new.self c.write.ensures.writes c.write.ensures.one c.write.ensures.none c.tell_written.new.self c.tell_written.ensures.same
    (λ asks may.
    let kept = ap (λ (s : SocketView). s.untold) same in
    elim (cases_order c.write.new.self.untold MOST_UNWRITTEN) [
      | inl e ↦ omega (arith, e, kept)
      | inr o ↦ elim o [
        | inl lt ↦ absurd (cc (sym (c.tell_written.ensures.little lt).0 ∙ c.in_err-tell_written.was))
        | inr gt ↦ omega (arith, gt, kept)
      ]
    ])
