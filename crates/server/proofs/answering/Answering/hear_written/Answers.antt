use Rattle.std.proofs.Common.{◌≡◌, inl, inr, ap, subst, refl}
use Rattle.connections.specs.Slots.{left_at, written_at}
use Rattle.server.specs.Answering.{AnsweringView}
use Rattle.server.proofs.HandLemmas.{says_nothing}
use Rattle.server.proofs.answering.Answering.hear_written.Goals as goal

pub returns-then-not-written : goal.returns-then-not-written
returns-then-not-written c =
    let s = c.self.inside in
    let now = c.written.new.self in
    record {
      between = record { service = now; said = s.said.items; lost = s.lost.items };
      nothing = says_nothing _ s.service now s.said.items s.lost.items s.lost.items c.self.view_is c.written.ensures.logs c.written.ensures.requests;
      becomes = inr (record {
        table = subst (λ (v : AnsweringView). now.connections.table ≡ left_at (record { key = c.args.key; number = c.args.number }) v.service.connections.table) c.self.view_is (c.if-not-written.ensures.left refl);
        last = c.last.result;
        is_last = c.last.ensures;
        says = c.say-then-not-written.ensures.says;
      });
    }

pub returns-else-not-written : goal.returns-else-not-written
returns-else-not-written c =
    let s = c.self.inside in
    record {
      between = _;
      nothing = says_nothing _ s.service c.written.new.self s.said.items s.lost.items s.lost.items c.self.view_is c.written.ensures.logs c.written.ensures.requests;
      becomes = inl (record {
        table = subst (λ (v : AnsweringView). c.written.new.self.connections.table ≡ written_at (record { key = c.args.key; number = c.args.number }) c.args.count v.service.connections.table) c.self.view_is (ap (λ x. x.table) (c.if-not-written.ensures.written refl));
        all = refl;
      });
    }
