use Rattle.std.proofs.Common.{ap, subst}
use Rattle.grammar.specs.Reads.{with_mark}
use Rattle.service.specs.Service.{Hears, HasSameRequests}
use Rattle.server.specs.Answering.{AnsweringView}
use Rattle.std.specs.Prelude.{IfOk}
use Rattle.connections.specs.Told.{IsToldAt}
use Rattle.server.proofs.HandLemmas.{says_what, told_after}
use Rattle.server.proofs.answering.Answering.hear_bytes.Goals as goal

pub returns : goal.returns
returns c =
    let s = c.self.inside in
    let between : AnsweringView = record { service = c.hear-heard.new.self; said = s.said.items; lost = s.lost.items } in
    record {
      between = between;
      same_said = ap (λ (v : AnsweringView). v.said) c.self.view_is;
      result = c.hear-heard.result;
      full = c.hear-heard.ensures.hears.0;
      hears = subst (λ (v : AnsweringView). Hears c.args.key c.args.number (with_mark v.service.connections.dialect c.hear-heard.ensures.hears.0 c.args.bytes.items) v.service.connections c.hear-heard.new.self.connections c.hear-heard.result) c.self.view_is c.hear-heard.ensures.hears.1;
      requests = subst (λ (v : AnsweringView). HasSameRequests v.service c.hear-heard.new.self) c.self.view_is c.hear-heard.ensures.requests;
      told = told_after c.args.key c.args.number c.args.self.now.service c.hear-heard.new.self c.hear-heard.result (subst (λ (v : AnsweringView). IfOk c.hear-heard.result (λ said. IsToldAt (record { key = c.args.key; number = c.args.number }) v.service.connections.table c.hear-heard.new.self.connections.table said)) c.self.view_is c.hear-heard.ensures.told) c.hear-heard.ensures.leaves;
      says = says_what between c.say.new.self c.args.key c.args.number c.hear-heard.result c.said_of-said.result c.said_of-said.ensures c.say.ensures.says;
    }
