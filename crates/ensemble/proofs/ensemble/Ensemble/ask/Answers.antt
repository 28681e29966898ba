use Rattle.std.proofs.Common.{◌≡◌, ◌<◌, ◌^◌, ◌-◌, List, ap, subst}
use Rattle.std.specs.Prelude.{Bool}
use Rattle.sessions.specs.declared.request.Request.{Request}
use Rattle.ensemble.specs.Ensemble.{EnsembleView, IsLogged, first_found}
use Rattle.ensemble.specs.Calls.{AllCollected}
use Rattle.ensemble.specs.Served.{IsUnderWay}
use Rattle.ensemble.proofs.Served.{asked_under_way}
use Rattle.ensemble.proofs.Ending.{goes_on_after}
use Rattle.ensemble.proofs.Continuing.{proxy_asks}
use Rattle.ensemble.proofs.Going.{asks_logged}
use Rattle.ensemble.specs.Nodes.{size_of}
use Rattle.ensemble.proofs.Sizes.{ask_size}
use Rattle.ensemble.proofs.Collecting.{ask_waits}
use Rattle.ensemble.proofs.ensemble.Ensemble.ask.Goals as goal

pub invariant_of-self-2 : goal.invariant_of-self-2
invariant_of-self-2 c =
    let old : EnsembleView = record { nodes = c.self.inside.nodes; asked = c.self.inside.asked.items; answered = c.self.inside.answered.items; order = c.self.inside.order.items; refused = 0; found = first_found c.self.inside.found.items } in
    let now : EnsembleView = record old { nodes = c.send.new.self; asked = c.and-self-inside.result.items; order = c.and-self-inside-2.result.items } in
    goes_on_after old.found old now (proxy_asks old now (record {
      alloc = c.args.alloc;
      number = c.args.proxy;
      command = c.args.command;
      quiet = c.args.quiet;
      request = c.in_ok-request.request;
      text = c.requires.text;
      asking = c.ask.new.self;
      asked_by = c.in_ok-request.ensures.ok;
      only = c.in_ok-request.ensures.others;
      posted = c.send.ensures.posted;
      after = λ i. record now { asked = c.and-self-inside.ensures i; order = c.and-self-inside-2.ensures i };
    })) c.self.invariant

pub returns-clause-ok : goal.returns-clause-ok
returns-clause-ok c =
    let r = c.in_ok-request.request in
    subst (λ (log : List (Request × Bool)). IsLogged log c.args.proxy r.number c.args.command c.args.quiet c.and-self-inside.result.items) (ap (λ (e : EnsembleView). e.asked) c.self.view_is)
    (asks_logged c.self.inside.asked.items c.ask.new.self.proxies c.self.inside.nodes.proxies c.args.proxy c.args.command c.args.quiet r c.and-self-inside.result.items c.in_ok-request.ensures.ok c.in_ok-request.ensures.numbered c.and-self-inside.ensures)

pub returns-clause-sent : goal.returns-clause-sent
returns-clause-sent c =
    let r = c.in_ok-request.request in
    subst (λ (e : EnsembleView). c.send.new.refused ≡ e.refused → e.refused < 2 ^ 64 - 1 → IsUnderWay e.nodes c.send.new.self c.args.proxy r.number c.args.command) c.self.view_is
    (λ same below. asked_under_way c.self.inside.nodes c.ask.new.self c.send.new.self c.args.proxy c.args.command c.args.quiet r c.in_ok-request.ensures.ok c.in_ok-request.ensures.others (c.send.ensures.sent same below))

pub returns-clause-size : goal.returns-clause-size
returns-clause-size c =
    subst (λ (e : EnsembleView). size_of c.send.new.self ≡ size_of e.nodes) c.self.view_is
    (ask_size c.self.inside.nodes c.ask.new.self c.send.new.self c.args.proxy c.args.command c.args.quiet c.in_ok-request.request c.in_ok-request.ensures.ok c.in_ok-request.ensures.others c.send.ensures.posted)

pub returns-clause-waits : goal.returns-clause-waits
returns-clause-waits c = subst (λ (e : EnsembleView). AllCollected e.nodes → AllCollected c.send.new.self) c.self.view_is (ask_waits c.self.inside.nodes c.ask.new.self c.send.new.self c.args.proxy c.in_ok-request.request c.in_ok-request.ensures.others c.send.ensures.posted)
