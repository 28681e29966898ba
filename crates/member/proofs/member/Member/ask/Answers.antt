use Rattle.std.proofs.Common.{◌≡◌, ◌<◌, ◌^◌, ◌-◌, sym, ap, subst}
use Rattle.sessions.specs.declared.request.Request.{Request}
use Rattle.ensemble.specs.Nodes.{IsAskedBy, IsPosted}
use Rattle.ensemble.specs.Served.{IsUnderWay}
use Rattle.ensemble.proofs.Served.{asked_under_way}
use Rattle.member.specs.Member.{MemberView, home_of}
use Rattle.member.specs.Asking.{IsAskShown}
use Rattle.member.proofs.Steps.{asks, is_shown}
use Rattle.member.proofs.member.Member.ask.Goals as goal

pub invariant_of-self-2 : goal.invariant_of-self-2
invariant_of-self-2 c =
    let s = c.self.inside in
    let r = c.in_ok-request.request in
    let asked = c.in_ok-request.ensures.ok in (
      asks s.id s.config s.leaving.items s.nodes c.send.new.self s.log c.self.invariant.0 c.ask.new.self c.args.proxy c.args.command c.args.quiet r c.asked-request.new.self c.in_ok-request.ensures.numbered
          (subst (λ (v : MemberView). home_of v.config c.args.proxy ≡ v.id) (sym c.self.view_is) c.requires.free.here)
          c.requires.text (ap (λ (x : Request). x.command) asked.is) asked c.in_ok-request.ensures.others
          (subst (λ (x : Request). IsPosted c.ask.new.self c.args.proxy x c.send.new.self) c.asked-request.ensures.same c.send.ensures.posted)
          c.asked-request.ensures.shown,
      c.self.invariant.1,
    )

pub returns-clause-ok : goal.returns-clause-ok
returns-clause-ok c =
    let r = c.in_ok-request.request in
    subst (λ (v : MemberView). IsAskShown v.shown c.args.proxy c.asked-request.result.number c.args.command c.args.quiet c.asked-request.new.self) c.self.view_is
    (is_shown c.self.inside.log c.asked-request.new.self c.args.proxy c.args.command c.args.quiet r c.asked-request.result c.asked-request.ensures.same c.in_ok-request.ensures.numbered (ap (λ (x : Request). x.command) c.in_ok-request.ensures.ok.is) c.asked-request.ensures.shown)

pub returns-clause-sent : goal.returns-clause-sent
returns-clause-sent c =
    let s = c.self.inside in
    let given = c.asked-request.result in
    let asked : IsAskedBy s.nodes.proxies c.args.proxy c.args.command c.args.quiet c.ask.new.self.proxies given =
    subst (λ (x : Request). IsAskedBy s.nodes.proxies c.args.proxy c.args.command c.args.quiet c.ask.new.self.proxies x) (sym c.asked-request.ensures.same) c.in_ok-request.ensures.ok in
    subst (λ (v : MemberView). c.send.new.refused ≡ v.refused → v.refused < 2 ^ 64 - 1 → IsUnderWay v.nodes c.send.new.self c.args.proxy given.number c.args.command) c.self.view_is
    (λ same below. asked_under_way s.nodes c.ask.new.self c.send.new.self c.args.proxy c.args.command c.args.quiet given asked c.in_ok-request.ensures.others (c.send.ensures.sent same below))
