use Rattle.std.proofs.Common.{[], inl, refl, sym, subst}
use Rattle.std.proofs.lemmas.List.{append-nil}
use Rattle.ensemble.specs.Nodes.{NodesView, HostMoves}
use Rattle.site_laws.specs.Site.{RunsOnly}
use Rattle.member.proofs.tending.run.Goals as goal

pub returns : goal.returns
returns g c =
    let s = c.nodes.inside in
    let left : NodesView = record { u = s.u; proxies = s.proxies.items; executors = c.run_at.new.executors.items; verifiers = s.verifiers.items; mail = s.mail.items } in
    subst (λ (n : NodesView). HostMoves RunsOnly c.args.id n left) c.nodes.view_is
    (c.run_at.new.executors.items, [], s.mail.items, c.run_at.ensures, inl (sym (append-nil s.mail.items)), refl)
