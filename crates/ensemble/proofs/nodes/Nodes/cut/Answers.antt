use Rattle.std.proofs.Common.{◌≡◌, [], length, refl, sym, ◌∙◌, subst, arith, vec_len}
use Rattle.std.proofs.lemmas.Bool.{eqb-true, eq-eqb}
use Rattle.exec_lines.specs.declared.input.Input.TheVariants.{Cut}
use Rattle.hosts.specs.Host.{HostSettles}
use Rattle.ensemble.specs.Nodes.{NodesView, HostMoves}
use Rattle.ensemble.specs.Served.{NoBatchAt}
use Rattle.ensemble.proofs.Served.{nothing_in, cut_nothing}
use Rattle.ensemble.proofs.nodes.Nodes.cut.Goals as goal

pub returns-then-has_sent-clause-moves : goal.returns-then-has_sent-clause-moves
returns-then-has_sent-clause-moves c =
    let left : NodesView = record { u = c.self.inside.u; proxies = c.self.inside.proxies.items; executors = c.cut-sent.new.executors.items; verifiers = c.self.inside.verifiers.items; mail = c.post.new.mail.items } in
    subst (λ (n : NodesView). HostMoves (λ h left sent. HostSettles h (Cut c.args.moment) left sent) c.args.id n left) c.self.view_is (c.cut-sent.new.executors.items, c.cut-sent.result.items, c.post.new.mail.items, c.cut-sent.ensures, c.post.ensures.grows, refl)

pub returns-else-has_sent-clause-moves : goal.returns-else-has_sent-clause-moves
returns-else-has_sent-clause-moves c =
    let left : NodesView = record { u = c.self.inside.u; proxies = c.self.inside.proxies.items; executors = c.cut-sent.new.executors.items; verifiers = c.self.inside.verifiers.items; mail = c.post.new.mail.items } in
    subst (λ (n : NodesView). HostMoves (λ h left sent. HostSettles h (Cut c.args.moment) left sent) c.args.id n left) c.self.view_is (c.cut-sent.new.executors.items, c.cut-sent.result.items, c.post.new.mail.items, c.cut-sent.ensures, c.post.ensures.grows, refl)

pub returns-else-has_sent-clause-nothing : goal.returns-else-has_sent-clause-nothing
returns-else-has_sent-clause-nothing c = λ none.
    let s = c.self.inside in
    let before : NodesView = record { u = s.u; proxies = s.proxies.items; executors = s.executors.items; verifiers = s.verifiers.items; mail = s.mail.items } in
    let left : NodesView = record { u = s.u; proxies = s.proxies.items; executors = c.cut-sent.new.executors.items; verifiers = s.verifiers.items; mail = c.post.new.mail.items } in
    let sent = c.cut-sent.result in
    let zero = eqb-true (vec_len sent) 0 (sym c.is_empty-has_sent.ensures ∙ c.if-has_sent.false) in
    let count : length sent.items ≡ 0 = omega (arith, zero) in
    let empty : sent.items ≡ [] = nothing_in sent.items (eq-eqb (length sent.items) 0 count) in
    subst (λ (n : NodesView). NoBatchAt c.args.id n left) c.self.view_is (cut_nothing c.args.moment c.args.id before left c.cut-sent.result.items c.cut-sent.ensures empty)
