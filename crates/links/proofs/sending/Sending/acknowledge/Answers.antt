use Rattle.std.proofs.Common.{ap, ◌∙◌, drop}
use Rattle.links.proofs.SendingLemmas.{sending_acknowledged}
use Rattle.links.proofs.sending.Sending.acknowledge.Goals as goal

pub invariant_of-self : goal.invariant_of-self
invariant_of-self c =
    rw (c.max-self-inside.ensures, c.max-self-inside-2.ensures)
    (sending_acknowledged _ c.args.number c.let_go.new.self c.self.invariant c.if-self-number.false (c.let_go.ensures ∙ ap (λ n. drop n c.self.inside.held) c.saturating_sub-count.ensures))
