use Rattle.std.proofs.Common.{ap, ◌∙◌, rules, nat_eq, not}
use Rattle.std.specs.Prelude.{filter}
use Rattle.std.proofs.lemmas.Fn.{filter_same}
use Rattle.event_loop.proofs.leavers.Leavers.remove.Goals as goal

pub returns : goal.returns
returns c = filter_same _ (λ leaver. not (nat_eq leaver.number c.args.number)) _ (λ x b f called. search rules) _ _ c.retain.ensures.filtered ∙ ap (filter (λ leaver. not (nat_eq leaver.number c.args.number))) c.self.view_is
