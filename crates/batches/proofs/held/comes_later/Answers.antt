use Rattle.std.proofs.Common.{ap, ◌∙◌, true, nat_lt}
use Rattle.std.specs.Option.{option_map_or}
use Rattle.sessions.specs.declared.request.Request.{Request}
use Rattle.batches.proofs.HeldLemmas.{is_later-held}
use Rattle.batches.proofs.held.comes_later.Goals as goal

pub returns-in-None : goal.returns-in-None
returns-in-None c = ap (λ o. option_map_or (λ (held : Request). nat_lt held.number c.args.request.now.number) o true) c.in-None.ensures.value
    ∙ is_later-held c.args.request.now c.args.waiting.now.entries c.requires

pub returns-in-Some : goal.returns-in-Some
returns-in-Some c = ap (λ o. option_map_or (λ (held : Request). nat_lt held.number c.args.request.now.number) o true) c.in-Some.ensures.value
    ∙ is_later-held c.args.request.now c.args.waiting.now.entries c.requires
