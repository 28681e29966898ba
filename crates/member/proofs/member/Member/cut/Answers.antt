use Rattle.member.proofs.Steps.{cuts}
use Rattle.member.proofs.member.Member.cut.Goals as goal

pub invariant_of-self : goal.invariant_of-self
invariant_of-self c =
    let s = c.self.inside in
    (cuts s.id s.config s.leaving.items s.nodes c.cut.new.self s.log c.self.invariant.0 c.args.moment c.noted.new.self c.cut.ensures.moves c.noted.ensures, c.self.invariant.1)

pub returns-clause-nothing : goal.returns-clause-nothing
returns-clause-nothing c = λ none. (c.cut.ensures.nothing none).here
