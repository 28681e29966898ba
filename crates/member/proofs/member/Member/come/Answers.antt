use Rattle.std.proofs.Common.{[], ◌∷◌, subst}
use Rattle.member.proofs.Steps.{may_come_in}
use Rattle.ensemble.specs.Nodes.{MayGrow}
use Rattle.decrees.specs.declared.node.Letter.{Letter}
use Rattle.exec_lines.specs.declared.body.Body.{Body}
use Rattle.member.proofs.member.Member.come.Goals as goal

pub invariant_of-self : goal.invariant_of-self
invariant_of-self c =
    let s = c.self.inside in (
      may_come_in s.id s.config s.leaving.items s.nodes c.receive.new.nodes c.args.letter s.log c.came_in-letter.new.self c.self.invariant.0 c.came_in-letter.ensures.shown
          (subst (λ (l : Letter Body). MayGrow s.nodes.mail (l ∷ []) c.receive.new.nodes.mail) c.came_in-letter.ensures.same c.receive.ensures.grows)
          c.receive.ensures.others,
      c.self.invariant.1,
    )
