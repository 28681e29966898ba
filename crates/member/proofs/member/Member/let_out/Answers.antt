use Rattle.std.proofs.Common.{List, subst}
use Rattle.decrees.specs.declared.node.Letter.{Letter}
use Rattle.exec_lines.specs.declared.body.Body.{Body}
use Rattle.member.specs.Member.{HasDone, with_leaving}
use Rattle.member.proofs.Steps.{went_out}
use Rattle.member.proofs.member.Member.let_out.Goals as goal

pub invariant_of-self-2 : goal.invariant_of-self-2
invariant_of-self-2 c =
    let s = c.self.inside in
    let rest = c.pop_front.new.self.items in (
      went_out s.id s.config c.in_ok-letter.letter rest s.nodes s.log c.went_out.new.self
          (subst (λ (ls : List (Letter Body)). HasDone s.id s.config s.found (with_leaving ls s.nodes) s.log) c.in_ok-letter.ensures.items c.self.invariant.0)
          c.went_out.ensures.shown,
      c.self.invariant.1,
    )
