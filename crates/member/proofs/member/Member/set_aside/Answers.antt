use Rattle.std.proofs.Common.{◌≡◌, List, [], ◌∷◌, ◌++◌, sym, ap, ◌∙◌, subst, refl}
use Rattle.decrees.specs.declared.node.Letter.{Letter}
use Rattle.exec_lines.specs.declared.body.Body.{Body}
use Rattle.ensemble.specs.Nodes.{NodesView}
use Rattle.member.specs.Member.{HasDone, with_leaving}
use Rattle.member.proofs.Steps.{set_aside}
use Rattle.member.proofs.member.Member.set_aside.Goals as goal

pub invariant_of-self : goal.invariant_of-self
invariant_of-self c =
    let s = c.self.inside in
    (subst (λ (ls : List (Letter Body)). HasDone s.id s.config s.found (with_leaving ls s.nodes) s.log) (sym c.reserve.ensures.items) c.self.invariant.0, c.self.invariant.1)

pub invariant_of-self-in-Some : goal.invariant_of-self-in-Some
invariant_of-self-in-Some c =
    let s = c.self.inside in
    let l = c.in-Some.letter in (
      set_aside s.id s.config s.leaving.items c.push_back_reserved.new.self.items s.nodes c.take_first.new.nodes l s.log c.self.invariant.0 c.in-Some.ensures.first c.take_first.ensures.others
          (c.push_back_reserved.ensures.items ∙ ap (λ (ls : List (Letter Body)). ls ++ l ∷ []) c.reserve.ensures.items),
      c.self.invariant.1,
    )

pub invariant_of-self-in-None : goal.invariant_of-self-in-None
invariant_of-self-in-None c =
    let s = c.self.inside in
    let same : c.take_first.new.nodes ≡ s.nodes = c.in-None.ensures.none refl in
    (subst (λ (p : List (Letter Body) × NodesView). HasDone s.id s.config s.found (with_leaving p.0 p.1) s.log) (λ i. (sym c.reserve.ensures.items i, sym same i)) c.self.invariant.0, c.self.invariant.1)
