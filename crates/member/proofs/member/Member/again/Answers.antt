use Rattle.std.proofs.Common.{rules, ◌≡◌, sym, subst}
use Rattle.member.specs.Member.{MemberView, home_of}
use Rattle.member.proofs.Steps.{asks_again}
use Rattle.member.proofs.member.Member.again.Goals as goal

pub invariant_of-self : goal.invariant_of-self
invariant_of-self c =
    let s = c.self.inside in
    let here : home_of c.args.self.now.config c.args.proxy ≡ c.args.self.now.id = search rules in (
      asks_again s.id s.config s.leaving.items s.nodes c.again.new.self s.log c.self.invariant.0 c.args.proxy
          (subst (λ (v : MemberView). home_of v.config c.args.proxy ≡ v.id) (sym c.self.view_is) here)
          c.again.ensures.again,
      c.self.invariant.1,
    )
