use Rattle.std.proofs.Common.{◌≤◌, ◌<◌, List, length, sym, subst, arith, vec_capacity}
use Rattle.std.specs.Prelude.{IsTrue}
use Rattle.executor.specs.Work.{TentativeView}
use Rattle.rollback.specs.declared.chain.TheConstants.{MOST_MEMBERS}
use Rattle.rollback.specs.Chain.{ChainView, are_linked, chain_tip, is_over}
use Rattle.rollback.proofs.ChainLemmas.{linked-push}
use Rattle.rollback.proofs.chain.Chain.add.Goals as goal

pub invariant_of-self : goal.invariant_of-self
invariant_of-self c =
    let chain : ChainView = record { have = c.self.inside.committed.state; members = c.self.inside.members.items } in
    let over : IsTrue (is_over (chain_tip chain) c.args.tentative) = subst (λ (v : ChainView). IsTrue (is_over (chain_tip v) c.args.tentative)) (sym c.self.view_is) c.requires.over in
    let free : length chain.members < MOST_MEMBERS = subst (λ (v : ChainView). length v.members < MOST_MEMBERS) (sym c.self.view_is) c.requires.room in
    let linked = linked-push chain.have chain.members c.args.tentative c.self.invariant.2.linked over in
    let few : length c.push_reserved.new.self.items ≤ MOST_MEMBERS = omega (arith, free, c.push_reserved.new.self.ok.0, c.self.inside.members.ok.0, c.push_reserved.ensures.len) in
    let room : MOST_MEMBERS ≤ vec_capacity c.push_reserved.new.self = omega (arith, c.self.invariant.1, c.push_reserved.ensures.capacity) in
    (c.self.invariant.0, room, record { few = few; linked = subst (λ (ts : List TentativeView). IsTrue (are_linked chain.have ts)) (sym c.push_reserved.ensures.items) linked })
