use Rattle.std.proofs.Common.{◌≡◌, ◌≤◌, true, List, ap, sym, ◌∙◌, subst, arith, vec_capacity}
use Rattle.std.specs.Prelude.{remove}
use Rattle.states.specs.State.{StateView}
use Rattle.executor.specs.Work.{TentativeView, CommittedView}
use Rattle.rollback.specs.declared.chain.TheConstants.{MOST_MEMBERS}
use Rattle.rollback.specs.Chain.{ChainView, IsChain, commits_first}
use Rattle.rollback.proofs.ChainLemmas.{linked-rest}
use Rattle.rollback.proofs.chain.Chain.commit_member.Goals as goal

pub invariant_of-self : goal.invariant_of-self
invariant_of-self c =
    let chain : ChainView = record { have = c.self.inside.committed.state; members = c.self.inside.members.items } in
    let commits : commits_first c.args.decree.now chain.members ≡ true = ap (λ (v : ChainView). commits_first c.args.decree.now v.members) c.self.view_is ∙ c.requires in
    let rest = linked-rest c.args.decree.now chain.have chain.members c.remove-first.result commits c.remove-first.ensures.value c.self.invariant.2 in
    let room : MOST_MEMBERS ≤ vec_capacity c.remove-first.new.self = omega (arith, c.self.invariant.1, c.remove-first.ensures.capacity) in
    let state : c.take_replies-committed.result.0.state ≡ c.remove-first.result.after = ap (λ (v : CommittedView). v.state) c.take_replies-committed.ensures.quiet ∙ ap (λ (v : CommittedView). v.state) c.commit.ensures in
    let items : remove chain.members 0 ≡ c.remove-first.new.self.items = sym c.remove-first.ensures.items in (
      ap (λ (v : CommittedView). v.replies) c.take_replies-committed.ensures.quiet,
      room,
      subst (λ (x : StateView). IsChain (record { have = x; members = c.remove-first.new.self.items })) (sym state)
          (subst (λ (ts : List TentativeView). IsChain (record { have = c.remove-first.result.after; members = ts })) items rest),
    )
