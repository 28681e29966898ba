use Rattle.std.proofs.Common.{◌≡◌, true, List, ◌++◌, sym, ap, ◌∙◌}
use Rattle.std.proofs.lemmas.List.{append-nil}
use Rattle.executor.specs.declared.answered.Answered.{Answered}
use Rattle.rollback.specs.Chain.{is_standing}
use Rattle.rollback.proofs.StandingLemmas.{end_here, no_reply_here}
use Rattle.rollback.proofs.chain.Chain.commit_to.Goals as goal

pub returns-clause-chain : goal.returns-clause-chain
returns-clause-chain c =
    let here : is_standing c.args.standing.now c.loop-self.self.have ≡ true = ap (is_standing c.args.standing.now) (sym c.committed.ensures) ∙ sym c.is_standing.ensures ∙ c.loop-self-test.false in
    sym c.loop-self.invariant.chain ∙ end_here c.args.standing.now c.loop-self.self.have c.loop-self.self.members here

pub returns-clause-replies : goal.returns-clause-replies
returns-clause-replies c =
    let here : is_standing c.args.standing.now c.loop-self.self.have ≡ true = ap (is_standing c.args.standing.now) (sym c.committed.ensures) ∙ sym c.is_standing.ensures ∙ c.loop-self-test.false in
    let none = no_reply_here c.args.standing.now c.loop-self.self.have c.loop-self.self.members here in
    sym (append-nil c.loop-self.replies.items) ∙ ap (λ (rs : List Answered). c.loop-self.replies.items ++ rs) (sym none) ∙ c.loop-self.invariant.replies
