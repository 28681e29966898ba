use Rattle.std.proofs.Common.{◌≡◌, true, false, sym, ap, ◌∙◌}
use Rattle.std.specs.Prelude.{is_some, ◌||◌}
use Rattle.std.specs.List.{list_any}
use Rattle.executor.specs.Work.{TentativeView}
use Rattle.rollback.specs.Chain.{is_standing}
use Rattle.rollback.proofs.StandingLemmas.{has_is, end_here}
use Rattle.rollback.proofs.chain.Chain.has.Goals as goal

pub returns-then-is_standing : goal.returns-then-is_standing
returns-then-is_standing c =
    let here : is_standing c.args.standing.now c.args.self.now.have ≡ true = ap (is_standing c.args.standing.now) (sym c.committed.ensures) ∙ sym c.is_standing.ensures ∙ c.if-is_standing.true in
    c.if-is_standing.true ∙ sym (ap is_some (end_here c.args.standing.now c.args.self.now.have c.args.self.now.members here))

pub returns-else-is_standing : goal.returns-else-is_standing
returns-else-is_standing c =
    let other : is_standing c.args.standing.now c.args.self.now.have ≡ false = ap (is_standing c.args.standing.now) (sym c.committed.ensures) ∙ sym c.is_standing.ensures ∙ c.if-is_standing.false in
    c.has_member.ensures ∙ sym (ap (λ b. b || list_any (λ (t : TentativeView). is_standing c.args.standing.now t.after) c.args.self.now.members) other) ∙ has_is c.args.standing.now c.args.self.now.have c.args.self.now.members
