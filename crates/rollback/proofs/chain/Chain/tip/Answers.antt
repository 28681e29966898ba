use Rattle.std.proofs.Common.{◌≡◌, List, ap, sym, ◌∙◌, subst, Some}
use Rattle.std.specs.Prelude.{slice_get, length, ◌-◌, option_copied}
use Rattle.executor.specs.Work.{TentativeView}
use Rattle.rollback.specs.Chain.{chain_tip}
use Rattle.rollback.proofs.ChainLemmas.{tip_is_last}
use Rattle.rollback.proofs.chain.Chain.tip.Goals as goal

pub returns-in-Some : goal.returns-in-Some
returns-in-Some c =
    let there : slice_get c.self.inside.members.items (length c.self.inside.members.items - 1) ≡ Some c.in-Some.last.now =
    subst (λ (ts : List TentativeView). slice_get ts (length ts - 1) ≡ Some c.in-Some.last.now) c.deref.ensures.value (sym c.last.ensures.value ∙ ap option_copied c.in-Some.is) in
    let tip : c.in-Some.last.now.after ≡ chain_tip c.args.self.now = sym (tip_is_last c.self.inside.committed.state c.self.inside.members.items c.in-Some.last.now there) ∙ ap chain_tip c.self.view_is in
    rw (← tip) c.as_base.ensures
