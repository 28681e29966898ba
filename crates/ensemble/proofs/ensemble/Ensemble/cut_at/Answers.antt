use Rattle.ensemble.specs.Ensemble.{EnsembleView, first_found}
use Rattle.ensemble.specs.Process.{ensemble_after}
use Rattle.ensemble.proofs.Ending.{goes_on_after}
use Rattle.ensemble.proofs.Continuing.{still_now}
use Rattle.ensemble.proofs.Going.{cut_goes}
use Rattle.std.proofs.Common.{◌≡◌, sym, subst}
use Rattle.ensemble.specs.Nodes.{size_of}
use Rattle.ensemble.specs.Moments.{IsNow}
use Rattle.ensemble.proofs.Sizes.{host_size}
use Rattle.ensemble.proofs.Collecting.{host_waits, settles_keeps}
use Rattle.ensemble.specs.Calls.{AllCollected}
use Rattle.exec_lines.specs.declared.input.Input.TheVariants.{Cut}
use Rattle.ensemble.proofs.ensemble.Ensemble.cut_at.Goals as goal

pub invariant_of-self : goal.invariant_of-self
invariant_of-self c =
    let old : EnsembleView = record { nodes = c.self.inside.nodes; asked = c.self.inside.asked.items; answered = c.self.inside.answered.items; order = c.self.inside.order.items; refused = 0; found = first_found c.self.inside.found.items } in
    let now : IsNow old.order c.args.moment = subst (λ (e : EnsembleView). IsNow e.order c.args.moment) (sym c.self.view_is) c.requires in
    goes_on_after old.found old (record old { nodes = c.cut.new.self }) (λ before h. cut_goes (ensemble_after before old) c.cut.new.self h c.args.id c.args.moment (still_now before.order old.order c.args.moment now) c.cut.ensures.moves) c.self.invariant

pub returns-clause-size : goal.returns-clause-size
returns-clause-size c = subst (λ (e : EnsembleView). size_of c.cut.new.self ≡ size_of e.nodes) c.self.view_is (host_size _ c.args.id c.self.inside.nodes c.cut.new.self c.cut.ensures.moves)

pub returns-clause-waits : goal.returns-clause-waits
returns-clause-waits c = subst (λ (e : EnsembleView). AllCollected e.nodes → AllCollected c.cut.new.self) c.self.view_is (host_waits _ (settles_keeps (Cut c.args.moment)) c.args.id c.self.inside.nodes c.cut.new.self c.cut.ensures.moves)
