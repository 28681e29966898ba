use Rattle.std.proofs.Common.{◌≡◌, sym, ◌∙◌}
use Rattle.housekeeping.specs.declared.patience.Urge.TheVariants.{Wait, Again, Suspect}
use Rattle.service.proofs.TickLemmas.{calm_waits, urged_waits}
use Rattle.service.proofs.OwedLemmas.{sets_keeps}
use Rattle.service.proofs.ticking.tick_at.Goals as goal

pub returns-in-Wait-clause-after : goal.returns-in-Wait-clause-after
returns-in-Wait-clause-after c = calm_waits c.args.u c.args.seen c.args.at c.args.pool.now c.tick.new.self (sym c.tick.ensures.due ∙ c.in-Wait.is) c.tick.ensures.after

pub returns-in-Again-clause-after : goal.returns-in-Again-clause-after
returns-in-Again-clause-after c =
    urged_waits c.args.u c.args.seen c.args.at c.args.pool.now c.tick.new.self c.ask_again.new.pool
    (λ calm. let clash : Again ≡ Wait = sym c.in-Again.is ∙ (c.tick.ensures.due ∙ calm) in absurd (cc clash)) c.tick.ensures.after c.ask_again.ensures.after

pub returns-in-Suspect-clause-after : goal.returns-in-Suspect-clause-after
returns-in-Suspect-clause-after c =
    urged_waits c.args.u c.args.seen c.args.at c.args.pool.now c.tick.new.self c.ask_again-in-Suspect.new.pool
    (λ calm. let clash : Suspect ≡ Wait = sym c.in-Suspect.is ∙ (c.tick.ensures.due ∙ calm) in absurd (cc clash)) c.tick.ensures.after c.ask_again-in-Suspect.ensures.after

pub returns-in-Wait-clause-owed : goal.returns-in-Wait-clause-owed
returns-in-Wait-clause-owed c = sets_keeps c.args.pool.now c.tick.new.self c.args.at c.tick.ensures.sets

pub returns-in-Again-clause-owed : goal.returns-in-Again-clause-owed
returns-in-Again-clause-owed c = λ key number turn waited. c.ask_again.ensures.owed key number turn (sets_keeps c.args.pool.now c.tick.new.self c.args.at c.tick.ensures.sets key number turn waited)

pub returns-in-Suspect-clause-owed : goal.returns-in-Suspect-clause-owed
returns-in-Suspect-clause-owed c = λ key number turn waited. c.ask_again-in-Suspect.ensures.owed key number turn (sets_keeps c.args.pool.now c.tick.new.self c.args.at c.tick.ensures.sets key number turn waited)
