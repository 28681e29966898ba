use Rattle.std.proofs.Common.{[], refl, sym, ◌∙◌}
use Rattle.decrees.specs.declared.decree.Decree.TheVariants.{Commit}
use Rattle.decrees.proofs.LogLemmas.{stands_at_start, Stands-take, is_log_from-next}
use Rattle.decrees.proofs.log.standing_of.Goals as goal

pub loop-decree-init : goal.loop-decree-init
loop-decree-init c = record { keeps = stands_at_start c.args.start.now c.requires.begins; left = refl }

pub loop-decree-preserved : goal.loop-decree-preserved
loop-decree-preserved c =
    let xs = c.args.decrees.now in
    let passes = sym c.may_follow.ensures ∙ c.if-not-may_follow.false in
    let none = Commit 0 (record { 0 = [] }) in
    rw c.after-standing.ensures (record {
      keeps = Stands-take c.args.start.now xs c.loop-decree.standing c.loop-decree.decree-index none c.loop-decree-test.true c.loop-decree.invariant.keeps passes;
      left = c.loop-decree.invariant.left ∙ is_log_from-next c.loop-decree.standing xs c.loop-decree.decree-index none c.loop-decree-test.true passes;
    })
