use Rattle.std.proofs.Common.{[], arith}
use Rattle.decrees.specs.declared.decree.Decree.TheVariants.{Commit}
use Rattle.verifier.proofs.LetterLemmas.{decided_from-take}
use Rattle.verifier.proofs.letters.decided.Goals as goal

pub loop-decree-preserved : goal.loop-decree-preserved
loop-decree-preserved c =
    let more = decided_from-take c.args.id c.args.to c.args.from c.args.decrees.now c.loop-decree.decree-index (Commit 0 (record { 0 = [] })) c.loop-decree-test.true in
    record { placed = omega arith; told = cc (c.in_ok-push.ensures.items, more) }
