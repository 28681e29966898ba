use Rattle.std.proofs.Common.{not, IsTrue, List, take, subst}
use Rattle.decrees.specs.declared.decree.Decree.{Decree}
use Rattle.decrees.specs.Standing.{is_log_from}
use Rattle.decrees.proofs.LogLemmas.{is_log_from-take, both_ways}
use Rattle.decrees.proofs.log.Log.standing_at.Goals as goal

pub unreachable-requires : goal.unreachable-requires
unreachable-requires c =
    let start = c.self.inside.start.standing in
    let all = c.self.inside.decrees.items in
    let bad : IsTrue (not (is_log_from start (take c.args.count c.deref.result.now))) = c.standing_of.ensures.none c.in-None.is in
    let here : IsTrue (not (is_log_from start (take c.args.count all))) = subst (λ (xs : List Decree). IsTrue (not (is_log_from start (take c.args.count xs)))) c.deref.ensures.value bad in
    both_ways (is_log_from start (take c.args.count all)) (is_log_from-take start all c.args.count c.self.invariant.0.is_log) here
