use Rattle.std.proofs.Common.{sym, ◌∙◌}
use Rattle.exec_lines.proofs.LineLemmas.{executor_unheard}
use Rattle.exec_lines.proofs.state.State.from_executor.Goals as goal

pub returns-in-Parcel-clause-done : goal.returns-in-Parcel-clause-done
returns-in-Parcel-clause-done c = rw c.in-Parcel.is c.on_parcel.ensures.done

pub returns-clause-done : goal.returns-clause-done
returns-clause-done c =
    (λ i. record { state = c.args.self.now; saves = c.nothing.ensures.saves i; letters = c.nothing.ensures.letters i })
    ∙ sym (executor_unheard c.args.u c.args.id c.args.self.now c.args.from c.args.body c.in_default.not-Order c.in_default.not-Need c.in_default.not-Parcel)
