use Rattle.exec_lines.proofs.state.State.go_on.Goals as goal

pub returns-in-Done : goal.returns-in-Done
returns-in-Done c = rw c.in-Done.is c.complete.ensures
