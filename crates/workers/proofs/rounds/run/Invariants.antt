use Rattle.workers.proofs.rounds.run.Given as goal

abbrev pub ghosts-within : goal.ghosts-within
ghosts-within g a = record { table = a.word.table.shared.table_id; opening = a.pages; base = a.base; group = a.group.items; callers = a.callers }
