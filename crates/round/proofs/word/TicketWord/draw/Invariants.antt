use Rattle.round.proofs.word.TicketWord.draw.Given as goal

abbrev pub ghosts-draw_said : goal.ghosts-draw_said
ghosts-draw_said a = record { entry = record { page = a.number; caller = a.name; place = a.place; step = a.step.now; answer = a.answer.now } }
