use Rattle.std.proofs.Common.{rules}
use Rattle.round.proofs.Keeps.{learns_as}
use Rattle.round.proofs.word.TicketWord.learn.Goals as goal

pub load-requires : goal.load-requires
load-requires c = (search rules, search rules, learns_as _ _ _ c.requires.token.1)
