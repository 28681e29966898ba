use Rattle.std.proofs.Common.{refl}
use Rattle.round.proofs.Keeps.{begins}
use Rattle.round.proofs.word.TicketWord.open.Goals as goal

pub of_words-requires : goal.of_words-requires
of_words-requires c = begins _ refl
