use Rattle.seals.proofs.LawLemmas.{piece_is_told, handshake_is_told}
use Rattle.seals.proofs.laws.texts_tell_what_is_tagged.Goals as goal

pub returns-clause-piece : goal.returns-clause-piece
returns-clause-piece c = piece_is_told

pub returns-clause-handshake : goal.returns-clause-handshake
returns-clause-handshake c = handshake_is_told
