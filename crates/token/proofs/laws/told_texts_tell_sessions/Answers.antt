use Rattle.token.proofs.ToldLaws.{tells_sessions}
use Rattle.token.proofs.laws.told_texts_tell_sessions.Goals as goal

pub returns : goal.returns
returns c = tells_sessions
