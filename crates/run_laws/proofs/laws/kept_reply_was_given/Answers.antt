use Rattle.run_laws.proofs.Replies.{kept_was_given}
use Rattle.run_laws.proofs.laws.kept_reply_was_given.Goals as goal

pub returns : goal.returns
returns c = kept_was_given
