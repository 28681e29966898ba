use Rattle.std.proofs.Common.{refl}
use Rattle.sessions.proofs.FreshLemmas.{is_next-insert}
use Rattle.sessions.proofs.laws.kept_request_is_not_fresh.Goals as goal

pub returns : goal.returns
returns c = λ sessions r reply. is_next-insert sessions r (record { number = r.number; reply = reply }) refl
