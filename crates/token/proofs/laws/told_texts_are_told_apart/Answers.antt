use Rattle.std.proofs.Common.{◌≡◌, ℕ, ap}
use Rattle.wire.specs.FrontLaws.{head_of}
use Rattle.wire.specs.Item.{page_text}
use Rattle.wire.specs.Batch.{batch_text}
use Rattle.wire.specs.Session.{sessions_text}
use Rattle.wire.specs.Token.{inner_text, token_text}
use Rattle.token.specs.Told.{told_sessions_text}
use Rattle.token.proofs.laws.told_texts_are_told_apart.Goals as goal

pub returns-clause-page : goal.returns-clause-page
unfolding told_sessions_text page_text
returns-clause-page c = λ m page e. let marks : ◌≡◌ {A = ℕ} 7 0 = ap head_of e in cc

pub returns-clause-inner : goal.returns-clause-inner
unfolding told_sessions_text inner_text
returns-clause-inner c = λ m t e. let marks : ◌≡◌ {A = ℕ} 7 1 = ap head_of e in cc

pub returns-clause-token : goal.returns-clause-token
unfolding told_sessions_text token_text
returns-clause-token c = λ m t e. let marks : ◌≡◌ {A = ℕ} 7 2 = ap head_of e in cc

pub returns-clause-sessions : goal.returns-clause-sessions
unfolding told_sessions_text sessions_text
returns-clause-sessions c = λ m n e. let marks : ◌≡◌ {A = ℕ} 7 3 = ap head_of e in cc

pub returns-clause-batch : goal.returns-clause-batch
unfolding told_sessions_text batch_text
returns-clause-batch c = λ m b e. let marks : ◌≡◌ {A = ℕ} 7 4 = ap head_of e in cc
