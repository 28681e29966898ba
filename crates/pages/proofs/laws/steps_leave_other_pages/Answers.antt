use Rattle.pages.proofs.OtherLemmas.{step-elsewhere, order-elsewhere, interleaved-covers, more-beside}
use Rattle.pages.proofs.laws.steps_leave_other_pages.Goals as goal

pub returns-clause-step : goal.returns-clause-step
returns-clause-step c = step-elsewhere

pub returns-clause-order : goal.returns-clause-order
returns-clause-order c = order-elsewhere

pub returns-clause-interleaved : goal.returns-clause-interleaved
returns-clause-interleaved c = interleaved-covers

pub returns-clause-more : goal.returns-clause-more
returns-clause-more c = more-beside
