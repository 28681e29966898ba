use Rattle.std.proofs.Common.{refl}
use Rattle.pages.specs.Step.{step_page}
use Rattle.pages.proofs.EffectLemmas.{effect-answer, effect-items, effect-pages}
use Rattle.pages.proofs.laws.steps_are_on_one_page.Goals as goal

pub returns-clause-answer : goal.returns-clause-answer
returns-clause-answer c = λ pages m step place are here. effect-answer pages (step_page step) m step place are refl here

pub returns-clause-items : goal.returns-clause-items
returns-clause-items c = λ pages m step place are here. effect-items pages (step_page step) m step place are refl here

pub returns-clause-pages : goal.returns-clause-pages
returns-clause-pages c = λ pages m step place are here. effect-pages pages (step_page step) m step place are refl here
