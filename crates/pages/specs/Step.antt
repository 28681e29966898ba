-- The key of a step, and the number of the page on which it is made.
use Rattle.std.specs.Prelude.{ℕ, List}
use Rattle.proto.specs.Update.{key_of_update}
use Rattle.item_steps.specs.declared.step.Step.{Step}
use Rattle.item_steps.specs.declared.step.Step.TheVariants as variant
use Rattle.pages.specs.Page.{page_number}

abbrev pub step_key : Step → List ℕ
step_key (variant.Read key) = key
step_key (variant.ReadAndTouch key exptime) = key
step_key (variant.Update update) = key_of_update update

abbrev pub step_page : Step → ℕ
step_page step = page_number (step_key step)
