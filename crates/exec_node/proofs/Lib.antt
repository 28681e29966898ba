pub mod OpenLemmas
mod LinkedLemmas
mod PlayedLemmas
pub mod RecordLemmas
mod StepLemmas
mod UnfitLemmas
mod UnsavedLemmas
