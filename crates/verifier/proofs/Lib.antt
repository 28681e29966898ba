mod LetterLemmas
pub mod ViewLemmas
pub mod RecordsApart
pub mod RowLemmas
mod Rows
mod UnfitLemmas
mod StepLemmas
mod PlaceLemmas
mod RecordLemmas
