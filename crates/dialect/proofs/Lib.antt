mod RunLemmas
mod MetaLemmas
mod MeaningLemmas
mod PieceLemmas
mod StageLemmas
mod NoreplyLemmas
mod QuietLemmas
mod RefusalLemmas
mod ManyLemmas
mod ProfileLemmas
mod ProfileLineLemmas
pub mod SpellsLemmas
