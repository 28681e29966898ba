pub mod KeyLemmas
pub mod JoinedLemmas
pub mod PartLemmas
pub mod StateLemmas
mod LongLemmas
mod StillLemmas
mod GroupLemmas
pub mod PageLemmas
pub mod CountLemmas
mod DueLemmas
pub mod OwnLemmas
pub mod EffectLemmas
pub mod OtherLemmas
mod NodeLemmas
mod TreeLemmas
pub mod FormLemmas
pub mod OldLemmas
pub mod GivenLemmas
pub mod RecordLemmas
pub mod Crossing
pub mod DifferLemmas
