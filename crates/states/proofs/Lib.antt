pub mod StateLemmas
pub mod FollowedLemmas
pub mod PageTextLemmas
pub mod EntryLemmas
pub mod RecordLemmas
pub mod OldRecordLemmas
pub mod OldStateLemmas
pub mod VersionLemmas
