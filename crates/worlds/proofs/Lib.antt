pub mod SlotLemmas
pub mod LeadLemmas
pub mod FirstLemmas
