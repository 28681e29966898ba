pub mod FreshLemmas
pub mod LimitLemmas
