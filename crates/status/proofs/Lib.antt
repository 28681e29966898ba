pub mod FloatLemmas
