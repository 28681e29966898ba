pub mod Families
pub mod Metric
pub mod MetricType
pub mod Number
pub mod Plain
pub mod Sample
