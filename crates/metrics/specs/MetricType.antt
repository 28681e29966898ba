-- The types of metrics.
use Rattle.std.specs.Prelude.{ℕ, List, codes}
use Rattle.metrics.specs.declared.metric_type.MetricType.{MetricType}
use Rattle.metrics.specs.declared.metric_type.MetricType.TheVariants.{Counter, Gauge, Histogram}

abbrev pub type_name : MetricType → List ℕ
type_name Counter = codes "counter"
type_name Gauge = codes "gauge"
type_name Histogram = codes "histogram"
