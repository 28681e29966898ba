-- One line with a value.
use Rattle.std.specs.Prelude.{ℕ, List, [], ◌++◌, codes, decimal, Option, Some, None}
use Rattle.metrics.specs.declared.sample.Role.{Role}
use Rattle.metrics.specs.declared.sample.Role.TheVariants.{Executor, Verifier}
use Rattle.metrics.specs.declared.sample.Labels.{Labels}
use Rattle.metrics.specs.declared.sample.Labels.TheVariants as labels
use Rattle.metrics.specs.declared.sample.Suffix.{Suffix}
use Rattle.metrics.specs.declared.sample.Suffix.TheVariants as suffix
use Rattle.metrics.specs.declared.sample.Number.{Number}
use Rattle.metrics.specs.declared.sample.Number.TheVariants.{Whole, Micros}
use Rattle.metrics.specs.declared.sample.Sample.{Sample}
use Rattle.figures.specs.Kind.{kind_name}
use Rattle.figures.specs.Outcome.{outcome_name}
use Rattle.figures.specs.Refusal.{refusal_name}
use Rattle.metrics.specs.Metric.{metric_name}
use Rattle.metrics.specs.Number.{seconds_text}

abbrev pub role_name : Role → List ℕ
role_name Executor = codes "executor"
role_name Verifier = codes "verifier"

abbrev pub suffix_text : Suffix → List ℕ
suffix_text suffix.None = []
suffix_text suffix.Bucket = codes "_bucket"
suffix_text suffix.Sum = codes "_sum"
suffix_text suffix.Count = codes "_count"

abbrev pub bound_text : Option ℕ → List ℕ
bound_text (Some micros) = seconds_text micros
bound_text None = codes "+Inf"

abbrev pub labels_text : Labels → List ℕ
labels_text labels.None = []
labels_text (labels.Command k o) = codes "{command=\"" ++ kind_name k ++ codes "\",outcome=\"" ++ outcome_name o ++ codes "\"}"
labels_text (labels.Why refusal) = codes "{why=\"" ++ refusal_name refusal ++ codes "\"}"
labels_text (labels.Node role id) = codes "{role=\"" ++ role_name role ++ codes "\",id=\"" ++ decimal id ++ codes "\"}"
labels_text (labels.Folder number) = codes "{folder=\"" ++ decimal number ++ codes "\"}"
labels_text (labels.Bucket bound) = codes "{le=\"" ++ bound_text bound ++ codes "\"}"

abbrev pub number_text : Number → List ℕ
number_text (Whole n) = decimal n
number_text (Micros n) = seconds_text n

-- the name, the labels and the value
abbrev pub sample_text : Sample → List ℕ
sample_text s = metric_name s.metric ++ suffix_text s.suffix ++ labels_text s.labels ++ codes " " ++ number_text s.number ++ codes "\n"
