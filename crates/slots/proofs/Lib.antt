mod StepLemmas
mod RunLemmas
