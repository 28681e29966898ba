mod RowLemmas
mod LogLemmas
mod SortLemmas
mod WaitingLemmas
mod FitLemmas
mod OpenLemmas
mod SaveLemmas
mod TakenLemmas
