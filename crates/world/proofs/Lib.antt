mod ClientLemmas
mod FedLemmas
mod WorkLemmas
mod HistoryLemmas
