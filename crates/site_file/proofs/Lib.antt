mod UnknownLemmas
mod FormLemmas
mod MemberLemmas
mod KeyTextLemmas
mod OneLemmas
mod RefusedLemmas
