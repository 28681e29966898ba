mod LeavesLemmas
