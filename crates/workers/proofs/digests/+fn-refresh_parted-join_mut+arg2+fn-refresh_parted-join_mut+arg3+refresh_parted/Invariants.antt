use Rattle.workers.proofs.digests.+fn-refresh_parted-join_mut+arg2+fn-refresh_parted-join_mut+arg3+refresh_parted.Given as goal

abbrev pub decreases-join_mut+arg2 : goal.decreases-join_mut+arg2
decreases-join_mut+arg2 g l = l.others

abbrev pub decreases-join_mut+arg3 : goal.decreases-join_mut+arg3
decreases-join_mut+arg3 g l = l.ours

abbrev pub decreases-refresh_parted : goal.decreases-refresh_parted
decreases-refresh_parted g l = l.threads
