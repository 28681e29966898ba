use denote.Param.Send.{IsSync, param_sync, arg_sync, shr_sync}
use denote.Exit.{no}
use denote.Param.{param}
use Rattle.std.proofs.alloc.Global.TheSendSync as global
use Rattle.round.specs.contracts.round.Round as round
use Rattle.round.proofs.Crossing.{round_sync}
use Rattle.workers.proofs.Shared.{four_are_lent}
use Rattle.workers.proofs.rounds.work.Goals as goal

-- The closure lends the runtime, the allocator, the round and the gate.
pub for_each_mut-requires-sync-F : goal.for_each_mut-requires-sync-F
for_each_mut-requires-sync-F g c κs within =
    let of_runtime : IsSync (param 1 g.row.R) = c.type_bounds.sync-R in
    let of_gate : IsSync (param 2 g.row.G) = c.type_bounds.sync-G in
    let of_round : IsSync (round.the_row (param 0 g.row.J) g.J.Room) = round_sync (param 0 g.row.J) g.J.Room c.type_bounds.send-J c.type_bounds.sync-J in
    param_sync 2 _ (arg_sync _ no _ (four_are_lent _ _ _ _ _ (shr_sync _ _ _ of_runtime) (shr_sync _ _ _ global.the_sync) (shr_sync _ _ _ of_round) (shr_sync _ _ _ of_gate)))
