use denote.Exit.{no}
use denote.Param.Send.{param_send, arg_send, mut_send, shr_send}
use Rattle.std.proofs.alloc.Global.TheSendSync as global
use Rattle.service.proofs.Crossing.{record_send}
use Rattle.data_folders.proofs.Crossing.{copies_send, four_are_lent}
use Rattle.data_folders.proofs.copies.save_apart.Goals as goal

-- The other thread is lent the folders, the runtime, the allocator and the record.
pub join_mut-is_saved-requires-send-F : goal.join_mut-is_saved-requires-send-F
join_mut-is_saved-requires-send-F g c κs within =
    param_send 1 _ (arg_send _ no _ (four_are_lent _ _ _ _ _ (mut_send _ _ _ (copies_send _ _ c.type_bounds.send-F)) (shr_send _ _ _ c.type_bounds.sync-R) (shr_send _ _ _ global.the_sync) (mut_send _ _ _ record_send)))
