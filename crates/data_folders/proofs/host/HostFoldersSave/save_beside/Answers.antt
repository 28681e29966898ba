use denote.Exit.{no}
use denote.Param.Send.{param_send, arg_send}
use Rattle.data_folder.proofs.Crossing.{host_send}
use Rattle.data_folders.proofs.host.HostFoldersSave.save_beside.Goals as goal

-- The threads that save are lent the folders.
pub save_apart-is_saved-requires-send-F : goal.save_apart-is_saved-requires-send-F
save_apart-is_saved-requires-send-F g c κs within = param_send 0 _ (arg_send _ no _ host_send)
