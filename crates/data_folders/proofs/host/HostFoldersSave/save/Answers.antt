use denote.Exit.{no}
use denote.Param.Send.{param_send, arg_send}
use Rattle.data_folder.proofs.Crossing.{host_send}
use Rattle.data_folders.proofs.host.HostFoldersSave.save.Goals as goal

pub save-is_saved-requires-send-F : goal.save-is_saved-requires-send-F
save-is_saved-requires-send-F g c κs within = param_send 0 _ (arg_send _ no _ host_send)
