use denote.Exit.{no}
use denote.Param.Send.{param_send, arg_send}
use Rattle.data_folder.proofs.Crossing.{folder_send}
use Rattle.data_folder_tests.proofs.of_sites.start_with.Goals as goal

-- The threads that save take the folders.
pub begun-requires-send-F : goal.begun-requires-send-F
begun-requires-send-F g c κs within = param_send 0 _ (arg_send _ no _ (folder_send _ _ c.type_bounds.send-S))
