use denote.Exit.{no}
use denote.Param.Send.{param_send, arg_send}
use Rattle.data_folder_tests.proofs.Crossing.{store_send}
use Rattle.data_folder_tests.proofs.of_sites.start.Goals as goal

-- The threads that save take stores of files in memory.
pub start_with-requires-send-S : goal.start_with-requires-send-S
start_with-requires-send-S g c κs within = param_send 0 _ (arg_send _ no _ (store_send _))
