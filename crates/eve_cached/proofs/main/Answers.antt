use denote.Exit.{no}
use denote.Param.Send.{param_send, arg_send}
use Rattle.data_folders.proofs.Crossing.{folders_send}
use Rattle.eve_cached.proofs.main.Goals as goal

-- The thread that works takes the folder.
pub run-requires-in-Ok-In-send-S : goal.run-requires-in-Ok-In-send-S
run-requires-in-Ok-In-send-S g c κs = param_send 1 _ (arg_send _ no _ folders_send)
