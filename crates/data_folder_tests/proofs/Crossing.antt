-- A store over files in memory goes to the thread that saves in it.
use denote.RattleType.{RattleType}
use denote.Param.Send.{IsSend}
use Rattle.sqlite_disk.proofs.memory.Memory.TheSendSync as memory
use Rattle.sqlite_disk.proofs.fuse.Fuse.TheSendSync as fuse
use Rattle.sqlite_store.proofs.store.FileStore.TheSendSync as file_store
use Rattle.sqlite_disk.specs.declared.Disk as disk
use Rattle.sqlite_disk.specs.contracts.memory.Memory as of_memory
use Rattle.sqlite_disk.specs.contracts.fuse.Fuse as of_fuse
use Rattle.sqlite_store.specs.contracts.store.FileStore as of_store

-- a file in memory that may stop at some call
abbrev pub file : RattleType
file = of_fuse.the_row of_memory.the_row

pub store_send : (g : disk.Ghosts file.Denot) → IsSend (of_store.the_row file g)
store_send g = file_store.the_send file g (fuse.the_send of_memory.the_row memory.the_send)
