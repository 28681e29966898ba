-- A folder goes to the thread of its service, and is lent to the threads that save.
use denote.RattleType.{RattleType}
use denote.Struct.Declared.{shape}
use denote.Param.Send.{IsSend, IsSync, sendable, recorded_send, recorded_sync, struct_send, struct_sync}
use Rattle.std.proofs.Crossing.{crosses}
use Rattle.std.proofs.alloc.Global.TheSendSync as global
use Rattle.std.proofs.option.Option.TheSendSync as option
use Rattle.std.proofs.sync.Arc.TheSendSync as arc
use Rattle.std.proofs.vec.Vec.TheSendSync as vec
use Rattle.base.proofs.text.Text.TheSendSync as text
use Rattle.base.proofs.entry.Entry.TheSendSync as entry
use Rattle.proto.proofs.key.Key.TheSendSync as key
use Rattle.proto.proofs.block.Block.TheSendSync as block
use Rattle.items.proofs.item.Item.TheSendSync as item
use Rattle.wire.proofs.counted.Counted.TheSendSync as counted
use Rattle.ensemble.proofs.Crossing.{state_send, state_sync}
use Rattle.shelf.proofs.waiting.WaitingChanges.TheSendSync as waiting
use Rattle.sqlite_store.proofs.store.FileStore.TheSendSync as file_store
use Rattle.sqlite_disk.proofs.modelled.Modelled.TheSendSync as modelled
use Rattle.sqlite_disk.proofs.start.Unknown.TheSendSync as unknown
use Rattle.sqlite_disk.specs.contracts.start.Unknown as start
use Rattle.sqlite_std_file.specs.contracts.host.Host as file
use Rattle.unsynced.proofs.OptionalSync.TheSendSync as optional
use Rattle.sqlite_trees.specs.declared.store.Store as store
use Rattle.row_store.specs.contracts.rows.RowStore as rows
use Rattle.shelf.specs.contracts.shelf.Shelf as shelf
use Rattle.data_folder.specs.contracts.folder.DataFolder as folder
use Rattle.data_folder.specs.contracts.host.HostFolder as host
use Rattle.data_folder.specs.contracts.stored_record.StoredRecord as stored

ruleset parts = (
  text.the_send,
  entry.the_send,
  entry.the_sync,
  key.the_send,
  key.the_sync,
  block.the_send,
  block.the_sync,
  item.the_field_send,
  item.the_field_sync,
  item.the_send,
  item.the_sync,
  counted.the_send,
  arc.the_send,
  arc.the_sync,
  vec.the_send,
  vec.the_sync,
  option.the_field_send,
  option.the_field_sync,
  option.the_send,
  option.the_sync,
  global.the_field_send,
  global.the_field_sync,
  global.the_send,
  global.the_sync,
  crosses,
)

rows_send : (T : RattleType) (g : store.Ghosts T.Denot) → IsSend T → IsSend (rows.the_field T g).row
rows_send T g s = struct_send (shape (rows.the_type T g)) (s, ((search (parts, sendable)), tt))

shelf_send : (T : RattleType) (g : store.Ghosts T.Denot) → IsSend T → IsSend (shelf.the_field T g).row
shelf_send T g s = struct_send (shape (shelf.the_type T g)) (rows_send T g s, ((search (waiting.the_field_send, parts, sendable) depth 60 fits 20000), tt))

folder_field : (T : RattleType) (g : store.Ghosts T.Denot) → IsSend T → IsSend (folder.the_field T g).row
folder_field T g s = struct_send (shape (folder.the_type T g)) (shelf_send T g s, (state_send, ((search (crosses, sendable)), tt)))

-- If its store may.
pub folder_send : (T : RattleType) (g : store.Ghosts T.Denot) → IsSend T → IsSend (folder.the_row T g)
folder_send T g s = recorded_send _ _ _ (folder.the_type T g).to_one (folder_field T g s)

start_send : IsSend start.the_row
start_send = search (unknown.the_send, crosses, sendable) depth 60 fits 20000

file_send : IsSend file.the_row
file_send = search (crosses, sendable) depth 60 fits 20000

host_field : IsSend host.the_field.row
host_field = struct_send (shape host.the_type) ((search (folder_field, file_store.the_field_send, file_store.the_send, optional.the_send, modelled.the_send, file_send, start_send, crosses, sendable) depth 60 fits 20000), tt)

-- A folder of the host may.
pub host_send : IsSend host.the_row
host_send = recorded_send _ _ _ host.the_type.to_one host_field

stored_field : IsSync stored.the_field.row
stored_field = struct_sync (shape stored.the_type) ((search (parts, sendable) depth 60 fits 20000), (state_sync, tt))

-- Threads that save share what is stored.
pub stored_sync : IsSync stored.the_row
stored_sync = recorded_sync _ _ _ stored.the_type.to_one stored_field
