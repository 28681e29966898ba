-- Folders of the host go to the thread of their service, and are lent to those that save.
use mathlib.Core.List.{[], ◌∷◌}
use mir.Syntax.{Sym}
use denote.RattleType.{RattleType}
use denote.Struct.Declared.{shape}
use denote.Struct.Tuple.{TupleAt, type_at}
use denote.Param.Send.{IsSend, sendable, recorded_send, struct_send}
use Rattle.std.proofs.Crossing.{crosses}
use Rattle.std.proofs.alloc.Global.TheSendSync as global
use Rattle.std.proofs.option.Option.TheSendSync as option
use Rattle.std.proofs.vec.Vec.TheSendSync as vec
use Rattle.folders.proofs.stamp.SaveStamp.TheSendSync as stamp
use Rattle.service.proofs.save_fault.SaveFault.TheSendSync as fault
use Rattle.data_folder.specs.declared.save_copy.SaveCopy as saves
use Rattle.data_folder.proofs.Crossing.{host_send}
use Rattle.std.proofs.sync.Arc.TheSendSync as arc
use Rattle.data_folders.proofs.counts.FolderCounts.TheSendSync as counts
use Rattle.data_folders.proofs.slot.FolderSlot.TheSendSync as slot
use Rattle.std.specs.contracts.vec.Vec as vec_row
use Rattle.std.specs.contracts.alloc.Global as global_row
use Rattle.std.specs.contracts.impls.GlobalAllocator.TheImpl as global_ghosts
use Rattle.data_folders.specs.contracts.slot.FolderSlot as slot_row
use Rattle.data_folders.specs.contracts.copies.Copies as copies
use Rattle.data_folders.specs.contracts.host.HostFolders as folders

ruleset parts = (
  slot.the_field_send,
  slot.the_send,
  stamp.the_field_send,
  stamp.the_send,
  fault.the_field_send,
  fault.the_send,
  vec.the_send,
  option.the_field_send,
  option.the_send,
  global.the_field_send,
  global.the_send,
  crosses,
)

slots_send : (F : RattleType) → IsSend F → IsSend (vec_row.the_row (slot_row.the_row F) global_row.the_row global_ghosts.ghosts)
slots_send F s = vec.the_send (slot_row.the_row F) global_row.the_row global_ghosts.ghosts (slot.the_send F s) (search (parts, sendable)) (search (parts, sendable))

copies_field : (F : RattleType) (g : saves.Ghosts F.Denot) → IsSend F → IsSend (copies.the_field F g).row
copies_field F g s = struct_send (shape (copies.the_type F g)) (slots_send F s, ((search sendable), ((search (parts, sendable) depth 60 fits 20000), ((search (parts, sendable) depth 60 fits 20000), ((search (parts, sendable) depth 60 fits 20000), tt)))))

-- If each folder may.
pub copies_send : (F : RattleType) (g : saves.Ghosts F.Denot) → IsSend F → IsSend (copies.the_row F g)
copies_send F g s = recorded_send _ _ _ (copies.the_type F g).to_one (copies_field F g s)

pub folders_send : IsSend folders.the_row
folders_send = search (copies_send, host_send, arc.the_send, counts.the_send, counts.the_sync, parts, sendable) depth 60 fits 20000

-- what a closure lends to another thread, if each thing may go there
pub four_are_lent : (name : Sym) (A B C D : RattleType) → IsSend A → IsSend B → IsSend C → IsSend D → IsSend (TupleAt name (A ∷ B ∷ C ∷ D ∷ []))
four_are_lent name A B C D a b c d =
    let lent = type_at name (A ∷ B ∷ C ∷ D ∷ []) in
    recorded_send _ _ _ lent.to_one (struct_send (shape lent) (a, (b, (c, (d, tt)))))
