use Rattle.std.proofs.Common.{Vec, Global, subst, sym}
use Rattle.std.specs.Prelude.{All}
use Rattle.data_folders.specs.declared.slot.FolderSlot.{FolderSlot}
use Rattle.data_folders.specs.Copies.{IsBounded}
use Rattle.data_folders.proofs.CopyLemmas.{empty_bounded}
use Rattle.data_folders.proofs.opened.Opened.begin_empty.Goals as goal

pub new-requires : goal.new-requires
new-requires g c =
    subst (λ (slots : Vec (FolderSlot g.row.F.Denot) Global). All (IsBounded g.F.SaveCopy.may_find (record { start = 1; save = 0 })) slots.items) (sym c.into_parts-slots.ensures.slots)
    (empty_bounded g.F.SaveCopy.may_find c.args.self.slots.items c.args.self.finds.items (record { start = 1; save = 0 }) c.args.self.pairs c.requires)
