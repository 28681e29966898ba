use Rattle.std.proofs.Common.{◌∙◌, List, ◌++◌, [], ◌∷◌, Option, Some, ap, sym, subst}
use Rattle.std.specs.List.{AllZip}
use Rattle.service.specs.declared.save_fault.SaveFault.TheVariants as cause
use Rattle.data_folder.specs.declared.found_copy.FoundCopy.{FoundCopy}
use Rattle.data_folders.specs.declared.slot.FolderSlot.{FolderSlot}
use Rattle.data_folders.specs.Copies.{OpensAs}
use Rattle.data_folders.specs.CopyItems.{OpensItems}
use Rattle.data_folders.proofs.CopyLemmas.{pairs_push}
use Rattle.data_folders.proofs.opened.Opened.push.Goals as goal

pub invariant_of-self-2 : goal.invariant_of-self-2
invariant_of-self-2 g c =
    let slot : FolderSlot g.row.F.Denot = record { copy = c.args.copy; fault = Some cause.Disk; made = 0; failed = 0 } in
    let slots = c.push_reserved.ensures.items ∙ ap (λ (l : List (FolderSlot g.row.F.Denot)). l ++ slot ∷ []) c.in_ok-reserve.ensures.items in
    let finds = c.push_reserved-2.ensures.items ∙ ap (λ (l : List (Option FoundCopy)). l ++ c.args.found ∷ []) c.in_ok-reserve-2.ensures.items in
    record {
      pairs = subst (λ (both : List (FolderSlot g.row.F.Denot) × List (Option FoundCopy)). ∥ AllZip (OpensAs g.F.SaveCopy.may_find) both.0 both.1 ∥₁) (λ i. (sym slots i, sym finds i))
          (pairs_push (OpensAs g.F.SaveCopy.may_find) c.args.self.now.slots.items c.args.self.now.finds.items slot c.args.found c.args.self.now.pairs c.requires.finds);
      items = subst (λ (both : List (FolderSlot g.row.F.Denot) × List (Option FoundCopy)). ∥ AllZip (OpensItems g.F.SaveCopy.may_leave g.F.SaveCopy.has_items) both.0 both.1 ∥₁) (λ i. (sym slots i, sym finds i))
          (pairs_push (OpensItems g.F.SaveCopy.may_leave g.F.SaveCopy.has_items) c.args.self.now.slots.items c.args.self.now.finds.items slot c.args.found c.args.self.now.items c.requires.items);
    }
