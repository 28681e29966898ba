use Rattle.std.proofs.Common.{◌≡◌, Vec, Global, Option, Some, None, sym, ap, subst}
use Rattle.std.specs.Prelude.{All, slice_index_or}
use Rattle.std.proofs.lemmas.Result.{IfOk-weaker}
use Rattle.data_folder.specs.declared.found_copy.FoundCopy.{FoundCopy}
use Rattle.data_folders.specs.declared.slot.FolderSlot.{FolderSlot}
use Rattle.data_folders.specs.Copies.{IsBounded, IsNewestRecord}
use Rattle.data_folders.proofs.CopyLemmas.{opened_bounded, found_at}
use Rattle.data_folders.proofs.opened.Opened.begin_at.Goals as goal

pub begin_with-requires-after_bounds : goal.begin_with-requires-after_bounds
begin_with-requires-after_bounds g c κs within =
    let here : slice_index_or c.args.self.finds.items c.args.at None ≡ Some c.in-Some.found =
    found_at c.args.self.finds.items c.into_parts-slots.result.1.items c.args.at c.in-Some.found (ap (λ (v : Vec (Option FoundCopy) Global). v.items) c.into_parts-slots.ensures.finds) c.requires (sym c.in-Some.ensures.value) in
    subst (λ (slots : Vec (FolderSlot g.row.F.Denot) Global). All (IsBounded g.F.SaveCopy.may_find c.in-Some.found.stamp) slots.items) (sym c.into_parts-slots.ensures.slots)
    (opened_bounded g.F.SaveCopy.may_find c.args.self.slots.items c.args.self.finds.items c.args.at c.in-Some.found c.args.self.pairs c.requires here)

pub returns-in-Some-clause-newest : goal.returns-in-Some-clause-newest
returns-in-Some-clause-newest g c =
    let here : slice_index_or c.args.self.finds.items c.args.at None ≡ Some c.in-Some.found =
    found_at c.args.self.finds.items c.into_parts-slots.result.1.items c.args.at c.in-Some.found (ap (λ (v : Vec (Option FoundCopy) Global). v.items) c.into_parts-slots.ensures.finds) c.requires (sym c.in-Some.ensures.value) in
    IfOk-weaker c.begin_with.result
    (λ begun. begun.1 ≡ c.in-Some.found.service)
    (λ begun. IsNewestRecord c.args.self.finds.items begun.1)
    (λ begun same. record { at = c.args.at; newest = c.requires; found = c.in-Some.found; there = here; is = sym same })
    c.begin_with.ensures.found
