use Rattle.std.proofs.Common.{[], ◌∷◌, ◌+◌, ◌*◌, refl, arith}
use Rattle.token.specs.declared.tree.TheConstants.{OLD_PAGES}
use Rattle.token.proofs.MergeLemmas.{count-parts}
use Rattle.pages.specs.Page.{page_entries}
use Rattle.pages.specs.Old.{old_entries, part_of_old}
use Rattle.pages.proofs.OldLemmas.{old-parts}
use Rattle.pages.proofs.snapshot.Snapshot.old_len.Goals as goal

pub returns : goal.returns
returns c =
    let m = c.args.self.now.items in
    let n = c.args.number in
    let are = old-parts m n _ _ _ _ c.requires refl refl refl refl in
    let all = count-parts part_of_old (old_entries m n) (page_entries m n ∷ page_entries m (n + OLD_PAGES) ∷ page_entries m (n + 2 * OLD_PAGES) ∷ page_entries m (n + 3 * OLD_PAGES) ∷ []) are in
    omega (arith, all, c.len.ensures.len, c.len-2.ensures.len, c.len-3.ensures.len, c.len-4.ensures.len)
