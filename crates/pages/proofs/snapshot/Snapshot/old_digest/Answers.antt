use Rattle.std.proofs.Common.{arith}
use Rattle.token.specs.Merged.{lent}
use Rattle.token.proofs.MergeLemmas.{count-parts}
use Rattle.pages.specs.Old.{old_entries, part_of_old}
use Rattle.pages.proofs.snapshot.Snapshot.old_digest.Goals as goal

pub merged_digest-requires : goal.merged_digest-requires
merged_digest-requires c =
    omega (arith, c.requires.fits, count-parts part_of_old (old_entries c.args.self.now.items c.args.number) (lent c.old_parts.result) c.old_parts.ensures)

pub returns : goal.returns
returns c = c.merged_digest.ensures part_of_old (old_entries c.args.self.now.items c.args.number) c.old_parts.ensures
