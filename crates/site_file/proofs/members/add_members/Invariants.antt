use Rattle.std.proofs.Common.{◌≡◌, length}
use Rattle.toml.specs.View.{table_view}
use Rattle.site_file.specs.Site.{AreSiteMembers}
use Rattle.site_file.proofs.members.add_members.Given as goal

abbrev pub invariant-loop-at : goal.invariant-loop-at
invariant-loop-at l = record {
  are : AreSiteMembers (table_view l.document) l.members.items;
  count : length l.members.items ≡ l.at;
}
