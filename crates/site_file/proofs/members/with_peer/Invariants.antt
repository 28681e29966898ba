use Rattle.std.proofs.Common.{◌≡◌, ◌≢◌, ℕ, ◌<◌, Some}
use Rattle.std.specs.Prelude.{slice_get}
use Rattle.site_file.specs.declared.site.SiteMember.{SiteMember}
use Rattle.site_file.proofs.members.with_peer.Given as goal

abbrev pub invariant-loop-at : goal.invariant-loop-at
invariant-loop-at l = (k : ℕ) → k < l.at → (member : SiteMember) → slice_get l.members k ≡ Some member → member.peer ≢ l.peer
