-- What of a site never changes.
use Rattle.std.specs.Prelude.{◌≡◌, ◌≢◌, ◌+◌, ◌*◌, length}
use Rattle.site_file.specs.declared.site.SiteFile.{SiteFile}
use Rattle.site_file.specs.declared.identity.SiteIdentity.{SiteIdentity}
use Rattle.site_file.specs.declared.identity.Changed.{Changed}
use Rattle.site_file.specs.declared.identity.Changed.TheVariants as changed

-- a file is of this site, with as many members
pub record IsSameSite (file : SiteFile) (saved : SiteIdentity) : Type 0 where
  pub site : file.site ≡ saved.site
  pub u : file.u ≡ saved.u
  pub proxies : file.proxies ≡ saved.proxies
  pub members : length file.members.items ≡ 2 * saved.u + 1

abbrev pub HasChanged : Changed → SiteFile → SiteIdentity → Type 0
HasChanged changed.Site file saved = file.site ≢ saved.site
HasChanged changed.U file saved = file.u ≢ saved.u
HasChanged changed.Proxies file saved = file.proxies ≢ saved.proxies
