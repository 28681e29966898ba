-- No text is refused for a reason and says something, and none says two things.
use Rattle.std.specs.Prelude.{◌≡◌, ◌≢◌, ℕ, List, length, slice_get, Some, string_bytes}
use Rattle.site_file.specs.declared.site.SiteMember.{SiteMember}
use Rattle.site_file.specs.declared.site.SiteFile.{SiteFile}
use Rattle.site_file.specs.declared.fault.SiteFault.{SiteFault}
use Rattle.site_file.specs.declared.fault.SiteFault.TheVariants.{NoMemory}
use Rattle.site_file.specs.declared.key_file.KeyFile.{KeyFile}
use Rattle.site_file.specs.declared.key_file.KeyFault.{KeyFault}
use Rattle.site_file.specs.Site.{SaysSite}
use Rattle.site_file.specs.Fault.{IsWhy}
use Rattle.site_file.specs.KeyText.{IsKeyText, IsKeyFault}

-- both say the same of a member
pub record AreSameMember (one other : SiteMember) : Type 0 where
  pub peer : one.peer ≡ other.peer
  pub listen : one.listen.items ≡ other.listen.items
  pub status : one.status ≡ other.status

-- both say the same of a site
pub record AreSameFile (one other : SiteFile) : Type 0 where
  pub site : one.site ≡ other.site
  pub u : one.u ≡ other.u
  pub proxies : one.proxies ≡ other.proxies
  pub key : string_bytes one.key ≡ string_bytes other.key
  pub parcel_mib : one.parcel_mib ≡ other.parcel_mib
  pub count : length one.members.items ≡ length other.members.items
  pub members : (m : ℕ) (a b : SiteMember) → slice_get one.members.items m ≡ Some a → slice_get other.members.items m ≡ Some b → AreSameMember a b

abbrev pub RefusedSaysNone : Type 0
RefusedSaysNone = (text : List ℕ) (why : SiteFault) (file : SiteFile) → why ≢ NoMemory → IsWhy text why → ¬ SaysSite text file

abbrev pub SaysOne : Type 0
SaysOne = (text : List ℕ) (one other : SiteFile) → SaysSite text one → SaysSite text other → AreSameFile one other

abbrev pub RefusedHasNoKeys : Type 0
RefusedHasNoKeys = (text : List ℕ) (why : KeyFault) (keys : KeyFile) → IsKeyFault text why → ¬ IsKeyText text keys

abbrev pub KeysAreOne : Type 0
KeysAreOne = (text : List ℕ) (one other : KeyFile) → IsKeyText text one → IsKeyText text other → (one.first ≡ other.first) × (one.second ≡ other.second)
