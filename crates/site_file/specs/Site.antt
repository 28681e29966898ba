-- What a text says of a site.
use Rattle.std.specs.Prelude.{◌≡◌, ◌≢◌, ℕ, ◌+◌, ◌*◌, ◌<◌, ◌≤◌, List, length, slice_get, Some, None, IsUtf8, string_bytes}
use Rattle.toml.specs.Data.{Members}
use Rattle.toml.specs.Parse.{parse_document}
use Rattle.site_file.specs.declared.limits.TheConstants.{MOST_SITE_BYTES, MOST_U, MOST_PARCEL_MIB, SITE_BYTES}
use Rattle.site_file.specs.declared.place.SiteKey.TheVariants as of_site
use Rattle.site_file.specs.declared.place.MemberKey.TheVariants as of_member
use Rattle.site_file.specs.declared.place.Place.TheVariants.{OfSite, OfMember}
use Rattle.site_file.specs.declared.site.SiteMember.{SiteMember}
use Rattle.site_file.specs.declared.site.SiteFile.{SiteFile}
use Rattle.site_file.specs.Form.{IsHex, IsNumber, IsPath, IsAddress, AreAddresses, HasLength, most_proxies}
use Rattle.site_file.specs.Place.{SaysAt, MaySayAt, HasKnownKeys}

-- a document says this of its member m
pub record IsMemberSaid (m : ℕ) (document : Members) (member : SiteMember) : Type 0 where
  pub known : HasKnownKeys (Some m) document
  pub peer : SaysAt (OfMember m of_member.Peer) IsAddress document member.peer
  pub listen : SaysAt (OfMember m of_member.Listen) AreAddresses document member.listen.items
  pub status : MaySayAt (OfMember m of_member.Status) IsAddress document member.status

-- it says this of its first members, and no two of them have the same address for their peers
pub record AreSiteMembers (document : Members) (members : List SiteMember) : Type 0 where
  pub each : (m : ℕ) (member : SiteMember) → slice_get members m ≡ Some member → IsMemberSaid m document member
  pub apart : (m n : ℕ) (one other : SiteMember) → m < n → slice_get members m ≡ Some one → slice_get members n ≡ Some other → one.peer ≢ other.peer

-- a document says this of a site
pub record IsSaidBy (document : Members) (file : SiteFile) : Type 0 where
  pub known : HasKnownKeys None document
  pub site : SaysAt (OfSite of_site.Site) (IsHex SITE_BYTES) document file.site
  pub u : SaysAt (OfSite of_site.U) (IsNumber 0 MOST_U) document file.u
  pub proxies : SaysAt (OfSite of_site.Proxies) (IsNumber 1 (most_proxies file.u)) document file.proxies
  pub key : SaysAt (OfSite of_site.Key) IsPath document (string_bytes file.key)
  pub parcel_mib : SaysAt (OfSite of_site.ParcelMib) (IsNumber 1 MOST_PARCEL_MIB) document file.parcel_mib
  pub count : SaysAt (OfSite of_site.Member) HasLength document (length file.members.items)
  pub whole : length file.members.items ≡ 2 * file.u + 1
  pub members : AreSiteMembers document file.members.items

-- the bytes of a site file say this
pub record SaysSite (text : List ℕ) (file : SiteFile) : Type 0 where
  pub short : length text ≤ MOST_SITE_BYTES
  pub utf8 : IsUtf8 text
  pub document : Members
  pub parsed : parse_document text ≡ Some document
  pub said : IsSaidBy document file
