-- Why a text says no site.
use Rattle.std.specs.Prelude.{◌≡◌, ◌≢◌, ℕ, ◌+◌, ◌*◌, ◌<◌, ◌==◌, true, false, List, length, take, count_by, Option, Some, None, IsSome, IsUtf8, string_bytes}
use Rattle.std.specs.declared.net.socket_addr.SocketAddr.{SocketAddr}
use Rattle.toml.specs.Data.{Data, Members, get_member}
use Rattle.toml.specs.Parse.{parse_document}
use Rattle.toml.specs.Errors.{span_start}
use Rattle.site_file.specs.declared.limits.TheConstants.{MOST_SITE_BYTES, MOST_U, MOST_PARCEL_MIB, SITE_BYTES}
use Rattle.site_file.specs.declared.place.SiteKey.TheVariants as of_site
use Rattle.site_file.specs.declared.place.MemberKey.TheVariants as of_member
use Rattle.site_file.specs.declared.place.Place.{Place}
use Rattle.site_file.specs.declared.place.Place.TheVariants.{OfSite, OfMember}
use Rattle.site_file.specs.declared.fault.SiteFault.{SiteFault}
use Rattle.site_file.specs.declared.fault.SiteFault.TheVariants as fault
use Rattle.site_file.specs.Form.{IsHex, IsNumber, IsPath, IsAddress, AreAddresses, HasLength, most_proxies}
use Rattle.site_file.specs.Place.{member_at, table_of, value_at, SaysAt, is_required, IsThere, is_known}

-- the value says what it has to say at the place. Of proxies: with some u
abbrev pub FitsAt : Place → Data → Type 0
FitsAt (OfSite of_site.Site) value = (name : List ℕ) × IsHex SITE_BYTES value name
FitsAt (OfSite of_site.U) value = (n : ℕ) × IsNumber 0 MOST_U value n
FitsAt (OfSite of_site.Proxies) value = (u : ℕ) × (n : ℕ) × IsNumber 1 (most_proxies u) value n
FitsAt (OfSite of_site.Key) value = (path : List ℕ) × IsPath value path
FitsAt (OfSite of_site.ParcelMib) value = (n : ℕ) × IsNumber 1 MOST_PARCEL_MIB value n
FitsAt (OfSite of_site.Member) value = (n : ℕ) × HasLength value n
FitsAt (OfMember m of_member.Peer) value = (address : SocketAddr) × IsAddress value address
FitsAt (OfMember m of_member.Listen) value = (addresses : List SocketAddr) × AreAddresses value addresses
FitsAt (OfMember m of_member.Status) value = (address : SocketAddr) × IsAddress value address

-- the table of the file, or of this member, has a key that is not known
pub record IsUnknown (m : Option ℕ) (name : List ℕ) (document : Members) : Type 0 where
  pub member : IsThere m document
  pub table : Members
  pub there : table_of m document ≡ Some table
  pub key : IsSome (get_member name table)
  pub unknown : is_known m name ≡ false

-- nothing is at a place where something has to be
pub record IsMissing (place : Place) (document : Members) : Type 0 where
  pub member : IsThere (member_at place) document
  pub required : is_required place ≡ true
  pub nothing : value_at place document ≡ None

-- what is at the place does not fit
pub record IsBad (place : Place) (document : Members) : Type 0 where
  pub member : IsThere (member_at place) document
  pub value : Data
  pub there : value_at place document ≡ Some value
  pub unfit : ¬ FitsAt place value

-- no member has so many proxies with the file's u
pub record IsBadProxies (u : ℕ) (document : Members) : Type 0 where
  pub u_is : SaysAt (OfSite of_site.U) (IsNumber 0 MOST_U) document u
  pub value : Data
  pub there : value_at (OfSite of_site.Proxies) document ≡ Some value
  pub unfit : (n : ℕ) → ¬ IsNumber 1 (most_proxies u) value n

-- so many members are too few or too many with the file's u
pub record IsOtherCount (u members : ℕ) (document : Members) : Type 0 where
  pub u_is : SaysAt (OfSite of_site.U) (IsNumber 0 MOST_U) document u
  pub count : SaysAt (OfSite of_site.Member) HasLength document members
  pub other : members ≢ 2 * u + 1

-- two members have one address for their peers
pub record HaveSamePeer (m n : ℕ) (document : Members) : Type 0 where
  pub member : IsThere (Some n) document
  pub apart : m < n
  pub address : SocketAddr
  pub one : SaysAt (OfMember m of_member.Peer) IsAddress document address
  pub other : SaysAt (OfMember n of_member.Peer) IsAddress document address

-- why a document says no site
abbrev pub IsWhyIn : Members → SiteFault → Type 0
IsWhyIn document fault.NoMemory = Unit {0}
IsWhyIn document fault.TooLong = ⊥
IsWhyIn document (fault.NotToml line reason) = ⊥
IsWhyIn document (fault.Unknown m name) = IsUnknown m (string_bytes name) document
IsWhyIn document (fault.Missing place) = IsMissing place document
IsWhyIn document (fault.Bad place) = IsBad place document
IsWhyIn document (fault.BadProxies u) = IsBadProxies u document
IsWhyIn document (fault.MemberCount u members) = IsOtherCount u members document
IsWhyIn document (fault.SamePeer m n) = HaveSamePeer m n document

-- the line, from 1, in which a byte of the text is
abbrev pub line_at : List ℕ → ℕ → ℕ
line_at text start = count_by (λ b. b == 10) (take start text) + 1

-- a text is a document, and this is why it says no site
pub record IsInDocument (text : List ℕ) (why : SiteFault) : Type 0 where
  pub utf8 : IsUtf8 text
  pub document : Members
  pub parsed : parse_document text ≡ Some document
  pub reason : IsWhyIn document why

-- why a text says no site. Want of memory is no reason
abbrev pub IsWhy : List ℕ → SiteFault → Type 0
IsWhy text fault.NoMemory = Unit {0}
IsWhy text fault.TooLong = MOST_SITE_BYTES < length text
IsWhy text (fault.NotToml line reason) = (line ≡ line_at text (span_start reason)) × (IsUtf8 text → parse_document text ≡ None)
IsWhy text (fault.Unknown m name) = IsInDocument text (fault.Unknown m name)
IsWhy text (fault.Missing place) = IsInDocument text (fault.Missing place)
IsWhy text (fault.Bad place) = IsInDocument text (fault.Bad place)
IsWhy text (fault.BadProxies u) = IsInDocument text (fault.BadProxies u)
IsWhy text (fault.MemberCount u members) = IsInDocument text (fault.MemberCount u members)
IsWhy text (fault.SamePeer m n) = IsInDocument text (fault.SamePeer m n)
