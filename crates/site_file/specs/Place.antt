-- Where in a site file a value is, and what is there. What a document has is said in the words of `toml`.
use Rattle.std.specs.Prelude.{◌≡◌, ℕ, ◌<◌, Bool, true, false, ◌||◌, List, codes, bytes_eq, Option, Some, None, IsSome, option_and_then}
use Rattle.toml.specs.Data.{Data, Members, get_member, at as item_at, as_table}
use Rattle.site_file.specs.declared.place.SiteKey.{SiteKey}
use Rattle.site_file.specs.declared.place.SiteKey.TheVariants as of_site
use Rattle.site_file.specs.declared.place.MemberKey.{MemberKey}
use Rattle.site_file.specs.declared.place.MemberKey.TheVariants as of_member
use Rattle.site_file.specs.declared.place.Place.{Place}
use Rattle.site_file.specs.declared.place.Place.TheVariants.{OfSite, OfMember}
use Rattle.site_file.specs.Form.{HasLength}

-- how the keys are written
abbrev pub site_key_name : SiteKey → List ℕ
site_key_name of_site.Site = codes "site"
site_key_name of_site.U = codes "u"
site_key_name of_site.Proxies = codes "proxies"
site_key_name of_site.Key = codes "key"
site_key_name of_site.ParcelMib = codes "parcel_mib"
site_key_name of_site.Member = codes "member"

abbrev pub member_key_name : MemberKey → List ℕ
member_key_name of_member.Peer = codes "peer"
member_key_name of_member.Listen = codes "listen"
member_key_name of_member.Status = codes "status"

abbrev pub name_at : Place → List ℕ
name_at (OfSite key) = site_key_name key
name_at (OfMember m key) = member_key_name key

-- the member that a place is of
abbrev pub member_at : Place → Option ℕ
member_at (OfSite key) = None
member_at (OfMember m key) = Some m

-- the table of the whole file, or of a member
abbrev pub table_of : Option ℕ → Members → Option Members
table_of None document = Some document
table_of (Some m) document = option_and_then as_table (option_and_then (item_at m) (get_member (codes "member") document))

abbrev pub value_at : Place → Members → Option Data
value_at place document = option_and_then (get_member (name_at place)) (table_of (member_at place) document)

-- the value at the place says x, by its form
pub record SaysAt {X : Type 0} (place : Place) (Form : Data → X → Type 0) (document : Members) (x : X) : Type 0 where
  pub value : Data
  pub there : value_at place document ≡ Some value
  pub says : Form value x

-- the same where the value may be left out
abbrev pub MaySayAt : {X : Type 0} → Place → (Data → X → Type 0) → Members → Option X → Type 0
MaySayAt place Form document None = value_at place document ≡ None
MaySayAt place Form document (Some x) = SaysAt place Form document x

-- all but the status port of a member has to be there
abbrev pub is_required : Place → Bool
is_required (OfSite key) = true
is_required (OfMember m of_member.Peer) = true
is_required (OfMember m of_member.Listen) = true
is_required (OfMember m of_member.Status) = false

-- the file has a member of this number
abbrev pub IsThere : Option ℕ → Members → Type 0
IsThere None document = Unit {0}
IsThere (Some m) document = (n : ℕ) × SaysAt (OfSite of_site.Member) HasLength document n × (m < n)

abbrev pub is_site_key : List ℕ → Bool
is_site_key name = ((((bytes_eq name (codes "site") || bytes_eq name (codes "u")) || bytes_eq name (codes "proxies")) || bytes_eq name (codes "key")) || bytes_eq name (codes "parcel_mib")) || bytes_eq name (codes "member")

abbrev pub is_member_key : List ℕ → Bool
is_member_key name = (bytes_eq name (codes "peer") || bytes_eq name (codes "listen")) || bytes_eq name (codes "status")

-- the file, or this member, may have a key of this name
abbrev pub is_known : Option ℕ → List ℕ → Bool
is_known None name = is_site_key name
is_known (Some m) name = is_member_key name

abbrev pub HasKnownKeys : Option ℕ → Members → Type 0
HasKnownKeys m document = (table : Members) (name : List ℕ) → table_of m document ≡ Some table → IsSome (get_member name table) → is_known m name ≡ true
