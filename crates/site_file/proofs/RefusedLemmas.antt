-- A text that is refused for a reason says nothing.
use Rattle.std.proofs.Common.{◌≡◌, ◌≢◌, ℕ, ◌+◌, ◌*◌, ◌<◌, true, false, List, length, Option, Some, None, refl, sym, ap, ◌∙◌, subst, arith, string_bytes}
use Rattle.std.specs.Prelude.{slice_get}
use Rattle.std.specs.declared.net.socket_addr.SocketAddr.{SocketAddr}
use Rattle.std.proofs.lemmas.Option.{same_Some, none-some}
use Rattle.toml.specs.Data.{Data, Members}
use Rattle.site_file.specs.declared.limits.TheConstants.{MOST_U, MOST_PARCEL_MIB, SITE_BYTES}
use Rattle.site_file.specs.declared.place.SiteKey.TheVariants as of_site
use Rattle.site_file.specs.declared.place.MemberKey.TheVariants as of_member
use Rattle.site_file.specs.declared.place.Place.{Place}
use Rattle.site_file.specs.declared.place.Place.TheVariants.{OfSite, OfMember}
use Rattle.site_file.specs.declared.fault.SiteFault.{SiteFault}
use Rattle.site_file.specs.declared.fault.SiteFault.TheVariants as fault
use Rattle.site_file.specs.declared.site.SiteMember.{SiteMember}
use Rattle.site_file.specs.declared.site.SiteFile.{SiteFile}
use Rattle.site_file.specs.Form.{IsHex, IsNumber, IsPath, IsAddress, AreAddresses, HasLength, most_proxies}
use Rattle.site_file.specs.Place.{value_at, is_known, MaySayAt, IsThere}
use Rattle.site_file.specs.Site.{IsMemberSaid, IsSaidBy, SaysSite}
use Rattle.site_file.specs.Fault.{IsUnknown, IsMissing, IsBad, IsBadProxies, IsOtherCount, HaveSamePeer, IsInDocument, IsWhyIn, IsWhy}
use Rattle.site_file.specs.Laws.{RefusedSaysNone}
use Rattle.site_file.proofs.MemberLemmas.{got_at}
use Rattle.site_file.proofs.OneLemmas.{address_same, length_same, said_by, says_one, says_number, says_nothing}

-- a member that is there
record IsMemberOf (m : ℕ) (document : Members) (file : SiteFile) : Type 0 where
  member : SiteMember
  got : slice_get file.members.items m ≡ Some member
  is : IsMemberSaid m document member

member_there : (m : ℕ) (document : Members) (file : SiteFile) → IsSaidBy document file → IsThere (Some m) document → IsMemberOf m document file
member_there m document file said there =
    let same : there.0 ≡ length file.members.items = says_one HasLength length_same (OfSite of_site.Member) document there.0 (length file.members.items) there.1 said.count in
    let got = got_at file.members.items m (omega (arith, same, there.2)) in
    record { member = got.0; got = got.1; is = said.members.each m got.0 got.1 }

both : (m : Option ℕ) (name : List ℕ) → is_known m name ≡ true → is_known m name ≡ false → ⊥
both m name known unknown = cc (sym known ∙ unknown)

unknown : (m : Option ℕ) (name : List ℕ) (document : Members) (file : SiteFile) → IsUnknown m name document → IsSaidBy document file → ⊥
unknown None name document file w said = both None name (said.known w.table name w.there w.key) w.unknown
unknown (Some m) name document file w said = both (Some m) name ((member_there m document file said w.member).is.known w.table name w.there w.key) w.unknown

missing : (place : Place) (document : Members) (file : SiteFile) → IsMissing place document → IsSaidBy document file → ⊥
missing (OfSite of_site.Site) document file w said = says_nothing (IsHex SITE_BYTES) (OfSite of_site.Site) document file.site w.nothing said.site
missing (OfSite of_site.U) document file w said = says_nothing (IsNumber 0 MOST_U) (OfSite of_site.U) document file.u w.nothing said.u
missing (OfSite of_site.Proxies) document file w said = says_nothing (IsNumber 1 (most_proxies file.u)) (OfSite of_site.Proxies) document file.proxies w.nothing said.proxies
missing (OfSite of_site.Key) document file w said = says_nothing IsPath (OfSite of_site.Key) document (string_bytes file.key) w.nothing said.key
missing (OfSite of_site.ParcelMib) document file w said = says_nothing (IsNumber 1 MOST_PARCEL_MIB) (OfSite of_site.ParcelMib) document file.parcel_mib w.nothing said.parcel_mib
missing (OfSite of_site.Member) document file w said = says_nothing HasLength (OfSite of_site.Member) document (length file.members.items) w.nothing said.count
missing (OfMember m of_member.Peer) document file w said =
    let there = member_there m document file said w.member in
    says_nothing IsAddress (OfMember m of_member.Peer) document there.member.peer w.nothing there.is.peer
missing (OfMember m of_member.Listen) document file w said =
    let there = member_there m document file said w.member in
    says_nothing AreAddresses (OfMember m of_member.Listen) document there.member.listen.items w.nothing there.is.listen
missing (OfMember m of_member.Status) document file w said = cc w.required

may_say : (place : Place) (document : Members) (address : Option SocketAddr) (value : Data) → value_at place document ≡ Some value → MaySayAt place IsAddress document address
    → (a : SocketAddr) × IsAddress value a
may_say place document None value there h = absurd (none-some value (sym h ∙ there))
may_say place document (Some a) value there h = (a, said_by IsAddress place document a value there h)

bad : (place : Place) (document : Members) (file : SiteFile) → IsBad place document → IsSaidBy document file → ⊥
bad (OfSite of_site.Site) document file w said = w.unfit (file.site, said_by (IsHex SITE_BYTES) (OfSite of_site.Site) document file.site w.value w.there said.site)
bad (OfSite of_site.U) document file w said = w.unfit (file.u, said_by (IsNumber 0 MOST_U) (OfSite of_site.U) document file.u w.value w.there said.u)
bad (OfSite of_site.Proxies) document file w said =
    w.unfit (file.u, file.proxies, said_by (IsNumber 1 (most_proxies file.u)) (OfSite of_site.Proxies) document file.proxies w.value w.there said.proxies)
bad (OfSite of_site.Key) document file w said = w.unfit (string_bytes file.key, said_by IsPath (OfSite of_site.Key) document (string_bytes file.key) w.value w.there said.key)
bad (OfSite of_site.ParcelMib) document file w said =
    w.unfit (file.parcel_mib, said_by (IsNumber 1 MOST_PARCEL_MIB) (OfSite of_site.ParcelMib) document file.parcel_mib w.value w.there said.parcel_mib)
bad (OfSite of_site.Member) document file w said =
    w.unfit (length file.members.items, said_by HasLength (OfSite of_site.Member) document (length file.members.items) w.value w.there said.count)
bad (OfMember m of_member.Peer) document file w said =
    let there = member_there m document file said w.member in
    w.unfit (there.member.peer, said_by IsAddress (OfMember m of_member.Peer) document there.member.peer w.value w.there there.is.peer)
bad (OfMember m of_member.Listen) document file w said =
    let there = member_there m document file said w.member in
    w.unfit (there.member.listen.items, said_by AreAddresses (OfMember m of_member.Listen) document there.member.listen.items w.value w.there there.is.listen)
bad (OfMember m of_member.Status) document file w said =
    let there = member_there m document file said w.member in
    w.unfit (may_say (OfMember m of_member.Status) document there.member.status w.value w.there there.is.status)

bad_proxies : (u : ℕ) (document : Members) (file : SiteFile) → IsBadProxies u document → IsSaidBy document file → ⊥
bad_proxies u document file w said =
    let same : file.u ≡ u = says_number _ _ _ _ (OfSite of_site.U) document file.u u said.u w.u_is in
    let is = said_by (IsNumber 1 (most_proxies file.u)) (OfSite of_site.Proxies) document file.proxies w.value w.there said.proxies in
    w.unfit file.proxies (subst (λ (k : ℕ). IsNumber 1 (most_proxies k) w.value file.proxies) same is)

other_count : (u members : ℕ) (document : Members) (file : SiteFile) → IsOtherCount u members document → IsSaidBy document file → ⊥
other_count u members document file w said =
    let same : file.u ≡ u = says_number _ _ _ _ (OfSite of_site.U) document file.u u said.u w.u_is in
    let count : length file.members.items ≡ members = says_one HasLength length_same (OfSite of_site.Member) document (length file.members.items) members said.count w.count in
    w.other (sym count ∙ (said.whole ∙ ap (λ (k : ℕ). 2 * k + 1) same))

same_peer : (m n : ℕ) (document : Members) (file : SiteFile) → HaveSamePeer m n document → IsSaidBy document file → ⊥
same_peer m n document file w said =
    let there = w.member in
    let less : m < there.0 = omega (arith, w.apart, there.2) in
    let one = member_there m document file said (there.0, there.1, less) in
    let other = member_there n document file said there in
    let at_one : one.member.peer ≡ w.address = says_one IsAddress address_same (OfMember m of_member.Peer) document one.member.peer w.address one.is.peer w.one in
    let at_other : w.address ≡ other.member.peer = says_one IsAddress address_same (OfMember n of_member.Peer) document w.address other.member.peer w.other other.is.peer in
    said.members.apart m n one.member other.member w.apart one.got other.got (at_one ∙ at_other)

refused_in : (why : SiteFault) (document : Members) (file : SiteFile) → why ≢ fault.NoMemory → IsWhyIn document why → IsSaidBy document file → ⊥
refused_in fault.NoMemory document file reason w said = reason refl
refused_in fault.TooLong document file reason w said = w
refused_in (fault.NotToml line e) document file reason w said = w
refused_in (fault.Unknown m name) document file reason w said = unknown m (string_bytes name) document file w said
refused_in (fault.Missing place) document file reason w said = missing place document file w said
refused_in (fault.Bad place) document file reason w said = bad place document file w said
refused_in (fault.BadProxies u) document file reason w said = bad_proxies u document file w said
refused_in (fault.MemberCount u members) document file reason w said = other_count u members document file w said
refused_in (fault.SamePeer m n) document file reason w said = same_peer m n document file w said

in_document : (text : List ℕ) (why : SiteFault) (file : SiteFile) → why ≢ fault.NoMemory → IsInDocument text why → SaysSite text file → ⊥
in_document text why file reason w says =
    refused_in why says.document file reason (subst (λ (document : Members). IsWhyIn document why) (same_Some w.document says.document (sym w.parsed ∙ says.parsed)) w.reason) says.said

pub refused_says_none : RefusedSaysNone
refused_says_none text fault.NoMemory file reason w says = reason refl
refused_says_none text fault.TooLong file reason w says = absurd (omega (arith, w, says.short))
refused_says_none text (fault.NotToml line e) file reason w says = none-some says.document (sym (w.1 says.utf8) ∙ says.parsed)
refused_says_none text (fault.Unknown m name) file reason w says = in_document text (fault.Unknown m name) file reason w says
refused_says_none text (fault.Missing place) file reason w says = in_document text (fault.Missing place) file reason w says
refused_says_none text (fault.Bad place) file reason w says = in_document text (fault.Bad place) file reason w says
refused_says_none text (fault.BadProxies u) file reason w says = in_document text (fault.BadProxies u) file reason w says
refused_says_none text (fault.MemberCount u members) file reason w says = in_document text (fault.MemberCount u members) file reason w says
refused_says_none text (fault.SamePeer m n) file reason w says = in_document text (fault.SamePeer m n) file reason w says

-- ---- what the reader has shown

pub why_of : (text : List ℕ) (why : SiteFault) → IsInDocument text why → IsWhy text why
why_of text fault.NoMemory w = tt
why_of text fault.TooLong w = absurd w.reason
why_of text (fault.NotToml line e) w = absurd w.reason
why_of text (fault.Unknown m name) w = w
why_of text (fault.Missing place) w = w
why_of text (fault.Bad place) w = w
why_of text (fault.BadProxies u) w = w
why_of text (fault.MemberCount u members) w = w
why_of text (fault.SamePeer m n) w = w
