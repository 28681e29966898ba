-- A text says one thing.
use Rattle.std.proofs.Common.{◌≡◌, ℕ, pos, List, [], ◌∷◌, length, Option, Some, None, Result, Ok, refl, sym, ap, ◌∙◌, subst, string_bytes}
use Rattle.std.specs.List.{AllZip}
use Rattle.std.specs.Net.Grammar.{IsSocketText}
use Rattle.std.specs.declared.net.socket_addr.SocketAddr.{SocketAddr}
use Rattle.std.proofs.NetLemmas.Theorems.{IsSocketText_unique}
use Rattle.std.proofs.lemmas.Option.{same_Some, none-some}
use Rattle.hex.specs.declared.error.FromHexError.{FromHexError}
use Rattle.hex.specs.Hex.{decode_sized}
use Rattle.toml.specs.Data.{Data, Items, Members}
use Rattle.site_file.specs.declared.limits.TheConstants.{SITE_BYTES}
use Rattle.site_file.specs.declared.place.SiteKey.TheVariants as of_site
use Rattle.site_file.specs.declared.place.MemberKey.TheVariants as of_member
use Rattle.site_file.specs.declared.place.Place.{Place}
use Rattle.site_file.specs.declared.place.Place.TheVariants.{OfSite, OfMember}
use Rattle.site_file.specs.declared.site.SiteMember.{SiteMember}
use Rattle.site_file.specs.declared.site.SiteFile.{SiteFile}
use Rattle.site_file.specs.Form.{IsHex, IsNumber, IsPath, IsAddress, AreAddresses, HasLength, list_of}
use Rattle.site_file.specs.Place.{value_at, SaysAt, MaySayAt}
use Rattle.site_file.specs.Site.{IsMemberSaid, IsSaidBy}
use Rattle.site_file.specs.Laws.{AreSameMember, AreSameFile, SaysOne}

hex_ok : (a b : List ℕ) → ◌≡◌ {A = Result (List ℕ) FromHexError} (Ok a) (Ok b) → a ≡ b
hex_ok a b e = cc e

pos_is : (a b : ℕ) → pos a ≡ pos b → a ≡ b
pos_is a b e = cc e

-- ---- forms

hex_same : (n : ℕ) (value : Data) (a b : List ℕ) → IsHex n value a → IsHex n value b → a ≡ b
hex_same n value a b h k = hex_ok a b (sym h.2 ∙ (ap (λ (t : List ℕ). decode_sized t n) (same_Some h.0 k.0 (sym h.1 ∙ k.1)) ∙ k.2))

number_same : (least most low high : ℕ) (value : Data) (a b : ℕ) → IsNumber least most value a → IsNumber low high value b → a ≡ b
number_same least most low high value a b h k = pos_is a b (same_Some (pos a) (pos b) (sym h.is ∙ k.is))

path_same : (value : Data) (a b : List ℕ) → IsPath value a → IsPath value b → a ≡ b
path_same value a b h k = same_Some a b (sym h.0 ∙ k.0)

pub address_same : (value : Data) (a b : SocketAddr) → IsAddress value a → IsAddress value b → a ≡ b
address_same value a b h k = IsSocketText_unique k.0 a b (subst (λ (t : List ℕ). IsSocketText t a) (same_Some h.0 k.0 (sym h.1 ∙ k.1)) h.2) k.2

zip_same : (ds : List Data) (a b : List SocketAddr) → AllZip IsAddress ds a → AllZip IsAddress ds b → a ≡ b
zip_same [] [] [] h k = refl
zip_same [] [] (y ∷ b) h k = absurd k
zip_same [] (x ∷ a) b h k = absurd h
zip_same (d ∷ ds) [] b h k = absurd h
zip_same (d ∷ ds) (x ∷ a) [] h k = absurd k
zip_same (d ∷ ds) (x ∷ a) (y ∷ b) h k =
    let head : x ≡ y = address_same d x y h.0 k.0 in
    let tail : a ≡ b = zip_same ds a b h.1 k.1 in
    λ i. head i ∷ tail i

addresses_same : (value : Data) (a b : List SocketAddr) → AreAddresses value a → AreAddresses value b → a ≡ b
addresses_same value a b h k =
    zip_same (list_of k.items) a b (subst (λ (items : Items). AllZip IsAddress (list_of items) a) (same_Some h.items k.items (sym h.is ∙ k.is)) h.each) k.each

pub length_same : (value : Data) (m n : ℕ) → HasLength value m → HasLength value n → m ≡ n
length_same value m n h k = sym h.long ∙ (ap (λ (items : Items). length (list_of items)) (same_Some h.items k.items (sym h.is ∙ k.is)) ∙ k.long)

-- ---- places

-- what a place says is said by the value that is there
pub said_by : {X : Type 0} (Form : Data → X → Type 0) (place : Place) (document : Members) (x : X) (value : Data) → value_at place document ≡ Some value → SaysAt place Form document x → Form value x
said_by Form place document x value there h = subst (λ (v : Data). Form v x) (same_Some h.value value (sym h.there ∙ there)) h.says

pub says_one : {X : Type 0} (Form : Data → X → Type 0) → ((value : Data) (a b : X) → Form value a → Form value b → a ≡ b)
    → (place : Place) (document : Members) (a b : X) → SaysAt place Form document a → SaysAt place Form document b → a ≡ b
says_one Form one place document a b h k = one k.value a b (said_by Form place document a k.value k.there h) k.says

pub says_number : (least most low high : ℕ) (place : Place) (document : Members) (a b : ℕ) → SaysAt place (IsNumber least most) document a → SaysAt place (IsNumber low high) document b → a ≡ b
says_number least most low high place document a b h k =
    number_same least most low high k.value a b (said_by (IsNumber least most) place document a k.value k.there h) k.says

pub says_nothing : {X : Type 0} (Form : Data → X → Type 0) (place : Place) (document : Members) (x : X) → value_at place document ≡ None → SaysAt place Form document x → ⊥
says_nothing Form place document x none h = none-some h.value (sym none ∙ h.there)

may_say_one : (place : Place) (document : Members) (a b : Option SocketAddr) → MaySayAt place IsAddress document a → MaySayAt place IsAddress document b → a ≡ b
may_say_one place document None None h k = refl
may_say_one place document None (Some y) h k = absurd (says_nothing IsAddress place document y h k)
may_say_one place document (Some x) None h k = absurd (says_nothing IsAddress place document x k h)
may_say_one place document (Some x) (Some y) h k = ap Some (says_one IsAddress address_same place document x y h k)

-- ---- a site

member_same : (m : ℕ) (document : Members) (a b : SiteMember) → IsMemberSaid m document a → IsMemberSaid m document b → AreSameMember a b
member_same m document a b h k = record {
  peer = says_one IsAddress address_same (OfMember m of_member.Peer) document a.peer b.peer h.peer k.peer;
  listen = says_one AreAddresses addresses_same (OfMember m of_member.Listen) document a.listen.items b.listen.items h.listen k.listen;
  status = may_say_one (OfMember m of_member.Status) document a.status b.status h.status k.status;
}

file_same : (document : Members) (one other : SiteFile) → IsSaidBy document one → IsSaidBy document other → AreSameFile one other
file_same document one other h k = record {
  site = says_one (IsHex SITE_BYTES) (hex_same SITE_BYTES) (OfSite of_site.Site) document one.site other.site h.site k.site;
  u = says_number _ _ _ _ (OfSite of_site.U) document one.u other.u h.u k.u;
  proxies = says_number _ _ _ _ (OfSite of_site.Proxies) document one.proxies other.proxies h.proxies k.proxies;
  key = says_one IsPath path_same (OfSite of_site.Key) document (string_bytes one.key) (string_bytes other.key) h.key k.key;
  parcel_mib = says_number _ _ _ _ (OfSite of_site.ParcelMib) document one.parcel_mib other.parcel_mib h.parcel_mib k.parcel_mib;
  count = says_one HasLength length_same (OfSite of_site.Member) document (length one.members.items) (length other.members.items) h.count k.count;
  members = λ m a b p q. member_same m document a b (h.members.each m a p) (k.members.each m b q);
}

pub says_same : SaysOne
says_same text one other h k =
    file_same k.document one other (subst (λ (document : Members). IsSaidBy document one) (same_Some h.document k.document (sym h.parsed ∙ k.parsed)) h.said) k.said
