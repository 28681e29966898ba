-- Members, one after the other.
use Rattle.std.proofs.Common.{◌≡◌, ◌≢◌, ◌⊎◌, inl, inr, ℕ, zero, suc, ◌<◌, List, [], ◌∷◌, ◌++◌, length, Some, refl, sym, ap, ◌∙◌, subst, arith}
use Rattle.std.specs.Prelude.{slice_get}
use Rattle.std.specs.declared.net.socket_addr.SocketAddr.{SocketAddr}
use Rattle.std.proofs.lemmas.Option.{same_Some, none-some, slice_get_within}
use Rattle.toml.specs.Data.{Members}
use Rattle.site_file.specs.declared.site.SiteMember.{SiteMember}
use Rattle.site_file.specs.Site.{IsMemberSaid, AreSiteMembers}

got_more : (xs : List SiteMember) (x y : SiteMember) (k : ℕ) → slice_get (xs ++ x ∷ []) k ≡ Some y → (slice_get xs k ≡ Some y) ⊎ ((k ≡ length xs) × (x ≡ y))
got_more [] x y zero e = inr (refl, same_Some x y e)
got_more [] x y (suc k) e = absurd (none-some y e)
got_more (z ∷ xs) x y zero e = inl e
got_more (z ∷ xs) x y (suc k) e = elim (got_more xs x y k e) [ inl h ↦ inl h | inr p ↦ inr (ap suc p.0, p.1) ]

abbrev its_peer : SiteMember → SocketAddr
its_peer member = member.peer

each_more : (document : Members) (members : List SiteMember) (member : SiteMember) → AreSiteMembers document members → IsMemberSaid (length members) document member
    → (m : ℕ) (found : SiteMember) → slice_get (members ++ member ∷ []) m ≡ Some found → IsMemberSaid m document found
each_more document members member are is m found e =
    elim (got_more members member found m e) [
      | inl h ↦ are.each m found h
      | inr p ↦ subst (λ n. IsMemberSaid n document found) (sym p.0) (subst (IsMemberSaid (length members) document) p.1 is)
    ]

apart_more : (document : Members) (members : List SiteMember) (member : SiteMember) → AreSiteMembers document members
    → ((k : ℕ) (other : SiteMember) → slice_get members k ≡ Some other → other.peer ≢ member.peer)
    → (m n : ℕ) (one other : SiteMember) → m < n → slice_get (members ++ member ∷ []) m ≡ Some one → slice_get (members ++ member ∷ []) n ≡ Some other → one.peer ≢ other.peer
apart_more document members member are new m n one other below a b =
    elim (got_more members member one m a) [
      | inl h ↦ elim (got_more members member other n b) [
        | inl k ↦ are.apart m n one other below h k
        | inr q ↦ λ same. new m one h (same ∙ ap its_peer (sym q.1))
      ]
      | inr p ↦ elim (got_more members member other n b) [
        | inl k ↦ (let less = slice_get_within members n other k in absurd (omega (arith, less, p.0, below)))
        | inr q ↦ absurd (omega (arith, p.0, q.0, below))
      ]
    ]

-- one member more is read
pub members_more : (document : Members) (members : List SiteMember) (member : SiteMember) → AreSiteMembers document members → IsMemberSaid (length members) document member
    → ((k : ℕ) (other : SiteMember) → slice_get members k ≡ Some other → other.peer ≢ member.peer) → AreSiteMembers document (members ++ member ∷ [])
members_more document members member are is new = record {
  each = each_more document members member are is;
  apart = apart_more document members member are new;
}

pub no_members_yet : (document : Members) (members : List SiteMember) → members ≡ [] → AreSiteMembers document members
no_members_yet document members e = subst (AreSiteMembers document) (sym e) (record {
  each = λ m found h. absurd (none-some found h);
  apart = λ m n one other below a b. absurd (none-some one a);
})

pub got_at : (xs : List SiteMember) (k : ℕ) → k < length xs → (x : SiteMember) × (slice_get xs k ≡ Some x)
got_at [] k less = absurd (omega (arith, less))
got_at (x ∷ xs) zero less = (x, refl)
got_at (x ∷ xs) (suc k) less = got_at xs k (omega (arith, less))
