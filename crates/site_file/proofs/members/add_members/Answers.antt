use Rattle.std.proofs.Common.{◌≡◌, ℕ, ◌+◌, List, length, Some, refl, sym, ap, subst, ◌∙◌, arith}
use Rattle.std.specs.Prelude.{slice_get}
use Rattle.site_file.specs.declared.site.SiteMember.{SiteMember}
use Rattle.std.proofs.lemmas.List.{length_push}
use Rattle.std.proofs.lemmas.Option.{slice_get_within}
use Rattle.toml.specs.View.{table_view}
use Rattle.std.specs.declared.net.socket_addr.SocketAddr.{SocketAddr}
use Rattle.site_file.specs.declared.place.MemberKey.TheVariants as of_member
use Rattle.site_file.specs.declared.place.Place.TheVariants.{OfMember}
use Rattle.site_file.specs.Form.{IsAddress}
use Rattle.site_file.specs.Place.{SaysAt}
use Rattle.site_file.specs.Site.{IsMemberSaid, AreSiteMembers}
use Rattle.site_file.proofs.MemberLemmas.{members_more, no_members_yet}
use Rattle.site_file.proofs.members.add_members.Goals as goal

pub loop-at-init : goal.loop-at-init
loop-at-init c = record { are = no_members_yet (table_view c.args.document.now) c.args.members.now.items c.requires.none; count = rw (c.requires.none) refl }

pub read_member-requires : goal.read_member-requires
read_member-requires c = (c.args.count, c.requires.count, c.loop-at-test.true)

pub returns-in-Some-clause-err : goal.returns-in-Some-clause-err
returns-in-Some-clause-err c =
    let document = table_view c.args.document.now in
    let found = c.in-Some.ensures.some in
    let got : slice_get c.loop-at.members.items c.in-Some.other ≡ Some found.0 = ap (λ (xs : List SiteMember). slice_get xs c.in-Some.other) (sym c.as_slice.ensures.value) ∙ found.1 in
    let before = slice_get_within c.loop-at.members.items c.in-Some.other found.0 got in
    record {
      member = (c.args.count, c.requires.count, c.loop-at-test.true);
      apart = omega (arith, before, c.loop-at.invariant.count);
      address = c.in_ok-member.member.peer;
      one = subst (λ (a : SocketAddr). SaysAt (OfMember c.in-Some.other of_member.Peer) IsAddress document a) found.2 (c.loop-at.invariant.are.each c.in-Some.other found.0 got).peer;
      other = c.in_ok-member.ensures.ok.peer;
    }

pub loop-at-preserved : goal.loop-at-preserved
loop-at-preserved c =
    let document = table_view c.args.document.now in
    let member = c.in_ok-member.member in
    let members = c.loop-at.members.items in
    let is : IsMemberSaid (length members) document member = subst (λ (n : ℕ). IsMemberSaid n document member) (sym c.loop-at.invariant.count) c.in_ok-member.ensures.ok in
    record {
      are = subst (AreSiteMembers document) (sym c.in_ok-push.ensures.items) (members_more document members member c.loop-at.invariant.are is
          (λ k other e. c.in_default.ensures.none k other (ap (λ (xs : List SiteMember). slice_get xs k) c.as_slice.ensures.value ∙ e)));
      count = ap length c.in_ok-push.ensures.items ∙ (length_push members member ∙ ap (λ n. n + 1) c.loop-at.invariant.count);
    }
