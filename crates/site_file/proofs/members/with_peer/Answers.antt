use Rattle.std.proofs.Common.{◌≡◌, ◌≢◌, ℕ, true, length, Some, refl, sym, ap, ◌∙◌, arith, below_more}
use Rattle.std.specs.Prelude.{slice_get}
use Rattle.std.specs.declared.net.socket_addr.SocketAddr.{SocketAddr}
use Rattle.std.proofs.lemmas.Option.{same_Some, slice_get_read, slice_get_within}
use Rattle.site_file.specs.declared.site.SiteMember.{SiteMember}
use Rattle.site_file.proofs.members.with_peer.Goals as goal

its_peer : SiteMember → SocketAddr
its_peer member = member.peer

pub loop-at-preserved : goal.loop-at-preserved
unfolding its_peer
loop-at-preserved c =
    let item = c.index-members-at.result in
    let got : slice_get c.args.members.now c.loop-at.at ≡ Some item = slice_get_read c.args.members.now (length c.args.members.now) c.loop-at.at item refl c.loop-at-test.true c.index-members-at.is in
    below_more (λ (k : ℕ). (member : SiteMember) → slice_get c.args.members.now k ≡ Some member → member.peer ≢ c.args.peer.now) c.loop-at.at c.loop-at.invariant
    (λ found e same.
    let is : item ≡ found = same_Some item found (sym got ∙ e) in
    let yes' : c.are_same.result ≡ true = c.are_same.ensures.1 (ap its_peer is ∙ same) in
    cc (sym yes' ∙ c.if-are_same.false))

pub returns-then-are_same-clause-some : goal.returns-then-are_same-clause-some
returns-then-are_same-clause-some c =
    let item = c.index-members-at.result in
    (item, slice_get_read c.args.members.now (length c.args.members.now) c.loop-at.at item refl c.loop-at-test.true c.index-members-at.is, c.are_same.ensures.0 c.if-are_same.true)

pub returns-clause-none : goal.returns-clause-none
returns-clause-none c = λ k member e.
    let less = slice_get_within c.args.members.now k member e in
    c.loop-at.invariant k (omega (arith, less)) member e
